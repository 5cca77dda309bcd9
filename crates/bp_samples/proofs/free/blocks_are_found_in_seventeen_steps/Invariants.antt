use Rattle.bp_samples.proofs.free.blocks_are_found_in_seventeen_steps.Given as goal

abbrev pub ghosts-take_counting : goal.ghosts-take_counting
ghosts-take_counting g a = record { name = a.blank.name; parts = a.blank.parts }
