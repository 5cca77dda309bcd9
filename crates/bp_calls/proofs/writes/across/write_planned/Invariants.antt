use Rattle.pm_region.specs.Memory.{current_words}
use Rattle.bp_calls.proofs.SizesWith.{sizes_with}
use Rattle.bp_calls.proofs.writes.across.write_planned.Given as goal

abbrev pub ghost-commit_at : goal.ghost-commit_at
ghost-commit_at g a = sizes_with (current_words (g.R.Region.memory a.parts.now.region)) a.touched.now
