use Rattle.std.proofs.Common.{◌+◌, ◌∙◌, arith}
use Rattle.bp_cow.proofs.SlotLaws.{run_word-covered}
use Rattle.bp_cow.proofs.copies.store_covered.Goals as goal

pub returns-clause-words : goal.returns-clause-words
returns-clause-words g c slot old low =
    c.store_block.ensures.words slot low
    ∙ c.set_slots.ensures.laid slot (omega arith) low
    ∙ run_word-covered c.args.run.now (c.args.first + slot) _ old (omega (arith, c.requires.begun)) (omega (arith, c.requires.not_ended, low))
