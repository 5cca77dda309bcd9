use Rattle.bp_calls.proofs.AttributeWords.{none_setting}
use Rattle.bp_calls.proofs.InWord.{none_writing}
use Rattle.bp_calls.proofs.Leaving.{none_leaving}
use Rattle.bp_calls.proofs.Shorter.{none_shrinking}
use Rattle.bp_calls.proofs.laws.changes_in_place_need_no_block.Goals as goal

pub returns : goal.returns
returns c = record {
  leaves = λ i s j can. none_leaving c.args.image.now c.requires i s j can.reached can.entry;
  shorter = none_shrinking c.args.image.now c.requires;
  in_word = none_writing c.args.image.now c.requires;
  attribute = λ i number reached few. none_setting c.args.image.now c.requires i number reached few;
}
