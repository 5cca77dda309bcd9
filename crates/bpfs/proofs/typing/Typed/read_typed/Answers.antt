use Rattle.std.proofs.Common.{◌≡◌, true, take, rules}
use Rattle.bpfs.proofs.HelpLaws.{fails_reading, reads_past_more}
use Rattle.bpfs.specs.Typing.{help_line}
use Rattle.bpfs.proofs.typing.Typed.read_typed.Goals as goal

pub returns-in_err-count-2-clause-bytes : goal.returns-in_err-count-2-clause-bytes
returns-in_err-count-2-clause-bytes g c =
    let begins : c.args.self.now.begins_line ≡ true = search rules in
    let past = c.loop-helps.invariant.bytes in
    let is_help : take c.loop-helps.count c.loop-helps.into ≡ help_line = search rules in
    reads_past_more _ _ _ _ _ _ c.read_piece-in-loop-helps.new.into _ begins past is_help
    (fails_reading _ _ _ _ c.from_residual-in_err-count-2.ensures.0 c.in_err-count-2.ensures.bytes)

pub loop-helps-preserved : goal.loop-helps-preserved
loop-helps-preserved g c =
    let begins : c.args.self.now.begins_line ≡ true = search rules in
    let is_help : take c.loop-helps.count c.loop-helps.into ≡ help_line = search rules in
    record {
      count = search rules;
      bytes = reads_past_more _ _ _ _ _ _ _ _ begins c.loop-helps.invariant.bytes is_help (search rules);
      faults = search rules;
      prompts = search rules;
      begins = search rules;
    }
