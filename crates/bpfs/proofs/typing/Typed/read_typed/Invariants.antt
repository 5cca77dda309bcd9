-- The last read gave these bytes, after lines `help` that were skipped.
use Rattle.std.proofs.Common.{◌≡◌, ◌≤◌, length, Ok}
use Rattle.bp_io.specs.declared.faults.Failed.{Failed}
use Rattle.bpfs.specs.Typing.{ReadsPastHelp}
use Rattle.bpfs.proofs.typing.Typed.read_typed.Given as goal

abbrev pub invariant-loop-helps : goal.invariant-loop-helps
invariant-loop-helps g l = record {
  count : l.count ≤ length l.into;
  bytes : ReadsPastHelp {E = Failed} l.fn.self.begins_line (g.S.Source.view l.fn.self.source).left
      (g.S.Source.view l.self.source).left (Ok l.count) l.into;
  faults : (g.S.Source.view l.self.source).faults ≡ (g.S.Source.view l.fn.self.source).faults;
  prompts : l.self.prompts ≡ l.fn.self.prompts;
  begins : l.self.begins_line ≡ l.fn.self.begins_line;
}
