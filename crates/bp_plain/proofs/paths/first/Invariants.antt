use Rattle.std.proofs.Common.{◌≡◌, drop}
use Rattle.bp_plain.specs.Plain.{first}
use Rattle.bp_plain.proofs.PathLaws.{refusals_of}
use Rattle.bp_plain.proofs.paths.first.Given as goal

abbrev pub invariant-loop-refusal : goal.invariant-loop-refusal
invariant-loop-refusal l = first (refusals_of (drop l.refusal-index l.refusals)) ≡ first (refusals_of l.refusals)
