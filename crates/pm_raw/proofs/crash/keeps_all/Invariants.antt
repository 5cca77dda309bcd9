use Rattle.std.proofs.Common.{◌≡◌, drop}
use Rattle.pm_raw.specs.Pieces.{all_kept}
use Rattle.pm_raw.proofs.crash.keeps_all.Given as goal

abbrev pub invariant-loop-keep : goal.invariant-loop-keep
invariant-loop-keep l = all_kept (drop l.keep-index l.mask) ≡ all_kept l.mask
