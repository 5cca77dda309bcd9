use Rattle.std.proofs.Common.{◌≡◌, ap, arith}
use Rattle.pm_region.specs.Memory.{Memory}
use Rattle.bp_shell.proofs.play.perform.Goals as goal

pub report_play-requires : goal.report_play-requires
report_play-requires g c =
    let capacity : (g.M.StoredFileSystem.memory c.in_ok-system.system).capacity ≡ 524288 = ap (λ (m : Memory). m.capacity) c.in_ok-system.ensures.opened.2 in
    record { few = c.requires; roomy = omega (arith, capacity) }

pub returns-clause-plays : goal.returns-clause-plays
returns-clause-plays g c =
    let opened = c.in_ok-system.ensures.opened in
    c.report_play.ensures.plays _ opened.0 opened.1 opened.2

pub returns-clause-reason : goal.returns-clause-reason
returns-clause-reason g c = c.report_play.ensures.reason _

pub returns-clause-cause : goal.returns-clause-cause
returns-clause-cause g c = rw c.in_ok-system.ensures.cause.same (c.report_play.ensures.cause _)
