use Rattle.std.proofs.Common.{◌≡◌, ◌∙◌, Ok, arith, subst, sym, true}
use Rattle.std.specs.Prelude.{Err}
use Rattle.bp_layout.specs.Clearing.{IsNextToClear}
use Rattle.bp_layout.specs.Inode.{AreClear, AreClearBelow}
use Rattle.bp_roles.specs.Mounted.{SameDurable}
use Rattle.pm_region.specs.Safe.{IsSafe}
use Rattle.bp_fs.specs.Called.{CanUpgrade}
use Rattle.bp_volume.proofs.ClearedLaws.{HasCleared, can_go_on, can_if_before, cleared_end, cleared_more, cleared_none, clears_none, goes_on}
use Rattle.bp_volume.proofs.ViewLaws.{cached_safe, served_is}
use Rattle.bp_volume.proofs.volume.Volume.clear_all.Goals as goal
use Rattle.bp_volume.proofs.volume.Volume.clear_all.Goals.{in_default-via-in-Ok+else-is_before_three, in_default-via-in_default}

pub returns-in_default : goal.returns-in_default
returns-in_default g c =
    clears_none c.args.self.now _ (served_is c.self.inside.parts.region _ c.self.invariant.roles c.self.view_is) c.is_before_three.result (λ is. elim c.in_default.branch [
      | in_default-via-in-Ok+else-is_before_three w ↦ cc
      | in_default-via-in_default w ↦ let both : Ok true ≡ Err w.in_default.field-0 = sym is ∙ w.in_default.is in cc
    ]) c.is_before_three.ensures

pub loop-ino-init : goal.loop-ino-init
loop-ino-init g c =
    cleared_none c.args.self.now (subst (IsSafe SameDurable) c.self.view_is (cached_safe _ _ _ c.self.invariant))
    (subst CanUpgrade (served_is c.self.inside.parts.region _ c.self.invariant.roles c.self.view_is) (can_if_before _ _ c.in-Ok-true.field-0-test c.in-Ok-true.ensures))

pub clear_from-requires-clause-early : goal.clear_from-requires-clause-early
clear_from-requires-clause-early g c = (can_go_on _ _ _ c.loop-ino.invariant).early

pub clear_from-requires-clause-single : goal.clear_from-requires-clause-single
clear_from-requires-clause-single g c = (can_go_on _ _ _ c.loop-ino.invariant).single

pub loop-ino-smaller : goal.loop-ino-smaller
loop-ino-smaller g c = goes_on _ c.self-in-loop-ino.invariant.volume.well_formed.first c.loop-ino.first c.in-Some.ino _ c.in-Some.ensures.some c.saturating_add-first.ensures

pub loop-ino-preserved : goal.loop-ino-preserved
loop-ino-preserved g c =
    subst (λ memory. HasCleared c.args.self.now memory c.saturating_add-first.result) (sym c.sync.ensures.drained)
    (cleared_more _ _ _ c.loop-ino.invariant c.in-Some.ino
    (subst (λ image. IsNextToClear image c.loop-ino.first c.in-Some.ino) (served_is c.self-in-loop-ino.inside.parts.region _ c.self-in-loop-ino.invariant.roles c.self-in-loop-ino.view_is) c.in-Some.ensures.some)
    c.clear_from.new.self c.saturating_add-first.result c.clear_from.ensures (omega (arith, c.saturating_add-first.ensures)))

pub returns : goal.returns
returns g c =
    cleared_end _ _ _ c.loop-ino.invariant
    (subst (λ image. AreClearBelow image c.loop-ino.first → AreClear image) (served_is c.self-in-loop-ino.inside.parts.region _ c.self-in-loop-ino.invariant.roles c.self-in-loop-ino.view_is) c.in_default-next_to_clear.ensures.none)
