use Rattle.std.proofs.Common.{◌≡◌, true, arith, inl, inr, refl, subst}
use Rattle.bp_layout.specs.Clearing.{IsNextToClear}
use Rattle.bp_layout.specs.Formatted.{version_of}
use Rattle.bp_layout.specs.Inode.{AreClear}
use Rattle.bp_limits.specs.CallLimits.{allows_attributes}
use Rattle.bp_roles.specs.Seen.{seen}
use Rattle.pm_region.specs.Memory.{current_words}
use Rattle.bp_fs.specs.Called.{CanUpgrade}
use Rattle.bp_volume.proofs.ClearedLaws.{allows_if_not, can_if_before, step_refused}
use Rattle.bp_volume.proofs.ViewLaws.{served_is}
use Rattle.bp_volume.proofs.volume.Volume.clear_for_upgrade.Goals as goal

pub returns-in_err-is_before_three : goal.returns-in_err-is_before_three
returns-in_err-is_before_three g c =
    step_refused c.args.self.now _ (served_is c.self.inside.parts.region _ c.self.invariant.roles c.self.view_is) c.in_err-is_before_three.field-0.0 c.from_residual.result c.in_err-is_before_three.ensures c.from_residual.ensures.0 c.from_residual.ensures.1

pub returns-then-not-branch : goal.returns-then-not-branch
returns-then-not-branch g c = (
  refl,
  inl (subst (λ image. allows_attributes (version_of image) ≡ true) (served_is c.self.inside.parts.region _ c.self.invariant.roles c.self.view_is) (allows_if_not (current_words (seen c.self.inside.parts.region)) _ c.if-not-branch.true c.in_ok-is_before_three.ensures)),
)

pub clear_from-requires-clause-early : goal.clear_from-requires-clause-early
clear_from-requires-clause-early g c = (subst CanUpgrade (served_is c.self.inside.parts.region _ c.self.invariant.roles c.self.view_is) (can_if_before _ _ c.if-not-branch.false c.in_ok-is_before_three.ensures)).early

pub clear_from-requires-clause-single : goal.clear_from-requires-clause-single
clear_from-requires-clause-single g c = (subst CanUpgrade (served_is c.self.inside.parts.region _ c.self.invariant.roles c.self.view_is) (can_if_before _ _ c.if-not-branch.false c.in_ok-is_before_three.ensures)).single

pub returns-in-Some : goal.returns-in-Some
returns-in-Some g c = (
  subst CanUpgrade (served_is c.self.inside.parts.region _ c.self.invariant.roles c.self.view_is) (can_if_before _ _ c.if-not-branch.false c.in_ok-is_before_three.ensures),
  c.in-Some.first,
  subst (λ image. IsNextToClear image 0 c.in-Some.first) (served_is c.self.inside.parts.region _ c.self.invariant.roles c.self.view_is) c.in-Some.ensures.some,
  c.clear_from.ensures,
)

pub returns-in-None : goal.returns-in-None
returns-in-None g c = (
  refl,
  inr (
    subst CanUpgrade (served_is c.self.inside.parts.region _ c.self.invariant.roles c.self.view_is) (can_if_before _ _ c.if-not-branch.false c.in_ok-is_before_three.ensures),
    subst AreClear (served_is c.self.inside.parts.region _ c.self.invariant.roles c.self.view_is) (c.in-None.ensures.none (λ i k low few. absurd (omega (arith, low)))),
  ),
)
