use Rattle.std.proofs.Common.{ap, sym, refl, subst, ◌∙◌, ◌≡◌}
use Rattle.std.specs.Prelude.{IsOk}
use Rattle.std.proofs.lemmas.Bool.{false≢true}
use Rattle.std.proofs.lemmas.Result.{err_from_is_err_and}
use Rattle.pm_epochs.specs.Log.{call_ends}
use Rattle.pm_epochs.specs.Replay.{IsRight, kept_calls}
use Rattle.pm_region.specs.Memory.{crashed}
use Rattle.bp_roles.specs.Seen.{MemoryByRoles, IsWide, seen, seen_memory}
use Rattle.bp_roles.proofs.SeenLaws.{seen-crashed, seen-right, right-seen, seen-kept_calls, seen-call_ends, wide-crashed}
use Rattle.bp_roles.proofs.region.RegionByRolesRegion.crash_to.Goals as goal

pub returns-in_err-kept-clause-right : goal.returns-in_err-kept-clause-right
returns-in_err-kept-clause-right g c = (
  λ ok. absurd (false≢true (subst IsOk (err_from_is_err_and c.from_residual.result c.from_residual.ensures.1).1 ok)),
  λ right. absurd (false≢true (c.in_err-kept.ensures.right.1
      (right-seen c.self.inside.places (g.R.Region.memory c.self.inside.region).events c.args.choice.now.cut
      (subst (λ (r : MemoryByRoles). IsRight (seen r).events c.args.choice.now.cut) (sym c.self.view_is) right)))),
)

pub head_of-self-inside-requires : goal.head_of-self-inside-requires
head_of-self-inside-requires g c = subst IsWide (sym c.in_ok-kept.ensures.left) (wide-crashed (g.R.Region.memory c.self.inside.region) c.args.choice.now.cut c.self.invariant.0)

pub invariant_of-self-2 : goal.invariant_of-self-2
invariant_of-self-2 g c = (
  subst IsWide (sym c.in_ok-kept.ensures.left) (wide-crashed (g.R.Region.memory c.self.inside.region) c.args.choice.now.cut c.self.invariant.0),
  c.head_of-self-inside.ensures,
)

pub returns-clause-right : goal.returns-clause-right
returns-clause-right g c = (
  λ ok. subst (λ (r : MemoryByRoles). IsRight (seen r).events c.args.choice.now.cut) c.self.view_is
      (seen-right c.self.inside.places (g.R.Region.memory c.self.inside.region).events c.args.choice.now.cut (c.in_ok-kept.ensures.right.0 ok)),
  λ right. refl,
)

pub returns-clause-left : goal.returns-clause-left
returns-clause-left g c =
    subst (λ (r : MemoryByRoles). seen_memory c.self.inside.places (g.R.Region.memory c.crash_to.new.self) ≡ crashed (seen r) c.args.choice.now.cut) c.self.view_is
    (ap (seen_memory c.self.inside.places) c.in_ok-kept.ensures.left ∙ seen-crashed c.self.inside.places (g.R.Region.memory c.self.inside.region) c.args.choice.now.cut c.self.invariant.0)

pub returns-clause-kept : goal.returns-clause-kept
returns-clause-kept g c =
    subst (λ (r : MemoryByRoles). c.in_ok-kept.kept.c ≡ kept_calls (seen r).events c.args.choice.now.cut) c.self.view_is
    (c.in_ok-kept.ensures.kept ∙ sym (seen-kept_calls c.self.inside.places (g.R.Region.memory c.self.inside.region).events c.args.choice.now.cut))

pub returns-clause-of : goal.returns-clause-of
returns-clause-of g c =
    subst (λ (r : MemoryByRoles). c.in_ok-kept.kept.n ≡ call_ends (seen r).events) c.self.view_is
    (c.in_ok-kept.ensures.of ∙ sym (seen-call_ends c.self.inside.places (g.R.Region.memory c.self.inside.region).events))
