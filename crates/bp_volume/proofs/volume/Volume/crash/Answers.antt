use Rattle.std.proofs.Common.{true≢false, ◌∙◌, ◌*◌, ap, refl, subst, sym}
use Rattle.bp_roles.specs.Mounted.{KeepsRoles}
use Rattle.bp_roles.specs.Seen.{MemoryByRoles, seen}
use Rattle.bp_volume.proofs.CrashedLaws.{crashed_safe, crashed_file_system, blocks-crashed, crashed_shows, crashed_volume}
use Rattle.bp_volume.proofs.ViewLaws.{cached_safe, not_ok, on_err, cached_same, same_told, call_ends_below, crashed_below, crashed_keeps, kept_below, right_below, safe_below, shows_below}
use Rattle.bp_volume.proofs.volume.Volume.crash.Goals as goal

pub rescan-requires-clause-well_formed : goal.rescan-requires-clause-well_formed
rescan-requires-clause-well_formed g c = crashed_file_system _ _ _ c.self.invariant.volume _ (c.in_ok-kept.ensures.right.0 refl) _ c.in_ok-kept.ensures.left

pub rescan-requires-clause-blocks : goal.rescan-requires-clause-blocks
rescan-requires-clause-blocks g c = c.self.invariant.volume.exact.sets.block_room ∙ blocks-crashed _ _ _ c.self.invariant.volume _ (c.in_ok-kept.ensures.right.0 refl) _ c.in_ok-kept.ensures.left

pub rescan-requires-clause-inodes : goal.rescan-requires-clause-inodes
rescan-requires-clause-inodes g c = c.self.invariant.volume.exact.sets.inode_room ∙ ap (λ n. 64 * n) (blocks-crashed _ _ _ c.self.invariant.volume _ (c.in_ok-kept.ensures.right.0 refl) _ c.in_ok-kept.ensures.left)

pub rescan-requires-clause-counts : goal.rescan-requires-clause-counts
rescan-requires-clause-counts g c = c.self.invariant.volume.exact.count_room ∙ ap (λ n. 64 * n) (blocks-crashed _ _ _ c.self.invariant.volume _ (c.in_ok-kept.ensures.right.0 refl) _ c.in_ok-kept.ensures.left)

pub rescan-requires-clause-snapshot_blocks : goal.rescan-requires-clause-snapshot_blocks
rescan-requires-clause-snapshot_blocks g c = c.self.invariant.volume.exact.snapshot_room ∙ blocks-crashed _ _ _ c.self.invariant.volume _ (c.in_ok-kept.ensures.right.0 refl) _ c.in_ok-kept.ensures.left

pub rescan-requires-clause-pending : goal.rescan-requires-clause-pending
rescan-requires-clause-pending g c = c.self.invariant.volume.scans ∙ ap (λ n. 64 * n) (blocks-crashed _ _ _ c.self.invariant.volume _ (c.in_ok-kept.ensures.right.0 refl) _ c.in_ok-kept.ensures.left)

pub invariant_of-self-2 : goal.invariant_of-self-2
invariant_of-self-2 g c = record {
  roles = subst KeepsRoles (sym c.rescan.ensures.region) (crashed_keeps c.self.inside.parts.region _ refl _ c.self.invariant.roles _ c.in_ok-kept.ensures.left);
  volume = crashed_volume _ _ _ c.self.invariant.volume _ (c.in_ok-kept.ensures.right.0 refl) (seen c.rescan.new.parts.region) (ap seen c.rescan.ensures.region ∙ c.in_ok-kept.ensures.left) _ _
      c.rescan.ensures.snapshot_blocks c.rescan.ensures.exact c.rescan.ensures.pending;
  right = c.clear.ensures _;
}

pub invariant_of-self : goal.invariant_of-self
invariant_of-self g c = cached_same c.self.inside.parts _ _ _ c.self.invariant c.in_err-kept.ensures.err

pub returns-in_err-kept-clause-right : goal.returns-in_err-kept-clause-right
returns-in_err-kept-clause-right g c =
    not_ok c.from_residual.result c.from_residual.ensures.0
    (λ right. true≢false (sym ((right_below c.self.inside.parts.region c.args.self.now c.self.view_is c.args.choice.now.cut _ c.in_err-kept.ensures.right).1 right)))

pub returns-in_err-kept-clause-safe : goal.returns-in_err-kept-clause-safe
returns-in_err-kept-clause-safe g c = cached_safe _ _ _ (cached_same c.self.inside.parts _ _ _ c.self.invariant c.in_err-kept.ensures.err)

pub returns-in_err-kept-clause-err : goal.returns-in_err-kept-clause-err
returns-in_err-kept-clause-err g c =
    on_err c.from_residual.result
    (ap (λ (it : MemoryByRoles). it.memory) (same_told c.self.inside.parts.region _ c.self.invariant.roles.wide c.in_err-kept.ensures.err) ∙ c.self.view_is)

pub returns-clause-right : goal.returns-clause-right
returns-clause-right g c = right_below c.self.inside.parts.region c.args.self.now c.self.view_is c.args.choice.now.cut _ c.in_ok-kept.ensures.right

pub returns-clause-left : goal.returns-clause-left
returns-clause-left g c =
    crashed_below c.self.inside.parts.region c.args.self.now c.self.view_is c.args.choice.now.cut c.self.invariant.roles c.rescan.new.parts.region (ap seen c.rescan.ensures.region ∙ c.in_ok-kept.ensures.left)

pub returns-clause-kept : goal.returns-clause-kept
returns-clause-kept g c = c.in_ok-kept.ensures.kept ∙ kept_below c.self.inside.parts.region c.args.self.now c.self.view_is c.args.choice.now.cut

pub returns-clause-of : goal.returns-clause-of
returns-clause-of g c = c.in_ok-kept.ensures.of ∙ call_ends_below c.self.inside.parts.region c.args.self.now c.self.view_is c.args.choice.now.cut

pub returns-clause-shows : goal.returns-clause-shows
returns-clause-shows g c =
    shows_below c.self.inside.parts.region c.args.self.now c.self.view_is c.args.choice.now.cut c.self.invariant.roles c.rescan.new.parts.region (ap seen c.rescan.ensures.region ∙ c.in_ok-kept.ensures.left) c.in_ok-kept.kept.c
    (crashed_shows _ _ _ c.self.invariant.volume _ (c.in_ok-kept.ensures.right.0 refl) (seen c.rescan.new.parts.region) (ap seen c.rescan.ensures.region ∙ c.in_ok-kept.ensures.left) _ c.in_ok-kept.ensures.kept)

pub returns-clause-safe : goal.returns-clause-safe
returns-clause-safe g c =
    safe_below c.self.inside.parts.region c.args.self.now c.self.view_is c.args.choice.now.cut c.self.invariant.roles c.rescan.new.parts.region (ap seen c.rescan.ensures.region ∙ c.in_ok-kept.ensures.left)
    (crashed_safe _ _ _ c.self.invariant.volume _ (c.in_ok-kept.ensures.right.0 refl) (seen c.rescan.new.parts.region) (ap seen c.rescan.ensures.region ∙ c.in_ok-kept.ensures.left))
