use Rattle.std.proofs.Common.{arith, subst, sym, ◌-◌}
use Rattle.bp_layout.specs.Whole.{HasSpace}
use Rattle.bp_layout.specs.Totals.{HasLive}
use Rattle.pm_region.specs.Memory.{current_words}
use Rattle.bp_layout.specs.Words.{Image}
use Rattle.bp_roles.specs.Seen.{seen}
use Rattle.bp_volume.proofs.SpaceLaws.{live_counted, some_live, space_counted}
use Rattle.bp_volume.proofs.ViewLaws.{served_is}
use Rattle.bp_volume.proofs.volume.Volume.space.Goals as goal

pub overflow_sub-live : goal.overflow_sub-live
overflow_sub-live g c =
    omega (arith, some_live _ c.self.invariant.volume.well_formed.first _ _ _ c.self.invariant.volume.snapshot_blocks c.self.invariant.volume.exact.sets, c.room.ensures, c.count-free.ensures)

pub overflow_sub-live-2 : goal.overflow_sub-live-2
overflow_sub-live-2 g c =
    omega (arith, some_live _ c.self.invariant.volume.well_formed.first _ _ _ c.self.invariant.volume.snapshot_blocks c.self.invariant.volume.exact.sets, c.room.ensures, c.count-free.ensures)

pub returns-clause-free : goal.returns-clause-free
returns-clause-free g c =
    subst (λ (image : Image). HasSpace image c.count-free.result) (served_is c.self.inside.parts.region _ c.self.invariant.roles c.self.view_is)
    (subst (λ n. HasSpace (current_words (seen c.self.inside.parts.region)) n) (sym c.count-free.ensures)
    (space_counted _ c.self.invariant.volume.well_formed.first c.self.inside.parts.snapshot_blocks c.self.inside.parts.free_blocks c.self.inside.parts.free_inodes c.self.invariant.volume.snapshot_blocks c.self.invariant.volume.exact.sets))

pub returns-clause-live : goal.returns-clause-live
returns-clause-live g c =
    subst (λ (image : Image). HasLive image (c.room.result - c.count-free.result - 1)) (served_is c.self.inside.parts.region _ c.self.invariant.roles c.self.view_is)
    (live_counted _ c.self.invariant.volume.well_formed.first c.self.inside.parts.snapshot_blocks c.self.inside.parts.free_blocks c.self.inside.parts.free_inodes c.self.invariant.volume.snapshot_blocks c.self.invariant.volume.exact.sets _
    (omega (arith, some_live _ c.self.invariant.volume.well_formed.first c.self.inside.parts.snapshot_blocks c.self.inside.parts.free_blocks c.self.inside.parts.free_inodes c.self.invariant.volume.snapshot_blocks c.self.invariant.volume.exact.sets, c.room.ensures, c.count-free.ensures)))
