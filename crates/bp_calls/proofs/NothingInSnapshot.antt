-- Where nothing has to be thawed a call needs what its change needs, and what it does at once is what it does after a
-- thaw. So it is where no block is in the snapshot.
use Rattle.std.proofs.Common.{◌≡◌, ◌≤◌, [], length, refl, sym, ◌∙◌, ap, subst, arith}
use Rattle.bp_calls.specs.Mounted.{IsMounted}
use Rattle.bp_calls.specs.Space.{HasRoomThawed, HasRoomWhereFree, LacksBlocks, LacksSpace}
use Rattle.bp_calls.proofs.ThawedParts.{nothing_in_snapshot}
use Rattle.bp_changes.specs.Thawed.{AfterThaw, SameShape}
use Rattle.bp_changes.specs.Performs.{Performs, PerformsThawed}
use Rattle.bp_changes.proofs.PerformsLaws.{performs_unthawed}
use Rattle.bp_free.specs.Set.{members}
use Rattle.bp_free.specs.declared.parts.NoSpace.{NoSpace}
use Rattle.bp_free.specs.declared.parts.Parts.{Parts}
use Rattle.bp_layout.specs.Need.{Change, need}
use Rattle.bp_layout.specs.Thaw.{full_need, targets, thawed}
use Rattle.bp_layout.specs.WellFormed.{IsWellFormed}
use Rattle.bp_layout.specs.Words.{Image}
use Rattle.bp_changes.specs.Sets.{in_snapshot_of}
use Rattle.pm_region.specs.Memory.{Memory, current_words}

-- an image has its own shape
pub shape_self : (image : Image) → IsWellFormed image → SameShape image image
shape_self image wf = record {
  meaning = record {
    trees = record {
      whole = refl;
      has_magic = refl;
      counted = refl;
      low = wf.low;
      sound = wf.sound;
      apart = wf.apart;
      full_inode_file = wf.full_inode_file;
      full_directories = wf.full_directories;
    };
    kind = λ t r. refl;
    attributes = λ t r. refl;
    size = λ i r. refl;
    inode_blocks = wf.inode_blocks;
    inodes = omega arith;
    ino = λ i s r kind low. refl;
    entry = λ i s j f r n few. refl;
    bytes = λ i o r kind low. refl;
  };
  sizes = λ t r. refl;
  heights = λ t r. refl;
  present = λ t r n. refl;
}

pub clear_at_once : {R : Type 0} (memory : R → Memory) (change : Change) (old : Parts R) → IsMounted (current_words (memory old.region)) old → length (members old.snapshot_blocks) ≡ 0 →
    thawed (current_words (memory old.region)) (in_snapshot_of old) change ≡ []
clear_at_once memory change old mounted none = nothing_in_snapshot memory (targets (current_words (memory old.region)) change) old mounted none

module _ {R : Type 0} (memory : R → Memory) (change : Change) (old : Parts R) (mounted : IsMounted (current_words (memory old.region)) old) (clear : thawed (current_words (memory old.region)) (in_snapshot_of old) change ≡ []) where
  need_at_once : full_need (current_words (memory old.region)) (in_snapshot_of old) change ≡ need (current_words (memory old.region)) change
  need_at_once = omega (arith, ap length clear)

  pub room_at_once : HasRoomWhereFree (memory old.region) (in_snapshot_of old) old.free_blocks change → HasRoomThawed (memory old.region) old.free_blocks change
  room_at_once room enough =
      let fits = room (subst (λ n. n ≤ length (members old.free_blocks)) (sym need_at_once) enough) in
      omega (arith, fits, need_at_once)

  pub lacks_at_once : (lacks : NoSpace) → LacksBlocks (current_words (memory old.region)) (in_snapshot_of old) (need (current_words (memory old.region)) change) lacks →
      LacksSpace (current_words (memory old.region)) (in_snapshot_of old) change lacks
  lacks_at_once lacks has = record { needed = need_at_once ∙ has.needed; free = has.free; fewer = has.fewer }

  pub performed_at_once : (new : Memory) (Effect : Image → Image → Type 0) → PerformsThawed (in_snapshot_of old) (memory old.region) new change Effect →
      Performs (in_snapshot_of old) (memory old.region) new change (AfterThaw Effect)
  performed_at_once new Effect done =
      let same = shape_self (current_words (memory old.region)) mounted.well_formed in
      let all = performs_unthawed (in_snapshot_of old) (memory old.region) new change Effect clear done in
      record {
        value = all.value;
        commit = all.commit;
        taken = all.taken;
        takes = all.takes;
        number = all.number;
        in_open = all.in_open;
        well_formed = all.well_formed;
        effect = record { middle = current_words (memory old.region); thawed = same; effect = all.effect };
      }
