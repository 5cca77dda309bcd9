-- A change before which blocks of the snapshot are thawed: what is known of it then, and the blocks and the room that
-- it has after the thaw.
use Rattle.std.proofs.Common.{◌≡◌, ℕ, ◌+◌, ◌<◌, ◌≤◌, List, length, refl, sym, ◌∙◌, subst, arith}
use Rattle.bp_calls.specs.Mounted.{IsMounted}
use Rattle.bp_calls.specs.Space.{HasRoomThawed, HasRoomWhereFree, LacksBlocks, LacksSpace}
use Rattle.bp_calls.specs.ThawedFor.{AreThawedFor}
use Rattle.bp_calls.specs.ThawsFor.{HasRoomToThaw, LacksBlocksToThaw, ThawsBefore, ThawsFor, thaw_count}
use Rattle.bp_calls.proofs.FreeCounts.{free_members}
use Rattle.bp_calls.proofs.ThawedParts.{thawed_clear}
use Rattle.bp_calls.proofs.ThawedRoom.{enough_left, lacks_all, nothing, room_left, room_to_thaw, room_unthawed, unthawed}
use Rattle.bp_changes.proofs.ShapeLaws.{IsOfReached, need-shape}
use Rattle.bp_changes.specs.Performs.{room_for}
use Rattle.bp_free.specs.Set.{members}
use Rattle.bp_free.specs.declared.parts.NoSpace.{NoSpace}
use Rattle.bp_free.specs.declared.parts.Parts.{Parts}
use Rattle.bp_layout.specs.Members.{Has}
use Rattle.bp_layout.specs.Need.{Change, need}
use Rattle.bp_layout.specs.Thaw.{targets}
use Rattle.bp_layout.specs.WordPaths.{WordPath}
use Rattle.bp_layout.specs.Words.{Image}
use Rattle.bp_changes.specs.Sets.{in_snapshot_of}
use Rattle.bp_thaw.specs.Prefixes.{IsWayIn}
use Rattle.pm_region.specs.Memory.{Memory, current_words, room_in}

module _ {R : Type 0} (memory : R → Memory) (change : Change) (more : ℕ) (old : Parts R) (needs : need (current_words (memory old.region)) change ≡ more)
    (room : HasRoomWhereFree (memory old.region) (in_snapshot_of old) old.free_blocks change) (mounted : IsMounted (current_words (memory old.region)) old)
    (of : IsOfReached (current_words (memory old.region)) change) (new : Parts R) (done : ThawsBefore memory old new change)
    (enough : thaw_count memory (targets (current_words (memory old.region)) change) old + more ≤ length (members old.free_blocks)) where
  -- the change takes as many blocks as before the thaw
  same_need : need (current_words (memory new.region)) change ≡ more
  same_need = need-shape (current_words (memory old.region)) (current_words (memory new.region)) mounted.well_formed done.thaws.shape change of ∙ needs

  -- the log has room for it
  pub has_room : HasRoomThawed (memory new.region) new.free_blocks change
  has_room _ =
      subst (λ n. room_for n ≤ room_in (memory new.region) + 2) (sym same_need) (room_left memory change more old needs room mounted of new done enough)

  -- and enough blocks are free
  pub has_enough : need (current_words (memory new.region)) change ≤ length (members new.free_blocks)
  has_enough = subst (λ n. n ≤ length (members new.free_blocks)) (sym same_need) (enough_left memory change more old needs room mounted of new done enough)

-- the change may be made over these parts, and takes `more` blocks besides those that are thawed
pub record IsPlanned {R : Type 0} (memory : R → Memory) (change : Change) (more : ℕ) (old : Parts R) : Type 0 where
  pub mounted : IsMounted (current_words (memory old.region)) old
  pub reached : IsOfReached (current_words (memory old.region)) change
  pub leads : (path : WordPath) → Has (targets (current_words (memory old.region)) change) path → IsWayIn (current_words (memory old.region)) path
  pub needs : need (current_words (memory old.region)) change ≡ more
  pub room : HasRoomWhereFree (memory old.region) (in_snapshot_of old) old.free_blocks change

module _ {R : Type 0} {memory : R → Memory} {change : Change} {more : ℕ} {old : Parts R} (plan : IsPlanned memory change more old) where
  abbrev image : Image
  image = current_words (memory old.region)

  -- ## Over ways that are those to its targets

  module _ {ways : List WordPath} (are : ways ≡ targets image change) where
    -- each of them leads in
    pub leads_in : (path : WordPath) → Has ways path → IsWayIn image path
    leads_in path found = plan.leads path (subst (λ (ps : List WordPath). Has ps path) are found)

    -- the log has room for the thaw and the change
    pub room_for_both : HasRoomToThaw memory ways old more
    room_for_both =
        subst (λ (ps : List WordPath). HasRoomToThaw memory ps old more) (sym are) (room_to_thaw memory change more old plan.needs plan.room)

    -- where both take more blocks than are free, the change lacks space
    pub lacks_both : (lacks : NoSpace) → LacksBlocksToThaw memory ways old more lacks → LacksSpace image (in_snapshot_of old) change lacks
    lacks_both lacks has =
        lacks_all memory change more old plan.needs plan.room lacks
        (subst (λ (ps : List WordPath). LacksBlocksToThaw memory ps old more lacks) are has)

    module _ {new : Parts R} (thaws : ThawsFor memory ways old new) where
      -- the thaw is the change's
      pub thaws_before : ThawsBefore memory old new change
      thaws_before = subst (λ (ps : List WordPath). ThawsFor memory ps old new) are thaws

      module _ (enough : thaw_count memory ways old + more ≤ length (members old.free_blocks)) where
        -- as many blocks were free as both take
        free_for_both : thaw_count memory (targets image change) old + more ≤ length (members old.free_blocks)
        free_for_both = subst (λ (ps : List WordPath). thaw_count memory ps old + more ≤ length (members old.free_blocks)) are enough

        -- so the log has room for the change
        pub room_past_end : room_for more ≤ room_in (memory new.region) + 2
        room_past_end = room_left memory change more old plan.needs plan.room plan.mounted plan.reached new thaws_before free_for_both

        -- enough blocks are free for it
        pub enough_after : more ≤ length (members new.free_blocks)
        enough_after = enough_left memory change more old plan.needs plan.room plan.mounted plan.reached new thaws_before free_for_both

        -- and nothing is left to thaw
        pub ready_after : AreThawedFor memory new change
        ready_after =
            let enough = has_enough memory change more old plan.needs plan.room plan.mounted plan.reached new thaws_before free_for_both in
            record {
              clear = thawed_clear memory change old new plan.mounted plan.reached thaws_before;
              enough = enough;
              room = has_room memory change more old plan.needs plan.room plan.mounted plan.reached new thaws_before free_for_both enough;
            }

  -- ## Where no block is in the snapshot

  module _ (none : length (members old.snapshot_blocks) ≡ 0) where
    -- nothing is thawed then
    nothing_thawed : thaw_count memory (targets image change) old ≡ 0
    nothing_thawed = nothing memory change more old plan.needs plan.room plan.mounted plan.reached none

    -- the change lacks space where it takes more blocks than are free
    pub lacks_unthawed : (lacks : NoSpace) → LacksBlocks image (in_snapshot_of old) more lacks → LacksSpace image (in_snapshot_of old) change lacks
    lacks_unthawed lacks has = lacks_both refl lacks (record { needed = omega (arith, nothing_thawed, has.needed); free = has.free; fewer = has.fewer })

    -- the same of a number of free blocks
    pub few_unthawed : (free : ℕ) → free ≡ length (members old.free_blocks) → free < more
        → LacksSpace image (in_snapshot_of old) change (record { need = more; free = free })
    few_unthawed free is fewer =
        let sets = plan.mounted.exact.sets in
        lacks_unthawed (record { need = more; free = free })
        (record { needed = refl; free = rw is (free_members image (in_snapshot_of old) old.free_blocks sets.free_blocks sets.block_room); fewer = fewer })

    module _ (enough : more ≤ length (members old.free_blocks)) where
      -- and else the log has room for it
      pub room_outside_snapshot : room_for more ≤ room_in (memory old.region)
      room_outside_snapshot = room_unthawed memory change more old plan.needs plan.room plan.mounted plan.reached none enough

      -- nothing has to be thawed before it
      pub thaws_unthawed : ThawsBefore memory old old change
      thaws_unthawed = unthawed memory change more old plan.needs plan.room plan.mounted plan.reached none plan.leads (omega (arith, room_outside_snapshot))

      -- and it is ready
      pub ready_unthawed : AreThawedFor memory old change
      ready_unthawed = ready_after refl thaws_unthawed (omega (arith, nothing_thawed, enough))
