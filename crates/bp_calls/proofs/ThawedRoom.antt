-- The blocks and the room of a change whose blocks of the snapshot are thawed first: what is asked of both together is
-- enough for each.
use Rattle.std.proofs.Common.{◌≡◌, ◌⊎◌, ℕ, ◌+◌, ◌/◌, ◌<◌, ◌≤◌, List, [], ◌∷◌, ◌++◌, length, true, sym, ◌∙◌, ap, subst, arith, inl, inr}
use Rattle.std.proofs.lemmas.Bool.{cases_eq}
use Rattle.std.proofs.lemmas.List.{length-append}
use Rattle.bp_calls.proofs.TakenBlocks.{in_members, members_apart, of_members}
use Rattle.bp_calls.specs.Mounted.{IsMounted}
use Rattle.bp_calls.specs.Space.{HasRoomWhereFree, LacksBlocks, LacksSpace}
use Rattle.bp_calls.specs.ThawsFor.{HasRoomToThaw, ThawsFor, thaw_count}
use Rattle.bp_calls.proofs.ThawedParts.{nothing_in_snapshot, room_thawed, thaws_none}
use Rattle.bp_changes.proofs.ShapeLaws.{IsOfReached}
use Rattle.bp_changes.specs.Performs.{room_for}
use Rattle.bp_free.specs.Set.{has, members}
use Rattle.bp_free.specs.declared.parts.NoSpace.{NoSpace}
use Rattle.bp_free.specs.declared.parts.Parts.{Parts}
use Rattle.bp_layout.specs.Members.{Has}
use Rattle.bp_layout.specs.Reached.{IsFreeBlock}
use Rattle.bp_layout.proofs.MemberLaws.{apart-within, has-after, has-prefix}
use Rattle.bp_layout.specs.Need.{Change, need}
use Rattle.bp_layout.specs.Thaw.{full_need, targets}
use Rattle.bp_layout.specs.WordPaths.{WordPath}
use Rattle.bp_layout.specs.Words.{Image}
use Rattle.bp_changes.specs.Sets.{in_snapshot_of}
use Rattle.bp_thaw.specs.Prefixes.{IsWayIn}
use Rattle.pm_region.specs.Memory.{Memory, current_words, room_in}

-- ---- members of a set

has_or : (xs : List ℕ) (b : ℕ) → Has xs b ⊎ (Has xs b → ⊥)
has_or [] b = inr (λ never. never)
has_or (x ∷ xs) b = go (cases_eq x b) (has_or xs b)
  where
    go : (x ≡ b) ⊎ (x ≡ b → ⊥) → Has xs b ⊎ (Has xs b → ⊥) → Has (x ∷ xs) b ⊎ (Has (x ∷ xs) b → ⊥)
    go (inl e) rest = inl (inl e)
    go (inr other) (inl later) = inl (inr later)
    go (inr other) (inr none) = inr (λ found. elim found [ inl e ↦ other e | inr later ↦ none later ])

module _ {R : Type 0} (memory : R → Memory) (change : Change) (more : ℕ) (old : Parts R) (needs : need (current_words (memory old.region)) change ≡ more) (room : HasRoomWhereFree (memory old.region) (in_snapshot_of old) old.free_blocks change) where
  abbrev image : Image
  image = current_words (memory old.region)

  abbrev ways : List WordPath
  ways = targets image change

  full_is : full_need image (in_snapshot_of old) change ≡ thaw_count memory ways old + more
  full_is = omega (arith, needs)

  pub room_to_thaw : HasRoomToThaw memory ways old more
  room_to_thaw enough = subst (λ n. room_for n ≤ room_in (memory old.region)) full_is (room (subst (λ n. n ≤ length (members old.free_blocks)) (sym full_is) enough))

  pub lacks_all : (lacks : NoSpace) → LacksBlocks image (in_snapshot_of old) (thaw_count memory ways old + more) lacks → LacksSpace image (in_snapshot_of old) change lacks
  lacks_all lacks has = record { needed = full_is ∙ has.needed; free = has.free; fewer = has.fewer }

  module _ (mounted : IsMounted image old) (of : IsOfReached image change) where
    -- after the thaw there is room for all but its two barriers
    pub room_left : (new : Parts R) → ThawsFor memory ways old new → thaw_count memory ways old + more ≤ length (members old.free_blocks) → room_for more ≤ room_in (memory new.region) + 2
    room_left new done enough =
        let fits = room_to_thaw enough in
        let left = room_thawed memory change old new mounted of done in
        omega (arith, fits, left, done.thaws.number)

    -- and as many blocks are free as it takes then
    pub enough_left : (new : Parts R) → ThawsFor memory ways old new → thaw_count memory ways old + more ≤ length (members old.free_blocks) → more ≤ length (members new.free_blocks)
    enough_left new done enough =
        let all : length (members old.free_blocks) ≤ length (done.thaws.taken ++ members new.free_blocks) = apart-within (members old.free_blocks) (done.thaws.taken ++ members new.free_blocks) (members_apart old.free_blocks) inside in
        let long = length-append done.thaws.taken (members new.free_blocks) in
        omega (arith, all, enough, done.thaws.number, long)
      where
        still : (b : ℕ) → has old.free_blocks b ≡ true → (Has done.thaws.taken b → ⊥) → has new.free_blocks b ≡ true
        still b is not =
            let free : IsFreeBlock image (in_snapshot_of old) b = mounted.exact.sets.free_blocks.free b is in
            done.thaws.free.all b (record {
              low = free.low;
              high = subst (λ n. b < n / 512) (sym done.thaws.shape.meaning.trees.whole) free.high;
              free = λ live. elim (done.thaws.live b live) [ inl was ↦ free.free was | inr took ↦ not took ];
              loose = free.loose;
            })

        inside : (b : ℕ) → Has (members old.free_blocks) b → Has (done.thaws.taken ++ members new.free_blocks) b
        inside b found = elim (has_or done.thaws.taken b) [
          | inl took ↦ has-prefix done.thaws.taken (members new.free_blocks) b took
          | inr not ↦ has-after done.thaws.taken (members new.free_blocks) b (in_members new.free_blocks b (still b (of_members old.free_blocks b found) not))
        ]

    -- where nothing is in the snapshot
    module _ (none : length (members old.snapshot_blocks) ≡ 0) where
      pub nothing : thaw_count memory ways old ≡ 0
      nothing = ap length (nothing_in_snapshot memory ways old mounted none)

      pub room_unthawed : more ≤ length (members old.free_blocks) → room_for more ≤ room_in (memory old.region)
      room_unthawed enough = let fits = room_to_thaw (omega (arith, nothing, enough)) in omega (arith, fits, nothing)

      pub unthawed : ((path : WordPath) → Has ways path → IsWayIn image path) → 2 ≤ room_in (memory old.region) → ThawsFor memory ways old old
      unthawed are some = thaws_none memory ways old mounted are some none
