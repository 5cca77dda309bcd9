-- Words of inodes are set to 0, step by step: one inode, some of them, and the barrier after them.
use Rattle.std.proofs.Common.{◌≡◌, ◌≢◌, ◌⊎◌, inl, inr, ℕ, ◌+◌, ◌-◌, ◌*◌, ◌<◌, ◌≤◌, List, [], ◌∷◌, ◌++◌, length, min, false, sym, ◌∙◌, ap, subst, arith}
use Rattle.std.proofs.lemmas.Bool.{cases_eq, cases_lt}
use Rattle.bp_limits.specs.CallLimits.{allows_attributes}
use Rattle.bp_layout.specs.Formatted.{version_of}
use Rattle.bp_layout.specs.Inode.{AreClearBelow, ContentStandsAt, inode_count, inode_word}
use Rattle.bp_layout.specs.Trees.{has_snapshot, snapshot_of}
use Rattle.bp_layout.specs.WellFormed.{IsWellFormed}
use Rattle.bp_layout.specs.Whole.{SameFiles}
use Rattle.bp_layout.specs.Words.{Image, word}
use Rattle.bp_layout.proofs.SameLaws.{same_symmetric, same_transitive}
use Rattle.pm_epochs.specs.Crash.{IsPartialEquivalence}
use Rattle.pm_epochs.specs.declared.event.Event.{Event}
use Rattle.pm_epochs.specs.declared.event.Event.TheVariants.{Barrier}
use Rattle.pm_epochs.specs.May.{EachMay}
use Rattle.pm_epochs.proofs.CrashLaws.{IsClosed-barrier, quiet-barrier}
use Rattle.pm_epochs.proofs.MayLaws.{StoresMay-append, quiet_may}
use Rattle.pm_epochs.proofs.PieceLaws.{IsPiece-append, IsPiece-barrier, IsPiece-more}
use Rattle.pm_region.specs.Memory.{Adds, Memory, current_words, room_in}
use Rattle.pm_region.specs.Safe.{AddsMay}
use Rattle.pm_region.proofs.MayLaws.{each_after, may_frame, may_more, may_twice, may_weaker, room_after_may}
use Rattle.pm_region.proofs.MemoryLaws.{adds_both, base-adds, current_words-adds}
use Rattle.bp_read.specs.Within.{IsWithin}
use Rattle.bp_calls.specs.Cleared.{ClearsFrom, ClearsInode, IsClearing}
use Rattle.bp_calls.proofs.ClearedImages.{cleared_agrees, cleared_count, cleared_files, cleared_well_formed, inode_stands, stands_after, stands_back, word_cleared, word_standing, zero_stays}

-- ---- both trees

files_symmetric : (old new : Image) → SameFiles old new → SameFiles new old
files_symmetric old new same = record {
  first = same_symmetric old new same.first;
  second = record {
    there = sym same.second.there;
    same = λ there. same_symmetric (snapshot_of old) (snapshot_of new) (same.second.same (sym same.second.there ∙ there));
  };
}

files_transitive : (one two three : Image) → SameFiles one two → SameFiles two three → SameFiles one three
files_transitive one two three a b = record {
  first = same_transitive one two three a.first b.first;
  second = record {
    there = b.second.there ∙ a.second.there;
    same = λ there. same_transitive (snapshot_of one) (snapshot_of two) (snapshot_of three) (a.second.same there) (b.second.same (a.second.there ∙ there));
  };
}

files_equivalence : IsPartialEquivalence SameFiles
files_equivalence = record { symmetric = files_symmetric; transitive = files_transitive }

-- ---- a part of a preparation

-- there are as many words as before
pub same_base : (May : ℕ → ℕ → Type 0) (most_barriers most_stores : ℕ) (old new : Memory) → AddsMay May most_barriers most_stores old new → length new.base ≡ length old.base
same_base May most_barriers most_stores old new part = ap length (base-adds old new part.added part.adds)

-- ---- one inode

-- a store of 0 at this place
abbrev pub IsZeroAt : ℕ → ℕ → ℕ → Type 0
IsZeroAt at place value = (place ≡ at) × (value ≡ 0)

-- a store of 0 at one of three places
abbrev IsZeroIn : ℕ → ℕ → ℕ → Type 0
IsZeroIn first place value = IsWithin first 3 place × (value ≡ 0)

module _ (old first second new : Memory) (i place : ℕ) (stands : ContentStandsAt (current_words old) 0 (8 * i + 3) place)
    (one : AddsMay (IsZeroAt place) 0 1 old first) (two : AddsMay (IsZeroAt (place + 1)) 0 1 first second) (three : AddsMay (IsZeroAt (place + 2)) 0 1 second new) where
  wider : (k : ℕ) → k < 3 → (before after : Memory) → AddsMay (IsZeroAt (place + k)) 0 1 before after → AddsMay (IsZeroIn place) 0 1 before after
  wider k few before after part =
      may_weaker (IsZeroAt (place + k)) (IsZeroIn place) 0 1 before after (λ at value is. (record { low = omega (arith, is.0); high = omega (arith, is.0, few) }, is.1)) part

  clear_stores : AddsMay (IsZeroIn place) 0 3 old new
  clear_stores =
      let here : place ≡ place + 0 = omega arith in
      may_twice (IsZeroIn place) 0 2 old 0 1 second new
      (may_twice (IsZeroIn place) 0 1 old 0 1 first second (wider 0 (omega arith) old first (subst (λ p. AddsMay (IsZeroAt p) 0 1 old first) here one)) (wider 1 (omega arith) first second two))
      (wider 2 (omega arith) second new three)

  pub clears_inode : word (current_words first) place ≡ 0 → word (current_words second) (place + 1) ≡ 0 → word (current_words new) (place + 2) ≡ 0 → ClearsInode old i new
  clears_inode zero_one zero_two zero_three = record {
    place = place;
    stands = stands;
    stores = clear_stores;
    cleared = λ k low. go k low (cases_eq k 0) (cases_eq k 1);
  }
    where
      go : (k : ℕ) → k < 3 → (k ≡ 0) ⊎ (k ≢ 0) → (k ≡ 1) ⊎ (k ≢ 1) → word (current_words new) (place + k) ≡ 0
      go k low (inl e) _ =
          may_frame (IsZeroAt (place + 2)) 0 1 second new three (place + k) (λ value at. omega (arith, e, at.0))
          ∙ may_frame (IsZeroAt (place + 1)) 0 1 first second two (place + k) (λ value at. omega (arith, e, at.0))
          ∙ ap (word (current_words first)) (let here : place + k ≡ place = omega (arith, e) in here)
          ∙ zero_one
      go k low (inr _) (inl e) =
          may_frame (IsZeroAt (place + 2)) 0 1 second new three (place + k) (λ value at. omega (arith, e, at.0))
          ∙ ap (λ j. word (current_words second) (place + j)) e
          ∙ zero_two
      go k low (inr a) (inr b) =
          let e : k ≡ 2 = omega (arith, low, a, b) in
          ap (λ j. word (current_words new) (place + j)) e ∙ zero_three

-- ---- some inodes

-- From one inode up to another these words are 0 now, and nothing else was done. At most `count` inodes are cleared.
pub record Clears (old : Memory) (first count to : ℕ) (now : Memory) : Type 0 where
  pub stores : AddsMay (IsClearing (current_words old) first count) 0 (3 * (to - first)) old now
  pub clear : (i k place : ℕ) → first ≤ i → i < to → k < 3 → ContentStandsAt (current_words old) 0 (8 * i + (3 + k)) place → word (current_words now) place ≡ 0

module _ (old : Memory) (first count : ℕ) (wf : IsWellFormed (current_words old)) (before : allows_attributes (version_of (current_words old)) ≡ false) where
  abbrev May : ℕ → ℕ → Type 0
  May = IsClearing (current_words old) first count

  module _ (to : ℕ) (now : Memory) (so_far : Clears old first count to now) where
    each : EachMay (IsClearing (current_words old) first count) (current_words old) (current_words now)
    each = each_after (IsClearing (current_words old) first count) 0 (3 * (to - first)) old now so_far.stores

    pub clears_well_formed : IsWellFormed (current_words now)
    clears_well_formed = cleared_well_formed (current_words old) (current_words now) wf before first count each

    pub clears_count : inode_count (current_words now) ≡ inode_count (current_words old)
    clears_count = cleared_count (current_words old) (current_words now) wf before first count each

    pub clears_room : room_in old ≤ room_in now + 3 * (to - first)
    clears_room = omega (arith, room_after_may (IsClearing (current_words old) first count) 0 (3 * (to - first)) old now so_far.stores)

    -- one more inode
    module _ (next : Memory) (from : first ≤ to) (few : to < first + count) (there : to < inode_count (current_words old)) (inode : ClearsInode now to next) where
      place_back : ContentStandsAt (current_words old) 0 (8 * to + 3) inode.place
      place_back = stands_back (current_words old) (current_words now) wf before first count each to 3 there (omega arith) inode.place inode.stands

      may_clear : (place value : ℕ) → IsZeroIn inode.place place value → IsClearing (current_words old) first count place value
      may_clear place value is =
          let here : inode.place + (place - inode.place) ≡ place = omega (arith, is.0.low) in
          let low : place - inode.place < 3 = omega (arith, is.0.low, is.0.high) in
          record {
            ino = to;
            number = place - inode.place;
            from = from;
            to = few;
            there = there;
            few = low;
            stands = subst (ContentStandsAt (current_words old) 0 (8 * to + (3 + (place - inode.place)))) here (stands_after (current_words old) to (place - inode.place) inode.place low place_back);
            zero = is.1;
          }

      zero_after : (place : ℕ) → word (current_words now) place ≡ 0 → word (current_words next) place ≡ 0
      zero_after place none = elim ((each_after (IsZeroIn inode.place) 0 3 now next inode.stores).each place) [
        | inl same ↦ same ∙ none
        | inr may ↦ may.1
      ]

      clear_more : (i k place : ℕ) → first ≤ i → i < to + 1 → k < 3 → ContentStandsAt (current_words old) 0 (8 * i + (3 + k)) place → (i ≡ to) ⊎ (i ≢ to) → word (current_words next) place ≡ 0
      clear_more i k place low high small stands (inl e) =
          let at = subst (λ j. ContentStandsAt (current_words old) 0 (8 * j + (3 + k)) place) e stands in
          let same : inode.place + k ≡ place = sym (stands_after (current_words old) to k inode.place small place_back).at ∙ at.at in
          ap (word (current_words next)) (sym same) ∙ inode.cleared k small
      clear_more i k place low high small stands (inr other) = zero_after place (so_far.clear i k place low (omega (arith, high, other)) small stands)

      pub clears_more : Clears old first count (to + 1) next
      clears_more =
          let bound : 3 * (to - first) + 3 ≤ 3 * (to + 1 - first) = omega (arith, from) in
          record {
            stores = may_more (IsClearing (current_words old) first count) (0 + 0) (3 * (to - first) + 3) 0 (3 * (to + 1 - first)) old next (omega arith) bound
                (may_twice (IsClearing (current_words old) first count) 0 (3 * (to - first)) old 0 3 now next so_far.stores
                (may_weaker (IsZeroIn inode.place) (IsClearing (current_words old) first count) 0 3 now next may_clear inode.stores));
            clear = λ i k place low high small stands. clear_more i k place low high small stands (cases_eq i to);
          }

    -- ---- and then a barrier

    module _ (new : Memory) (single : has_snapshot (current_words old) ≡ false) (from : first ≤ to) (few : to ≤ first + count) (ends : Adds now new (Barrier ∷ [])) where
      words : current_words new ≡ current_words now
      words = current_words-adds now new (Barrier ∷ []) ends

      abbrev added : List Event
      added = so_far.stores.added

      clear_below : AreClearBelow (current_words old) first → (i k : ℕ) → i < to → i < inode_count (current_words old) → k < 3 → inode_word (current_words now) i (3 + k) ≡ 0
      clear_below below i k high there small =
          let stands = inode_stands (current_words old) wf i (3 + k) there (omega (arith, small)) in
          word_cleared (current_words old) (current_words now) wf before first count each i (3 + k) there (omega (arith, small)) _ stands ∙ go stands (cases_lt i first)
        where
          go : {place : ℕ} → ContentStandsAt (current_words old) 0 (8 * i + (3 + k)) place → (i < first) ⊎ (first ≤ i) → word (current_words now) place ≡ 0
          go {place} stands (inl low) =
              zero_stays (current_words old) (current_words now) wf before first count each place
              (sym (word_standing (current_words old) (8 * i + (3 + k)) place stands) ∙ below i k low small)
          go {place} stands (inr low) = so_far.clear i k place low high small stands

      pub clears_from : min (first + count) (inode_count (current_words old)) ≤ to → ClearsFrom old first count new
      clears_from all = record {
        quiet = record {
          added = added ++ Barrier ∷ [];
          adds = adds_both old now new added (Barrier ∷ []) so_far.stores.adds ends;
          quiet = quiet-barrier SameFiles (current_words old) added
              (quiet_may SameFiles files_equivalence (IsClearing (current_words old) first count) (current_words old) added
              (λ image each. cleared_files (current_words old) image wf before first count each single) so_far.stores.may);
          closed = IsClosed-barrier added [] tt;
          piece = IsPiece-more (0 + 1) (3 * (to - first) + 0) 1 (3 * count) (added ++ Barrier ∷ []) (omega arith) (omega (arith, from, few))
              (IsPiece-append 0 (3 * (to - first)) 1 0 added (Barrier ∷ []) so_far.stores.piece IsPiece-barrier);
        };
        stores = StoresMay-append (IsClearing (current_words old) first count) added (Barrier ∷ []) so_far.stores.may tt;
        agrees = rw words (cleared_agrees (current_words old) (current_words now) wf before first count each);
        files = rw words (cleared_files (current_words old) (current_words now) wf before first count each single);
        clear = λ below i k low small.
            let high : i < min (first + count) (inode_count (current_words old)) = subst (λ n. i < min (first + count) n) (ap inode_count words ∙ clears_count) low in
            rw words (clear_below below i k (omega (arith, high, all)) (omega (arith, high)) small);
      }
