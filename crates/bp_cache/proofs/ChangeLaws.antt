-- When an index is right of a directory after a change, by the entries that keep their names: for the layers that make the
-- changes.
use Rattle.std.proofs.Common.{◌≡◌, ◌≢◌, ◌⊎◌, ℕ, ◌/◌, ◌<◌, nat_eq, Bool, None, Some, true, false, inl, inr, length, sym, ◌∙◌, ap, subst, arith}
use Rattle.std.specs.Bool.{OnTrue}
use Rattle.std.specs.HashMap.{get}
use Rattle.std.proofs.lemmas.Bool.{cases_eq, ne_eqb}
use Rattle.bp_layout.specs.Words.{Image}
use Rattle.bp_layout.specs.Directory.{ino_in, name_in}
use Rattle.bp_layout.specs.Paths.{Name}
use Rattle.bp_cache.specs.declared.index.Index.{Index}
use Rattle.bp_cache.specs.Entries.{HasName, KeepsName, KeepsNames}
use Rattle.bp_cache.specs.Hashes.{hash_of}
use Rattle.bp_cache.specs.Index.{EntersSlot, IsIndexed, IsIndexOf, KeepsIndexed, Leads, LeavesSlot}

-- ---- one entry

-- an entry that names the inode that it named, by the name that it had
pub keeps_same : (old : Image) (old_root : ℕ) (new : Image) (new_root slot : ℕ) → ino_in new new_root slot ≡ ino_in old old_root slot →
    (ino_in old old_root slot ≢ 0 → name_in new new_root slot ≡ name_in old old_root slot) → KeepsName old old_root new new_root slot
keeps_same old old_root new new_root slot ino name = record {
  live = λ live none. live (ino ∙ none);
  empty = λ none. sym ino ∙ none;
  name = λ live. name (λ none. live (ino ∙ none));
}

-- what an index describes an entry it describes one that keeps its name
pub indexed_kept : (old : Image) (old_root : ℕ) (new : Image) (new_root slot : ℕ) (index : Index) → KeepsName old old_root new new_root slot →
    IsIndexed old old_root slot index → IsIndexed new new_root slot index
indexed_kept old old_root new new_root slot index keeps is = record {
  room = is.room;
  named = λ live. subst (λ n. Leads index (hash_of n) slot) (sym (keeps.name live)) (is.named (keeps.live live));
  empty = λ none. is.empty (keeps.empty none);
}

-- what a call reports by true, of the same name
pub entered_as : (before after : Index) (name same : Name) (slot : ℕ) (reported : Bool) → OnTrue reported (EntersSlot before after name slot) → reported ≡ true → name ≡ same →
    EntersSlot before after same slot
entered_as before after name same slot true enters is spelled = subst (λ n. EntersSlot before after n slot) spelled enters
entered_as before after name same slot false enters is spelled = absurd (cc)

module _ (image : Image) (root : ℕ) (before after : Index) (name : Name) (slot : ℕ) where
  pub indexed_entered : EntersSlot before after name slot → HasName image root slot name → IsIndexed image root slot after
  indexed_entered enters has_name = record {
    room = omega (arith, enters.room, enters.empties.room);
    named = λ live. subst (λ n. Leads after (hash_of n) slot) (sym has_name.spelled) enters.names.leads;
    empty = λ none. absurd (has_name.live none);
  }

  pub indexed_left : LeavesSlot before after name slot → slot < length before.empties → ino_in image root slot ≡ 0 → IsIndexed image root slot after
  indexed_left leaves room none = record {
    room = omega (arith, room, leaves.room);
    named = λ live. absurd (live none);
    empty = λ _. (leaves.empties room).here;
  }

  pub others_entered : EntersSlot before after name slot → KeepsIndexed image root slot before after
  others_entered enters other apart is = record {
    room = omega (arith, is.room, enters.empties.room);
    named = λ live. enters.names.kept _ other (is.named live);
    empty = λ none. enters.empties.others other apart ∙ is.empty none;
  }

  pub others_left : LeavesSlot before after name slot → Leads before (hash_of name) slot → slot < length before.empties → KeepsIndexed image root slot before after
  others_left leaves led room other apart is = record {
    room = omega (arith, is.room, leaves.room);
    named = λ live. leaves.names.kept led _ other (λ _. apart) (is.named live);
    empty = λ none. (leaves.empties room).others other apart ∙ is.empty none;
  }

-- ---- a directory

module _ (old : Image) (old_root old_size : ℕ) (new : Image) (new_root new_size : ℕ) (before : Index) (right : IsIndexOf old old_root old_size before) where
  -- no entry is touched
  pub right_kept : KeepsNames old old_root old_size new new_root new_size (λ _. ⊥) → IsIndexOf new new_root new_size before
  right_kept keeps = record {
    each = λ slot live. indexed_kept old old_root new new_root slot before (keeps.keeps slot live (λ never. never)) (right.each slot (keeps.live slot live (λ never. never)));
  }

  module _ (name : Name) (slot : ℕ) (after : Index) where
    -- a name comes to a slot that was empty, or lies after the last
    pub right_entered : KeepsNames old old_root old_size new new_root new_size (λ touched. touched ≡ slot) → EntersSlot before after name slot →
        HasName new new_root slot name → IsIndexOf new new_root new_size after
    right_entered keeps enters has_name = record { each = λ other live. go other live (cases_eq other slot) }
      where
        go : (other : ℕ) → other < new_size / 256 → (other ≡ slot) ⊎ (other ≡ slot → ⊥) → IsIndexed new new_root other after
        go other live (inl here) = subst (λ s. IsIndexed new new_root s after) (sym here) (indexed_entered new new_root before after name slot enters has_name)
        go other live (inr apart) =
            others_entered new new_root before after name slot enters other apart
            (indexed_kept old old_root new new_root other before (keeps.keeps other live apart) (right.each other (keeps.live other live apart)))

    -- what the index records of a slot with a name
    reported : slot < old_size / 256 → HasName old old_root slot name → Leads before (hash_of name) slot
    reported live has_name = subst (λ n. Leads before (hash_of n) slot) has_name.spelled ((right.each slot live).named has_name.live)

    -- the other entries are reported still when a name leaves
    others_reported : slot < old_size / 256 → HasName old old_root slot name → LeavesSlot before after name slot →
        (other : ℕ) → other ≢ slot → other < old_size / 256 → KeepsName old old_root new new_root other → IsIndexed new new_root other after
    others_reported live has_name leaves other apart was keeps =
        others_left new new_root before after name slot leaves (reported live has_name) (right.each slot live).room other apart
        (indexed_kept old old_root new new_root other before keeps (right.each other was))

    -- a name leaves its slot, which is empty then
    pub right_left : KeepsNames old old_root old_size new new_root new_size (λ touched. touched ≡ slot) → slot < old_size / 256 → HasName old old_root slot name →
        LeavesSlot before after name slot → ino_in new new_root slot ≡ 0 → IsIndexOf new new_root new_size after
    right_left keeps was has_name leaves none = record { each = λ other live. go other live (cases_eq other slot) }
      where
        go : (other : ℕ) → other < new_size / 256 → (other ≡ slot) ⊎ (other ≡ slot → ⊥) → IsIndexed new new_root other after
        go other live (inl here) = subst (λ s. IsIndexed new new_root s after) (sym here) (indexed_left new new_root before after name slot leaves (right.each slot was).room none)
        go other live (inr apart) = others_reported was has_name leaves other apart (keeps.live other live apart) (keeps.keeps other live apart)

    module _ (spelled : Name) (last : Index) where
      -- the entry in a slot is spelled again
      pub right_respelled : KeepsNames old old_root old_size new new_root new_size (λ touched. touched ≡ slot) → slot < old_size / 256 → HasName old old_root slot name →
          LeavesSlot before after name slot → EntersSlot after last spelled slot → HasName new new_root slot spelled → IsIndexOf new new_root new_size last
      right_respelled keeps was has_name leaves enters has_new = record { each = λ other live. go other live (cases_eq other slot) }
        where
          go : (other : ℕ) → other < new_size / 256 → (other ≡ slot) ⊎ (other ≡ slot → ⊥) → IsIndexed new new_root other last
          go other live (inl here) = subst (λ s. IsIndexed new new_root s last) (sym here) (indexed_entered new new_root after last spelled slot enters has_new)
          go other live (inr apart) =
              others_entered new new_root after last spelled slot enters other apart
              (others_reported was has_name leaves other apart (keeps.live other live apart) (keeps.keeps other live apart))

      -- the entry in a slot moves to another one of the same directory, under any name
      pub right_moved : (target : ℕ) → target ≢ slot → KeepsNames old old_root old_size new new_root new_size (λ touched. (touched ≡ slot) ⊎ (touched ≡ target)) →
          slot < old_size / 256 → HasName old old_root slot name → LeavesSlot before after name slot → ino_in new new_root slot ≡ 0 →
          EntersSlot after last spelled target → HasName new new_root target spelled → IsIndexOf new new_root new_size last
      right_moved target apart_slots keeps was has_name leaves none enters has_new = record { each = λ other live. go other live (cases_eq other slot) (cases_eq other target) }
        where
          untouched : (other : ℕ) → (other ≡ slot → ⊥) → (other ≡ target → ⊥) → (other ≡ slot) ⊎ (other ≡ target) → ⊥
          untouched other apart beside (inl here) = apart here
          untouched other apart beside (inr there) = beside there

          go : (other : ℕ) → other < new_size / 256 → (other ≡ slot) ⊎ (other ≡ slot → ⊥) → (other ≡ target) ⊎ (other ≡ target → ⊥) → IsIndexed new new_root other last
          go other live _ (inl there) = subst (λ s. IsIndexed new new_root s last) (sym there) (indexed_entered new new_root after last spelled target enters has_new)
          go other live (inl here) (inr beside) =
              others_entered new new_root after last spelled target enters other beside
              (subst (λ s. IsIndexed new new_root s after) (sym here) (indexed_left new new_root before after name slot leaves (right.each slot was).room none))
          go other live (inr apart) (inr beside) =
              others_entered new new_root after last spelled target enters other beside
              (others_reported was has_name leaves other apart (keeps.live other live (untouched other apart beside)) (keeps.keeps other live (untouched other apart beside)))
