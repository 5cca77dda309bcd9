-- The stores of a new inode.
use Rattle.std.proofs.Common.{◌≡◌, ◌≢◌, ◌⊎◌, ℕ, ◌+◌, ◌-◌, ◌*◌, ◌/◌, ◌<◌, ◌≤◌, [], ◌∷◌, length, inl, inr, sym, ◌∙◌, ap, subst, arith}
use Rattle.std.proofs.lemmas.Bool.{cases_eq}
use Rattle.bp_limits.specs.Limits.{attribute_field, attributes, inode_fields}
use Rattle.bp_limits.specs.declared.version.Version.{Version}
use Rattle.bp_limits.proofs.Versions.{fields_least, fields_most}
use Rattle.pm_epochs.specs.declared.event.Event.TheVariants.{Store}
use Rattle.pm_epochs.specs.May.{AnyAt}
use Rattle.pm_region.specs.Memory.{Memory, current_words, Adds}
use Rattle.pm_region.specs.Safe.{AddsMay}
use Rattle.pm_region.proofs.MayLaws.{may_frame, may_more, may_one, may_store, may_twice, may_weaker}
use Rattle.pm_region.proofs.MemoryLaws.{length-current_words}
use Rattle.bp_layout.specs.Formatted.{version_of}
use Rattle.bp_layout.specs.Free.{IsFreeInode}
use Rattle.bp_layout.specs.Inode.{ContentStandsAt, root_of}
use Rattle.bp_layout.specs.Reached.IsReached.{inode_file}
use Rattle.bp_layout.specs.Tree.{node}
use Rattle.bp_layout.specs.WellFormed.{IsWellFormed}
use Rattle.bp_layout.specs.Words.{block_count, height_of, word}
use Rattle.bp_read.specs.Within.{IsWithin}
use Rattle.bp_read.proofs.OneStore.{stored_here, stored_elsewhere, base_stays}
use Rattle.bp_read.specs.Filled.{AreClear, FillsInode, HasInodeAt}
use Rattle.bp_read.proofs.InodeWords.{leaf_pointer}

-- three words are 0 after a store of 0 to each
pub cleared : (old second third new : Memory) (first : ℕ) → first + 3 ≤ length old.base → Adds old second (Store first 0 ∷ []) → Adds second third (Store (first + 1) 0 ∷ []) → Adds third new (Store (first + 2) 0 ∷ []) →
    AreClear (current_words new) first attributes
cleared old second third new first in_range one two three k low = go (cases_eq k 0) (cases_eq k 1)
  where
    second_base : length second.base ≡ length old.base
    second_base = base_stays old second first 0 one

    third_base : length third.base ≡ length second.base
    third_base = base_stays second third (first + 1) 0 two

    go : (k ≡ 0) ⊎ (k ≢ 0) → (k ≡ 1) ⊎ (k ≢ 1) → word (current_words new) (first + k) ≡ 0
    go (inl e) _ =
        stored_elsewhere third new (first + 2) 0 three (first + k) (λ e2. omega (arith, e, e2))
        ∙ stored_elsewhere second third (first + 1) 0 two (first + k) (λ e2. omega (arith, e, e2))
        ∙ ap (λ p. word (current_words second) p) (let here : first + k ≡ first = omega (arith, e) in here)
        ∙ stored_here old second first 0 one (omega (arith, in_range))
    go (inr _) (inl e) =
        stored_elsewhere third new (first + 2) 0 three (first + k) (λ e2. omega (arith, e, e2))
        ∙ ap (λ j. word (current_words third) (first + j)) e
        ∙ stored_here second third (first + 1) 0 two (omega (arith, in_range, second_base))
    go (inr a) (inr b) =
        let e : k ≡ 2 = omega (arith, low, a, b) in
        ap (λ j. word (current_words new) (first + j)) e ∙ stored_here third new (first + 2) 0 three (omega (arith, in_range, second_base, third_base))

module _ (version : Version) (first second third fourth last : Memory) (place kind : ℕ) (in_range : place + inode_fields version ≤ length first.base)
    (one : Adds first second (Store place kind ∷ [])) (two : Adds second third (Store (place + 1) 0 ∷ [])) (three : Adds third fourth (Store (place + 2) 0 ∷ []))
    (clear : AddsMay (AnyAt (IsWithin (place + attribute_field) (inode_fields version - attribute_field))) 0 (inode_fields version - attribute_field) fourth last) where
  pub filled_stores : AddsMay (AnyAt (IsWithin place (inode_fields version))) 0 (inode_fields version) first last
  filled_stores =
      let May : ℕ → ℕ → Type 0 = AnyAt (IsWithin place (inode_fields version)) in
      let least = fields_least version in
      let three_stores : AddsMay May 0 3 first fourth =
      may_store May 0 2 first third fourth (place + 2) 0
      (may_store May 0 1 first second third (place + 1) 0
      (may_one May first second place kind (record { low = omega arith; high = omega (arith, least) }) one)
      (record { low = omega arith; high = omega (arith, least) }) two)
      (record { low = omega arith; high = omega (arith, least) }) three in
      let attributes_too = may_weaker (AnyAt (IsWithin (place + attribute_field) (inode_fields version - attribute_field))) May 0 (inode_fields version - attribute_field) fourth last
      (λ w v within. record { low = omega (arith, within.low); high = omega (arith, within.high, least) }) clear in
      may_more May 0 (3 + (inode_fields version - attribute_field)) 0 (inode_fields version) first last (omega arith) (omega (arith, least))
      (may_twice May 0 3 first 0 (inode_fields version - attribute_field) fourth last three_stores attributes_too)

  pub filled_inode : AreClear (current_words last) (place + attribute_field) (inode_fields version - attribute_field) → HasInodeAt version (current_words last) place kind
  filled_inode are_clear =
      let second_base = base_stays first second place kind one in
      let third_base = base_stays second third (place + 1) 0 two in
      let least = fields_least version in
      let before : (other : ℕ) → other < place + 3 → word (current_words last) other ≡ word (current_words fourth) other =
      λ other low. may_frame (AnyAt (IsWithin (place + attribute_field) (inode_fields version - attribute_field))) 0 (inode_fields version - attribute_field) fourth last clear other
      (λ v within. omega (arith, low, within.low)) in
      record {
        kind_is = before place (omega arith)
            ∙ stored_elsewhere third fourth (place + 2) 0 three place (λ e. omega (arith, e))
            ∙ stored_elsewhere second third (place + 1) 0 two place (λ e. omega (arith, e))
            ∙ stored_here first second place kind one (omega (arith, in_range, least));
        root = before (place + 1) (omega arith)
            ∙ stored_elsewhere third fourth (place + 2) 0 three (place + 1) (λ e. omega (arith, e))
            ∙ stored_here second third (place + 1) 0 two (omega (arith, in_range, second_base, least));
        size = before (place + 2) (omega arith)
            ∙ stored_here third fourth (place + 2) 0 three (omega (arith, in_range, second_base, third_base, least));
        attributes = λ f low high.
            let here : place + f ≡ place + attribute_field + (f - attribute_field) = omega (arith, low) in
            ap (λ p. word (current_words last) p) here ∙ are_clear (f - attribute_field) (omega (arith, low, high));
      }

-- the words of an inode lie in the memory
pub inode_in_range : (memory : Memory) → IsWellFormed (current_words memory) → (i place : ℕ) → IsFreeInode (current_words memory) i → ContentStandsAt (current_words memory) 0 (8 * i + 0) place → place + inode_fields (version_of (current_words memory)) ≤ length memory.base
inode_in_range memory wf i place free stands =
    let leaf : (8 * i + 0) / 512 ≡ i / 64 = omega arith in
    let low : node (current_words memory) (root_of (current_words memory) 0) (height_of (root_of (current_words memory) 0)) ((8 * i + 0) / 512) < block_count (current_words memory) =
    subst (λ l. node (current_words memory) (root_of (current_words memory) 0) (height_of (root_of (current_words memory) 0)) l < block_count (current_words memory)) (sym leaf)
    ((wf.sound 0 inode_file).in_range _ _ (leaf_pointer (current_words memory) i free.high)) in
    omega (arith, low, stands.at, wf.formatted.sized.whole, length-current_words memory, fields_most (version_of (current_words memory)))

-- the first word of an inode stands at its place
pub first_word : (memory : Memory) (i place : ℕ) → ContentStandsAt (current_words memory) 0 (8 * i + 0) place → ContentStandsAt (current_words memory) 0 (8 * i) place
first_word memory i place stands = let same : 8 * i + 0 ≡ 8 * i = omega arith in subst (λ k. ContentStandsAt (current_words memory) 0 k place) same stands

-- the stores fill an inode of the image's version
pub fills : (version : Version) (old new : Memory) (i place kind : ℕ) → version ≡ version_of (current_words old) → ContentStandsAt (current_words old) 0 (8 * i) place →
    AddsMay (AnyAt (IsWithin place (inode_fields version))) 0 (inode_fields version) old new → HasInodeAt version (current_words new) place kind → FillsInode old new i kind
fills version old new i place kind same stands stores inode = record {
  place = place;
  stands = stands;
  stores = subst (λ v. AddsMay (AnyAt (IsWithin place (inode_fields v))) 0 (inode_fields v) old new) same stores;
  inode = subst (λ v. HasInodeAt v (current_words new) place kind) same inode;
}
