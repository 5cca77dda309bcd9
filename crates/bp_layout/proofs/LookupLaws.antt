-- What a directory shows at a name, stated by its entries.
use Rattle.std.proofs.Common.{◌≡◌, ◌≢◌, ◌⊎◌, ℕ, zero, suc, ◌+◌, ◌<◌, ◌≤◌, Bool, true, false, not, ◌&&◌, ◌==◌, Option, None, Some, find, bytes_eq, refl, sym, ◌∙◌, ap, arith, true≢false, inl, inr}
use Rattle.std.specs.Option.{option_map}
use Rattle.std.specs.List.{range_with_len}
use Rattle.std.proofs.lemmas.Bool.{eqb-true, cases_eq}
use Rattle.std.proofs.lemmas.Slice.Eq.{bytes_eq-Decides}
use Rattle.std.specs.Cmp.Lexicographic.{same_text}
use Rattle.bp_layout.specs.Words.{Image}
use Rattle.bp_layout.specs.Inode.{kind_of}
use Rattle.bp_layout.specs.Directory.{EntryNames, name_at, ino_at, entry_count, is_named, slot_named, lookup_in}
use Rattle.bp_layout.specs.Paths.{Name}
use Rattle.bp_layout.proofs.Finding.{Finds, find-passes}
use Rattle.bp_layout.proofs.View.{named_true}

-- an entry of directory i that has this name
pub record Shows (image : Image) (i : ℕ) (name : Name) (j : ℕ) : Type 0 where
  pub slot : ℕ
  pub entry : EntryNames image i slot j
  pub spelled : name_at image i slot ≡ name

pub lookup_in-shows : (image : Image) (i j : ℕ) (name : Name) → lookup_in image i name ≡ Some j → Shows image i name j
lookup_in-shows image i j name e = go (kind_of image i == 2) refl
  where
    at_slot : kind_of image i ≡ 2 → (found : Option ℕ) → slot_named image i name ≡ found → option_map (ino_at image i) found ≡ Some j → Shows image i name j
    at_slot kind None f is = absurd (cc)
    at_slot kind (Some slot) f is =
        let passes : Finds (is_named image i name) 0 (entry_count image i) slot = find-passes _ 0 _ slot f in
        let ino : ino_at image i slot ≡ j = cc in
        let parts : (ino_at image i slot ≢ 0) × (bytes_eq (name_at image i slot) name ≡ true) = named_true _ _ passes.passes in
        record {
          slot = slot;
          entry = record { directory = kind; in_size = omega (arith, passes.high); ino = ino; not_empty = λ none. parts.0 (ino ∙ none) };
          spelled = same_text _ _ (sym parts.1);
        }

    go : (b : Bool) → (kind_of image i == 2) ≡ b → Shows image i name j
    go true at = at_slot (eqb-true _ _ at) (slot_named image i name) refl (rw at at e)
    go false at = let none : ◌≡◌ {A = Option ℕ} None (Some j) = rw at at e in absurd (cc)

-- at a directory, what is found passes, and where nothing is found nothing passes
find-none : (p : ℕ → Bool) (a n k : ℕ) → find p (range_with_len a n) ≡ None → a ≤ k → k < a + n → p k ≡ false
find-none p a zero k e low high = absurd (omega arith)
find-none p a (suc n) k e low high = go (λ r. find-none p (a + 1) n k r) (p a) refl (cases_eq a k)
  where
    go : (find p (range_with_len (a + 1) n) ≡ None → a + 1 ≤ k → k < a + 1 + n → p k ≡ false) → (b : Bool) → p a ≡ b → (a ≡ k) ⊎ (a ≡ k → ⊥) → p k ≡ false
    go rest true at which = let some : ◌≡◌ {A = Option ℕ} (Some a) None = rw at at e in absurd (cc)
    go rest false at (inl here) = ap p (sym here) ∙ at
    go rest false at (inr later) = rest (rw at at e) (omega arith) (omega arith)

named_from : (a : ℕ) (b : Bool) → a ≢ 0 → b ≡ true → not (a == 0) && b ≡ true
named_from a b not_empty also = go (a == 0) refl
  where
    go : (c : Bool) → (a == 0) ≡ c → not (a == 0) && b ≡ true
    go true at = absurd (not_empty (eqb-true _ _ at))
    go false at = rw at also

pub is_named-true : (image : Image) (i slot j : ℕ) (name : Name) → EntryNames image i slot j → name_at image i slot ≡ name → is_named image i name slot ≡ true
is_named-true image i slot j name names spelled =
    named_from _ _ (λ none. names.not_empty (sym names.ino ∙ none)) ((bytes_eq-Decides (name_at image i slot) name).1 spelled)

pub lookup_in-found : (image : Image) (i j : ℕ) (name : Name) → (shows : Shows image i name j) →
    ((r k : ℕ) → EntryNames image i r k → name_at image i r ≡ name → r ≡ shows.slot) → lookup_in image i name ≡ Some j
lookup_in-found image i j name shows once = rw shows.entry.directory (at_slot (slot_named image i name) refl)
  where
    passes : is_named image i name shows.slot ≡ true
    passes = is_named-true image i shows.slot j name shows.entry shows.spelled

    at_slot : (found : Option ℕ) → slot_named image i name ≡ found → option_map (ino_at image i) (slot_named image i name) ≡ Some j
    at_slot None f = absurd (true≢false (sym passes ∙ find-none (is_named image i name) 0 (entry_count image i) shows.slot f (omega arith) (omega (arith, shows.entry.in_size))))
    at_slot (Some r) f =
        let found : Finds (is_named image i name) 0 (entry_count image i) r = find-passes _ 0 _ r f in
        let parts : (ino_at image i r ≢ 0) × (bytes_eq (name_at image i r) name ≡ true) = named_true _ _ found.passes in
        let here : r ≡ shows.slot = once r (ino_at image i r)
        (record { directory = shows.entry.directory; in_size = omega (arith, found.high); ino = refl; not_empty = parts.0 }) (same_text _ _ (sym parts.1)) in
        rw f (ap Some (ap (ino_at image i) here ∙ shows.entry.ino))

pub lookup_in-none : (image : Image) (i : ℕ) (name : Name) → ((j : ℕ) → Shows image i name j → ⊥) → lookup_in image i name ≡ None
lookup_in-none image i name nothing = go (lookup_in image i name) refl
  where
    go : (found : Option ℕ) → lookup_in image i name ≡ found → lookup_in image i name ≡ None
    go None e = e
    go (Some j) e = absurd (nothing j (lookup_in-shows image i j name e))
