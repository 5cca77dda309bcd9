-- Slots of names that are known, stated by entries.
use Rattle.std.proofs.Common.{◌≡◌, ◌≢◌, ◌⊎◌, ℕ, ◌<◌, Bool, true, false, Option, None, Some, bytes_eq, refl, sym, ◌∙◌, ap, ap₂, arith, inl, inr}
use Rattle.std.specs.FinMap.{get, empty, get-empty}
use Rattle.std.proofs.lemmas.Bool.{cases_eq}
use Rattle.std.proofs.lemmas.Slice.Eq.{bytes_eq-Decides}
use Rattle.std.specs.Cmp.Lexicographic.{same_text}
use Rattle.bp_layout.specs.Words.{Image}
use Rattle.bp_layout.specs.Directory.{EntryNames, name_at, ino_at, entry_count, is_named}
use Rattle.bp_layout.specs.Paths.{Name}
use Rattle.bp_layout.specs.Reached.{IsReached}
use Rattle.bp_layout.specs.WellFormed.{IsWellFormed}
use Rattle.bp_layout.specs.Hints.{NameIn, name_in_cmp, Known, Learns, IsSlotOf, AreRight}
use Rattle.bp_layout.proofs.Finding.{Finds, find-passes, find-first}
use Rattle.bp_layout.proofs.View.{named_true}
use Rattle.bp_layout.proofs.LookupLaws.{is_named-true}

-- ---- a slot that is found, and an entry

-- the entry at a slot has the name
pub record IsEntryFor (image : Image) (name : NameIn) (slot : ℕ) : Type 0 where
  pub entry : EntryNames image name.0 slot (ino_at image name.0 slot)
  pub spelled : name_at image name.0 slot ≡ name.1

pub entry_of_slot : (image : Image) (name : NameIn) (slot : ℕ) → IsSlotOf image name slot → IsEntryFor image name slot
entry_of_slot image name slot of =
    let at : Finds (is_named image name.0 name.1) 0 (entry_count image name.0) slot = find-passes _ 0 _ slot of.named in
    let parts : (ino_at image name.0 slot ≢ 0) × (bytes_eq (name_at image name.0 slot) name.1 ≡ true) = named_true _ _ at.passes in
    record {
      entry = record { directory = of.directory; in_size = omega (arith, at.high); ino = refl; not_empty = parts.0 };
      spelled = same_text _ _ (sym parts.1);
    }

-- names of one directory differ, so the entry with a name is the first that has it
pub slot_of_entry : (image : Image) (i slot j : ℕ) (name : Name) → IsWellFormed image → IsReached image i → EntryNames image i slot j → name_at image i slot ≡ name →
    IsSlotOf image (i, name) slot
slot_of_entry image i slot j name wf reached entry spelled = record {
  reached = reached;
  directory = entry.directory;
  named = find-first (is_named image i name) 0 (entry_count image i) slot (omega arith) (omega (arith, entry.in_size)) (is_named-true image i slot j name entry spelled)
      (λ r low before. unnamed r before (is_named image i name r) refl);
}
  where
    unnamed : (r : ℕ) → r < slot → (b : Bool) → is_named image i name r ≡ b → is_named image i name r ≡ false
    unnamed r before false is = is
    unnamed r before true is =
        let parts : (ino_at image i r ≢ 0) × (bytes_eq (name_at image i r) name ≡ true) = named_true _ _ is in
        let other : EntryNames image i r (ino_at image i r) =
        record { directory = entry.directory; in_size = omega (arith, before, entry.in_size); ino = refl; not_empty = parts.0 } in
        let same : r ≡ slot = wf.names_once i r slot (ino_at image i r) j reached other entry (same_text _ _ (sym parts.1) ∙ sym spelled) in
        absurd (omega (arith, same, before))

-- ---- what is known stays right

pub same_or_other : (a b : NameIn) → (a ≡ b) ⊎ (a ≢ b)
same_or_other a b = at_dir (cases_eq a.0 b.0)
  where
    at_name : a.0 ≡ b.0 → (c : Bool) → bytes_eq a.1 b.1 ≡ c → (a ≡ b) ⊎ (a ≢ b)
    at_name same true is = inl (ap₂ (λ i n. (i, n)) same (same_text _ _ (sym is)))
    at_name same false is = inr (λ e. let also : bytes_eq a.1 b.1 ≡ true = (bytes_eq-Decides a.1 b.1).1 (ap (λ n. n.1) e) in absurd (cc))

    at_dir : (a.0 ≡ b.0) ⊎ (a.0 ≡ b.0 → ⊥) → (a ≡ b) ⊎ (a ≢ b)
    at_dir (inl same) = at_name same (bytes_eq a.1 b.1) refl
    at_dir (inr other) = inr (λ e. other (ap (λ n. n.0) e))

pub right-same : (image : Image) (before after : Known) → AreRight image before → after ≡ before → AreRight image after
right-same image before after right same name slot is = right name slot (sym (ap (λ known. get known name) same) ∙ is)

pub right-learned : (image : Image) (before after : Known) (name : NameIn) (slot : ℕ) → AreRight image before → IsSlotOf image name slot → Learns before after name slot → AreRight image after
right-learned image before after name slot right of learns other s is = go (same_or_other other name)
  where
    go : (other ≡ name) ⊎ (other ≢ name) → IsSlotOf image other s
    go (inl same) =
        let here : Some slot ≡ Some s = sym learns.learned ∙ ap (get after) (sym same) ∙ is in
        let slots : slot ≡ s = cc in
        rw (same, sym slots) of
    go (inr differs) = right other s (learns.others other s differs is)

-- whether it was learned or not
pub right-reported : (image : Image) (before after : Known) (name : NameIn) (slot : ℕ) (reported : Bool) → AreRight image before → IsSlotOf image name slot →
    (reported ≡ true → Learns before after name slot) → (reported ≡ false → after ≡ before) → AreRight image after
right-reported image before after name slot true right of learned unlearned = right-learned image before after name slot right of (learned refl)
right-reported image before after name slot false right of learned unlearned = right-same image before after right (unlearned refl)

-- nothing is known
pub right-empty : (image : Image) → AreRight image empty
right-empty image name slot is = let none : ◌≡◌ {A = Option ℕ} None (Some slot) = sym (get-empty name_in_cmp name) ∙ is in absurd (cc)
