-- One more copy is looked at, and one more link is stored.
use Rattle.std.proofs.Common.{◌≡◌, ◌≢◌, ℕ, suc, ◌+◌, ◌/◌, ◌≤◌, List, [], ◌∷◌, ◌++◌, length, Bool, true, false, ◌==◌, refl, sym, ◌∙◌, ap, subst, arith}
use Rattle.std.proofs.lemmas.Bool.{ne_eqb}
use Rattle.std.proofs.lemmas.List.{length-append}
use Rattle.pm_epochs.specs.declared.event.Event.TheVariants.{Store, Barrier}
use Rattle.pm_epochs.specs.May.{links_of}
use Rattle.pm_region.specs.Memory.{Memory, Adds, room_in}
use Rattle.pm_region.proofs.MemoryLaws.{adds_both}
use Rattle.bp_layout.specs.Words.{Image, word}
use Rattle.bp_cow.specs.Copies.{pointing_to}
use Rattle.bp_thaw.specs.Copies.{Copies, is_copied, links_among, source_of}

pub not_copied_more : (image : Image) (copies : Copies) (c : ℕ × ℕ) (block : ℕ) → is_copied image copies block ≡ false → source_of image c ≢ block → is_copied image (copies ++ c ∷ []) block ≡ false
not_copied_more image [] c block none other = rw (ne_eqb (source_of image c) block other) refl
not_copied_more image (d ∷ copies) c block none other = go (source_of image d == block) refl (λ rest. not_copied_more image copies c block rest other)
  where
    go : (x : Bool) → (source_of image d == block) ≡ x → (is_copied image copies block ≡ false → is_copied image (copies ++ c ∷ []) block ≡ false) → is_copied image (d ∷ copies ++ c ∷ []) block ≡ false
    go true e rest = let is : true ≡ false = rw e at none in absurd (cc)
    go false e rest = rw e (rest (rw e at none))

links-more : (image : Image) (every copies : Copies) (c : ℕ × ℕ) → links_among image every (copies ++ c ∷ []) ≡ links_among image every copies ++ links_among image every (c ∷ [])
links-more image every [] c = refl
links-more image every (d ∷ copies) c = go (is_copied image every (d.0 / 512)) refl (links-more image every copies c)
  where
    go : (x : Bool) → is_copied image every (d.0 / 512) ≡ x → links_among image every (copies ++ c ∷ []) ≡ links_among image every copies ++ links_among image every (c ∷ []) →
        links_among image every (d ∷ copies ++ c ∷ []) ≡ links_among image every (d ∷ copies) ++ links_among image every (c ∷ [])
    go true e rest = rw e rest
    go false e rest = rw e (ap (λ xs. (d.0, pointing_to (word image d.0) d.1) ∷ xs) rest)

module _ (image : Image) (every copies : Copies) (c : ℕ × ℕ) where
  pub link_more : is_copied image every (c.0 / 512) ≡ false → links_among image every (copies ++ c ∷ []) ≡ links_among image every copies ++ (c.0, pointing_to (word image c.0) c.1) ∷ []
  link_more none = links-more image every copies c ∙ rw none refl

  pub link_none : is_copied image every (c.0 / 512) ≡ true → links_among image every (copies ++ c ∷ []) ≡ links_among image every copies
  link_none is = links-more image every copies c ∙ rw is (append_nil (links_among image every copies))
    where
      append_nil : (xs : List (ℕ × ℕ)) → xs ++ [] ≡ xs
      append_nil [] = refl
      append_nil (x ∷ xs) = ap (λ rest. x ∷ rest) (append_nil xs)

links_of-more : (links : List (ℕ × ℕ)) (link : ℕ × ℕ) → links_of (links ++ link ∷ []) ≡ links_of links ++ Store link.0 link.1 ∷ []
links_of-more [] link = refl
links_of-more (l ∷ links) link = ap (λ rest. Store l.0 l.1 ∷ rest) (links_of-more links link)

length-links_of : (links : List (ℕ × ℕ)) → length (links_of links) ≡ length links
length-links_of [] = refl
length-links_of (l ∷ links) = ap suc (length-links_of links)

-- after a barrier
pub store_more : (old now next : Memory) (links : List (ℕ × ℕ)) (link : ℕ × ℕ) → Adds old now (Barrier ∷ links_of links) → Adds now next (Store link.0 link.1 ∷ []) → Adds old next (Barrier ∷ links_of (links ++ link ∷ []))
store_more old now next links link first adds =
    subst (λ events. Adds old next (Barrier ∷ events)) (sym (links_of-more links link)) (adds_both old now next (Barrier ∷ links_of links) (Store link.0 link.1 ∷ []) first adds)

pub room_stored : (old now : Memory) (links : List (ℕ × ℕ)) → Adds old now (Barrier ∷ links_of links) → room_in old ≤ room_in now + length links + 1
room_stored old now links adds =
    rw adds (omega (arith, length-append old.events (Barrier ∷ links_of links), length-links_of links))
