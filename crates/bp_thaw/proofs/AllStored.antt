-- Whichever of the pointers to copies are stored, and once all of them are.
use Rattle.std.proofs.Common.{◌≡◌, ◌⊎◌, ℕ, ◌+◌, ◌*◌, ◌/◌, ◌<◌, [], ◌∷◌, Bool, true, false, ◌==◌, Option, None, Some, refl, sym, ◌∙◌, ap, arith, inl, inr, true≢false}
use Rattle.std.specs.Str.{bytes_eq}
use Rattle.std.proofs.lemmas.Bool.{eq-eqb, eqb-true, or_left, or_right}
use Rattle.std.proofs.lemmas.Slice.Eq.{bytes_eq-Decides}
use Rattle.pm_epochs.specs.Log.{words_after}
use Rattle.pm_epochs.specs.May.{AnyOf, links_of}
use Rattle.bp_layout.specs.Members.{Has}
use Rattle.bp_layout.specs.Same.{Same}
use Rattle.bp_layout.specs.Words.{Image, word, block_of, block_count}
use Rattle.bp_changes.specs.Trail.{Trail, word_on, block_on, place_on, ArePointers, IsSkeleton}
use Rattle.bp_cow.specs.Copies.{pointing_to}
use Rattle.bp_thaw.specs.Linked.{AreThawing, is_top}
use Rattle.bp_thaw.specs.Copies.{Copies, Marks, copy_on, placed_copies, source_of, is_copied, links_among, AreMarks, HasCopies}
use Rattle.bp_thaw.proofs.Marks.{has-copy_on, copy_on-has, word-at_place}
use Rattle.bp_thaw.proofs.Filled.{nothing_stored, one_more, outside, filled_thawing, link_thawing}

abbrev pub all_are : Trail → Bool
all_are p = true

-- a copy of the block is among these
pub any_source : (image : Image) (copies : Copies) (copy : ℕ × ℕ) (block : ℕ) → Has copies copy → source_of image copy ≡ block → is_copied image copies block ≡ true
any_source image [] copy block has e = absurd has
any_source image (c ∷ copies) copy block (inl same) e =
    let is : (source_of image c == block) ≡ true = eq-eqb (source_of image c) block (ap (source_of image) same ∙ e) in
    rw is refl
any_source image (c ∷ copies) copy block (inr later) e = go (source_of image c == block) refl (any_source image copies copy block later e)
  where
    go : (x : Bool) → (source_of image c == block) ≡ x → is_copied image copies block ≡ true → is_copied image (c ∷ copies) block ≡ true
    go true is rest = rw is refl
    go false is rest = rw is rest

pub source_any : (image : Image) (copies : Copies) (block : ℕ) → is_copied image copies block ≡ true → (copy : ℕ × ℕ) × Has copies copy × (source_of image copy ≡ block)
source_any image [] block is = absurd (true≢false (sym is))
source_any image (c ∷ copies) block is = go (source_of image c == block) refl (λ also. source_any image copies block also)
  where
    go : (x : Bool) → (source_of image c == block) ≡ x → (is_copied image copies block ≡ true → (copy : ℕ × ℕ) × Has copies copy × (source_of image copy ≡ block)) →
        (copy : ℕ × ℕ) × Has (c ∷ copies) copy × (source_of image copy ≡ block)
    go true e deeper = (c, inl refl, eqb-true (source_of image c) block e)
    go false e deeper = let rest = deeper (rw e at is) in (rest.0, inr rest.1, rest.2)

pub copies-has : (image : Image) (marks : Marks) (copy : ℕ × ℕ) → Has (placed_copies image marks) copy → (m : Trail × ℕ) × Has marks m × (copy ≡ (place_on image m.0, m.1))
copies-has image [] copy has = absurd has
copies-has image (m ∷ marks) copy (inl e) = (m, inl refl, sym e)
copies-has image (m ∷ marks) copy (inr later) = let rest = copies-has image marks copy later in (rest.0, inr rest.1, rest.2)

pub has_copies : (image : Image) (marks : Marks) (m : Trail × ℕ) → Has marks m → Has (placed_copies image marks) (place_on image m.0, m.1)
has_copies image [] m has = absurd has
has_copies image (n ∷ marks) m (inl e) = inl (ap (λ (x : Trail × ℕ). (place_on image x.0, x.1)) e)
has_copies image (n ∷ marks) m (inr later) = inr (has_copies image marks m later)

module _ (old mid : Image) (Pointer : Trail → Type 0) (are : ArePointers Pointer) (skeleton : IsSkeleton old Pointer) (some : 0 < block_count old) (marks : Marks) (all : AreMarks old Pointer marks)
    (has : HasCopies old mid marks) where
  -- a pointer stands as before, as long as it is not stored
  pub word_mid : (m : Trail × ℕ) → Has marks m → word mid (place_on old m.0) ≡ word_on old m.0
  word_mid m here =
      has.others (place_on old m.0) (outside old Pointer are skeleton marks all m.0 (all.each m here).pointer)
      ∙ word-at_place old m.0 (all.each m here).present

  mark-some : (m : Trail × ℕ) → Has marks m → copy_on marks m.0 ≡ Some m.1
  mark-some m here = copy_on-has marks m (λ n there e. all.trails n m there here e) here

  -- where the block above has no copy, the pointer stands in no copy
  is_top-mark : (m : Trail × ℕ) → Has marks m → is_copied mid (placed_copies old marks) (place_on old m.0 / 512) ≡ false → is_top (copy_on marks) m.0 ≡ true
  is_top-mark ([], c) here none = rw (mark-some ([], c) here) refl
  is_top-mark (slot ∷ p, c) here none = go (copy_on marks p) refl
    where
      go : (x : Option ℕ) → copy_on marks p ≡ x → is_top (copy_on marks) (slot ∷ p) ≡ true
      go None e = rw (mark-some (slot ∷ p, c) here, e) refl
      go (Some d) e =
          let above : Has marks (p, d) = has-copy_on marks p d e in
          let low : slot < 512 = are.slots slot p (all.each (slot ∷ p, c) here).pointer in
          let block : (512 * block_on old p + slot) / 512 ≡ block_on old p = omega (arith, low) in
          absurd (true≢false (sym (any_source mid (placed_copies old marks) (place_on old p, d) (place_on old (slot ∷ p) / 512) (has_copies old marks (p, d) above) (ap block_of (word_mid (p, d) above) ∙ sym block)) ∙ none))

  not_top-mark : (m : Trail × ℕ) → Has marks m → is_copied mid (placed_copies old marks) (place_on old m.0 / 512) ≡ true → is_top (copy_on marks) m.0 ≡ true → ⊥
  not_top-mark m here is top = go m here top (found.2 ∙ refl)
    where
      sourced : (copy : ℕ × ℕ) × Has (placed_copies old marks) copy × (source_of mid copy ≡ place_on old m.0 / 512)
      sourced = source_any mid (placed_copies old marks) (place_on old m.0 / 512) is

      which : (n : Trail × ℕ) × Has marks n × (sourced.0 ≡ (place_on old n.0, n.1))
      which = copies-has old marks sourced.0 sourced.1

      found : (n : Trail × ℕ) × Has marks n × (block_on old n.0 ≡ place_on old m.0 / 512)
      found = (which.0, which.1, sym (ap block_of (word_mid which.0 which.1)) ∙ ap (source_of mid) (sym which.2) ∙ sourced.2)

      go : (m : Trail × ℕ) → Has marks m → is_top (copy_on marks) m.0 ≡ true → block_on old found.0.0 ≡ place_on old m.0 / 512 → ⊥
      go ([], c) here top e = (all.each found.0 found.1).present (omega (arith, e))
      go (slot ∷ p, c) here top e =
          let low : slot < 512 = are.slots slot p (all.each (slot ∷ p, c) here).pointer in
          let block : (512 * block_on old p + slot) / 512 ≡ block_on old p = omega (arith, low) in
          let trail : found.0.0 ≡ p = skeleton.once found.0.0 p (all.each found.0 found.1).pointer (are.above slot p (all.each (slot ∷ p, c) here).pointer) (all.each found.0 found.1).present (e ∙ block) in
          let copy : copy_on marks p ≡ Some found.0.1 = ap (copy_on marks) (sym trail) ∙ mark-some found.0 found.1 in
          true≢false (sym top ∙ rw (mark-some (slot ∷ p, c) here, copy) refl)

  -- all pointers but those of the marks that are left are stored
  abbrev AllBut : Marks → (Trail → Bool) → Type 0
  AllBut left stored = (m : Trail × ℕ) → Has marks m → is_top (copy_on marks) m.0 ≡ true → Has left m ⊎ (stored m.0 ≡ true)

  abbrev Thawing : Image → (Trail → Bool) → Type 0
  Thawing now stored = AreThawing old now Pointer (copy_on marks) stored

  module _ (same : (now : Image) (stored : Trail → Bool) → Thawing now stored → Same mid now) where
    pub any_stored : (left : Marks) → ((m : Trail × ℕ) → Has left m → Has marks m) → (now : Image) (stored : Trail → Bool) → Thawing now stored →
        AnyOf Same mid now (links_among mid (placed_copies old marks) (placed_copies old left))
    any_stored [] inside now stored thawing = same now stored thawing
    any_stored (m ∷ left) inside now stored thawing = go (is_copied mid (placed_copies old marks) (place_on old m.0 / 512)) refl
        (λ image set_so_far state. any_stored left (λ n later. inside n (inr later)) image set_so_far state)
      where
        here : Has marks m
        here = inside m (inl refl)

        go : (x : Bool) → is_copied mid (placed_copies old marks) (place_on old m.0 / 512) ≡ x →
            ((image : Image) (stored_then : Trail → Bool) → Thawing image stored_then → AnyOf Same mid image (links_among mid (placed_copies old marks) (placed_copies old left))) →
            AnyOf Same mid now (links_among mid (placed_copies old marks) (placed_copies old (m ∷ left)))
        go true is rest = rw is (rest now stored thawing)
        go false is rest =
            let value : pointing_to (word mid (place_on old m.0)) m.1 ≡ pointing_to (word_on old m.0) m.1 = ap (λ w. pointing_to w m.1) (word_mid m here) in
            rw (is, value) (
              rest now stored thawing,
              rest _ (one_more m.0 stored) (link_thawing old Pointer are skeleton marks all now stored thawing some m.0 m.1 (is_top-mark m here is) (mark-some m here)),
            )

  -- once they all are
  pub all_stored : (left : Marks) → ((m : Trail × ℕ) → Has left m → Has marks m) → (now : Image) (stored : Trail → Bool) → Thawing now stored → AllBut left stored →
      (stored_then : Trail → Bool) × Thawing (words_after now (links_of (links_among mid (placed_copies old marks) (placed_copies old left)))) stored_then × AllBut [] stored_then
  all_stored [] inside now stored thawing but = (stored, thawing, but)
  all_stored (m ∷ left) inside now stored thawing but = go (is_copied mid (placed_copies old marks) (place_on old m.0 / 512)) refl
      (λ image set_so_far state but_so_far. all_stored left (λ n later. inside n (inr later)) image set_so_far state but_so_far)
    where
      here : Has marks m
      here = inside m (inl refl)

      Ends : Marks → Image → Type 0
      Ends rest image = (stored_then : Trail → Bool) × Thawing (words_after image (links_of (links_among mid (placed_copies old marks) (placed_copies old rest)))) stored_then × AllBut [] stored_then

      skipped : is_copied mid (placed_copies old marks) (place_on old m.0 / 512) ≡ true → AllBut left stored
      skipped is n there top = elim (but n there top) [
        | inl (inl e) ↦ absurd (not_top-mark m here is (ap (λ (x : Trail × ℕ). is_top (copy_on marks) x.0) e ∙ top))
        | inl (inr later) ↦ inl later
        | inr done ↦ inr done
      ]

      linked : AllBut left (one_more m.0 stored)
      linked n there top = elim (but n there top) [
        | inl (inl e) ↦ inr (or_left (bytes_eq m.0 n.0) (stored n.0) ((bytes_eq-Decides m.0 n.0).1 (ap (λ (x : Trail × ℕ). x.0) e)))
        | inl (inr later) ↦ inl later
        | inr done ↦ inr (or_right (bytes_eq m.0 n.0) (stored n.0) done)
      ]

      go : (x : Bool) → is_copied mid (placed_copies old marks) (place_on old m.0 / 512) ≡ x →
          ((image : Image) (stored_then : Trail → Bool) → Thawing image stored_then → AllBut left stored_then → Ends left image) → Ends (m ∷ left) now
      go true is rest = rw is (rest now stored thawing (skipped is))
      go false is rest =
          let value : pointing_to (word mid (place_on old m.0)) m.1 ≡ pointing_to (word_on old m.0) m.1 = ap (λ w. pointing_to w m.1) (word_mid m here) in
          rw (is, value) (rest _ (one_more m.0 stored) (link_thawing old Pointer are skeleton marks all now stored thawing some m.0 m.1 (is_top-mark m here is) (mark-some m here)) linked)

  pub thawing_all : (now : Image) (stored : Trail → Bool) → Thawing now stored → AllBut [] stored → Thawing now all_are
  thawing_all now stored thawing but = record {
    whole = thawing.whole;
    superblock = thawing.superblock;
    copied = thawing.copied;
    links = λ p c top e s. elim (but (p, c) (has-copy_on marks p c e) top) [ inl none ↦ absurd none | inr done ↦ thawing.links p c top e done ];
    unstored = λ p pointer top s. absurd (true≢false s);
    root = thawing.root;
    others = thawing.others;
  }

  -- the words after all links
  pub linked_thawing : Thawing (words_after mid (links_of (links_among mid (placed_copies old marks) (placed_copies old marks)))) all_are
  linked_thawing =
      let ends = all_stored marks (λ m here. here) mid nothing_stored (filled_thawing old Pointer are skeleton marks all mid has) (λ m here top. inl here) in
      thawing_all _ ends.0 ends.1 ends.2
