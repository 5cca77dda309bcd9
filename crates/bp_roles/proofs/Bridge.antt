-- The words seen inside a transaction by those seen outside: the snapshot inside is the first tree outside.
use Rattle.std.proofs.Common.{◌≡◌, inl, inr, ℕ, zero, suc, ◌<◌, ◌≤◌, Bool, true, false, [], ◌∷◌, length, refl, sym, ◌∙◌, ap, subst, arith}
use Rattle.std.proofs.lemmas.List.{get_or_past}
use Rattle.std.proofs.lemmas.Bool.{cases_lt}
use Rattle.bp_limits.specs.Limits.{magic}
use Rattle.bp_limits.specs.declared.version.Version.TheVariants.{Three}
use Rattle.bp_layout.specs.Inode.{StandsAt}
use Rattle.bp_layout.specs.Same.{Same}
use Rattle.bp_layout.specs.Trees.{snapshot_of}
use Rattle.bp_layout.specs.WellFormed.{IsWellFormed}
use Rattle.bp_layout.specs.Words.{Image, word}
use Rattle.bp_layout.proofs.TreeImages.{length-snapshot, snapshot-root, snapshot-size, snapshot-word}
use Rattle.bp_changes.specs.Harmless.{IsHarmless}
use Rattle.bp_changes.proofs.Frame.{same-by_agreement}
use Rattle.bp_changes.proofs.Stores.{harmless_here}
use Rattle.bp_roles.specs.Roles.{exchanged, magic_of, stored_at, swapped}
use Rattle.bp_roles.specs.Seen.{seen_words}
use Rattle.bp_roles.specs.Transaction.{inside, outside, outside_place}
use Rattle.bp_roles.specs.declared.roles.Roles.TheVariants.{OutsideA, OutsideB, InsideA, InsideB}
use Rattle.bp_roles.proofs.PlaceLaws.{by_word}
use Rattle.bp_roles.proofs.SwapLaws.{swapped-past, swapped-first}
use Rattle.bp_roles.proofs.SeenLaws.{length-seen, seen-word}

-- ## Words

pub outside_place-past : (i : ℕ) → 8 ≤ i → outside_place i ≡ i
unfolding outside_place
outside_place-past i high = get_or_past (0 ∷ 1 ∷ 6 ∷ 7 ∷ 2 ∷ 3 ∷ 4 ∷ 5 ∷ []) i i high

outside_place-some : (i : ℕ) → 0 < i → 0 < outside_place i
unfolding outside_place
outside_place-some i some =
    by_word (λ i. 0 < i → 0 < outside_place i) (λ h. absurd (omega (arith, h))) (λ h. omega arith) (λ h. omega arith) (λ h. omega arith)
    (λ h. omega arith) (λ h. omega arith) (λ h. omega arith) (λ h. omega arith) (λ i h. omega arith) i some

-- each word is stored at one place, whether it is seen inside or outside
stored_at-outside_place : (is_b : Bool) (i : ℕ) → stored_at (inside is_b) i ≡ stored_at (outside is_b) (outside_place i)
unfolding stored_at outside_place
stored_at-outside_place false i =
    by_word (λ i. stored_at InsideA i ≡ stored_at OutsideA (outside_place i)) refl refl refl refl refl refl refl refl (λ i. refl) i
stored_at-outside_place true i =
    by_word (λ i. stored_at InsideB i ≡ stored_at OutsideB (outside_place i)) refl refl refl refl refl refl refl refl (λ i. refl) i

pub same_magic : (is_b : Bool) → magic_of (inside is_b) ≡ magic_of (outside is_b)
same_magic false = refl
same_magic true = refl

outside_place-zero : outside_place 0 ≡ 0
unfolding outside_place
outside_place-zero = refl

same_swap : (is_b : Bool) (i value : ℕ) → swapped (inside is_b) i value ≡ swapped (outside is_b) (outside_place i) value
same_swap is_b zero value =
    swapped-first (inside is_b) value ∙ ap (λ number. exchanged number (magic Three) value) (same_magic is_b) ∙ sym (swapped-first (outside is_b) value)
    ∙ ap (λ w. swapped (outside is_b) w value) (sym outside_place-zero)
same_swap is_b (suc i) value =
    swapped-past (inside is_b) (suc i) value (omega arith) ∙ sym (swapped-past (outside is_b) (outside_place (suc i)) value (outside_place-some (suc i) (omega arith)))

-- each word inside is a word outside
pub inside-word : (is_b : Bool) (image : Image) (i : ℕ) → 8 ≤ length image → word (seen_words (inside is_b) image) i ≡ word (seen_words (outside is_b) image) (outside_place i)
inside-word is_b image i wide =
    seen-word (inside is_b) image i wide
    ∙ ap (λ p. swapped (inside is_b) i (word image p)) (stored_at-outside_place is_b i)
    ∙ same_swap is_b i (word image (stored_at (outside is_b) (outside_place i)))
    ∙ sym (seen-word (outside is_b) image (outside_place i) wide)

pub inside-two : (is_b : Bool) (image : Image) → 8 ≤ length image → word (seen_words (inside is_b) image) 4 ≡ word (seen_words (outside is_b) image) 2
unfolding outside_place
inside-two is_b image wide = inside-word is_b image 4 wide

pub inside-three : (is_b : Bool) (image : Image) → 8 ≤ length image → word (seen_words (inside is_b) image) 5 ≡ word (seen_words (outside is_b) image) 3
unfolding outside_place
inside-three is_b image wide = inside-word is_b image 5 wide

pub inside-magic : (is_b : Bool) (image : Image) → 8 ≤ length image → word (seen_words (inside is_b) image) 0 ≡ word (seen_words (outside is_b) image) 0
unfolding outside_place
inside-magic is_b image wide = inside-word is_b image 0 wide

pub inside-count : (is_b : Bool) (image : Image) → 8 ≤ length image → word (seen_words (inside is_b) image) 1 ≡ word (seen_words (outside is_b) image) 1
unfolding outside_place
inside-count is_b image wide = inside-word is_b image 1 wide

pub inside-past : (is_b : Bool) (image : Image) (i : ℕ) → 8 ≤ length image → 8 ≤ i → word (seen_words (inside is_b) image) i ≡ word (seen_words (outside is_b) image) i
inside-past is_b image i wide high = inside-word is_b image i wide ∙ ap (word (seen_words (outside is_b) image)) (outside_place-past i high)

-- ## Images that differ in unused words only

-- no live word is in the superblock past the first four words
pub idle_harmless : (image : Image) (at value : ℕ) → 4 ≤ at → at < 512 → IsHarmless image at value
idle_harmless image at value low high =
    let none : (t d k : ℕ) → StandsAt image t d k at → ⊥ = λ t d k stands. let present = stands.present in let there = stands.at in omega (arith, present, there, high) in
    record {
      superblock = λ h. absurd (omega (arith, h, low));
      pointers = λ t d k reached live stands. absurd (none t d k stands);
      inodes = λ i f reached few read stands. absurd (none _ _ _ stands);
      inos = λ i s reached kind in_size stands. absurd (none _ _ _ stands);
      names = λ i s j f reached names few stands. absurd (none _ _ _ stands);
      bytes = λ i o reached kind below stands. absurd (none _ _ _ stands);
    }

-- the same words, except words 4 to 7
pub record SameButSlots (old new : Image) : Type 0 where
  pub size : length new ≡ length old
  pub magic : word new 0 ≡ word old 0
  pub count : word new 1 ≡ word old 1
  pub root : word new 2 ≡ word old 2
  pub bytes : word new 3 ≡ word old 3
  pub past : (i : ℕ) → 8 ≤ i → word new i ≡ word old i

pub same_but_slots : (old new : Image) → IsWellFormed old → SameButSlots old new → Same old new
same_but_slots old new wf alike = same-by_agreement old new wf (record { whole = alike.size; each = each })
  where
    here : (i : ℕ) → word new i ≡ word old i → IsHarmless old i (word new i)
    here i same = subst (IsHarmless old i) (sym same) (harmless_here old i)

    each : (i : ℕ) → IsHarmless old i (word new i)
    each zero = here 0 alike.magic
    each (suc zero) = here 1 alike.count
    each (suc (suc zero)) = here 2 alike.root
    each (suc (suc (suc zero))) = here 3 alike.bytes
    each (suc (suc (suc (suc i)))) = elim (cases_lt (suc (suc (suc (suc i)))) 8) [
      | inl low ↦ idle_harmless old (suc (suc (suc (suc i)))) (word new (suc (suc (suc (suc i))))) (omega arith) (omega (arith, low))
      | inr high ↦ here (suc (suc (suc (suc i)))) (alike.past (suc (suc (suc (suc i)))) high)
    ]

-- ## The snapshot inside is the first tree outside

pub kept_is_outside : (is_b : Bool) (image : Image) → 8 ≤ length image → SameButSlots (snapshot_of (seen_words (inside is_b) image)) (seen_words (outside is_b) image)
kept_is_outside is_b image wide =
    let within : Image = seen_words (inside is_b) image in
    let size : length (seen_words (inside is_b) image) ≡ length image = length-seen (inside is_b) image in
    let long : 4 ≤ length (seen_words (inside is_b) image) = omega (arith, size, wide) in
    record {
      size = length-seen (outside is_b) image ∙ sym (length-snapshot (seen_words (inside is_b) image) ∙ size);
      magic = sym (snapshot-word (seen_words (inside is_b) image) 0 (λ e. omega (arith, e)) (λ e. omega (arith, e)) ∙ inside-magic is_b image wide);
      count = sym (snapshot-word (seen_words (inside is_b) image) 1 (λ e. omega (arith, e)) (λ e. omega (arith, e)) ∙ inside-count is_b image wide);
      root = sym (snapshot-root (seen_words (inside is_b) image) long ∙ inside-two is_b image wide);
      bytes = sym (snapshot-size (seen_words (inside is_b) image) long ∙ inside-three is_b image wide);
      past = λ i high. sym (snapshot-word (seen_words (inside is_b) image) i (λ e. omega (arith, e, high)) (λ e. omega (arith, e, high)) ∙ inside-past is_b image i wide high);
    }

-- so both mean the same
pub kept_same : (is_b : Bool) (image : Image) → 8 ≤ length image → IsWellFormed (snapshot_of (seen_words (inside is_b) image)) → Same (snapshot_of (seen_words (inside is_b) image)) (seen_words (outside is_b) image)
kept_same is_b image wide wf = same_but_slots (snapshot_of (seen_words (inside is_b) image)) (seen_words (outside is_b) image) wf (kept_is_outside is_b image wide)
