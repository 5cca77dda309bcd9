-- The trails of the prefixes of paths.
use Rattle.std.proofs.Common.{◌≡◌, ◌⊎◌, ℕ, zero, suc, ◌+◌, ◌<◌, ◌≤◌, List, ◌∷◌, length, refl, ap, arith, inl, inr, ◌≢◌, ◌*◌, take, ◌++◌, sym, ◌∙◌, []}
use Rattle.std.specs.List.{slice_index}
use Rattle.std.proofs.lemmas.Bool.{cases_eq}
use Rattle.bp_layout.specs.Words.{Image, word, block_count, block_of, slot_word}
use Rattle.bp_changes.specs.Trail.{Trail, word_on, block_on, place_on, trail_of, IsSkeleton, IsPlaced}
use Rattle.bp_changes.specs.Trail.IsPlaced.{at_top, in_block}
use Rattle.bp_layout.specs.WordPaths.{address}
use Rattle.bp_layout.proofs.Addresses.{address_from-append}
use Rattle.bp_layout.proofs.TreeLaws.{slot_word-at}
use Rattle.bp_changes.proofs.TrailLaws.{word_on-top, word_on-slot}

pub trail_of-next : (path : List ℕ) (count : ℕ) → trail_of path (count + 1) ≡ slice_index path count ∷ trail_of path count
trail_of-next path count = let e : count + 1 ≡ suc count = omega arith in ap (trail_of path) e

pub length-trail_of : (path : List ℕ) (count : ℕ) → length (trail_of path count) ≡ count
length-trail_of path zero = refl
length-trail_of path (suc count) = omega (arith, length-trail_of path count)

-- what begins alike begins alike in each slot
pub slot-trail_of : (one two : List ℕ) (count k : ℕ) → trail_of one count ≡ trail_of two count → k < count → slice_index one k ≡ slice_index two k
slot-trail_of one two zero k same low = absurd (omega (arith, low))
slot-trail_of one two (suc count) k same low = go (cases_eq k count) (λ small. slot-trail_of one two count k (cc) small)
  where
    go : (k ≡ count) ⊎ (k ≡ count → ⊥) → (k < count → slice_index one k ≡ slice_index two k) → slice_index one k ≡ slice_index two k
    go (inl e) rest = let head : slice_index one count ≡ slice_index two count = cc in rw e head
    go (inr n) rest = rest (omega (arith, low, n))

pub prefix-trail_of : (one two : List ℕ) (count k : ℕ) → trail_of one count ≡ trail_of two count → k ≤ count → trail_of one k ≡ trail_of two k
prefix-trail_of one two zero zero same low = same
prefix-trail_of one two zero (suc k) same low = absurd (omega (arith, low))
prefix-trail_of one two (suc count) k same low = go (cases_eq k (suc count)) (λ small. prefix-trail_of one two count k (cc) small)
  where
    go : (k ≡ suc count) ⊎ (k ≡ suc count → ⊥) → (k ≤ count → trail_of one k ≡ trail_of two k) → trail_of one k ≡ trail_of two k
    go (inl e) rest = rw e same
    go (inr n) rest = rest (omega (arith, low, n))

pub word-placed : (image : Image) (Pointer : Trail → Type 0) (here : Trail) → IsPlaced image Pointer here → word image (place_on image here) ≡ word_on image here
word-placed image Pointer _ at_top = sym (word_on-top image)
word-placed image Pointer _ (in_block slot p live present low) = sym (word_on-slot image slot p ∙ slot_word-at image (block_on image p) slot present)

pub low-placed : (image : Image) (Pointer : Trail → Type 0) (here : Trail) → IsSkeleton image Pointer → 0 < block_count image → IsPlaced image Pointer here → place_on image here < length image
low-placed image Pointer _ skeleton some at_top = let whole : length image ≡ 512 * block_count image = skeleton.whole in omega (arith, some, whole)
low-placed image Pointer _ skeleton some (in_block slot p live present low) =
    let whole : length image ≡ 512 * block_count image = skeleton.whole in
    let range : block_on image p < block_count image = skeleton.in_range p live in
    omega (arith, low, whole, range)

-- ---- the place that a word path names

-- a null of a trail has nulls below it
on_trail : (image : Image) (trail : Trail) → block_on image trail ≢ 0 → word image (place_on image trail) ≡ word_on image trail
on_trail image [] present = sym (word_on-top image)
on_trail image (slot ∷ above) present = sym (word_on-slot image slot above ∙ slot_word-at image (block_on image above) slot (not_null (block_on image above) refl))
  where
    not_null : (b : ℕ) → block_on image above ≡ b → block_on image above ≢ 0
    not_null b is null = present (ap block_of (word_on-slot image slot above ∙ ap (λ x. slot_word image x slot) null))

-- each word that a proper prefix of the path names is not null
abbrev pub AreNodes : Image → List ℕ → ℕ → Type 0
AreNodes image path zero = Unit {0}
AreNodes image path (suc count) = (block_on image (trail_of path count) ≢ 0) × AreNodes image path count

pub address-on : (image : Image) (path : List ℕ) (count : ℕ) → count ≤ length path → AreNodes image path count → address image (take count path) ≡ place_on image (trail_of path count)
address-on image path zero low nodes = refl
address-on image path (suc count) low nodes =
    let before : address image (take count path) ≡ place_on image (trail_of path count) = address-on image path count (omega (arith, low)) nodes.1 in
    ap (address image) (take-next path count (omega (arith, low)))
    ∙ address_from-append image 2 (take count path) (slice_index path count ∷ [])
    ∙ ap (λ p. 512 * block_of (word image p) + slice_index path count) before
    ∙ ap (λ w. 512 * block_of w + slice_index path count) (on_trail image (trail_of path count) nodes.0)
  where
    take-next : (path : List ℕ) (count : ℕ) → count < length path → take (suc count) path ≡ take count path ++ slice_index path count ∷ []
    take-next [] count low = absurd (omega (arith, low))
    take-next (slot ∷ path) zero low = refl
    take-next (slot ∷ path) (suc count) low = ap (λ p. slot ∷ p) (take-next path count (omega (arith, low)))
