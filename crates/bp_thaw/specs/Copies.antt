-- Copies of blocks, in which a pointer to a copied block may lead to the copy.
use Rattle.std.specs.Prelude.{◌≡◌, ◌≢◌, ℕ, ◌+◌, ◌*◌, ◌/◌, ◌<◌, ◌==◌, List, [], ◌∷◌, length, map, Bool, Option, None, Some, bytes_eq, if◌then◌else◌, slice_index}
use Rattle.std.specs.List.{list_any}
use Rattle.bp_limits.specs.Limits.{block_words}
use Rattle.bp_layout.specs.Words.{Image, word, block_count, block_of}
use Rattle.bp_layout.specs.Members.{Has}
use Rattle.bp_changes.specs.Trail.{Trail, block_on, place_on, LeadsTo}
use Rattle.bp_cow.specs.Copies.{pointing_to}

-- each copy: the place of the pointer to its block, and the number of the block with the copy
abbrev pub Copies : Type 0
Copies = List (ℕ × ℕ)

abbrev pub places_of : Copies → List ℕ
places_of copies = map (λ copy. copy.0) copies

abbrev pub blocks_of : Copies → List ℕ
blocks_of copies = map (λ copy. copy.1) copies

-- the copy of the block to which the pointer at a place leads
abbrev pub copy_at : Copies → ℕ → Option ℕ
copy_at [] place = None
copy_at (copy ∷ copies) place = if copy.0 == place then Some copy.1 else copy_at copies place

abbrev pub turned_to : Option ℕ → ℕ → ℕ
turned_to None pointer = pointer
turned_to (Some block) pointer = pointing_to pointer block

-- the word at a place; if it is a pointer to a copied block, it points to the copy instead
abbrev pub turned_word : Image → Copies → ℕ → ℕ
turned_word image copies place = turned_to (copy_at copies place) (word image place)

-- the words of a block, with its pointers set to the copies
abbrev pub AreTurned : Copies → ℕ → List ℕ → List ℕ → Type 0
AreTurned copies block old words = (slot : ℕ) → slot < block_words →
    slice_index words slot ≡ turned_to (copy_at copies (block_words * block + slot)) (slice_index old slot)

-- the block to which the pointer of a copy leads
abbrev pub source_of : Image → ℕ × ℕ → ℕ
source_of image copy = block_of (word image copy.0)

-- the block is copied
abbrev pub is_copied : Image → Copies → ℕ → Bool
is_copied image copies block = list_any (λ copy. source_of image copy == block) copies

-- the stores that set those pointers to copies that are not themselves in a copied block
abbrev pub links_among : Image → Copies → Copies → List (ℕ × ℕ)
links_among image all [] = []
links_among image all (copy ∷ copies) =
    if is_copied image all (copy.0 / block_words) then links_among image all copies
    else (copy.0, pointing_to (word image copy.0) copy.1) ∷ links_among image all copies

-- ---- copies by trails

-- each copy: the trail of the pointer to its block, and the number of the block with the copy
abbrev pub Marks : Type 0
Marks = List (Trail × ℕ)

abbrev pub copy_on : Marks → Trail → Option ℕ
copy_on [] p = None
copy_on (mark ∷ marks) p = if bytes_eq mark.0 p then Some mark.1 else copy_on marks p

abbrev pub placed_copies : Image → Marks → Copies
placed_copies image marks = map (λ mark. (place_on image mark.0, mark.1)) marks

-- a pointer that is not null, and a block for the copy to which no pointer leads
pub record IsMark (image : Image) (Pointer : Trail → Type 0) (mark : Trail × ℕ) : Type 0 where
  pub pointer : Pointer mark.0
  pub present : block_on image mark.0 ≢ 0
  pub not_null : mark.1 ≢ 0
  pub in_range : mark.1 < block_count image
  pub unled : LeadsTo image Pointer mark.1 → ⊥

-- no two copies have one pointer or one block
pub record AreMarks (image : Image) (Pointer : Trail → Type 0) (marks : Marks) : Type 0 where
  pub each : (m : Trail × ℕ) → Has marks m → IsMark image Pointer m
  pub trails : (m n : Trail × ℕ) → Has marks m → Has marks n → m.0 ≡ n.0 → m ≡ n
  pub blocks : (m n : Trail × ℕ) → Has marks m → Has marks n → m.1 ≡ n.1 → m ≡ n

-- Each copy has the words of its block, with the pointers set to the other copies; all other words are unchanged.
pub record HasCopies (old now : Image) (marks : Marks) : Type 0 where
  pub whole : length now ≡ length old
  pub copied : (m : Trail × ℕ) (slot : ℕ) → Has marks m → slot < block_words
      → word now (block_words * m.1 + slot)
      ≡ turned_word old (placed_copies old marks) (block_words * block_on old m.0 + slot)
  pub others : (place : ℕ) → ((m : Trail × ℕ) → Has marks m → place / block_words ≢ m.1)
      → word now place ≡ word old place
