-- A file whose dirty blocks are written holds the words as they are.
use Rattle.std.proofs.Common.{refl, sym, ◌∙◌, ap, subst, arith, ◌≡◌, ℕ, ◌+◌, ◌*◌, ◌/◌, ◌%◌, ◌<◌, List, length, take, drop, get_or, get_or-drop, Bool, true, false, inr}
use Rattle.std.specs.Prelude.{None, Some, is_some}
use Rattle.std.proofs.lemmas.List.{ext_get_or, get_or-take, length-drop, length-take-le}
use Rattle.bp_io.specs.Files.{FileSatisfies, block_bytes}
use Rattle.bp_io.specs.Views.{Known, View, HasBytes}
use Rattle.bp_layout.specs.Bytes.{image_bytes}
use Rattle.bp_layout.specs.Words.{Image, word}
use Rattle.bp_session.specs.Changed.{AreDirty, HasChanged, HoldsChanged, IsChanged, CoversChanges, is_dirty}
use Rattle.bp_session.specs.Files.{HasClean, Holds, HoldsAs, StaysKnown}
use Rattle.bp_session.proofs.ActingLaws.{holds_bytes}
use Rattle.bp_session.proofs.BlockLaws.{blocks-image_bytes, length-image_bytes}
use Rattle.bp_session.proofs.SavingLaws.{block_is}

-- two lists of blocks with the same blocks
in_block : (xs : List ℕ) (p : ℕ) → get_or xs p 0 ≡ get_or (block_bytes xs (p / 4096)) (p % 4096) 0
in_block xs p =
    let place : 4096 * (p / 4096) + p % 4096 ≡ p = omega arith in
    sym (ap (λ l. get_or l (p % 4096) 0) (block_is xs (p / 4096)) ∙ get_or-take 4096 (drop (4096 * (p / 4096)) xs) (p % 4096) 0 (omega arith) ∙ get_or-drop (4096 * (p / 4096)) xs (p % 4096) 0 ∙ ap (λ a. get_or xs a 0) place)

by_blocks : (xs ys : List ℕ) (n : ℕ) → length xs ≡ 4096 * n → length ys ≡ 4096 * n → ((i : ℕ) → i < n → block_bytes xs i ≡ block_bytes ys i) → xs ≡ ys
by_blocks xs ys n first second same =
    ext_get_or 0 xs ys (first ∙ sym second)
    (λ p inside. in_block xs p ∙ ap (λ l. get_or l (p % 4096) 0) (same (p / 4096) (omega (arith, inside, first))) ∙ sym (in_block ys p))

-- two images with the same words in a block
block_same : (first second : Image) (i n : ℕ) → length first ≡ 512 * n → length second ≡ 512 * n → i < n → ((place : ℕ) → place < length first → place / 512 ≡ i → word second place ≡ word first place)
    → take 512 (drop (512 * i) second) ≡ take 512 (drop (512 * i) first)
block_same first second i n one two inside same =
    let size : (image : Image) → length image ≡ 512 * n → length (take 512 (drop (512 * i) image)) ≡ 512 =
    λ image is. length-take-le 512 (drop (512 * i) image) (omega (arith, length-drop (512 * i) image, is, inside)) in
    let at : (image : Image) (k : ℕ) → k < 512 → get_or (take 512 (drop (512 * i) image)) k 0 ≡ word image (512 * i + k) =
    λ image k low. get_or-take 512 (drop (512 * i) image) k 0 low ∙ get_or-drop (512 * i) image k 0 in
    ext_get_or 0 _ _ (size second two ∙ sym (size first one))
    (λ k low.
    let few : k < 512 = omega (arith, low, size second two) in
    at second k few ∙ same (512 * i + k) (omega (arith, few, one, inside)) (omega (arith, few)) ∙ sym (at first k few))

bytes_same : (first second : Image) (i n : ℕ) → length first ≡ 512 * n → length second ≡ 512 * n → i < n → ((place : ℕ) → place < length first → place / 512 ≡ i → word second place ≡ word first place)
    → block_bytes (image_bytes second) i ≡ block_bytes (image_bytes first) i
bytes_same first second i n one two inside same =
    blocks-image_bytes second i 1 ∙ ap image_bytes (block_same first second i n one two inside same) ∙ sym (blocks-image_bytes first i 1)

-- ---- the words of the last drain in a file

off_before : (before after : List Bool) (i : ℕ) → (is_dirty before i ≡ true → is_dirty after i ≡ true) → is_dirty after i ≡ false → is_dirty before i ≡ false
off_before before after i more offset = go (is_dirty before i) refl
  where
    go : (b : Bool) → is_dirty before i ≡ b → is_dirty before i ≡ false
    go false e = e
    go true e = absurd (let no : true ≡ false = sym (more e) ∙ offset in cc)

-- where these words change, and more is dirty: each block in which they do
module _ (before after : List Bool) (base next : Image) (n : ℕ) (one : length base ≡ 512 * n) (two : length next ≡ 512 * n)
    (more : (i : ℕ) → is_dirty before i ≡ true → is_dirty after i ≡ true) (changes : CoversChanges after base next) where
  more_without_call_ends : (bytes : List ℕ) → length bytes ≡ 4096 * n → HasClean before base bytes → HasClean after next bytes
  more_without_call_ends bytes size held i inside offset =
      held i inside (off_before before after i (more i) offset)
      ∙ sym (bytes_same base next i n one two (omega (arith, inside, size)) (λ place within there. changes place within (ap (λ a. is_dirty after a) there ∙ offset)))

  reported_more : (known : Known) (image : Image) → length image ≡ 512 * n → HasBytes known (image_bytes image) → FileSatisfies known (HasClean before base) → FileSatisfies known (HasClean after next)
  reported_more None image size bytes held = tt
  reported_more (Some None) image size bytes held = tt
  reported_more (Some (Some found)) image size bytes held =
      let same : found ≡ image_bytes image = bytes in
      more_without_call_ends found (omega (arith, ap length same, length-image_bytes image, size)) held

  pub holds_more : (files : View) (name : List ℕ) (image : Image) → files.blocks ≡ n → HoldsAs before files base name image → HoldsAs after files next name image
  holds_more files name image is held = record { file = held.file; fresh = reported_more (files.contents name) image (omega (arith, held.file.size, is)) held.file.bytes held.fresh }

-- a file that holds just these words, whatever is dirty
pub holds_drained : (flags : List Bool) (files : View) (base : Image) (name : List ℕ) → Holds files name base → HoldsAs flags files base name base
holds_drained flags files base name file = record { file = file; fresh = go (files.contents name) file.bytes }
  where
    go : (known : Known) → HasBytes known (image_bytes base) → FileSatisfies known (HasClean flags base)
    go None has = tt
    go (Some None) has = tt
    go (Some (Some found)) has = λ i inside offset. ap (λ l. block_bytes l i) has

-- .. and one where each block is dirty, whatever it holds
pub holds_lost : (flags : List Bool) (files : View) (base : Image) (name : List ℕ) (image : Image) → AreDirty flags → Holds files name image → HoldsAs flags files base name image
holds_lost flags files base name image all file = record { file = file; fresh = go (files.contents name) }
  where
    go : (known : Known) → FileSatisfies known (HasClean flags base)
    go None = tt
    go (Some None) = tt
    go (Some (Some found)) = λ i inside offset. absurd (let no : true ≡ false = sym (all i) ∙ offset in cc)

-- ---- what is saved

-- blocks are left only where the file holds the words as they are
module _ (flags : List Bool) (now : Image) (n : ℕ) (two : length now ≡ 512 * n) where
  all_saved : (was found : List ℕ) → length was ≡ 4096 * n → HasClean flags now was → IsChanged flags n was (image_bytes now) found → found ≡ image_bytes now
  all_saved was found size held is =
      by_blocks found (image_bytes now) n (is.size ∙ size) (omega (arith, length-image_bytes now, two)) (λ i low. go i low (omega (arith, is.size, size, low)) (is_dirty flags i) refl)
    where
      go : (i : ℕ) → i < n → 4096 * i < length found → (b : Bool) → is_dirty flags i ≡ b → block_bytes found i ≡ block_bytes (image_bytes now) i
      go i low inside true e = is.dirtied i low inside e
      go i low inside false e = is.others i inside (inr e) ∙ held i (omega (arith, low, size)) e

  known_saved : (known new : Known) (was : List ℕ) → length was ≡ 4096 * n → HasBytes known was → FileSatisfies known (HasClean flags now) → is_some new ≡ is_some known → HasChanged new flags n was (image_bytes now)
      → HasBytes new (image_bytes now)
  known_saved None None was size first held reported has = tt
  known_saved None (Some new) was size first held reported has = absurd (let no : true ≡ false = reported in cc)
  known_saved (Some None) new was size first held reported has = absurd first
  known_saved (Some (Some old)) None was size first held reported has = tt
  known_saved (Some (Some old)) (Some None) was size first held reported has = has
  known_saved (Some (Some old)) (Some (Some found)) was size first held reported has = all_saved was found size (subst (λ (l : List ℕ). HasClean flags now l) first held) has

-- ---- the whole

-- what a save leaves of a file
pub saves_words : (flags : List Bool) (now : Image) (old new : View) → length now ≡ 512 * old.blocks → StaysKnown old new → new.blocks ≡ old.blocks → (name : List ℕ) (was : Image)
    → HoldsAs flags old now name was → HoldsChanged flags new name (image_bytes was) (image_bytes now) → Holds new name now
saves_words flags now old new size reported blocks name was held saved = record {
  attached = saved.attached;
  size = omega (arith, size, blocks);
  bytes = known_saved flags now new.blocks (omega (arith, size, blocks)) (old.contents name) (new.contents name) (image_bytes was) saved.size held.file.bytes held.fresh (reported name (image_bytes was) (holds_bytes old name was held.file)) saved.has;
}
