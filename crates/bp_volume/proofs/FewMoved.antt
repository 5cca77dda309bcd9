-- A rename needs few blocks.
use Rattle.std.proofs.Common.{◌≡◌, ℕ, zero, suc, ◌+◌, ◌*◌, ◌/◌, ◌<◌, ◌≤◌, [], ◌∷◌, ◌++◌, length, map, Bool, true, false, ◌==◌, Option, None, Some, filter, not, refl, sym, ◌∙◌, ap, subst, arith, ◌≢◌}
use Rattle.std.specs.Prelude.{if◌then◌else◌}
use Rattle.std.specs.List.{range_with_len, list_any}
use Rattle.std.proofs.lemmas.List.{append-nil, length-append}
use Rattle.bp_layout.specs.Directory.{empty_slot, entry_count, ino_at}
use Rattle.bp_layout.specs.Inode.{size_of}
use Rattle.bp_layout.specs.Need.{Change, content_path, cover_of, entered, entry_path, height_after, inode_word_path, is_prefix, is_there_after, need, prefixes_from, prefixes_of, touched}
use Rattle.bp_layout.specs.Need.Change.{moves, replaces, respells}
use Rattle.bp_layout.specs.Reached.{IsReached}
use Rattle.bp_layout.specs.WellFormed.{IsWellFormed}
use Rattle.bp_layout.specs.WordPaths.{WordPath, digits}
use Rattle.bp_layout.specs.Words.{Image}
use Rattle.bp_layout.proofs.Finding.{Finds, find-passes}
use Rattle.bp_limits.specs.Limits.{max_height}
use Rattle.bp_limits.specs.CallLimits.{max_name}
use Rattle.bp_rename.specs.CanRename.{change_to}
use Rattle.bp_read.proofs.Digits.{length-digits}
use Rattle.bp_volume.proofs.FewBlocks.{IsFew, alone_few, charge, charge_rises, content_slots, height_low, inode_slots, new_entry_few, one_few, run_few}

-- two paths
two_few : (shortest : ℕ) (one two : WordPath) → length (prefixes_of shortest [] (one ∷ two ∷ [])) ≤ length one + length two
two_few shortest one two =
    let both = length-append (filter (λ prefix. not (list_any (is_prefix prefix) [])) (prefixes_from shortest one)) (prefixes_of shortest (one ∷ []) (two ∷ [])) in
    omega (arith, one_few shortest [] one, alone_few shortest (one ∷ []) two, both)

-- indices that are reported from a first one
from_first : (first : ℕ) (path : ℕ → WordPath) (n from : ℕ) → map (λ k. path (first + k)) (range_with_len from n) ≡ map path (range_with_len (first + from) n)
from_first first path zero from = refl
from_first first path (suc n) from =
    let next : first + (from + 1) ≡ first + from + 1 = omega arith in
    ap (λ ps. path (first + from) ∷ ps) (from_first first path n (from + 1) ∙ ap (λ k. map path (range_with_len k n)) next)

module _ (image : Image) (wf : IsWellFormed image) (i : ℕ) (reached : IsReached image i) (some : 0 < size_of image i) where
  few_replaced : (s j r : ℕ) → IsReached image j → 0 < size_of image j → IsFew (need image (replaces i s j r))
  few_replaced s j r target there =
      omega (
        arith,
        two_few (length (cover_of (is_there_after image (replaces i s j r)) (touched image (replaces i s j r)))) (entry_path image (replaces i s j r) i s 0) (entry_path image (replaces i s j r) j r 0),
        content_slots image wf (replaces i s j r) i (32 * s + 0) reached some,
        content_slots image wf (replaces i s j r) j (32 * r + 0) target there,
      )

  module _ (s j : ℕ) (target : IsReached image j) where
    entered_slots : (slot : Option ℕ) → empty_slot image j ≡ slot → length (entered image (moves i s j) j slot) ≤ 2 * suc max_height
    entered_slots None at = omega (arith, inode_slots image wf (moves i s j) j 2)
    entered_slots (Some slot) at =
        let found : Finds (λ s. ino_at image j s == 0) 0 (entry_count image j) slot = find-passes (λ s. ino_at image j s == 0) 0 (entry_count image j) slot at in
        content_slots image wf (moves i s j) j (32 * slot + 0) target (omega (arith, found.high))

    few_carried : IsFew (need image (moves i s j))
    few_carried =
        omega (
          arith,
          two_few (length (cover_of (is_there_after image (moves i s j)) (touched image (moves i s j)))) (entered image (moves i s j) j (empty_slot image j)) (entry_path image (moves i s j) i s 0),
          entered_slots (empty_slot image j) refl,
          content_slots image wf (moves i s j) i (32 * s + 0) reached some,
          new_entry_few image wf j target (empty_slot image j),
        )

module _ (image : Image) (wf : IsWellFormed image) (n s len : ℕ) (reached : IsReached image (suc n)) (some : 0 < size_of image (suc n)) (short : len ≤ max_name) where
  abbrev change : Change
  change = respells (suc n) s len

  abbrev words : ℕ
  words = suc ((len + 7) / 8)

  respelled_few : (shortest : ℕ) → length (prefixes_of shortest [] (map (entry_path image change (suc n) s) (range_with_len 1 words))) ≤ 17
  respelled_few shortest =
      let low : height_after image change (suc n) ≤ max_height = height_low image wf change (suc n) reached some in
      let run = run_few (inode_word_path image change (suc n) 1) (height_after image change (suc n)) low shortest [] 0 (λ earlier. omega arith) words (32 * s + 1) in
      let first : length (inode_word_path image change (suc n) 1 ++ digits (suc (height_after image change (suc n))) (32 * s + 1)) ≡ length (inode_word_path image change (suc n) 1) + length (digits (suc (height_after image change (suc n))) (32 * s + 1)) =
      length-append (inode_word_path image change (suc n) 1) (digits (suc (height_after image change (suc n))) (32 * s + 1)) in
      let near : charge (32 * s + 1 + words) ≤ charge (32 * s + 1) + 5 = omega (arith, short, charge_rises (32 * s + 1) words) in
      let bound : length (prefixes_of shortest [] (map (content_path image change (suc n)) (range_with_len (32 * s + 1) words) ++ [])) ≤ 17 =
      omega (arith, run, first, near, low, inode_slots image wf change (suc n) 1, length-digits (suc (height_after image change (suc n))) (32 * s + 1)) in
      let same : map (content_path image change (suc n)) (range_with_len (32 * s + 1) words) ++ [] ≡ map (entry_path image change (suc n) s) (range_with_len 1 words) =
      append-nil _ ∙ sym (from_first (32 * s) (content_path image change (suc n)) words 1) in
      subst (λ paths. length (prefixes_of shortest [] paths) ≤ 17) same bound

  few_spelled : IsFew (need image change)
  few_spelled = omega (arith, respelled_few (length (cover_of (is_there_after image change) (touched image change))))

few_respelled : (image : Image) → IsWellFormed image → (i s len : ℕ) → 1 ≤ i → IsReached image i → 0 < size_of image i → len ≤ max_name → IsFew (need image (respells i s len))
few_respelled image wf zero s len low reached some short = absurd (omega (arith, low))
few_respelled image wf (suc n) s len low reached some short = few_spelled image wf n s len reached some short

-- a rename, whichever way the name moves
module _ (image : Image) (wf : IsWellFormed image) (i s j len : ℕ) (low : 1 ≤ i) (reached : IsReached image i) (some : 0 < size_of image i) (target : IsReached image j) (short : len ≤ max_name) where
  pub few_moved : (slot : Option ℕ) → (slot ≢ None → 0 < size_of image j) → IsFew (need image (change_to i s j len slot))
  few_moved (Some r) there = few_replaced image wf i reached some s j r target (there (λ none. cc))
  few_moved None there = go (i == j)
    where
      go : (b : Bool) → IsFew (need image (if b then respells i s len else moves i s j))
      go true = few_respelled image wf i s len low reached some short
      go false = few_carried image wf i reached some s j target
