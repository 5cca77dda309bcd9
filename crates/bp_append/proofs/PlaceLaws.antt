-- The place to which the path of a record's root word leads, and its words.
use Rattle.std.proofs.Common.{◌≡◌, ◌≢◌, ◌⊎◌, ℕ, zero, suc, ◌+◌, ◌*◌, ◌/◌, ◌%◌, ◌<◌, ◌≤◌, true, false, not, ◌&&◌, ◌==◌, nat_lt, List, length, Bool, refl, sym, ◌∙◌, ap, subst, arith, inl, inr, lt-ltb, le-ltb, ne_eqb, le_trans}
use Rattle.std.specs.List.{All}
use Rattle.std.proofs.lemmas.Bool.{cases_eq, cases_lt}
use Rattle.std.proofs.lemmas.List.{append-nil}
use Rattle.std.proofs.lemmas.List.Elements.{All-nil}
use Rattle.bp_layout.proofs.MemberLaws.{each-has}
use Rattle.bp_limits.proofs.Versions.{size_most}
use Rattle.bp_layout.specs.Formatted.{version_of}
use Rattle.bp_layout.specs.Words.{Image, word, block_count, height_of}
use Rattle.bp_layout.specs.Tree.{node, IsLiveWord, IsLivePointer, IsSound}
use Rattle.bp_layout.specs.Inode.{root_of, size_of, inode_count, RootPlace}
use Rattle.bp_layout.specs.Reached.{IsReached, IsFreeBlock}
use Rattle.bp_layout.specs.Reached.IsReached.{inode_file}
use Rattle.bp_layout.specs.WellFormed.{IsWellFormed}
use Rattle.bp_layout.specs.WordPaths.{WordPath, digits, tree_path, address, Exists}
use Rattle.bp_layout.specs.Inode.RootPlace.{top, inode}
use Rattle.bp_layout.proofs.TreeLaws.{tree_word-suc, slot_word-at, live_above, live_content}
use Rattle.bp_layout.proofs.Reached.{reached-in_file}
use Rattle.bp_layout.proofs.Addresses.{address_from-digits}
use Rattle.bp_read.specs.Paths.{IsInRange}
use Rattle.bp_read.proofs.PathLaws.{exists-digits, in_range-digits, small_digits}
use Rattle.pm_region.specs.Memory.{Memory, current_words}
use Rattle.pm_region.proofs.MemoryLaws.{length-current_words}
use Rattle.bp_append.specs.Grown.{CanGrow}
use Rattle.bp_append.specs.Prepared.{CanPrepare}

-- what the path of a root word leads to
pub record Leads (image : Image) (t : ℕ) (path : WordPath) : Type 0 where
  pub exists : Exists image path
  pub slots : All (λ slot. slot < 512) path
  pub in_range : IsInRange image path
  pub stands : RootPlace image t (address image path)
  pub low : address image path + 1 < length image
  pub root : word image (address image path) ≡ root_of image t
  pub size : word image (address image path + 1) ≡ size_of image t

pub leads_to : (image : Image) (t : ℕ) → IsWellFormed image → IsReached image t → Leads image t (tree_path (height_of (word image 2)) t 0 0)
leads_to image zero wf reached = record {
  exists = tt;
  slots = All-nil (λ slot. slot < 512);
  in_range = tt;
  stands = top refl refl;
  low = let some : 8 ≤ block_count image = wf.formatted.sized.at_least in omega (arith, some);
  root = refl;
  size = refl;
}
leads_to image (suc i) wf reached = subst (Leads image (suc i)) (sym (append-nil (digits (suc (height_of (word image 2))) (8 * suc i + 1)))) (record {
  exists = exists-digits image 2 (word image 2) (word image 3) refl (suc height) number under;
  slots = small_digits (suc height) number;
  in_range = in_range-digits image 2 (word image 2) (word image 3) refl sound (suc height) number live under;
  stands = inode (λ e. omega (arith, e)) (record { present = under; at = sym at });
  low = let range = sound.in_range height (number / 512) above in omega (arith, at, range, number_is, wf.formatted.sized.whole);
  root = ap (word image) at ∙ sym (slot_word-at image (node image (word image 2) height (number / 512)) (number % 512) under) ∙ sym (tree_word-suc image (word image 2) height number);
  size =
      let row : (8 * suc i + 2) / 512 ≡ number / 512 = omega arith in
      let column : (8 * suc i + 2) % 512 ≡ number % 512 + 1 = omega arith in
      let next : address image (digits (suc height) number) + 1 ≡ 512 * node image (word image 2) height (number / 512) + (number % 512 + 1) = omega (arith, at) in
      ap (word image) next ∙ sym (slot_word-at image (node image (word image 2) height (number / 512)) (number % 512 + 1) under)
      ∙ sym (tree_word-suc image (word image 2) height (8 * suc i + 2) ∙ rw (row, column) refl);
})
  where
    height : ℕ
    height = height_of (word image 2)

    number : ℕ
    number = 8 * suc i + 1

    number_is : number % 8 ≡ 1
    number_is = omega arith

    sound : IsSound image (word image 2) (word image 3)
    sound = wf.sound 0 inode_file

    below : 8 * number < word image 3
    below = let in_file : suc i < inode_count image = reached-in_file image wf (suc i) reached in omega (arith, in_file)

    live : IsLiveWord (word image 2) (word image 3) (suc height) number
    live = live_content (word image 2) (word image 3) number below

    above : IsLivePointer (word image 2) (word image 3) height (number / 512)
    above = live_above (word image 2) (word image 3) height number live

    under : node image (word image 2) height (number / 512) ≢ 0
    under = wf.full_inode_file height (number / 512) above

    at : address image (digits (suc height) number) ≡ 512 * node image (word image 2) height (number / 512) + number % 512
    at = address_from-digits image 2 (word image 2) refl (suc height) number under

pub grow_can : {in_snapshot : ℕ → Bool} (memory : Memory) (free : List ℕ) (t : ℕ) (path : WordPath) (from to : ℕ) → CanPrepare in_snapshot memory free t path from to → CanGrow memory free (root_of (current_words memory) t) (size_of (current_words memory) t) from to
grow_can memory free t path from to can = record {
  past_end = can.past_end;
  order = le_trans can.past_end can.order;
  fits = le_trans can.fits (size_most (version_of (current_words memory)));
  sound = can.well.sound t can.reached;
  some = let some : 8 ≤ block_count (current_words memory) = can.well.formatted.sized.at_least in omega (arith, some, length-current_words memory);
  usable = can.usable;
  outside = λ b m has. (each-has (IsFreeBlock (current_words memory) _) free b can.are_free m).free (record { tree = t; reached = can.reached; has = has });
  enough = can.enough;
  room = can.room;
}

-- ---- whether a tree has blocks

pub some_blocks : (size block : ℕ) → (nat_lt 0 size && not (block == 0)) ≡ true → (0 < size) × (1 ≤ block)
some_blocks size block tests = go (cases_lt 0 size) (cases_eq block 0)
  where
    no : false ≡ true → ⊥
    no e = subst (λ b. elim b as (λ x. Type 0) [ true ↦ ⊥ | false ↦ Unit {0} ]) e tt

    go : (0 < size) ⊎ (size ≤ 0) → (block ≡ 0) ⊎ (block ≡ 0 → ⊥) → (0 < size) × (1 ≤ block)
    go (inl some) (inr present) = (some, omega (arith, present))
    go (inl some) (inl null) = absurd (no (sym (rw (lt-ltb 0 size some, null) refl) ∙ tests))
    go (inr none) _ = absurd (no (sym (rw (le-ltb 0 size none) refl) ∙ tests))

pub no_blocks : (size block : ℕ) → (nat_lt 0 size && not (block == 0)) ≡ false → (size ≡ 0) ⊎ (block ≡ 0)
no_blocks size block tests = go (cases_lt 0 size) (cases_eq block 0)
  where
    no : true ≡ false → ⊥
    no e = subst (λ b. elim b as (λ x. Type 0) [ true ↦ Unit {0} | false ↦ ⊥ ]) e tt

    go : (0 < size) ⊎ (size ≤ 0) → (block ≡ 0) ⊎ (block ≡ 0 → ⊥) → (size ≡ 0) ⊎ (block ≡ 0)
    go (inr none) _ = inl (omega (arith, none))
    go (inl some) (inl null) = inr null
    go (inl some) (inr present) = absurd (no (sym (rw (lt-ltb 0 size some, ne_eqb block 0 present) refl) ∙ tests))
