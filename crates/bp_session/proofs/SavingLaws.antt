-- A file between two images, while it is saved block by block.
use Rattle.std.proofs.Common.{zero, suc, refl, sym, ◌∙◌, ap, arith, ◌≡◌, ℕ, ◌+◌, ◌*◌, ◌-◌, ◌<◌, ◌≤◌, List, [], ◌∷◌, ◌++◌, length, take, drop, Bool, true, false, inl, inr}
use Rattle.std.specs.Prelude.{◌⊎◌, nat_lt, Some, None, is_some}
use Rattle.std.proofs.lemmas.Bool.{ltb-true, ltb-false}
use Rattle.std.proofs.lemmas.List.{append-nil, append_assoc, drop-drop, length-append, length-drop, length-take-le, take-append-le}
use Rattle.std.specs.Prelude.{Result, Ok, Err, OnOk, OnErr}
use Rattle.bp_layout.specs.Bytes.{image_bytes}
use Rattle.pm_region.specs.Memory.{Memory, current_words}
use Rattle.pm_region.proofs.MemoryLaws.{length-current_words}
use Rattle.bp_io.specs.Files.{block_bytes, blocks_of, with_blocks, IsMixed, Becomes, BecomesMixed, Stays, StaysAttached}
use Rattle.bp_io.specs.Views.{Known, View}
use Rattle.bp_session.proofs.BlockLaws.{length-image_bytes}
use Rattle.bp_layout.specs.Words.{Image}
use Rattle.bp_session.specs.Changed.{AreClean, HasChanged, IsChanged, is_dirty}
use Rattle.bp_session.specs.Files.{HasBlocksOf, CanSave}

-- ---- bytes before, within and after those that are written

before_prefix : (second rest : List ℕ) (n w : ℕ) → w ≤ n → n ≤ length second → take w (take n second ++ rest) ≡ take w second
before_prefix second rest n zero low few = refl
before_prefix second rest zero (suc w) low few = absurd (omega arith)
before_prefix [] rest (suc n) (suc w) low few = absurd (omega arith)
before_prefix (y ∷ second) rest (suc n) (suc w) low few = ap (λ l. y ∷ l) (before_prefix second rest n w (omega arith) (omega arith))

before : (second rest : List ℕ) (n a w : ℕ) → a + w ≤ n → n ≤ length second → take w (drop a (take n second ++ rest)) ≡ take w (drop a second)
before second rest n zero w low few = before_prefix second rest n w (omega (arith, low)) few
before second rest zero (suc a) w low few = absurd (omega arith)
before [] rest (suc n) (suc a) w low few = absurd (omega arith)
before (y ∷ second) rest (suc n) (suc a) w low few = before second rest n a w (omega arith) (omega arith)

after_run : (run xs : List ℕ) (a : ℕ) → length run ≤ a → length run ≤ length xs → drop a (run ++ drop (length run) xs) ≡ drop a xs
after_run [] xs a low few = refl
after_run (r ∷ run) [] a low few = absurd (omega arith)
after_run (r ∷ run) (x ∷ xs) zero low few = absurd (omega arith)
after_run (r ∷ run) (x ∷ xs) (suc a) low few = after_run run xs a (omega arith) (omega arith)

following : (run xs : List ℕ) (n a : ℕ) → n + length run ≤ a → n + length run ≤ length xs → drop a (take n xs ++ (run ++ drop (n + length run) xs)) ≡ drop a xs
following run xs zero a low few = let e : 0 + length run ≡ length run = omega arith in rw e (after_run run xs a (omega (arith, low)) (omega (arith, few)))
following run [] (suc n) a low few = absurd (omega arith)
following run (x ∷ xs) (suc n) zero low few = absurd (omega arith)
following run (x ∷ xs) (suc n) (suc a) low few = let e : suc n + length run ≡ suc (n + length run) = omega arith in rw e (following run xs n a (omega (arith, low)) (omega (arith, few)))

within_run : (run rest : List ℕ) (a w : ℕ) → a + w ≤ length run → take w (drop a (run ++ rest)) ≡ take w (drop a run)
within_run run rest zero w low = take-append-le w run rest (omega (arith, low))
within_run [] rest (suc a) w low = absurd (omega (arith, low))
within_run (r ∷ run) rest (suc a) w low = within_run run rest a w (omega (arith, low))

within : (run xs rest : List ℕ) (n a w : ℕ) → a + w ≤ length run → n ≤ length xs → take w (drop (n + a) (take n xs ++ (run ++ rest))) ≡ take w (drop a run)
within run xs rest zero a w low few = let e : 0 + a ≡ a = omega arith in rw e (within_run run rest a w low)
within run [] rest (suc n) a w low few = absurd (omega arith)
within run (x ∷ xs) rest (suc n) a w low few = let e : suc n + a ≡ suc (n + a) = omega arith in rw e (within run xs rest n a w low (omega (arith, few)))

-- ---- blocks

block_width : (i : ℕ) → (4096 * i + 4096 * 1) - 4096 * i ≡ 4096
block_width i = omega arith

pub block_is : (bytes : List ℕ) (i : ℕ) → block_bytes bytes i ≡ take 4096 (drop (4096 * i) bytes)
block_is bytes i = rw (block_width i) refl

-- a run of the blocks of one list over another's
module _ (found run second : List ℕ) (i n : ℕ) (low : 4096 * (i + n) ≤ length found) (same : length found ≡ length second) (is : run ≡ blocks_of second i n) where
  run_is : run ≡ take (4096 * n) (drop (4096 * i) second)
  run_is = let width : (4096 * i + 4096 * n) - 4096 * i ≡ 4096 * n = omega arith in rw (← width) is

  pub length_run : length run ≡ 4096 * n
  length_run = ap length run_is ∙ length-take-le (4096 * n) (drop (4096 * i) second) (omega (arith, length-drop (4096 * i) second, low, same))

  fits_run : 4096 * i + length run ≤ length found
  fits_run = omega (arith, length_run, low)

  with_is : with_blocks i run found ≡ take (4096 * i) found ++ (run ++ drop (4096 * i + length run) found)
  with_is = append_assoc (take (4096 * i) found) run (drop (4096 * i + length run) found)

  block_before : (k : ℕ) → k < i → block_bytes (with_blocks i run found) k ≡ block_bytes found k
  block_before k less = block_is _ k ∙ ap (λ l. take 4096 (drop (4096 * k) l)) with_is ∙ before found (run ++ drop (4096 * i + length run) found) (4096 * i) (4096 * k) 4096 (omega (arith, less)) (omega (arith, fits_run)) ∙ sym (block_is found k)

  block_after : (k : ℕ) → i + n ≤ k → block_bytes (with_blocks i run found) k ≡ block_bytes found k
  block_after k high = block_is _ k ∙ ap (λ l. take 4096 (drop (4096 * k) l)) with_is ∙ ap (λ l. take 4096 l) (following run found (4096 * i) (4096 * k) (omega (arith, length_run, high)) fits_run) ∙ sym (block_is found k)

  block_within : (k : ℕ) → k < n → block_bytes (with_blocks i run found) (i + k) ≡ block_bytes second (i + k)
  block_within k less =
      let place : 4096 * (i + k) ≡ 4096 * i + 4096 * k = omega arith in
      block_is (with_blocks i run found) (i + k)
      ∙ ap (λ l. take 4096 (drop (4096 * (i + k)) l)) with_is
      ∙ ap (λ a. take 4096 (drop a (take (4096 * i) found ++ (run ++ drop (4096 * i + length run) found)))) place
      ∙ within run found (drop (4096 * i + length run) found) (4096 * i) (4096 * k) 4096 (omega (arith, length_run, less)) (omega (arith, fits_run))
      ∙ ap (λ l. take 4096 (drop (4096 * k) l)) (run_is ∙ sym (append-nil (take (4096 * n) (drop (4096 * i) second))))
      ∙ before (drop (4096 * i) second) [] (4096 * n) (4096 * k) 4096 (omega (arith, less)) (omega (arith, length-drop (4096 * i) second, low, same))
      ∙ ap (λ l. take 4096 l) (drop-drop (4096 * k) (4096 * i) second)
      ∙ ap (λ a. take 4096 (drop a second)) (sym place)
      ∙ sym (block_is second (i + k))

  length_with : length (with_blocks i run found) ≡ length found
  length_with =
      ap length with_is ∙ length-append (take (4096 * i) found) (run ++ drop (4096 * i + length run) found)
      ∙ omega (arith, length_run, length-append run (drop (4096 * i + length run) found), length-take-le (4096 * i) found (omega (arith, fits_run)), length-drop (4096 * i + length run) found, fits_run)

-- ---- a file whose dirty blocks are written

module _ (flags : List Bool) (first second : List ℕ) where
  pub changed_mixed : (found : List ℕ) (n : ℕ) → IsChanged flags n first second found → IsMixed found first second
  changed_mixed found n is = record { size = is.size; blocks = λ k inside. go k inside (nat_lt k n) refl (is_dirty flags k) refl }
    where
      go : (k : ℕ) → 4096 * k < length found → (b : Bool) → nat_lt k n ≡ b → (m : Bool) → is_dirty flags k ≡ m → (block_bytes found k ≡ block_bytes first k) ⊎ (block_bytes found k ≡ block_bytes second k)
      go k inside false e m f = inl (is.others k inside (inl (ltb-false k n e)))
      go k inside true e false f = inl (is.others k inside (inr f))
      go k inside true e true f = inr (is.dirtied k (ltb-true k n e) inside f)

  -- a run of dirty blocks is written
  module _ (found run : List ℕ) (i n : ℕ) (low : 4096 * (i + n) ≤ length second) (same : length first ≡ length second) (are : run ≡ blocks_of second i n)
      (on : (k : ℕ) → k < n → is_dirty flags (i + k) ≡ true) (is : IsChanged flags i first second found) where
    sized : length found ≡ length second
    sized = is.size ∙ same

    inside_found : 4096 * (i + n) ≤ length found
    inside_found = omega (arith, sized, low)

    size_with : length (with_blocks i run found) ≡ length found
    size_with = length_with found run second i n inside_found sized are

    run_written : IsChanged flags (i + n) first second (with_blocks i run found)
    run_written = record {
      size = size_with ∙ is.size;
      dirtied = λ k less inside e. at_dirty k (nat_lt k i) refl less (rw size_with at inside) e;
      others = λ k inside other. at_other k (nat_lt k i) refl (nat_lt k (i + n)) refl (rw size_with at inside) other;
    }
      where
        at_dirty : (k : ℕ) (b : Bool) → nat_lt k i ≡ b → k < i + n → 4096 * k < length found → is_dirty flags k ≡ true → block_bytes (with_blocks i run found) k ≡ block_bytes second k
        at_dirty k true b less inside e = block_before found run second i n inside_found sized are k (ltb-true k i b) ∙ is.dirtied k (ltb-true k i b) inside e
        at_dirty k false b less inside e =
            let high = ltb-false k i b in
            let place : i + (k - i) ≡ k = omega (arith, high) in
            ap (λ a. block_bytes (with_blocks i run found) a) (sym place) ∙ block_within found run second i n inside_found sized are (k - i) (omega (arith, high, less)) ∙ ap (λ a. block_bytes second a) place

        at_other : (k : ℕ) (b : Bool) → nat_lt k i ≡ b → (d : Bool) → nat_lt k (i + n) ≡ d → 4096 * k < length found → ((i + n ≤ k) ⊎ (is_dirty flags k ≡ false)) → block_bytes (with_blocks i run found) k ≡ block_bytes first k
        at_other k true b d f inside other =
            block_before found run second i n inside_found sized are k (ltb-true k i b) ∙ is.others k inside (elim other [ inl high ↦ inl (omega (arith, high)) | inr e ↦ inr e ])
        at_other k false b false f inside other =
            block_after found run second i n inside_found sized are k (ltb-false k (i + n) f) ∙ is.others k inside (inl (ltb-false k i b))
        at_other k false b true f inside other =
            let high = ltb-false k i b in
            let less = ltb-true k (i + n) f in
            let place : i + (k - i) ≡ k = omega (arith, high) in
            let dirtied : is_dirty flags k ≡ true = rw place at (on (k - i) (omega (arith, high, less))) in
            elim other [
              | inl far ↦ absurd (omega (arith, far, less))
              | inr offset ↦ absurd (let no : true ≡ false = sym dirtied ∙ offset in cc)
            ]

-- each block is that of one of two lists, of which each block is that of the first or of the second
mixed_then : (found a b first second : List ℕ) → IsMixed found a b → IsMixed a first second → IsMixed b first second → IsMixed found first second
mixed_then found a b first second mixed one other = record {
  size = mixed.size ∙ one.size;
  blocks = λ k inside. elim (mixed.blocks k inside) [
    | inl e ↦ either found a first second k e (one.blocks k (omega (arith, inside, mixed.size)))
    | inr e ↦ either found b first second k e (other.blocks k (omega (arith, inside, mixed.size, one.size, other.size)))
  ];
}
  where
    either : (found a first second : List ℕ) (k : ℕ) → block_bytes found k ≡ block_bytes a k → (block_bytes a k ≡ block_bytes first k) ⊎ (block_bytes a k ≡ block_bytes second k)
        → (block_bytes found k ≡ block_bytes first k) ⊎ (block_bytes found k ≡ block_bytes second k)
    either found a first second k e (inl is) = inl (e ∙ is)
    either found a first second k e (inr is) = inr (e ∙ is)

-- ---- what is known of a file

module _ (flags : List Bool) (first second : List ℕ) where
  pub known_stays : (known new : Known) (i : ℕ) → HasChanged known flags i first second → Stays known new → HasChanged new flags i first second
  known_stays None new i has stays = rw stays tt
  known_stays (Some known) new i has stays = rw stays has

  pub known_mixed : (known : Known) (i : ℕ) → HasChanged known flags i first second → HasBlocksOf known first second
  known_mixed None i has = tt
  known_mixed (Some None) i has = absurd has
  known_mixed (Some (Some found)) i has = changed_mixed flags first second found i has

  module _ (run : List ℕ) (i n : ℕ) (low : 4096 * (i + n) ≤ length second) (same : length first ≡ length second) (are : run ≡ blocks_of second i n) (on : (k : ℕ) → k < n → is_dirty flags (i + k) ≡ true) where
    pub known_written : (known new : Known) → HasChanged known flags i first second → Becomes (with_blocks i run) known new → HasChanged new flags (i + n) first second
    known_written None new has becomes = rw becomes tt
    known_written (Some None) new has becomes = absurd has
    known_written (Some (Some found)) new has becomes = rw becomes (run_written flags first second found run i n low same are on has)

    -- it is written partly
    pub known_partly : (known new : Known) → HasChanged known flags i first second → BecomesMixed (with_blocks i run) known new → HasBlocksOf new first second
    known_partly None new has becomes = rw becomes tt
    known_partly (Some None) new has becomes = absurd has
    known_partly (Some (Some found)) None has becomes = absurd becomes
    known_partly (Some (Some found)) (Some None) has becomes = absurd becomes
    known_partly (Some (Some found)) (Some (Some now)) has becomes =
        mixed_then now found (with_blocks i run found) first second becomes (changed_mixed flags first second found i has)
        (changed_mixed flags first second (with_blocks i run found) (i + n) (run_written flags first second found run i n low same are on has))

-- what is reported stays reported
pub stays_known : (known new : Known) → Stays known new → is_some new ≡ is_some known
stays_known None new stays = rw stays refl
stays_known (Some known) new stays = rw stays refl

pub becomes_reported : (known new : Known) (f : List ℕ → List ℕ) (flags : List Bool) (i : ℕ) (first second : List ℕ) → HasChanged known flags i first second → Becomes f known new → is_some new ≡ is_some known
becomes_reported None new f flags i first second has becomes = rw becomes refl
becomes_reported (Some None) new f flags i first second has becomes = absurd has
becomes_reported (Some (Some found)) new f flags i first second has becomes = rw becomes refl

-- ---- the attached file

pub stays_attached : (a b c : View) → StaysAttached a b → StaysAttached b c → StaysAttached a c
stays_attached a b c one two = record {
  attached = λ name. two.attached name ∙ one.attached name;
  blocks = two.blocks ∙ one.blocks;
  may_write = two.may_write ∙ one.may_write;
}

pub still_attached : (a : View) → StaysAttached a a
still_attached a = record { attached = λ name. refl; blocks = refl; may_write = refl }

pub still_ready : (base next : Image) (a b : View) → CanSave base a → length next ≡ length base → StaysAttached a b → CanSave next b
still_ready base next a b ready size stays = record {
  size = omega (arith, size, ready.size, stays.blocks);
  attached = (ready.attached.0, stays.attached ready.attached.0 ∙ ready.attached.1);
  may_write = stays.may_write ∙ ready.may_write;
}

-- ---- sizes

-- the two lists of bytes, by the sizes of their images
pub record AreSizes (first second : List ℕ) (blocks : ℕ) : Type 0 where
  pub same : length first ≡ length second
  pub whole : length second ≡ 4096 * blocks

pub are_sizes : (was : List ℕ) (memory : Memory) (blocks : ℕ) → length was ≡ 4096 * blocks → length memory.base ≡ 512 * blocks → AreSizes was (image_bytes (current_words memory)) blocks
are_sizes was memory blocks first second = record {
  same = omega (arith, length-image_bytes (current_words memory), length-current_words memory, first, second);
  whole = omega (arith, length-image_bytes (current_words memory), length-current_words memory, second);
}

-- ---- what is said whatever the result

pub on_ok : {T E P : Type 0} (r : Result T E) → P → OnOk r P
on_ok (Ok x) p = p
on_ok (Err e) p = tt

pub on_err : {T E P : Type 0} (r : Result T E) → P → OnErr r P
on_err (Ok x) p = tt
on_err (Err e) p = p

-- ---- a run of dirty blocks is none where no block is dirty
pub clean_run : (flags : List Bool) (first run : ℕ) → AreClean flags → first < length flags → (run ≡ 0 → ⊥) → ((k : ℕ) → k < run → is_dirty flags (first + k) ≡ true) → ⊥
clean_run flags first zero none inside some on = some refl
clean_run flags first (suc run) none inside some on = let no : true ≡ false = sym (on 0 (omega arith)) ∙ none (first + 0) (omega (arith, inside)) in cc
