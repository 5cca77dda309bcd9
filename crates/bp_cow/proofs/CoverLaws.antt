-- The way to the cover, slot by slot.
use Rattle.std.proofs.Common.{◌≡◌, ◌≢◌, ◌⊎◌, ℕ, zero, suc, ◌+◌, ◌-◌, ◌*◌, ◌/◌, ◌<◌, ◌≤◌, List, [], ◌∷◌, length, refl, sym, ◌∙◌, ap, subst, arith, inl, inr}
use Rattle.std.specs.List.{slice_index}
use Rattle.std.proofs.Math.ListN.{get_or-append}
use Rattle.std.proofs.lemmas.Bool.{cases_eq, cases_lt}
use Rattle.bp_layout.specs.Words.{Image, word, block_count}
use Rattle.bp_changes.specs.Trail.{word_on, block_on, place_on, trail_of, IsPlaced}
use Rattle.bp_changes.specs.Trail.IsPlaced.{at_top, in_block}
use Rattle.bp_layout.specs.WordPaths.{digits}
use Rattle.bp_changes.proofs.PathTrails.{trail_of-next, word-placed}
use Rattle.bp_cow.specs.declared.touched.Run.{Run}
use Rattle.bp_cow.specs.declared.touched.Touched.{Touched}
use Rattle.bp_cow.specs.declared.covers.FoundCover.{FoundCover}
use Rattle.bp_cow.specs.Touched.{IsRun, IsTouched, run_path, run_end, word_paths}
use Rattle.bp_cow.specs.Cover.{end_path, ends, BeginAlike}
use Rattle.bp_cow.specs.Found.{IsAt}
use Rattle.bp_cow.proofs.RunLaws.{length-run_path, slot-run_path}
use Rattle.bp_cow.proofs.RunsLaws.{ends-by}

pub run-slots : (run : Run) (k d : ℕ) → IsRun run → d < length (run_path run k) → slice_index (run_path run k) d < 512
run-slots run k d is low = go (cases_lt d (length run.root.items))
  where
    go : (d < length run.root.items) ⊎ (length run.root.items ≤ d) → slice_index (run_path run k) d < 512
    go (inl small) = subst (λ n. n < 512) (sym (get_or-append run.root.items (digits (suc run.height) k) 0 d small)) (is.slots d small)
    go (inr past) = omega (arith, slot-run_path run k d past low)

pub end-slots : (touched : Touched) → IsTouched touched → (i d : ℕ) → i < ends touched → d < length (end_path touched i) → slice_index (end_path touched i) d < 512
end-slots touched is i d here = ends-by touched.runs.now (word_paths touched) (length touched.words.now) (λ p. d < length p → slice_index p d < 512)
    (λ run has low. run-slots run (run.offset / 8) d (is.runs run has) low)
    (λ run has low. run-slots run ((run_end run - 1) / 8) d (is.runs run has) low)
    (λ k few low. is.slots k d few low) i here

pub some-ends : (touched : Touched) → IsTouched touched → 0 < ends touched
some-ends touched is = go touched.runs.now refl
  where
    go : (runs : List Run) → touched.runs.now ≡ runs → 0 < ends touched
    go [] e = let some : 0 < 0 + length touched.words.now = rw e at is.some in rw e (omega (arith, some))
    go (run ∷ runs) e = rw e (omega arith)

pub end-short : (touched : Touched) → IsTouched touched → (i : ℕ) → i < ends touched → length (end_path touched i) ≤ 12
end-short touched is = ends-by touched.runs.now (word_paths touched) (length touched.words.now) (λ p. length p ≤ 12)
    (λ run has. let short = (is.runs run has).short in omega (arith, length-run_path run (run.offset / 8), short))
    (λ run has. let short = (is.runs run has).short in omega (arith, length-run_path run ((run_end run - 1) / 8), short))
    (λ k few. is.short k few)

pub at-start : (image : Image) (touched : Touched) → 512 ≤ length image → IsAt image touched (record { len = 0; place = 2 })
at-start image touched some = record {
  alike = record { long = λ i here. omega arith; same = λ i here. refl };
  exists = λ d low. absurd (omega (arith, low));
  placed = at_top;
  place = refl;
  low = omega (arith, some);
}

-- the pointer at the end of the prefix
pub at-word : (image : Image) (touched : Touched) (found : FoundCover) → IsAt image touched found → word image found.place ≡ word_on image (trail_of (end_path touched 0) found.len)
at-word image touched found at =
    ap (word image) (sym at.place) ∙ word-placed image (λ q. Unit {0}) (trail_of (end_path touched 0) found.len) at.placed

-- below the root word of the inode file, the place is one of a block that is not null
place-past_head : (image : Image) (path : List ℕ) (count : ℕ) → 0 < count → ((d : ℕ) → d < count → block_on image (trail_of path d) ≢ 0) → 512 ≤ place_on image (trail_of path count)
place-past_head image path zero some exists = absurd (omega (arith, some))
place-past_head image path (suc n) some exists = let present = exists n (omega arith) in omega (arith, present)

pub at-past_head : {image : Image} {touched : Touched} {found : FoundCover} → IsAt image touched found → 0 < found.len → 512 ≤ found.place
at-past_head {image} {touched} {found} at some =
    let past = place-past_head image (end_path touched 0) found.len some at.exists in
    omega (arith, past, at.place)

pub at-next : (image : Image) (touched : Touched) (found : FoundCover) → IsTouched touched → IsAt image touched found → BeginAlike touched (found.len + 1) → (block slot : ℕ) → block ≢ 0 →
    block ≡ block_on image (trail_of (end_path touched 0) found.len) → block < block_count image → slot ≡ slice_index (end_path touched 0) found.len →
    IsAt image touched (record { len = found.len + 1; place = 512 * block + slot })
at-next image touched found is at alike block slot some named low slot_is =
    let first : List ℕ = end_path touched 0 in
    let slot_low : slice_index first found.len < 512 = end-slots touched is 0 found.len (some-ends touched is) (omega (arith, alike.long 0 (some-ends touched is))) in
    record {
      alike = alike;
      exists = λ d small. exists d small (cases_eq d found.len);
      placed = subst (IsPlaced image (λ q. Unit {0})) (sym (trail_of-next first found.len)) (in_block (slice_index first found.len) (trail_of first found.len) tt (λ null. some (named ∙ null)) slot_low);
      place = ap (place_on image) (trail_of-next first found.len) ∙ omega (arith, named, slot_is);
      low = omega (arith, low, slot_is, slot_low);
    }
  where
    exists : (d : ℕ) → d < found.len + 1 → (d ≡ found.len) ⊎ (d ≡ found.len → ⊥) → block_on image (trail_of (end_path touched 0) d) ≢ 0
    exists d small (inl e) = λ null. some (named ∙ ap (λ k. block_on image (trail_of (end_path touched 0) k)) (sym e) ∙ null)
    exists d small (inr n) = at.exists d (omega (arith, small, n))
