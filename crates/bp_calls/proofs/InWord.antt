-- A write within one word that has a block copies nothing: the store of the word is all of it.
use Rattle.std.proofs.Common.{◌≡◌, ℕ, zero, suc, ◌+◌, ◌-◌, ◌/◌, [], ◌∷◌, ◌++◌, length, min, refl, ap, arith, flat_map, fold, ◌==◌, if◌then◌else◌}
use Rattle.std.proofs.lemmas.Bool.{le-ltb, lt-ltb}
use Rattle.bp_calls.specs.InPlace.{LiesInWord}
use Rattle.bp_layout.specs.Inode.{root_of, size_of}
use Rattle.bp_layout.specs.Need.{Beyond, Change, beyond, content_path, copied, height_after, is_there_after, need, prepared_for, touched}
use Rattle.bp_layout.specs.Need.Change.{writes}
use Rattle.bp_layout.specs.Nodes.{height_with}
use Rattle.bp_layout.specs.WellFormed.{IsWellFormed}
use Rattle.bp_layout.specs.Words.{Image, height_of}
use Rattle.bp_layout.proofs.TreeLaws.{live_content}
use Rattle.bp_read.proofs.ExistingPaths.{AllThere, copied-one, word_path-there}

module _ (image : Image) (wf : IsWellFormed image) (n offset len : ℕ) (lies : LiesInWord image (suc n) offset len) where
  abbrev change : Change
  change = writes (suc n) offset len

  none_beyond : beyond image change ≡ []
  none_beyond = rw (le-ltb (size_of image (suc n)) (offset + len) lies.below) refl

  keeps_height : (t : ℕ) → height_after image change t ≡ height_of (root_of image t)
  keeps_height t = ap (λ bs. fold (λ h (b : Beyond). if b.tree == t then height_with (root_of image t) (size_of image t) b.to else h) (height_of (root_of image t)) (bs ++ [])) none_beyond

  one : touched image change ≡ content_path image change (suc n) (offset / 8) ∷ []
  one =
      let last : (min (offset + len) (size_of image (suc n)) - 1) / 8 - offset / 8 ≡ 0 = omega (arith, lies.some, lies.below, lies.one_word) in
      rw (lt-ltb offset (size_of image (suc n)) (omega (arith, lies.some, lies.below)), last, le-ltb (size_of image (suc n)) (offset + len) lies.below) refl

  whole : AllThere (is_there_after image change) [] (content_path image change (suc n) (offset / 8))
  whole = rw (keeps_height (suc n))
      (word_path-there image change wf (keeps_height 0) (suc n) (suc (height_of (root_of image (suc n)))) (offset / 8) lies.reached (keeps_height (suc n))
      (live_content (root_of image (suc n)) (size_of image (suc n)) (offset / 8) (omega (arith, lies.some, lies.below))) (rw same at lies.has_block))
    where
      same : offset / 4096 ≡ offset / 8 / 512
      same = omega arith

  none_written : need image change ≡ 0
  none_written =
      let made : length (flat_map (prepared_for image) (beyond image change)) ≡ 0 = ap (λ bs. length (flat_map (prepared_for image) bs)) none_beyond in
      let copies : length (copied image change) ≡ 0 = ap length (copied-one image change (content_path image change (suc n) (offset / 8)) one whole) in
      omega (arith, made, copies)

-- stated of any number
pub none_writing : (image : Image) → IsWellFormed image → (i offset len : ℕ) → LiesInWord image i offset len → need image (writes i offset len) ≡ 0
none_writing image wf zero offset len lies = absurd (omega (arith, lies.file))
none_writing image wf (suc n) offset len lies = none_written image wf n offset len lies
