-- The image in which another tree is the first reads each tree as the image does.
use Rattle.std.proofs.Common.{◌≡◌, ◌≢◌, ℕ, ◌*◌, ◌/◌, ◌≤◌, length, set, sym, ◌∙◌, ap, subst, arith, get_or-set_same, get_or-set_other}
use Rattle.std.proofs.lemmas.List.{length-set}
use Rattle.bp_limits.specs.Limits.{magic, max_blocks, version_at}
use Rattle.bp_layout.specs.Formatted.{IsFormatted, IsSized, version_of}
use Rattle.bp_layout.specs.Words.{Image, word}
use Rattle.bp_layout.specs.Trees.{snapshot_of}

pub length-snapshot : (image : Image) → length (snapshot_of image) ≡ length image
length-snapshot image = length-set (set image 2 (word image 4)) 3 (word image 5) ∙ length-set image 2 (word image 4)

pub snapshot-root : (image : Image) → 4 ≤ length image → word (snapshot_of image) 2 ≡ word image 4
snapshot-root image some =
    get_or-set_other (set image 2 (word image 4)) 3 2 (word image 5) 0 (λ e. omega (arith, e)) ∙ get_or-set_same image 2 (word image 4) 0 (omega (arith, some))

pub snapshot-size : (image : Image) → 4 ≤ length image → word (snapshot_of image) 3 ≡ word image 5
snapshot-size image some =
    get_or-set_same (set image 2 (word image 4)) 3 (word image 5) 0 (rw (length-set image 2 (word image 4)) (omega (arith, some)))

pub snapshot-word : (image : Image) (place : ℕ) → place ≢ 2 → place ≢ 3 → word (snapshot_of image) place ≡ word image place
snapshot-word image place not_root not_size =
    get_or-set_other (set image 2 (word image 4)) 3 place (word image 5) 0 not_size ∙ get_or-set_other image 2 place (word image 4) 0 not_root

-- so it has one version
pub snapshot-version : (image : Image) → version_of (snapshot_of image) ≡ version_of image
snapshot-version image = ap version_at (snapshot-word image 0 (λ e. omega (arith, e)) (λ e. omega (arith, e)))

-- the length of an image, and the head of a formatted one
pub snapshot-sized : (image : Image) → IsSized image → IsSized (snapshot_of image)
snapshot-sized image sized = record {
  whole = subst (λ n. n ≡ 512 * (n / 512)) (sym (length-snapshot image)) sized.whole;
  at_least = subst (λ n. 8 ≤ n / 512) (sym (length-snapshot image)) sized.at_least;
  at_most = subst (λ n. n / 512 ≤ max_blocks) (sym (length-snapshot image)) sized.at_most;
}

pub snapshot-formatted : (image : Image) → IsFormatted image → IsFormatted (snapshot_of image)
snapshot-formatted image formatted = record {
  sized = snapshot-sized image formatted.sized;
  has_magic = snapshot-word image 0 (λ e. omega (arith, e)) (λ e. omega (arith, e)) ∙ formatted.has_magic ∙ ap magic (sym (snapshot-version image));
  counted = snapshot-word image 1 (λ e. omega (arith, e)) (λ e. omega (arith, e)) ∙ formatted.counted ∙ ap (λ n. n / 512) (sym (length-snapshot image));
}
