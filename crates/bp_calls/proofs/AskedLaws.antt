-- What is read of a file.
use Rattle.std.proofs.Common.{◌≡◌, ℕ, ◌-◌, List, [], length, take, drop, min, Bool, true, false, refl, sym, ◌∙◌, ap, arith}
use Rattle.std.specs.Prelude.{nat_le}
use Rattle.std.proofs.lemmas.Bool.{leb-true, leb-false}
use Rattle.std.proofs.lemmas.List.{length-drop, take_min}
use Rattle.std.proofs.lemmas.List.FromFn.{length-map-range_with_len}
use Rattle.bp_layout.specs.Words.{Image}
use Rattle.bp_layout.specs.Tree.{byte, content}
use Rattle.bp_read.specs.Bytes.{content_part}
use Rattle.bp_read.proofs.ContentParts.{content_part-is}

-- as many bytes as there are from an offset on
pub read_part : (image : Image) (root size offset len count : ℕ) → count ≡ min len (size - offset) → content_part image root offset count ≡ take len (drop offset (content image root size))
read_part image root size offset len count is = go (nat_le offset size) refl
  where
    whole : List ℕ
    whole = content image root size

    size_is : length whole ≡ size
    size_is = length-map-range_with_len (byte image root) 0 size

    same : take count (drop offset whole) ≡ take len (drop offset whole)
    same = ap (λ n. take n (drop offset whole)) (is ∙ ap (min len) (sym (length-drop offset whole ∙ ap (λ n. n - offset) size_is))) ∙ take_min len (drop offset whole)

    go : (b : Bool) → nat_le offset size ≡ b → content_part image root offset count ≡ take len (drop offset whole)
    go true at = content_part-is image root size offset count (omega (arith, is, leb-true offset size at)) ∙ same
    go false at =
        let none : count ≡ 0 = omega (arith, is, leb-false offset size at) in
        let empty : content_part image root offset count ≡ [] = rw none refl in
        empty ∙ sym (ap (λ n. take n (drop offset whole)) none) ∙ same
