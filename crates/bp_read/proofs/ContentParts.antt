-- A part of a tree's content.
use Rattle.std.proofs.Common.{◌≡◌, ℕ, ◌+◌, ◌-◌, ◌≤◌, take, drop, map, ◌++◌, sym, ◌∙◌, ap, arith}
use Rattle.std.specs.List.{range_with_len}
use Rattle.std.proofs.lemmas.List.{drop_at}
use Rattle.std.proofs.lemmas.List.FromFn.{length-map-range_with_len, take-map-range_with_len}
use Rattle.bp_layout.specs.Words.{Image}
use Rattle.bp_layout.specs.Tree.{byte, content}
use Rattle.bp_read.specs.Bytes.{content_part}
use Rattle.bp_layout.proofs.Ranges.{in_a_row}

-- it is what stands there in the whole content
pub content_part-is : (image : Image) (root size offset count : ℕ) → offset + count ≤ size → content_part image root offset count ≡ take count (drop offset (content image root size))
content_part-is image root size offset count within =
    let f : ℕ → ℕ = byte image root in
    let all : offset + (size - offset) ≡ size = omega (arith, within) in
    let split : content image root size ≡ content_part image root 0 offset ++ content_part image root offset (size - offset) =
    ap (λ n. map f (range_with_len 0 n)) (sym all) ∙ sym (in_a_row f 0 offset (size - offset) offset (omega arith)) in
    sym (ap (λ xs. take count (drop offset xs)) split
    ∙ ap (take count) (drop_at (content_part image root 0 offset) (content_part image root offset (size - offset)) offset (length-map-range_with_len f 0 offset))
    ∙ take-map-range_with_len f offset (size - offset) count (omega (arith, within)))
