-- The bytes of a tree, by their offsets.
use Rattle.std.specs.Prelude.{ℕ, List, map}
use Rattle.std.specs.List.{range_with_len}
use Rattle.bp_layout.specs.Words.{Image}
use Rattle.bp_layout.specs.Tree.{byte}

-- `count` bytes of a tree's content, from an offset on
abbrev pub content_part : Image → ℕ → ℕ → ℕ → List ℕ
content_part image root offset count = map (byte image root) (range_with_len offset count)
