-- The paths of a play, as bytes.
use Rattle.std.specs.Prelude.{ℕ, List, take}
use Rattle.bp_play.specs.declared.paths.PlayPath.{PlayPath}

-- The path.
abbrev pub play_path : PlayPath → List ℕ
play_path path = take path.len path.text
