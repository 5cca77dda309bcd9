use Rattle.std.proofs.Common.{◌≡◌, ◌≤◌, drop, false, map, take}
use Rattle.std.specs.List.{list_any}
use Rattle.std.specs.Option.{is_none}
use Rattle.std.specs.Prelude.{IfSome}
use Rattle.arrayvec.specs.ArrayVec.{array_vec_len}
use Rattle.bp_cache.specs.Cache.{IsCacheOf}
use Rattle.bp_calls.specs.Overwritten.{patches_seen}
use Rattle.bp_layout.specs.Paths.{parse}
use Rattle.bp_plain.specs.Plain.{first, piece_refusal}
use Rattle.bp_plain.specs.PlainTree.{FileTree}
use Rattle.bp_plain.specs.Seen.{piece_in}
use Rattle.bp_plain.specs.Stands.{Stands}
use Rattle.bp_stands.specs.Pieces.{ArePatches}
use Rattle.bp_fs.specs.Step.{FindsFile}
use Rattle.pm_region.specs.Memory.{current_words}
use Rattle.bp_volume.proofs.batch.patches_for.Given as goal

abbrev pub invariant-loop-piece : goal.invariant-loop-piece
invariant-loop-piece g l = record {
  are : ArePatches (current_words (g.R.Region.memory l.region)) (map (piece_in l.text) (take l.piece-index l.pieces)) (patches_seen l.patches.items);
  count : array_vec_len l.patches ≤ l.piece-index;
  left : (tree : FileTree) → Stands (current_words (g.R.Region.memory l.region)) tree →
      first (map (piece_refusal tree.now.nodes) (map (piece_in l.text) (drop l.piece-index l.pieces))) ≡ first (map (piece_refusal tree.now.nodes) (map (piece_in l.text) l.pieces));
  paths : list_any (λ piece. is_none (parse piece.path)) (map (piece_in l.text) (drop l.piece-index l.pieces)) ≡ false;
  last : IfSome l.last (λ last. FindsFile (current_words (g.R.Region.memory l.region)) last.path.now last.file.ino last.file.size);
  right : IsCacheOf (current_words (g.R.Region.memory l.region)) l.cache;
}
