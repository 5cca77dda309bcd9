use Rattle.std.proofs.Common.{◌≡◌, ℕ, ◌+◌, ◌<◌, List, length, ap, subst, arith}
use Rattle.std.proofs.lemmas.Result.{err_from_is_err_and}
use Rattle.pm_region.specs.Memory.{current_words}
use Rattle.bp_layout.specs.Inode.{size_of}
use Rattle.bp_plain.specs.Seen.{piece_in, refusal_of, spanned}
use Rattle.bp_fs.specs.Step.{PathFinds}
use Rattle.bp_volume.specs.Queries.{StopsAtFile}
use Rattle.bp_volume.proofs.BatchLaws.{piece_past, piece_stopped}
use Rattle.bp_volume.proofs.batch.patch_for.Goals as goal
use Rattle.bp_volume.proofs.batch.patch_for.Goals.{then-file-piece-via-then-file-piece, then-file-piece-via-else-file-piece+then-file-piece-2}

pub returns-in_err-file-clause-refused : goal.returns-in_err-file-clause-refused
returns-in_err-file-clause-refused g c =
    let p = err_from_is_err_and c.from_residual.result c.from_residual.ensures.1 in
    rw (p.1, p.2)
    (piece_stopped _ (piece_in c.args.text.now c.args.piece.now) c.requires.path (refusal_of c.in_err-file.field-0.0)
    (subst (λ (text : List ℕ). StopsAtFile (current_words (g.R.Region.memory c.args.region.now)) text (refusal_of c.in_err-file.field-0.0)) c.part_of.ensures c.in_err-file.ensures.refused))

pub returns-then-file-piece-clause-refused : goal.returns-then-file-piece-clause-refused
returns-then-file-piece-clause-refused g c =
    let image = current_words (g.R.Region.memory c.args.region.now) in
    let count : length c.part_of-bytes.result.now ≡ length (spanned c.args.text.now c.args.piece.now.bytes) = ap (λ (xs : List ℕ). length xs) c.part_of-bytes.ensures in
    let past : size_of image c.in_ok-file.file.ino < c.args.piece.now.offset + length (spanned c.args.text.now c.args.piece.now.bytes) =
    elim c.then-file-piece.branch [
      | then-file-piece-via-then-file-piece w ↦ omega (arith, w.if-file-piece.true, c.in_ok-file.ensures.size)
      | then-file-piece-via-else-file-piece+then-file-piece-2 w ↦ omega (arith, w.if-file-piece-2.true, c.in_ok-file.ensures.size, count)
    ] in
    piece_past image (piece_in c.args.text.now c.args.piece.now) c.in_ok-file.file.ino
    (subst (λ (text : List ℕ). PathFinds image text c.in_ok-file.file.ino) c.part_of.ensures c.in_ok-file.ensures.found) c.in_ok-file.ensures.kind past
