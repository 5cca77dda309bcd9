use Rattle.std.proofs.Common.{◌≡◌, map, ◌∙◌, ap, ap₂}
use Rattle.bp_plain.specs.Calls.{Answer}
use Rattle.bp_plain.specs.Calls.Answer.{done}
use Rattle.bp_plain.specs.Plain.{with_now, with_pieces}
use Rattle.bp_plain.specs.PlainTree.{FileTree, PathMap}
use Rattle.bp_plain.specs.Seen.{piece_in}
use Rattle.bp_plain.specs.SeenMap.{tree_seen}
use Rattle.bp_plain.proofs.Carried.{batch_carried}
use Rattle.bp_plain.proofs.trees.Plain.batch.Goals as goal

pub returns-clause-done : goal.returns-clause-done
returns-clause-done c =
    let made : c.write_pieces.new.self ≡ with_pieces c.self.inside.current (map (piece_in c.args.text.now) c.args.pieces.now) =
    c.in_ok-write_pieces.ensures ∙ ap (λ (m : PathMap). with_pieces m (map (piece_in c.args.text.now) c.args.pieces.now)) c.in_ok-written.ensures in
    ap₂ (λ (a : Answer) (m : PathMap). (a, with_now (tree_seen c.self.inside) m)) c.set_done.ensures.answer made
    ∙ ap (λ (tree : FileTree). (done, with_now tree (with_pieces tree.now (map (piece_in c.args.text.now) c.args.pieces.now)))) c.self.view_is
    ∙ batch_carried c.args.self.now (map (piece_in c.args.text.now) c.args.pieces.now)
