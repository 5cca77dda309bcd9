use Rattle.std.proofs.Common.{map, nat_lt, option_map, sym, ◌∙◌, ap}
use Rattle.bp_limits.specs.CallLimits.{max_batch}
use Rattle.bp_plain.specs.Calls.Refusal.{bad_path, too_long}
use Rattle.bp_plain.specs.Plain.{first, piece_refusal, when}
use Rattle.bp_plain.specs.PlainTree.{PathMap}
use Rattle.bp_plain.specs.Seen.{piece_in, refusal_of}
use Rattle.bp_plain.proofs.Carried.{batch_refused, sum_lies}
use Rattle.bp_plain.proofs.trees.Plain.refuses_batch.Goals as goal

pub returns : goal.returns
returns c =
    c.first.ensures
    ∙ batch_refused c.args.self.now (map (piece_in c.args.text.now) c.args.pieces.now)
    (option_map refusal_of c.when.result) (option_map refusal_of c.when-2.result) (option_map refusal_of c.in_ok-refused.refused)
    (c.when.ensures ∙ ap (λ b. when b bad_path) c.in_ok-has_bad_path.ensures)
    (c.when-2.ensures ∙ ap (λ n. when (nat_lt max_batch n) too_long) (c.total.ensures ∙ sym (sum_lies c.args.text.now c.args.pieces.now c.requires.lie)))
    (c.in_ok-refused.ensures ∙ ap (λ (m : PathMap). first (map (piece_refusal m.nodes) (map (piece_in c.args.text.now) c.args.pieces.now))) c.current.ensures)
