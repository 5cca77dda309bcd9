use Rattle.std.proofs.Common.{List, refl, subst}
use Rattle.std.proofs.lemmas.List.Elements.{recursion_from_All}
use Rattle.bp_plain.specs.Export.{export_calls, without_snapshot}
use Rattle.bp_plain.specs.PlainTree.{FileTree, empty_tree}
use Rattle.bp_plain.specs.Stands.{Stands}
use Rattle.bp_plain.proofs.Exported.{export_done}
use Rattle.bp_roles.specs.Mounted.{served_words}
use Rattle.bp_script.specs.Commands.{Command}
use Rattle.bp_session.specs.PlainSession.{PlainSession, ReportsNoSpace, fresh}
use Rattle.bp_session.proofs.ExportedLines.{calls_done, export_asks}
use Rattle.bp_session.proofs.PlainLaws.{follows_fresh, plain_session}
use Rattle.bp_session.proofs.laws.exports_make_their_trees.Goals as goal

pub returns : goal.returns
returns c = λ old new tree replies can of_bytes empty stands session never.
    let run = plain_session old (fresh (empty_tree tree.version)) _ replies new (follows_fresh old.system (empty_tree tree.version) empty stands) session in
    let calls = subst (λ (commands : List Command). PlainSession (fresh (empty_tree tree.version)) commands replies run.plain) (export_asks tree can of_bytes) run.session in
    let is = calls_done (export_calls tree) (fresh (empty_tree tree.version)) run.plain replies (empty_tree tree.version) (without_snapshot tree) refl (export_done tree can)
    calls (recursion_from_All (λ reply. ¬ ReportsNoSpace reply) replies never) in
    subst (λ (t : FileTree). Stands (served_words new.system) t) is run.follows.now
