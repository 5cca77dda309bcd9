use Rattle.std.proofs.Common.{◌≡◌, IfOk, sym, ◌∙◌, ap, subst}
use Rattle.bp_plain.specs.Plain.{path_count}
use Rattle.bp_plain.specs.PlainTree.{PathMap}
use Rattle.bp_plain.specs.SeenTree.{names_of}
use Rattle.bp_plain.proofs.LinkCounts.{counted, counted_none}
use Rattle.bp_plain.proofs.trees.maps.FileMap.links.Goals as goal

pub returns-in-Some : goal.returns-in-Some
returns-in-Some c =
    subst (λ count. IfOk c.count.result (λ n. n ≡ count))
    (sym (counted c.self.inside.files (names_of c.args.path.now) c.in-Some.id (sym c.in-Some.ensures)) ∙ ap (λ (m : PathMap). path_count m.one (names_of c.args.path.now)) c.self.view_is)
    c.count.ensures

pub returns-in-None : goal.returns-in-None
returns-in-None c =
    sym (counted_none c.self.inside.files (names_of c.args.path.now) (sym c.in-None.ensures))
    ∙ ap (λ (m : PathMap). path_count m.one (names_of c.args.path.now)) c.self.view_is
