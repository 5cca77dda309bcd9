use Rattle.std.proofs.Common.{◌++◌, sym, ◌∙◌, ap, append-nil, map}
use Rattle.std.specs.List.{filter_map}
use Rattle.std.specs.FinMap.{entries}
use Rattle.bp_layout.specs.Paths.{rest_below}
use Rattle.bp_layout.specs.Listing.{listed}
use Rattle.bp_plain.specs.Plain.{listed_in, only_name}
use Rattle.bp_plain.specs.Numbered.{plain_entry}
use Rattle.bp_plain.specs.SeenTree.{names_of}
use Rattle.bp_plain.proofs.Numbers.{entries-plain}
use Rattle.bp_plain.proofs.Kept.{all_entries, row_found, rows, same_bytes}
use Rattle.bp_plain.proofs.trees.entries.Files.names.Goals as goal

pub loop-path-preserved-in_ok-push : goal.loop-path-preserved-in_ok-push
loop-path-preserved-in_ok-push c =
    row_found c.args.dir.now (c.in-Some.path.now, c.in-Some.node.now) c.next.new.self c.loop-path.path-iterator c.loop-path.names.items _ c.kind_of.result c.in_ok-clone.field-0 c.in-Some-name_below.name.now.items _
    c.in-Some.ensures.steps
    (c.in-Some-name_below.ensures ∙ ap (λ path. only_name (rest_below (names_of c.args.dir.now) (names_of path))) c.as_slice.ensures.value)
    c.in_ok-push.ensures.items (same_bytes _ _ c.in_ok-clone.ensures.cases) c.kind_of.ensures c.loop-path.invariant

pub returns : goal.returns
returns c =
    sym (append-nil (listed c.loop-path.names.items)) ∙ ap (λ es. listed c.loop-path.names.items ++ rows c.args.dir.now es) (sym c.in-None.ensures.steps.0) ∙ c.loop-path.invariant
    ∙ ap (rows c.args.dir.now) (c.into_iter-path-iterator.ensures.into_iter_gives ∙ c.iter-path-items.ensures.rest)
    ∙ ap (λ es. filter_map (listed_in (names_of c.args.dir.now)) (map plain_entry es)) (sym (all_entries c.self.inside.nodes.entries c.self.invariant) ∙ ap entries c.self.view_is)
    ∙ ap (filter_map (listed_in (names_of c.args.dir.now))) (sym (entries-plain c.args.self.now))
