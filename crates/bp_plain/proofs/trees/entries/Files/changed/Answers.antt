use Rattle.std.proofs.Common.{sym, ◌∙◌, ap, ap₂, map}
use Rattle.std.specs.FinMap.{entries, from_entries}
use Rattle.std.specs.Iterator.Adapters.{rev_source}
use Rattle.std.specs.List.{filter_map}
use Rattle.bp_plain.specs.Changed.{changed, with_entry}
use Rattle.bp_plain.specs.PlainTree.{path_cmp}
use Rattle.bp_plain.specs.SeenTree.{entry_kept, names_of, numbered}
use Rattle.bp_plain.proofs.Kept.{all_entries}
use Rattle.bp_plain.proofs.Renamed.{all_put, all_put-is, put_more}
use Rattle.bp_plain.proofs.trees.entries.Files.changed.Goals as goal

pub loop-path-preserved : goal.loop-path-preserved
loop-path-preserved c =
    put_more c.args.change.now (c.in-Some.path.now, c.in-Some.node.now) c.next.new.self.iter c.loop-path.path-iterator.iter c.loop-path.files c.put_changed.new.self _
    c.in-Some.ensures.steps
    (c.in_ok-put_changed.ensures
    ∙ ap (λ path. with_entry (changed c.args.change.now (names_of path, numbered c.in-Some.node.now)) c.loop-path.files) c.as_slice.ensures.value)
    c.loop-path.invariant

pub returns : goal.returns
returns c =
    ap (λ es. all_put c.args.change.now (map entry_kept es) c.loop-path.files) (sym c.in-None.ensures.steps.0)
    ∙ c.loop-path.invariant
    ∙ ap₂ (λ es files. all_put c.args.change.now (map entry_kept es) files)
    (ap rev_source c.into_iter-path-iterator.ensures.into_iter_gives ∙ c.rev-path-items.ensures.source ∙ c.iter.ensures.rest) c.with_nothing-files.ensures
    ∙ all_put-is c.args.change.now (map entry_kept c.self.inside.nodes.entries)
    ∙ ap (λ es. from_entries {R = path_cmp} (filter_map (changed c.args.change.now) es))
    (sym (all_entries c.self.inside.nodes.entries c.self.invariant) ∙ ap entries c.self.view_is)
