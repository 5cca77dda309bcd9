use Rattle.std.proofs.Common.{refl, ◌∙◌, ap₂}
use Rattle.std.specs.FinMap.{insert}
use Rattle.bp_layout.specs.Paths.{no_attributes}
use Rattle.bp_plain.specs.Numbered.Numbered.{directory}
use Rattle.bp_plain.specs.declared.trees.entries.Node.TheVariants as kept
use Rattle.bp_plain.specs.SeenTree.{names_of}
use Rattle.bp_plain.proofs.Kept.{no_entries, tree_after_put}
use Rattle.bp_plain.proofs.trees.entries.Files.root_alone.Goals as goal

pub returns : goal.returns
returns c =
    tree_after_put c.new-nodes.result.entries (rw c.new-nodes.ensures.empty refl) c.new.result (kept.Dir no_attributes) _ c.in_ok-insert.ensures.entries
    ∙ ap₂ (λ tree path. insert tree (names_of path) (directory no_attributes)) (no_entries c.new-nodes.result.entries c.new-nodes.ensures.empty) c.new.ensures.items
