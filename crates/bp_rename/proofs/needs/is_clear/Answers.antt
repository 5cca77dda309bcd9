use Rattle.std.proofs.Common.{List, sym, ◌∙◌, subst}
use Rattle.bp_calls.proofs.NothingInSnapshot.{clear_at_once}
use Rattle.bp_layout.specs.Members.{Has}
use Rattle.bp_layout.specs.WordPaths.{WordPath}
use Rattle.pm_region.specs.Memory.{current_words}
use Rattle.bp_rename.specs.CanRename.{change_of}
use Rattle.bp_rename.proofs.RenameTargets.{rename_ways}
use Rattle.bp_rename.proofs.needs.is_clear.Goals as goal

pub returns-then-count-eq0 : goal.returns-then-count-eq0
returns-then-count-eq0 g c =
    λ is. clear_at_once g.R.Region.memory (change_of c.args.to_move.now) c.args.parts.now (record { well_formed = c.requires.can.well_formed; exact = c.requires.exact }) (sym c.count.ensures ∙ c.if-count-eq0.true)

pub thaw_need-requires-clause-ways : goal.thaw_need-requires-clause-ways
thaw_need-requires-clause-ways g c =
    λ path has. rename_ways (current_words (g.R.Region.memory c.args.parts.now.region)) c.args.to_move.now c.requires.can path (subst (λ (ps : List WordPath). Has ps path) c.targets_of-targets.ensures has)
