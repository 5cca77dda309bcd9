use Rattle.std.proofs.Common.{List, length, sym, ◌∙◌, subst}
use Rattle.bp_calls.proofs.NothingInSnapshot.{clear_at_once}
use Rattle.bp_calls.proofs.WriteTargets.{file_some, write_ways_at}
use Rattle.bp_layout.specs.Members.{Has}
use Rattle.bp_layout.specs.Need.Change.{writes}
use Rattle.bp_layout.specs.WordPaths.{WordPath}
use Rattle.pm_region.specs.Memory.{current_words}
use Rattle.bp_calls.proofs.writes.is_clear.Goals as goal

pub returns-then-count-eq0 : goal.returns-then-count-eq0
returns-then-count-eq0 g c =
    λ is. clear_at_once g.R.Region.memory (writes c.args.ino c.args.offset (length c.args.bytes.now)) c.args.parts.now c.requires.mounted (sym c.count.ensures ∙ c.if-count-eq0.true)

pub thaw_need-requires-clause-ways : goal.thaw_need-requires-clause-ways
thaw_need-requires-clause-ways g c =
    let image = current_words (g.R.Region.memory c.args.parts.now.region) in
    λ path has. (write_ways_at image c.requires.mounted.well_formed c.args.ino c.args.offset (length c.args.bytes.now) (file_some image c.args.ino c.requires.can.file) c.requires.can.reached c.requires.can.some) path
    (subst (λ (ps : List WordPath). Has ps path) c.writing-targets.ensures has)
