use Rattle.std.proofs.Common.{◌≡◌, length, refl}
use Rattle.std.proofs.lemmas.Bool.{OnTrue_from}
use Rattle.bp_layout.specs.Directory.{name_in}
use Rattle.pm_region.specs.Memory.{current_words}
use Rattle.bp_cache.specs.Index.{IsIndexed, KeepsIndexed}
use Rattle.bp_cache.proofs.ChangeLaws.{indexed_entered, others_entered}
use Rattle.bp_cache.proofs.index.Index.scan.Goals as goal

pub returns-in-Some-clause-here : goal.returns-in-Some-clause-here
returns-in-Some-clause-here g c =
    let image = current_words (g.R.Region.memory c.args.region.now) in
    OnTrue_from c.take_in.result (IsIndexed image c.args.tree.root c.args.slot c.take_in.new.self)
    (λ reported. indexed_entered image c.args.tree.root c.args.self.now c.take_in.new.self (name_in image c.args.tree.root c.args.slot) c.args.slot
    (c.take_in.ensures image c.args.tree.root c.in-Some.ensures.words reported) (record { live = c.in-Some.ensures.some; spelled = refl }))

pub returns-in-Some-clause-others : goal.returns-in-Some-clause-others
returns-in-Some-clause-others g c =
    let image = current_words (g.R.Region.memory c.args.region.now) in
    OnTrue_from c.take_in.result (KeepsIndexed image c.args.tree.root c.args.slot c.args.self.now c.take_in.new.self)
    (λ reported. others_entered image c.args.tree.root c.args.self.now c.take_in.new.self (name_in image c.args.tree.root c.args.slot) c.args.slot
    (c.take_in.ensures image c.args.tree.root c.in-Some.ensures.words reported))

pub returns-in-Some-clause-room : goal.returns-in-Some-clause-room
returns-in-Some-clause-room g c =
    let image = current_words (g.R.Region.memory c.args.region.now) in
    OnTrue_from c.take_in.result (length c.take_in.new.self.empties ≡ length c.args.self.now.empties)
    (λ reported. (c.take_in.ensures image c.args.tree.root c.in-Some.ensures.words reported).empties.room)
