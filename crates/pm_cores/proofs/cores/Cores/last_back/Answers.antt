use Rattle.std.proofs.Common.{◌≡◌, ◌∙◌, arith, get_or, sym}
use Rattle.std.proofs.lemmas.List.{get_or_read}
use Rattle.pm_cores.proofs.Report.{last_within, back_clean, back_dirty}
use Rattle.pm_cores.proofs.Vectors.{last_read, since_read, waiting_read}
use Rattle.pm_cores.proofs.cores.Cores.last_back.Goals.{After-index-since}
use Rattle.pm_cores.proofs.cores.Cores.last_back.Goals as goal

-- the number that is read is the word's
since_at : (c : After-index-since) → c.index-since.result.now ≡ get_or c.self.inside.since.items c.args.i 0
since_at c = since_read c.self.inside c.self.invariant c.args.i _ (rw (← c.self.view_is) at c.requires) c.index-since.ensures

pub index-requires-else-since-eq0 : goal.index-requires-else-since-eq0
index-requires-else-since-eq0 c =
    let inside = c.self.inside in
    let at = waiting_read inside c.self.invariant c.args.i _ (since_at (goal.at.index-requires-else-since-eq0 c).After-index-since) c.if-since-eq0.false in
    omega (arith, at.in_befores, inside.befores.ok.0)

pub returns-then-since-eq0 : goal.returns-then-since-eq0
returns-then-since-eq0 c =
    let old = c.self.invariant in
    let is = last_read c.self.inside old c.args.i _ (rw (← c.self.view_is) at c.requires) c.index.ensures in
    let clean = sym (since_at (goal.at.returns-then-since-eq0 c).After-index-since) ∙ c.if-since-eq0.true in
    rw (← c.self.view_is, is)
    (record { within = last_within _ _ _ _ old.recorded c.args.i; recorded = λ base within. back_clean _ _ _ _ old.recorded _ _ old.sound base c.args.i within clean })

pub returns-else-since-eq0 : goal.returns-else-since-eq0
returns-else-since-eq0 c =
    let old = c.self.invariant in
    let at = waiting_read c.self.inside old c.args.i _ (since_at (goal.at.returns-else-since-eq0 c).After-index-since) c.if-since-eq0.false in
    rw (← c.self.view_is, get_or_read c.self.inside.befores.items _ _ at.in_befores c.index-else-since-eq0.ensures 0)
    (record { within = at.early; recorded = λ base within. back_dirty _ _ _ _ old.recorded _ _ old.sound base c.args.i within _ at.is })
