use Rattle.std.proofs.Common.{◌∙◌, ap, sym, length, subst}
use Rattle.pm_raw.specs.Entries.{events_of}
use Rattle.pm_raw.specs.RunWords.{AreRuns, Worded, words_from}
use Rattle.pm_raw.proofs.RunLaws.{length-seen}
use Rattle.pm_raw.proofs.WordLaws.{runs-same, words-same}
use Rattle.pm_raw.proofs.runs.Runs.log.Goals as goal

pub new-requires : goal.new-requires
new-requires c =
    let runs = c.self.inside in
    let many = sym (length-seen runs _ c.self.invariant c.self.view_is) ∙ sym c.requires in
    subst (λ n. AreRuns c.deref.result.now c.deref-2.result.now 0 n) many
    (runs-same runs.firsts.items runs.starts.items c.deref.result.now c.deref-2.result.now c.deref.ensures.value c.deref-2.ensures.value 0 runs.count c.self.invariant.are)

pub returns : goal.returns
returns c =
    let runs = c.self.inside in
    let values = c.args.values.now in
    let many = c.requires ∙ length-seen runs _ c.self.invariant c.self.view_is in
    c.new.ensures
    ∙ ap (λ ws. events_of ws values)
    (words-same runs.firsts.items runs.starts.items c.deref.result.now c.deref-2.result.now c.deref.ensures.value c.deref-2.ensures.value 0 (length values))
    ∙ ap (λ n. events_of (words_from runs.firsts.items runs.starts.items 0 n) values) many
    ∙ ap (λ (w : Worded). events_of w.words values) c.self.view_is
