use Rattle.std.proofs.Common.{◌-◌, ◌∙◌, ap, length, sym}
use Rattle.pm_raw.specs.RunWords.{Worded}
use Rattle.pm_raw.proofs.WordLaws.{length-words_from}
use Rattle.pm_raw.proofs.runs.Runs.room.Goals as goal

pub returns : goal.returns
returns c =
    let runs = c.self.inside in
    ap (λ n. runs.room - n) (sym (length-words_from runs.firsts.items runs.starts.items 0 runs.count)) ∙ ap (λ (w : Worded). w.room - length w.words) c.self.view_is
