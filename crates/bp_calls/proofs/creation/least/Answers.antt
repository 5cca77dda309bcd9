use Rattle.std.proofs.Common.{◌∙◌, ap}
use Rattle.bp_free.specs.Set.{Set, with}
use Rattle.bp_calls.proofs.SetLaws.{put_back}
use Rattle.bp_calls.proofs.creation.least.Goals as goal

pub returns-clause-same : goal.returns-clause-same
returns-clause-same c =
    let reported = c.in_ok-least.ensures in
    c.give.ensures ∙ ap (λ (s : Set). with s c.in_ok-least.least) reported.1 ∙ put_back c.args.inodes.now c.in_ok-least.least reported.0.is_in
