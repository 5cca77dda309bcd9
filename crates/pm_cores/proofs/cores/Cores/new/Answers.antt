use Rattle.pm_cores.proofs.Views.{begun_seen}
use Rattle.pm_cores.proofs.cores.Cores.new.Goals as goal

pub returns : goal.returns
returns c =
    let since_is = c.in_ok-since.ensures.items_if_clones_equal (λ y e. e) in
    rw (since_is, c.in_ok-log.ensures.items, c.in_ok-epochs.ensures.items, c.in_ok-counts.ensures.len) (begun_seen c.args.cores c.args.words c.args.room)
