use Rattle.bp_roles.proofs.Durable.{transaction_right}
use Rattle.bp_roles.proofs.laws.a_transaction_is_one_store.Goals as goal

pub returns : goal.returns
returns c is_b image events calls ready =
    let begun = calls.transaction in
    transaction_right is_b image events calls.in_snapshot begun.version.wide begun.version.magic begun.is calls.are begun.there begun.alone calls.avoids
    ready.closed ready.well_formed
