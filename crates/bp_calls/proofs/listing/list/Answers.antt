use Rattle.bp_calls.proofs.listing.list.Goals as goal

pub returns : goal.returns
returns g c = record {
  all = rw (← c.in_ok-listing.ensures) c.sort.ensures.all;
  sorted = c.sort.ensures.sorted;
}
