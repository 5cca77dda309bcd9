use Rattle.std.proofs.Common.{rules, ◌+◌, ◌≤◌, length}
use Rattle.std.proofs.lemmas.Cmp.{nat_list_cmp_total}
use Rattle.std.proofs.lemmas.Fn.{always_returns_same}
use Rattle.std.proofs.lemmas.List.Sorted.{All-permutation, IsPermutation-map, ranks_by}
use Rattle.bp_limits.specs.CallLimits.{max_name}
use Rattle.bp_layout.specs.declared.listing.Listed.{Listed}
use Rattle.bp_layout.specs.Listed.{listed_name}
use Rattle.bp_layout.specs.Listing.{comes_before}
use Rattle.bp_layout.proofs.ListedLaws.{sorted-map}
use Rattle.bp_layout.proofs.listing.Listing.sort.Goals as goal

pub invariant_of-self : goal.invariant_of-self
invariant_of-self c = All-permutation (λ (entry : Listed). (entry.first + entry.len ≤ length c.self.inside.bytes.items) × (entry.len ≤ max_name)) _ _ c.sort_unstable_by.ensures.permutation c.self.invariant

pub returns-clause-all : goal.returns-clause-all
returns-clause-all c = rw (← c.self.view_is) (IsPermutation-map (listed_name c.self.inside.bytes.items) _ _ c.sort_unstable_by.ensures.permutation)

pub returns-clause-sorted : goal.returns-clause-sorted
returns-clause-sorted c =
    let bytes = c.self.inside.bytes.items in
    sorted-map (listed_name bytes) comes_before _
    (c.sort_unstable_by.ensures.sorted (λ one other. comes_before (listed_name bytes one) (listed_name bytes other)) (ranks_by nat_list_cmp_total (λ e. (listed_name bytes e).1)) (always_returns_same _ _ _ (λ a r f k. search rules)))
