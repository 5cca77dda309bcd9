use Rattle.std.proofs.Common.{◌≡◌, ℕ, suc, ◌-◌, slice_index_or, sym, ◌∙◌, ap, arith, ⊎_elim}
use Rattle.std.proofs.lemmas.Bool.{cases_lt}
use Rattle.std.proofs.lemmas.List.Sorted.{All-permutation}
use Rattle.pm_region.specs.Memory.{current_words}
use Rattle.bp_spelling.specs.Hashes.{IsSpelled, spelled_key}
use Rattle.bp_spelling.proofs.HashOrder.{blank, entries_apart, double_at}
use Rattle.bp_spelling.proofs.NameOrder.{equal_key, key_equal}
use Rattle.bp_spelling.proofs.doubles.find_double.Goals as goal

pub returns-in-Equal-clause-double : goal.returns-in-Equal-clause-double
returns-in-Equal-clause-double g c =
    let image = current_words (g.R.Region.memory c.args.region.now) in
    let entries = c.sort_by_name.new.entries in
    rw c.place.ensures.place (double_at image entries c.loop-i.i (omega (arith, c.loop-i.auto)) (omega (arith, c.loop-i-test.true))
    (equal_key (spelled_key image (slice_index_or entries (c.loop-i.i - 1) blank)) (spelled_key image (slice_index_or entries c.loop-i.i blank)) (sym c.compare_entries.ensures ∙ c.in-Equal.is)))

pub loop-i-preserved : goal.loop-i-preserved
loop-i-preserved g c k low same =
    let image = current_words (g.R.Region.memory c.args.region.now) in
    let entries = c.sort_by_name.new.entries in
    ⊎_elim (λ less. c.loop-i.invariant k less same)
    (λ high.
    let end : suc k ≡ c.loop-i.i = omega (arith, low, high) in
    let before : k ≡ c.loop-i.i - 1 = omega (arith, low, high) in
    c.in_default.not-Equal (c.compare_entries.ensures ∙ key_equal (spelled_key image (slice_index_or entries (c.loop-i.i - 1) blank)) (spelled_key image (slice_index_or entries c.loop-i.i blank))
    (ap (λ (x : ℕ). spelled_key image (slice_index_or entries x blank)) (sym before) ∙ same ∙ ap (λ (x : ℕ). spelled_key image (slice_index_or entries x blank)) end)))
    (cases_lt (suc k) c.loop-i.i)

pub returns-clause-double : goal.returns-clause-double
returns-clause-double g c =
    let image = current_words (g.R.Region.memory c.args.region.now) in
    entries_apart image c.sort_by_name.new.entries (All-permutation (IsSpelled image) _ _ c.sort_by_name.ensures.same c.requires) c.sort_by_name.ensures.sorted
    (λ k low. c.loop-i.invariant k (omega (arith, low, c.loop-i-test.false)))
