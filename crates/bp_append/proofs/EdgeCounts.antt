-- What one level more costs: nodes down the edge of a tree, and nodes where nothing is wanted.
use Rattle.std.proofs.Common.{◌≡◌, ◌⊎◌, ℕ, zero, suc, ◌+◌, ◌<◌, ◌≤◌, min, max, true, false, nat_lt, refl, arith, inl, inr, lt-ltb, le-ltb}
use Rattle.std.proofs.lemmas.Bool.{cases_lt}
use Rattle.bp_layout.specs.Tree.{span}
use Rattle.bp_append.specs.Tally.{tally, met}
use Rattle.bp_append.specs.Risen.{idle, idles, edge}
use Rattle.bp_append.proofs.TallyLaws.{span-suc, met_none, met_one, tally_split, begins_at}

idle_met : (from to level : ℕ) → idle from to (suc level) + met (suc level) from (min to (span (suc level))) ≡ 1
idle_met from to level = go (cases_lt from (min to (span (suc level))))
  where
    go : (from < min to (span (suc level))) ⊎ (min to (span (suc level)) ≤ from) →
        idle from to (suc level) + met (suc level) from (min to (span (suc level))) ≡ 1
    go (inl some) =
        let one = met_one (suc level) from (min to (span (suc level))) 0 some (omega arith) (omega arith) in
        let none : idle from to (suc level) ≡ 0 = rw (lt-ltb from (min to (span (suc level))) some) refl in
        omega (arith, one, none)
    go (inr over) =
        let none = met_none (suc level) from (min to (span (suc level))) over in
        let one : idle from to (suc level) ≡ 1 = rw (le-ltb from (min to (span (suc level))) over) refl in
        omega (arith, one, none)

-- one level more
pub edge_more : (from to level : ℕ) →
    edge from to (suc level) + idle from to (suc level) ≡ edge from to level + 1 + tally (suc level) (max from (span level)) (min to (span (suc level)))
edge_more from to level =
    let split = tally_split (suc level) from (min to (span (suc level))) (span level) (begins_at level 1 (span level) (omega arith)) in
    let low : min (min to (span (suc level))) (span level) ≡ min to (span level) = omega (arith, span-suc level) in
    let parts = rw low at split in
    sums _ _ _ _ _ parts (idle_met from to level)
  where
    sums : (all first second top spare : ℕ) → first + second ≡ all → spare + top ≡ 1 → (all + top) + spare ≡ first + 1 + second
    sums all first second top spare a b = omega (arith, a, b)

pub idles_none : (from to low level : ℕ) → level ≤ low → idles from to low level ≡ 0
idles_none from to low zero less = refl
idles_none from to low (suc level) less =
    let up = idles_none from to low level (omega (arith, less)) in
    let here : nat_lt low (suc level) ≡ false = le-ltb low (suc level) less in
    rw (up, here) refl

pub idles_more : (from to low level : ℕ) → low ≤ level → idles from to low (suc level) ≡ idles from to low level + idle from to (suc level)
idles_more from to low level less =
    let here : nat_lt low (suc level) ≡ true = lt-ltb low (suc level) (omega (arith, less)) in
    rw here refl

-- the sum never falls
pub edge_rises : (from to low level more : ℕ) → low ≤ level →
    edge from to level + idles from to low level ≤ edge from to (level + more) + idles from to low (level + more)
edge_rises from to low level zero less = let e : level + 0 ≡ level = omega arith in rw e (omega arith)
edge_rises from to low level (suc more) less =
    let up = edge_rises from to low level more less in
    let next : level + suc more ≡ suc (level + more) = omega arith in
    rw next (sums _ _ _ _ _ _ _ up (edge_more from to (level + more)) (idles_more from to low (level + more) (omega (arith, less))))
  where
    sums : (start here low_idles here_idles up_edge up_idles spare : ℕ) → start ≤ here + here_idles → up_edge + spare ≡ here + 1 + low_idles →
        up_idles ≡ here_idles + spare → start ≤ up_edge + up_idles
    sums start here low_idles here_idles up_edge up_idles spare a b c = omega (arith, a, b, c)
