use Rattle.std.proofs.Common.{◌≡◌, ℕ, ◌+◌, ◌<◌, List, [], ◌∷◌, ◌++◌, get_or, length, take, sym, ◌∙◌, ap, subst, refl, arith, rules}
use Rattle.std.proofs.lemmas.List.{length-map, take_more}
use Rattle.std.proofs.Math.Seq.{take-length}
use Rattle.bp_thaw.specs.Copies.{Copies, blocks_of, places_of}
use Rattle.bp_thaw.specs.Steps.{TakesAll}
use Rattle.bp_thaw.proofs.CopySteps.{map-more, takes_none, takes_one}
use Rattle.bp_thaw.proofs.copies.take_all.Goals as goal

-- the places of one more
one_place : (places : List ℕ) (i x b : ℕ) (copies new : Copies) → i < length places → get_or places i 0 ≡ x → places_of copies ≡ take i places → new ≡ copies ++ (x, b) ∷ [] → places_of new ≡ take (i + 1) places
one_place places i x b copies new low at of is =
    ap places_of is ∙ map-more (λ (c : ℕ × ℕ). c.0) copies (x, b) ∙ ap (λ ps. ps ++ x ∷ []) of ∙ ap (λ y. take i places ++ y ∷ []) (sym at) ∙ sym (take_more places i 0 low)

pub loop-i-init : goal.loop-i-init
loop-i-init c = rw c.new-copies.ensures (record { of = refl; takes = takes_none c.args.blocks.now; count = search rules })

pub alloc_lowest-requires : goal.alloc_lowest-requires
alloc_lowest-requires c =
    omega (arith, c.requires, c.loop-i-test.true, c.len-i-end.ensures.value, c.loop-i.invariant.takes.count, c.loop-i.invariant.count, length-map c.loop-i.copies.items (λ (x : ℕ × ℕ). x.1))

pub loop-i-preserved : goal.loop-i-preserved
loop-i-preserved c =
    record {
      of = one_place c.args.places.now.items c.loop-i.i _ c.alloc_lowest.result c.loop-i.copies.items c.push.new.self.items (omega (arith, c.loop-i-test.true, c.len-i-end.ensures.value))
          (ap (λ ps. get_or ps c.loop-i.i 0) (sym c.deref.ensures.0)) c.loop-i.invariant.of c.push.ensures.items;
      takes = subst (TakesAll c.args.blocks.now c.alloc_lowest.new.self) (sym (ap blocks_of c.push.ensures.items ∙ map-more (λ (x : ℕ × ℕ). x.1) c.loop-i.copies.items _))
          (takes_one c.args.blocks.now c.loop-i.blocks c.alloc_lowest.new.self (blocks_of c.loop-i.copies.items) c.alloc_lowest.result c.loop-i.invariant.takes c.alloc_lowest.ensures);
      count = omega (arith, c.push.ensures.len, c.loop-i.invariant.count);
    }

pub returns-clause-of : goal.returns-clause-of
returns-clause-of c =
    let end : c.loop-i.i ≡ length c.args.places.now.items = omega (arith, c.loop-i-test.false, c.loop-i.auto.i-end, c.len-i-end.ensures.value) in
    c.loop-i.invariant.of ∙ ap (λ n. take n c.args.places.now.items) end ∙ take-length c.args.places.now.items

pub returns-clause-takes : goal.returns-clause-takes
returns-clause-takes c = c.loop-i.invariant.takes
