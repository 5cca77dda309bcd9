use Rattle.std.proofs.Common.{◌/◌, arith, inl, inr}
use Rattle.std.proofs.lemmas.Bool.{cases_lt}
use Rattle.bp_free.proofs.Words.{room_seen, least_seen, not_stored}
use Rattle.bp_free.proofs.bits.Bits.first.Goals as goal

pub loop-word-init : goal.loop-word-init
loop-word-init g c = record {
  none = c.requires;
  looks = omega arith;
  from = omega arith;
}

pub first_in_word-requires : goal.first_in_word-requires
first_in_word-requires g c =
    let room = room_seen _ _ _ c.self.view_is in
    omega (arith, room, c.loop-word-test.true, c.stored-word-end.ensures.within, c.self.invariant.short)

pub returns-in-Some : goal.returns-in-Some
returns-in-Some g c =
    record {
      least = least_seen _ c.loop-word.word _ c.loop-word.invariant.none c.in-Some.ensures.least;
      looks = omega (arith, c.in-Some.ensures.least.place, c.in-Some.ensures.look, c.loop-word.invariant.looks);
    }

pub loop-word-preserved : goal.loop-word-preserved
loop-word-preserved g c = record {
  none = λ k low. elim (cases_lt (k / 64) c.loop-word.word) [
    | inl before ↦ c.loop-word.invariant.none k before
    | inr here ↦ c.in_default.ensures.least k (omega (arith, low, here))
  ];
  looks = omega (arith, c.in_default.ensures.look, c.loop-word.invariant.looks);
  from = omega (arith, c.loop-word.invariant.from);
}

pub returns-clause-least : goal.returns-clause-least
returns-clause-least g c = λ i. elim (cases_lt (i / 64) c.loop-word.word) [
  | inl before ↦ c.loop-word.invariant.none i before
  | inr beyond ↦
      not_stored _ _ _ c.stored-word-end.result i c.self.invariant c.self.view_is c.stored-word-end.ensures.blank
      (omega (arith, beyond, c.loop-word-test.false))
]
