use Rattle.std.proofs.Common.{◌≡◌, ℕ, ◌++◌, ◌∷◌, [], refl, ◌∙◌, subst, arith}
use Rattle.bp_session.specs.Acting.{state}
use Rattle.bp_session.specs.Session.{Session}
use Rattle.bp_play.specs.Turns.{turns}
use Rattle.bp_play.proofs.TurnLaws.{one_more, state_more}
use Rattle.bp_play.proofs.SumLaws.{nothing_bounded}
use Rattle.bp_play.proofs.play.play_on.Goals as goal

pub loop-turn-init : goal.loop-turn-init
loop-turn-init g c = record {
  replies = ([], λ saved. refl, c.new-summary.ensures);
  generator = c.new-generator.ensures;
  bounded = rw c.new-summary.ensures nothing_bounded;
  capacity = refl;
}

pub take_turn-requires : goal.take_turn-requires
take_turn-requires g c = record {
  roomy = omega (arith, c.loop-turn.invariant.capacity, c.requires.roomy);
  small = c.draw_turn-turn.ensures.small;
  room = record {
    count = c.loop-turn._turn;
    few = omega (arith, c.loop-turn-test.true, c.requires.few);
    bounded = c.loop-turn.invariant.bounded;
  };
}

pub loop-turn-preserved : goal.loop-turn-preserved
loop-turn-preserved g c =
    let before = c.loop-turn.invariant in
    let drawn = c.draw_turn-turn.ensures in
    let taken = c.take_turn.ensures in
    record {
      replies = (
        before.replies.0 ++ taken.reply ∷ [],
        one_more g.V.FileSystem.behaviour _ _ _ c.args.seed c.loop-turn._turn _ _ before.replies.0 taken.reply before.generator drawn.asks before.replies.1 taken.line,
        taken.counted.sums before.replies.0 before.replies.2,
      );
      generator = state_more c.args.seed c.loop-turn._turn _ _ before.generator drawn.goes_on;
      bounded = taken.counted.bounded c.loop-turn._turn before.bounded;
      capacity = taken.capacity ∙ before.capacity;
    }

pub returns : goal.returns
returns g c =
    let all : c.loop-turn._turn ≡ c.args.count = omega arith in
    let replies = c.loop-turn.invariant.replies in
    record {
      replies = replies.0;
      session = λ saved. subst (λ (n : ℕ). Session g.V.FileSystem.behaviour (state (g.V.FileSystem.state c.args.system.now) saved) (turns c.args.seed n) replies.0 (state (g.V.FileSystem.state c.loop-turn.system) saved)) all (replies.1 saved);
      reported = replies.2;
    }
