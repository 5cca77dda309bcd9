use Rattle.std.proofs.Common.{◌*◌, ◌/◌, ◌^◌, ap}
use Rattle.std.proofs.Math.Nat.{mod-add-mod}
use Rattle.bp_replay.specs.Generator.{next_state, drawn}
use Rattle.bp_replay.proofs.generator.Generator.draw.Goals as goal

pub returns-clause-drawn : goal.returns-clause-drawn
unfolding next_state drawn
returns-clause-drawn c = ap (λ n. n / 2 ^ 32) (mod-add-mod (6364136223846793005 * c.args.self.now.state) (2 ^ 64) 1442695040888963407)

pub returns-clause-state : goal.returns-clause-state
unfolding next_state
returns-clause-state c = mod-add-mod (6364136223846793005 * c.args.self.now.state) (2 ^ 64) 1442695040888963407
