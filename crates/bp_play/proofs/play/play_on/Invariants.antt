use Rattle.std.proofs.Common.{◌≡◌, List}
use Rattle.bp_layout.specs.Words.{Image}
use Rattle.bp_play.specs.Counting.{IsBounded}
use Rattle.bp_play.specs.Summaries.{sums}
use Rattle.bp_play.specs.Turns.{turns}
use Rattle.bp_play.proofs.TurnLaws.{seed_after}
use Rattle.bp_script.specs.Texts.{LineReply}
use Rattle.bp_session.specs.Acting.{state}
use Rattle.bp_session.specs.Session.{Session}
use Rattle.bp_play.proofs.play.play_on.Given as goal

-- the turns so far were taken
abbrev pub invariant-loop-turn : goal.invariant-loop-turn
invariant-loop-turn g l =
    record {
      replies : (replies : List LineReply) × ((saved : Image) → Session g.V.FileSystem.behaviour (state (g.V.FileSystem.state l.fn.system) saved) (turns l.seed l._turn) replies (state (g.V.FileSystem.state l.system) saved)) × (l.summary ≡ sums replies);
      generator : l.generator.state ≡ seed_after l.seed l._turn;
      bounded : IsBounded l._turn l.summary;
      capacity : (g.V.FileSystem.behaviour.memory (g.V.FileSystem.state l.system)).capacity ≡ (g.V.FileSystem.behaviour.memory (g.V.FileSystem.state l.fn.system)).capacity;
    }
