-- The effect of a play on a file system, and its summary.
use Rattle.std.specs.Prelude.{ℕ, ◌≡◌, List}
use Rattle.bp_fs.specs.Behaviour.{Behaviour}
use Rattle.bp_layout.specs.Words.{Image}
use Rattle.bp_script.specs.Commands.{Command}
use Rattle.bp_script.specs.Texts.{LineReply}
use Rattle.bp_session.specs.Acting.{state}
use Rattle.bp_session.specs.Session.{SessionLine, Session}
use Rattle.bp_play.specs.Counting.{CountsReply}
use Rattle.bp_play.specs.Summaries.{sums}
use Rattle.bp_play.specs.Turns.{turns}
use Rattle.bp_play.specs.declared.summary.Summary.{Summary}

-- The operations of a seed are served as the lines of a script are, and the summary is the sums of the replies.
pub record Plays {S : Type 0} (it : Behaviour S) (old new : S) (seed count : ℕ) (summary : Summary) : Type 0 where
  pub replies : List LineReply
  pub session : (saved : Image) → Session it (state old saved) (turns seed count) replies (state new saved)
  pub reported : summary ≡ sums replies

-- One command is served, and its reply is counted.
pub record TakesTurn {S : Type 0} (it : Behaviour S) (old new : S) (command : Command) (before after : Summary)
    : Type 0 where
  pub reply : LineReply
  pub line : (saved : Image) → SessionLine it (state old saved) command reply (state new saved)
  pub counted : CountsReply before reply after
  pub capacity : (it.memory new).capacity ≡ (it.memory old).capacity
