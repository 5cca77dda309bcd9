-- A summary that grows by one reply.
use Rattle.std.specs.Prelude.{ℕ, ◌≡◌, ◌≤◌, ◌<◌, ◌+◌, ◌*◌, List, [], ◌∷◌, ◌++◌, All}
use Rattle.bp_limits.specs.Limits.{log_events, max_turns}
use Rattle.bp_script.specs.Texts.{LineReply}
use Rattle.bp_play.specs.Summaries.{sums}
use Rattle.bp_play.specs.declared.summary.Summary.{Summary}

-- The upper bounds of the summary of this number of operations.
pub record IsBounded (count : ℕ) (summary : Summary) : Type 0 where
  pub ok : summary.ok ≤ count
  pub refused : All (λ number. number ≤ count) summary.refused
  pub crashes : summary.crashes ≤ count
  pub kept : summary.kept ≤ count * log_events
  pub total : summary.of ≤ count * log_events

-- The summary is that of fewer operations than the greatest number allowed.
pub record CanCount (summary : Summary) : Type 0 where
  pub count : ℕ
  pub few : count < max_turns
  pub bounded : IsBounded count summary

-- The new summary counts one more reply, and one more operation.
pub record CountsReply (old : Summary) (reply : LineReply) (new : Summary) : Type 0 where
  pub sums : (replies : List LineReply) → old ≡ sums replies → new ≡ sums (replies ++ reply ∷ [])
  pub bounded : (count : ℕ) → IsBounded count old → IsBounded (count + 1) new
