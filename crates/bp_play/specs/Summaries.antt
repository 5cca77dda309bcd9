-- The outcome of a play, as sums over its replies.
use Rattle.std.specs.Prelude.{ℕ, ◌==◌, Bool, true, false, List, [], ◌∷◌, count_by, map, sum_by}
use Rattle.bp_plain.specs.Calls.{Answer}
use Rattle.bp_plain.specs.Calls.Answer.{refused}
use Rattle.bp_plain.specs.Refusals.{refusal_number}
use Rattle.bp_script.specs.Texts.{LineReply}
use Rattle.bp_script.specs.Texts.LineReply.{answered, kept_of}
use Rattle.bp_play.specs.declared.summary.Summary.{Summary}

-- The answer is no refusal.
abbrev pub is_carried_out : Answer → Bool
is_carried_out (refused why) = false
is_carried_out _ = true

abbrev pub is_ok : LineReply → Bool
is_ok (answered answer) = is_carried_out answer
is_ok _ = false

-- The answer is a refusal with this number.
abbrev pub refuses : ℕ → Answer → Bool
refuses number (refused why) = refusal_number why == number
refuses number _ = false

abbrev pub is_refusal : ℕ → LineReply → Bool
is_refusal number (answered answer) = refuses number answer
is_refusal number _ = false

-- Whether a reply is that of a crash; the number of calls that it kept, and the number of calls before it.
abbrev pub is_crash_reply : LineReply → Bool
is_crash_reply (kept_of count total) = true
is_crash_reply _ = false

abbrev pub kept_in : LineReply → ℕ
kept_in (kept_of count total) = count
kept_in _ = 0

abbrev pub total_in : LineReply → ℕ
total_in (kept_of count total) = total
total_in _ = 0

-- The numbers of the counted refusals.
abbrev pub numbers : List ℕ
numbers = 1 ∷ 2 ∷ 3 ∷ 4 ∷ 5 ∷ 6 ∷ 7 ∷ 8 ∷ 9 ∷ 10 ∷ 11 ∷ 12 ∷ []

abbrev pub sums : List LineReply → Summary
sums replies = record {
  ok = count_by is_ok replies;
  refused = map (λ number. count_by (is_refusal number) replies) numbers;
  crashes = count_by is_crash_reply replies;
  kept = sum_by kept_in replies;
  of = sum_by total_in replies;
}
