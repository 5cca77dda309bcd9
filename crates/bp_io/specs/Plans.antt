-- The calls of an object in memory that fail: those whose numbers are in a list.
use Rattle.std.specs.Prelude.{◌≡◌, ◌↔◌, ℕ, ◌+◌, ◌-◌, ◌^◌, min, List, Contains, Result, IsErr}

-- The numbers of the calls that fail, and the number of the next call.
pub record FaultPlan : Type 0 where
  pub fail_at : List ℕ
  pub next : ℕ

-- The plan before any call; the first call has the number 0.
abbrev pub new_plan : List ℕ → FaultPlan
new_plan numbers = record { fail_at = numbers; next = 0 }

-- The next call is one of those that fail.
abbrev pub FailsNext : FaultPlan → Type 0
FailsNext p = Contains p.fail_at p.next

-- The plan one call later. The numbers end at 2^64 - 1.
abbrev pub after_call : FaultPlan → FaultPlan
after_call p = record { fail_at = p.fail_at; next = min (p.next + 1) (2 ^ 64 - 1) }

-- A call failed exactly if its number is in the list, and the call was counted.
pub record FollowsPlan {T E : Type 0} (old new : FaultPlan) (result : Result T E) : Type 0 where
  pub fails : IsErr result ↔ FailsNext old
  pub counted : new ≡ after_call old
