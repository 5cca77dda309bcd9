-- What FILE may hold after a failure. A file that was written and not flushed since may hold anything after it: any of its
-- blocks may be lost, or be any of those that were written. A rename is atomic, and it may be lost until the directory
-- was flushed. A kill of the process loses nothing.
use Rattle.std.specs.Prelude.{◌≡◌, ◌⊎◌, ℕ, true, List, [], ◌∷◌, ⊤}
use Rattle.bp_disk.specs.Calls.{Call}
use Rattle.bp_disk.specs.Calls.Call.{attached, renamed_second, flushed_names, unflushable_names}
use Rattle.bp_disk.specs.Disk.{Bytes, byte_of, led, may_lead, is_durable, IsSafe}

-- These are the bytes of a file after these calls.
abbrev pub AreBytes : Bytes → List Call → ℕ → (ℕ → ℕ) → Type 0
AreBytes was calls file content = (at : ℕ) → content at ≡ byte_of was calls file at

-- FILE may hold this content if the machine fails after these calls.
pub record MayHold (was : Bytes) (calls : List Call) (content : ℕ → ℕ) : Type 0 where
  pub file : ℕ
  pub leads : may_lead calls file ≡ true
  pub kept : is_durable calls file ≡ true → AreBytes was calls file content

-- FILE was saved with this content: it had it when it was attached, or got it by a renaming, and no renaming after that
-- one is known to be durable.
abbrev pub IsSaved : Bytes → List Call → (ℕ → ℕ) → Type 0
IsSaved was [] content = ⊥
IsSaved was (attached file ∷ calls) content = AreBytes was calls file content
IsSaved was (renamed_second ∷ calls) content = AreBytes was calls (led calls).second content ⊎ IsSaved was calls content
IsSaved was (flushed_names ∷ calls) content = AreBytes was calls (led calls).first content
IsSaved was (unflushable_names ∷ calls) content = AreBytes was calls (led calls).first content
IsSaved was (call ∷ calls) content = IsSaved was calls content

-- Whenever the machine fails, FILE holds a content with which it was saved, if each call kept the order.
abbrev pub HoldsSaved : Type 0
HoldsSaved = (was : Bytes) (calls : List Call) (content : ℕ → ℕ) → IsSafe calls → MayHold was calls content
    → IsSaved was calls content

-- FILE was attached.
abbrev pub IsStarted : List Call → Type 0
IsStarted [] = ⊥
IsStarted (attached file ∷ calls) = ⊤
IsStarted (call ∷ calls) = IsStarted calls

-- Whenever the process is killed, which loses nothing, FILE holds a content with which it was saved, if each call kept the
-- order.
abbrev pub LeavesSaved : Type 0
LeavesSaved = (was : Bytes) (calls : List Call) → IsStarted calls → IsSafe calls
    → IsSaved was calls (λ at. byte_of was calls (led calls).first at)
