-- Epochs and values of a log.
use Rattle.std.proofs.Common.{◌≡◌, ℕ, zero, suc, ◌+◌, ◌≤◌, Bool, true, false, cond, eqb, List, [], ◌∷◌, ◌++◌, length, refl, ◌∙◌, arith}
use Rattle.pm_cores.specs.declared.entry.Entry.{Entry}
use Rattle.pm_cores.specs.declared.entry.Entry.TheVariants.{Load, Store, Barrier}
use Rattle.pm_cores.specs.Log.{core_barriers, epoch_at, last_value}

pub core_barriers-append : (core : ℕ) (prefix rest : List Entry) → core_barriers core (prefix ++ rest) ≡ core_barriers core prefix + core_barriers core rest
core_barriers-append core [] rest = omega arith
core_barriers-append core (Load other word ∷ prefix) rest = core_barriers-append core prefix rest
core_barriers-append core (Store other word value ∷ prefix) rest = core_barriers-append core prefix rest
core_barriers-append core (Barrier other ∷ prefix) rest = let e = core_barriers-append core prefix rest in omega arith

pub epoch_at-pushed : (log : List Entry) (entry : Entry) (core place : ℕ) → place ≤ length log → epoch_at (log ++ entry ∷ []) core place ≡ epoch_at log core place
epoch_at-pushed [] entry core zero low = refl
epoch_at-pushed [] entry core (suc place) low = absurd (omega arith)
epoch_at-pushed (first ∷ log) entry core zero low = refl
epoch_at-pushed (Load other word ∷ log) entry core (suc place) low = epoch_at-pushed log entry core place (omega arith)
epoch_at-pushed (Store other word value ∷ log) entry core (suc place) low = epoch_at-pushed log entry core place (omega arith)
epoch_at-pushed (Barrier other ∷ log) entry core (suc place) low = let e = epoch_at-pushed log entry core place (omega arith) in omega arith

pub epoch_at-all : (log : List Entry) (core : ℕ) → epoch_at log core (length log) ≡ core_barriers core log
epoch_at-all [] core = refl
epoch_at-all (Load other word ∷ log) core = epoch_at-all log core
epoch_at-all (Store other word value ∷ log) core = epoch_at-all log core
epoch_at-all (Barrier other ∷ log) core = let e = epoch_at-all log core in omega arith

pub epoch_at-end : (log : List Entry) (entry : Entry) (core : ℕ) → epoch_at (log ++ entry ∷ []) core (length log) ≡ core_barriers core log
epoch_at-end log entry core = epoch_at-pushed log entry core (length log) (omega arith) ∙ epoch_at-all log core

pub epoch_at-le : (log : List Entry) (core i j : ℕ) → i ≤ j → epoch_at log core i ≤ epoch_at log core j
epoch_at-le [] core zero j low = omega arith
epoch_at-le [] core (suc i) zero low = absurd (omega arith)
epoch_at-le [] core (suc i) (suc j) low = omega arith
epoch_at-le (entry ∷ log) core zero j low = omega arith
epoch_at-le (entry ∷ log) core (suc i) zero low = absurd (omega arith)
epoch_at-le (Load other word ∷ log) core (suc i) (suc j) low = epoch_at-le log core i j (omega arith)
epoch_at-le (Store other word value ∷ log) core (suc i) (suc j) low = epoch_at-le log core i j (omega arith)
epoch_at-le (Barrier other ∷ log) core (suc i) (suc j) low = let less = epoch_at-le log core i j (omega arith) in omega arith

pub epoch_at-most : (log : List Entry) (core i : ℕ) → epoch_at log core i ≤ core_barriers core log
epoch_at-most [] core zero = omega arith
epoch_at-most [] core (suc i) = omega arith
epoch_at-most (entry ∷ log) core zero = omega arith
epoch_at-most (Load other word ∷ log) core (suc i) = epoch_at-most log core i
epoch_at-most (Store other word value ∷ log) core (suc i) = epoch_at-most log core i
epoch_at-most (Barrier other ∷ log) core (suc i) = let less = epoch_at-most log core i in omega arith

pub last_value-append : (now : ℕ) (prefix rest : List Entry) (word : ℕ) → last_value now (prefix ++ rest) word ≡ last_value (last_value now prefix word) rest word
last_value-append now [] rest word = refl
last_value-append now (Load core place ∷ prefix) rest word = last_value-append now prefix rest word
last_value-append now (Store core place value ∷ prefix) rest word = last_value-append (cond (eqb place word) value now) prefix rest word
last_value-append now (Barrier core ∷ prefix) rest word = last_value-append now prefix rest word

-- an entry that is no store
abbrev pub IsNoStore : Entry → Type 0
IsNoStore entry = (core word value : ℕ) → entry ≡ Store core word value → ⊥

last_value-one : (entry : Entry) → IsNoStore entry → (now word : ℕ) → last_value now (entry ∷ []) word ≡ now
last_value-one (Load core place) none now word = refl
last_value-one (Store core place value) none now word = absurd (none core place value refl)
last_value-one (Barrier core) none now word = refl

pub last_value-other : (log : List Entry) (entry : Entry) → IsNoStore entry → (now word : ℕ) → last_value now (log ++ entry ∷ []) word ≡ last_value now log word
last_value-other log entry none now word = last_value-append now log (entry ∷ []) word ∙ last_value-one entry none (last_value now log word) word

pub last_value-stored : (log : List Entry) (core place value now word : ℕ) → last_value now (log ++ Store core place value ∷ []) word ≡ cond (eqb place word) value (last_value now log word)
last_value-stored log core place value now word = last_value-append now log (Store core place value ∷ []) word

pub core_barriers-most : (core : ℕ) (log : List Entry) → core_barriers core log ≤ length log
core_barriers-most core [] = omega arith
core_barriers-most core (Load other word ∷ log) = let most = core_barriers-most core log in omega arith
core_barriers-most core (Store other word value ∷ log) = let most = core_barriers-most core log in omega arith
core_barriers-most core (Barrier other ∷ log) = let most = core_barriers-most core log in one (eqb other core) most
  where
    one : (test : Bool) → core_barriers core log ≤ length log → cond test 1 0 + core_barriers core log ≤ length (Barrier other ∷ log)
    one true most = omega arith
    one false most = omega arith
