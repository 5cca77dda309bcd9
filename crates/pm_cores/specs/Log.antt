-- The log of what several cores do to the memory that they share.
use Rattle.std.specs.Prelude.{◌≡◌, ℕ, ◌+◌, ◌/◌, ◌==◌, if◌then◌else◌, List, [], ◌∷◌, take, slice_get, Some, Bool, true, false, slice_set}
use Rattle.pm_cores.specs.declared.entry.Entry.{Entry}
use Rattle.pm_cores.specs.declared.entry.Entry.TheVariants.{Load, Store, Barrier}

-- The core of an entry.
abbrev pub core_of : Entry → ℕ
core_of (Load core word) = core
core_of (Store core word value) = core
core_of (Barrier core) = core

-- The number of this core's barriers in the log.
abbrev pub core_barriers : ℕ → List Entry → ℕ
core_barriers core [] = 0
core_barriers core (Load other word ∷ log) = core_barriers core log
core_barriers core (Store other word value ∷ log) = core_barriers core log
core_barriers core (Barrier other ∷ log) = (if other == core then 1 else 0) + core_barriers core log

-- The epoch of this core before the entry at a position: the number of its barriers before it.
abbrev pub epoch_at : List Entry → ℕ → ℕ → ℕ
epoch_at log core place = core_barriers core (take place log)

-- A word after all stores of the log, written back or not.
abbrev pub last_value : ℕ → List Entry → ℕ → ℕ
last_value now [] word = now
last_value now (Load core place ∷ log) word = last_value now log word
last_value now (Store core place value ∷ log) word = last_value (if place == word then value else now) log word
last_value now (Barrier core ∷ log) word = last_value now log word

-- The words after those stores of the log that are written back, in the log's order. Each entry has a flag.
abbrev pub words_back : List ℕ → List Entry → List Bool → List ℕ
words_back words [] back = words
words_back words (entry ∷ log) [] = words
words_back words (Load core word ∷ log) (flag ∷ back) = words_back words log back
words_back words (Store core word value ∷ log) (true ∷ back) = words_back (slice_set words word value) log back
words_back words (Store core word value ∷ log) (false ∷ back) = words_back words log back
words_back words (Barrier core ∷ log) (flag ∷ back) = words_back words log back

-- The line of a word. A line has eight words.
abbrev pub line_at : ℕ → ℕ
line_at word = word / 8

-- The entry at a position is this core's store to this word.
pub record IsStore (log : List Entry) (place core word : ℕ) : Type 0 where
  pub value : ℕ
  pub is : slice_get log place ≡ Some (Store core word value)

-- The entry at a position is this core's load of a word of this line, or its store to one.
pub data IsUse (log : List Entry) (place core line : ℕ) : Type 0 where
  use_load : (word : ℕ) → slice_get log place ≡ Some (Load core word) → line_at word ≡ line → IsUse log place core line
  use_store : (word value : ℕ) → slice_get log place ≡ Some (Store core word value) → line_at word ≡ line → IsUse log place core line
