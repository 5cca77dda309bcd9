-- The names of a directory.
use Rattle.std.specs.Prelude.{ℕ, List, Bool, map}
use Rattle.std.specs.Ordering.{nat_cmp, is_lt}
use Rattle.std.specs.Cmp.Lexicographic.{slice_cmp}
use Rattle.arrayvec.specs.ArrayVec.{ArrayVec}
use Rattle.bp_layout.specs.declared.fields.Kind.{Kind}

-- the names of a listing, each with its kind and its bytes
abbrev pub listed : List (Kind × ArrayVec ℕ) → List (Kind × List ℕ)
listed entries = map (λ entry. (entry.0, entry.1.items)) entries

-- the first name comes before the second in the order of bytes
abbrev pub comes_before : Kind × List ℕ → Kind × List ℕ → Bool
comes_before one other = is_lt (slice_cmp nat_cmp one.1 other.1)
