-- The disk after a list of calls, the last one first: the bytes of the files, what the names lead to, and what is durable.
use Rattle.std.specs.Prelude.{◌≡◌, ℕ, ◌+◌, ◌-◌, ◌<◌, ◌≤◌, ◌==◌, ◌&&◌, ◌||◌, nat_lt, nat_le, Bool, true, false, List, [], ◌∷◌, length, slice_index, Option, None, Some, ⊤, if◌then◌else◌}
use Rattle.std.specs.declared.fs.File.{File}
use Rattle.bp_disk.specs.Calls.{Call, number_of}
use Rattle.bp_disk.specs.Calls.Call.{attached, read, written, partly_written, resized, not_resized, flushed, not_flushed, made, seen_second, linked_old, renamed_second, renamed_old, flushed_names, unflushable_names}

-- The bytes of files: that of a file, by its number, at a position. Past the end of a file they are zeros.
abbrev pub Bytes : Type 0
Bytes = ℕ → ℕ → ℕ

-- A byte of a file after these calls, if the files had the bytes `was` before them. A call that fails counts as one that
-- did nothing; a file on which a call failed is read again only if it is written in place.
abbrev pub byte_of : Bytes → List Call → ℕ → ℕ → ℕ
byte_of was [] file at = was file at
byte_of was (written to start bytes ∷ calls) file at =
    if (file == to) && (nat_le start at && nat_lt at (start + length bytes)) then slice_index bytes (at - start)
    else byte_of was calls file at
byte_of was (resized to size ∷ calls) file at =
    if (file == to) && nat_le size at then 0 else byte_of was calls file at
byte_of was (made new ∷ calls) file at = if file == new then 0 else byte_of was calls file at
byte_of was (call ∷ calls) file at = byte_of was calls file at

-- Each read returned the bytes that the file had.
abbrev pub IsHonest : Bytes → List Call → Type 0
IsHonest was [] = ⊤
IsHonest was (read file start bytes ∷ calls) =
    ((i : ℕ) → i < length bytes → slice_index bytes i ≡ byte_of was calls file (start + i)) × IsHonest was calls
IsHonest was (call ∷ calls) = IsHonest was calls

-- The files to which FILE, the second name and the old name lead, as far as they lead to any.
pub record Led : Type 0 where
  pub first : ℕ
  pub second : ℕ
  pub old : ℕ

-- What the names lead to after these calls.
abbrev pub led : List Call → Led
led [] = record { first = 0; second = 0; old = 0 }
led (attached file ∷ calls) = record (led calls) { first = file }
led (made file ∷ calls) = record (led calls) { second = file }
led (seen_second file ∷ calls) = record (led calls) { second = file }
led (linked_old ∷ calls) = record (led calls) { old = (led calls).first }
led (renamed_second ∷ calls) = record (led calls) { first = (led calls).second }
led (renamed_old ∷ calls) = record (led calls) { second = (led calls).old }
led (call ∷ calls) = led calls

-- Whether all that was written to a file is durable. A file is so when it is attached.
abbrev pub is_durable : List Call → ℕ → Bool
is_durable [] file = false
is_durable (attached now ∷ calls) file = if file == now then true else is_durable calls file
is_durable (written to start bytes ∷ calls) file = if file == to then false else is_durable calls file
is_durable (partly_written to start bytes ∷ calls) file = if file == to then false else is_durable calls file
is_durable (resized to size ∷ calls) file = if file == to then false else is_durable calls file
is_durable (not_resized to size ∷ calls) file = if file == to then false else is_durable calls file
is_durable (flushed now ∷ calls) file = if file == now then true else is_durable calls file
is_durable (not_flushed now ∷ calls) file = if file == now then false else is_durable calls file
is_durable (made new ∷ calls) file = if file == new then false else is_durable calls file
is_durable (call ∷ calls) file = is_durable calls file

-- Whether FILE may lead to a file if the machine fails now: to the one that it leads to, or to one that it led to since
-- its directory was flushed. If the file system cannot flush a directory, that is not taken into account.
abbrev pub may_lead : List Call → ℕ → Bool
may_lead [] file = false
may_lead (attached now ∷ calls) file = file == now
may_lead (renamed_second ∷ calls) file = (file == (led calls).second) || may_lead calls file
may_lead (flushed_names ∷ calls) file = (file == (led calls).first) && may_lead calls file
may_lead (unflushable_names ∷ calls) file = (file == (led calls).first) && may_lead calls file
may_lead (call ∷ calls) file = may_lead calls file

-- A call keeps the order that makes a save safe: no file to which FILE may lead is changed, and a file gets the name
-- FILE only when it is durable.
abbrev pub KeepsOrder : Call → List Call → Type 0
KeepsOrder (written to start bytes) calls = may_lead calls to ≡ false
KeepsOrder (partly_written to start bytes) calls = may_lead calls to ≡ false
KeepsOrder (resized to size) calls = may_lead calls to ≡ false
KeepsOrder (not_resized to size) calls = may_lead calls to ≡ false
KeepsOrder (not_flushed now) calls = may_lead calls now ≡ false
KeepsOrder (made new) calls = may_lead calls new ≡ false
KeepsOrder renamed_second calls = is_durable calls (led calls).second ≡ true
KeepsOrder call calls = ⊤

-- Each call since FILE was attached kept the order.
abbrev pub IsSafe : List Call → Type 0
IsSafe [] = ⊤
IsSafe (attached file ∷ calls) = ⊤
IsSafe (call ∷ calls) = KeepsOrder call calls × IsSafe calls

-- From the first list of calls to the second, only calls on one file were made: no other file was changed, and the names
-- lead where they did, except that the second name may lead to this file.
pub record ChangesOnly (file : ℕ) (old new : List Call) : Type 0 where
  pub first : (led new).first ≡ (led old).first
  pub leads : (other : ℕ) → may_lead new other ≡ may_lead old other
  pub durable : (other : ℕ) → ¬ (other ≡ file) → is_durable new other ≡ is_durable old other
  pub bytes : (was : Bytes) (other at : ℕ) → ¬ (other ≡ file) → byte_of was new other at ≡ byte_of was old other at
  pub honest : (was : Bytes) → IsHonest was new → IsHonest was old
  pub safe : may_lead old file ≡ false → IsSafe old → IsSafe new

-- The bytes of a file from one position on, up to another one, become those of another file. Its other bytes stay.
pub record Copies (from to start end : ℕ) (was : Bytes) (old new : List Call) : Type 0 where
  pub within : (at : ℕ) → start ≤ at → at < end → byte_of was new to at ≡ byte_of was old from at
  pub before : (at : ℕ) → at < start → byte_of was new to at ≡ byte_of was old to at
  pub after : (at : ℕ) → end ≤ at → byte_of was new to at ≡ byte_of was old to at

-- The bytes from one position on, up to another one, are copied from one file to another one, if each read returned the
-- bytes that the file had. Where the other file is to have holes, it had zeros there.
abbrev pub IsCopied : Bool → ℕ → ℕ → ℕ → ℕ → List Call → List Call → Type 0
IsCopied has_holes from to start end old new = (was : Bytes) → IsHonest was new → ¬ (from ≡ to)
    → (has_holes ≡ true → (at : ℕ) → start ≤ at → at < end → byte_of was old to at ≡ 0)
    → Copies from to start end was old new

-- These bytes were written to a file, from a position on. Its other bytes stay.
pub record Writes (file start : ℕ) (bytes : List ℕ) (old new : List Call) : Type 0 where
  pub within : (was : Bytes) (at : ℕ) → start ≤ at → at < start + length bytes →
      byte_of was new file at ≡ slice_index bytes (at - start)
  pub before : (was : Bytes) (at : ℕ) → at < start → byte_of was new file at ≡ byte_of was old file at
  pub after : (was : Bytes) (at : ℕ) → start + length bytes ≤ at → byte_of was new file at ≡ byte_of was old file at

-- A file got this length: the bytes below it stay, and all bytes after it are zeros.
pub record Cuts (file size : ℕ) (old new : List Call) : Type 0 where
  pub below : (was : Bytes) (at : ℕ) → at < size → byte_of was new file at ≡ byte_of was old file at
  pub past : (was : Bytes) (at : ℕ) → size ≤ at → byte_of was new file at ≡ 0

-- A file has these bytes, and zeros after them.
pub record HasOnlyBytes (file : ℕ) (bytes : List ℕ) (calls : List Call) : Type 0 where
  pub within : (was : Bytes) (at : ℕ) → at < length bytes → byte_of was calls file at ≡ slice_index bytes at
  pub past : (was : Bytes) (at : ℕ) → length bytes ≤ at → byte_of was calls file at ≡ 0

-- A new file was made under the second name. It has no bytes. No other file was changed.
pub record Makes (beside new_file : ℕ) (old new : List Call) : Type 0 where
  pub other : ¬ (new_file ≡ beside)
  pub second : (led new).second ≡ new_file
  pub empty : (was : Bytes) (at : ℕ) → byte_of was new new_file at ≡ 0
  pub changes : ChangesOnly new_file old new

-- No file was changed, and FILE leads where it did.
abbrev pub ChangesNone : List Call → List Call → Type 0
ChangesNone old new = (file : ℕ) → ChangesOnly file old new

-- FILE leads to the file that the second name led to, which was durable. It may lead to the files to which it might lead
-- before, too, until its directory is flushed. No file was changed.
pub record TakesName (old new : List Call) : Type 0 where
  pub first : (led new).first ≡ (led old).second
  pub leads : (other : ℕ) → may_lead new other ≡ ((other == (led old).second) || may_lead old other)
  pub durable : (other : ℕ) → is_durable new other ≡ is_durable old other
  pub bytes : (was : Bytes) (other at : ℕ) → byte_of was new other at ≡ byte_of was old other at
  pub honest : (was : Bytes) → IsHonest was new → IsHonest was old
  pub safe : is_durable old (led old).second ≡ true → IsSafe old → IsSafe new

-- The second file was made durable, and then FILE leads to it. No other file was changed.
pub record TakesPlace (second : ℕ) (old new : List Call) : Type 0 where
  pub first : (led new).first ≡ second
  pub leads : (other : ℕ) → may_lead new other ≡ ((other == second) || may_lead old other)
  pub is_so : is_durable new second ≡ true
  pub bytes : (was : Bytes) (other at : ℕ) → byte_of was new other at ≡ byte_of was old other at
  pub honest : (was : Bytes) → IsHonest was new → IsHonest was old
  pub safe : IsSafe old → IsSafe new

-- FILE leads where it did, and nowhere else, whatever fails. No file was changed.
pub record Settles (old new : List Call) : Type 0 where
  pub first : (led new).first ≡ (led old).first
  pub leads : (other : ℕ) → may_lead new other ≡ ((other == (led old).first) && may_lead old other)
  pub durable : (other : ℕ) → is_durable new other ≡ is_durable old other
  pub bytes : (was : Bytes) (other at : ℕ) → byte_of was new other at ≡ byte_of was old other at
  pub honest : (was : Bytes) → IsHonest was new → IsHonest was old
  pub safe : IsSafe old → IsSafe new

-- A file was not changed, FILE leads where it did, and if it may lead nowhere but to this file, the order was kept.
pub record Spares (first : ℕ) (old new : List Call) : Type 0 where
  pub name : (led new).first ≡ (led old).first
  pub leads : (other : ℕ) → may_lead new other ≡ may_lead old other
  pub durable : is_durable new first ≡ is_durable old first
  pub bytes : (was : Bytes) (at : ℕ) → byte_of was new first at ≡ byte_of was old first at
  pub honest : (was : Bytes) → IsHonest was new → IsHonest was old
  pub safe : ((other : ℕ) → ¬ (other ≡ first) → may_lead old other ≡ false) → IsSafe old → IsSafe new

-- A file is not the one of this number, if there is a file.
abbrev pub IsOther : ℕ → Option File → Type 0
IsOther first None = ⊤
IsOther first (Some file) = ¬ (number_of file ≡ first)

-- The second name leads to a file, if there is a file.
abbrev pub IsNamed : List Call → Option File → Type 0
IsNamed calls None = ⊤
IsNamed calls (Some file) = (led calls).second ≡ number_of file
