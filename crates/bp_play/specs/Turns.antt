-- The operations of a play: a script that is made from one number. For each operation the kind is drawn first, and
-- then its paths, offsets, lengths and bytes, in the order of their definition here.
use Rattle.std.specs.Prelude.{ℕ, ◌+◌, ◌/◌, ◌%◌, ◌==◌, nat_lt, List, [], ◌∷◌, ◌++◌, codes, if◌then◌else◌, replicate}
use Rattle.std.proofs.Common.{zero, suc}
use Rattle.bp_plain.specs.Calls.Call.{create, mkdir, unlink, rmdir, read, write, truncate, rename}
use Rattle.bp_replay.specs.Generator.{drawn, next_state}
use Rattle.bp_script.specs.Commands.{Command}
use Rattle.bp_script.specs.Commands.Command.{file_call, storm}
use Rattle.bp_play.specs.declared.sort.Sort.{Sort}
use Rattle.bp_play.specs.declared.sort.Sort.TheVariants.{Create, Mkdir, Write, Truncate, Unlink, RenameFile, RenameDir, Rmdir, Read, Storm}

-- ---- paths

-- A path of a slash, a letter and a digit.
abbrev pub named : List ℕ → ℕ → List ℕ
named letter digit = codes "/" ++ letter ++ (48 + digit) ∷ []

-- One of four directories below the root.
abbrev pub dir_name : ℕ → List ℕ
dir_name r = named (codes "d") (r % 4)

-- One of eight files, in one of the four directories or in the root.
abbrev pub path_name : ℕ → List ℕ
path_name r =
    if r % 5 == 4 then named (codes "f") (r / 8 % 8)
    else named (codes "d") (r % 5) ++ named (codes "f") (r / 8 % 8)

-- ---- one operation

-- The kind of an operation, by a number below 16.
abbrev pub sort_of : ℕ → Sort
sort_of op =
    if nat_lt op 3 then Create
    else if nat_lt op 4 then Mkdir
    else if nat_lt op 9 then Write
    else if nat_lt op 10 then Truncate
    else if nat_lt op 11 then Unlink
    else if nat_lt op 12 then RenameFile
    else if nat_lt op 13 then RenameDir
    else if nat_lt op 14 then Rmdir
    else if nat_lt op 15 then Read
    else Storm

-- A command that was drawn, and the state of the generator after it.
pub record Draw : Type 0 where
  pub command : Command
  pub state : ℕ

-- Commands of one draw, of two, of three and of four, from this state on.
abbrev pub by_one : (ℕ → Command) → ℕ → Draw
by_one made a = record { command = made (drawn a); state = next_state a }

abbrev pub by_two : (ℕ → ℕ → Command) → ℕ → Draw
by_two made a = by_one (made (drawn a)) (next_state a)

abbrev pub by_three : (ℕ → ℕ → ℕ → Command) → ℕ → Draw
by_three made a = by_two (made (drawn a)) (next_state a)

abbrev pub by_four : (ℕ → ℕ → ℕ → ℕ → Command) → ℕ → Draw
by_four made a = by_three (made (drawn a)) (next_state a)

-- The command of each kind.
abbrev pub draw_of : Sort → ℕ → Draw
draw_of Create = by_one (λ r. file_call (create (path_name r)))
draw_of Mkdir = by_one (λ r. file_call (mkdir (dir_name r)))
draw_of Write = by_four (λ r offset len byte.
    file_call (write (path_name r) (offset % 70000) (replicate (1 + len % 9000) (byte % 256))))
draw_of Truncate = by_two (λ r size. file_call (truncate (path_name r) (size % 100000)))
draw_of Unlink = by_one (λ r. file_call (unlink (path_name r)))
draw_of RenameFile = by_two (λ from to. file_call (rename (path_name from) (path_name to)))
draw_of RenameDir = by_two (λ from to. file_call (rename (dir_name from) (dir_name to)))
draw_of Rmdir = by_one (λ r. file_call (rmdir (dir_name r)))
draw_of Read = by_three (λ r offset len. file_call (read (path_name r) (offset % 70000) (len % 9000)))
draw_of Storm = by_one storm

-- The operation that begins in a state.
abbrev pub turn : ℕ → Draw
turn state = draw_of (sort_of (drawn state % 16)) (next_state state)

-- ---- a play

-- The first `count` operations of a seed.
abbrev pub turns : ℕ → ℕ → List Command
turns seed zero = []
turns seed (suc count) = (turn seed).command ∷ turns (turn seed).state count
