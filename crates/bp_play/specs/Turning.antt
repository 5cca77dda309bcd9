-- Operations as the code represents them.
use Rattle.std.specs.Prelude.{ℕ, ◌≡◌, ◌≤◌, List, [], replicate}
use Rattle.bp_plain.specs.Calls.{Call}
use Rattle.bp_plain.specs.Calls.Call.{create, mkdir, unlink, rmdir, read, write, truncate, rename}
use Rattle.bp_script.specs.Commands.{Command}
use Rattle.bp_script.specs.Commands.Command.{file_call, storm}
use Rattle.bp_play.specs.Paths.{play_path}
use Rattle.bp_play.specs.Turns.{Draw}
use Rattle.bp_play.specs.declared.operations.PlayCall.{PlayCall}
use Rattle.bp_play.specs.declared.operations.PlayCall.TheVariants as given
use Rattle.bp_play.specs.declared.operations.Turn.{Turn}
use Rattle.bp_play.specs.declared.operations.Turn.TheVariants as turn

-- The greatest number of bytes that an operation writes.
abbrev pub most_bytes : ℕ
most_bytes = 9000

-- The bytes that the call writes.
abbrev pub bytes_by : PlayCall → List ℕ
bytes_by (given.Write path offset len byte) = replicate len byte
bytes_by _ = []

-- The call.
abbrev pub call_by : PlayCall → Call
call_by (given.Create path) = create (play_path path)
call_by (given.Mkdir path) = mkdir (play_path path)
call_by (given.Unlink path) = unlink (play_path path)
call_by (given.Rmdir path) = rmdir (play_path path)
call_by (given.Read path offset len) = read (play_path path) offset len
call_by (given.Write path offset len byte) = write (play_path path) offset (replicate len byte)
call_by (given.Truncate path size) = truncate (play_path path) size
call_by (given.Rename from to) = rename (play_path from) (play_path to)

abbrev pub command_by : Turn → Command
command_by (turn.Call call) = file_call (call_by call)
command_by (turn.Storm seed) = storm seed

-- The call reads and writes no more bytes than there is memory for.
abbrev pub IsSmall : PlayCall → Type 0
IsSmall (given.Read path offset len) = len ≤ most_bytes
IsSmall (given.Write path offset len byte) = len ≤ most_bytes
IsSmall _ = Unit {0}

abbrev pub IsSmallTurn : Turn → Type 0
IsSmallTurn (turn.Call call) = IsSmall call
IsSmallTurn (turn.Storm seed) = Unit {0}

-- The operation is the one that was drawn, and the generator is in the state after it.
pub record IsDrawn (draw : Draw) (turn : Turn) (state : ℕ) : Type 0 where
  pub asks : command_by turn ≡ draw.command
  pub goes_on : state ≡ draw.state
  pub small : IsSmallTurn turn
