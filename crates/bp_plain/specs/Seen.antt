-- The program's calls, refusals and answers as those of the definitions.
use Rattle.std.specs.Prelude.{ℕ, ◌<◌, ◌≤◌, ◌+◌, List, length, map, slice_range}
use Rattle.std.specs.List.{All}
use Rattle.bp_limits.specs.Limits.{attributes, max_pieces, max_read}
use Rattle.bp_plain.specs.declared.calls.Call.{Call as GivenCall}
use Rattle.bp_plain.specs.declared.calls.Call.TheVariants as given
use Rattle.bp_plain.specs.declared.errors.FsError.{FsError}
use Rattle.bp_plain.specs.declared.errors.FsError.TheVariants as fault
use Rattle.bp_plain.specs.declared.calls.Piece.{Piece as GivenPiece}
use Rattle.bp_plain.specs.declared.calls.Span.{Span}
use Rattle.bp_plain.specs.Calls.{Call, Piece, Refusal}
use Rattle.bp_plain.specs.Calls.Call.{create, mkdir, unlink, rmdir, list, stat, read, write, truncate, rename, link, links, upgrade, upgrade_to_three, snap, unsnap, snap_list, snap_stat, snap_read, batch, attribute, set_attribute}
use Rattle.bp_plain.specs.Calls.Refusal.{bad_path, not_found, not_dir, is_dir, exists, not_empty, into_self, is_root, too_long, too_big, no_space, no_memory, no_snap, has_snap, old_version, past_end}

-- the bytes of a part of a text; `piece_in` is a piece whose path and bytes are parts of a text
abbrev pub spanned : List ℕ → Span → List ℕ
spanned text span = slice_range text span.at (span.at + span.len)

abbrev pub piece_in : List ℕ → GivenPiece → Piece
piece_in text piece =
    record { path = spanned text piece.path; offset = piece.offset; bytes = spanned text piece.bytes }

abbrev pub call_of : GivenCall → Call
call_of (given.Create path) = create path.now
call_of (given.Mkdir path) = mkdir path.now
call_of (given.Unlink path) = unlink path.now
call_of (given.Rmdir path) = rmdir path.now
call_of (given.List path) = list path.now
call_of (given.Stat path) = stat path.now
call_of (given.Read path offset len) = read path.now offset len
call_of (given.Write path offset bytes) = write path.now offset bytes.now
call_of (given.Truncate path size) = truncate path.now size
call_of (given.Rename from to) = rename from.now to.now
call_of (given.Link from to) = link from.now to.now
call_of (given.Links path) = links path.now
call_of given.Upgrade = upgrade
call_of given.UpgradeToThree = upgrade_to_three
call_of given.Snap = snap
call_of given.Unsnap = unsnap
call_of (given.SnapList path) = snap_list path.now
call_of (given.SnapStat path) = snap_stat path.now
call_of (given.SnapRead path offset len) = snap_read path.now offset len
call_of (given.Attribute path number) = attribute path.now number
call_of (given.SetAttribute path number value) = set_attribute path.now number value
call_of (given.Batch text pieces) = batch (map (piece_in text.now) pieces.now)

abbrev pub refusal_of : FsError → Refusal
refusal_of fault.BadPath = bad_path
refusal_of fault.NotFound = not_found
refusal_of fault.NotDir = not_dir
refusal_of fault.IsDir = is_dir
refusal_of fault.Exists = exists
refusal_of fault.NotEmpty = not_empty
refusal_of fault.IntoSelf = into_self
refusal_of fault.IsRoot = is_root
refusal_of fault.TooLong = too_long
refusal_of fault.TooBig = too_big
refusal_of (fault.NoSpace need free) = no_space need free
refusal_of fault.Memory = no_memory
refusal_of fault.NoSnap = no_snap
refusal_of fault.HasSnap = has_snap
refusal_of fault.OldVersion = old_version
refusal_of fault.PastEnd = past_end

-- the path and the bytes of a piece lie within the text
pub record LiesIn (text : List ℕ) (piece : GivenPiece) : Type 0 where
  pub path : piece.path.at + piece.path.len ≤ length text
  pub bytes : piece.bytes.at + piece.bytes.len ≤ length text

-- The condition on a call of `Plain::apply`: a read asks for at most `max_read` bytes, a batch has 1 to `max_pieces`
-- pieces whose parts lie within its text, and the number of an attribute is below `attributes`.
abbrev pub CanAsk : GivenCall → Type 0
CanAsk (given.Read path offset len) = len ≤ max_read
CanAsk (given.SnapRead path offset len) = len ≤ max_read
CanAsk (given.Batch text pieces) =
    (1 ≤ length pieces.now) × (length pieces.now ≤ max_pieces) × All (LiesIn text.now) pieces.now
CanAsk (given.Attribute path number) = number < attributes
CanAsk (given.SetAttribute path number value) = number < attributes
CanAsk call = Unit {0}
