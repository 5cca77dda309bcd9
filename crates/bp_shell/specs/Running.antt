-- The results of programs, and their conditions.
use Rattle.std.specs.Prelude.{Some, true, false, ◌≡◌, ◌⊎◌, ◌≤◌, ℕ, ◌-◌, List, [], ◌∷◌, ◌++◌, length}
use Rattle.std.specs.Io.KnownBytes.{Appends, Consumes, IsAtEnd}
use Rattle.pm_region.specs.Memory.{Memory, current_words}
use Rattle.bp_fs.specs.ByWords.{by_words}
use Rattle.bp_io.specs.Files.{KeepsFiles, Stays, StaysAttached}
use Rattle.bp_io.specs.Views.{View, HasBytes}
use Rattle.bp_limits.specs.Limits.{max_input}
use Rattle.bp_layout.specs.Words.{Image}
use Rattle.bp_layout.specs.Bytes.{image_bytes}
use Rattle.bp_plain.specs.PlainTree.{FileTree}
use Rattle.bp_plain.specs.Stands.{Stands}
use Rattle.bp_limits.specs.declared.version.Version.{Version}
use Rattle.bp_command.specs.Programs.{Program, Requests}
use Rattle.bp_command.specs.Programs.Program.{formats, runs, checks, plays, exports}
use Rattle.bp_roles.specs.Mounted.{by_roles}
use Rattle.bp_script.specs.Commands.{Command}
use Rattle.bp_script.specs.Commands.Command.{sync}
use Rattle.bp_script.specs.declared.notices.Notice.TheVariants.{Formatted}
use Rattle.bp_script.specs.Sayings.{notice_text}
use Rattle.bp_session.specs.Acting.{state}
use Rattle.bp_session.specs.Lines.{commands_from}
use Rattle.bp_session.specs.Files.{AreWordsOf64Bits, HasBlocksOf, Holds}
use Rattle.bp_session.specs.Serving.{BreaksOff, SyncFails, OfLines, Serves, StopsAtSave, Replied}
use Rattle.bp_session.specs.Prefixes.{FollowsTree}
use Rattle.bp_session.specs.Session.{State}
use Rattle.bp_shell.specs.Opening.{HoldsFileSystem, IsShortFileSystem, IsStart, OnlyReads, start}
use Rattle.bp_shell.specs.Formatting.{new_image, HasPartly, OnlyMakes}
use Rattle.bp_session.specs.Outside.{Outside}
use Rattle.bp_session.specs.Faults.{SourceFailed, SinkFailed, FilesFailed, IsFirstFault, IsIdle}
use Rattle.bp_shell.specs.Checking.{CheckOutcome}
use Rattle.bp_shell.specs.Ending.{StopOutcome}
use Rattle.bp_shell.specs.Exporting.{ExportOutcome}
use Rattle.bp_shell.specs.Playing.{PlayOutcome}
use Rattle.bp_shell.specs.Statuses.{IsFormatStatus, IsRunStatus, broken_by, prints_line}
use Rattle.bp_shell.specs.declared.status.Status.{Status}
use Rattle.bp_shell.specs.declared.status.Status.TheVariants as status
use Rattle.bp_session.specs.Pieces.{piece_size}
use Rattle.bp_replies.specs.Room.{gathered_size}
use Rattle.bp_replies.specs.Taking.{TakesPart}

-- ---- `run FILE`

-- FILE holds this image afterwards.
abbrev pub Saves : Outside → Image → Type 0
Saves after image = HasBytes after.file (image_bytes image)

-- Each block of FILE is that of the first or of the second image afterwards.
abbrev pub SavesSomeBlocks : Outside → Image → Image → Type 0
SavesSomeBlocks after first second = HasBlocksOf after.file (image_bytes first) (image_bytes second)

-- The file of this name held this image, a file system, and was mounted: no fault came, and no file changed.
pub record IsMountedFrom (name : List ℕ) (image : Image) (before now : View) (memory : Memory) : Type 0 where
  pub found : HoldsFileSystem (before.contents name) image
  pub starts : IsStart image memory
  pub holds : Holds now name image
  pub flushed : now.is_flushed ≡ before.is_flushed
  pub calm : now.faults ≡ before.faults
  pub kept : KeepsFiles before now

-- A run began: FILE holds a file system, which represents a tree to a mount, and this input was read.
pub record BeginsRun (before after : Outside) : Type 0 where
  pub image : Image
  pub found : HoldsFileSystem before.file image
  pub tree : FileTree
  pub stands : Stands (by_roles image) tree
  pub input : List ℕ
  pub read : Consumes before.left after.left input

-- Every line was answered, with the replies of an abstract tree, and FILE holds the words at the end.
pub record Runs (before after : Outside) : Type 0 where
  pub begins : BeginsRun before after
  pub all : IsAtEnd after.left
  pub few : length begins.input ≤ max_input
  pub new : State Memory
  pub reported : Replied by_words (start begins.image) new (commands_from [] begins.input) before.taken after.taken
  pub saved : Saves after (current_words new.system)
  pub flushed : after.is_flushed ≡ true
  pub plainly : FollowsTree begins.tree (start begins.image) (commands_from [] begins.input) reported.replies new

-- The lines that were read whole were answered, and FILE is as at the last sync.
pub record RunsPart (before after : Outside) : Type 0 where
  pub begins : BeginsRun before after
  pub keeps : List ℕ
  pub memory : Memory
  pub serves : Serves by_words (start begins.image) memory (Saves after) [] begins.input keeps before.taken after.taken
  pub plainly : FollowsTree begins.tree (start begins.image) serves.commands serves.reported.replies
      (state memory serves.after)

-- The greatest number of bytes was served, and the last read gave more.
pub record RunsLong (before after : Outside) : Type 0 where
  pub begins : BeginsRun before after
  pub served : List ℕ
  pub more : List ℕ
  pub are : begins.input ≡ served ++ more
  pub most : length served ≡ max_input
  pub some : 1 ≤ length more
  pub few : length more ≤ piece_size
  pub keeps : List ℕ
  pub memory : Memory
  pub serves : Serves by_words (start begins.image) memory (Saves after) [] served keeps before.taken after.taken
  pub plainly : FollowsTree begins.tree (start begins.image) serves.commands serves.reported.replies
      (state memory serves.after)

-- The reply to one of these commands was broken off. FILE is as at the last sync up to that command, and no sync came
-- after it.
pub record BreaksOffPlainly (image : Image) (tree : FileTree) (memory : Memory) (before after : Outside)
    (commands : List Command) : Type 0 where
  pub breaks : BreaksOff by_words gathered_size (start image) memory (Saves after) commands before.taken after.taken
  pub plainly : FollowsTree tree (start image) (breaks.prefix ++ breaks.last ∷ breaks.ahead)
      (breaks.replies ++ breaks.reply ∷ breaks.unheard) (state memory breaks.after)

-- The sink did not take a reply whole. Its line was read whole, or ended the input.
pub record RunsBroken (before after : Outside) : Type 0 where
  pub begins : BeginsRun before after
  pub memory : Memory
  pub breaks : OfLines after.left begins.input (BreaksOffPlainly begins.image begins.tree memory before after)

-- One of these commands, a sync, drained the log and could not save: each block of FILE is the one saved before or
-- the one at the sync.
pub record StopsPlainly (image : Image) (tree : FileTree) (memory : Memory) (before after : Outside)
    (commands : List Command) : Type 0 where
  pub stops : StopsAtSave by_words (start image) memory (SavesSomeBlocks after) commands before.taken after.taken
  pub plainly : FollowsTree tree (start image) stops.prefix stops.reported.replies stops.middle

-- A sync could not save. Its line was read whole, or ended the input.
pub record RunsStopped (before after : Outside) : Type 0 where
  pub begins : BeginsRun before after
  pub memory : Memory
  pub stops : OfLines after.left begins.input (StopsPlainly begins.image begins.tree memory before after)

-- Every line was answered, and the sync at the end of the input could not save.
pub record RunsUnsaved (before after : Outside) : Type 0 where
  pub begins : BeginsRun before after
  pub all : IsAtEnd after.left
  pub few : length begins.input ≤ max_input
  pub memory : Memory
  pub middle : State Memory
  pub reported : Replied by_words (start begins.image) middle (commands_from [] begins.input) before.taken after.taken
  pub fails : SyncFails by_words middle memory (SavesSomeBlocks after) sync
  pub plainly : FollowsTree begins.tree (start begins.image) (commands_from [] begins.input) reported.replies middle

-- If FILE is known to have the bytes of a file system of at most `max_file_blocks` blocks, the known source has at most
-- `max_input` bytes, and nothing fails, the result is `Done` or `Memory`.
abbrev pub IsComplete : Status → Outside → Outside → Type 0
IsComplete answer before after =
    (image : Image) (input : List ℕ) → before.file ≡ Some (Some (image_bytes image)) → AreWordsOf64Bits image
    → IsShortFileSystem image → before.left ≡ Some input → length input ≤ max_input
    → ¬ SourceFailed before after → ¬ SinkFailed before after → ¬ FilesFailed before after
    → (answer ≡ status.Done) ⊎ (answer ≡ status.Memory)

-- The result of `run FILE`, and its conditions.
pub record RunOutcome (answer : Status) (before after : Outside) : Type 0 where
  pub whole : answer ≡ status.Done → Runs before after
  pub source : answer ≡ status.SourceFailed → RunsPart before after
  pub sink : answer ≡ status.SinkFailed → RunsBroken before after
  pub files : answer ≡ status.FilesFailed → IsIdle before after ⊎ RunsStopped before after ⊎ RunsUnsaved before after
  pub long : answer ≡ status.LongInput → RunsLong before after
  pub stops : StopOutcome answer before after
  pub flushed : ¬ (answer ≡ status.FilesFailed) → before.is_flushed ≡ true → after.is_flushed ≡ true
  pub complete : IsComplete answer before after
  pub one_of : IsRunStatus answer

-- FILE is attached and may be written, and no other file changes.
pub record ChangesAlone (name : List ℕ) (old new : View) : Type 0 where
  pub attached : new.is_attached name ≡ true
  pub may_write : new.may_write ≡ true
  pub others : (other : List ℕ) → new.is_attached other ≡ false → Stays (old.contents other) (new.contents other)

-- What a run leaves of the files: only FILE may change; or the files attached before still are, and no file changes.
abbrev pub OnlyWrites : List ℕ → View → View → Type 0
OnlyWrites name old new = ChangesAlone name old new ⊎ StaysAttached old new × KeepsFiles old new

-- ---- `format FILE --blocks N --version V`

-- The line that reports a new file system of this number of blocks. All except two are free.
abbrev pub format_text : ℕ → List ℕ
format_text blocks = notice_text (Formatted blocks (blocks - 2))

-- The result of `format FILE --blocks N --version V`, and its conditions. It reads no input.
pub record FormatOutcome (answer : Status) (version : Version) (blocks : ℕ) (before after : Outside) : Type 0 where
  pub whole : answer ≡ status.Done → Saves after (new_image version blocks) × Appends before.taken after.taken (format_text blocks)
  pub sink : answer ≡ status.SinkFailed → Saves after (new_image version blocks) × TakesPart (format_text blocks) before.taken after.taken
  pub flushed : (answer ≡ status.Done) ⊎ (answer ≡ status.SinkFailed) → after.is_flushed ≡ true
  pub files : answer ≡ status.FilesFailed → HasPartly before.file (image_bytes (new_image version blocks)) after.file
      × (after.taken ≡ before.taken)
  pub memory : answer ≡ status.Memory → (after.file ≡ before.file) × (after.taken ≡ before.taken)
  pub unread : after.left ≡ before.left
  pub first : IsFirstFault (broken_by answer) (prints_line answer) before.faults after.faults
  pub one_of : IsFormatStatus answer

-- ---- any program

-- The name of FILE of a program.
abbrev pub file_name : Program → List ℕ
file_name (formats name blocks version) = name
file_name (runs name) = name
file_name (checks name) = name
file_name (plays name seed count) = name
file_name (exports name) = name

-- The result of a program, and its conditions.
abbrev pub ProgramOutcome : Program → Status → Outside → Outside → Type 0
ProgramOutcome (formats name blocks version) answer before after = FormatOutcome answer version blocks before after
ProgramOutcome (runs name) answer before after = RunOutcome answer before after
ProgramOutcome (checks name) answer before after = CheckOutcome answer before after
ProgramOutcome (plays name seed count) answer before after = PlayOutcome answer seed count before after
ProgramOutcome (exports name) answer before after = ExportOutcome answer before after

-- What a program leaves of the files, FILE and others, by their known contents before and after.
abbrev pub LeavesFiles : Program → View → View → Type 0
LeavesFiles (formats name blocks version) old new = OnlyMakes name old new
LeavesFiles (runs name) old new = OnlyWrites name old new
LeavesFiles (checks name) old new = OnlyReads name old new
LeavesFiles (plays name seed count) old new = OnlyReads name old new
LeavesFiles (exports name) old new = OnlyReads name old new

-- The arguments ask for a program, and this is its result. The views before and after are stated for each file name.
pub record RunsProgram (words : List (List ℕ)) (answer : Status) (before after : List ℕ → Outside) : Type 0 where
  pub program : Program
  pub asked : Requests words program
  pub outcome : ProgramOutcome program answer (before (file_name program)) (after (file_name program))
