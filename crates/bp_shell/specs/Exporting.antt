-- The result of `export FILE`, and its conditions.
use Rattle.std.specs.Prelude.{Some, ◌≡◌, ◌⊎◌, ℕ, List, Option}
use Rattle.std.specs.Io.KnownBytes.{Appends}
use Rattle.bp_export.specs.Exports.{TakesPrefix}
use Rattle.bp_io.specs.Causes.{Rose}
use Rattle.bp_io.specs.Views.{Known, SinkView}
use Rattle.bp_layout.specs.Bytes.{image_bytes}
use Rattle.bp_layout.specs.Words.{Image}
use Rattle.bp_plain.specs.Export.{HasShortPaths}
use Rattle.bp_plain.specs.PlainTree.{FileTree}
use Rattle.bp_plain.specs.Stands.{Stands}
use Rattle.bp_replies.specs.Taking.{TakesPart}
use Rattle.bp_roles.specs.Mounted.{by_roles}
use Rattle.bp_script.specs.Export.{export_text}
use Rattle.bp_script.specs.Sayings.{notice_text}
use Rattle.bp_script.specs.declared.notices.Notice.{Notice}
use Rattle.bp_script.specs.declared.notices.Notice.TheVariants.{NoFile, Deep}
use Rattle.bp_session.specs.Files.{AreWordsOf64Bits, IsAbsent}
use Rattle.bp_session.specs.Outside.{Outside}
use Rattle.bp_session.specs.Faults.{FilesFailed, SinkFailed, IsFirstFault, IsIdle, IsUntouched, Prints, PrintsLine}
use Rattle.bp_shell.specs.Opening.{HoldsFileSystem, IsShortFileSystem, RefusesFile}
use Rattle.bp_shell.specs.Statuses.{IsExportStatus, broken_by, prints_line}
use Rattle.bp_shell.specs.declared.status.Status.{Status}
use Rattle.bp_shell.specs.declared.status.Status.TheVariants as status

-- ---- a tree

-- The text printed for a tree, by the status: the whole script; a prefix of it if memory lacks; a proper prefix of it if
-- the sink failed. If some path is longer than a call can spell, only the line that reports this is printed.
abbrev pub PrintsTree : FileTree → Status → Option (List ℕ) → Option (List ℕ) → ℕ → ℕ → Type 0
PrintsTree tree status.Done taken taken_now faults faults_now =
    HasShortPaths tree × Appends taken taken_now (export_text tree) × (faults_now ≡ faults)
PrintsTree tree status.Memory taken taken_now faults faults_now =
    HasShortPaths tree × TakesPrefix (export_text tree) taken taken_now × (faults_now ≡ faults)
PrintsTree tree status.SinkFailed taken taken_now faults faults_now =
    HasShortPaths tree × TakesPart (export_text tree) taken taken_now × Rose faults faults_now
PrintsTree tree status.Deep taken taken_now faults faults_now =
    (¬ HasShortPaths tree) × Prints (notice_text Deep) taken taken_now faults faults_now
PrintsTree tree _ taken taken_now faults faults_now = ⊥

-- The tree that an image represents is printed so to a sink.
abbrev pub PrintsTreeOf : Image → Status → SinkView → SinkView → Type 0
PrintsTreeOf image answer sink sink_now = (tree : FileTree) → Stands image tree
    → PrintsTree tree answer sink.taken sink_now.taken sink.faults sink_now.faults

-- ---- a file

-- FILE holds a file system, which represents this tree to a mount.
pub record HoldsTree (known : Known) (tree : FileTree) : Type 0 where
  pub image : Image
  pub found : HoldsFileSystem known image
  pub stands : Stands (by_roles image) tree

-- FILE holds a file system, a call can spell each path of its tree, and the text is the script that makes this tree.
pub record Exports (known : Known) (text : List ℕ) : Type 0 where
  pub tree : FileTree
  pub holds : HoldsTree known tree
  pub short : HasShortPaths tree
  pub reported : text ≡ export_text tree

-- FILE holds a file system, and some path of its tree is longer than a call can spell.
pub record HoldsDeep (known : Known) : Type 0 where
  pub tree : FileTree
  pub holds : HoldsTree known tree
  pub deep : ¬ HasShortPaths tree

-- The sink took a prefix of the script of FILE, which may be all of it.
pub record ExportsPrefix (before after : Outside) : Type 0 where
  pub text : List ℕ
  pub exports : Exports before.file text
  pub takes : TakesPrefix text before.taken after.taken

-- If FILE is known to have the bytes of a file system of at most `max_file_blocks` blocks, and neither sink nor files
-- fail, the result is `Done`, `Memory`, or, if a path is too long, `Deep`.
abbrev pub IsExportComplete : Status → Outside → Outside → Type 0
IsExportComplete answer before after =
    (image : Image) → before.file ≡ Some (Some (image_bytes image)) → AreWordsOf64Bits image
    → IsShortFileSystem image → ¬ SinkFailed before after → ¬ FilesFailed before after
    → (answer ≡ status.Done) ⊎ (answer ≡ status.Memory) ⊎ (answer ≡ status.Deep)

-- The result of `export FILE`, and its conditions. It reads no input, and FILE stays unchanged.
pub record ExportOutcome (answer : Status) (before after : Outside) : Type 0 where
  pub whole : answer ≡ status.Done → (text : List ℕ) × Exports before.file text × Appends before.taken after.taken text
  pub missing : answer ≡ status.Missing → IsAbsent before.file × PrintsLine NoFile before after
  pub sink : answer ≡ status.SinkFailed → (text : List ℕ) × Exports before.file text × TakesPart text before.taken after.taken
  pub files : answer ≡ status.FilesFailed → IsIdle before after
  pub refused : answer ≡ status.Refused → (notice : Notice) × RefusesFile before.file notice × PrintsLine notice before after
  pub memory : answer ≡ status.Memory → IsIdle before after ⊎ ExportsPrefix before after
  pub deep : answer ≡ status.Deep → HoldsDeep before.file × PrintsLine Deep before after
  pub untouched : IsUntouched before after
  pub flushed : after.is_flushed ≡ before.is_flushed
  pub first : IsFirstFault (broken_by answer) (prints_line answer) before.faults after.faults
  pub complete : IsExportComplete answer before after
  pub one_of : IsExportStatus answer
