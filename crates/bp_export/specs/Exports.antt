-- How the output of the lines of an export ends, and the export of a tree.
use Rattle.std.specs.Prelude.{◌≡◌, ◌↔◌, ℕ, List, ◌++◌, Option, Result, Ok, Err, IsErrOf, OnOk}
use Rattle.std.specs.Io.KnownBytes.{Appends}
use Rattle.bp_io.specs.Causes.{Rose}
use Rattle.bp_io.specs.Views.{SinkView}
use Rattle.bp_plain.specs.Calls.{Call}
use Rattle.bp_plain.specs.Export.{HasShortPaths}
use Rattle.bp_plain.specs.PlainTree.{FileTree}
use Rattle.bp_replies.specs.Gathering.{PassesOn}
use Rattle.bp_replies.specs.Taking.{TakesPart}
use Rattle.bp_script.specs.Export.{call_lines, export_text}
use Rattle.bp_export.specs.declared.fault.Fault.{Fault}
use Rattle.bp_export.specs.declared.fault.Fault.TheVariants.{Deep, Memory, Sink}

-- ---- some calls of an export

-- A prefix of a text, which may be all of it, was added to the waiting lines.
pub record PassesPrefix (text before after : List ℕ) (taken now : Option (List ℕ)) : Type 0 where
  pub prefix : List ℕ
  pub rest : List ℕ
  pub whole : text ≡ prefix ++ rest
  pub passes : PassesOn prefix before after taken now

-- The lines of all these calls were added to the waiting ones; or a prefix of them, if memory lacked; or the sink
-- failed, and took a proper prefix of both. Only in the last case the sink failed.
abbrev pub Goes : {T : Type 0} → List Call → Result T Fault → List ℕ → List ℕ → SinkView → SinkView → Type 0
Goes calls (Ok done) before after old new =
    PassesOn (call_lines calls) before after old.taken new.taken × (new.faults ≡ old.faults)
Goes calls (Err Memory) before after old new =
    PassesPrefix (call_lines calls) before after old.taken new.taken × (new.faults ≡ old.faults)
Goes calls (Err Sink) before after old new =
    TakesPart (before ++ call_lines calls) old.taken new.taken × Rose old.faults new.faults
Goes calls (Err Deep) before after old new = ⊥

-- ---- a whole export

-- A sink took a prefix of a text, which may be all of it.
pub record TakesPrefix (text : List ℕ) (taken now : Option (List ℕ)) : Type 0 where
  pub prefix : List ℕ
  pub rest : List ℕ
  pub whole : text ≡ prefix ++ rest
  pub took : Appends taken now prefix

-- The part of a tree's script that a sink took, and whether the sink failed: the whole script; nothing, if some path
-- cannot be spelled; a prefix, if memory lacked; a proper prefix, if the sink failed.
pub record EndsExport {T : Type 0} (tree : FileTree) (result : Result T Fault) (old new : SinkView) : Type 0 where
  pub all : OnOk result (Appends old.taken new.taken (export_text tree))
  pub deep : IsErrOf result Deep ↔ ¬ HasShortPaths tree
  pub unreported : IsErrOf result Deep → new.taken ≡ old.taken
  pub some : IsErrOf result Memory → TakesPrefix (export_text tree) old.taken new.taken
  pub part : IsErrOf result Sink → TakesPart (export_text tree) old.taken new.taken
  pub cause : IsErrOf result Sink → Rose old.faults new.faults
  pub same : (IsErrOf result Sink → ⊥) → new.faults ≡ old.faults
