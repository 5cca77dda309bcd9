-- The guarantee of `run FILE` in the terms of abstract trees. This file and the files that it imports define all of it.
use Rattle.std.specs.Prelude.{◌≡◌, ◌≢◌, ℕ, ◌<◌, List, [], ◌∷◌, length, slice_index, codes}
use Rattle.std.specs.Io.KnownBytes.{Appends, Consumes, IsAtEnd}
use Rattle.pm_region.specs.Memory.{Memory, current_words}
use Rattle.bp_io.specs.Views.{HasBytes, SinkView, SourceView, View}
use Rattle.bp_layout.specs.Words.{Image}
use Rattle.bp_layout.specs.Bytes.{image_bytes}
use Rattle.bp_plain.specs.PlainTree.{FileTree}
use Rattle.bp_plain.specs.Stands.{Stands}
use Rattle.bp_roles.specs.Mounted.{by_roles}
use Rattle.bp_script.specs.Texts.{LineReply}
use Rattle.bp_session.specs.Following.{IsPlainly}
use Rattle.bp_session.specs.Lines.{commands_from, text_of}
use Rattle.bp_session.specs.Outside.{Outside, outside}
use Rattle.bp_shell.specs.declared.status.Status.{Status}
use Rattle.bp_shell.specs.declared.status.Status.TheVariants as status

-- FILE held an image that represents a tree to a mount. The script was read to its end. The text that was printed is
-- the replies of an abstract session that starts from the tree. FILE now holds the words of a memory that follows the
-- session's last state: the tree now, the tree after each call, and the tree after a power failure at any moment.
pub record KeepsGuarantee (before after : Outside) : Type 0 where
  pub image : Image
  pub file : HasBytes before.file (image_bytes image)
  pub tree : FileTree
  pub represents : Stands (by_roles image) tree
  pub script : List ℕ
  pub read : Consumes before.left after.left script
  pub all : IsAtEnd after.left
  pub replies : List LineReply
  pub printed : Appends before.taken after.taken (text_of replies)
  pub memory : Memory
  pub plainly : IsPlainly tree (commands_from [] script) replies memory
  pub saved : HasBytes after.file (image_bytes (current_words memory))

-- If the arguments are the program's own name, `run` and FILE, where FILE is not empty and does not begin with `-` (byte 45),
-- and the status is 0, the guarantee was kept.
abbrev pub Guarantees : {S K F : Type 0} → List (List ℕ) → Status → (S → SourceView) → (K → SinkView) → (F → View)
    → S → K → F → S → K → F → Type 0
Guarantees arguments answer source_of sink_of files_of source sink files source_now sink_now files_now =
    (called name : List ℕ) → arguments ≡ called ∷ codes "run" ∷ name ∷ [] → 0 < length name → slice_index name 0 ≢ 45
    → answer ≡ status.Done → KeepsGuarantee (outside (source_of source) (sink_of sink) (files_of files) name)
    (outside (source_of source_now) (sink_of sink_now) (files_of files_now) name)
