-- The result of `play FILE --seed S --count C`, and its conditions.
use Rattle.std.specs.Prelude.{◌≡◌, ◌++◌, ℕ, List, codes, decimal, flat_map}
use Rattle.pm_region.specs.Memory.{Memory}
use Rattle.bp_fs.specs.ByWords.{by_words}
use Rattle.bp_io.specs.Views.{Known}
use Rattle.bp_layout.specs.Whole.{HasSpace}
use Rattle.bp_layout.specs.Words.{Image}
use Rattle.bp_plain.specs.PlainTree.{FileTree}
use Rattle.bp_plain.specs.Stands.{Stands}
use Rattle.bp_play.specs.Playing.{Plays}
use Rattle.bp_play.specs.Turns.{turns}
use Rattle.bp_play.specs.declared.summary.Summary.{Summary}
use Rattle.bp_roles.specs.Mounted.{by_roles, served_words}
use Rattle.bp_layout.specs.Totals.{HasTotals}
use Rattle.bp_layout.specs.declared.totals.Totals.{Totals}
use Rattle.bp_session.specs.Acting.{state}
use Rattle.bp_session.specs.Outside.{Outside}
use Rattle.bp_session.specs.Prefixes.{FollowsTree}
use Rattle.bp_shell.specs.Ending.{ReadOutcome}
use Rattle.bp_shell.specs.Opening.{HoldsFileSystem, start}
use Rattle.bp_shell.specs.declared.status.Status.{Status}

-- ---- the five lines

-- Decimal numbers, each after a space.
abbrev pub spaced : List ℕ → List ℕ
spaced numbers = flat_map (λ number. codes " " ++ decimal number) numbers

abbrev pub turns_text : ℕ → ℕ → List ℕ
turns_text count ok = codes "turns " ++ decimal count ++ codes "\nok " ++ decimal ok ++ codes "\nrefused"

abbrev pub crashes_text : ℕ → ℕ → ℕ → List ℕ
crashes_text crashes kept total =
    codes "\ncrashes " ++ decimal crashes ++ codes " kept " ++ decimal kept ++ codes " of " ++ decimal total
    ++ codes "\n"

-- The lines of a summary.
abbrev pub summary_text : ℕ → Summary → List ℕ
summary_text count summary =
    turns_text count summary.ok ++ spaced summary.refused ++ crashes_text summary.crashes summary.kept summary.of

abbrev pub tree_text : Totals → ℕ → List ℕ
tree_text totals free =
    codes "tree " ++ decimal totals.files ++ codes " " ++ decimal totals.dirs ++ codes " " ++ decimal totals.bytes
    ++ codes " space " ++ decimal free ++ codes " " ++ decimal totals.live ++ codes "\n"

-- The five lines of a play: the operations, those carried out, those refused, the crashes, and the totals at the
-- end.
abbrev pub play_text : ℕ → Summary → Totals → ℕ → List ℕ
play_text count summary totals free = summary_text count summary ++ tree_text totals free

-- ---- a play

-- A play ended with this summary, and with a memory of these totals and this number of free blocks.
pub record EndsPlay (old : Memory) (seed count : ℕ) (summary : Summary) (totals : Totals) (free : ℕ) : Type 0 where
  pub new : Memory
  pub plays : Plays by_words old new seed count summary
  pub holds : HasTotals (served_words new) totals
  pub leaves : HasSpace (served_words new) free

-- FILE holds a file system, a play over a region of its words ended with this text, and its replies are those of an
-- abstract tree.
pub record PlaysFile (known : Known) (seed count : ℕ) (text : List ℕ) : Type 0 where
  pub image : Image
  pub found : HoldsFileSystem known image
  pub summary : Summary
  pub totals : Totals
  pub free : ℕ
  pub ends : EndsPlay (start image).system seed count summary totals free
  pub reported : text ≡ play_text count summary totals free
  pub plainly : (tree : FileTree) → Stands (by_roles image) tree
      → FollowsTree tree (start image) (turns seed count) ends.plays.replies (state ends.new image)

-- The result of `play FILE --seed S --count C`, and its conditions.
abbrev pub PlayOutcome : Status → ℕ → ℕ → Outside → Outside → Type 0
PlayOutcome answer seed count before after = ReadOutcome (PlaysFile before.file seed count) answer before after
