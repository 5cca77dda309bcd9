-- A play over the words of its file.
use Rattle.std.proofs.Common.{refl, ◌≡◌, ℕ, List}
use Rattle.pm_region.specs.Memory.{Memory}
use Rattle.bp_io.specs.Views.{Known}
use Rattle.bp_layout.specs.Words.{Image}
use Rattle.bp_play.specs.declared.summary.Summary.{Summary}
use Rattle.bp_layout.specs.declared.totals.Totals.{Totals}
use Rattle.bp_session.proofs.PlainLaws.{follows_tree}
use Rattle.bp_shell.specs.Opening.{HoldsFileSystem, start}
use Rattle.bp_shell.specs.Playing.{EndsPlay, PlaysFile, play_text}

-- a play over the file's words
pub plays_file : (known : Known) (image : Image) (old : Memory) (seed count : ℕ) (summary : Summary) (totals : Totals) (free : ℕ) (text : List ℕ) → HoldsFileSystem known image → old ≡ (start image).system
    → EndsPlay old seed count summary totals free → text ≡ play_text count summary totals free → PlaysFile known seed count text
plays_file known image old seed count summary totals free text found same ends reported =
    let here : EndsPlay (start image).system seed count summary totals free = rw same at ends in
    record {
      image = image;
      found = found;
      summary = summary;
      totals = totals;
      free = free;
      ends = here;
      reported = reported;
      plainly = λ tree stands. follows_tree (start image) tree _ _ _ refl stands (here.plays.session image);
    }
