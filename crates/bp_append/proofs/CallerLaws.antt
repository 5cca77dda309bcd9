-- What a call makes of a preparation: it may store the size.
use Rattle.std.proofs.Common.{◌≡◌, ℕ, suc, ◌+◌, ◌*◌, List, ◌∙◌}
use Rattle.bp_layout.specs.Words.{Image}
use Rattle.bp_layout.specs.Inode.{kind_of, ContentStandsAt}
use Rattle.bp_layout.specs.Reached.{IsReached}
use Rattle.bp_layout.specs.WellFormed.{IsWellFormed}
use Rattle.bp_changes.proofs.SameMeaning.{reached-back}
use Rattle.bp_changes.proofs.ReachedOn.{reached_on}
use Rattle.bp_changes.proofs.Resize.{CanResize}
use Rattle.bp_append.specs.Prepared.{Prepares}

-- the size of a file that is prepared may be stored
pub prepared_can_resize : (old new : Image) → IsWellFormed old → (n from to place : ℕ) (bytes taken : List ℕ) → Prepares old new (suc n) from to bytes taken → IsReached old (suc n) → kind_of old (suc n) ≡ 1 →
    ContentStandsAt new 0 (8 * suc n + 2) place → CanResize new n to place
prepared_can_resize old new wf n from to place bytes taken ready reached is_file stands = record {
  reached = reached_on old new ready.meaning (suc n) reached;
  is_file = ready.meaning.kind (suc n) reached ∙ is_file;
  stands = stands;
  sound = ready.sound;
  low = λ some. ready.low;
  apart = λ u b r away has also. ready.apart u b (reached-back old new wf ready.meaning u r) away also has;
}
