-- What may leave before a thaw may leave after it.
use Rattle.std.proofs.Common.{ℕ, sym, subst}
use Rattle.bp_changes.specs.Effects.{CanUnlink}
use Rattle.bp_changes.specs.SameMeaning.{SameMeaning}
use Rattle.bp_changes.proofs.ReachedOn.{names_on, reached_on}
use Rattle.bp_changes.proofs.SameMeaning.{names-back}
use Rattle.bp_layout.specs.Directory.{ino_at}
use Rattle.bp_layout.specs.Reached.IsReached.{named}
use Rattle.bp_layout.specs.WellFormed.{IsWellFormed}
use Rattle.bp_layout.specs.Words.{Image}

-- the entry may still go in an image that means the same
pub unlinks_on : (image after : Image) → IsWellFormed image → SameMeaning image after → (i s j : ℕ) → CanUnlink image i s j → CanUnlink after i s j
unlinks_on image after wf same i s j can = record {
  reached = reached_on image after same i can.reached;
  entry = names_on image after same i s j can.reached can.entry;
  alone = λ r k n. can.alone r k (names-back image after wf same j r k (named s can.reached can.entry) n);
}

-- and names the same inode there
pub leaving_on : (image after : Image) → IsWellFormed image → SameMeaning image after → (i s : ℕ) → CanUnlink image i s (ino_at image i s) → CanUnlink after i s (ino_at after i s)
leaving_on image after wf same i s can =
    subst (CanUnlink after i s) (sym (same.ino i s can.reached can.entry.directory can.entry.in_size)) (unlinks_on image after wf same i s (ino_at image i s) can)
