-- What lies at or below an inode in an image that means the same as a first one lies so in that one.
use Rattle.std.proofs.Common.{ℕ, sym, subst}
use Rattle.bp_layout.specs.Directory.{EntryNames}
use Rattle.bp_layout.specs.Reached.{IsReached}
use Rattle.bp_layout.specs.Reached.IsReached.{named as reaches}
use Rattle.bp_layout.specs.WellFormed.{IsWellFormed}
use Rattle.bp_layout.specs.Words.{Image}
use Rattle.bp_changes.specs.Effects.{IsAtOrBelow}
use Rattle.bp_changes.specs.Effects.IsAtOrBelow.{itself, named}
use Rattle.bp_changes.specs.SameMeaning.{SameMeaning}
use Rattle.bp_changes.proofs.SameMeaning.{names-back}

module _ (old mid : Image) (wf : IsWellFormed old) (same : SameMeaning old mid) (i s x : ℕ) (reached : IsReached old i) (entry : EntryNames old i s x) where
  below : (t : ℕ) → IsAtOrBelow mid x t → IsReached old t × IsAtOrBelow old x t
  below t (itself e) = (subst (IsReached old) (sym e) (reaches s reached entry), itself e)
  below t (named {i = u} slot under n) =
      let above = below u under in
      let was : EntryNames old u slot t = names-back old mid wf same u slot t above.0 n in
      (reaches slot above.0 was, named slot above.1 was)

  pub below_before : (t : ℕ) → IsAtOrBelow mid x t → IsAtOrBelow old x t
  below_before t under = (below t under).1
