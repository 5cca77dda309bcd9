use Rattle.std.proofs.Common.{rules, refl, subst}
use Rattle.bp_roles.specs.Mounted.{served_words}
use Rattle.bp_layout.specs.Totals.{HasTotals}
use Rattle.bpfs_c.specs.Serves.Looked.{looked}
use Rattle.bpfs_c.specs.declared.mounted.Mounted.{Mounted}
use Rattle.bpfs_c.proofs.space.bpfs_totals.Goals as goal

pub returns : goal.returns
returns c =
    looked c.in-Some.mounted.value (search rules) (search rules) (
      refl,
      (c.totals.result, subst (λ (m : Mounted). HasTotals (served_words m.volume) c.totals.result) c.deref_mut.ensures.value c.totals.ensures.totals, c.seen.ensures),
    )
