use Rattle.std.proofs.Common.{◌≡◌, ◌∙◌, sym, inl, inr}
use Rattle.bp_shell.specs.Stops.{stop_by}
use Rattle.bp_shell.specs.declared.stop.Stop.TheVariants.{Refused}
use Rattle.bp_shell.proofs.OpeningLaws.{no_refusal, stop_refused}
use Rattle.bp_shell.proofs.image_file.mount.Goals as goal

pub returns-clause-refused : goal.returns-clause-refused
returns-clause-refused g c = λ known notice has e.
    let reported : stop_by c.in-Err.fault ≡ Refused notice = sym c.stop_of.ensures ∙ e in
    elim c.in-Err.ensures.fault [
      | inl out ↦ absurd (no_refusal notice (rw out at reported))
      | inr why ↦ stop_refused c.in-Err.fault c.args.region.base known notice why (record { has = has; sized = c.requires.sized }) reported
    ]
