use Rattle.std.proofs.Common.{◌∙◌, ap, inl, inr, refl, rules, subst}
use Rattle.std.specs.Prelude.{Some}
use Rattle.bp_scan.specs.declared.fault.MountFault.{MountFault}
use Rattle.pm_region.specs.Memory.{Memory, current_words}
use Rattle.bpfs_c.specs.Opens.{Opens, ReportsFault}
use Rattle.bpfs_c.specs.Opens.Opens.{faulty, odd, opened, short}
use Rattle.bpfs_c.specs.Opens.OpensAt.{busy, opened_at, refused}
use Rattle.bpfs_c.proofs.mount_at.bpfs_mount_at.Goals as goal

pub returns-in-Some : goal.returns-in-Some
returns-in-Some c = busy c.in-Some.mounted.value (search rules) refl (search rules) refl refl

pub returns-in-Ok : goal.returns-in-Ok
returns-in-Ok c =
    let words = c.in-Some-of_lent.words in
    let made = c.in-Ok.ensures in
    elim c.hold_lent.ensures [
      | inl held ↦ opened_at words (search rules) (search rules) held.0
          (opened (search rules) made.0 made.2 held.0 (search rules) refl) (search rules)
      | inr lacking ↦ refused words (search rules) (search rules)
          (short (search rules) made.0 lacking.0 (search rules) refl) (search rules)
          (lacking.2 ∙ ap (λ (m : Memory). Some (current_words m)) made.1)
    ]

pub returns-in-Err : goal.returns-in-Err
returns-in-Err c =
    let words = c.in-Some-of_lent.words in
    let Reports = λ (why : MountFault). ReportsFault why c.args.fault.now c.faulty.result c.faulty.new.reported in
    let opens : Opens words c.args.handle.now.held c.args.fault.now c.faulty.result c.take.new.self.held c.faulty.new.reported = elim c.in-Err.ensures.1 [
      | inl missized ↦ odd (search rules) missized.0 (subst Reports missized.1 c.faulty.ensures) (search rules)
      | inr whole ↦ elim whole.1 [
        | inl lacking ↦ let reported = subst Reports lacking c.faulty.ensures in short (search rules) whole.0 reported.0 (search rules) reported.1
        | inr wrong ↦ faulty c.in-Err.why (search rules) whole.0 wrong.0 wrong.1 c.faulty.ensures (search rules)
      ]
    ] in
    refused words (search rules) (search rules) opens (search rules) (c.into_lent.ensures ∙ ap (λ ws. Some ws) c.in-Err.ensures.0)
