use Rattle.std.proofs.Common.{inl, inr, rules, refl, subst}
use Rattle.bp_scan.specs.declared.fault.MountFault.{MountFault}
use Rattle.bpfs_c.specs.Opens.{ReportsFault}
use Rattle.bpfs_c.specs.Opens.Opens.{faulty, holding, odd, opened, short}
use Rattle.bpfs_c.proofs.mount.bpfs_mount.Goals as goal

pub returns-in-Some : goal.returns-in-Some
returns-in-Some c = holding c.in-Some.mounted.value (search rules) refl (search rules) refl

pub returns-in-Ok : goal.returns-in-Ok
returns-in-Ok c = elim c.hold.ensures [
  | inl held ↦ opened (search rules) (search rules) (search rules) (search rules) (search rules) refl
  | inr lacking ↦ short (search rules) (search rules) (search rules) (search rules) refl
]

pub returns-in-Err : goal.returns-in-Err
returns-in-Err c =
    let Reports = λ (why : MountFault). ReportsFault why c.args.fault.now c.faulty.result c.faulty.new.reported in
    elim c.in-Err.ensures [
      | inl missized ↦ odd (search rules) missized.0 (subst Reports missized.1 c.faulty.ensures) (search rules)
      | inr whole ↦ elim whole.1 [
        | inl lacking ↦ let reported = subst Reports lacking c.faulty.ensures in short (search rules) whole.0 reported.0 (search rules) reported.1
        | inr wrong ↦ faulty c.in-Err.why (search rules) whole.0 wrong.0 wrong.1 c.faulty.ensures (search rules)
      ]
    ]
