use Rattle.std.proofs.Common.{rules, Some, ap, subst, sym, ◌∙◌, ℕ}
use Rattle.bpfs_c.specs.Codes.{IsEndedBy}
use Rattle.bpfs_c.specs.Serves.Exported.{full, served}
use Rattle.bpfs_c.specs.Upgrades.{Upgrades}
use Rattle.bpfs_c.specs.declared.mounted.Mounted.{Mounted}
use Rattle.bpfs_c.proofs.Keeping.{ended_keeps}
use Rattle.bpfs_c.proofs.UpgradeLaws.{upgrades_at_last}
use Rattle.bpfs_c.proofs.upgrade.bpfs_upgrade_to_three.Goals as goal
use Rattle.bpfs_c.proofs.upgrade.bpfs_upgrade_to_three.Goals.{then-has_room, else-has_room}

pub returns-clause-called : goal.returns-clause-called
returns-clause-called c = λ other.
    let held = c.in-Some.mounted.value in
    elim c.if-has_room.branch [
      | then-has_room w ↦
          let volume = w.clear_or_upgrade-code.new.volume in
          let made : Upgrades held.volume w.clear_or_upgrade-code.result volume =
          subst (λ (m : Mounted). Upgrades m.volume w.clear_or_upgrade-code.result volume) w.deref_mut.ensures.value
          (upgrades_at_last _ volume _ w.clear_or_upgrade-code.ensures (λ is. other (w.code-is ∙ is))) in
          served held (search rules) (search rules) (record {
            answer = made.answer;
            volume = volume;
            is_call = made.is_call;
            held = search rules
                ∙ ap (λ kept. Some (record held { volume = volume; listing = kept })) (sym (ended_keeps held.listing made.answer _ made.reported));
            reported = subst (λ (code : ℕ). IsEndedBy made.answer code) (sym w.code-is) made.reported;
          })
      | else-has_room w ↦ full held (search rules) (search rules) (search rules) (search rules) (search rules)
    ]
