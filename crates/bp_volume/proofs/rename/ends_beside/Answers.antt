use Rattle.std.proofs.Common.{◌≡◌, Option, Some, sym, ◌∙◌, ap, subst, arith}
use Rattle.std.proofs.lemmas.Result.{err_from_is_err_and}
use Rattle.pm_region.specs.Memory.{current_words}
use Rattle.std.specs.Prelude.{IfSome}
use Rattle.bp_read.specs.Spots.{found_slot}
use Rattle.bp_read.specs.declared.spot.Found.{Found}
use Rattle.bp_layout.specs.Directory.{ino_at, slot_named}
use Rattle.bp_layout.specs.Lookup.{lookup}
use Rattle.bp_path.proofs.WalkLaws.{there, low_number, named_reached}
use Rattle.bp_plain.specs.Calls.Refusal.{is_root}
use Rattle.bp_plain.specs.Plain.{parent_of}
use Rattle.bp_fs.specs.Step.{last_of}
use Rattle.bp_volume.proofs.CreateLaws.{by_parent}
use Rattle.bp_volume.proofs.RenameLaws.{source_stops}
use Rattle.bp_volume.proofs.TargetLaws.{directory_ends, name_found, name_missing, same_parent}
use Rattle.bp_volume.proofs.WalkingLaws.{fault_reported, ok_was}
use Rattle.bp_volume.proofs.rename.ends_beside.Goals as goal

pub overflow_cast-source : goal.overflow_cast-source
overflow_cast-source g c =
    let image = current_words (g.R.Region.memory c.args.region.now) in
    let at : slot_named image c.in_ok-dir.dir c.last-name.result.now ≡ Some c.in-Some.found.slot = sym c.both_of-both.ensures.slot ∙ ap found_slot c.in-Some.is in
    let P : Option Found → Type 0 = λ o. IfSome o (λ it. it.ino ≡ ino_at image c.in_ok-dir.dir it.slot) in
    let is : c.in-Some.found.ino ≡ ino_at image c.in_ok-dir.dir c.in-Some.found.slot = subst P c.in-Some.is c.both_of-both.ensures.ino in
    omega (
      arith,
      low_number image c.in-Some.found.ino c.requires.well_formed
          (there image c.in-Some.found.ino c.requires.well_formed
          (named_reached image c.in_ok-dir.dir c.in-Some.found.ino c.in-Some.found.slot c.last-name.result.now
          (ok_was _ c.walk_parent_by.result _ c.in_ok-dir.ensures.cases c.walk_parent_by.ensures.reached) (ok_was _ c.walk_parent_by.result _ c.in_ok-dir.ensures.cases c.walk_parent_by.ensures.kind) at (sym is))),
    )

pub returns-in-Some-clause-source : goal.returns-in-Some-clause-source
returns-in-Some-clause-source g c =
    let image = current_words (g.R.Region.memory c.args.region.now) in
    let split = by_parent c.args.from.now c.requires.below in
    let P : Option Found → Type 0 = λ o. IfSome o (λ it. it.ino ≡ ino_at image c.in_ok-dir.dir it.slot) in
    let is : c.in-Some.found.ino ≡ ino_at image c.in_ok-dir.dir c.in-Some.found.slot = subst P c.in-Some.is c.both_of-both.ensures.ino in
    name_found image c.args.from.now c.in_ok-dir.dir c.last-name.result.now
    (record {
      below = c.requires.below;
      parent = ok_was _ c.walk_parent_by.result _ c.in_ok-dir.ensures.cases (c.walk_parent_by.ensures.lookup (parent_of c.args.from.now) (last_of c.args.from.now) split);
      last = sym (c.last-name.ensures.last (parent_of c.args.from.now) (last_of c.args.from.now) split);
    })
    (ok_was _ c.walk_parent_by.result _ c.in_ok-dir.ensures.cases c.walk_parent_by.ensures.kind) c.in-Some.found.slot c.in-Some.found.ino
    (sym c.both_of-both.ensures.slot ∙ ap found_slot c.in-Some.is) (sym is)

pub returns-in-Some-clause-named : goal.returns-in-Some-clause-named
returns-in-Some-clause-named g c = sym c.both_of-both.ensures.slot ∙ ap found_slot c.in-Some.is

pub returns-in-Some-clause-target : goal.returns-in-Some-clause-target
returns-in-Some-clause-target g c =
    let image = current_words (g.R.Region.memory c.args.region.now) in
    let split = by_parent c.args.from.now c.requires.below in
    let split_too = by_parent c.args.to.now c.requires.below_too in
    c.target_in.ensures c.args.to.now
    (record {
      below = c.requires.below_too;
      parent = ap (lookup image) (same_parent c.args.from.now c.args.to.now c.requires.beside)
          ∙ ok_was _ c.walk_parent_by.result _ c.in_ok-dir.ensures.cases (c.walk_parent_by.ensures.lookup (parent_of c.args.from.now) (last_of c.args.from.now) split);
      last = sym (c.last-new.ensures.last (parent_of c.args.to.now) (last_of c.args.to.now) split_too);
    })

pub returns-in-None-clause-refused : goal.returns-in-None-clause-refused
returns-in-None-clause-refused g c =
    let split = by_parent c.args.from.now c.requires.below in
    source_stops _ c.args.from.now c.args.to.now c.requires.below c.requires.below_too _
    (name_missing (current_words (g.R.Region.memory c.args.region.now)) c.args.from.now c.in_ok-dir.dir c.last-name.result.now
    (record {
      below = c.requires.below;
      parent = ok_was _ c.walk_parent_by.result _ c.in_ok-dir.ensures.cases (c.walk_parent_by.ensures.lookup (parent_of c.args.from.now) (last_of c.args.from.now) split);
      last = sym (c.last-name.ensures.last (parent_of c.args.from.now) (last_of c.args.from.now) split);
    })
    (ok_was _ c.walk_parent_by.result _ c.in_ok-dir.ensures.cases c.walk_parent_by.ensures.kind)
    (sym c.both_of-both.ensures.slot ∙ ap found_slot c.in-None.is) is_root)

pub returns-in_err-dir-clause-refused : goal.returns-in_err-dir-clause-refused
returns-in_err-dir-clause-refused g c =
    let p = err_from_is_err_and c.from_residual.result c.from_residual.ensures.1 in
    rw (p.1, p.2)
    (source_stops _ c.args.from.now c.args.to.now c.requires.below c.requires.below_too _
    (directory_ends _ c.args.from.now _ _ c.requires.below
    (c.walk_parent_by.ensures.walked (parent_of c.args.from.now) (last_of c.args.from.now) (by_parent c.args.from.now c.requires.below)) (fault_reported c.walk_parent_by.result _ c.in_err-dir.ensures.cases) is_root))
