use Rattle.std.proofs.Common.{◌≡◌, refl, sym, ◌∙◌, ap, subst, arith, Some}
use Rattle.pm_region.specs.Memory.{current_words}
use Rattle.bp_read.specs.Spots.{FreeIs, named_slot}
use Rattle.bp_read.specs.declared.spot.Spot.{Spot}
use Rattle.bp_layout.specs.Directory.{empty_slot, ino_at, ino_in, slot_named}
use Rattle.bp_path.proofs.WalkLaws.{there, low_number, named_reached, slot_there}
use Rattle.bp_volume.proofs.TargetLaws.{name_free, name_taken}
use Rattle.bp_volume.proofs.lookup.target_in.Goals as goal

pub entry_ino-requires-clause-sound : goal.entry_ino-requires-clause-sound
entry_ino-requires-clause-sound g c = rw (c.tree_of.ensures.root, c.tree_of.ensures.size) (c.requires.well_formed.sound c.args.dir c.requires.reached)

pub entry_ino-requires-clause-live : goal.entry_ino-requires-clause-live
entry_ino-requires-clause-live g c =
    let image = current_words (g.R.Region.memory c.args.region.now) in
    let at : slot_named image c.args.dir c.args.name.now ≡ Some c.in-Named.slot = sym c.requires.named ∙ ap named_slot c.in-Named.is in
    omega (arith, slot_there image c.args.dir c.in-Named.slot c.args.name.now at, c.tree_of.ensures.size)

pub overflow_cast-entry : goal.overflow_cast-entry
overflow_cast-entry g c =
    let image = current_words (g.R.Region.memory c.args.region.now) in
    let at : slot_named image c.args.dir c.args.name.now ≡ Some c.in-Named.slot = sym c.requires.named ∙ ap named_slot c.in-Named.is in
    let is : ino_at image c.args.dir c.in-Named.slot ≡ c.entry_ino.result = ap (λ r. ino_in image r c.in-Named.slot) (sym c.tree_of.ensures.root) ∙ sym c.entry_ino.ensures in
    omega (
      arith,
      low_number image c.entry_ino.result c.requires.well_formed
          (there image c.entry_ino.result c.requires.well_formed (named_reached image c.args.dir c.entry_ino.result c.in-Named.slot c.args.name.now c.requires.reached c.requires.directory at is)),
    )

pub returns-in-Named : goal.returns-in-Named
returns-in-Named g c path is =
    let image = current_words (g.R.Region.memory c.args.region.now) in
    name_taken image path _ is.below is.parent c.requires.directory (sym is.last) c.requires.form
    _ refl (sym c.requires.named ∙ ap named_slot c.in-Named.is)
    (ap (λ r. ino_in image r c.in-Named.slot) (sym c.tree_of.ensures.root) ∙ sym c.entry_ino.ensures)

pub returns-in-Free : goal.returns-in-Free
returns-in-Free g c path is =
    let image = current_words (g.R.Region.memory c.args.region.now) in
    name_free image path _ is.below is.parent c.requires.directory (sym is.last) c.requires.form
    refl (sym c.requires.named ∙ ap named_slot c.in-Free.is)
    (let P : Spot → Type 0 = λ spot. FreeIs spot (empty_slot image c.args.dir) in subst P c.in-Free.is c.requires.free)
