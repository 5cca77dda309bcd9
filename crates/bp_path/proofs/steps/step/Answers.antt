use Rattle.std.proofs.Common.{◌≡◌, Some, sym, ◌∙◌, ap, arith}
use Rattle.bp_layout.specs.Inode.{kind_of}
use Rattle.bp_layout.specs.Fields.{kind_word}
use Rattle.bp_layout.specs.Directory.{ino_at, slot_named}
use Rattle.bp_layout.specs.Reached.IsReached.{inode_file}
use Rattle.pm_region.specs.Memory.{current_words}
use Rattle.bp_path.proofs.WalkLaws.{there, low_number, named_reached}
use Rattle.bp_path.proofs.steps.step.Goals as goal

pub get_in-inode-requires-clause-sound : goal.get_in-inode-requires-clause-sound
get_in-inode-requires-clause-sound g c = c.requires.well.sound 0 inode_file

pub get_in-inode-requires-clause-there : goal.get_in-inode-requires-clause-there
get_in-inode-requires-clause-there g c = there (current_words (g.R.Region.memory c.args.region.now)) c.args.dir c.requires.well c.requires.reached

pub overflow_cast-result : goal.overflow_cast-result
overflow_cast-result g c =
    let image = current_words (g.R.Region.memory c.args.region.now) in
    let at : slot_named image c.args.dir c.args.name.now ≡ Some c.in-Some.found.slot = sym c.in-Some.ensures.slot in
    let is : ino_at image c.args.dir c.in-Some.found.slot ≡ c.in-Some.found.ino = sym c.in-Some.ensures.ino in
    let kind : kind_of image c.args.dir ≡ 2 = sym c.get_in-inode.ensures.kind ∙ ap kind_word c.in-Dir.is in
    omega (
      arith,
      low_number image c.in-Some.found.ino c.requires.well
          (there image c.in-Some.found.ino c.requires.well (named_reached image c.args.dir c.in-Some.found.ino c.in-Some.found.slot c.args.name.now c.requires.reached kind at is)),
    )
