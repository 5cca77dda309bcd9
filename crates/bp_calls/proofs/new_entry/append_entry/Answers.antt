use Rattle.std.proofs.Common.{◌≡◌, ◌+◌, ◌/◌, sym, ◌∙◌, arith}
use Rattle.pm_region.specs.Memory.{current_words}
use Rattle.bp_free.specs.Set.{members}
use Rattle.bp_changes.specs.Sets.{in_snapshot_of}
use Rattle.bp_calls.proofs.EnteredLaws.{directory_inode}
use Rattle.bp_calls.proofs.PutsLaws.{PreparesEntry, put_count, put_done, put_number, put_prepares, put_reached, put_sound, put_well_formed, small_directory}
use Rattle.bp_calls.proofs.new_entry.append_entry.Given.{Over}
use Rattle.bp_calls.proofs.new_entry.append_entry.Goals.{After-stage_append}
use Rattle.bp_calls.proofs.new_entry.append_entry.Goals as goal

pub overflow_add-end : goal.overflow_add-end
overflow_add-end g c =
    let lacks = c.requires.can.lacks in
    let small = small_directory (current_words (g.R.Region.memory c.args.parts.now.region)) lacks.well_formed c.args.dir lacks.reached lacks.directory in
    omega (arith, small, c.requires.size)

pub root_path-at-requires : goal.root_path-at-requires
root_path-at-requires g c = let wf = c.requires.can.lacks.well_formed in omega (arith, wf.formatted.sized.at_least, wf.formatted.sized.whole)

pub stage_append-requires : goal.stage_append-requires
stage_append-requires g c =
    record {
      can = (
        c.args.dir,
        put_prepares (g.R.Region.memory c.args.parts.now.region) c.args.parts.now.free_blocks c.args.ino c.args.name.now c.args.dir c.requires.can
            c.root_path-at.result.items c.root_path-at.ensures c.args.tree.size c.requires.size,
      );
    }

-- the entry is prepared
puts : (g : Over) (c : After-stage_append g)
    → PreparesEntry (in_snapshot_of c.args.parts.now) (g.R.Region.memory c.args.parts.now.region) (g.R.Region.memory c.stage_append.new.parts.region)
    c.args.parts.now.free_blocks (members c.stage_append.new.parts.free_blocks) c.args.dir c.args.tree.size c.args.ino c.args.name.now
puts g c =
    let can = put_prepares (g.R.Region.memory c.args.parts.now.region) c.args.parts.now.free_blocks c.args.ino c.args.name.now c.args.dir c.requires.can
    c.root_path-at.result.items c.root_path-at.ensures c.args.tree.size c.requires.size in
    record {
      bytes = _;
      can = c.requires.can;
      sized = c.requires.size;
      entry = c.entry_bytes.ensures;
      prepared = c.stage_append.ensures.prepares c.args.dir can;
    }

pub tree_of-requires : goal.tree_of-requires
tree_of-requires g c =
    let here = puts g (goal.at.tree_of-requires g c).After-stage_append in
    let some = directory_inode (current_words (g.R.Region.memory c.args.parts.now.region)) c.args.dir c.requires.can.lacks.directory in
    record { well_formed = put_well_formed here; reached = put_reached here; some = omega (arith, some) }

pub content_word-stored_ino-requires-clause-sound : goal.content_word-stored_ino-requires-clause-sound
content_word-stored_ino-requires-clause-sound g c =
    put_sound (puts g (goal.at.content_word-stored_ino-requires-clause-sound g c).After-stage_append) c.tree_of.result.root c.tree_of.ensures.root

pub content_word-length-requires-clause-sound : goal.content_word-length-requires-clause-sound
content_word-length-requires-clause-sound g c =
    put_sound (puts g (goal.at.content_word-length-requires-clause-sound g c).After-stage_append) c.tree_of.result.root c.tree_of.ensures.root

pub prove_eq-unreachable-requires : goal.prove_eq-unreachable-requires
prove_eq-unreachable-requires g c =
    let first : c.args.tree.size / 8 + 0 ≡ c.args.tree.size / 8 = omega arith in
    let number = c.content_word-stored_ino in
    let length = c.content_word-length in
    let is = put_number (puts g (goal.at.prove_eq-unreachable-requires g c).After-stage_append) c.tree_of.ensures.root (rw first at number.ensures) length.ensures
    number.type_inv length.type_inv (omega (arith, c.ranges.ino)) in
    c.if-prove_eq.true (is ∙ sym c.from.ensures)

pub prove_eq-unreachable-requires-2 : goal.prove_eq-unreachable-requires-2
prove_eq-unreachable-requires-2 g c =
    let first : c.args.tree.size / 8 + 0 ≡ c.args.tree.size / 8 = omega arith in
    let number = c.content_word-stored_ino in
    let length = c.content_word-length in
    c.if-prove_eq-2.true
    (put_count (puts g (goal.at.prove_eq-unreachable-requires-2 g c).After-stage_append) c.tree_of.ensures.root (rw first at number.ensures) length.ensures
    number.type_inv length.type_inv (omega (arith, c.ranges.ino)))

pub returns-clause-puts : goal.returns-clause-puts
returns-clause-puts g c =
    let first : c.args.tree.size / 8 + 0 ≡ c.args.tree.size / 8 = omega arith in
    let number = c.content_word-stored_ino in
    let length = c.content_word-length in
    put_done (puts g (goal.at.returns-clause-puts g c).After-stage_append) c.tree_of.ensures.root (rw first at number.ensures) length.ensures
    number.type_inv length.type_inv (omega (arith, c.ranges.ino))
