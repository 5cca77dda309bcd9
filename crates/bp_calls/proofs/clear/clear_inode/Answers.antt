use Rattle.std.proofs.Common.{◌+◌, arith}
use Rattle.bp_layout.specs.Reached.IsReached.{inode_file}
use Rattle.pm_region.specs.Memory.{current_words}
use Rattle.pm_region.proofs.MayLaws.{room_after_may}
use Rattle.pm_region.proofs.MemoryLaws.{length-current_words}
use Rattle.bp_calls.proofs.ClearedImages.{words_inside}
use Rattle.bp_calls.proofs.ClearedSteps.{IsZeroAt, clears_inode, same_base}
use Rattle.bp_calls.proofs.clear.clear_inode.Goals as goal

pub place-at-requires-clause-sound : goal.place-at-requires-clause-sound
place-at-requires-clause-sound g c = c.requires.well_formed.sound 0 inode_file

pub clear_word-requires-clause-in_range : goal.clear_word-requires-clause-in_range
clear_word-requires-clause-in_range g c = omega (arith, c.place-at.ensures.in_range, length-current_words (g.R.Region.memory c.args.region.now))

pub clear_word-requires-2-clause-in_range : goal.clear_word-requires-2-clause-in_range
clear_word-requires-2-clause-in_range g c =
    let old = g.R.Region.memory c.args.region.now in
    let inside = words_inside (current_words old) c.requires.well_formed c.args.ino c.place-at.result c.requires.there c.place-at.ensures.place in
    let base = same_base (IsZeroAt c.place-at.result) 0 1 old (g.R.Region.memory c.clear_word.new.region) c.clear_word.ensures.stores in
    omega (arith, inside, base, length-current_words old)

pub clear_word-requires-2-clause-room : goal.clear_word-requires-2-clause-room
clear_word-requires-2-clause-room g c =
    let old = g.R.Region.memory c.args.region.now in
    omega (arith, c.requires.room, room_after_may (IsZeroAt c.place-at.result) 0 1 old (g.R.Region.memory c.clear_word.new.region) c.clear_word.ensures.stores)

pub clear_word-requires-3-clause-in_range : goal.clear_word-requires-3-clause-in_range
clear_word-requires-3-clause-in_range g c =
    let old = g.R.Region.memory c.args.region.now in
    let first = g.R.Region.memory c.clear_word.new.region in
    let inside = words_inside (current_words old) c.requires.well_formed c.args.ino c.place-at.result c.requires.there c.place-at.ensures.place in
    let base = same_base (IsZeroAt c.place-at.result) 0 1 old first c.clear_word.ensures.stores in
    let next = same_base (IsZeroAt (c.place-at.result + 1)) 0 1 first (g.R.Region.memory c.clear_word-2.new.region) c.clear_word-2.ensures.stores in
    omega (arith, inside, base, next, length-current_words old)

pub clear_word-requires-3-clause-room : goal.clear_word-requires-3-clause-room
clear_word-requires-3-clause-room g c =
    let old = g.R.Region.memory c.args.region.now in
    let first = g.R.Region.memory c.clear_word.new.region in
    omega (
      arith,
      c.requires.room,
      room_after_may (IsZeroAt c.place-at.result) 0 1 old first c.clear_word.ensures.stores,
      room_after_may (IsZeroAt (c.place-at.result + 1)) 0 1 first (g.R.Region.memory c.clear_word-2.new.region) c.clear_word-2.ensures.stores,
    )

pub returns : goal.returns
returns g c =
    clears_inode (g.R.Region.memory c.args.region.now) (g.R.Region.memory c.clear_word.new.region) (g.R.Region.memory c.clear_word-2.new.region) (g.R.Region.memory c.clear_word-3.new.region)
    c.args.ino c.place-at.result c.place-at.ensures.place c.clear_word.ensures.stores c.clear_word-2.ensures.stores c.clear_word-3.ensures.stores
    c.clear_word.ensures.cleared c.clear_word-2.ensures.cleared c.clear_word-3.ensures.cleared
