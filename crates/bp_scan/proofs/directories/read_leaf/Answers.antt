use Rattle.std.proofs.Common.{◌≡◌, ℕ, ◌+◌, ◌*◌, ◌/◌, ◌<◌, min, sym, ◌∙◌, ap, subst, arith}
use Rattle.pm_region.specs.Memory.{current_words}
use Rattle.bp_layout.specs.Words.{word}
use Rattle.bp_spelling.specs.Names.{entry_place_in}
use Rattle.bp_spelling.proofs.EntryPlaces.{ino-there, row_place}
use Rattle.bp_scan.specs.Reading.{IsInside}
use Rattle.bp_scan.proofs.EntryLaws.{tree_full, tree_sound}
use Rattle.bp_scan.proofs.directories.read_leaf.Goals as goal

pub entry_place-row-requires-clause-sound : goal.entry_place-row-requires-clause-sound
entry_place-row-requires-clause-sound g c = tree_sound (current_words (g.R.Region.memory c.args.region.now)) c.args.work.now c.args.directory c.args.first c.requires.inside

pub entry_place-row-requires-clause-full : goal.entry_place-row-requires-clause-full
entry_place-row-requires-clause-full g c = tree_full (current_words (g.R.Region.memory c.args.region.now)) c.args.work.now c.args.directory c.args.first c.requires.inside

pub loop-k-init : goal.loop-k-init
loop-k-init g c =
    let start : c.args.first ≡ c.args.first + 0 = omega arith in
    record {
      inside = subst (λ (n : ℕ). IsInside (current_words (g.R.Region.memory c.args.region.now)) c.args.work.now c.args.directory n) start c.requires.inside;
      less = omega arith;
    }

pub read_entry-requires-clause-named : goal.read_entry-requires-clause-named
read_entry-requires-clause-named g c =
    let image = current_words (g.R.Region.memory c.args.region.now) in
    let root = c.args.directory.tree.root in
    let size = c.args.directory.tree.size in
    let k = c.loop-k.k in
    let slot = c.args.first + k in
    let live : slot < size / 256 = omega (arith, c.loop-k-test.true) in
    let row : k < 16 = omega (arith, c.loop-k-test.true) in
    let there : c.entry_place-row.result + 32 * k ≡ entry_place_in image root slot = omega (arith, c.entry_place-row.ensures.place, row_place image root c.args.first k c.requires.starts row) in
    c.named_in_row-named.ensures k c.loop-k-test.true
    ∙ ap (word image) there
    ∙ sym (ino-there image root size slot (tree_full image c.args.work.now c.args.directory c.args.first c.requires.inside) live)

pub loop-k-preserved : goal.loop-k-preserved
loop-k-preserved g c =
    let next : c.args.first + c.loop-k.k + 1 ≡ c.args.first + (c.loop-k.k + 1) = omega arith in
    record {
      inside = subst (λ (n : ℕ). IsInside (current_words (g.R.Region.memory c.args.region.now)) c.read_entry.new.work c.args.directory n) next c.in_ok-read_entry.ensures.inside;
      less = omega (arith, c.in_ok-read_entry.ensures.steps, c.loop-k.invariant.less);
    }

pub returns-clause-inside : goal.returns-clause-inside
returns-clause-inside g c =
    let end : c.args.first + c.loop-k.k ≡ min (c.args.first + 16) (c.args.directory.tree.size / 256) = omega (arith, c.loop-k-test.false, c.loop-k.auto.k-end, c.requires.live) in
    subst (λ (n : ℕ). IsInside (current_words (g.R.Region.memory c.args.region.now)) c.loop-k.work c.args.directory n) end c.loop-k.invariant.inside
