use Rattle.std.proofs.Common.{◌∙◌, ◌+◌, ◌++◌, sym, subst, ap, arith}
use Rattle.std.proofs.lemmas.Result.{err_from_is_err_and}
use Rattle.bp_layout.specs.Tree.{content}
use Rattle.bp_plain.specs.Export.{stretches, write_of}
use Rattle.bp_script.specs.Export.{FitsText}
use Rattle.pm_region.specs.Memory.{current_words}
use Rattle.bp_export.specs.Report.{size_after}
use Rattle.bp_export.proofs.CallsInRow.{all_at}
use Rattle.bp_export.proofs.FileLines.{ReportedTo, following, passed_to, size_reported, reported_next, reported_none, written_to, written_whole, writes_until}
use Rattle.bp_export.proofs.ReportLaws.{fails_before, reports_as, reports_nothing, reports_same, reports_then}
use Rattle.bp_export.proofs.TreeStretches.{length_content, live_stretch, zeros_before, zeros_from, zeros_left}
use Rattle.bp_export.proofs.files.export_leaves.Goals as goal

pub loop-leaf-init : goal.loop-leaf-init
loop-leaf-init g c =
    let bytes = content (current_words (g.R.Region.memory c.args.region.now)) c.args.tree.root c.args.tree.size in
    record { lines = reports_nothing 0 _ _; noted = reported_none bytes; low = omega arith; room = c.requires.room }

pub export_stretch-requires-clause-short : goal.export_stretch-requires-clause-short
export_stretch-requires-clause-short g c =
    let image = current_words (g.R.Region.memory c.args.region.now) in
    let bytes = content image c.args.tree.root c.args.tree.size in
    all_at (write_of c.args.path.now bytes) FitsText c.in-Some.leaf (stretches bytes) (live_stretch image c.args.tree.root c.args.tree.size c.in-Some.leaf c.in-Some.ensures.some.live) c.requires.short

pub returns-in_err-end-clause-lines : goal.returns-in_err-end-clause-lines
returns-in_err-end-clause-lines g c =
    let image = current_words (g.R.Region.memory c.args.region.now) in
    let bytes = content image c.args.tree.root c.args.tree.size in
    let p = err_from_is_err_and c.from_residual.result c.from_residual.ensures.1 in
    let next = c.in-Some.ensures.some in
    rw p.1 (
    reports_same _ _ _ _ _ _ _
    (written_whole c.args.path.now bytes c.loop-leaf.from c.in-Some.leaf next.beyond (live_stretch image c.args.tree.root c.args.tree.size c.in-Some.leaf next.live)
    (zeros_before image c.args.tree.root c.args.tree.size c.loop-leaf.from c.in-Some.leaf next))
    (fails_before _ _ (writes_until c.args.path.now bytes c.loop-leaf.from ++ write_of c.args.path.now bytes c.in-Some.leaf) (following c.args.path.now bytes c.in-Some.leaf) _ _ _ _ _
    (reports_then _ _ (writes_until c.args.path.now bytes c.loop-leaf.from) (write_of c.args.path.now bytes c.in-Some.leaf) _ _ _ _ _ _ c.loop-leaf.invariant.lines c.in_err-end.ensures.lines))
    )

pub loop-leaf-smaller : goal.loop-leaf-smaller
loop-leaf-smaller g c =
    let image = current_words (g.R.Region.memory c.args.region.now) in
    omega (arith, live_stretch image c.args.tree.root c.args.tree.size c.in-Some.leaf c.in-Some.ensures.some.live, c.in-Some.ensures.some.beyond)

pub loop-leaf-preserved : goal.loop-leaf-preserved
loop-leaf-preserved g c =
    let image = current_words (g.R.Region.memory c.args.region.now) in
    let bytes = content image c.args.tree.root c.args.tree.size in
    let next = c.in-Some.ensures.some in
    record {
      lines =
          reports_as _ _ _ _ _ _ _
          (reports_same _ _ _ _ _ _ _
          (sym (written_to c.args.path.now bytes c.loop-leaf.from c.in-Some.leaf next.beyond (zeros_before image c.args.tree.root c.args.tree.size c.loop-leaf.from c.in-Some.leaf next)))
          (reports_then _ _ (writes_until c.args.path.now bytes c.loop-leaf.from) (write_of c.args.path.now bytes c.in-Some.leaf) _ _ _ _ _ _ c.loop-leaf.invariant.lines c.in_ok-end.ensures.lines));
      noted =
          subst (ReportedTo bytes (c.in-Some.leaf + 1)) (sym c.unwrap_or-noted.ensures)
          (reported_next bytes c.loop-leaf.from c.in-Some.leaf c.loop-leaf.noted c.args.tree.size _ (length_content image c.args.tree.root c.args.tree.size) next.live c.loop-leaf.invariant.noted c.in_ok-end.ensures.noted);
      low = omega (arith, live_stretch image c.args.tree.root c.args.tree.size c.in-Some.leaf next.live);
      room = c.in_ok-end.ensures.room;
    }

pub returns-clause-noted : goal.returns-clause-noted
returns-clause-noted g c =
    let image = current_words (g.R.Region.memory c.args.region.now) in
    let bytes = content image c.args.tree.root c.args.tree.size in
    ap (size_after c.args.path.now c.loop-leaf.noted) (sym (length_content image c.args.tree.root c.args.tree.size))
    ∙ size_reported c.args.path.now bytes c.loop-leaf.from c.loop-leaf.noted c.loop-leaf.invariant.noted (zeros_from image c.args.tree.root c.args.tree.size c.loop-leaf.from c.in_default.ensures.none)

pub returns-clause-lines : goal.returns-clause-lines
returns-clause-lines g c =
    let image = current_words (g.R.Region.memory c.args.region.now) in
    let bytes = content image c.args.tree.root c.args.tree.size in
    reports_as _ _ _ _ _ _ _
    (reports_same _ _ _ _ _ _ _
    (sym (passed_to c.args.path.now bytes c.loop-leaf.from (stretches bytes) c.loop-leaf.invariant.low (zeros_left image c.args.tree.root c.args.tree.size c.loop-leaf.from c.in_default.ensures.none)))
    c.loop-leaf.invariant.lines)
