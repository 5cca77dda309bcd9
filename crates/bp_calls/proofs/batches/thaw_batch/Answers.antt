use Rattle.std.proofs.Common.{sym, ◌∙◌, arith, rules}
use Rattle.bp_free.specs.Set.{has}
use Rattle.bp_calls.specs.Overwritten.{batch_change, patches_seen}
use Rattle.bp_calls.proofs.CommitResults.{by_one, ok_both, ok_one}
use Rattle.bp_calls.proofs.PatchCommits.{TouchesPatches, overwrite_need, overwrite_shape, overwrite_targets, overwrite_ways, overwrites_reached}
use Rattle.bp_calls.proofs.PatchCommits.{touched_apart, touched_few, touched_leads}
use Rattle.bp_calls.proofs.ThawedNeed.{IsPlanned, enough_after, lacks_both, leads_in, room_past_end, room_for_both, thaws_before}
use Rattle.pm_region.specs.Memory.{current_words}
use Rattle.bp_calls.proofs.batches.thaw_batch.Given.{Over}
use Rattle.bp_calls.proofs.batches.thaw_batch.Goals.{After-need_cover-copies, After-touched_by-touched}
use Rattle.bp_calls.proofs.batches.thaw_batch.Goals as goal

-- the patches may be written, and just they are touched
touches : (g : Over) (c : After-touched_by-touched g)
    → TouchesPatches (current_words (g.R.Region.memory c.args.parts.now.region)) (patches_seen c.args.patches.now) c.touched_by-touched.result
touches g c = record {
  well_formed = c.requires.mounted.well_formed;
  can = c.requires.can;
  runs = rw (c.touched_by-touched.ensures.runs, c.as_slice.ensures.value) c.runs_of-runs.ensures;
  no_words = c.touched_by-touched.ensures.words;
  no_trees = c.touched_by-touched.ensures.trees;
}

-- the patches may be written, and take as many blocks as are copied
plan : (g : Over) (c : After-need_cover-copies g)
    → TouchesPatches (current_words (g.R.Region.memory c.args.parts.now.region)) (patches_seen c.args.patches.now) c.touched_by-touched.result
    → IsPlanned g.R.Region.memory (batch_change c.args.patches.now) c.need_cover-copies.result c.args.parts.now
plan g c here = record {
  mounted = c.requires.mounted;
  reached = overwrites_reached (current_words (g.R.Region.memory c.args.parts.now.region)) (patches_seen c.args.patches.now) c.requires.can.each;
  leads = overwrite_ways here;
  needs = sym (c.need_cover-copies.ensures ∙ overwrite_need here);
  room = c.requires.room;
}

pub covering-targets-requires : goal.covering-targets-requires
covering-targets-requires g c =
    let here = touches g (goal.at.covering-targets-requires g c).After-touched_by-touched in
    let leads = touched_leads here (has c.args.parts.now.free_blocks) c.requires.mounted.exact.sets.free_blocks in
    record { touched = overwrite_shape here; some = search rules; in_range = leads }

pub need_cover-copies-requires : goal.need_cover-copies-requires
need_cover-copies-requires g c =
    let here = touches g (goal.at.need_cover-copies-requires g c).After-touched_by-touched in
    let free = c.requires.mounted.exact.sets.free_blocks in
    record {
      touched = overwrite_shape here;
      some = search rules;
      in_range = touched_leads here (has c.args.parts.now.free_blocks) free;
      apart = touched_apart here (has c.args.parts.now.free_blocks) free;
    }

-- ## The word that covers the bytes is all that the change is near

pub thaw_before-requires : goal.thaw_before-requires
thaw_before-requires g c =
    let at = goal.at.thaw_before-requires g c in
    let here = touches g at.After-touched_by-touched in
    let planned = plan g at.After-need_cover-copies here in
    let are = c.covering-targets.ensures ∙ overwrite_targets here in
    let few = touched_few here (has c.args.parts.now.free_blocks) c.requires.mounted.exact.sets.free_blocks in
    record {
      mounted = c.requires.mounted;
      ways = leads_in planned are;
      few = omega (arith, few, c.need_cover-copies.ensures);
      room = room_for_both planned are;
    }

pub returns : goal.returns
returns g c =
    let at = goal.at.returns g c in
    let here = touches g at.After-touched_by-touched in
    let planned = plan g at.After-need_cover-copies here in
    let are = c.covering-targets.ensures ∙ overwrite_targets here in
    let thaw = c.thaw_before in
    record {
      thaws = ok_one thaw.result thaw.ensures.thaws (thaws_before planned are);
      room = ok_both thaw.result thaw.ensures.thaws thaw.ensures.enough
          (λ thaws enough. let room = room_past_end planned are thaws enough in omega (arith, room, planned.needs));
      enough = ok_both thaw.result thaw.ensures.thaws thaw.ensures.enough
          (λ thaws enough. let left = enough_after planned are thaws enough in omega (arith, left, planned.needs));
      refused = by_one thaw.result thaw.ensures.refused (lacks_both planned are);
      same = thaw.ensures.same;
    }
