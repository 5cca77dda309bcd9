use Rattle.std.proofs.Common.{sym, ◌∙◌}
use Rattle.bp_layout.specs.Need.{Change}
use Rattle.bp_layout.specs.Need.Change.{overwrites}
use Rattle.bp_changes.specs.Overwrites.{OverwritesFiles}
use Rattle.bp_calls.specs.Overwritten.{patches_seen, stretches_of}
use Rattle.bp_calls.proofs.CommitLaws.{commits_at_once, commits_thawed, lacking_space}
use Rattle.bp_calls.proofs.NothingInSnapshot.{clear_at_once}
use Rattle.bp_calls.proofs.PatchCommits.{overwrites_at_once, overwrites_enough, overwrites_of, overwrites_thawed}
use Rattle.bp_calls.proofs.batches.batch.Goals as goal

-- ---- where no block is in the snapshot

pub overlay-requires-clause-can : goal.overlay-requires-clause-can
overlay-requires-clause-can g c =
    overwrites_at_once g.R.Region.memory (patches_seen c.args.patches.now) c.args.parts.now c.requires.mounted c.requires.can (sym c.count.ensures ∙ c.if-count-eq0.true) c.requires.room

pub returns-then-count-eq0 : goal.returns-then-count-eq0
returns-then-count-eq0 g c =
    let memory = g.R.Region.memory in
    let change : Change = overwrites (stretches_of (patches_seen c.args.patches.now)) in
    commits_at_once memory change (OverwritesFiles (patches_seen c.args.patches.now)) c.args.parts.now c.overlay.new.parts c.requires.mounted
    (clear_at_once memory change c.args.parts.now c.requires.mounted (sym c.count.ensures ∙ c.if-count-eq0.true)) c.overlay.result c.overlay.ensures

-- ---- after a thaw

pub overlay-requires-in-Ok-clause-can : goal.overlay-requires-in-Ok-clause-can
overlay-requires-in-Ok-clause-can g c =
    overwrites_thawed g.R.Region.memory (patches_seen c.args.patches.now) c.args.parts.now c.requires.mounted c.requires.can c.thaw_batch.new.parts c.in-Ok.ensures.thaws c.in-Ok.ensures.room

pub returns-in-Ok : goal.returns-in-Ok
returns-in-Ok g c =
    let memory = g.R.Region.memory in
    let patches = patches_seen c.args.patches.now in
    let middle = c.thaw_batch.new.parts in
    commits_thawed memory (overwrites (stretches_of patches)) (OverwritesFiles patches) c.args.parts.now middle c.overlay-in-Ok.new.parts c.requires.mounted
    (overwrites_of memory patches c.args.parts.now c.requires.mounted c.requires.can middle c.in-Ok.ensures.thaws) c.in-Ok.ensures.thaws
    (overwrites_enough memory patches c.args.parts.now c.requires.mounted c.requires.can middle c.in-Ok.ensures.thaws c.in-Ok.ensures.enough) c.overlay-in-Ok.result c.overlay-in-Ok.ensures

pub returns-in-Err : goal.returns-in-Err
returns-in-Err g c = lacking_space g.R.Region.memory c.args.parts.now c.thaw_batch.new.parts c.requires.mounted.exact c.in-Err.ensures.refused c.in-Err.ensures.same
