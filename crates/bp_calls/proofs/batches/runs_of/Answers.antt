use Rattle.std.proofs.Common.{◌≢◌, [], get_or, length, ◌∙◌, sym, subst, arith, rules}
use Rattle.std.proofs.lemmas.Bool.{eqb-true, eqb-false}
use Rattle.pm_region.specs.Memory.{current_words}
use Rattle.bp_calls.specs.Overwritten.{AreRuns}
use Rattle.bp_calls.specs.Overwritten.AreRuns.{none}
use Rattle.bp_calls.specs.declared.batches.Patch.{Patch}
use Rattle.bp_calls.proofs.PatchRuns.{next_passes, next_run, patch_at}
use Rattle.bp_calls.proofs.batches.runs_of.Goals as goal
use Rattle.bp_calls.proofs.batches.runs_of.Goals.{then-not-is_empty, else-not-is_empty}

-- in place of a patch that is not there
abbrev no_patch : Patch
no_patch = record { inode = 0; offset = 0; bytes = record { ref_ptr = (0, 0); now = [] } }

pub loop-patch-init : goal.loop-patch-init
loop-patch-init g c = record {
  are = subst (λ runs. AreRuns (current_words (g.R.Region.memory c.args.region.now)) [] runs) (sym c.new-runs.ensures) none;
  count = search rules;
}

pub run_of-requires-clause-inside : goal.run_of-requires-clause-inside
run_of-requires-clause-inside g c = patch_at (current_words (g.R.Region.memory c.args.region.now)) c.args.patches.now c.requires.each c.loop-patch.patch-index _ c.loop-patch-test.true

pub loop-patch-preserved : goal.loop-patch-preserved
loop-patch-preserved g c =
    let image = current_words (g.R.Region.memory c.args.region.now) in
    elim c.if-not-is_empty.branch [
      | then-not-is_empty w ↦
          let some : length (get_or c.args.patches.now c.loop-patch.patch-index no_patch).bytes.now ≢ 0 = eqb-false _ _ (sym c.is_empty.ensures ∙ w.if-not-is_empty.true) in
          rw w.runs-is
          (record {
            are = next_run image c.args.patches.now c.loop-patch.patch-index no_patch _ _ _ c.loop-patch-test.true c.loop-patch.invariant.are w.push.ensures.items (omega (arith, some)) w.run_of.ensures;
            count = omega (arith, w.push.ensures.len, c.loop-patch.invariant.count);
          })
      | else-not-is_empty w ↦
          rw w.runs-is
          (record {
            are = next_passes image c.args.patches.now c.loop-patch.patch-index no_patch _ c.loop-patch-test.true c.loop-patch.invariant.are (eqb-true _ _ (sym c.is_empty.ensures ∙ w.if-not-is_empty.false));
            count = omega (arith, c.loop-patch.invariant.count);
          })
    ]
