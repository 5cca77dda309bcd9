use Rattle.std.proofs.Common.{sym, ◌∙◌, ap}
use Rattle.std.proofs.lemmas.Result.{err_from_is_err_and}
use Rattle.std.proofs.lemmas.Bool.{eqb-true}
use Rattle.pm_region.specs.Memory.{current_words}
use Rattle.bp_path.specs.Names.{path_parts}
use Rattle.bp_path.specs.FoundEntries.{walked_of, fault_of}
use Rattle.bp_path.proofs.WalkLaws.{not_inode_file}
use Rattle.bp_path.proofs.Walking.{start, come_on, fails, walked, reaches}
use Rattle.bp_path.proofs.steps.walk_names.Goals as goal

pub loop-rest-init : goal.loop-rest-init
loop-rest-init g c = record {
  come = start (current_words (g.R.Region.memory c.args.region.now)) c.args.text.now c.requires.names;
  right = c.requires.right;
  references = g.met.F.Finder.same_references_reflexive c.args.finder.now;
}

pub step-requires-clause-reached : goal.step-requires-clause-reached
step-requires-clause-reached g c = reaches (current_words (g.R.Region.memory c.args.region.now)) c.args.text.now c.loop-rest.rest.now c.loop-rest.entry c.loop-rest.invariant.come

pub returns-in_err-entry-clause-walked : goal.returns-in_err-entry-clause-walked
returns-in_err-entry-clause-walked g c =
    let p = err_from_is_err_and c.from_residual.result c.from_residual.ensures.1 in
    let image = current_words (g.R.Region.memory c.args.region.now) in
    let here = fails image c.args.text.now c.loop-rest.rest.now c.split_first.result.1.now c.split_first.result.0.now c.loop-rest.entry c.loop-rest.invariant.come c.split_first.ensures.split in
    ap walked_of p.1 ∙ ap fault_of p.2 ∙ sym (c.in_err-entry.ensures.fault (path_parts c.split_first.result.1.now)) ∙ sym here

pub loop-rest-preserved : goal.loop-rest-preserved
loop-rest-preserved g c =
    let image = current_words (g.R.Region.memory c.args.region.now) in
    let name = c.split_first.result.0.now in
    let found = c.in_ok-entry.ensures in
    record {
      come = come_on image c.args.text.now c.loop-rest.rest.now c.split_first.result.1.now name c.loop-rest.entry c.in_ok-entry.entry c.loop-rest.invariant.come
          c.split_first.ensures.split c.split_first.ensures.rest found.kind found.dir found.slot found.ino
          (not_inode_file image c.loop-rest.entry.ino c.in_ok-entry.entry.ino c.in_ok-entry.entry.slot name found.slot found.ino);
      right = c.in_ok-entry.ensures.right;
      references = g.met.F.Finder.same_references_transitive _ _ _ c.loop-rest.invariant.references c.in_ok-entry.ensures.references;
    }

pub returns-clause-walked : goal.returns-clause-walked
returns-clause-walked g c =
    walked (current_words (g.R.Region.memory c.args.region.now)) c.args.text.now c.loop-rest.rest.now c.loop-rest.entry c.loop-rest.invariant.come
    (eqb-true _ _ (sym c.is_empty.ensures ∙ c.loop-rest-test.false))

pub returns-clause-reached : goal.returns-clause-reached
returns-clause-reached g c = reaches (current_words (g.R.Region.memory c.args.region.now)) c.args.text.now c.loop-rest.rest.now c.loop-rest.entry c.loop-rest.invariant.come
