use Rattle.std.proofs.Common.{ℕ, ◌≤◌, List, [], ◌∷◌, ◌++◌, map, Option, sym, ◌∙◌, ap, ap₂, subst, arith}
use Rattle.arrayvec.specs.ArrayVec.{ArrayVec}
use Rattle.std.proofs.lemmas.List.{map-append}
use Rattle.bp_layout.specs.Need.Change.{enters}
use Rattle.bp_layout.specs.Need.Entrant.{grown, taken}
use Rattle.bp_layout.specs.Reached.IsReached.{inode_file}
use Rattle.bp_layout.specs.Thaw.{end_path_now, root_path_now, targets}
use Rattle.bp_layout.specs.WordPaths.{WordPath}
use Rattle.bp_layout.specs.Words.{height_of}
use Rattle.bp_limits.specs.Limits.{max_height}
use Rattle.pm_region.specs.Memory.{current_words}
use Rattle.bp_changes.specs.Entrant.{entrant_of}
use Rattle.bp_calls.proofs.EnterTargets.{more_targets, row_path_at}
use Rattle.bp_calls.proofs.Refusals.{is_least, is_none}
use Rattle.bp_calls.proofs.creation.entering_new.Goals as goal

pub push_end-requires-clause-low : goal.push_end-requires-clause-low
push_end-requires-clause-low g c =
    let wf = c.requires.mounted.well_formed in
    λ some. subst (λ r. height_of r ≤ max_height) (sym c.inode_file-inodes.ensures.root) ((wf.sound 0 inode_file).low (omega (arith, wf.some_inodes)))

pub returns-in-Some-clause-paths : goal.returns-in-Some-clause-paths
returns-in-Some-clause-paths g c =
    let parts = c.args.parts.now in
    let image = current_words (g.R.Region.memory parts.region) in
    let j = c.in-Some.inode in
    λ free least.
    ap (λ (xs : List (ArrayVec ℕ)). map (λ path. path.items) xs) c.push.ensures.items
    ∙ map-append (λ (path : ArrayVec ℕ). path.items) c.entering-targets.result.items (c.word_path.result ∷ [])
    ∙ ap₂ (λ (ps qs : List WordPath). ps ++ qs) c.entering-targets.ensures.paths
    (ap (λ (p : WordPath). p ∷ []) (c.word_path.ensures ∙ row_path_at image j c.inode_file-inodes.result.root _ c.inode_file-inodes.ensures.root (omega (arith, c.from.ensures))))
    ∙ more_targets image c.requires.mounted.well_formed c.args.dir c.requires.reached c.requires.directory (taken j)
    ∙ ap (λ (o : Option ℕ). targets image (enters c.args.dir (entrant_of o))) (sym (is_least image parts.free_blocks parts.free_inodes c.requires.mounted.exact.sets j c.in-Some.ensures.least free least))

pub returns-in-None-clause-paths : goal.returns-in-None-clause-paths
returns-in-None-clause-paths g c =
    let parts = c.args.parts.now in
    let image = current_words (g.R.Region.memory parts.region) in
    λ free least.
    c.push_end.ensures image 0 c.new.ensures c.inode_file-inodes.ensures.root c.inode_file-inodes.ensures.size
    ∙ ap (λ (ps : List WordPath). ps ++ root_path_now image 0 ∷ end_path_now image 0 ∷ []) c.entering-targets.ensures.paths
    ∙ more_targets image c.requires.mounted.well_formed c.args.dir c.requires.reached c.requires.directory grown
    ∙ ap (λ (o : Option ℕ). targets image (enters c.args.dir (entrant_of o))) (sym (is_none image parts.free_blocks parts.free_inodes c.requires.mounted.exact.sets c.in-None.ensures.least free least))
