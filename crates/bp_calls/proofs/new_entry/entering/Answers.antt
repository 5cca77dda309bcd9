use Rattle.std.proofs.Common.{ℕ, List, [], ◌∷◌, ◌++◌, map, Option, suc, ◌+◌, ◌*◌, ◌≤◌, length, sym, ◌∙◌, ap, arith}
use Rattle.arrayvec.specs.ArrayVec.{ArrayVec}
use Rattle.std.proofs.lemmas.List.{length-map}
use Rattle.bp_layout.specs.Inode.{root_of}
use Rattle.bp_layout.specs.Need.Entrant.{linked}
use Rattle.bp_layout.specs.Reached.IsReached.{inode_file}
use Rattle.bp_layout.specs.Words.{height_of}
use Rattle.bp_limits.specs.Limits.{max_height}
use Rattle.bp_read.proofs.Digits.{length-digits}
use Rattle.bp_layout.specs.Thaw.{end_path_now, root_path_now}
use Rattle.bp_layout.specs.WordPaths.{WordPath}
use Rattle.pm_region.specs.Memory.{current_words}
use Rattle.bp_calls.proofs.EnteredLaws.{directory_inode}
use Rattle.bp_calls.proofs.EnterTargets.{enter_targets, entry_ways, root_path_at}
use Rattle.bp_calls.proofs.Refusals.{found_empty}
use Rattle.bp_calls.proofs.new_entry.entering.Goals as goal

pub entry_path-requires-clause-live : goal.entry_path-requires-clause-live
entry_path-requires-clause-live g c =
    (found_empty (current_words (g.R.Region.memory c.args.region.now)) c.args.dir c.in-Some.slot (sym c.requires.slot ∙ c.in-Some.is)).0

pub push_end-requires-clause-short : goal.push_end-requires-clause-short
push_end-requires-clause-short g c =
    let image = current_words (g.R.Region.memory c.args.region.now) in
    let long = ap (λ (p : WordPath). length p) c.root_path.ensures ∙ length-digits (suc (height_of (root_of image 0))) (8 * c.args.dir + 1) in
    let top : height_of (root_of image 0) ≤ max_height = (c.requires.well_formed.sound 0 inode_file).low (omega (arith, c.requires.well_formed.some_inodes)) in
    omega (arith, long, top)

pub returns-in-Some-clause-paths : goal.returns-in-Some-clause-paths
returns-in-Some-clause-paths g c =
    let image = current_words (g.R.Region.memory c.args.region.now) in
    ap (λ (xs : List (ArrayVec ℕ)). map (λ path. path.items) xs) (c.push.ensures.items ∙ ap (λ (xs : List (ArrayVec ℕ)). xs ++ c.entry_path.result ∷ []) c.new-targets.ensures)
    ∙ ap (λ (p : WordPath). p ∷ []) c.entry_path.ensures
    ∙ sym (enter_targets image c.requires.well_formed c.args.dir c.requires.reached c.requires.directory linked ∙ ap (λ (o : Option ℕ). entry_ways image c.args.dir o ++ []) (sym c.requires.slot ∙ c.in-Some.is))

pub returns-in-None-clause-paths : goal.returns-in-None-clause-paths
returns-in-None-clause-paths g c =
    let image = current_words (g.R.Region.memory c.args.region.now) in
    c.push_end.ensures image c.args.dir (c.root_path.ensures ∙ root_path_at image c.args.dir (directory_inode image c.args.dir c.requires.directory)) c.tree_of.ensures.root c.tree_of.ensures.size
    ∙ ap (λ (paths : List WordPath). paths ++ root_path_now image c.args.dir ∷ end_path_now image c.args.dir ∷ [])
    (ap (λ (xs : List (ArrayVec ℕ)). map (λ path. path.items) xs) (c.push-in-None.ensures.items ∙ ap (λ (xs : List (ArrayVec ℕ)). xs ++ c.size_path.result ∷ []) c.new-targets.ensures)
    ∙ ap (λ (p : WordPath). p ∷ []) c.size_path.ensures)
    ∙ sym (enter_targets image c.requires.well_formed c.args.dir c.requires.reached c.requires.directory linked ∙ ap (λ (o : Option ℕ). entry_ways image c.args.dir o ++ []) (sym c.requires.slot ∙ c.in-None.is))

pub returns-in-None-clause-few : goal.returns-in-None-clause-few
returns-in-None-clause-few g c =
    let image = current_words (g.R.Region.memory c.args.region.now) in
    let all = ap (λ (ps : List WordPath). length ps)
    (c.push_end.ensures image c.args.dir (c.root_path.ensures ∙ root_path_at image c.args.dir (directory_inode image c.args.dir c.requires.directory)) c.tree_of.ensures.root c.tree_of.ensures.size
    ∙ ap (λ (paths : List WordPath). paths ++ root_path_now image c.args.dir ∷ end_path_now image c.args.dir ∷ [])
    (ap (λ (xs : List (ArrayVec ℕ)). map (λ path. path.items) xs) (c.push-in-None.ensures.items ∙ ap (λ (xs : List (ArrayVec ℕ)). xs ++ c.size_path.result ∷ []) c.new-targets.ensures))) in
    omega (arith, all, length-map c.push_end.new.targets.items (λ (p : ArrayVec ℕ). p.items))
