use Rattle.std.proofs.Common.{ℕ, suc, ◌+◌, ◌*◌, ◌≤◌, length, arith, List, [], ◌∷◌, ◌++◌, map, sym, ◌∙◌, ap, ap₂}
use Rattle.arrayvec.specs.ArrayVec.{ArrayVec}
use Rattle.std.proofs.lemmas.List.{length-map, map-append}
use Rattle.bp_layout.specs.Thaw.{end_path_now, root_path_now}
use Rattle.bp_layout.specs.Inode.{root_of}
use Rattle.bp_layout.specs.Reached.IsReached.{inode_file}
use Rattle.bp_layout.specs.Words.{height_of}
use Rattle.bp_limits.specs.Limits.{max_height}
use Rattle.bp_read.proofs.Digits.{length-digits}
use Rattle.bp_calls.proofs.Refusals.{found_empty}
use Rattle.bp_calls.proofs.TargetPaths.{directory_some}
use Rattle.pm_region.specs.Memory.{current_words}
use Rattle.bp_rename.proofs.RenameTargets.{past_end_targets, into_targets, root_is}
use Rattle.bp_rename.proofs.needs.push_new.Goals as goal

pub entry_path-requires-clause-some : goal.entry_path-requires-clause-some
entry_path-requires-clause-some g c = directory_some (current_words (g.R.Region.memory c.args.region.now)) c.args.to_move.now.to_dir c.requires.can.directory

pub entry_path-requires-clause-live : goal.entry_path-requires-clause-live
entry_path-requires-clause-live g c =
    (found_empty (current_words (g.R.Region.memory c.args.region.now)) c.args.to_move.now.to_dir c.in-Some.slot (sym c.requires.slot ∙ c.in-Some.is)).0

pub push_end-requires-clause-short : goal.push_end-requires-clause-short
push_end-requires-clause-short g c =
    let image = current_words (g.R.Region.memory c.args.region.now) in
    let low : height_of (root_of image 0) ≤ max_height = (c.requires.can.well_formed.sound 0 inode_file).low (omega (arith, c.requires.can.well_formed.some_inodes)) in
    let long = ap (λ (p : List ℕ). length p) c.root_path-root.ensures ∙ length-digits (suc (height_of (root_of image 0))) (8 * c.args.to_move.now.to_dir + 1) in
    omega (arith, low, long)

pub push_end-requires-clause-few : goal.push_end-requires-clause-few
push_end-requires-clause-few g c =
    let long = sym (length-map c.args.near.now.items (λ path. path.items)) ∙ ap (λ (ps : List (List ℕ)). length ps) c.requires.cover in
    omega (arith, long)

pub returns-in-Some : goal.returns-in-Some
returns-in-Some g c =
    let image = current_words (g.R.Region.memory c.args.region.now) in
    ap (λ (xs : List (ArrayVec ℕ)). map (λ path. path.items) xs) c.push.ensures.items
    ∙ map-append (λ path. path.items) c.args.near.now.items (c.entry_path.result ∷ [])
    ∙ ap₂ (λ (ps : List (List ℕ)) (p : List ℕ). ps ++ p ∷ []) c.requires.cover c.entry_path.ensures
    ∙ sym (into_targets image c.args.to_move.now c.requires.can c.in-Some.slot (sym c.requires.slot ∙ c.in-Some.is))

pub returns-in-None : goal.returns-in-None
returns-in-None g c =
    let image = current_words (g.R.Region.memory c.args.region.now) in
    c.push_end.ensures image c.args.to_move.now.to_dir
    (c.root_path-root.ensures ∙ root_is (height_of (root_of image 0)) c.args.to_move.now.to_dir (directory_some image c.args.to_move.now.to_dir c.requires.can.directory)) c.tree_of.ensures.root c.tree_of.ensures.size
    ∙ ap (λ (ps : List (List ℕ)). ps ++ root_path_now image c.args.to_move.now.to_dir ∷ end_path_now image c.args.to_move.now.to_dir ∷ []) c.requires.cover
    ∙ sym (past_end_targets image c.args.to_move.now c.requires.can (sym c.requires.slot ∙ c.in-None.is))
