-- Calls that need no block, as the plain tree describes them: they are never refused for want of space.
use Rattle.std.proofs.Common.{◌≡◌, ◌≢◌, ℕ, ◌≤◌, List, [], ◌∷◌, length, Bool, true, false, Option, None, Some, true≢false, refl, sym, ◌∙◌, ap, subst, arith, ◌<◌}
use Rattle.std.specs.Prelude.{◌&&◌, is_none, nat_lt, not}
use Rattle.std.proofs.lemmas.Bool.{eqb-false}
use Rattle.bp_calls.specs.InPlace.{LiesInWord}
use Rattle.bp_calls.proofs.AttributeWords.{none_setting}
use Rattle.bp_calls.proofs.InWord.{none_writing}
use Rattle.bp_calls.proofs.Leaving.{none_leaving}
use Rattle.bp_calls.proofs.MayLeave.{found_entry, found_reached}
use Rattle.bp_calls.proofs.Shorter.{none_shrinking}
use Rattle.bp_layout.specs.Inode.{kind_of}
use Rattle.bp_layout.specs.Lookup.{lookup}
use Rattle.bp_layout.specs.Paths.{Path}
use Rattle.bp_layout.specs.Need.{Change, need}
use Rattle.bp_layout.specs.Need.Change.{leaves}
use Rattle.bp_layout.specs.Thaw.{full_need, none_in_snapshot}
use Rattle.bp_layout.specs.Trees.{AreInSnapshot, has_snapshot}
use Rattle.bp_layout.specs.Words.{Image}
use Rattle.bp_layout.proofs.ThawLaws.{full_need-none}
use Rattle.bp_limits.specs.CallLimits.{greatest_size}
use Rattle.bp_path.specs.Walk.{Walked, walk_from}
use Rattle.bp_path.specs.Walk.Walked.{found, missing, in_file}
use Rattle.bp_path.proofs.WalkLaws.{walk_is_lookup}
use Rattle.bp_plain.specs.Calls.{Call, Refusal}
use Rattle.bp_plain.specs.Calls.Call.{unlink, rmdir, truncate, write, set_attribute}
use Rattle.bp_plain.specs.Calls.Refusal.{is_dir, is_root, not_dir, not_empty, too_big}
use Rattle.bp_plain.specs.Plain.{refusal, file_refusal, changes, is_changing, walk, first, when, is_dir_at, is_empty_dir, is_root_path, bytes_at, path_named}
use Rattle.bp_plain.specs.PlainTree.{FileTree}
use Rattle.bp_plain.specs.Stands.{ShowsSnapshot, Stands}
use Rattle.bp_fs.specs.Step.{FindsEntry, HasNeed, IsChange, IsNeverShort, PathFinds, StandsIn}
use Rattle.bp_fs.specs.Step.IsChange.{by_unlink, by_rmdir, by_truncate, by_set_attribute}
use Rattle.bp_fs.specs.Step.StepFor.{no_room, unchanged, changed}
use Rattle.bp_volume.specs.Queries.{refusal_of_walk}
use Rattle.bp_volume.proofs.FileLaws.{has_bytes, write_alike}
use Rattle.bp_volume.proofs.ChangeLaws.{snapshot_once}
use Rattle.bp_volume.proofs.LeavingLaws.{is_found}
use Rattle.bp_volume.proofs.WalkLaws.{dir_at, kind_at, reached_at, walk-image}

-- ---- where no refusal comes

none_refused : (o : Option Refusal) (b : Bool) → (is_none o && b) ≡ true → o ≡ None
none_refused None b is = refl
none_refused (Some why) b is = absurd (true≢false (sym is))

-- then each of the first two does not
none_first : (one two : Option Refusal) (rest : List (Option Refusal)) → first (one ∷ two ∷ rest) ≡ None → (one ≡ None) × (two ≡ None)
none_first None None rest none = (refl, refl)
none_first None (Some why) rest none = absurd (cc)
none_first (Some why) two rest none = absurd (cc)

none_when : (b : Bool) (why : Refusal) → when b why ≡ None → b ≡ false
none_when true why none = absurd (cc)
none_when false why none = refl

-- the first of some others, too, where they stand in the second place
none_beside : (one two : Option Refusal) (beside rest : List (Option Refusal)) → first (one ∷ first (two ∷ beside) ∷ rest) ≡ None → (one ≡ None) × (two ≡ None)
none_beside None None beside rest none = (refl, refl)
none_beside None (Some why) beside rest none = absurd (cc)
none_beside (Some why) two beside rest none = absurd (cc)

none_one : (one : Option Refusal) (rest : List (Option Refusal)) → first (one ∷ rest) ≡ None → one ≡ None
none_one None rest none = refl
none_one (Some why) rest none = absurd (cc)

not_top : (path : Path) → is_root_path path ≡ false → path ≢ []
not_top path other e = true≢false (rw e at other)

walked_found : (walked : Walked) → refusal_of_walk walked ≡ None → (j : ℕ) × (walked ≡ found j)
walked_found (found j) none = (j, refl)
walked_found missing none = absurd (cc)
walked_found in_file none = absurd (cc)

module _ (image : Image) (tree : FileTree) (stands : Stands image tree) (alone : tree.snap ≡ None) where
  -- no block is in the snapshot where the tree has no snapshot
  nothing_in_snapshot : (in_snapshot : ℕ → Bool) → AreInSnapshot image in_snapshot → in_snapshot ≡ none_in_snapshot
  nothing_in_snapshot in_snapshot snapshot_blocks = snapshot_once image in_snapshot none_in_snapshot snapshot_blocks (record {
    are = λ b is. let wrong : ◌≡◌ {A = Bool} false true = is in absurd (cc);
    all = λ b is. let there : has_snapshot image ≡ true = is.there in absurd (true≢false (sym there ∙ no_snapshot));
  })
    where
      no_snapshot : has_snapshot image ≡ false
      no_snapshot = subst (ShowsSnapshot image) alone stands.snap

  -- so a call needs what its change does
  needed_by : (call : Call) (needed free : ℕ) (has : HasNeed image call needed free) → need image has.change ≡ 0 → free < needed → ⊥
  needed_by call needed free has none fewer =
      let all : full_need image has.in_snapshot has.change ≡ need image has.change = ap (λ in_snapshot. full_need image in_snapshot has.change) (nothing_in_snapshot has.in_snapshot has.snapshot_blocks) ∙ full_need-none image has.change in
      let is : needed ≡ 0 = sym has.needs ∙ all ∙ none in
      omega (arith, is, fewer)

  -- a walk that nothing stops finds an inode
  walk_finds : (path : Path) → walk tree.now.nodes path ≡ None → (j : ℕ) × (lookup image path ≡ Some j)
  walk_finds path walked =
      let to = walked_found (walk_from image 1 path) (sym (walk-image image tree stands path) ∙ walked) in
      (to.0, (walk_is_lookup image 1 to.0 path).0 to.1)

  -- ---- a name that leaves

  -- the entry that a path finds needs none
  none_at : (text : List ℕ) (i s : ℕ) (root : Refusal) (beside rest : List (Option Refusal)) (at : StandsIn image text i s) → first (when (is_root_path at.path) root ∷ first (walk tree.now.nodes at.path ∷ beside) ∷ rest) ≡ None → need image (leaves i s) ≡ 0
  none_at text i s root beside rest at none =
      let parts = none_beside (when (is_root_path at.path) root) (walk tree.now.nodes at.path) beside rest none in
      let there = walk_finds at.path parts.1 in
      let finds : FindsEntry image text i s there.0 = record {
        path = at.path;
        parsed = at.parsed;
        entry = record { below = not_top at.path (none_when (is_root_path at.path) root parts.0); parent = at.parent; slot = at.slot; inode = there.1 };
      } in
      let here = is_found image text i s there.0 finds in
      none_leaving image stands.now.well_formed i s there.0 (found_reached image _ _ i s there.0 here) (found_entry image _ _ i s there.0 here)

  unlink_none : (text : List ℕ) (change : Change) → is_changing tree (unlink text) ≡ true → IsChange image (unlink text) change → need image change ≡ 0
  unlink_none text _ changing (by_unlink {i = i} {s = s} at) =
      let none : refusal tree (unlink text) ≡ None = none_refused (refusal tree (unlink text)) true changing in
      none_at text i s is_dir (when (is_dir_at tree.now.nodes at.path) is_dir ∷ []) [] at (rw at.parsed at none)

  rmdir_none : (text : List ℕ) (change : Change) → is_changing tree (rmdir text) ≡ true → IsChange image (rmdir text) change → need image change ≡ 0
  rmdir_none text _ changing (by_rmdir {i = i} {s = s} at) =
      let none : refusal tree (rmdir text) ≡ None = none_refused (refusal tree (rmdir text)) true changing in
      none_at text i s is_root (when (not (is_dir_at tree.now.nodes at.path)) not_dir ∷ []) (when (not (is_empty_dir tree.now.nodes at.path)) not_empty ∷ []) at (rw at.parsed at none)

  pub unlink_plainly : (text : List ℕ) → IsNeverShort image tree (unlink text)
  unlink_plainly text _ _ (no_room changing has fewer) = absurd (needed_by (unlink text) _ _ has (unlink_none text has.change changing has.is) fewer)
  unlink_plainly text _ _ (unchanged still) = refl
  unlink_plainly text _ _ (changed changing fits becomes) = refl

  pub rmdir_plainly : (text : List ℕ) → IsNeverShort image tree (rmdir text)
  rmdir_plainly text _ _ (no_room changing has fewer) = absurd (needed_by (rmdir text) _ _ has (rmdir_none text has.change changing has.is) fewer)
  rmdir_plainly text _ _ (unchanged still) = refl
  rmdir_plainly text _ _ (changed changing fits becomes) = refl

  -- ---- a file that gets no longer

  module _ (text : List ℕ) (size : ℕ) (shorter : size ≤ length (bytes_at tree.now.nodes (path_named text))) where
    truncate_none : (change : Change) → is_changing tree (truncate text size) ≡ true → IsChange image (truncate text size) change → need image change ≡ 0
    truncate_none _ changing (by_truncate {i = i} at) =
        let none : refusal tree (truncate text size) ≡ None = none_refused (refusal tree (truncate text size)) (changes tree (truncate text size)) changing in
        let at_file : first (file_refusal tree.now.nodes at.path ∷ when (nat_lt (greatest_size tree.version) size) too_big ∷ []) ≡ None = rw at.parsed at none in
        let parts = none_first (walk tree.now.nodes at.path) (when (is_dir_at tree.now.nodes at.path) is_dir) [] (none_one (file_refusal tree.now.nodes at.path) (when (nat_lt (greatest_size tree.version) size) too_big ∷ []) at_file) in
        let other : kind_of image i ≢ 2 = eqb-false (kind_of image i) 2 (sym (dir_at image tree stands at.path i at.inode) ∙ none_when (is_dir_at tree.now.nodes at.path) is_dir parts.1) in
        let kinds = kind_at image stands.now.well_formed at.path i at.inode in
        let file : kind_of image i ≡ 1 = omega (arith, kinds.0, kinds.1, other) in
        none_shrinking image stands.now.well_formed i size (reached_at image stands.now.well_formed at.path i at.inode) file (rw (has_bytes image text i at file tree stands) at shorter)

    pub truncate_plainly : IsNeverShort image tree (truncate text size)
    truncate_plainly _ _ (no_room changing has fewer) = absurd (needed_by (truncate text size) _ _ has (truncate_none has.change changing has.is) fewer)
    truncate_plainly _ _ (unchanged still) = refl
    truncate_plainly _ _ (changed changing fits becomes) = refl

  -- bytes in one word that has a block

  module _ (text new : List ℕ) (i offset : ℕ) (at : PathFinds image text i) (lies : LiesInWord image i offset (length new)) where
    write_none : (change : Change) → IsChange image (write text offset new) change → need image change ≡ 0
    write_none change is = ap (need image) (write_alike image text i at lies.file offset new change is) ∙ none_writing image stands.now.well_formed i offset (length new) lies

    pub write_plainly : IsNeverShort image tree (write text offset new)
    write_plainly _ _ (no_room changing has fewer) = absurd (needed_by (write text offset new) _ _ has (write_none has.change has.is) fewer)
    write_plainly _ _ (unchanged still) = refl
    write_plainly _ _ (changed changing fits becomes) = refl

  -- an attribute

  module _ (text : List ℕ) (number value : ℕ) (few : number < 3) where
    set_none : (change : Change) → IsChange image (set_attribute text number value) change → need image change ≡ 0
    set_none _ (by_set_attribute {i = i} at) = none_setting image stands.now.well_formed i number (reached_at image stands.now.well_formed at.path i at.inode) few

    pub set_plainly : IsNeverShort image tree (set_attribute text number value)
    set_plainly _ _ (no_room changing has fewer) = absurd (needed_by (set_attribute text number value) _ _ has (set_none has.change has.is) fewer)
    set_plainly _ _ (unchanged still) = refl
    set_plainly _ _ (changed changing fits becomes) = refl
