-- What is touched for a rename is planned for it, also after a thaw.
use Rattle.std.proofs.Common.{◌≡◌, ◌≢◌, ℕ, suc, ◌+◌, ◌*◌, List, [], ◌∷◌, None, Option, Some, refl, sym, ◌∙◌, ap, ap₂, arith}
use Rattle.bp_changes.specs.Thawed.{SameShape}
use Rattle.bp_changes.proofs.ReachedOn.{reached_on}
use Rattle.bp_changes.proofs.ShapeLaws.{empty-same}
use Rattle.bp_append.specs.Prepared.{need_for}
use Rattle.bp_calls.proofs.PutsLaws.{few_past_end}
use Rattle.bp_cow.specs.declared.touched.Touched.{Touched}
use Rattle.bp_layout.specs.Directory.{empty_slot}
use Rattle.bp_layout.specs.Inode.{size_of}
use Rattle.bp_layout.specs.Need.{need}
use Rattle.bp_layout.specs.Thaw.{cover_now}
use Rattle.bp_layout.specs.Reached.{IsReached}
use Rattle.bp_layout.specs.Reached.IsReached.{inode_file}
use Rattle.bp_layout.specs.WordPaths.{WordPath, inode_path, tree_path}
use Rattle.bp_layout.specs.Words.{Image}
use Rattle.bp_changes.specs.Forest.{root_trail}
use Rattle.bp_cow.specs.declared.touched.TreeSize.{TreeSize}
use Rattle.bp_rename.specs.CanRename.{CanRename, moved_inode}
use Rattle.bp_rename.specs.Planned.{IsPlanned, Needs, TouchesPastEnd, TouchesInto, TouchesOnto, TouchesWithin}
use Rattle.bp_rename.specs.TouchesTwo.{IsSizedTree, ListsTrees, TouchesTwo, ino_path}
use Rattle.bp_rename.specs.declared.moves.Move.{Move}
use Rattle.bp_rename.proofs.PastEndTouched.{touched_apart, touched_few, touched_inside, touched_needs, touched_now, touched_shape}
use Rattle.bp_rename.proofs.IntoDone.{into_apart, into_few, into_inside, into_need, into_now, into_shape}
use Rattle.bp_rename.proofs.OntoLaws.{onto_apart, onto_few, onto_inside, onto_need, onto_now, onto_shape}
use Rattle.bp_rename.proofs.Renames.{across_change, onto_change, within_change}
use Rattle.bp_rename.proofs.RenameThawed.{moved, rename_on}
use Rattle.bp_rename.proofs.WithinLaws.{respells_can, within_apart_at, within_few_at, within_inside_at, within_need_at, within_now_at, within_shape_at}

module _ (image after : Image) (shape : SameShape image after) where
  path_over : (t s : ℕ) → IsReached image t → ino_path image t s ≡ ino_path after t s
  path_over t s reached = ap₂ (λ top own. tree_path top t (suc own) (32 * s + 0)) (sym (shape.heights 0 inode_file)) (sym (shape.heights t reached))

  tree_over : (t : ℕ) (tree : TreeSize) → IsSizedTree image t tree → IsSizedTree after t tree
  tree_over t tree is = record {
    reached = reached_on image after shape.meaning t is.reached;
    some = let size = shape.sizes t is.reached in omega (arith, size, is.some);
    root = is.root ∙ ap (λ h. root_trail h t) (sym (shape.heights 0 inode_file));
    height = is.height ∙ sym (shape.heights t is.reached);
    low = is.low;
    size = is.size ∙ sym (shape.sizes t is.reached);
  }

  lists_over : (Among : ℕ → Type 0) (trees : List TreeSize) → ListsTrees image Among trees → ListsTrees after Among trees
  lists_over Among trees lists tree has = let one = lists tree has in (one.0, (one.1.0, tree_over one.0 tree one.1.1))

  two_over : (Among : ℕ → Type 0) (touched : Touched) (first second first_after second_after : WordPath) (one two one_after two_after : ℕ) → first ≡ first_after → second ≡ second_after → one ≡ one_after → two ≡ two_after →
      TouchesTwo image Among touched first second one two → TouchesTwo after Among touched first_after second_after one_after two_after
  two_over Among touched first second first_after second_after one two one_after two_after a b c d is = record {
    none = is.none;
    trees = lists_over Among touched.trees.now is.trees;
    paths = is.paths ∙ ap₂ (λ (p q : WordPath). p ∷ q ∷ []) a b;
    values = is.values ∙ ap₂ (λ m n. m ∷ n ∷ []) c d;
  }

module _ (image : Image) (move : Move) (can : CanRename image move) where
  -- ---- within a directory

  pub within_over : (after : Image) → SameShape image after → (touched : Touched) → TouchesWithin image move touched → TouchesWithin after move touched
  within_over after shape touched is = record {
    run = is.run;
    one = is.one;
    no_words = is.no_words;
    no_trees = is.no_trees;
    is = record {
      root = is.is.root ∙ ap (λ h. inode_path h move.from_dir 1) (sym (shape.heights 0 inode_file));
      height = is.is.height ∙ sym (shape.heights move.from_dir can.source);
      size = is.is.size ∙ sym (shape.sizes move.from_dir can.source);
      from = is.is.from;
      count = is.is.count;
      bytes_are = is.is.bytes_are;
      small = is.is.small;
    };
  }

  module _ (new : move.to_slot ≡ None) (here : move.from_dir ≡ move.to_dir) (touched : Touched) (is : TouchesWithin image move touched) where
    pub within_planned : IsPlanned image move touched
    within_planned =
        let j = moved_inode image move in
        let respells = respells_can image move can new here in
        record {
          shape = within_shape_at image move.from_slot j move.name.now touched move.from_dir respells is;
          apart = within_apart_at image move.from_slot j move.name.now touched move.from_dir respells is;
          inside = λ after shape.
              within_inside_at after move.from_slot (moved_inode after move) move.name.now touched move.from_dir (respells_can after move (rename_on image after move can shape) new here)
              (within_over after shape touched is);
          cover = within_now_at image move.from_slot j move.name.now touched move.from_dir respells is ∙ ap (cover_now image) (sym (within_change move new here));
        }

    pub within_needs : Needs image move touched 0
    within_needs =
        let j = moved_inode image move in
        let respells = respells_can image move can new here in
        let count = within_need_at image move.from_slot j move.name.now touched move.from_dir respells is ∙ ap (need image) (sym (within_change move new here)) in
        let few = within_few_at image move.from_slot j move.name.now touched move.from_dir respells is in
        record { all = omega (arith, count); few = omega (arith, few) }

  -- ---- onto an entry

  module _ (slot : ℕ) (onto : move.to_slot ≡ Some slot) (touched : Touched) (is : TouchesOnto image move slot touched) where
    pub onto_over : (after : Image) → SameShape image after → TouchesOnto after move slot touched
    onto_over after shape =
        two_over image after shape _ touched _ _ _ _ _ _ _ _ (path_over image after shape move.from_dir move.from_slot can.source) (path_over image after shape move.to_dir slot can.target)
        refl (sym (moved image after move can shape)) is

    pub onto_planned : IsPlanned image move touched
    onto_planned = record {
      shape = onto_shape image move slot can onto touched is;
      apart = onto_apart image move slot can onto touched is;
      inside = λ after shape. onto_inside after move slot (rename_on image after move can shape) onto touched (onto_over after shape);
      cover = onto_now image move slot can onto touched is ∙ ap (cover_now image) (sym (onto_change move slot onto));
    }

    pub onto_needs : Needs image move touched 0
    onto_needs =
        let count = onto_need image move slot can onto touched is ∙ ap (need image) (sym (onto_change move slot onto)) in
        let few = onto_few image move slot can onto touched is in
        record { all = omega (arith, count); few = omega (arith, few) }

  module _ (new : move.to_slot ≡ None) (other : move.from_dir ≢ move.to_dir) where
    slot_over : (after : Image) → SameShape image after → (empty : Option ℕ) → empty_slot image move.to_dir ≡ empty → empty_slot after move.to_dir ≡ empty
    slot_over after shape empty is = empty-same image after shape move.to_dir can.target can.directory ∙ is

    -- ---- into an empty entry

    module _ (slot : ℕ) (empty : empty_slot image move.to_dir ≡ Some slot) (touched : Touched) (is : TouchesInto image move slot touched) where
      pub into_empty : (after : Image) → SameShape image after → empty_slot after move.to_dir ≡ Some slot
      into_empty after shape = slot_over after shape (Some slot) empty

      pub into_over : (after : Image) → SameShape image after → TouchesInto after move slot touched
      into_over after shape =
          two_over image after shape _ touched _ _ _ _ _ _ _ _ (path_over image after shape move.to_dir slot can.target) (path_over image after shape move.from_dir move.from_slot can.source)
          (sym (moved image after move can shape)) refl is

      pub into_planned : IsPlanned image move touched
      into_planned = record {
        shape = into_shape image move slot can other empty touched is;
        apart = into_apart image move slot can other empty touched is;
        inside = λ after shape. into_inside after move slot (rename_on image after move can shape) other (into_empty after shape) touched (into_over after shape);
        cover = into_now image move slot can other empty touched is ∙ ap (cover_now image) (sym (across_change move new other));
      }

      pub into_needs : Needs image move touched 0
      into_needs =
          let count = into_need image move slot can other empty touched is ∙ ap (need image) (sym (across_change move new other)) in
          let few = into_few image move slot can other empty touched is in
          record { all = omega (arith, count); few = omega (arith, few) }

    -- ---- after the last entry

    module _ (none : empty_slot image move.to_dir ≡ None) (touched : Touched) (is : TouchesPastEnd image move touched) where
      pub past_end_none : (after : Image) → SameShape image after → empty_slot after move.to_dir ≡ None
      past_end_none after shape = slot_over after shape None none

      pub past_end_over : (after : Image) → SameShape image after → TouchesPastEnd after move touched
      past_end_over after shape =
          two_over image after shape _ touched _ _ _ _ _ _ _ _ (ap (λ h. inode_path h move.to_dir 2) (sym (shape.heights 0 inode_file))) (path_over image after shape move.from_dir move.from_slot can.source)
          (ap (λ n. n + 256) (sym (shape.sizes move.to_dir can.target))) refl is

      pub past_end_planned : IsPlanned image move touched
      past_end_planned = record {
        shape = touched_shape image move can other none touched is;
        apart = touched_apart image move can other none touched is;
        inside = λ after shape. touched_inside after move (rename_on image after move can shape) other (past_end_none after shape) touched (past_end_over after shape);
        cover = touched_now image move can other none touched is ∙ ap (cover_now image) (sym (across_change move new other));
      }

      pub past_end_needs : (besides : ℕ) → besides ≡ need_for image move.to_dir (size_of image move.to_dir) (size_of image move.to_dir + 256) → Needs image move touched besides
      past_end_needs besides made =
          let count = ap (need image) (across_change move new other) ∙ touched_needs image move can other none touched is in
          let few = touched_few image move can other none touched is in
          let low = few_past_end image can.well_formed move.to_dir can.target in
          record { all = omega (arith, count, made); few = omega (arith, few, low, made) }
