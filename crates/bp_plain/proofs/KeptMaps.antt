-- The maps that a program keeps: what each change makes of one, and that it may be kept.
use Rattle.std.proofs.Common.{◌≡◌, ◌≢◌, ◌<◌, ◌+◌, ℕ, List, [], Option, None, Some, option_map, sym, ◌∙◌, ap, subst, false, true, arith}
use Rattle.std.specs.FinMap.{get, insert, remove}
use Rattle.bp_layout.specs.Paths.{same_path, Attributes, Path, Node, no_attributes}
use Rattle.bp_layout.specs.Paths.Node.{file}
use Rattle.bp_plain.specs.Changed.{changed, changed_files, with_bytes_in}
use Rattle.bp_plain.specs.declared.trees.entries.Change.{Change}
use Rattle.bp_plain.specs.declared.trees.maps.FileMap.TheInside.{Inside}
use Rattle.bp_plain.specs.Numbered.{Numbered, NumberedFiles, map_of, number_at, number_in, plain_node, plain_nodes, root_alone}
use Rattle.bp_plain.specs.Numbered.Numbered.{directory, numbered_file}
use Rattle.bp_plain.specs.Plain.{attributes_at, bytes_at, file_refusal, is_dir_at, is_empty_dir, is_root_path, move_refusal, moved, new_refusal, with_attributes, with_content, with_dir, with_file, with_moved, with_name, with_nothing}
use Rattle.bp_plain.specs.PlainTree.{IsDirAt, PathMap}
use Rattle.bp_plain.specs.SeenMap.{IsKept, map_seen}
use Rattle.bp_plain.specs.SeenTree.{HasNoneBelow, IsRooted}
use Rattle.bp_plain.proofs.MapLaws.{AreBelow, attributes_set, below_moved, below_more, below_put, below_set, below_taken, content_set, dir_below, dir_made, dir_rooted, dir_set, file_made, linked_made, path_taken, paths_moved, root_below, root_rooted, rooted_set}
use Rattle.bp_plain.proofs.Numbers.{get-plain, plain-moved, plain-put, plain-taken}
use Rattle.bp_plain.proofs.Rooted.{IsFileAt, IsNew, Moves, empty_below, file_below, file_no_dir, file_there, moves_there, new_there, not_root_path, rooted_moved, rooted_put, rooted_taken}

-- files that may be kept under numbers below one
pub record AreKept (files : NumberedFiles) (next : ℕ) : Type 0 where
  pub above : IsRooted (plain_nodes files)
  pub below : AreBelow files next

pub keeps : (map : Inside) → AreKept map.files map.next → IsKept map
keeps map are = record { above = are.above; fresh = are.below.below }

pub kept_files : (map : Inside) → IsKept map → AreKept map.files map.next
kept_files map is = record { above = is.above; below = record { below = is.fresh } }

pub root_kept : AreKept root_alone 0
root_kept = record { above = root_rooted; below = root_below 0 }

-- the map of new files, which may be kept
pub record Becomes (new : NumberedFiles) (next : ℕ) (m : PathMap) : Type 0 where
  pub view : map_of new ≡ m
  pub kept : AreKept new next

put_kept : (files : NumberedFiles) (next : ℕ) → AreKept files next → (p : Path) (node : Numbered) → IsNew (plain_nodes files) p → ((id : ℕ) → number_in (Some node) ≡ Some id → id < next) → AreKept (insert files p node) next
put_kept files next are p node new low = record {
  above = subst IsRooted (sym (plain-put files p node)) (rooted_put (plain_nodes files) are.above p (plain_node node) new.nothing new.parent);
  below = below_put files p new.nothing node next are.below low;
}

same_number : (a b : ℕ) → ◌≡◌ {A = Option ℕ} (Some a) (Some b) → a ≡ b
same_number a b e = cc

module _ (old : Inside) (was : IsKept old) where
  are : AreKept old.files old.next
  are = kept_files old was

  pub makes_file : (p : Path) → new_refusal (map_seen old).nodes p ≡ None → Becomes (insert old.files p (numbered_file old.next no_attributes [])) (old.next + 1) (with_file (map_seen old) p)
  makes_file p can =
      let new : IsNew (plain_nodes old.files) p = new_there (plain_nodes old.files) p can in
      record {
        view = file_made old.files p new.nothing old.next are.below;
        kept = put_kept old.files (old.next + 1) (record { above = are.above; below = below_more old.files old.next are.below }) p (numbered_file old.next no_attributes []) new (λ id e. omega (arith, same_number old.next id e));
      }

  pub makes_dir : (p : Path) → new_refusal (map_seen old).nodes p ≡ None → Becomes (insert old.files p (directory no_attributes)) old.next (with_dir (map_seen old) p)
  makes_dir p can =
      let new : IsNew (plain_nodes old.files) p = new_there (plain_nodes old.files) p can in
      record {
        view = dir_made old.files p new.nothing;
        kept = put_kept old.files old.next are p (directory no_attributes) new (λ id e. let wrong : ◌≡◌ {A = Option ℕ} None (Some id) = e in absurd (cc));
      }

  pub links_file : (from p : Path) (id : ℕ) (attributes : Attributes) (content : List ℕ) → get old.files from ≡ Some (numbered_file id attributes content) → new_refusal (map_seen old).nodes p ≡ None →
      Becomes (insert old.files p (numbered_file id attributes content)) old.next (with_name (map_seen old) from p)
  links_file from p id attributes content is can =
      let new : IsNew (plain_nodes old.files) p = new_there (plain_nodes old.files) p can in
      let low : id < old.next = are.below.below from id (ap number_in is) in
      record {
        view = linked_made old.files p new.nothing from id attributes content is;
        kept = put_kept old.files old.next are p (numbered_file id attributes content) new (λ other e. omega (arith, same_number id other e, low));
      }

  takes_path : (p : Path) → p ≢ [] → HasNoneBelow (map_seen old).nodes p → Becomes (remove old.files p) old.next (with_nothing (map_seen old) p)
  takes_path p other below = record {
    view = path_taken old.files p;
    kept = record {
      above = subst IsRooted (sym (plain-taken old.files p)) (rooted_taken (plain_nodes old.files) are.above p other below);
      below = below_taken old.files p old.next are.below;
    };
  }

  file_at_path : (p : Path) → file_refusal (map_seen old).nodes p ≡ None → IsFileAt (plain_nodes old.files) p
  file_at_path p is = file_there (plain_nodes old.files) are.above p is

  pub takes_file : (p : Path) → file_refusal (map_seen old).nodes p ≡ None → Becomes (remove old.files p) old.next (with_nothing (map_seen old) p)
  takes_file p is =
      let there = file_at_path p is in
      takes_path p (λ e. file_no_dir (plain_nodes old.files) p there (subst (IsDirAt (plain_nodes old.files)) (sym e) are.above.root))
      (file_below (plain_nodes old.files) are.above p there)

  pub takes_dir : (p : Path) → is_root_path p ≡ false → is_empty_dir (map_seen old).nodes p ≡ true → Becomes (remove old.files p) old.next (with_nothing (map_seen old) p)
  takes_dir p other empty = takes_path p (not_root_path p other) (empty_below (plain_nodes old.files) p empty)

  pub links_node : (from p : Path) (node : Numbered) → get old.files from ≡ Some node → file_refusal (map_seen old).nodes from ≡ None → new_refusal (map_seen old).nodes p ≡ None →
      Becomes (insert old.files p node) old.next (with_name (map_seen old) from p)
  links_node from p (directory attributes) at is can =
      absurd (file_no_dir (plain_nodes old.files) from (file_at_path from is)
      (record { attributes = attributes; is = get-plain old.files from ∙ ap (option_map plain_node) at }))
  links_node from p (numbered_file id attributes content) at is can = links_file from p id attributes content at can

  pub something_there : (p : Path) → file_refusal (map_seen old).nodes p ≡ None → get old.files p ≡ None → ⊥
  something_there p is nothing =
      let there = file_at_path p is in
      let wrong : ◌≡◌ {A = Option Node} None (Some (file there.attributes there.bytes)) = sym (get-plain old.files p ∙ ap (option_map plain_node) nothing) ∙ there.is in
      absurd (cc)

  pub sets_content : (p : Path) (change : Change) (id : ℕ) (attributes : Attributes) (bytes : List ℕ) → ((e : Path × Numbered) → changed change e ≡ Some (e.0, with_bytes_in id attributes bytes e.1)) →
      number_at old.files p ≡ Some id → attributes ≡ attributes_at (map_seen old).nodes p → Becomes (changed_files change old.files) old.next (with_content (map_seen old) p bytes)
  sets_content p change id attributes bytes each is own = record {
    view = content_set old.files change id attributes bytes each p is own;
    kept = record { above = rooted_set old.files change id attributes bytes each are.above; below = below_set old.files change id attributes bytes each old.next are.below };
  }

  pub sets_attributes : (p : Path) (change : Change) (id : ℕ) (attributes : Attributes) (bytes : List ℕ) → ((e : Path × Numbered) → changed change e ≡ Some (e.0, with_bytes_in id attributes bytes e.1)) →
      number_at old.files p ≡ Some id → bytes ≡ bytes_at (map_seen old).nodes p → Becomes (changed_files change old.files) old.next (with_attributes (map_seen old) p attributes)
  sets_attributes p change id attributes bytes each is own = record {
    view = attributes_set old.files change id attributes bytes each p is own;
    kept = record { above = rooted_set old.files change id attributes bytes each are.above; below = below_set old.files change id attributes bytes each old.next are.below };
  }

  pub sets_dir : (p : Path) (attributes : Attributes) → is_dir_at (map_seen old).nodes p ≡ true → Becomes (insert old.files p (directory attributes)) old.next (with_attributes (map_seen old) p attributes)
  sets_dir p attributes is = record {
    view = dir_set old.files p attributes is;
    kept = record { above = dir_rooted old.files p attributes is are.above; below = dir_below old.files p attributes is old.next are.below };
  }

  pub moves_paths : (p q : Path) → move_refusal (map_seen old).nodes p q ≡ None → same_path p q ≡ false → Becomes (moved p q old.files) old.next (with_moved (map_seen old) p q)
  moves_paths p q can apart =
      let moves : Moves (plain_nodes old.files) p q = moves_there (plain_nodes old.files) are.above p q can apart in
      record {
        view = paths_moved old.files are.above p q moves;
        kept = record {
          above = subst IsRooted (sym (plain-moved p q old.files))
              (rooted_moved (plain_nodes old.files) are.above p q moves.source moves.target moves.apart moves.empty moves.parent);
          below = below_moved old.files are.above p q moves old.next are.below;
        };
      }
