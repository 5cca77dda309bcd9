-- The plain tree of an image in which a file has other bytes: at each of its paths.
use Rattle.std.proofs.Common.{◌≡◌, ◌⊎◌, ℕ, List, true, false, cond, ap, Option, None, Some, option_and_then, refl, sym, ◌∙◌, inl, inr}
use Rattle.std.proofs.lemmas.Bool.{cases_eq, ne_eqb}
use Rattle.std.specs.FinMap.{get}
use Rattle.bp_layout.specs.Words.{Image}
use Rattle.bp_layout.specs.Tree.{content}
use Rattle.bp_layout.specs.Inode.{IsFile, attributes_of, kind_of, root_of, size_of}
use Rattle.bp_layout.specs.Lookup.{are_one, file_at, find_one, if_file, lookup, shown}
use Rattle.bp_layout.specs.Paths.{Path, Node}
use Rattle.bp_layout.specs.Paths.Node.{file}
use Rattle.bp_layout.specs.WellFormed.{IsWellFormed}
use Rattle.bp_layout.proofs.View.{find_one-same}
use Rattle.bp_changes.specs.Effects.{ChangesFile}
use Rattle.bp_changes.proofs.ChangesFile.{directories-same, well_formed-same, shown_file, shown_other}
use Rattle.bp_plain.specs.Plain.{attributes_at, attributes_in, paths_of, with_content}
use Rattle.bp_plain.specs.PlainTree.{PathMap, is_one}
use Rattle.bp_plain.specs.Stands.{Shows}
use Rattle.bp_plain.proofs.Kernels.{are_one-self, get-with_node_at, paths_of-any}

some_once : (a b : ℕ) → ◌≡◌ {A = Option ℕ} (Some a) (Some b) → a ≡ b
some_once a b e = cc

-- what was found is an inode or not
pub finds : (found : Option ℕ) (x : ℕ) → (found ≡ Some x) ⊎ (found ≡ Some x → ⊥)
finds None x = inr (λ here. cc)
finds (Some u) x = elim (cases_eq u x) [ inl same ↦ inl (ap Some same) | inr apart ↦ inr (λ here. apart (some_once u x here)) ]

-- Other bytes come to a file at each path that finds it, and to none besides, where two paths are one as in an image.
module _ (image : Image) (x : ℕ) (is_file : IsFile image x) (path : Path) (at : lookup image path ≡ Some x) (map : PathMap) (one : (p q : Path) → is_one map.one p q ≡ find_one image p q) (bytes : List ℕ) where
  file_there : file_at image path ≡ Some x
  file_there = rw at (rw is_file refl)

  -- the file with these bytes
  abbrev node : Node
  node = file (attributes_at map.nodes path) bytes

  content_at : (q : Path) → get (with_content map path bytes).nodes q ≡ cond (are_one (Some x) (file_at image q)) (Some node) (get map.nodes q)
  content_at q =
      get-with_node_at (paths_of map.one path) node map.nodes q
      ∙ ap (λ b. cond b (Some node) (get map.nodes q)) (paths_of-any map.one path q ∙ one path q ∙ ap (λ f. are_one f (file_at image q)) file_there)

  pub content_here : (q : Path) → lookup image q ≡ Some x → get (with_content map path bytes).nodes q ≡ Some (file (attributes_at map.nodes path) bytes)
  content_here q here =
      let found : are_one (Some x) (file_at image q) ≡ true = ap (λ f. are_one (Some x) (option_and_then (if_file image) f)) here ∙ rw is_file (are_one-self x) in
      content_at q ∙ rw found refl

  pub content_elsewhere : (q : Path) → (lookup image q ≡ Some x → ⊥) → get (with_content map path bytes).nodes q ≡ get map.nodes q
  content_elsewhere q apart = content_at q ∙ rw (other (lookup image q) refl) refl
    where
      other : (found : Option ℕ) → lookup image q ≡ found → are_one (Some x) (file_at image q) ≡ false
      other None e = rw e refl
      other (Some u) e = ap (λ f. are_one (Some x) (option_and_then (if_file image) f)) e ∙ by_kind (cases_eq (kind_of image u) 1)
        where
          by_kind : (kind_of image u ≡ 1) ⊎ (kind_of image u ≡ 1 → ⊥) → are_one (Some x) (if_file image u) ≡ false
          by_kind (inl k) = rw k (ne_eqb x u (λ same. apart (e ∙ ap Some (sym same))))
          by_kind (inr k) = rw (ne_eqb (kind_of image u) 1 k) refl

module _ (old new : Image) (x : ℕ) (wf : IsWellFormed old) (changes : ChangesFile old new x) (path : Path) (at : lookup old path ≡ Some x) where
  abbrev bytes : List ℕ
  bytes = content new (root_of new x) (size_of new x)

  pub content_shows : (map : PathMap) → Shows old map → Shows new (with_content map path bytes)
  content_shows map shows = record {
    well_formed = well_formed-same old new x wf changes;
    shows = λ q. by_inode q (finds (lookup old q) x);
    one = λ p q. shows.one p q ∙ sym (find_one-same old new (directories-same old new x wf changes) p q);
  }
    where
      kept : attributes_at map.nodes path ≡ attributes_of old x
      kept = ap attributes_in (shows.shows path) ∙ rw at (rw changes.is_file refl)

      by_inode : (q : Path) → (lookup old q ≡ Some x) ⊎ (lookup old q ≡ Some x → ⊥) → get (with_content map path bytes).nodes q ≡ shown new q
      by_inode q (inl here) =
          content_here old x changes.is_file path at map shows.one bytes q here
          ∙ ap (λ attributes. Some (file attributes bytes)) kept ∙ sym (shown_file old new x wf changes q here)
      by_inode q (inr apart) =
          content_elsewhere old x changes.is_file path at map shows.one bytes q apart ∙ shows.shows q ∙ sym (shown_other old new x wf changes q apart)
