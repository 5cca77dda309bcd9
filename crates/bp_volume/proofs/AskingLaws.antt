-- What calls that ask answer.
use Rattle.std.proofs.Common.{◌≡◌, ◌≢◌, ℕ, ◌≤◌, ◌==◌, List, [], ◌∷◌, take, drop, Bool, true, false, not, Option, None, Some, refl, sym, ◌∙◌, ap, arith, subst}
use Rattle.std.specs.Prelude.{Result, Ok, Err, IsErrAnd, MatchResult, IfOk, unwrap_or, if◌then◌else◌}
use Rattle.std.proofs.lemmas.Bool.{eqb-true, eqb-false}
use Rattle.std.specs.FinMap.{get}
use Rattle.std.proofs.lemmas.List.FromFn.{length-map-range_with_len}
use Rattle.bp_layout.specs.Words.{Image}
use Rattle.bp_layout.specs.Tree.{content}
use Rattle.bp_layout.specs.Inode.{attributes_of, kind_of, root_of, size_of}
use Rattle.bp_layout.specs.Paths.{Name, Path}
use Rattle.bp_layout.specs.Names.{HasNames}
use Rattle.bp_layout.specs.Reached.{IsReached}
use Rattle.bp_layout.specs.Lookup.{lookup}
use Rattle.bp_layout.specs.Paths.Node.{dir, file}
use Rattle.bp_layout.specs.declared.fields.Kind.{Kind}
use Rattle.bp_plain.specs.declared.errors.FsError.{FsError}
use Rattle.bp_plain.specs.declared.errors.FsError.TheVariants.{Memory}
use Rattle.bp_plain.specs.Seen.{refusal_of}
use Rattle.bp_plain.specs.PlainTree.{FileTree}
use Rattle.bp_plain.specs.Stands.{Stands}
use Rattle.bp_plain.specs.Calls.{Answer, Refusal}
use Rattle.bp_plain.specs.Calls.Call.{links, list, read, stat}
use Rattle.bp_plain.specs.Calls.Refusal.{not_dir, is_dir, no_memory}
use Rattle.bp_plain.specs.Calls.Answer.{refused, bytes, names, file_of, dir_of, links_of}
use Rattle.bp_plain.specs.Plain.{walk, refusal, file_refusal, on_parsed, on_path, first, when, listing, stat_answer, path_count, path_named, bytes_in, bytes_at}
use Rattle.bp_layout.specs.WellFormed.{IsWellFormed}
use Rattle.bp_read.specs.Names.{name_count}
use Rattle.bp_fs.specs.Step.{PathFinds}
use Rattle.bp_volume.specs.Queries.{Answers, StopsAtFile, StopsWalk}
use Rattle.bp_volume.proofs.WalkLaws.{some_inode, reached_at, node_at, dir_at, walk-found}
use Rattle.bp_volume.proofs.EntryLaws.{length-entries}
use Rattle.bp_volume.proofs.LinksLaws.{counts_paths}
use Rattle.bp_calls.specs.Asked.{stat_of}
use Rattle.bp_calls.proofs.ReadingLaws.{IsInode, inode_reached, length-seen}
use Rattle.bp_volume.specs.Seen.{list_answer_of, stat_seen}
use Rattle.bp_volume.proofs.StepLaws.{refused_steps, answer_steps, memory_steps, refusal-list_stopped, refusal-list_walked, refusal-read_walked}

module _ (image : Image) (wf : IsWellFormed image) where
  pub at_reached : (text : List ℕ) (i : ℕ) → PathFinds image text i → IsReached image i
  at_reached text i at = reached_at image wf at.path i at.inode

  -- what a path finds is an inode
  pub inode_found : (path : Path) (i : ℕ) → lookup image path ≡ Some i → IsInode image wf i
  inode_found path i found = inode_reached image wf i (reached_at image wf path i found) (let some : i ≢ 0 = some_inode image wf path i found in omega arith)

  pub at_low : (text : List ℕ) (i : ℕ) → PathFinds image text i → 1 ≤ i
  at_low text i at = let some : i ≢ 0 = some_inode image wf at.path i at.inode in omega arith

-- ---- what there is to describe an inode

module _ (image : Image) (i : ℕ) (tree : FileTree) (here : Path) (stands : Stands image tree) (at : lookup image here ≡ Some i) where
  pub stat-file : kind_of image i ≡ 1 → stat_answer tree.now.nodes here (get tree.now.nodes here) ≡ file_of (size_of image i)
  stat-file kind =
      ap (stat_answer tree.now.nodes here) (node_at image tree stands here i at ∙ ap (λ b. Some (if b then file (attributes_of image i) (content image (root_of image i) (size_of image i)) else dir (attributes_of image i))) (ap (λ k. k == 1) kind))
      ∙ ap file_of (length-map-range_with_len _ 0 (size_of image i))

  pub stat-dir : kind_of image i ≡ 2 → stat_answer tree.now.nodes here (get tree.now.nodes here) ≡ dir_of (name_count image (root_of image i) (size_of image i))
  stat-dir kind =
      ap (stat_answer tree.now.nodes here) (node_at image tree stands here i at ∙ ap (λ b. Some (if b then file (attributes_of image i) (content image (root_of image i) (size_of image i)) else dir (attributes_of image i))) (ap (λ k. k == 1) kind))
      ∙ ap dir_of (length-entries image tree stands here i at kind ∙ length-seen image i)

  pub stat_says : 1 ≤ i → stat_answer tree.now.nodes here (get tree.now.nodes here) ≡ stat_seen (stat_of image i)
  stat_says low = go (kind_of image i == 1) refl
    where
      inode : IsInode image stands.now.well_formed i
      inode = inode_reached image stands.now.well_formed i (reached_at image stands.now.well_formed here i at) low

      go : (b : Bool) → (kind_of image i == 1) ≡ b → stat_answer tree.now.nodes here (get tree.now.nodes here) ≡ stat_seen (stat_of image i)
      go true is = rw is (stat-file (eqb-true _ _ is))
      go false is =
          let other : kind_of image i ≢ 1 = eqb-false _ _ is in
          rw is (stat-dir (omega (arith, other, inode.least, inode.most)))

-- ---- calls

module _ (image : Image) (text : List ℕ) where
  pub stat_stops : (why : Refusal) → StopsWalk image text why → Answers image (stat text) (refused why)
  stat_stops why stops tree stands = refused_steps image tree (stat text) why (stops tree stands)

  pub list_stops : (why : Refusal) → StopsWalk image text why → Answers image (list text) (refused why)
  list_stops why stops tree stands = refused_steps image tree (list text) why (refusal-list_stopped tree text why (stops tree stands))

  pub read_stops : (offset len : ℕ) (why : Refusal) → StopsAtFile image text why → Answers image (read text offset len) (refused why)
  read_stops offset len why stops tree stands = refused_steps image tree (read text offset len) why (stops tree stands)

  pub links_stops : (why : Refusal) → StopsAtFile image text why → Answers image (links text) (refused why)
  links_stops why stops tree stands = refused_steps image tree (links text) why (stops tree stands)

  module _ (i : ℕ) (at : PathFinds image text i) where
    path_is : path_named text ≡ at.path
    path_is = ap (λ (o : Option Path). unwrap_or o []) at.parsed

    pub stat_reports : (reported : Answer) → ((tree : FileTree) (here : Path) → Stands image tree → lookup image here ≡ Some i → stat_answer tree.now.nodes here (get tree.now.nodes here) ≡ reported) → Answers image (stat text) reported
    stat_reports reported says tree stands =
        answer_steps image tree (stat text) reported (ap (λ o. on_parsed o (walk tree.now.nodes)) at.parsed ∙ walk-found image tree stands at.path i at.inode) refl
        (ap (λ p. stat_answer tree.now.nodes p (get tree.now.nodes p)) path_is ∙ says tree at.path stands at.inode)

    refusal_there : (tree : FileTree) → Stands image tree → refusal tree (list text) ≡ first (when (not (kind_of image i == 2)) not_dir ∷ [])
    refusal_there tree stands =
        refusal-list_walked tree text at.path at.parsed (walk-found image tree stands at.path i at.inode)
        ∙ ap (λ b. first (when (not b) not_dir ∷ [])) (dir_at image tree stands at.path i at.inode)

    pub list_file : kind_of image i ≡ 1 → Answers image (list text) (refused not_dir)
    list_file kind tree stands = refused_steps image tree (list text) not_dir (refusal_there tree stands ∙ ap (λ k. first (when (not (k == 2)) not_dir ∷ [])) kind)

    none_refused : kind_of image i ≡ 2 → (tree : FileTree) → Stands image tree → refusal tree (list text) ≡ None
    none_refused kind tree stands = refusal_there tree stands ∙ ap (λ k. first (when (not (k == 2)) not_dir ∷ [])) kind

    pub list_memory : kind_of image i ≡ 2 → Answers image (list text) (refused no_memory)
    list_memory kind tree stands = memory_steps image tree text (none_refused kind tree stands)

    pub list_reports : kind_of image i ≡ 2 → (reported : List (Kind × Name)) → ((tree : FileTree) (here : Path) → Stands image tree → lookup image here ≡ Some i → reported ≡ listing tree.now.nodes here) → Answers image (list text) (names reported)
    list_reports kind reported says tree stands =
        answer_steps image tree (list text) (names reported) (none_refused kind tree stands) refl
        (ap (λ p. names (listing tree.now.nodes p)) path_is ∙ ap names (sym (says tree at.path stands at.inode)))

    -- a call on a file

    refusal_of_file_there : (tree : FileTree) → Stands image tree → on_path text (file_refusal tree.now.nodes) ≡ first (when (kind_of image i == 2) is_dir ∷ [])
    refusal_of_file_there tree stands =
        refusal-read_walked tree text 0 0 at.path at.parsed (walk-found image tree stands at.path i at.inode)
        ∙ ap (λ b. first (when b is_dir ∷ [])) (dir_at image tree stands at.path i at.inode)

    file_allowed : kind_of image i ≡ 1 → (tree : FileTree) → Stands image tree → on_path text (file_refusal tree.now.nodes) ≡ None
    file_allowed kind tree stands = refusal_of_file_there tree stands ∙ ap (λ k. first (when (k == 2) is_dir ∷ [])) kind

    pub read_reports : (offset len : ℕ) (reported : List ℕ) → kind_of image i ≡ 1 → reported ≡ take len (drop offset (content image (root_of image i) (size_of image i))) → Answers image (read text offset len) (bytes reported)
    read_reports offset len reported kind says tree stands =
        let node : get tree.now.nodes at.path ≡ Some (file (attributes_of image i) (content image (root_of image i) (size_of image i))) =
        node_at image tree stands at.path i at.inode ∙ ap (λ k. Some (if k == 1 then file (attributes_of image i) (content image (root_of image i) (size_of image i)) else dir (attributes_of image i))) kind in
        answer_steps image tree (read text offset len) (bytes reported) (file_allowed kind tree stands) refl
        (ap (λ p. bytes (take len (drop offset (bytes_at tree.now.nodes p)))) path_is ∙ ap (λ o. bytes (take len (drop offset (bytes_in o)))) node ∙ ap bytes (sym says))

    pub links_reports : (count : ℕ) → kind_of image i ≡ 1 → HasNames image i count → Answers image (links text) (links_of count)
    links_reports count kind has tree stands =
        answer_steps image tree (links text) (links_of count) (file_allowed kind tree stands) refl
        (ap (λ p. links_of (path_count tree.now.one p)) path_is ∙ ap links_of (counts_paths image i kind tree stands at.path at.inode count has))

-- the names that were listed, with a lack of memory reported as a refusal
pub listed_or_full : {E : Type 0} (image : Image) (text : List ℕ) (inner : Result (List (Kind × Name)) E) (outer : Result (List (Kind × Name)) FsError) →
    MatchResult inner (λ x. outer ≡ Ok x) (λ lacks. IsErrAnd outer (λ error. error ≡ Memory)) → IfOk inner (λ reported. Answers image (list text) (names reported)) → Answers image (list text) (refused no_memory) → Answers image (list text) (list_answer_of outer)
listed_or_full image text (Ok reported) outer maps lists full = subst (λ r. Answers image (list text) (list_answer_of r)) (sym maps) lists
listed_or_full image text (Err lacks) (Ok reported) maps lists full = absurd maps
listed_or_full image text (Err lacks) (Err error) maps lists full = subst (λ e. Answers image (list text) (refused (refusal_of e))) (sym maps) full
