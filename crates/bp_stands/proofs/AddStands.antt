-- The plain tree of an image that has a new file or a new directory.
use Rattle.std.proofs.Common.{◌≡◌, ◌≢◌, ℕ, [], ◌∷◌, ◌++◌, Bool, true, false, true≢false, cond, ap, Option, None, Some, option_and_then, ◌==◌, if◌then◌else◌, refl, sym, ◌∙◌, subst}
use Rattle.std.specs.FinMap.{get, get-insert}
use Rattle.std.specs.Ordering.{eq_by_cmp}
use Rattle.std.specs.Cmp.{Equal-is, eq_by_cmp_equiv}
use Rattle.bp_layout.specs.Words.{Image}
use Rattle.bp_layout.specs.Directory.{name_at}
use Rattle.bp_layout.specs.Inode.{kind_of}
use Rattle.bp_layout.specs.Lookup.{file_at, if_file, lookup, node_of, shown}
use Rattle.bp_layout.specs.Paths.{Path, Node, no_attributes}
use Rattle.bp_layout.specs.Paths.Node.{dir, file}
use Rattle.bp_layout.specs.Reached.IsReached.{root_directory}
use Rattle.bp_layout.specs.WellFormed.{IsWellFormed}
use Rattle.bp_layout.proofs.Paths as paths
use Rattle.bp_layout.proofs.View.{lookup_from-reached}
use Rattle.bp_changes.specs.Effects.{AddsNames}
use Rattle.bp_changes.proofs.AddsNames.{linked_well_formed, names_added, node_of_new}
use Rattle.bp_plain.specs.Plain.{with_dir, with_file}
use Rattle.bp_plain.specs.PlainTree.{Nodes, PathMap, path_cmp}
use Rattle.bp_plain.specs.Stands.{Shows}
use Rattle.bp_plain.proofs.Kernels.{kernel_alone, kernel_same}
use Rattle.bp_plain.proofs.PathOrder.{path_cmp-IsAntisymmetric, path_cmp-IsTotalOrder}

-- a file is found at a path only where the path leads to it
file_found : (image : Image) (i : ℕ) (found : Option ℕ) → option_and_then (if_file image) found ≡ Some i → found ≡ Some i
file_found image i None e = absurd (cc)
file_found image i (Some u) e = go (kind_of image u == 1) refl
  where
    go : (b : Bool) → (kind_of image u == 1) ≡ b → ◌≡◌ {A = Option ℕ} (Some u) (Some i)
    go true f = let here : (if kind_of image u == 1 then Some u else None) ≡ Some u = rw f refl in sym here ∙ e
    go false f =
        let here : (if kind_of image u == 1 then Some u else None) ≡ None = rw f refl in
        let wrong : ◌≡◌ {A = Option ℕ} None (Some i) = sym here ∙ e in
        absurd (cc)

module _ (old new : Image) (wf : IsWellFormed old) (i s j : ℕ) (adds : AddsNames old new i s j) (parent : Path) (at : lookup old parent ≡ Some i) where
  abbrev path : Path
  path = parent ++ name_at new i s ∷ []

  adds_name : paths.AddsName old new i (name_at new i s) j
  adds_name = names_added old new wf i s j adds

  there : lookup new path ≡ Some j
  there = paths.lookup_there old new i (name_at new i s) j adds_name parent at

  none_before : lookup old path ≡ None
  none_before = paths.lookup_from-append old 1 parent (name_at new i s) ∙ rw at adds_name.missing

  files_stay : (other : Path) → (other ≡ path → ⊥) → file_at new other ≡ file_at old other
  files_stay other apart = rw (paths.stays old new i (name_at new i s) j adds_name parent at other apart) (go (lookup old other) refl)
    where
      go : (x : Option ℕ) → lookup old other ≡ x → option_and_then (if_file new) x ≡ option_and_then (if_file old) x
      go None e = refl
      go (Some u) e = rw (adds.kind u (lookup_from-reached old 1 u other root_directory e)) refl

  fresh : (other : Path) → file_at old other ≢ Some j
  fresh other e = adds.fresh (lookup_from-reached old 1 j other root_directory (file_found old j (lookup old other) e))

  node_there : (nodes : Nodes) (node : Node) → node ≡ node_of new j → ((other : Path) → get nodes other ≡ shown old other) → (other : Path) →
      cond (eq_by_cmp path_cmp other path) (Some node) (get nodes other) ≡ shown new other
  node_there nodes node is shows other = go (eq_by_cmp path_cmp other path) refl
    where
      go : (b : Bool) → eq_by_cmp path_cmp other path ≡ b → cond (eq_by_cmp path_cmp other path) (Some node) (get nodes other) ≡ shown new other
      go true e =
          rw (e, path_cmp-IsAntisymmetric other path ((Equal-is (path_cmp other path)).0 e)) (ap Some is ∙ sym (paths.shown_there old new i (name_at new i s) j adds_name parent at))
      go false e =
          rw e (shows other ∙ sym (paths.shown_elsewhere old new i (name_at new i s) j adds_name parent at other (λ same. differ same)))
        where
          differ : other ≡ path → ⊥
          differ same = true≢false (sym ((eq_by_cmp_equiv path_cmp-IsTotalOrder).refl other) ∙ ap (eq_by_cmp path_cmp other) same ∙ e)

  pub create_shows : kind_of new j ≡ 1 → (map : PathMap) → Shows old map → Shows new (with_file map path)
  create_shows kind map shows = record {
    well_formed = linked_well_formed old new wf i s j adds;
    shows = λ other. get-insert path_cmp-IsTotalOrder map.nodes path (file no_attributes []) other ∙ node_there map.nodes (file no_attributes []) (sym (node_of_new old new wf i s j adds ∙ rw kind refl)) shows.shows other;
    one = (kernel_alone (file_at old) (file_at new) map.one path j (record { each = shows.one }) (rw there (rw kind refl)) files_stay fresh (rw none_before refl)).each;
  }

  pub mkdir_shows : kind_of new j ≡ 2 → (map : PathMap) → Shows old map → Shows new (with_dir map path)
  mkdir_shows kind map shows = record {
    well_formed = linked_well_formed old new wf i s j adds;
    shows = λ other. get-insert path_cmp-IsTotalOrder map.nodes path (dir no_attributes) other ∙ node_there map.nodes (dir no_attributes) (sym (node_of_new old new wf i s j adds ∙ rw kind refl)) shows.shows other;
    one = (kernel_same (file_at old) (file_at new) map.one same_files (record { each = shows.one })).each;
  }
    where
      same_files : (other : Path) → file_at new other ≡ file_at old other
      same_files other = go (eq_by_cmp path_cmp other path) refl
        where
          none_there : file_at new path ≡ file_at old path
          none_there = rw (there, none_before) (rw kind refl)

          go : (b : Bool) → eq_by_cmp path_cmp other path ≡ b → file_at new other ≡ file_at old other
          go true e = subst (λ p. file_at new p ≡ file_at old p) (sym (path_cmp-IsAntisymmetric other path ((Equal-is (path_cmp other path)).0 e))) none_there
          go false e =
              files_stay other (λ same. true≢false (sym ((eq_by_cmp_equiv path_cmp-IsTotalOrder).refl other) ∙ ap (eq_by_cmp path_cmp other) same ∙ e))
