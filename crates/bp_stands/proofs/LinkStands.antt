-- The plain tree of an image in which a file has one name more.
use Rattle.std.proofs.Common.{◌≡◌, ℕ, [], ◌∷◌, ◌++◌, Bool, true, false, true≢false, cond, ap, Option, None, Some, option_and_then, refl, sym, ◌∙◌}
use Rattle.std.specs.FinMap.{get, get-insert}
use Rattle.std.specs.Ordering.{eq_by_cmp}
use Rattle.std.specs.Cmp.{Equal-is, eq_by_cmp_equiv}
use Rattle.bp_layout.specs.Words.{Image}
use Rattle.bp_layout.specs.Directory.{name_at}
use Rattle.bp_layout.specs.Lookup.{file_at, if_file, lookup, node_of, shown}
use Rattle.bp_layout.specs.Paths.{Path}
use Rattle.bp_layout.specs.Paths.Node.{file}
use Rattle.bp_layout.specs.Reached.IsReached.{root_directory}
use Rattle.bp_layout.specs.WellFormed.{IsWellFormed}
use Rattle.bp_layout.proofs.Paths as paths
use Rattle.bp_layout.proofs.View.{lookup_from-reached}
use Rattle.bp_changes.specs.Effects.{LinksName}
use Rattle.bp_changes.proofs.LinksName.{linked_well_formed, name_linked}
use Rattle.bp_plain.specs.Plain.{attributes_at, attributes_in, bytes_at, bytes_in, with_name}
use Rattle.bp_plain.specs.PlainTree.{PathMap, path_cmp}
use Rattle.bp_plain.specs.Stands.{Shows}
use Rattle.bp_plain.proofs.Kernels.{kernel_linked}
use Rattle.bp_plain.proofs.PathOrder.{path_cmp-IsAntisymmetric, path_cmp-IsTotalOrder}

module _ (old new : Image) (wf : IsWellFormed old) (i s j : ℕ) (adds : LinksName old new i s j)
    (parent from : Path) (at : lookup old parent ≡ Some i) (found : lookup old from ≡ Some j) where
  abbrev path : Path
  path = parent ++ name_at new i s ∷ []

  adds_name : paths.AddsName old new i (name_at new i s) j
  adds_name = name_linked old new wf i s j adds

  there : lookup new path ≡ Some j
  there = paths.lookup_there old new i (name_at new i s) j adds_name parent at

  none_before : lookup old path ≡ None
  none_before = paths.lookup_from-append old 1 parent (name_at new i s) ∙ rw at adds_name.missing

  new_kind : if_file new j ≡ Some j
  new_kind = rw (adds.kind j adds.other, adds.is_file) refl

  old_kind : if_file old j ≡ Some j
  old_kind = rw adds.is_file refl

  files_stay : (other : Path) → (other ≡ path → ⊥) → file_at new other ≡ file_at old other
  files_stay other apart = rw (paths.stays old new i (name_at new i s) j adds_name parent at other apart) (go (lookup old other) refl)
    where
      go : (x : Option ℕ) → lookup old other ≡ x → option_and_then (if_file new) x ≡ option_and_then (if_file old) x
      go None e = refl
      go (Some u) e = rw (adds.kind u (lookup_from-reached old 1 u other root_directory e)) refl

  pub link_shows : (map : PathMap) → Shows old map → Shows new (with_name map from path)
  link_shows map shows = record {
    well_formed = linked_well_formed old new wf i s j adds;
    shows = λ other. get-insert path_cmp-IsTotalOrder map.nodes path (file (attributes_at map.nodes from) (bytes_at map.nodes from)) other ∙ go other (eq_by_cmp path_cmp other path) refl;
    one = (kernel_linked (file_at old) (file_at new) map.one from path j (record { each = shows.one })
        (rw found old_kind) (rw none_before refl) (rw there new_kind) files_stay).each;
  }
    where
      -- the file has its bytes and attributes at both names
      same_node : Some (file (attributes_at map.nodes from) (bytes_at map.nodes from)) ≡ Some (node_of new j)
      same_node =
          let before : get map.nodes from ≡ Some (node_of old j) = shows.shows from ∙ rw found refl in
          ap Some (ap (λ found. file (attributes_in found) (bytes_in found)) before ∙ (rw adds.is_file refl) ∙ sym (adds_name.nodes j adds.other))

      go : (other : Path) (b : Bool) → eq_by_cmp path_cmp other path ≡ b
          → cond (eq_by_cmp path_cmp other path) (Some (file (attributes_at map.nodes from) (bytes_at map.nodes from))) (get map.nodes other) ≡ shown new other
      go other true e =
          rw (e, path_cmp-IsAntisymmetric other path ((Equal-is (path_cmp other path)).0 e)) (same_node ∙ sym (paths.shown_there old new i (name_at new i s) j adds_name parent at))
      go other false e =
          rw e (shows.shows other ∙ sym (paths.shown_elsewhere old new i (name_at new i s) j adds_name parent at other (λ same. differ same)))
        where
          differ : other ≡ path → ⊥
          differ same = true≢false (sym ((eq_by_cmp_equiv path_cmp-IsTotalOrder).refl other) ∙ ap (eq_by_cmp path_cmp other) same ∙ e)
