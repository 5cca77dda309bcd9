-- The plain tree of an image that has one name fewer: the file may have others.
use Rattle.std.proofs.Common.{◌≡◌, ℕ, [], ◌∷◌, ◌++◌, Bool, true, false, true≢false, cond, ap, Option, None, Some, option_and_then, refl, sym, ◌∙◌}
use Rattle.std.specs.FinMap.{get, get-remove}
use Rattle.std.specs.Ordering.{eq_by_cmp}
use Rattle.std.specs.Cmp.{Equal-is, eq_by_cmp_equiv}
use Rattle.bp_layout.specs.Words.{Image}
use Rattle.bp_layout.specs.Directory.{name_at}
use Rattle.bp_layout.specs.Lookup.{file_at, if_file, lookup, shown}
use Rattle.bp_layout.specs.Paths.{Path}
use Rattle.bp_layout.specs.Reached.IsReached.{root_directory}
use Rattle.bp_layout.specs.WellFormed.{IsWellFormed}
use Rattle.bp_layout.proofs.Reached.{reached-in_file}
use Rattle.bp_layout.proofs.View.{lookup_from-reached}
use Rattle.bp_changes.specs.Effects.{CanUnlink, RemovesEntry}
use Rattle.bp_changes.proofs.Unlink as unlink
use Rattle.bp_plain.specs.Plain.{with_nothing}
use Rattle.bp_plain.specs.PlainTree.{PathMap, path_cmp}
use Rattle.bp_plain.specs.Stands.{Shows}
use Rattle.bp_plain.proofs.Kernels.{kernel_without}
use Rattle.bp_plain.proofs.PathOrder.{path_cmp-IsAntisymmetric, path_cmp-IsTotalOrder}

module _ (old new : Image) (wf : IsWellFormed old) (i s j : ℕ) (can : CanUnlink old i s j) (removes : RemovesEntry old new i s)
    (parent : Path) (at : lookup old parent ≡ Some i) where
  abbrev path : Path
  path = parent ++ name_at old i s ∷ []

  files_stay : (other : Path) → (other ≡ path → ⊥) → file_at new other ≡ file_at old other
  files_stay other apart = rw (unlink.lookup_elsewhere old new wf i s j can removes parent at other apart) (go (lookup old other) refl)
    where
      go : (found : Option ℕ) → lookup old other ≡ found → option_and_then (if_file new) found ≡ option_and_then (if_file old) found
      go None e = refl
      go (Some u) e = rw (removes.kind u (reached-in_file old wf u (lookup_from-reached old 1 u other root_directory e))) refl

  pub unlink_shows : (map : PathMap) → Shows old map → Shows new (with_nothing map path)
  unlink_shows map shows = record {
    well_formed = unlink.unlinked_well_formed old new wf i s j can removes;
    shows = λ other. get-remove path_cmp-IsTotalOrder map.nodes path other ∙ go other (eq_by_cmp path_cmp other path) refl;
    one = (kernel_without (file_at old) (file_at new) map.one path (record { each = shows.one })
        (rw (unlink.lookup_there old new wf i s j can removes parent at) refl) files_stay).each;
  }
    where
      go : (other : Path) (b : Bool) → eq_by_cmp path_cmp other path ≡ b → cond (eq_by_cmp path_cmp other path) None (get map.nodes other) ≡ shown new other
      go other true e =
          rw (e, path_cmp-IsAntisymmetric other path ((Equal-is (path_cmp other path)).0 e)) (sym (unlink.shown_there old new wf i s j can removes parent at))
      go other false e =
          rw e (shows.shows other ∙ sym (unlink.shown_elsewhere old new wf i s j can removes parent at other (λ same. differ same)))
        where
          differ : other ≡ path → ⊥
          differ same = true≢false (sym ((eq_by_cmp_equiv path_cmp-IsTotalOrder).refl other) ∙ ap (eq_by_cmp path_cmp other) same ∙ e)
