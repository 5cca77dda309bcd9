-- The orders of paths and of pairs of paths.
use Rattle.std.proofs.Common.{◌≡◌, true, false, refl, sym, ◌∙◌, ap, true≢false}
use Rattle.std.specs.Ordering.{eq_by_cmp, ordering_then}
use Rattle.std.specs.declared.cmp.Ordering.{Ordering}
use Rattle.std.specs.declared.cmp.Ordering.TheVariants.{Less, Equal, Greater}
use Rattle.std.specs.Cmp.{IsTotalOrder, Equal-is, eq_by_cmp_equiv, then_total, on_total}
use Rattle.std.specs.Cmp.Lexicographic.{lists_total, nat_list_cmp_total}
use Rattle.std.specs.FinMap.{IsAntisymmetric, nat_cmp-IsAntisymmetric, slice_cmp-IsAntisymmetric}
use Rattle.bp_layout.specs.Paths.{Path}
use Rattle.bp_plain.specs.PlainTree.{path_cmp, pair_cmp}

pub path_cmp-IsTotalOrder : IsTotalOrder path_cmp
path_cmp-IsTotalOrder = lists_total nat_list_cmp_total

pub path_cmp-IsAntisymmetric : IsAntisymmetric path_cmp
path_cmp-IsAntisymmetric = slice_cmp-IsAntisymmetric (slice_cmp-IsAntisymmetric nat_cmp-IsAntisymmetric)

pub pair_cmp-IsTotalOrder : IsTotalOrder pair_cmp
pair_cmp-IsTotalOrder = then_total (on_total (λ e. e.0) path_cmp-IsTotalOrder) (on_total (λ e. e.1) path_cmp-IsTotalOrder)

then_equal : (a b : Ordering) → ordering_then a b ≡ Equal → (a ≡ Equal) × (b ≡ Equal)
then_equal Equal b e = (refl, e)
then_equal Less b e = absurd (cc)
then_equal Greater b e = absurd (cc)

pub pair_cmp-IsAntisymmetric : IsAntisymmetric pair_cmp
pair_cmp-IsAntisymmetric x y e =
    let both : (path_cmp x.0 y.0 ≡ Equal) × (path_cmp x.1 y.1 ≡ Equal) = then_equal _ _ e in
    λ i. (path_cmp-IsAntisymmetric x.0 y.0 both.0 i, path_cmp-IsAntisymmetric x.1 y.1 both.1 i)

-- two pairs tie where both their paths are the same
pub tie_same : (x y : Path × Path) → eq_by_cmp pair_cmp x y ≡ true → x ≡ y
tie_same x y e = pair_cmp-IsAntisymmetric x y ((Equal-is (pair_cmp x y)).0 e)

pub tie_self : (x : Path × Path) → eq_by_cmp pair_cmp x x ≡ true
tie_self x = (eq_by_cmp_equiv pair_cmp-IsTotalOrder).refl x

-- what the order of paths reports
pub same_path_from : (p q : Path) → eq_by_cmp path_cmp p q ≡ true → p ≡ q
same_path_from p q e = path_cmp-IsAntisymmetric p q ((Equal-is (path_cmp p q)).0 e)

pub other_path_from : (p q : Path) → eq_by_cmp path_cmp p q ≡ false → p ≡ q → ⊥
other_path_from p q e same = true≢false (sym ((eq_by_cmp_equiv path_cmp-IsTotalOrder).refl p) ∙ ap (eq_by_cmp path_cmp p) same ∙ e)
