-- Ways that were found stay those of an image in which the pointers on the way to the cover lead to the same blocks.
use Rattle.std.proofs.Common.{◌≡◌, ◌≢◌, ℕ, zero, suc, ◌+◌, ◌*◌, ◌<◌, length, slice_index, refl, sym, ◌∙◌, ap, subst, arith}
use Rattle.bp_layout.specs.Members.{Has}
use Rattle.bp_layout.specs.WordPaths.{WordPath}
use Rattle.bp_layout.specs.Words.{Image}
use Rattle.bp_changes.specs.Trail.{IsPlaced, block_on, place_on, trail_of}
use Rattle.bp_changes.specs.Trail.IsPlaced.{at_top, in_block}
use Rattle.bp_cow.specs.Cover.{BeginAlike, end_path}
use Rattle.bp_cow.specs.Found.{AreWaysIn}
use Rattle.bp_cow.specs.Touched.{IsTouched, all_paths}
use Rattle.bp_cow.specs.declared.covers.FoundWays.{FoundWays}
use Rattle.bp_cow.specs.declared.touched.Touched.{Touched}
use Rattle.bp_cow.proofs.CopiesNeed.{alike-all}
use Rattle.bp_cow.proofs.CoverLaws.{end-slots, some-ends}
use Rattle.bp_cow.proofs.CoverOf.{alike_prefix}

module _ (old new : Image) (touched : Touched) (shape : IsTouched touched) (whole : length new ≡ length old)
    (same : (d : ℕ) → BeginAlike touched (suc d) → block_on new (trail_of (end_path touched 0) d) ≡ block_on old (trail_of (end_path touched 0) d)) (found : FoundWays) (ways : AreWaysIn old touched found) where
  -- on the way
  here : (d : ℕ) → d < found.cover.len → block_on new (trail_of (end_path touched 0) d) ≡ block_on old (trail_of (end_path touched 0) d)
  here d low = same d (alike_prefix touched found.cover.len (suc d) (omega (arith, low)) ways.cover.at.alike)

  exists : (d : ℕ) → d < found.cover.len → block_on new (trail_of (end_path touched 0) d) ≢ 0
  exists d low null = ways.cover.at.exists d low (sym (here d low) ∙ null)

  placed : (n : ℕ) → found.cover.len ≡ n → IsPlaced new (λ q. Unit {0}) (trail_of (end_path touched 0) n)
  placed zero e = at_top
  placed (suc d) e =
      let long = ways.cover.at.alike.long 0 (some-ends touched shape) in
      in_block (slice_index (end_path touched 0) d) (trail_of (end_path touched 0) d) tt (exists d (omega (arith, e))) (end-slots touched shape 0 d (some-ends touched shape) (omega (arith, long, e)))

  place : (n : ℕ) → found.cover.len ≡ n → place_on new (trail_of (end_path touched 0) n) ≡ place_on old (trail_of (end_path touched 0) n)
  place zero e = refl
  place (suc d) e = ap (λ b. 512 * b + slice_index (end_path touched 0) d) (here d (omega (arith, e)))

  pub ways_stay : AreWaysIn new touched found
  ways_stay = record {
    cover = record {
      at = record {
        alike = ways.cover.at.alike;
        exists = exists;
        placed = placed found.cover.len refl;
        place = place found.cover.len refl ∙ ways.cover.at.place;
        low = omega (arith, whole, ways.cover.at.low);
      };
      has = record {
        alike = ways.cover.has.alike;
        exists = exists;
        longest = λ alike. same found.cover.len (subst (BeginAlike touched) next alike) ∙ ways.cover.has.longest alike;
      };
    };
    shared = ways.shared;
  }
    where
      next : found.cover.len + 1 ≡ suc found.cover.len
      next = omega arith

-- it is enough that they do on one of the touched paths
pub ways_stay_on : (old new : Image) (touched : Touched) → IsTouched touched → length new ≡ length old → (path : WordPath) → Has (all_paths touched) path →
    ((d : ℕ) → d < length path → block_on new (trail_of path d) ≡ block_on old (trail_of path d)) → (found : FoundWays) → AreWaysIn old touched found → AreWaysIn new touched found
ways_stay_on old new touched shape whole path in_paths same = ways_stay old new touched shape whole on
  where
    on : (d : ℕ) → BeginAlike touched (suc d) → block_on new (trail_of (end_path touched 0) d) ≡ block_on old (trail_of (end_path touched 0) d)
    on d alike =
        let begins = alike-all touched shape (suc d) alike path in_paths in
        let prefix : trail_of path d ≡ trail_of (end_path touched 0) d = prefix_of begins.1 in
        ap (block_on new) (sym prefix) ∙ same d (omega (arith, begins.0)) ∙ ap (block_on old) prefix
      where
        prefix_of : trail_of path (suc d) ≡ trail_of (end_path touched 0) (suc d) → trail_of path d ≡ trail_of (end_path touched 0) d
        prefix_of e = cc
