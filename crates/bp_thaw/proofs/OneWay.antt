-- What is in the snapshot on one way.
use Rattle.std.proofs.Common.{◌≡◌, ℕ, ◌-◌, ◌<◌, [], ◌∷◌, length, take, Bool, true, refl, sym, ◌∙◌, subst, arith, inl, inr}
use Rattle.std.specs.List.{range_with_len}
use Rattle.bp_layout.specs.Members.{Has}
use Rattle.bp_layout.specs.Need.{prefixes_from}
use Rattle.bp_layout.specs.Thaw.{is_in_snapshot_at, thawed_on}
use Rattle.bp_layout.specs.WellFormed.{IsWellFormed}
use Rattle.bp_layout.specs.WordPaths.{WordPath}
use Rattle.bp_layout.specs.Words.{Image}
use Rattle.bp_layout.proofs.MemberLaws.{has-filter, has-map, has-range}
use Rattle.bp_layout.proofs.ThawLaws.{loose-on}
use Rattle.bp_thaw.specs.Prefixes.{IsWayIn, found_on}
use Rattle.bp_thaw.proofs.Found.{found_is}

-- nothing is found on it: so nothing is thawed on it
pub none_on_way : (image : Image) → IsWellFormed image → (in_snapshot : ℕ → Bool) (way : WordPath) → IsWayIn image way → found_on image in_snapshot [] way (length way) ≡ [] → thawed_on image in_snapshot (way ∷ []) ≡ []
none_on_way image wf in_snapshot way of none = sym (found_is image wf in_snapshot (way ∷ []) one) ∙ none
  where
    one : (other : WordPath) → Has (way ∷ []) other → IsWayIn image other
    one other (inl e) = subst (IsWayIn image) e of
    one other (inr later) = absurd later

-- a pointer on it leads to a block of the snapshot: so something is thawed
pub snapshot_is_thawed : (image : Image) (in_snapshot : ℕ → Bool) (way : WordPath) (d : ℕ) → d < length way → is_in_snapshot_at image in_snapshot (take d way) ≡ true → thawed_on image in_snapshot (way ∷ []) ≡ [] → ⊥
snapshot_is_thawed image in_snapshot way d low is none =
    subst (λ prefixes. Has prefixes (take d way)) (loose-on image in_snapshot (way ∷ []) none way (inl refl) 0)
    (has-filter (is_in_snapshot_at image in_snapshot) (prefixes_from 0 way) (take d way)
    (has-map (λ n. take n way) (range_with_len 0 (length way - 0)) d (has-range 0 (length way - 0) d (omega arith) (omega (arith, low)))) is)
