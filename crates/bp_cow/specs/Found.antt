-- A common prefix of all touched paths and the place of its word; and the results of a search of all ways.
use Rattle.std.specs.Prelude.{◌≡◌, ◌≢◌, ℕ, ◌<◌, length}
use Rattle.bp_layout.specs.Words.{Image}
use Rattle.bp_changes.specs.Trail.{block_on, place_on, trail_of, IsPlaced}
use Rattle.bp_cow.specs.Cover.{end_path, BeginAlike, CoverHas}
use Rattle.bp_cow.specs.declared.touched.Touched.{Touched}
use Rattle.bp_cow.specs.Ways.{AreShared}
use Rattle.bp_cow.specs.declared.covers.FoundCover.{FoundCover}
use Rattle.bp_cow.specs.declared.covers.FoundWays.{FoundWays}

pub record IsAt (image : Image) (touched : Touched) (found : FoundCover) : Type 0 where
  pub alike : BeginAlike touched found.len
  pub exists : (d : ℕ) → d < found.len → block_on image (trail_of (end_path touched 0) d) ≢ 0
  pub placed : IsPlaced image (λ q. Unit {0}) (trail_of (end_path touched 0) found.len)
  pub place : place_on image (trail_of (end_path touched 0) found.len) ≡ found.place
  pub low : found.place < length image

-- the longest common prefix of all touched paths that exists (the cover), and the place of its word
pub record IsCoverIn (image : Image) (touched : Touched) (cover : FoundCover) : Type 0 where
  pub at : IsAt image touched cover
  pub has : CoverHas image touched cover.len

-- the cover, and the correct counts of the slots that ways share
pub record AreWaysIn (image : Image) (touched : Touched) (found : FoundWays) : Type 0 where
  pub cover : IsCoverIn image touched found.cover
  pub shared : AreShared touched found.shared
