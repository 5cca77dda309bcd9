-- An image that has no second tree is a file system where its first tree is well formed, and none of its blocks is in
-- the snapshot.
use Rattle.std.proofs.Common.{◌≡◌, ℕ, Bool, true, false, ◌&&◌, nat_lt, refl, ap}
use Rattle.bp_limits.specs.declared.version.Version.TheVariants.{One}
use Rattle.bp_limits.specs.CallLimits.{allows_snapshot}
use Rattle.bp_layout.specs.Words.{Image, word}
use Rattle.bp_layout.specs.Formatted.{version_of}
use Rattle.bp_layout.specs.Thaw.{none_in_snapshot}
use Rattle.bp_layout.specs.Trees.{AreInSnapshot, has_snapshot}
use Rattle.bp_layout.specs.WellFormed.{IsWellFormed}
use Rattle.bp_layout.specs.Whole.{IsFileSystem}

pub first_has_none : (image : Image) → version_of image ≡ One → has_snapshot image ≡ false
first_has_none image e = ap (λ v. allows_snapshot v && nat_lt 0 (word image 5)) e

-- from version 2 on its size is 0
pub has_none : (image : Image) → (allows_snapshot (version_of image) ≡ true → word image 5 ≡ 0) → has_snapshot image ≡ false
has_none image size = go (allows_snapshot (version_of image)) refl
  where
    go : (b : Bool) → allows_snapshot (version_of image) ≡ b → has_snapshot image ≡ false
    go false e = ap (λ b. b && nat_lt 0 (word image 5)) e
    go true e = λ i. e i && nat_lt 0 (size e i)

pub alone_file_system : (image : Image) → IsWellFormed image → has_snapshot image ≡ false → IsFileSystem image
alone_file_system image wf none = record { first = wf; second = λ there. absurd (cc) }

-- ---- blocks of the snapshot

-- no block is one of a second tree
pub none_in_snapshot_of : (image : Image) → has_snapshot image ≡ false → AreInSnapshot image none_in_snapshot
none_in_snapshot_of image none = record {
  are = λ b is. let wrong : ◌≡◌ {A = Bool} false true = is in absurd (cc);
  all = λ b snapshot_blocks. let there : has_snapshot image ≡ true = snapshot_blocks.there in absurd (cc);
}

-- and so the test of those that are is that of none
pub snapshot_none : (image : Image) (in_snapshot : ℕ → Bool) → has_snapshot image ≡ false → AreInSnapshot image in_snapshot → in_snapshot ≡ none_in_snapshot
snapshot_none image in_snapshot none snapshot_blocks = λ i b. at b (in_snapshot b) refl i
  where
    at : (b : ℕ) (x : Bool) → in_snapshot b ≡ x → in_snapshot b ≡ false
    at b false e = e
    at b true e = let there : has_snapshot image ≡ true = (snapshot_blocks.are b e).there in absurd (cc)
