-- In the middle of a scan the inode file and each directory that was entered can be read: they are sound and have no null.
use Rattle.std.proofs.Common.{◌≡◌, ◌≢◌, ◌⊎◌, ℕ, zero, suc, ◌+◌, ◌*◌, ◌/◌, ◌%◌, ◌<◌, ◌≤◌, refl, arith, inl, inr}
use Rattle.bp_free.specs.Set.{Set}
use Rattle.bp_limits.proofs.Versions.{height_most}
use Rattle.bp_layout.specs.Formatted.{version_of}
use Rattle.bp_layout.specs.Words.{Image, block_count, height_of}
use Rattle.bp_layout.specs.Tree.{node, IsLivePointer, IsSound, IsFull}
use Rattle.bp_layout.specs.Inode.{kind_of, root_of, size_of, inode_count}
use Rattle.bp_layout.specs.Directory.{EntryNames}
use Rattle.bp_layout.specs.Checks.{IsFound, IsFollowed, IsPointer, Passes, pointer_place, ContentFollowed, IsEntry, entry_place}
use Rattle.bp_layout.specs.Checks.IsFound.{named}
use Rattle.bp_layout.proofs.TreeLaws.{live_above, live_pointer_word, live_content}
use Rattle.bp_layout.proofs.OnePlace.{SamePointer, same_block, low_slot}
use Rattle.bp_layout.specs.Checks.{Fails}
use Rattle.bp_layout.specs.Checks.Fails.{inode_twice}
use Rattle.bp_layout.specs.declared.check.Check.TheVariants.{InodeTwice}
use Rattle.bp_layout.proofs.OncePointer.{once_pointer}
use Rattle.bp_scan.specs.Scanned.{IsChecked, IsScanned}
use Rattle.bp_scan.proofs.Entering.{reports_of}

module _ (image : Image) (E : ℕ → Type 0) (D : ℕ → ℕ → Type 0) (all left : Set) (some : 4096 ≤ size_of image 0) (first : E 0) (scanned : IsScanned image E D all left)
    (t : ℕ) (entered : E t) (which : (t ≡ 0) ⊎ (kind_of image t ≡ 2)) where
  pub followed : (d k : ℕ) → IsLivePointer (root_of image t) (size_of image t) d k → IsFollowed image (root_of image t) (size_of image t) d k
  followed zero k live = tt
  followed (suc d) k live =
      let above : IsLivePointer (root_of image t) (size_of image t) d (k / 512) = live_above _ _ d k (live_pointer_word _ _ (suc d) k live) in
      let f : IsFollowed image (root_of image t) (size_of image t) d (k / 512) = followed d (k / 512) above in
      let checked : IsChecked image t = scanned.checked t entered in
      (checked.fits, f, checked.passes d (k / 512) above f, checked.full which d (k / 512) above f)

  pub is_full : IsFull image (root_of image t) (size_of image t)
  is_full d k live = (scanned.checked t entered).full which d k live (followed d k live)

  passes : (d k : ℕ) → IsLivePointer (root_of image t) (size_of image t) d k → Passes image (root_of image t) d k
  passes d k live = (scanned.checked t entered).passes d k live (followed d k live)

  in_range : (d k : ℕ) → Passes image (root_of image t) d k → node image (root_of image t) d k < block_count image
  in_range zero k p = p.1
  in_range (suc d) k p = p.1

  pub is_sound : IsSound image (root_of image t) (size_of image t)
  is_sound = record {
    low = λ some. let p : Passes image (root_of image t) 0 0 = passes 0 0 (top some) in omega (arith, p.0, height_most (version_of image));
    root_bits = λ some. let p : Passes image (root_of image t) 0 0 = passes 0 0 (top some) in omega (arith, p.0, height_most (version_of image));
    pointer_bits = λ d k live. (passes (suc d) k live).0;
    in_range = λ d k live. in_range d k (passes d k live);
    once = λ d k e l live also present same.
        let one : SamePointer t d k t e l =
        once_pointer image E (reports_of image E D all left some first scanned) t entered d k t e l entered (at d k live) (at e l also) present same in
        (one.depth, one.index);
    fits = (scanned.checked t entered).fits;
  }
    where
      top : 0 < size_of image t → IsLivePointer (root_of image t) (size_of image t) 0 0
      top some = record { level = height_of (root_of image t); height = omega arith; live = omega (arith, some) }

      at : (d k : ℕ) → IsLivePointer (root_of image t) (size_of image t) d k → IsPointer image t d k (pointer_place image t d k)
      at d k live = record { found = scanned.found t entered; live = live; followed = followed d k live; at = refl }

  -- so a word of it is followed
  pub content_followed : (k : ℕ) → 8 * k < size_of image t → ContentFollowed image t k
  content_followed k low =
      let above : IsLivePointer (root_of image t) (size_of image t) (height_of (root_of image t)) (k / 512) = live_above _ _ (height_of (root_of image t)) k (live_content _ _ k low) in
      let f : IsFollowed image (root_of image t) (size_of image t) (height_of (root_of image t)) (k / 512) = followed (height_of (root_of image t)) (k / 512) above in
      ((scanned.checked t entered).fits, f, passes (height_of (root_of image t)) (k / 512) above, is_full (height_of (root_of image t)) (k / 512) above)

-- the entry at hand, for the checks that describe it
pub entry_seen : (image : Image) (E : ℕ → Type 0) (D : ℕ → ℕ → Type 0) (all left : Set) → 4096 ≤ size_of image 0 → E 0 → IsScanned image E D all left → (i s j : ℕ) → E i → EntryNames image i s j →
    IsEntry image i s j (entry_place image i s 0)
entry_seen image E D all left some first scanned i s j entered names = record {
  found = scanned.found i entered;
  names = names;
  followed = content_followed image E D all left some first scanned i entered (inr names.directory) (32 * s) (omega (arith, names.in_size));
  at = refl;
}

-- the inode that it names is found
pub inode_found : (image : Image) (E : ℕ → Type 0) (D : ℕ → ℕ → Type 0) (all left : Set) → 4096 ≤ size_of image 0 → E 0 → IsScanned image E D all left → (i s j : ℕ) → E i → EntryNames image i s j →
    j < inode_count image → IsFound image j
inode_found image E D all left some first scanned i s j entered names low =
    named s (scanned.found i entered) names (content_followed image E D all left some first scanned i entered (inr names.directory) (32 * s) (omega (arith, names.in_size))) low
    (content_followed image E D all left some first scanned 0 first (inl refl) (8 * j) (omega (arith, low)))

same_slot : (s r : ℕ) → (32 * s + 0) / 512 ≡ (32 * r + 0) / 512 → (32 * s + 0) % 512 ≡ (32 * r + 0) % 512 → s ≡ r
same_slot s r row column = omega arith

-- two entries at one place are one
pub one_entry : (image : Image) (E : ℕ → Type 0) (D : ℕ → ℕ → Type 0) (all left : Set) → 4096 ≤ size_of image 0 → E 0 → IsScanned image E D all left → (i s j k r h : ℕ) → E i → E k →
    EntryNames image i s j → EntryNames image k r h → entry_place image i s 0 ≡ entry_place image k r 0 → (i ≡ k) × (s ≡ r)
one_entry image E D all left some first scanned i s j k r h entered also n m place =
    let same : (node image (root_of image i) (height_of (root_of image i)) ((32 * s + 0) / 512) ≡ node image (root_of image k) (height_of (root_of image k)) ((32 * r + 0) / 512)) × ((32 * s + 0) % 512 ≡ (32 * r + 0) % 512) =
    same_block _ _ ((32 * s + 0) % 512) ((32 * r + 0) % 512) _ (low_slot (32 * s + 0)) (low_slot (32 * r + 0)) place refl in
    let one : SamePointer i (height_of (root_of image i)) ((32 * s + 0) / 512) k (height_of (root_of image k)) ((32 * r + 0) / 512) =
    once_pointer image E (reports_of image E D all left some first scanned) i entered (height_of (root_of image i)) ((32 * s + 0) / 512) k (height_of (root_of image k)) ((32 * r + 0) / 512) also
    (leaf i s j entered n) (leaf k r h also m) (present i s j entered n) same.0 in
    (one.tree, same_slot s r one.index same.1)
  where
    live : (i s j : ℕ) → EntryNames image i s j → IsLivePointer (root_of image i) (size_of image i) (height_of (root_of image i)) ((32 * s + 0) / 512)
    live i s j n = live_above _ _ (height_of (root_of image i)) (32 * s + 0) (live_content _ _ (32 * s + 0) (omega (arith, n.in_size)))

    leaf : (i s j : ℕ) → E i → EntryNames image i s j →
        IsPointer image i (height_of (root_of image i)) ((32 * s + 0) / 512) (pointer_place image i (height_of (root_of image i)) ((32 * s + 0) / 512))
    leaf i s j e n = record {
      found = scanned.found i e;
      live = live i s j n;
      followed = followed image E D all left some first scanned i e (inr n.directory) (height_of (root_of image i)) ((32 * s + 0) / 512) (live i s j n);
      at = refl;
    }

    present : (i s j : ℕ) → E i → EntryNames image i s j → node image (root_of image i) (height_of (root_of image i)) ((32 * s + 0) / 512) ≢ 0
    present i s j e n = is_full image E D all left some first scanned i e (inr n.directory) (height_of (root_of image i)) ((32 * s + 0) / 512) (live i s j n)

-- the check InodeTwice at the entry at hand, where another entry named the inode
pub named_before : (image : Image) (E : ℕ → Type 0) (D : ℕ → ℕ → Type 0) (all left : Set) → 4096 ≤ size_of image 0 → E 0 → IsScanned image E D all left → (i s k r j : ℕ) → E i → E k →
    EntryNames image i s j → EntryNames image k r j → IsFound image j → kind_of image j ≡ 2 → ((i ≡ k) → (s ≡ r) → ⊥) → Fails image InodeTwice (entry_place image i s 0)
named_before image E D all left some first scanned i s k r j entered also n m found kind other =
    inode_twice (entry_seen image E D all left some first scanned i s j entered n) (entry_seen image E D all left some first scanned k r j also m)
    (λ same. let both : (i ≡ k) × (s ≡ r) = one_entry image E D all left some first scanned i s j k r j entered also n m same in other both.0 both.1) found kind
