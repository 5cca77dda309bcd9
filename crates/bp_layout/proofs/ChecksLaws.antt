-- No check fails in a well-formed image.
use Rattle.std.proofs.Common.{◌≡◌, ℕ, suc, ◌<◌, ◌≤◌, refl, sym, ◌∙◌, ap, subst, arith, inl, inr}
use Rattle.bp_layout.specs.Words.{Image, block_count, height_of}
use Rattle.bp_layout.specs.Tree.{node, covered, IsLivePointer}
use Rattle.bp_layout.specs.Inode.{kind_of, root_of, size_of, inode_count}
use Rattle.bp_layout.specs.Reached.{IsReached}
use Rattle.bp_layout.specs.Reached.IsReached.{inode_file as the_inode_file, root_directory as the_root_directory, named as by_name}
use Rattle.bp_layout.specs.WellFormed.{IsWellFormed}
use Rattle.bp_layout.specs.Checks.{IsFound, Fails, pointer_place, entry_place}
use Rattle.bp_layout.specs.declared.check.Check.{Check}
use Rattle.bp_layout.specs.Checks.IsFound.{inode_file, root_directory, named}
use Rattle.bp_layout.specs.Checks.Fails.{height, root_bits, pointer_bits, range, twice, hole, inode_file_size, ino, root_named, inode_twice, kind, root_kind, directory_size, capacity, name_form, name_twice}
use Rattle.bp_layout.specs.Formatted.{version_of}
use Rattle.bp_limits.specs.Limits.{greatest_height}

pub found_reached : (image : Image) (t : ℕ) → IsFound image t → IsReached image t
found_reached image _ inode_file = the_inode_file
found_reached image _ (root_directory f) = the_root_directory
found_reached image _ (named {i = i} {j = j} slot from names f low g) = by_name slot (found_reached image i from) names

some_bytes : (root size d k : ℕ) → IsLivePointer root size d k → 0 < size
some_bytes root size d k live = omega (arith, live.live)

pub same_pointer : (image : Image) (t d k u e l : ℕ) → t ≡ u → d ≡ e → k ≡ l → pointer_place image t d k ≡ pointer_place image u e l
same_pointer image t d k u e l a b c =
    ap (λ (x : ℕ). pointer_place image x d k) a ∙ ap (λ (x : ℕ). pointer_place image u x k) b ∙ ap (pointer_place image u e) c

pub same_entry : (image : Image) (i s k r : ℕ) → i ≡ k → s ≡ r → entry_place image i s 0 ≡ entry_place image k r 0
same_entry image i s k r a b = ap (λ (x : ℕ). entry_place image x s 0) a ∙ ap (λ (x : ℕ). entry_place image k x 0) b

-- the word and its fault cannot both be
pub none_fails : (image : Image) → IsWellFormed image → (c : Check) (p : ℕ) → Fails image c p → ⊥
none_fails image wf _ _ (height {t = t} at high) =
    let low : height_of (root_of image t) ≤ greatest_height (version_of image) = wf.low t (found_reached image t at.found) (some_bytes _ _ 0 0 at.live) in omega (arith, high, low)
none_fails image wf _ _ (root_bits {t = t} at bits) = bits ((wf.sound t (found_reached image t at.found)).root_bits (some_bytes _ _ 0 0 at.live))
none_fails image wf _ _ (pointer_bits {t = t} {d = d} {k = k} at bits) = bits ((wf.sound t (found_reached image t at.found)).pointer_bits d k at.live)
none_fails image wf _ _ (range {t = t} {d = d} {k = k} at high) =
    let low : node image (root_of image t) d k < block_count image = (wf.sound t (found_reached image t at.found)).in_range d k at.live in omega (arith, high, low)
none_fails image wf _ _ (twice {t = t} {d = d} {k = k} {u = u} {e = e} {l = l} at also other present same) =
    let tree : t ≡ u = wf.apart t u (node image (root_of image t) d k) (found_reached image t at.found) (found_reached image u also.found)
    (record { depth = d; index = k; pointer = at.live; named = refl; not_null = present }) (record { depth = e; index = l; pointer = also.live; named = sym same; not_null = present }) in
    let both : (d ≡ e) × (k ≡ l) = (wf.sound t (found_reached image t at.found)).once d k e l at.live (subst (λ (x : ℕ). IsLivePointer (root_of image x) (size_of image x) e l) (sym tree) also.live)
    present (same ∙ ap (λ (x : ℕ). node image (root_of image x) e l) (sym tree)) in
    other (sym at.at ∙ same_pointer image t d k u e l tree both.0 both.1 ∙ also.at)
none_fails image wf _ _ (hole {t = t} {d = d} {k = k} at (inl e) null) =
    wf.full_inode_file d k (subst (λ (x : ℕ). IsLivePointer (root_of image x) (size_of image x) d k) e at.live) (subst (λ (x : ℕ). node image (root_of image x) d k ≡ 0) e null)
none_fails image wf _ _ (hole {t = t} {d = d} {k = k} at (inr directory) null) = wf.full_directories t (found_reached image t at.found) directory d k at.live null
none_fails image wf _ _ (inode_file_size (inl odd)) = odd wf.inode_blocks
none_fails image wf _ _ (inode_file_size (inr small)) = let some : 4096 ≤ size_of image 0 = wf.some_inodes in omega (arith, small, some)
none_fails image wf _ _ (ino {i = i} {s = s} {j = j} at high) =
    let low : j < inode_count image = wf.inos i s j (found_reached image i at.found) at.names in omega (arith, high, low)
none_fails image wf _ _ (root_named {i = i} {s = s} at) = wf.not_root i s 1 (found_reached image i at.found) at.names refl
none_fails image wf _ _ (inode_twice {i = i} {s = s} {j = j} {k = k} {r = r} at also other found directory) =
    let same : (i ≡ k) × (s ≡ r) = wf.named_once i s k r j (found_reached image i at.found) (found_reached image k also.found) at.names also.names directory in
    other (sym at.at ∙ same_entry image i s k r same.0 same.1 ∙ also.at)
none_fails image wf _ _ (kind {i = i} found not_file not_directory at) =
    let both : (1 ≤ kind_of image (suc i)) × (kind_of image (suc i) ≤ 2) = wf.kinds i (found_reached image (suc i) found) in
    omega (arith, both.0, both.1, not_file, not_directory)
none_fails image wf _ _ (root_kind found other at) = other wf.root_kind
none_fails image wf _ _ (directory_size {i = i} found directory odd at) = odd (wf.directory_sizes i (found_reached image i found) directory)
none_fails image wf _ _ (capacity {t = t} found large at) =
    let fits : size_of image t ≤ covered (suc (height_of (root_of image t))) = (wf.sound t (found_reached image t found)).fits in omega (arith, large, fits)
none_fails image wf _ _ (name_form {i = i} {s = s} {j = j} at bad) = bad (wf.names i s j (found_reached image i at.found) at.names)
none_fails image wf _ _ (name_twice {i = i} {s = s} {j = j} {r = r} {k = k} at also other same) =
    other (sym at.at ∙ same_entry image i s i r refl (wf.names_once i s r j k (found_reached image i at.found) at.names also.names same) ∙ also.at)
