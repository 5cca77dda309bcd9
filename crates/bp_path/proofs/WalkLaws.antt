-- Walks and look-ups.
use Rattle.std.proofs.Common.{◌≡◌, ◌≢◌, ℕ, zero, suc, ◌*◌, ◌/◌, ◌<◌, ◌≤◌, ◌^◌, [], ◌∷◌, ◌++◌, Bool, true, false, ◌==◌, Option, None, Some, option_and_then, bytes_eq, append-nil, refl, sym, ◌∙◌, ap, arith}
use Rattle.bp_layout.specs.Words.{Image, block_count}
use Rattle.bp_layout.specs.Inode.{kind_of, root_of, size_of, inode_count}
use Rattle.bp_layout.specs.Directory.{entry_count, is_named, ino_at, name_at, slot_named, lookup_in}
use Rattle.bp_layout.specs.Paths.{Name, Path}
use Rattle.bp_layout.specs.Lookup.{lookup_from, lookup}
use Rattle.bp_layout.specs.Reached.{IsReached}
use Rattle.bp_layout.specs.Reached.IsReached.{inode_file, root_directory, named}
use Rattle.bp_layout.specs.WellFormed.{IsWellFormed}
use Rattle.bp_layout.proofs.View.{lookup_in-reached, lookup_from-reached, named_true}
use Rattle.bp_layout.proofs.Finding.{Finds, find-passes}
use Rattle.bp_layout.proofs.FewLeaves.{few_inodes}
use Rattle.bp_path.specs.Walk.{Walked, onward, walk_from, WalkIsLookup}
use Rattle.bp_path.specs.Walk.Walked.{found, in_file}

-- a name that is looked up
abbrev pub stepped : Image → ℕ → Path → Option ℕ → Walked
stepped image i names o = onward (λ j. walk_from image j names) o

lookup_in-dir : (image : Image) (i j : ℕ) (name : Name) → lookup_in image i name ≡ Some j → (kind_of image i == 2) ≡ true
lookup_in-dir image i j name e = go (kind_of image i == 2) refl
  where
    go : (b : Bool) → (kind_of image i == 2) ≡ b → (kind_of image i == 2) ≡ true
    go true at = at
    go false at = let none : ◌≡◌ {A = Option ℕ} None (Some j) = rw at at e in absurd (cc)

walk-dir : (image : Image) (i : ℕ) (name : Name) (names : Path) → (kind_of image i == 2) ≡ true → walk_from image i (name ∷ names) ≡ stepped image i names (lookup_in image i name)
walk-dir image i name names at = rw at refl

-- a walk over a name that a directory has
pub walk-step : (image : Image) (i j : ℕ) (name : Name) (names : Path) → lookup_in image i name ≡ Some j → walk_from image i (name ∷ names) ≡ walk_from image j names
walk-step image i j name names e = walk-dir image i name names (lookup_in-dir image i j name e) ∙ ap (λ o. stepped image i names o) e

pub lookup_in-slot : (image : Image) (i j slot : ℕ) (name : Name) → kind_of image i ≡ 2 → slot_named image i name ≡ Some slot → ino_at image i slot ≡ j → lookup_in image i name ≡ Some j
lookup_in-slot image i j slot name kind at is = rw (kind, at) (ap Some is)

-- a walk goes on from where its first names lead
pub walk_on : (image : Image) (i j : ℕ) (before rest : Path) → lookup_from image i before ≡ Some j → walk_from image i (before ++ rest) ≡ walk_from image j rest
walk_on image i j [] rest e = let same : i ≡ j = cc in ap (λ k. walk_from image k rest) same
walk_on image i j (name ∷ before) rest e = go (λ k f. walk_on image k j before rest f) (lookup_in image i name) refl
  where
    go : ((k : ℕ) → lookup_from image k before ≡ Some j → walk_from image k (before ++ rest) ≡ walk_from image j rest) → (o : Option ℕ) → lookup_in image i name ≡ o →
        walk_from image i (name ∷ (before ++ rest)) ≡ walk_from image j rest
    go on None f = let none : ◌≡◌ {A = Option ℕ} None (Some j) = rw f at e in absurd (cc)
    go on (Some k) f = walk-step image i k name (before ++ rest) f ∙ on k (rw f at e)

walk-lookup : (image : Image) (i j : ℕ) (names : Path) → walk_from image i names ≡ found j → lookup_from image i names ≡ Some j
walk-lookup image i j [] e = let same : i ≡ j = cc in ap Some same
walk-lookup image i j (name ∷ names) e = at_kind (λ k is. walk-lookup image k j names is) (kind_of image i == 2) refl
  where
    at_name : ((k : ℕ) → walk_from image k names ≡ found j → lookup_from image k names ≡ Some j) → (o : Option ℕ) → lookup_in image i name ≡ o → stepped image i names o ≡ found j →
        lookup_from image i (name ∷ names) ≡ Some j
    at_name on None f is = absurd (cc)
    at_name on (Some k) f is = ap (option_and_then (λ n. lookup_from image n names)) f ∙ on k is

    at_kind : ((k : ℕ) → walk_from image k names ≡ found j → lookup_from image k names ≡ Some j) → (b : Bool) → (kind_of image i == 2) ≡ b → lookup_from image i (name ∷ names) ≡ Some j
    at_kind on true at = at_name on (lookup_in image i name) refl (sym (walk-dir image i name names at) ∙ e)
    at_kind on false at = let never : in_file ≡ found j = rw at at e in absurd (cc)

lookup-walk : (image : Image) (i j : ℕ) (names : Path) → lookup_from image i names ≡ Some j → walk_from image i names ≡ found j
lookup-walk image i j names e = ap (walk_from image i) (sym (append-nil names)) ∙ walk_on image i j names [] e

pub walk_is_lookup : (image : Image) → WalkIsLookup image
walk_is_lookup image i j names = (walk-lookup image i j names, lookup-walk image i j names)

-- ---- inodes that are reached

pub there : (image : Image) (i : ℕ) → IsWellFormed image → IsReached image i → i < inode_count image
there image _ wf inode_file = omega (arith, wf.some_inodes)
there image _ wf root_directory = omega (arith, wf.some_inodes)
there image _ wf (named {i = u} {j = k} slot from n) = wf.inos u slot k from n

pub low_number : (image : Image) (i : ℕ) → IsWellFormed image → i < inode_count image → i < 2 ^ 32
low_number image i wf inside =
    let few : size_of image 0 / 64 ≤ 64 * block_count image =
    few_inodes image (root_of image 0) (size_of image 0) (wf.sound 0 inode_file) wf.full_inode_file (omega (arith, wf.formatted.sized.at_least)) wf.inode_blocks in
    omega (arith, few, inside, wf.formatted.sized.at_most)

pub right_kind : (image : Image) (i : ℕ) → IsWellFormed image → IsReached image i → 1 ≤ i → (1 ≤ kind_of image i) × (kind_of image i ≤ 2)
right_kind image zero wf reached some = absurd (omega (arith, some))
right_kind image (suc i) wf reached some = wf.kinds i reached

pub lookup-reached : (image : Image) (i : ℕ) (path : Path) → lookup image path ≡ Some i → IsReached image i
lookup-reached image i path e = lookup_from-reached image 1 i path root_directory e

-- the slot with a name is live
pub slot_there : (image : Image) (i slot : ℕ) (name : Name) → slot_named image i name ≡ Some slot → slot < entry_count image i
slot_there image i slot name found_at =
    let at : Finds (is_named image i name) 0 (entry_count image i) slot = find-passes _ 0 _ slot found_at in omega (arith, at.high)

-- the inode that an entry with a name stands for is reached
pub named_reached : (image : Image) (i j slot : ℕ) (name : Name) → IsReached image i → kind_of image i ≡ 2 → slot_named image i name ≡ Some slot → ino_at image i slot ≡ j → IsReached image j
named_reached image i j slot name reached kind at is = lookup_in-reached image i j name reached (lookup_in-slot image i j slot name kind at is)

pub not_inode_file : (image : Image) (i j slot : ℕ) (name : Name) → slot_named image i name ≡ Some slot → ino_at image i slot ≡ j → 1 ≤ j
not_inode_file image i j slot name found_at is =
    let at : Finds (is_named image i name) 0 (entry_count image i) slot = find-passes _ 0 _ slot found_at in
    let parts : (ino_at image i slot ≢ 0) × (bytes_eq (name_at image i slot) name ≡ true) = named_true _ _ at.passes in
    omega (arith, parts.0, is)
