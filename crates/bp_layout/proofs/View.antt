-- Two images whose directories and files are alike show the same at each path.
use Rattle.std.proofs.Common.{◌≡◌, ◌≢◌, ℕ, ◌<◌, [], ◌∷◌, Bool, true, false, not, ◌&&◌, ◌==◌, Option, None, Some, option_and_then, refl, sym, ◌∙◌, ap, ap₂, subst, arith, true≢false}
use Rattle.std.proofs.lemmas.Bool.{eqb-true, eqb-false}
use Rattle.std.specs.Option.{option_map}
use Rattle.bp_layout.specs.Words.{Image}
use Rattle.bp_layout.specs.Tree.{content}
use Rattle.bp_layout.specs.Inode.{attributes_of, kind_of, root_of, size_of}
use Rattle.bp_layout.specs.Directory.{EntryNames, name_at, ino_at, entry_count, is_named, slot_named, lookup_in}
use Rattle.bp_layout.specs.Paths.{Name, Path}
use Rattle.bp_layout.specs.Reached.{IsReached}
use Rattle.bp_layout.specs.Reached.IsReached.{root_directory, named}
use Rattle.bp_layout.specs.Lookup.{lookup_from, node_of, shown, if_file, file_at, find_one, are_one}
use Rattle.bp_layout.specs.Paths.Node.{dir, file}
use Rattle.bp_layout.proofs.Finding.{find-same, Finds, find-passes}

-- the reached inodes of the first image have the same kinds and entries in the second
pub record SameDirectories (old new : Image) : Type 0 where
  pub kind : (i : ℕ) → IsReached old i → kind_of new i ≡ kind_of old i
  pub count : (i : ℕ) → IsReached old i → kind_of old i ≡ 2 → entry_count new i ≡ entry_count old i
  pub ino : (i slot : ℕ) → IsReached old i → kind_of old i ≡ 2 → slot < entry_count old i → ino_at new i slot ≡ ino_at old i slot
  pub name : (i slot j : ℕ) → IsReached old i → EntryNames old i slot j → name_at new i slot ≡ name_at old i slot

-- and the same attributes and bytes
pub record SameView (old new : Image) : Type 0 where
  pub directories : SameDirectories old new
  pub attributes : (i : ℕ) → IsReached old i → attributes_of new i ≡ attributes_of old i
  pub bytes : (i : ℕ) → IsReached old i → kind_of old i ≡ 1 → content new (root_of new i) (size_of new i) ≡ content old (root_of old i) (size_of old i)

is_named-same : (old new : Image) (same : SameDirectories old new) (i slot : ℕ) (name : Name) → IsReached old i → kind_of old i ≡ 2 →
    slot < entry_count old i → is_named new i name slot ≡ is_named old i name slot
is_named-same old new same i slot name reached kind in_size = go (ino_at old i slot == 0) refl
  where
    go : (b : Bool) → (ino_at old i slot == 0) ≡ b → is_named new i name slot ≡ is_named old i name slot
    go true at = rw (same.ino i slot reached kind in_size, at) refl
    go false at =
        let named : EntryNames old i slot (ino_at old i slot) =
        record { directory = kind; in_size = in_size; ino = refl; not_empty = eqb-false _ _ at } in
        rw (same.ino i slot reached kind in_size, at, same.name i slot (ino_at old i slot) reached named) refl

lookup_in-same : (old new : Image) (same : SameDirectories old new) (i : ℕ) (name : Name) → IsReached old i → lookup_in new i name ≡ lookup_in old i name
lookup_in-same old new same i name reached = go (kind_of old i == 2) refl
  where
    at_slot : kind_of old i ≡ 2 → (found : Option ℕ) → slot_named old i name ≡ found → option_map (ino_at new i) found ≡ option_map (ino_at old i) found
    at_slot kind None e = refl
    at_slot kind (Some slot) e =
        let passes : Finds (is_named old i name) 0 (entry_count old i) slot = find-passes _ 0 _ slot e in
        ap Some (same.ino i slot reached kind (omega (arith, passes.high)))

    go : (b : Bool) → (kind_of old i == 2) ≡ b → lookup_in new i name ≡ lookup_in old i name
    go true at =
        let kind : kind_of old i ≡ 2 = eqb-true _ _ at in
        let found : slot_named new i name ≡ slot_named old i name =
        rw (same.count i reached kind) (find-same (is_named new i name) (is_named old i name) 0 (entry_count old i) (λ k low high. is_named-same old new same i k name reached kind (omega (arith, high)))) in
        rw (same.kind i reached, at, found) (at_slot kind (slot_named old i name) refl)
    go false at = rw (same.kind i reached, at) refl

pub named_true : (a : ℕ) (b : Bool) → not (a == 0) && b ≡ true → (a ≢ 0) × (b ≡ true)
named_true a b e = go (a == 0) refl
  where
    go : (c : Bool) → (a == 0) ≡ c → (a ≢ 0) × (b ≡ true)
    go true at = absurd (true≢false (sym (rw at at e)))
    go false at = (eqb-false _ _ at, rw at at e)

-- what a directory shows is reached
pub lookup_in-reached : (image : Image) (i j : ℕ) (name : Name) → IsReached image i → lookup_in image i name ≡ Some j → IsReached image j
lookup_in-reached image i j name reached e = go (kind_of image i == 2) refl
  where
    at_slot : kind_of image i ≡ 2 → (found : Option ℕ) → slot_named image i name ≡ found → option_map (ino_at image i) found ≡ Some j → IsReached image j
    at_slot kind None f is = absurd (cc)
    at_slot kind (Some slot) f is =
        let passes : Finds (is_named image i name) 0 (entry_count image i) slot = find-passes _ 0 _ slot f in
        let ino : ino_at image i slot ≡ j = cc in
        named slot reached (record {
          directory = kind;
          in_size = omega (arith, passes.high);
          ino = ino;
          not_empty = λ none. (named_true _ _ passes.passes).0 (ino ∙ none);
        })

    go : (b : Bool) → (kind_of image i == 2) ≡ b → IsReached image j
    go true at =
        let kind : kind_of image i ≡ 2 = eqb-true _ _ at in
        at_slot kind (slot_named image i name) refl (rw at at e)
    go false at = let none : ◌≡◌ {A = Option ℕ} None (Some j) = rw at at e in absurd (cc)

pub lookup_from-same : (old new : Image) (same : SameDirectories old new) (i : ℕ) (path : Path) → IsReached old i → lookup_from new i path ≡ lookup_from old i path
lookup_from-same old new same i [] reached = refl
lookup_from-same old new same i (name ∷ path) reached =
    go (λ j r. lookup_from-same old new same j path r) (lookup_in old i name) refl
  where
    go : ((j : ℕ) → IsReached old j → lookup_from new j path ≡ lookup_from old j path) → (found : Option ℕ) → lookup_in old i name ≡ found →
        option_and_then (λ j. lookup_from new j path) (lookup_in new i name) ≡ option_and_then (λ j. lookup_from old j path) (lookup_in old i name)
    go rest None e = rw (lookup_in-same old new same i name reached, e) refl
    go rest (Some j) e = rw (lookup_in-same old new same i name reached, e) (rest j (lookup_in-reached old i j name reached e))

node_of-same : (old new : Image) (same : SameView old new) (i : ℕ) → IsReached old i → node_of new i ≡ node_of old i
node_of-same old new same i reached = go (kind_of old i == 1) refl
  where
    go : (b : Bool) → (kind_of old i == 1) ≡ b → node_of new i ≡ node_of old i
    go true at = rw (same.directories.kind i reached, at) (ap₂ file (same.attributes i reached) (same.bytes i reached (eqb-true _ _ at)))
    go false at = rw (same.directories.kind i reached, at) (ap dir (same.attributes i reached))

-- what a path finds is reached
pub lookup_from-reached : (image : Image) (i j : ℕ) (path : Path) → IsReached image i → lookup_from image i path ≡ Some j → IsReached image j
lookup_from-reached image i j [] reached e = let same : i ≡ j = cc in subst (IsReached image) same reached
lookup_from-reached image i j (name ∷ path) reached e = go (λ k r f. lookup_from-reached image k j path r f) (lookup_in image i name) refl
  where
    go : ((k : ℕ) → IsReached image k → lookup_from image k path ≡ Some j → IsReached image j) → (found : Option ℕ) → lookup_in image i name ≡ found → IsReached image j
    go rest None f = let none : ◌≡◌ {A = Option ℕ} None (Some j) = rw f at e in absurd (cc)
    go rest (Some k) f = rest k (lookup_in-reached image i k name reached f) (rw f at e)

pub shown-same : (old new : Image) → SameView old new → (path : Path) → shown new path ≡ shown old path
shown-same old new same path = rw (lookup_from-same old new same.directories 1 path root_directory) (go (lookup_from old 1 path) refl)
  where
    go : (found : Option ℕ) → lookup_from old 1 path ≡ found → option_map (node_of new) found ≡ option_map (node_of old) found
    go None e = refl
    go (Some i) e = ap Some (node_of-same old new same i (lookup_from-reached old 1 i path root_directory e))

-- and which paths are one file
pub file_at-same : (old new : Image) → SameDirectories old new → (path : Path) → file_at new path ≡ file_at old path
file_at-same old new same path = rw (lookup_from-same old new same 1 path root_directory) (go (lookup_from old 1 path) refl)
  where
    go : (found : Option ℕ) → lookup_from old 1 path ≡ found → option_and_then (if_file new) found ≡ option_and_then (if_file old) found
    go None e = refl
    go (Some i) e = rw (same.kind i (lookup_from-reached old 1 i path root_directory e)) refl

pub find_one-same : (old new : Image) → SameDirectories old new → (p q : Path) → find_one new p q ≡ find_one old p q
find_one-same old new same p q = λ i. are_one (file_at-same old new same p i) (file_at-same old new same q i)
