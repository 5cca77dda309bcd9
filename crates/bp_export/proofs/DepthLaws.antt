-- A directory has a path that is too long where one begins with one of its entries.
use Rattle.std.proofs.Common.{◌≡◌, ◌≢◌, ◌↔◌, ℕ, ◌+◌, ◌-◌, ◌*◌, ◌<◌, ◌≤◌, min, [], ◌∷◌, length, nat_lt, Bool, true, false, Option, None, Some, option_and_then, option_map, refl, sym, ◌∙◌, ap, subst, arith, length-append}
use Rattle.std.specs.Prelude.{IsTrue}
use Rattle.std.specs.FinMap.{get}
use Rattle.std.proofs.lemmas.Bool.{ltb-false, ltb-true}
use Rattle.bp_limits.specs.CallLimits.{max_path}
use Rattle.bp_layout.specs.Directory.{EntryNames, entry_count, ino_at, lookup_in, name_at}
use Rattle.bp_layout.specs.Paths.{Name, Node, Path}
use Rattle.bp_layout.specs.Inode.{kind_of}
use Rattle.bp_layout.specs.Lookup.{lookup, lookup_from, node_of}
use Rattle.bp_layout.specs.Reached.{IsReached}
use Rattle.bp_layout.specs.WellFormed.{IsWellFormed}
use Rattle.bp_layout.specs.Words.{Image}
use Rattle.bp_layout.proofs.LookupLaws.{Shows, lookup_in-found, lookup_in-shows}
use Rattle.bp_layout.proofs.Paths.{Through, and_then-through}
use Rattle.bp_plain.specs.Export.{HasShortPaths, path_text}
use Rattle.bp_plain.specs.PlainTree.{FileTree}
use Rattle.bp_plain.specs.Stands.{Stands}
use Rattle.bp_export.specs.Depth.{HasLongEntry, HasLongPath, IsLongEntry}

-- a name adds a `/` and its bytes
text_more : (name : Name) (path : Path) → length (path_text (name ∷ path)) ≡ length name + 1 + length (path_text path)
text_more name path = omega (arith, length-append (47 ∷ name) (path_text path))

-- ---- the entries of a directory

-- an inode that is no directory has no path below it
pub none_below : (image : Image) (j : ℕ) (name : Name) (path : Path) (found : ℕ) → (kind_of image j ≡ 2 → ⊥) → lookup_from image j (name ∷ path) ≡ Some found → ⊥
none_below image j name path found other finds =
    let through : Through (λ k. lookup_from image k path) (lookup_in image j name) found = and_then-through _ (lookup_in image j name) found finds in
    other (lookup_in-shows image j through.middle name through.before).entry.directory

module _ (image : Image) (wf : IsWellFormed image) (i : ℕ) (reached : IsReached image i) (kind : kind_of image i ≡ 2) where
  -- what a name finds
  finds_name : (slot : ℕ) → slot < entry_count image i → ino_at image i slot ≢ 0 → lookup_in image i (name_at image i slot) ≡ Some (ino_at image i slot)
  finds_name slot low some =
      let here : EntryNames image i slot (ino_at image i slot) = record { directory = kind; in_size = low; ino = refl; not_empty = some } in
      lookup_in-found image i (ino_at image i slot) (name_at image i slot) (record { slot = slot; entry = here; spelled = refl })
      (λ r k names spelled. wf.names_once i r slot k (ino_at image i slot) reached names here spelled)

  pub path_from_entry : (left : ℕ) → HasLongEntry image i 0 (entry_count image i) left → HasLongPath image i left
  path_from_entry left has = record {
    path = name_at image i has.slot ∷ has.is.path;
    found = has.is.found;
    finds = ap (option_and_then (λ j. lookup_from image j has.is.path)) (finds_name has.slot (omega (arith, has.high)) has.is.some) ∙ has.is.finds;
    long = has.is.long;
  }

pub entry_from_path : (image : Image) (i left : ℕ) → HasLongPath image i left → HasLongEntry image i 0 (entry_count image i) left
entry_from_path image i left has = go has.path has.finds has.long
  where
    go : (path : Path) → lookup_from image i path ≡ Some has.found → left < length (path_text path) → HasLongEntry image i 0 (entry_count image i) left
    go [] finds long = absurd (omega (arith, long))
    go (name ∷ path) finds long =
        let through : Through (λ k. lookup_from image k path) (lookup_in image i name) has.found = and_then-through _ (lookup_in image i name) has.found finds in
        let shows : Shows image i name through.middle = lookup_in-shows image i through.middle name through.before in
        record {
          slot = shows.slot;
          low = omega arith;
          high = omega (arith, shows.entry.in_size);
          is = record {
            some = λ none. shows.entry.not_empty (sym shows.entry.ino ∙ none);
            path = path;
            found = has.found;
            finds = ap (λ j. lookup_from image j path) shows.entry.ino ∙ through.after;
            long = omega (arith, long, ap (λ n. length (path_text (n ∷ path))) shows.spelled);
          };
        }

-- ---- one entry

module _ (image : Image) (i slot left : ℕ) where
  abbrev named : ℕ
  named = ino_at image i slot

  -- its name alone is too long
  pub long_name : named ≢ 0 → left < length (name_at image i slot) + 1 → IsLongEntry image i slot left
  long_name some long = record {
    some = some;
    path = [];
    found = named;
    finds = refl;
    long = omega (arith, long, text_more (name_at image i slot) []);
  }

  -- else a path below it is, where it names a directory
  pub not_file : (kind_of image named ≡ 2 → ⊥) → length (name_at image i slot) + 1 ≤ left → IsLongEntry image i slot left → ⊥
  not_file other short is = go is.path is.finds is.long
    where
      go : (path : Path) → lookup_from image named path ≡ Some is.found → left < length (path_text (name_at image i slot ∷ path)) → ⊥
      go [] finds long = omega (arith, long, short, text_more (name_at image i slot) [])
      go (name ∷ path) finds long = none_below image named name path is.found other finds

  pub long_below : named ≢ 0 → length (name_at image i slot) + 1 ≤ left → HasLongPath image named (left - (length (name_at image i slot) + 1)) → IsLongEntry image i slot left
  long_below some short has = record {
    some = some;
    path = has.path;
    found = has.found;
    finds = has.finds;
    long = omega (arith, has.long, short, text_more (name_at image i slot) has.path);
  }

  pub below_long : length (name_at image i slot) + 1 ≤ left → IsLongEntry image i slot left → HasLongPath image named (left - (length (name_at image i slot) + 1))
  below_long short is = record {
    path = is.path;
    found = is.found;
    finds = is.finds;
    long = omega (arith, is.long, short, text_more (name_at image i slot) is.path);
  }

-- ---- entries in a row

module _ (image : Image) (i left : ℕ) where
  pub none_yet : (first : ℕ) → HasLongEntry image i first 0 left → ⊥
  none_yet first has = omega (arith, has.low, has.high)

  -- one entry more, that is not long
  pub none_more : (first count : ℕ) → (HasLongEntry image i first count left → ⊥) → (IsLongEntry image i (first + count) left → ⊥) → HasLongEntry image i first (count + 1) left → ⊥
  none_more first count before here has = go (nat_lt has.slot (first + count)) refl
    where
      go : (b : Bool) → nat_lt has.slot (first + count) ≡ b → ⊥
      go true low = before (record { slot = has.slot; low = has.low; high = ltb-true _ _ low; is = has.is })
      go false high =
          let last : has.slot ≡ first + count = omega (arith, has.high, ltb-false _ _ high) in
          here (subst (λ s. IsLongEntry image i s left) last has.is)

  -- the entries of one leaf more
  pub leaf_more : (leaf total : ℕ) → 16 * leaf < total → (HasLongEntry image i 0 (min (16 * leaf) total) left → ⊥) → (HasLongEntry image i (16 * leaf) (min 16 (total - 16 * leaf)) left → ⊥) →
      HasLongEntry image i 0 (min (16 * (leaf + 1)) total) left → ⊥
  leaf_more leaf total live before here has = go (nat_lt has.slot (16 * leaf)) refl
    where
      go : (b : Bool) → nat_lt has.slot (16 * leaf) ≡ b → ⊥
      go true low = before (record { slot = has.slot; low = has.low; high = omega (arith, ltb-true _ _ low, live); is = has.is })
      go false high = here (record { slot = has.slot; low = omega (arith, ltb-false _ _ high); high = omega (arith, has.high, ltb-false _ _ high, live); is = has.is })

  -- empty entries
  pub none_empty : (first count : ℕ) → ((slot : ℕ) → first ≤ slot → slot < first + count → ino_at image i slot ≡ 0) → HasLongEntry image i first count left → ⊥
  none_empty first count empty has = has.is.some (empty has.slot has.low has.high)

  -- a row of the entries
  pub long_inside : (first count total : ℕ) → first + count ≤ total → HasLongEntry image i first count left → HasLongEntry image i 0 total left
  long_inside first count total within has = record { slot = has.slot; low = omega arith; high = omega (arith, has.high, within); is = has.is }

-- ---- a whole tree

module _ (image : Image) (tree : FileTree) (stands : Stands image tree) where
  shown_at : (path : Path) (found : ℕ) → lookup image path ≡ Some found → get tree.now.nodes path ≡ Some (node_of image found)
  shown_at path found finds = stands.now.shows path ∙ ap (option_map (node_of image)) finds

  deep_if_long : HasLongPath image 1 max_path → HasShortPaths tree → ⊥
  deep_if_long has short = omega (arith, has.long, short has.path (node_of image has.found) (shown_at has.path has.found has.finds))

  pub short_if_none : (HasLongPath image 1 max_path → ⊥) → HasShortPaths tree
  short_if_none none path node at = go (lookup image path) refl
    where
      low : (found : ℕ) → lookup image path ≡ Some found → (b : Bool) → nat_lt max_path (length (path_text path)) ≡ b → length (path_text path) ≤ max_path
      low found finds true long = absurd (none (record { path = path; found = found; finds = finds; long = ltb-true _ _ long }))
      low found finds false long = omega (arith, ltb-false _ _ long)

      go : (o : Option ℕ) → lookup image path ≡ o → length (path_text path) ≤ max_path
      go None nothing =
          let wrong : ◌≡◌ {A = Option Node} None (Some node) = sym (stands.now.shows path ∙ ap (option_map (node_of image)) nothing) ∙ at in absurd (cc)
      go (Some found) finds = low found finds (nat_lt max_path (length (path_text path))) refl

  -- a test for a long path below the root shows whether some path can't be spelled
  pub deep_where_long : (b : Bool) → (IsTrue b ↔ HasLongPath image 1 max_path) → (IsTrue b ↔ (HasShortPaths tree → ⊥))
  deep_where_long true reports = (λ yes. deep_if_long (reports.0 yes), λ deep. refl)
  deep_where_long false reports = (λ yes. absurd (cc), λ deep. absurd (deep (short_if_none (λ has. let yes = reports.1 has in absurd (cc)))))
