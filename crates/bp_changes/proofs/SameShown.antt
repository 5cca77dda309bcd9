-- What an entry, an inode and a directory show stays where what stands in them does.
use Rattle.std.proofs.Common.{◌≡◌, ◌⊎◌, ℕ, ◌+◌, ◌*◌, ◌/◌, ◌%◌, ◌<◌, ◌≤◌, Bool, true, false, ◌==◌, Option, None, Some, length, inl, inr}
use Rattle.std.proofs.Common.{refl, sym, ◌∙◌, ap, ap₂, arith}
use Rattle.std.proofs.lemmas.Bool.{cases_eq, eqb-true}
use Rattle.std.proofs.lemmas.List.FromFn.{length-map-range_with_len}
use Rattle.bp_limits.specs.CallLimits.{max_name}
use Rattle.bp_layout.specs.Words.{Image, byte_of}
use Rattle.bp_layout.specs.Tree.{byte}
use Rattle.bp_layout.specs.Inode.{attributes_of, kind_of, root_of, size_of}
use Rattle.bp_layout.specs.Directory.{EntryNames, entry_word, lookup_in, name_at}
use Rattle.bp_layout.specs.Paths.{Name}
use Rattle.bp_layout.specs.Reached.{IsReached}
use Rattle.bp_layout.specs.WellFormed.{IsWellFormed}
use Rattle.bp_layout.specs.Lookup.{node_of}
use Rattle.bp_layout.specs.Paths.Node.{dir, file}
use Rattle.bp_layout.proofs.Finding.{map-same}
use Rattle.bp_layout.proofs.LookupLaws.{Shows, lookup_in-found, lookup_in-none, lookup_in-shows}

-- an entry is this one or another
pub this_or : (u x i s : ℕ) → ((u ≡ i) × (x ≡ s)) ⊎ ((u ≡ i) → (x ≡ s) → ⊥)
this_or u x i s = go (cases_eq u i) (cases_eq x s)
  where
    go : (u ≡ i) ⊎ (u ≡ i → ⊥) → (x ≡ s) ⊎ (x ≡ s → ⊥) → ((u ≡ i) × (x ≡ s)) ⊎ ((u ≡ i) → (x ≡ s) → ⊥)
    go (inl e) (inl f) = inl (e, f)
    go (inl e) (inr f) = inr (λ a b. f b)
    go (inr e) f = inr (λ a b. e a)

-- an entry whose words after the inode number stay keeps its name
pub name_by_words : (old new : Image) (u x : ℕ) → length (name_at old u x) ≤ max_name →
    ((f : ℕ) → 1 ≤ f → f < 32 → entry_word new u x f ≡ entry_word old u x f) → name_at new u x ≡ name_at old u x
name_by_words old new u x few same =
    let short : entry_word old u x 1 ≤ max_name = (rw length-map-range_with_len at few) in
    let byte_stays : (o : ℕ) → o < max_name → byte new (root_of new u) (256 * x + 16 + o) ≡ byte old (root_of old u) (256 * x + 16 + o) =
    λ o small.
    let number : (256 * x + 16 + o) / 8 ≡ 32 * x + (2 + o / 8) = omega arith in
    rw number (ap (λ w. byte_of w ((256 * x + 16 + o) % 8)) (same (2 + o / 8) (omega arith) (omega (arith, small)))) in
    rw (same 1 (omega arith) (omega arith)) (map-same _ _ 0 (entry_word old u x 1) (λ o low high. byte_stays o (omega (arith, high, short))))

-- an inode of the same kind with the same attributes is the same directory, or the same file if its bytes stay
pub node_by_bytes : (old new : Image) (u : ℕ) → kind_of new u ≡ kind_of old u → attributes_of new u ≡ attributes_of old u → (kind_of old u ≡ 1 → size_of new u ≡ size_of old u) →
    ((o : ℕ) → kind_of old u ≡ 1 → o < size_of old u → byte new (root_of new u) o ≡ byte old (root_of old u) o) → node_of new u ≡ node_of old u
node_by_bytes old new u kind attributes size bytes = go (kind_of old u == 1) refl
  where
    go : (b : Bool) → (kind_of old u == 1) ≡ b → node_of new u ≡ node_of old u
    go true e =
        let is_file : kind_of old u ≡ 1 = eqb-true _ _ e in
        rw (kind, e, size is_file) (ap₂ file attributes (map-same _ _ 0 (size_of old u) (λ o low high. bytes o is_file (omega (arith, high)))))
    go false e = rw (kind, e) (ap dir attributes)

-- a name shows what an entry with it names
pub shown_found : (image : Image) → IsWellFormed image → (i j : ℕ) (name : Name) → IsReached image i → Shows image i name j → lookup_in image i name ≡ Some j
shown_found image wf i j name reached shows =
    lookup_in-found image i j name shows (λ r k n same. wf.names_once i r shows.slot k j reached n shows.entry (same ∙ sym shows.spelled))

-- so does the name of an entry
pub entry_found : (image : Image) → IsWellFormed image → (i s j : ℕ) → IsReached image i → EntryNames image i s j →
    lookup_in image i (name_at image i s) ≡ Some j
entry_found image wf i s j reached n = shown_found image wf i j (name_at image i s) reached (record { slot = s; entry = n; spelled = refl })

-- an entry that names inode j in this image too, by the same name
pub record IsKeptIn (image other : Image) (i s j : ℕ) : Type 0 where
  pub entry : EntryNames image i s j
  pub name : name_at image i s ≡ name_at other i s

-- a name whose entries are kept from each image to the other shows what it did
pub lookup_kept : (old new : Image) → IsWellFormed old → (i : ℕ) (name : Name) → IsReached old i →
    ((j : ℕ) → (shows : Shows new i name j) → IsKeptIn old new i shows.slot j) → ((j : ℕ) → (shows : Shows old i name j) → IsKeptIn new old i shows.slot j) →
    lookup_in new i name ≡ lookup_in old i name
lookup_kept old new wf i name reached back on = go (lookup_in old i name) refl
  where
    kept : (image other : Image) (j : ℕ) → (shows : Shows other i name j) → IsKeptIn image other i shows.slot j → Shows image i name j
    kept image other j shows is = record { slot = shows.slot; entry = is.entry; spelled = is.name ∙ shows.spelled }

    before : (j : ℕ) → Shows new i name j → Shows old i name j
    before j shows = kept old new j shows (back j shows)

    go : (found : Option ℕ) → lookup_in old i name ≡ found → lookup_in new i name ≡ lookup_in old i name
    go None e =
        lookup_in-none new i name (λ j shows. let found : lookup_in old i name ≡ Some j = shown_found old wf i j name reached (before j shows) in cc) ∙ sym e
    go (Some j) e =
        let was : Shows old i name j = lookup_in-shows old i j name e in
        lookup_in-found new i j name (kept new old j was (on j was)) (λ r k n same.
        let again : Shows old i name k = before k (record { slot = r; entry = n; spelled = same }) in
        wf.names_once i r was.slot k j reached again.entry was.entry (again.spelled ∙ sym was.spelled)) ∙ sym e
