-- What is reached after a name moved: all that was, where the directory to which it came is not below the moved inode.
use Rattle.std.proofs.Common.{◌≡◌, ◌≢◌, ◌⊎◌, ℕ, [], ◌∷◌, ◌++◌, Option, None, Some, refl, sym, ◌∙◌, ap, subst, ap₂, inl, inr}
use Rattle.bp_layout.specs.Words.{Image}
use Rattle.bp_layout.specs.Paths.{rest_below, Path}
use Rattle.bp_layout.specs.Directory.{EntryNames, name_at, ino_at, lookup_in}
use Rattle.bp_layout.specs.Lookup.{lookup, lookup_from}
use Rattle.bp_layout.specs.Inode.{IsDirectory}
use Rattle.bp_layout.specs.Reached.{IsReached}
use Rattle.bp_layout.specs.Reached.IsReached.{inode_file, root_directory, named as reaches}
use Rattle.bp_layout.specs.WellFormed.{IsWellFormed}
use Rattle.bp_layout.proofs.Below.{rest_below-append}
use Rattle.bp_layout.proofs.Paths.{lookup_from-append, path_once}
use Rattle.bp_changes.specs.Effects.{IsAtOrBelow, CarriesEntry, CanMoveEntry, MovesEntry, RespellsEntry}
use Rattle.bp_changes.specs.Effects.IsAtOrBelow.{itself, named}
use Rattle.bp_changes.proofs.Move as move
use Rattle.bp_changes.proofs.Move.Entry.{is_target, is_old}
use Rattle.bp_changes.proofs.MoveName.{lookup_from-join}
use Rattle.bp_changes.proofs.Respell as respell
use Rattle.bp_changes.proofs.SameEntries.{reached_on}
use Rattle.bp_changes.proofs.SameShown.{entry_found, this_or}

-- ---- below an inode

pub below_reached : (image : Image) (j : ℕ) → IsReached image j → (t : ℕ) → IsAtOrBelow image j t → IsReached image t
below_reached image j reached t (itself e) = subst (IsReached image) (sym e) reached
below_reached image j reached t (named {i = u} x below n) = reaches x (below_reached image j reached u below) n

-- a path from an inode to one that lies at or below it
path_below : (image : Image) → IsWellFormed image → (j : ℕ) → IsReached image j → (t : ℕ) → IsAtOrBelow image j t → (rest : Path) × (lookup_from image j rest ≡ Some t)
path_below image wf j reached t (itself e) = ([], ap Some (sym e))
path_below image wf j reached t (named {i = u} x below n) = on (path_below image wf j reached u below)
  where
    found : lookup_in image u (name_at image u x) ≡ Some t
    found = entry_found image wf u x t (below_reached image j reached u below) n

    on : (rest : Path) × (lookup_from image j rest ≡ Some u) → (rest : Path) × (lookup_from image j rest ≡ Some t)
    on above = (above.0 ++ name_at image u x ∷ [], lookup_from-append image j above.0 (name_at image u x) ∙ rw above.1 found)

-- a directory whose path is not below that of an entry is not below the entry's inode
pub outside_by_paths : (image : Image) → IsWellFormed image → (i s j k : ℕ) → IsReached image i → EntryNames image i s j → (from to : Path) →
    lookup image from ≡ Some i → lookup image to ≡ Some k → IsDirectory image k → rest_below (from ++ name_at image i s ∷ []) to ≡ None → IsAtOrBelow image j k → ⊥
outside_by_paths image wf i s j k reached names from to from_is to_is directory outside below = go (path_below image wf j (reaches s reached names) k below)
  where
    here : lookup image (from ++ name_at image i s ∷ []) ≡ Some j
    here =
        lookup_from-append image 1 from (name_at image i s) ∙ rw from_is (entry_found image wf i s j reached names)

    go : (rest : Path) × (lookup_from image j rest ≡ Some k) → ⊥
    go found =
        let joined : lookup image ((from ++ name_at image i s ∷ []) ++ found.0) ≡ Some k = lookup_from-join image 1 (from ++ name_at image i s ∷ []) found.0 ∙ rw here found.1 in
        let is : to ≡ (from ++ name_at image i s ∷ []) ++ found.0 = path_once image wf to ((from ++ name_at image i s ∷ []) ++ found.0) k to_is joined directory in
        let some : rest_below (from ++ name_at image i s ∷ []) to ≡ Some found.0 =
        ap (rest_below (from ++ name_at image i s ∷ [])) is ∙ rest_below-append (from ++ name_at image i s ∷ []) found.0 in
        let clash : ◌≡◌ {A = Option Path} None (Some found.0) = sym outside ∙ some in
        absurd (cc)

-- ---- what is reached

-- Entry (k, r) of the new image names j, which entry (i, s) of the old one named. All other entries stay, except for one that names what is gone,
-- which has no names.
module _ (old new : Image) (i s k r j : ℕ) (Gone : ℕ → Type 0) (reached : IsReached old i) (names : EntryNames old i s j) (target : IsReached old k) (entry : EntryNames new k r j)
    (alone : (u x l : ℕ) → Gone u → EntryNames old u x l → ⊥) (here : Gone k → ⊥)
    (stay : (u x l : ℕ) → IsReached old u → EntryNames old u x l → ((u ≡ i) → (x ≡ s) → ⊥) → (Gone l → ⊥) → EntryNames new u x l)
    (outside : IsAtOrBelow old j k → ⊥) where
  source_names : (u x l : ℕ) → (u ≡ i) × (x ≡ s) → EntryNames old u x l → l ≡ j
  source_names u x l at n = sym n.ino ∙ ap₂ (λ a b. ino_at old a b) at.0 at.1 ∙ names.ino

  stays_or_below : (t : ℕ) → IsReached old t → (Gone t → ⊥) → IsReached new t ⊎ IsAtOrBelow old j t
  stays_or_below _ inode_file kept = inl inode_file
  stays_or_below _ root_directory kept = inl root_directory
  stays_or_below _ (reaches {i = u} {j = l} x from n) kept = go (stays_or_below u from (λ gone. alone u x l gone n)) (this_or u x i s)
    where
      go : IsReached new u ⊎ IsAtOrBelow old j u → ((u ≡ i) × (x ≡ s)) ⊎ ((u ≡ i) → (x ≡ s) → ⊥) → IsReached new l ⊎ IsAtOrBelow old j l
      go (inr below) at = inr (named x below n)
      go (inl there) (inl at) = inr (itself (source_names u x l at n))
      go (inl there) (inr other) = inl (reaches x there (stay u x l from n other kept))

  target_stays : IsReached new k
  target_stays = go (stays_or_below k target here)
    where
      go : IsReached new k ⊎ IsAtOrBelow old j k → IsReached new k
      go (inl there) = there
      go (inr below) = absurd (outside below)

  moved_stays : IsReached new j
  moved_stays = reaches r target_stays entry

  below_stays : (t : ℕ) → IsAtOrBelow old j t → (Gone t → ⊥) → IsReached new t
  below_stays t (itself e) kept = subst (IsReached new) (sym e) moved_stays
  below_stays t (named {i = u} x below n) kept = go (below_stays u below (λ gone. alone u x t gone n)) (this_or u x i s)
    where
      go : IsReached new u → ((u ≡ i) × (x ≡ s)) ⊎ ((u ≡ i) → (x ≡ s) → ⊥) → IsReached new t
      go there (inl at) = subst (IsReached new) (sym (source_names u x t at n)) moved_stays
      go there (inr other) = reaches x there (stay u x t (below_reached old j (reaches s reached names) u below) n other kept)

  reach_stays : (t : ℕ) → IsReached old t → (Gone t → ⊥) → IsReached new t
  reach_stays t was kept = go (stays_or_below t was kept)
    where
      go : IsReached new t ⊎ IsAtOrBelow old j t → IsReached new t
      go (inl there) = there
      go (inr below) = below_stays t below kept

-- a name came to another directory
pub carried_on : (old new : Image) (i s k r j : ℕ) → CarriesEntry old new i s k r j → (IsAtOrBelow old j k → ⊥) → (t : ℕ) → IsReached old t → IsReached new t
carried_on old new i s k r j carries outside t was =
    reach_stays old new i s k r j (λ u. ⊥) carries.reached carries.names carries.target carries.entry (λ u x l never n. never) (λ never. never)
    (λ u x l q n other kept. carries.stay u x l q n other) outside t was (λ never. never)

-- a name came onto another entry
module _ (old new : Image) (wf : IsWellFormed old) (i s k r j : ℕ) (can : CanMoveEntry old i s k r j) (moves : MovesEntry old new i s k r j) (outside : IsAtOrBelow old j k → ⊥) where
  -- what that entry named
  abbrev Replaced : ℕ → Type 0
  Replaced t = (t ≢ 0) × (t ≡ ino_at old k r)

  alone : (u x l : ℕ) → Replaced u → EntryNames old u x l → ⊥
  alone u x l gone n = can.alone x l (λ e. gone.0 (gone.1 ∙ e)) (subst (λ a. EntryNames old a x l) gone.1 n)

  not_target : Replaced k → ⊥
  not_target gone = alone k r k gone (record { directory = can.directory; in_size = can.in_size; ino = sym gone.1; not_empty = gone.0 })

  stay : (u x l : ℕ) → IsReached old u → EntryNames old u x l → ((u ≡ i) → (x ≡ s) → ⊥) → (Replaced l → ⊥) → EntryNames new u x l
  stay u x l reached n other kept =
      move.names_stay old new wf i s k r j can moves u x l reached n other
      (λ e f. kept (n.not_empty, sym n.ino ∙ ap₂ (λ a b. ino_at old a b) e f))

  pub moved_on : (t : ℕ) → IsReached old t → (t ≢ 0 → t ≢ ino_at old k r) → IsReached new t
  moved_on t was kept =
      reach_stays old new i s k r j Replaced can.reached can.entry can.target (move.new_entry old new wf i s k r j can moves) alone not_target stay outside t was
      (λ gone. kept gone.0 gone.1)

  -- where no other entry names it, what it named is not reached any more
  pub replaced_not_reached : ino_at old k r ≢ 0 → ((u x : ℕ) → IsReached old u → EntryNames old u x (ino_at old k r) → (u ≡ k) × (x ≡ r)) →
      IsReached new (ino_at old k r) → ⊥
  replaced_not_reached some last now = go (ino_at old k r) now refl
    where
      target : EntryNames old k r (ino_at old k r)
      target = record { directory = can.directory; in_size = can.in_size; ino = refl; not_empty = some }

      source_is : (u x l : ℕ) → IsReached old u → EntryNames old u x l → l ≡ ino_at old k r → (u ≡ k) × (x ≡ r)
      source_is u x l q n e = last u x q (subst (EntryNames old u x) e n)

      by_entry : (u x l : ℕ) → IsReached old u → move.Entry old new wf i s k r j can moves u x l → l ≡ ino_at old k r → ⊥
      by_entry u x l q (is_target a b c) e = let at : (i ≡ k) × (s ≡ r) = source_is i s j can.reached can.entry (sym c ∙ e) in can.apart at.0 at.1
      by_entry u x l q (is_old n one two) e = let at : (u ≡ k) × (x ≡ r) = source_is u x l q n e in two at.0 at.1

      go : (t : ℕ) → IsReached new t → t ≡ ino_at old k r → ⊥
      go _ inode_file e = some (sym e)
      go _ root_directory e = wf.not_root k r (ino_at old k r) can.target target (sym e)
      go _ (reaches {i = u} {j = l} x from n) e =
          let was : IsReached old u = move.reached_back old new wf i s k r j can moves u from in
          by_entry u x l was (move.entry_of old new wf i s k r j can moves u x l was n) e

-- an entry is spelled again
pub respelled_on : (old new : Image) → IsWellFormed old → (i s j : ℕ) → RespellsEntry old new i s j → (t : ℕ) → IsReached old t → IsReached new t
respelled_on old new wf i s j spells = reached_on old new (respell.same_inos old new wf i s j spells)
