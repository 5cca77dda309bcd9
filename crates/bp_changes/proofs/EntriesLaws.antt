-- Entries stay through each change, but those that it touches.
use Rattle.std.proofs.Common.{◌≡◌, ◌≢◌, ◌⊎◌, ℕ, ◌/◌, ◌<◌, refl, sym, ◌∙◌, ap, subst, arith, inl, inr}
use Rattle.std.proofs.lemmas.Bool.{cases_eq}
use Rattle.bp_layout.specs.Words.{Image}
use Rattle.bp_layout.specs.Inode.{IsDirectory, inode_count, kind_of, size_of}
use Rattle.bp_layout.specs.Directory.{EntryNames, entry_count, entry_word, ino_at, name_at}
use Rattle.bp_layout.specs.Reached.{IsReached}
use Rattle.bp_layout.specs.WellFormed.{IsWellFormed}
use Rattle.bp_layout.proofs.Reached.{reached-in_file}
use Rattle.bp_layout.proofs.View.{SameDirectories}
use Rattle.bp_changes.specs.Effects.{AddsNames, CanMoveEntry, CanUnlink, CarriesEntry, IsNewEntry, IsOldEntry, LinksName, MovesEntry, RemovesEntry, RespellsEntry, SetsIno}
use Rattle.bp_changes.specs.KeepsEntries.{KeepsEntries, NoSlot, OneSlot, TwoSlots, WasEntry}
use Rattle.bp_changes.proofs.AddsNames as adding
use Rattle.bp_changes.proofs.Carry as carry
use Rattle.bp_changes.proofs.GainsEntry.{GainsEntry, adds_gain, links_gain}
use Rattle.bp_changes.proofs.LinksName as linking
use Rattle.bp_changes.proofs.Move as move
use Rattle.bp_changes.proofs.Respell as respell
use Rattle.bp_changes.proofs.Unlink as unlink
use Rattle.bp_changes.proofs.SameEntries.{reached_back}
use Rattle.bp_changes.proofs.SameShown.{name_by_words}

-- ---- one entry that both images have

module _ (old new : Image) (u r : ℕ) (reached : IsReached old u) (directory : IsDirectory old u) (low : r < entry_count old u) where
  entry_named : ino_at old u r ≢ 0 → EntryNames old u r (ino_at old u r)
  entry_named some = record { directory = directory; in_size = low; ino = refl; not_empty = some }

  -- its inode number is the same, and its name where it names an inode
  was_entry : ino_at new u r ≡ ino_at old u r → (EntryNames old u r (ino_at old u r) → name_at new u r ≡ name_at old u r) → WasEntry old new u r
  was_entry ino name = record {
    reached = reached;
    directory = directory;
    in_size = low;
    same = record { ino = ino; name = λ some. name (entry_named (λ none. some (ino ∙ none))) };
  }

  -- so are its words
  by_words : IsWellFormed old → ino_at new u r ≡ ino_at old u r →
      ((f : ℕ) → EntryNames old u r (ino_at old u r) → f < 32 → entry_word new u r f ≡ entry_word old u r f) → WasEntry old new u r
  by_words wf ino words =
      was_entry ino (λ n. name_by_words old new u r (wf.names u r (ino_at old u r) reached n).short (λ f some few. words f n few))

  -- in both images it names the same inodes: so where it is empty in one, it is in the other
  module _ (now : IsDirectory new u) (high : r < entry_count new u) (stay : (k : ℕ) → EntryNames old u r k → EntryNames new u r k) (back : (k : ℕ) → EntryNames new u r k → EntryNames old u r k) where
    ino_stays : (ino_at new u r ≡ 0) ⊎ (ino_at new u r ≡ 0 → ⊥) → (ino_at old u r ≡ 0) ⊎ (ino_at old u r ≡ 0 → ⊥) → ino_at new u r ≡ ino_at old u r
    ino_stays (inr some) was =
        let before : EntryNames old u r (ino_at new u r) = back (ino_at new u r) (record { directory = now; in_size = high; ino = refl; not_empty = some }) in
        sym before.ino
    ino_stays (inl none) (inr some) = let after : EntryNames new u r (ino_at old u r) = stay (ino_at old u r) (entry_named some) in after.ino
    ino_stays (inl none) (inl also) = none ∙ sym also

    by_names : (EntryNames old u r (ino_at old u r) → name_at new u r ≡ name_at old u r) → WasEntry old new u r
    by_names name = was_entry (ino_stays (cases_eq (ino_at new u r) 0) (cases_eq (ino_at old u r) 0)) name

-- so where all inodes keep their kinds and their sizes
by_sizes : (old new : Image) → IsWellFormed old → ((t : ℕ) → t < inode_count old → kind_of new t ≡ kind_of old t) →
    ((t : ℕ) → t < inode_count old → size_of new t ≡ size_of old t) → (u r : ℕ) → IsReached old u → IsDirectory new u → r < entry_count new u →
    (IsDirectory old u → r < entry_count old u → ino_at new u r ≡ ino_at old u r) →
    ((f : ℕ) → EntryNames old u r (ino_at old u r) → f < 32 → entry_word new u r f ≡ entry_word old u r f) → WasEntry old new u r
by_sizes old new wf kinds sizes u r was now low ino words = by_words old new u r was directory in_old wf (ino directory in_old) words
  where
    in_file : u < inode_count old
    in_file = reached-in_file old wf u was

    directory : kind_of old u ≡ 2
    directory = sym (kinds u in_file) ∙ now

    in_old : r < entry_count old u
    in_old = subst (λ z. r < z / 256) (sizes u in_file) low

-- ---- no entry changes

module _ (old new : Image) (same : SameDirectories old new) where
  directory_back : (u : ℕ) → IsReached old u → IsDirectory new u → kind_of old u ≡ 2
  directory_back u reached now = sym (same.kind u reached) ∙ now

  slot_back : (u r : ℕ) → IsReached old u → IsDirectory new u → r < entry_count new u → r < entry_count old u
  slot_back u r reached now low = subst (λ n. r < n) (same.count u reached (directory_back u reached now)) low

  was_reached : (t : ℕ) → IsReached new t → IsReached old t
  was_reached = reached_back old new (record { kind = same.kind; count = same.count; ino = same.ino })

  pub directories_keep_entries : KeepsEntries old new NoSlot
  directories_keep_entries u r now directory low apart =
      let was : IsReached old u = was_reached u now in
      let kind : kind_of old u ≡ 2 = directory_back u was directory in
      let small : r < entry_count old u = slot_back u r was directory low in
      was_entry old new u r was kind small (same.ino u r was kind small) (λ n. same.name u r (ino_at old u r) was n)

-- ---- a name more

module _ (old new : Image) (i s j : ℕ) (gains : GainsEntry old new i s j) (u r : ℕ) (reached : IsReached old u) (now : IsDirectory new u) (low : r < entry_count new u) (apart : OneSlot i s u r → ⊥) where
  gained_directory : kind_of old u ≡ 2
  gained_directory = sym (gains.kind u reached) ∙ now

  gained_low : (r < entry_count old u) ⊎ ((u ≡ i) × (r ≡ s)) → r < entry_count old u
  gained_low (inl small) = small
  gained_low (inr at) = absurd (apart at)

  gained_back : (k : ℕ) → IsNewEntry i s j u r k ⊎ EntryNames old u r k → EntryNames old u r k
  gained_back k (inl fresh) = absurd (apart (fresh.directory, fresh.slot))
  gained_back k (inr n) = n

  was_there : WasEntry old new u r
  was_there =
      by_names old new u r reached gained_directory (gained_low (gains.slots u r reached gained_directory low)) now low
      (λ k n. gains.stay u r k reached n) (λ k n. gained_back k (gains.back u r k reached n)) (λ n. gains.same_names u r (ino_at old u r) reached n)

-- of an inode that had none: it is a file, or a directory without entries
pub adds_keeps_entries : (old new : Image) → IsWellFormed old → (i s j : ℕ) → AddsNames old new i s j → KeepsEntries old new (OneSlot i s)
adds_keeps_entries old new wf i s j adds u r reached now low apart = go (adding.reached_cases old new wf i s j adds u reached)
  where
    go : (u ≡ j) ⊎ IsReached old u → WasEntry old new u r
    go (inl e) = let in_size : r < size_of new u / 256 = low in absurd (omega (arith, in_size, ap (size_of new) e ∙ adds.new_size))
    go (inr was) = was_there old new i s j (adds_gain old new i s j adds) u r was now low apart

-- of a file that has one
pub links_keeps_entries : (old new : Image) → IsWellFormed old → (i s j : ℕ) → LinksName old new i s j → KeepsEntries old new (OneSlot i s)
links_keeps_entries old new wf i s j links u r reached now low apart =
    was_there old new i s j (links_gain old new i s j links) u r (linking.reached_back old new wf i s j links u reached) now low apart

-- ---- an inode number

-- of which nothing new is reached
pub sets_keeps_entries : (old new : Image) → IsWellFormed old → (i s value : ℕ) → SetsIno old new i s value → ((u : ℕ) → IsReached new u → IsReached old u) → KeepsEntries old new (OneSlot i s)
sets_keeps_entries old new wf i s value sets before u r reached now low apart =
    by_sizes old new wf sets.kind sets.size u r was now low
    (λ kind small. sets.entry u r 0 was kind small (omega arith) (λ e same. apart (sym e, omega (arith, same))))
    (λ f n few. sets.entry u r f was n.directory n.in_size few (λ e same. apart (sym e, omega (arith, same, few))))
  where
    was : IsReached old u
    was = before u reached

-- a name fewer: other names of a file stay
pub removes_keeps_entries : (old new : Image) → IsWellFormed old → (i s j : ℕ) → CanUnlink old i s j → RemovesEntry old new i s → KeepsEntries old new (OneSlot i s)
removes_keeps_entries old new wf i s j can removes = sets_keeps_entries old new wf i s 0 removes (unlink.reached_back old new wf i s j can removes)

-- ---- a name moved

pub moves_keeps_entries : (old new : Image) → IsWellFormed old → (i s k r j : ℕ) → CanMoveEntry old i s k r j → MovesEntry old new i s k r j → KeepsEntries old new (TwoSlots i s k r)
moves_keeps_entries old new wf i s k r j can moves u x reached now low apart =
    by_sizes old new wf moves.kind moves.size u x was now low
    (λ kind small. moves.entry u x 0 was kind small (omega arith)
    (λ e same. apart (inl (sym e, omega (arith, same)))) (λ e same. apart (inr (sym e, omega (arith, same)))))
    (λ f n few. moves.entry u x f was n.directory n.in_size few
    (λ e same. apart (inl (sym e, omega (arith, same, few)))) (λ e same. apart (inr (sym e, omega (arith, same, few)))))
  where
    was : IsReached old u
    was = move.reached_back old new wf i s k r j can moves u reached

pub respells_keeps_entries : (old new : Image) → IsWellFormed old → (i s j : ℕ) → RespellsEntry old new i s j → KeepsEntries old new (OneSlot i s)
respells_keeps_entries old new wf i s j spells u r reached now low apart =
    by_sizes old new wf spells.kind spells.size u r was now low (spells.ino u r was)
    (λ f n few. spells.entry u r (ino_at old u r) f was n few (λ e same. apart (e, same)))
  where
    was : IsReached old u
    was = respell.reached_back old new wf i s j spells u reached

pub carries_keeps_entries : (old new : Image) → IsWellFormed old → (i s k r j : ℕ) → CarriesEntry old new i s k r j → KeepsEntries old new (TwoSlots i s k r)
carries_keeps_entries old new wf i s k r j carries u x reached now low apart =
    by_names old new u x was directory (in_old (cases_eq u k)) now low (λ l n. carries.stay u x l was n not_source) (λ l n. back l (carries.back u x l was n))
    (λ n. carries.same_names u x (ino_at old u x) was n not_source)
  where
    was : IsReached old u
    was = carry.reached_back old new wf i s k r j carries u reached

    directory : kind_of old u ≡ 2
    directory = sym (carries.kind u was) ∙ now

    not_source : (u ≡ i) → (x ≡ s) → ⊥
    not_source e f = apart (inl (e, f))

    in_target : u ≡ k → (x < entry_count old k) ⊎ (x ≡ r) → x < entry_count old u
    in_target e (inl small) = subst (λ v. x < entry_count old v) (sym e) small
    in_target e (inr at) = absurd (apart (inr (e, at)))

    in_old : (u ≡ k) ⊎ (u ≡ k → ⊥) → x < entry_count old u
    in_old (inl e) = in_target e (carries.slots x (subst (λ v. x < entry_count new v) e low))
    in_old (inr other) = subst (λ z. x < z / 256) (carries.size u was other) low

    back : (l : ℕ) → IsNewEntry k r j u x l ⊎ IsOldEntry old i s u x l → EntryNames old u x l
    back l (inl fresh) = absurd (apart (inr (fresh.directory, fresh.slot)))
    back l (inr n) = n.before

-- ---- two changes, and more that may be touched

pub keeps_more : (old new : Image) (Fewer More : ℕ → ℕ → Type 0) → KeepsEntries old new Fewer → ((i slot : ℕ) → Fewer i slot → More i slot) → KeepsEntries old new More
keeps_more old new Fewer More keeps more i slot reached now low apart = keeps i slot reached now low (λ touched. apart (more i slot touched))
