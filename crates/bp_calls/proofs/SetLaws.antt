-- The sets of free numbers stay exact: over a preparation, and where the new inode is taken out.
use Rattle.std.proofs.Common.{◌≡◌, ◌≢◌, ◌⊎◌, ℕ, zero, suc, [], ◌∷◌, ◌+◌, ◌*◌, ◌<◌, ◌≤◌, Bool, true, false, length, set, None, sym, ◌∙◌, ap, subst, inl, inr, true≢false}
use Rattle.std.proofs.lemmas.Bool.{cases_eq, cases_lt}
use Rattle.std.proofs.lemmas.List.{length-set}
use Rattle.bp_free.specs.Set.{Set, has, with, without}
use Rattle.bp_free.proofs.Members.{has_without_same, has_without_other, has_past}
use Rattle.bp_layout.specs.Words.{Image}
use Rattle.bp_layout.specs.Tree.{HasBlock}
use Rattle.bp_layout.specs.Inode.{kind_of, root_of, size_of, ContentStandsAt}
use Rattle.bp_layout.specs.Directory.{slot_named}
use Rattle.bp_layout.specs.Paths.{Name, IsName}
use Rattle.bp_layout.specs.Reached.{IsReached, IsLiveBlock}
use Rattle.bp_layout.specs.WellFormed.{IsWellFormed}
use Rattle.bp_layout.specs.Free.{AreFreeBlocks, AreFreeInodes, IsFreeInode}
use Rattle.bp_layout.proofs.SmallTrees.{empty_has_none}
use Rattle.bp_changes.specs.Effects.{AddsNames, KeepsBlocks, LinksName}
use Rattle.bp_changes.proofs.AddsNames.{reached_cases, reached_stays}
use Rattle.bp_changes.proofs.LinksName as linking
use Rattle.bp_calls.specs.Entered.{IsNewInode, IsReadyEntry}
use Rattle.bp_changes.specs.Sets.{AreExact}
use Rattle.bp_calls.proofs.EnteredLaws.{entered, entered_blocks, entered_file, linked}
use Rattle.bp_calls.proofs.AfterLaws.{IsPrepared, reached_before, reached_after}

-- ---- one number less

pub length_without : (numbers : Set) (i : ℕ) → length (without numbers i) ≡ length numbers
length_without numbers i = length-set numbers i false

-- a number that is taken out and put back
pub put_back : (numbers : Set) (i : ℕ) → has numbers i ≡ true → with (without numbers i) i ≡ numbers
put_back [] i is = absurd (true≢false (sym is))
put_back (x ∷ xs) zero is = ap (λ b. b ∷ xs) (sym is)
put_back (x ∷ xs) (suc i) is = ap (λ ys. x ∷ ys) (put_back xs i is)

-- what is in lies below the room
pub in_room : (numbers : Set) (i : ℕ) → has numbers i ≡ true → i < length numbers
in_room numbers i there = go (cases_lt i (length numbers))
  where
    go : (i < length numbers) ⊎ (length numbers ≤ i) → i < length numbers
    go (inl low) = low
    go (inr past) = absurd (true≢false (sym there ∙ has_past numbers i past))

-- what is still in is another number, and was in
pub still_in : (numbers : Set) (i k : ℕ) → has numbers i ≡ true → has (without numbers i) k ≡ true → (k ≢ i) × (has numbers k ≡ true)
still_in numbers i k there is = go (cases_eq k i)
  where
    go : (k ≡ i) ⊎ (k ≡ i → ⊥) → (k ≢ i) × (has numbers k ≡ true)
    go (inl same) = absurd (true≢false (sym is ∙ ap (has (without numbers i)) same ∙ has_without_same numbers i (in_room numbers i there)))
    go (inr other) = (other, sym (has_without_other numbers i k other) ∙ is)

-- ---- free numbers

pub free_blocks_stay : {in_snapshot : ℕ → Bool} (old new : Image) (numbers : ℕ → Bool) → length new ≡ length old → ((b : ℕ) → IsLiveBlock new b → IsLiveBlock old b) → ((b : ℕ) → IsLiveBlock old b → IsLiveBlock new b) →
    AreFreeBlocks old in_snapshot numbers → AreFreeBlocks new in_snapshot numbers
free_blocks_stay old new numbers whole back stay are = record {
  free = λ b is. let free = are.free b is in record { low = free.low; high = rw whole free.high; free = λ live. free.free (back b live); loose = free.loose };
  all = λ b free. are.all b (record { low = free.low; high = rw whole at free.high; free = λ live. free.free (stay b live); loose = free.loose });
}

pub free_inodes_stay : (old new : Image) (numbers : ℕ → Bool) → size_of new 0 ≡ size_of old 0 → ((t : ℕ) → IsReached new t → IsReached old t) → ((t : ℕ) → IsReached old t → IsReached new t) →
    AreFreeInodes old numbers → AreFreeInodes new numbers
free_inodes_stay old new numbers bytes back stay are = record {
  free = λ t is. let free : IsFreeInode old t = are.free t is in record { low = free.low; high = rw bytes free.high; free = λ reached. free.free (back t reached) };
  all = λ t free. are.all t (record { low = free.low; high = rw bytes at free.high; free = λ reached. free.free (stay t reached) });
}

pub free_inodes_taken : (old new : Image) (numbers : Set) (taken : ℕ) → size_of new 0 ≡ size_of old 0 → has numbers taken ≡ true → IsReached new taken →
    ((t : ℕ) → IsReached new t → (t ≡ taken) ⊎ IsReached old t) → ((t : ℕ) → IsReached old t → IsReached new t) → AreFreeInodes old (has numbers) → AreFreeInodes new (has (without numbers taken))
free_inodes_taken old new numbers taken bytes there here cases stay are = record { free = free_now; all = all_now }
  where
    free_now : (t : ℕ) → has (without numbers taken) t ≡ true → IsFreeInode new t
    free_now t is =
        let still : (t ≢ taken) × (has numbers t ≡ true) = still_in numbers taken t there is in
        let free : IsFreeInode old t = are.free t still.1 in
        record { low = free.low; high = rw bytes free.high; free = λ reached. elim (cases t reached) [ inl same ↦ still.0 same | inr before ↦ free.free before ] }

    all_now : (t : ℕ) → IsFreeInode new t → has (without numbers taken) t ≡ true
    all_now t free =
        has_without_other numbers taken t (λ same. free.free (subst (IsReached new) (sym same) here))
        ∙ are.all t (record { low = free.low; high = rw bytes at free.high; free = λ reached. free.free (stay t reached) })

-- ---- over a preparation

-- where what is reached is what it was, and each tree has the blocks that it had
pub exact_kept : {in_snapshot : ℕ → Bool} (old new : Image) → length new ≡ length old → size_of new 0 ≡ size_of old 0 → ((t : ℕ) → IsReached new t → IsReached old t) → ((t : ℕ) → IsReached old t → IsReached new t) → KeepsBlocks old new →
    (blocks inodes : Set) → AreExact old in_snapshot blocks inodes → AreExact new in_snapshot blocks inodes
exact_kept old new whole same_file back stay keeps blocks inodes exact = record {
  block_room = rw whole exact.block_room;
  inode_room = rw whole exact.inode_room;
  free_blocks = free_blocks_stay old new (has blocks) whole
      (λ b live. record { tree = live.tree; reached = back live.tree live.reached; has = keeps.back live.tree b (back live.tree live.reached) live.has })
      (λ b live. record { tree = live.tree; reached = stay live.tree live.reached; has = keeps.stay live.tree b live.reached live.has }) exact.free_blocks;
  free_inodes = free_inodes_stay old new (has inodes) same_file back stay exact.free_inodes;
}

pub exact_prepared : {in_snapshot : ℕ → Bool} (old new : Image) → IsWellFormed old → IsPrepared old new → (blocks inodes : Set) → AreExact old in_snapshot blocks inodes → AreExact new in_snapshot blocks inodes
exact_prepared old new wf prepared = exact_kept old new prepared.meaning.trees.whole prepared.inode_bytes (reached_before old new wf prepared) (reached_after old new wf prepared) prepared.blocks

-- ---- over one more name

module _ {in_snapshot : ℕ → Bool} (old new : Image) (wf : IsWellFormed old) (i s j : ℕ) (adds : AddsNames old new i s j) (blocks inodes : Set) (exact : AreExact old in_snapshot blocks inodes) (free : IsFreeInode old j) (same_file : size_of new 0 ≡ size_of old 0) where
  no_new_block : (t b : ℕ) → t ≡ j → HasBlock new (root_of new t) (size_of new t) b → ⊥
  no_new_block t b e has = empty_has_none new (root_of new t) b (rw (ap (size_of new) e ∙ adds.new_size) at has)

  -- a live block, by the tree that has it
  live_cases : (Other : ℕ → Type 0) → ((t b : ℕ) → IsReached old t → HasBlock new (root_of new t) (size_of new t) b → Other b ⊎ IsLiveBlock old b) → (b : ℕ) → IsLiveBlock new b → Other b ⊎ IsLiveBlock old b
  live_cases Other before b live = go (reached_cases old new wf i s j adds live.tree live.reached)
    where
      go : (live.tree ≡ j) ⊎ IsReached old live.tree → Other b ⊎ IsLiveBlock old b
      go (inl e) = absurd (no_new_block live.tree b e live.has)
      go (inr reached) = before live.tree b reached live.has

  live_stays : ((t b : ℕ) → IsReached old t → HasBlock old (root_of old t) (size_of old t) b → HasBlock new (root_of new t) (size_of new t) b) → (b : ℕ) → IsLiveBlock old b → IsLiveBlock new b
  live_stays stay b live = record { tree = live.tree; reached = reached_stays old new wf i s j adds live.tree live.reached; has = stay live.tree b live.reached live.has }

  inodes_taken : AreFreeInodes new (has (without inodes j))
  inodes_taken =
      free_inodes_taken old new inodes j same_file (exact.free_inodes.all j free) (IsReached.named s (reached_stays old new wf i s j adds i adds.reached) adds.entry)
      (reached_cases old new wf i s j adds) (reached_stays old new wf i s j adds) exact.free_inodes

  pub exact_added : KeepsBlocks old new → AreExact new in_snapshot blocks (without inodes j)
  exact_added keeps = record {
    block_room = rw adds.trees.whole exact.block_room;
    inode_room = rw adds.trees.whole (length_without inodes j ∙ exact.inode_room);
    free_blocks = free_blocks_stay old new (has blocks) adds.trees.whole
        (λ b live. elim (live_cases (λ x. ⊥) (λ t x reached has. inr (record { tree = t; reached = reached; has = keeps.back t x reached has })) b live) [ inl never ↦ absurd never | inr before ↦ before ])
        (live_stays keeps.stay) exact.free_blocks;
    free_inodes = inodes_taken;
  }

-- an inode number came into a ready entry: of an inode that was free, or of a file that has a name
module _ {in_snapshot : ℕ → Bool} (old : Image) (wf : IsWellFormed old) (i s j place : ℕ) (name : Name) (ready : IsReadyEntry old i s name) (form : IsName name) (missing : slot_named old i name ≡ None)
    (stands : ContentStandsAt old i (32 * s + 0) place) (blocks inodes : Set) (exact : AreExact old in_snapshot blocks inodes) where
  pub exact_entered : (kind : ℕ) → IsNewInode old j kind → AreExact (set old place j) in_snapshot blocks (without inodes j)
  exact_entered kind fresh =
      exact_added old (set old place j) wf i s j (entered old wf i s j place name ready form missing stands kind fresh).adds blocks inodes exact fresh.free
      (entered_file old wf i s j place name ready form missing stands) (entered_blocks old wf i s j place name ready form missing stands)

  pub exact_linked : IsReached old j → kind_of old j ≡ 1 → AreExact (set old place j) in_snapshot blocks inodes
  exact_linked there file =
      exact_kept old (set old place j) links.trees.whole links.inode_bytes (linking.reached_back old (set old place j) wf i s j links) (linking.reached_stays old (set old place j) wf i s j links)
      (entered_blocks old wf i s j place name ready form missing stands) blocks inodes exact
    where
      links : LinksName old (set old place j) i s j
      links = (linked old wf i s j place name ready form missing stands there file).adds
