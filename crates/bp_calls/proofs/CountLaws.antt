-- The parts stay exact over a call, where their sets do: how many names inodes have, and what the number of an inode's names describes one of them.
use Rattle.std.proofs.Common.{◌≡◌, ◌≢◌, ◌⊎◌, ℕ, ◌*◌, ◌/◌, ◌<◌, ◌≤◌, List, [], ◌∷◌, length, sym, ◌∙◌, ap, subst, arith, inl, inr}
use Rattle.std.proofs.lemmas.Bool.{cases_eq}
use Rattle.bp_changes.specs.Effects.{ChangesFile, HasOtherName, IsLastName}
use Rattle.bp_changes.specs.KeepsDirectories.{KeepsDirectories}
use Rattle.bp_changes.specs.SameMeaning.{SameMeaning}
use Rattle.bp_changes.proofs.ChangesFile as changed
use Rattle.bp_changes.proofs.Named.{changed_counts, meaning_counts}
use Rattle.bp_free.specs.Set.{Set, has}
use Rattle.bp_free.specs.declared.parts.Parts.{Parts}
use Rattle.bp_layout.specs.Directory.{EntryNames}
use Rattle.bp_layout.specs.Members.{AreApart, Each, Has}
use Rattle.bp_layout.specs.Names.{AreCounts, HasNames, IsNamed}
use Rattle.bp_layout.specs.Inode.{inode_count, root_of, size_of}
use Rattle.bp_layout.specs.Reached.{IsReached}
use Rattle.bp_layout.specs.Reached.IsReached.{inode_file}
use Rattle.bp_layout.specs.WellFormed.{IsWellFormed}
use Rattle.bp_layout.specs.Words.{Image, block_count}
use Rattle.bp_layout.proofs.FewLeaves.{few_inodes}
use Rattle.bp_layout.proofs.Reached.{reached-in_file}
use Rattle.bp_changes.specs.Sets.{AreExact, IsExact, in_snapshot_of}

-- ---- the parts

module _ {R : Type 0} (old new : Image) (before after : Parts R) (exact : IsExact old before) (sets : AreExact new (in_snapshot_of before) after.free_blocks after.free_inodes) (snapshot_blocks : after.snapshot_blocks ≡ before.snapshot_blocks) where
  pub exact_with : length new ≡ length old → length after.link_counts ≡ length before.link_counts → AreCounts new after.link_counts → IsExact new after
  exact_with whole room counts = record {
    sets = subst (λ (snapshot : Set). AreExact new (has snapshot) after.free_blocks after.free_inodes) (sym snapshot_blocks) sets;
    counts = counts;
    count_room = room ∙ exact.count_room ∙ ap (λ n. 64 * (n / 512)) (sym whole);
    snapshot_room = ap (λ (blocks : Set). length blocks) snapshot_blocks ∙ exact.snapshot_room ∙ ap (λ n. n / 512) (sym whole);
  }

  module _ (counts : after.link_counts ≡ before.link_counts) where
    -- where the bytes of files are others, or of one
    pub exact_files : IsWellFormed old → KeepsDirectories old new → IsExact new after
    exact_files wf keeps =
        exact_with keeps.trees.whole (ap (λ (ns : List ℕ). length ns) counts) (subst (AreCounts new) (sym counts) (changed_counts old new wf keeps before.link_counts exact.counts))

    pub exact_file : (x : ℕ) → IsWellFormed old → ChangesFile old new x → IsExact new after
    exact_file x wf changes = exact_files wf (changed.keeps old new x wf changes)

    -- and where nobody sees what was done
    pub exact_meaning : IsWellFormed old → SameMeaning old new → IsExact new after
    exact_meaning wf same =
        exact_with same.trees.whole (ap (λ (ns : List ℕ). length ns) counts) (subst (AreCounts new) (sym counts) (meaning_counts old new wf same before.link_counts exact.counts))

-- an inode that is reached is counted
pub reached_counted : {R : Type 0} (image : Image) (parts : Parts R) → IsExact image parts → IsWellFormed image → (i : ℕ) → IsReached image i → i < length parts.link_counts
reached_counted image parts exact wf i reached =
    let low : i < inode_count image = reached-in_file image wf i reached in
    let few : size_of image 0 / 64 ≤ 64 * block_count image =
    few_inodes image (root_of image 0) (size_of image 0) (wf.sound 0 inode_file) wf.full_inode_file (omega (arith, wf.formatted.sized.at_least)) wf.inode_blocks in
    omega (arith, low, few, exact.count_room)

-- ---- the names of an inode, by one of them

module _ (image : Image) (i s j : ℕ) (reached : IsReached image i) (entry : EntryNames image i s j) where
  here : IsNamed image j (i, s)
  here = record { reached = reached; names = entry }

  pub some_name : (count : ℕ) → HasNames image j count → 1 ≤ count
  some_name count has = go has.entries (has.are.all i s here) has.number
    where
      go : (entries : List (ℕ × ℕ)) → Has entries (i, s) → length entries ≡ count → 1 ≤ count
      go [] there number = absurd there
      go (first ∷ rest) there number = omega (arith, number)

  -- where it is the one
  pub last_name : HasNames image j 1 → IsLastName image i s j
  last_name has u r from names = go has.entries (has.are.all i s here) (has.are.all u r (record { reached = from; names = names })) has.number
    where
      go : (entries : List (ℕ × ℕ)) → Has entries (i, s) → Has entries (u, r) → length entries ≡ 1 → (u ≡ i) × (r ≡ s)
      go [] one two number = absurd one
      go (first ∷ []) (inl one) (inl two) number = (ap (λ (e : ℕ × ℕ). e.0) (sym two ∙ one), ap (λ (e : ℕ × ℕ). e.1) (sym two ∙ one))
      go (first ∷ []) (inr none) two number = absurd none
      go (first ∷ []) one (inr none) number = absurd none
      go (first ∷ second ∷ rest) one two number = absurd (omega (arith, number))

  -- or there are more
  pub other_name : (count : ℕ) → 2 ≤ count → HasNames image j count → HasOtherName image i s j
  other_name count many has = go has.entries has.are.once has.are.name has.number
    where
      as_other : (e : ℕ × ℕ) → IsNamed image j e → ((e.0 ≡ i) → (e.1 ≡ s) → ⊥) → HasOtherName image i s j
      as_other e named other = record { directory = e.0; slot = e.1; reached = named.reached; names = named.names; other = other }

      pick : (first second : ℕ × ℕ) → IsNamed image j first → IsNamed image j second → second ≢ first → (first.0 ≡ i) ⊎ (first.0 ≡ i → ⊥) → (first.1 ≡ s) ⊎ (first.1 ≡ s → ⊥) → HasOtherName image i s j
      pick first second one two apart (inl e) (inl f) = as_other second two (λ g h. apart (λ l. ((g ∙ sym e) l, (h ∙ sym f) l)))
      pick first second one two apart (inr differ) which = as_other first one (λ g h. differ g)
      pick first second one two apart which (inr differ) = as_other first one (λ g h. differ h)

      go : (entries : List (ℕ × ℕ)) → AreApart entries → Each (IsNamed image j) entries → length entries ≡ count → HasOtherName image i s j
      go [] apart each number = absurd (omega (arith, number, many))
      go (first ∷ []) apart each number = absurd (omega (arith, number, many))
      go (first ∷ second ∷ rest) apart each number = pick first second each.0 each.1.0 apart.0.0 (cases_eq first.0 i) (cases_eq first.1 s)
