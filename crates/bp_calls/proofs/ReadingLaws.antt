-- What an entry of a directory names.
use Rattle.std.proofs.Common.{◌≡◌, ◌≢◌, ℕ, zero, suc, ◌+◌, ◌*◌, ◌/◌, ◌<◌, ◌≤◌, [], ◌∷◌, ◌++◌, length, Bool, true, false, ◌==◌, Option, None, Some, filter, filter_map, not, refl, sym, ◌∙◌, ap, subst, arith}
use Rattle.std.specs.List.{range_with_len, cons_option}
use Rattle.std.proofs.lemmas.List.FromFn.{length-map-range_with_len}
use Rattle.bp_limits.specs.Limits.{block_inodes, max_blocks}
use Rattle.bp_layout.specs.Words.{Image, block_count}
use Rattle.bp_layout.specs.Tree.{IsSound}
use Rattle.bp_layout.specs.Inode.{kind_of, root_of, size_of, inode_count}
use Rattle.bp_layout.specs.Directory.{EntryNames, word_in, ino_in, ino_at, name_at, entry_count}
use Rattle.bp_layout.specs.Paths.{Name, IsName}
use Rattle.bp_layout.specs.Fields.{kind_word}
use Rattle.bp_layout.specs.Reached.{IsReached}
use Rattle.bp_layout.proofs.Reached.{reached-in_file}
use Rattle.bp_layout.specs.Reached.IsReached.{inode_file, named}
use Rattle.bp_layout.specs.declared.fields.Kind.{Kind}
use Rattle.bp_layout.specs.declared.fields.Kind.TheVariants.{File, Dir}
use Rattle.bp_layout.specs.WellFormed.{IsWellFormed}
use Rattle.bp_layout.proofs.FewLeaves.{few_inodes}
use Rattle.bp_read.specs.Names.{name_count}
use Rattle.bp_calls.specs.Asked.{kind_seen, entry_seen, entries_seen}

-- a kind, by its word
pub kind_from_word : (kind : Kind) (word : ℕ) → kind_word kind ≡ word → kind ≡ kind_seen word
kind_from_word File word e = rw (← e) refl
kind_from_word Dir word e = rw (← e) refl

module _ (image : Image) (wf : IsWellFormed image) where
  pub inode_file_sound : IsSound image (root_of image 0) (size_of image 0)
  inode_file_sound = wf.sound 0 inode_file

  -- inode numbers are small
  pub few_inode : (j : ℕ) → j < inode_count image → j < block_inodes * max_blocks
  few_inode j high =
      let few : size_of image 0 / 64 ≤ 64 * block_count image = few_inodes image (root_of image 0) (size_of image 0) inode_file_sound wf.full_inode_file (omega (arith, wf.formatted.sized.at_least)) wf.inode_blocks in
      omega (arith, few, high, wf.formatted.sized.at_most)

  -- an inode that is reached, and not the inode file
  pub record IsInode (j : ℕ) : Type 0 where
    pub low : 1 ≤ j
    pub high : j < inode_count image
    pub few : j < block_inodes * max_blocks
    pub least : 1 ≤ kind_of image j
    pub most : kind_of image j ≤ 2

  -- a reached inode is in the inode file
  pub inode_reached : (i : ℕ) → IsReached image i → 1 ≤ i → IsInode i
  inode_reached zero reached low = absurd (omega arith)
  inode_reached (suc i) reached low =
      let high : suc i < inode_count image = reached-in_file image wf (suc i) reached in
      let kinds : (1 ≤ kind_of image (suc i)) × (kind_of image (suc i) ≤ 2) = wf.kinds i reached in
      record { low = omega arith; high = high; few = few_inode (suc i) high; least = kinds.0; most = kinds.1 }

  module _ (i root size : ℕ) (reached : IsReached image i) (kind : kind_of image i ≡ 2) (root_is : root ≡ root_of image i) (size_is : size ≡ size_of image i) (slot : ℕ) (live : slot < size / 256) (some : ino_in image root slot ≢ 0) where
    names_here : EntryNames image i slot (ino_in image root slot)
    names_here = record {
      directory = kind;
      in_size = omega (arith, live, size_is);
      ino = ap (λ r. ino_in image r slot) (sym root_is);
      not_empty = some;
    }

    name_here : IsName (name_at image i slot)
    name_here = wf.names i slot (ino_in image root slot) reached names_here

    name_length : word_in image root slot 1 ≡ length (name_at image i slot)
    name_length = ap (λ r. word_in image r slot 1) root_is ∙ sym (length-map-range_with_len _ 0 (word_in image (root_of image i) slot 1))

    pub name_most : word_in image root slot 1 ≤ 240
    name_most = omega (arith, name_length, name_here.short)

    pub inode_here : IsInode (ino_in image root slot)
    inode_here = go (ino_in image root slot) refl
      where
        names_reached : IsReached image (ino_in image root slot)
        names_reached = named slot reached names_here

        go : (j : ℕ) → ino_in image root slot ≡ j → IsInode (ino_in image root slot)
        go zero at = absurd (some at)
        go (suc j) at =
            let high : ino_in image root slot < inode_count image = wf.inos i slot (ino_in image root slot) reached names_here in
            let kinds : (1 ≤ kind_of image (suc j)) × (kind_of image (suc j) ≤ 2) = wf.kinds j (subst (IsReached image) at names_reached) in
            rw at (record { low = omega arith; high = omega (arith, high, at); few = subst (λ k. k < block_inodes * max_blocks) at (few_inode (ino_in image root slot) high); least = kinds.0; most = kinds.1 })

-- ---- the entries of some slots and of those after them

pub seen-parts : (f : ℕ → Option (Kind × Name)) (first count more next : ℕ) → first + count ≡ next →
    filter_map f (range_with_len first (count + more)) ≡ filter_map f (range_with_len first count) ++ filter_map f (range_with_len next more)
seen-parts f first zero more next at =
    let same : first ≡ next = omega arith in
    let none : 0 + more ≡ more = omega arith in
    rw none (ap (λ k. filter_map f (range_with_len k more)) same)
seen-parts f first (suc count) more next at =
    let whole : suc count + more ≡ suc (count + more) = omega arith in
    rw whole (go (f first) (seen-parts f (first + 1) count more next (omega arith)))
  where
    go : (o : Option (Kind × Name)) → filter_map f (range_with_len (first + 1) (count + more)) ≡ filter_map f (range_with_len (first + 1) count) ++ filter_map f (range_with_len next more) →
        cons_option o (filter_map f (range_with_len (first + 1) (count + more))) ≡ cons_option o (filter_map f (range_with_len (first + 1) count)) ++ filter_map f (range_with_len next more)
    go None rest = rest
    go (Some x) rest = ap (λ xs. x ∷ xs) rest

pub seen-none : (f : ℕ → Option (Kind × Name)) (first count : ℕ) → ((k : ℕ) → k < count → f (first + k) ≡ None) → filter_map f (range_with_len first count) ≡ []
seen-none f first zero none = refl
seen-none f first (suc count) none =
    let here : first + 0 ≡ first = omega arith in
    let rest : filter_map f (range_with_len (first + 1) count) ≡ [] = seen-none f (first + 1) count (λ k low. let at : first + 1 + k ≡ first + (k + 1) = omega arith in ap f at ∙ none (k + 1) (omega (arith, low))) in
    rw (ap f (sym here) ∙ none 0 (omega arith)) rest

-- a directory's count is the number of its entries
pub length-seen : (image : Image) (i : ℕ) → length (entries_seen image i (entry_count image i)) ≡ name_count image (root_of image i) (size_of image i)
length-seen image i = go 0 (entry_count image i)
  where
    go : (first count : ℕ) → length (filter_map (entry_seen image i) (range_with_len first count)) ≡ length (filter (λ slot. not (ino_in image (root_of image i) slot == 0)) (range_with_len first count))
    go first zero = refl
    go first (suc count) = one (ino_at image i first == 0) refl (go (first + 1) count)
      where
        one : (b : Bool) → (ino_at image i first == 0) ≡ b →
            length (filter_map (entry_seen image i) (range_with_len (first + 1) count)) ≡ length (filter (λ slot. not (ino_in image (root_of image i) slot == 0)) (range_with_len (first + 1) count)) →
            length (filter_map (entry_seen image i) (range_with_len first (suc count))) ≡ length (filter (λ slot. not (ino_in image (root_of image i) slot == 0)) (range_with_len first (suc count)))
        one true at rest = rw at rest
        one false at rest = rw at (ap suc rest)
