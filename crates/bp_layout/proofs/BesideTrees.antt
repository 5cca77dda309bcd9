-- Two images that differ only in words of the superblock in which no tree stands: one is a file system where the other is.
use Rattle.std.proofs.Common.{◌≡◌, ℕ, zero, suc, ◌+◌, ◌*◌, ◌/◌, ◌%◌, ◌^◌, ◌<◌, ◌≤◌, [], ◌∷◌, if◌then◌else◌, length, refl, sym, ◌∙◌, ap, subst, subst₂, arith, le_trans}
use Rattle.bp_limits.specs.CallLimits.{allows_attributes}
use Rattle.bp_limits.specs.Limits.{attribute_field, greatest_height}
use Rattle.bp_layout.specs.Words.{Image, word, block_of, height_of, slot_word, byte_of}
use Rattle.bp_layout.specs.Tree.{tree_word, content_word, byte, HasBlock, IsSound, IsFull}
use Rattle.bp_layout.specs.Inode.{attribute, attributes_of, inode_word, kind_of, root_of, size_of}
use Rattle.bp_layout.specs.Directory.{EntryNames, name_at}
use Rattle.bp_layout.specs.Paths.{IsName, Path}
use Rattle.bp_layout.specs.Reached.{IsReached}
use Rattle.bp_layout.specs.Reached.IsReached.{inode_file, root_directory, named}
use Rattle.bp_layout.specs.Lookup.{find_one, shown}
use Rattle.bp_layout.specs.Formatted.{IsFormatted, version_of}
use Rattle.bp_layout.specs.WellFormed.{IsWellFormed}
use Rattle.bp_layout.proofs.Finding.{map-same}
use Rattle.bp_layout.proofs.TreeLaws.{KeepsPointers, sound-kept, full-kept, has_block-kept}
use Rattle.bp_layout.proofs.View.{SameDirectories, SameView, find_one-same, shown-same}

-- the second image has the words of the first, except for some of the first block
pub record SameTrees (old new : Image) : Type 0 where
  pub whole : length new ≡ length old
  pub root : word new 2 ≡ word old 2
  pub size : word new 3 ≡ word old 3
  pub blocks : (place : ℕ) → 512 ≤ place → word new place ≡ word old place

pub same_back : (old new : Image) → SameTrees old new → SameTrees new old
same_back old new same = record {
  whole = sym same.whole;
  root = sym same.root;
  size = sym same.size;
  blocks = λ place high. sym (same.blocks place high);
}

module _ (old new : Image) (same : SameTrees old new) where
  slots_same : (b s : ℕ) → slot_word new b s ≡ slot_word old b s
  slots_same zero s = refl
  slots_same (suc b) s = same.blocks (512 * suc b + s) (omega arith)

  words_same : (root d k : ℕ) → tree_word new root d k ≡ tree_word old root d k
  unfolding tree_word
  words_same root zero k = refl
  words_same root (suc d) k = ap (λ w. slot_word new (block_of w) (k % 512)) (words_same root d (k / 512)) ∙ slots_same (block_of (tree_word old root d (k / 512))) (k % 512)

  pub inode_word-same : (i f : ℕ) → inode_word new i f ≡ inode_word old i f
  inode_word-same i f = ap (λ r. content_word new r (8 * i + f)) same.root ∙ words_same (word old 2) (suc (height_of (word old 2))) (8 * i + f)

  pub kind-same : (t : ℕ) → kind_of new t ≡ kind_of old t
  kind-same zero = refl
  kind-same (suc i) = inode_word-same (suc i) 0

  pub root-same : (t : ℕ) → root_of new t ≡ root_of old t
  root-same zero = same.root
  root-same (suc i) = inode_word-same (suc i) 1

  pub size-same : (t : ℕ) → size_of new t ≡ size_of old t
  size-same zero = same.size
  size-same (suc i) = inode_word-same (suc i) 2

  content_word-same : (t k : ℕ) → content_word new (root_of new t) k ≡ content_word old (root_of old t) k
  content_word-same t k = ap (λ r. content_word new r k) (root-same t) ∙ words_same (root_of old t) (suc (height_of (root_of old t))) k

  byte-same : (t o : ℕ) → byte new (root_of new t) o ≡ byte old (root_of old t) o
  byte-same t o = ap (λ w. byte_of w (o % 8)) (content_word-same t (o / 8))

  name-same : (i s : ℕ) → name_at new i s ≡ name_at old i s
  name-same i s = rw (content_word-same i (32 * s + 1)) (map-same _ _ 0 _ (λ o low high. byte-same i (256 * s + 16 + o)))

  pub names_back : (i s j : ℕ) → EntryNames new i s j → EntryNames old i s j
  names_back i s j n = record {
    directory = sym (kind-same i) ∙ n.directory;
    in_size = subst (λ z. s < z / 256) (size-same i) n.in_size;
    ino = sym (content_word-same i (32 * s + 0)) ∙ n.ino;
    not_empty = n.not_empty;
  }

  pub reached_back : (t : ℕ) → IsReached new t → IsReached old t
  reached_back _ inode_file = inode_file
  reached_back _ root_directory = root_directory
  reached_back _ (named {i} {j} s r n) = named s (reached_back i r) (names_back i s j n)

  keeps : (t : ℕ) → KeepsPointers old new (root_of old t) (size_of old t)
  keeps t = record { kept = λ d k live. slots_same _ (k % 512) }

  to_new : (P : ℕ → ℕ → Type 0) (t : ℕ) → P (root_of old t) (size_of old t) → P (root_of new t) (size_of new t)
  to_new P t h = subst₂ P (sym (root-same t)) (sym (size-same t)) h

  pub block_back : (t b : ℕ) → HasBlock new (root_of new t) (size_of new t) b → HasBlock old (root_of old t) (size_of old t) b
  block_back t b has = has_block-kept old new (root_of old t) (size_of old t) (keeps t) b (subst₂ (λ r z. HasBlock new r z b) (root-same t) (size-same t) has)

  -- it is one in the version that its magic number reports, if that has room for the trees
  pub still_well_formed : IsWellFormed old → IsFormatted new → greatest_height (version_of old) ≤ greatest_height (version_of new) → IsWellFormed new
  still_well_formed wf formatted room = record {
    formatted = formatted;
    low = λ t r. to_new (λ root z. 0 < z → height_of root ≤ greatest_height (version_of new)) t (λ some. le_trans (wf.low t (reached_back t r) some) room);
    sound = λ t r. to_new (IsSound new) t (sound-kept old new (root_of old t) (size_of old t) (keeps t) same.whole (wf.sound t (reached_back t r)));
    apart = λ t u b r q one two. wf.apart t u b (reached_back t r) (reached_back u q) (block_back t b one) (block_back u b two);
    full_inode_file = to_new (IsFull new) 0 (full-kept old new (root_of old 0) (size_of old 0) (keeps 0) wf.full_inode_file);
    full_directories = λ i r kind. to_new (IsFull new) i (full-kept old new (root_of old i) (size_of old i) (keeps i) (wf.full_directories i (reached_back i r) (sym (kind-same i) ∙ kind)));
    inode_blocks = ap (λ z. z % 4096) same.size ∙ wf.inode_blocks;
    some_inodes = subst (λ z. 4096 ≤ z) (sym same.size) wf.some_inodes;
    inos = λ i s j r n. subst (λ z. j < z / 64) (sym same.size) (wf.inos i s j (reached_back i r) (names_back i s j n));
    not_root = λ i s j r n. wf.not_root i s j (reached_back i r) (names_back i s j n);
    named_once = λ i s k q j r p n m kind. wf.named_once i s k q j (reached_back i r) (reached_back k p) (names_back i s j n) (names_back k q j m) (sym (kind-same j) ∙ kind);
    kinds = λ i r. rw (kind-same (suc i)) (wf.kinds i (reached_back (suc i) r));
    root_kind = kind-same 1 ∙ wf.root_kind;
    directory_sizes = λ i r kind. ap (λ z. z % 256) (size-same i) ∙ wf.directory_sizes i (reached_back i r) (sym (kind-same i) ∙ kind);
    names = λ i s j r n. subst IsName (sym (name-same i s)) (wf.names i s j (reached_back i r) (names_back i s j n));
    names_once = λ i s q j k r n m e. wf.names_once i s q j k (reached_back i r) (names_back i s j n) (names_back i q k m) (sym (name-same i s) ∙ e ∙ name-same i q);
  }

  pub directories-same : SameDirectories old new
  directories-same = record {
    kind = λ i r. kind-same i;
    count = λ i r kind. ap (λ z. z / 256) (size-same i);
    ino = λ i s r kind low. content_word-same i (32 * s + 0);
    name = λ i s j r n. name-same i s;
  }

  pub still_one : (p q : Path) → find_one new p q ≡ find_one old p q
  still_one = find_one-same old new directories-same

  -- both versions have attributes, or neither has
  abbrev pub KeepsAttributes : Type 0
  KeepsAttributes = allows_attributes (version_of new) ≡ allows_attributes (version_of old)

  attribute-same : KeepsAttributes → (t k : ℕ) → attribute new t k ≡ attribute old t k
  attribute-same both zero k = refl
  attribute-same both (suc i) k = λ n. if both n then inode_word-same (suc i) (attribute_field + k) n % 2 ^ 64 else 0

  pub attributes-same : KeepsAttributes → (t : ℕ) → attributes_of new t ≡ attributes_of old t
  attributes-same both t = λ n. attribute-same both t 0 n ∷ attribute-same both t 1 n ∷ attribute-same both t 2 n ∷ []

  -- where each inode has the same attributes, it is the same to all who look
  pub view-by : ((i : ℕ) → IsReached old i → attributes_of new i ≡ attributes_of old i) → SameView old new
  view-by attributes = record {
    directories = directories-same;
    attributes = attributes;
    bytes = λ i r kind. rw (size-same i) (map-same _ _ 0 _ (λ o low high. byte-same i o));
  }

  -- and shows the same, if both versions have attributes or neither has
  pub still_shown : KeepsAttributes → (path : Path) → shown new path ≡ shown old path
  still_shown both = shown-same old new (view-by (λ i r. attributes-same both i))
