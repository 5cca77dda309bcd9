-- Two images of which the second has another value of one attribute: what it shows. A store to the word of the
-- attribute makes such an image, and so does a commit of that word.
use Rattle.std.proofs.Common.{◌≡◌, ◌≢◌, true, Option, None, Some, ℕ, zero, suc, ◌+◌, ◌*◌, ◌/◌, ◌%◌, ◌^◌, ◌<◌, ◌≤◌, [], ◌∷◌, set, refl, sym, ◌∙◌, ap, ap₂, subst, subst₂, arith, inl, inr, lt_of_lt_of_le, get_or-set_other}
use Rattle.std.specs.Option.{option_map}
use Rattle.std.specs.Prelude.{slice_set}
use Rattle.std.proofs.lemmas.List.{length-set}
use Rattle.bp_limits.specs.CallLimits.{allows_attributes}
use Rattle.bp_limits.specs.Limits.{greatest_height}
use Rattle.bp_limits.proofs.Versions.{fields_most}
use Rattle.bp_layout.specs.Formatted.{version_of}
use Rattle.bp_layout.specs.Words.{Image, word, byte_of, height_of, slot_word}
use Rattle.bp_layout.specs.Tree.{node, content, content_word, HasBlock, IsSound, IsFull, IsLiveWord}
use Rattle.bp_layout.specs.Inode.{attribute, attributes_of, inode_word, kind_of, root_of, size_of, inode_count, ContentStandsAt}
use Rattle.bp_layout.specs.Directory.{EntryNames, name_at}
use Rattle.bp_layout.specs.Reached.{IsReached}
use Rattle.bp_layout.specs.Reached.IsReached.{inode_file, root_directory}
use Rattle.bp_layout.specs.WellFormed.{IsWellFormed}
use Rattle.bp_layout.specs.Lookup.{find_one, lookup, node_of, shown}
use Rattle.bp_layout.specs.Paths.{Attributes, Path}
use Rattle.bp_layout.specs.Paths.Node.{dir, file}
use Rattle.bp_layout.proofs.AttributeLaws.{attributes_alike}
use Rattle.bp_layout.proofs.Finding.{map-same}
use Rattle.bp_layout.proofs.Reached.{reached-in_file}
use Rattle.bp_layout.proofs.TreeLaws.{KeepsPointers, content-kept, tree_word-suc, live_pointer_word, live_content, sound-kept, full-kept, has_block-kept, has_block-stays}
use Rattle.bp_layout.proofs.View.{SameDirectories, find_one-same, lookup_from-reached}
use Rattle.bp_changes.specs.Commits.{Changes, changed_word, CommitsOnly}
use Rattle.bp_changes.specs.Effects.{KeepsBlocks, SetsAttribute}
use Rattle.bp_changes.specs.KeepsDirectories.{KeepsDirectories}
use Rattle.bp_changes.specs.SameMeaning.{SameMeaning}
use Rattle.bp_changes.proofs.Committed.{attributes-kept, byte-kept, kind-kept, size-kept, inode_word-kept, word-kept, word_committed}
use Rattle.bp_changes.proofs.ContentStore.{word-stored, word-elsewhere}
use Rattle.bp_changes.proofs.Formatted.{low_stays, version_stays}
use Rattle.bp_changes.proofs.KeepsDirectories as directories
use Rattle.bp_changes.proofs.ReachedOn.{names_on, reached_on, trees_over}
use Rattle.bp_changes.proofs.SameMeaning as meaning
use Rattle.bp_changes.proofs.SameShown.{node_by_bytes}

-- ---- what it shows

module _ (old new : Image) (i k value : ℕ) (wf : IsWellFormed old) (sets : SetsAttribute old new i k value) where
  -- the attributes of the inode afterwards
  abbrev pub attributes_set : Attributes
  attributes_set = slice_set (attributes_of old i) k value

  pub keeps : KeepsDirectories old new
  keeps = record {
    trees = sets.trees;
    kind = sets.kind;
    inode_bytes = sets.size 0 inode_file;
    size = λ u reached kind. sets.size u reached;
    ino = sets.ino;
    entry = sets.entry;
  }

  pub name-same : (u slot j : ℕ) → IsReached old u → EntryNames old u slot j → name_at new u slot ≡ name_at old u slot
  name-same = directories.name-same old new wf keeps

  pub directories-same : SameDirectories old new
  directories-same = directories.directories-same old new wf keeps

  pub reached-back : (t : ℕ) → IsReached new t → IsReached old t
  reached-back = directories.reached-back old new wf keeps

  pub names-on : (u s j : ℕ) → IsReached old u → EntryNames old u s j → EntryNames new u s j
  names-on = directories.names-on old new wf keeps

  pub reached-on : (t : ℕ) → IsReached old t → IsReached new t
  reached-on = directories.reached-on old new wf keeps

  pub well_formed-same : IsWellFormed new
  well_formed-same = directories.well_formed-same old new wf keeps

  pub lookup-same : (path : Path) → lookup new path ≡ lookup old path
  lookup-same = directories.lookup-same old new wf keeps

  pub one-same : (p q : Path) → find_one new p q ≡ find_one old p q
  one-same = find_one-same old new directories-same

  -- the bytes of a file stay
  pub content-same : (u : ℕ) → IsReached old u → kind_of old u ≡ 1 → content new (root_of new u) (size_of new u) ≡ content old (root_of old u) (size_of old u)
  content-same u reached kind = rw (sets.size u reached) (map-same _ _ 0 (size_of old u) (λ o low high. sets.bytes u o reached kind (omega (arith, high))))

  node_of_other : (u : ℕ) → IsReached old u → u ≢ i → node_of new u ≡ node_of old u
  node_of_other u reached other =
      node_by_bytes old new u (sets.kind u reached) (sets.attributes u reached other) (λ kind. sets.size u reached) (λ o kind. sets.bytes u o reached kind)

  -- the inode is the same file or directory, with the other attributes
  pub node_of_file : kind_of old i ≡ 1 → node_of new i ≡ file attributes_set (content old (root_of old i) (size_of old i))
  node_of_file kind = rw (sets.kind i sets.reached, kind) (ap₂ file sets.set (content-same i sets.reached kind))

  pub node_of_directory : kind_of old i ≡ 2 → node_of new i ≡ dir attributes_set
  node_of_directory kind = rw (sets.kind i sets.reached, kind) (ap dir sets.set)

  pub shown_file : (path : Path) → lookup old path ≡ Some i → kind_of old i ≡ 1 → shown new path ≡ Some (file attributes_set (content old (root_of old i) (size_of old i)))
  shown_file path at kind = rw (lookup-same path, at) (ap Some (node_of_file kind))

  pub shown_directory : (path : Path) → lookup old path ≡ Some i → kind_of old i ≡ 2 → shown new path ≡ Some (dir attributes_set)
  shown_directory path at kind = rw (lookup-same path, at) (ap Some (node_of_directory kind))

  pub shown_other : (path : Path) → (lookup old path ≡ Some i → ⊥) → shown new path ≡ shown old path
  shown_other path other = rw (lookup-same path) (go (lookup old path) refl)
    where
      go : (found : Option ℕ) → lookup old path ≡ found → option_map (node_of new) found ≡ option_map (node_of old) found
      go None e = refl
      go (Some u) e = ap Some (node_of_other u (lookup_from-reached old 1 u path root_directory e) (λ same. other (e ∙ ap Some same)))

-- ---- over an image that means the same

module _ (old mid new : Image) (i k value : ℕ) (wf : IsWellFormed old) (same : SameMeaning old mid) (sizes : (u : ℕ) → IsReached old u → size_of mid u ≡ size_of old u) where
  on : (t : ℕ) → IsReached old t → IsReached mid t
  on = reached_on old mid same

  pub sets_over : SetsAttribute mid new i k value → SetsAttribute old new i k value
  sets_over sets = record {
    reached = here;
    trees = trees_over old mid new same sets.trees;
    kind = λ t r. sets.kind t (on t r) ∙ same.kind t r;
    attributes = λ t r other. sets.attributes t (on t r) other ∙ same.attributes t r;
    set = sets.set ∙ ap (λ (a : Attributes). slice_set a k value) (same.attributes i here);
    size = λ t r. sets.size t (on t r) ∙ sizes t r;
    ino = λ u s r kind low. sets.ino u s (on u r) (same.kind u r ∙ kind) (rw (sizes u r) low) ∙ same.ino u s r kind low;
    entry = λ u s j f r n few. sets.entry u s j f (on u r) (names_on old mid same u s j r n) few ∙ same.entry u s j f r n few;
    bytes = λ u o r kind low. sets.bytes u o (on u r) (same.kind u r ∙ kind) (rw (sizes u r) low) ∙ same.bytes u o r kind low;
  }
    where
      here : IsReached old i
      here = meaning.reached-back old mid wf same i sets.reached

-- ---- the words of an inode

-- In a version that allows attributes, the inode has one other attribute if one of its words for them is another value
-- of 64 bits.
module _ (old new : Image) (n k value : ℕ) (fits : value < 2 ^ 64) (version : version_of new ≡ version_of old) (allowed : allows_attributes (version_of old) ≡ true) where
  attribute_is : (image : Image) → allows_attributes (version_of image) ≡ true → (l : ℕ) → attribute image (suc n) l ≡ inode_word image (suc n) (3 + l) % 2 ^ 64
  attribute_is image allows l = rw allows refl

  allowed_after : allows_attributes (version_of new) ≡ true
  allowed_after = ap allows_attributes version ∙ allowed

  pub word_sets : k < 3 → inode_word new (suc n) (3 + k) ≡ value → ((l : ℕ) → l < 3 → l ≢ k → inode_word new (suc n) (3 + l) ≡ inode_word old (suc n) (3 + l)) →
      attributes_of new (suc n) ≡ slice_set (attributes_of old (suc n)) k value
  word_sets few is same = go k few (λ l e. attribute_is new allowed_after l ∙ ap (λ x. inode_word new (suc n) (3 + x) % 2 ^ 64) e ∙ ap (λ w. w % 2 ^ 64) is ∙ whole)
      (λ l low other. attribute_is new allowed_after l ∙ ap (λ w. w % 2 ^ 64) (same l low other) ∙ sym (attribute_is old allowed l))
    where
      whole : value % 2 ^ 64 ≡ value
      whole = omega (arith, fits)

      go : (at : ℕ) → at < 3 → ((l : ℕ) → l ≡ at → attribute new (suc n) l ≡ value) → ((l : ℕ) → l < 3 → l ≢ at → attribute new (suc n) l ≡ attribute old (suc n) l) →
          attributes_of new (suc n) ≡ slice_set (attributes_of old (suc n)) at value
      go zero low here other = λ x. here 0 refl x ∷ other 1 (omega arith) (λ e. omega (arith, e)) x ∷ other 2 (omega arith) (λ e. omega (arith, e)) x ∷ []
      go (suc zero) low here other = λ x. other 0 (omega arith) (λ e. omega (arith, e)) x ∷ here 1 refl x ∷ other 2 (omega arith) (λ e. omega (arith, e)) x ∷ []
      go (suc (suc zero)) low here other = λ x. other 0 (omega arith) (λ e. omega (arith, e)) x ∷ other 1 (omega arith) (λ e. omega (arith, e)) x ∷ here 2 refl x ∷ []
      go (suc (suc (suc at))) low here other = absurd (omega (arith, low))

-- ---- a store in place

-- a store to the word of attribute k of inode n + 1
module _ (old : Image) (wf : IsWellFormed old) (n k value place : ℕ) (fits : value < 2 ^ 64) (reached : IsReached old (suc n)) (few : k < 3) (allowed : allows_attributes (version_of old) ≡ true)
    (stands : ContentStandsAt old 0 (8 * suc n + (3 + k)) place) where
  in_inodes : (t : ℕ) → IsReached old t → t < inode_count old
  in_inodes = reached-in_file old wf

  below : 8 * (8 * suc n + (3 + k)) < size_of old 0
  below = let low : suc n < size_of old 0 / 64 = in_inodes (suc n) reached in omega (arith, low, few)

  the_word : IsLiveWord (root_of old 0) (size_of old 0) (suc (height_of (root_of old 0))) (8 * suc n + (3 + k))
  the_word = live_content (root_of old 0) (size_of old 0) (8 * suc n + (3 + k)) below

  -- each other live word stays
  elsewhere : (u e l : ℕ) → IsReached old u → IsLiveWord (root_of old u) (size_of old u) (suc e) l → ((0 ≡ u) → (height_of (root_of old 0) ≡ e) → (8 * suc n + (3 + k) ≡ l) → ⊥) →
      slot_word (set old place value) (node old (root_of old u) e (l / 512)) (l % 512) ≡ slot_word old (node old (root_of old u) e (l / 512)) (l % 512)
  elsewhere u e l also live other =
      word-elsewhere old wf 0 (height_of (root_of old 0)) (8 * suc n + (3 + k)) place value inode_file the_word stands u e l also live (λ same. other same.tree same.depth same.index)

  pub pointers_stay : (u : ℕ) → IsReached old u → KeepsPointers old (set old place value) (root_of old u) (size_of old u)
  pointers_stay u also = record {
    kept = λ d l live. elsewhere u d l also (live_pointer_word _ _ (suc d) l live)
        (λ t h same. let root : height_of (root_of old 0) ≡ height_of (root_of old u) = ap (λ (x : ℕ). height_of (root_of old x)) t in omega (arith, live.height, root, h));
  }

  superblock : (p : ℕ) → p < 512 → word (set old place value) p ≡ word old p
  superblock p low = get_or-set_other old place p value 0 (λ e. stands.present (omega (arith, stands.at, e)))

  inode_word_stays : (u f : ℕ) → suc u < inode_count old → f < 8 → ((8 * suc n + (3 + k) ≡ 8 * suc u + f) → ⊥) → inode_word (set old place value) (suc u) f ≡ inode_word old (suc u) f
  inode_word_stays u f low small other =
      let in_size : 8 * (8 * suc u + f) < size_of old 0 = omega (arith, low, small) in
      let root : word (set old place value) 2 ≡ word old 2 = superblock 2 (omega arith) in
      rw root
      (content-kept old (set old place value) (root_of old 0) (size_of old 0) (pointers_stay 0 inode_file) (8 * suc u + f) in_size
      ∙ elsewhere 0 (height_of (root_of old 0)) (8 * suc u + f) inode_file (live_content _ _ (8 * suc u + f) in_size) (λ t h l. other l)
      ∙ sym (tree_word-suc old (root_of old 0) (height_of (root_of old 0)) (8 * suc u + f)))

  pub kind_stays : (u : ℕ) → u < inode_count old → kind_of (set old place value) u ≡ kind_of old u
  kind_stays zero low = refl
  kind_stays (suc u) low = inode_word_stays u 0 low (omega arith) (λ e. omega (arith, e, few))

  pub root_stays : (u : ℕ) → u < inode_count old → root_of (set old place value) u ≡ root_of old u
  root_stays zero low = superblock 2 (omega arith)
  root_stays (suc u) low = inode_word_stays u 1 low (omega arith) (λ e. omega (arith, e, few))

  pub size_stays : (u : ℕ) → u < inode_count old → size_of (set old place value) u ≡ size_of old u
  size_stays zero low = superblock 3 (omega arith)
  size_stays (suc u) low = inode_word_stays u 2 low (omega arith) (λ e. omega (arith, e, few))

  version : version_of (set old place value) ≡ version_of old
  version = version_stays old (set old place value) (superblock 0 (omega arith))

  attributes_stay : (u : ℕ) → u < inode_count old → u ≢ suc n → attributes_of (set old place value) u ≡ attributes_of old u
  attributes_stay u low other =
      attributes_alike old (set old place value) u version (λ m f e least most.
      let small : f < 8 = lt_of_lt_of_le most (fields_most (version_of old)) in
      inode_word_stays m f (subst (λ t. t < inode_count old) e low) small (λ same. other (e ∙ omega (arith, same, small, few))))

  word_here : inode_word (set old place value) (suc n) (3 + k) ≡ value
  word_here =
      let root : word (set old place value) 2 ≡ word old 2 = superblock 2 (omega arith) in
      rw root
      (content-kept old (set old place value) (root_of old 0) (size_of old 0) (pointers_stay 0 inode_file) (8 * suc n + (3 + k)) below
      ∙ word-stored old wf 0 (height_of (root_of old 0)) (8 * suc n + (3 + k)) place value inode_file the_word stands)

  content_stays : (u l : ℕ) → IsReached old u → u ≢ 0 → 8 * l < size_of old u → content_word (set old place value) (root_of (set old place value) u) l ≡ content_word old (root_of old u) l
  content_stays u l also inode in_size =
      rw (root_stays u (in_inodes u also))
      (content-kept old (set old place value) (root_of old u) (size_of old u) (pointers_stay u also) l in_size
      ∙ elsewhere u (height_of (root_of old u)) l also (live_content _ _ l in_size) (λ t h same. inode (sym t))
      ∙ sym (tree_word-suc old (root_of old u) (height_of (root_of old u)) l))

  to_new : (P : ℕ → ℕ → Type 0) (t : ℕ) → IsReached old t → P (root_of old t) (size_of old t) → P (root_of (set old place value) t) (size_of (set old place value) t)
  to_new P t also h = subst₂ P (sym (root_stays t (in_inodes t also))) (sym (size_stays t (in_inodes t also))) h

  to_old : (t b : ℕ) → IsReached old t → HasBlock (set old place value) (root_of (set old place value) t) (size_of (set old place value) t) b → HasBlock old (root_of old t) (size_of old t) b
  to_old t b also has =
      has_block-kept old (set old place value) (root_of old t) (size_of old t) (pointers_stay t also) b
      (subst₂ (λ r z. HasBlock (set old place value) r z b) (root_stays t (in_inodes t also)) (size_stays t (in_inodes t also)) has)

  not_inode_file : (t m : ℕ) → kind_of old t ≡ suc m → t ≢ 0
  not_inode_file t m kind e = let some : kind_of old 0 ≡ suc m = subst (λ x. kind_of old x ≡ suc m) e kind in omega (arith, some)

  pub store_sets : SetsAttribute old (set old place value) (suc n) k value
  store_sets = record {
    reached = reached;
    trees = record {
      whole = length-set old place value;
      has_magic = superblock 0 (omega arith);
      counted = superblock 1 (omega arith);
      low = λ t r. to_new (λ root z. 0 < z → height_of root ≤ greatest_height (version_of (set old place value))) t r
          (low_stays old (set old place value) (superblock 0 (omega arith)) (root_of old t) (root_of old t) (size_of old t) (λ _. refl) (wf.low t r));
      sound = λ t r. to_new (IsSound (set old place value)) t r (sound-kept old (set old place value) (root_of old t) (size_of old t) (pointers_stay t r) (length-set old place value) (wf.sound t r));
      apart = λ t u b r q one two. wf.apart t u b r q (to_old t b r one) (to_old u b q two);
      full_inode_file = to_new (IsFull (set old place value)) 0 inode_file (full-kept old (set old place value) (root_of old 0) (size_of old 0) (pointers_stay 0 inode_file) wf.full_inode_file);
      full_directories = λ u r kind. to_new (IsFull (set old place value)) u r (full-kept old (set old place value) (root_of old u) (size_of old u) (pointers_stay u r) (wf.full_directories u r kind));
    };
    kind = λ t r. kind_stays t (in_inodes t r);
    attributes = λ t r other. attributes_stay t (in_inodes t r) other;
    set = word_sets old (set old place value) n k value fits version allowed few word_here
        (λ l low other. inode_word_stays n (3 + l) (in_inodes (suc n) reached) (omega (arith, low)) (λ e. other (omega (arith, e))));
    size = λ t r. size_stays t (in_inodes t r);
    ino = λ u s r kind low. content_stays u (32 * s + 0) r (not_inode_file u 1 kind) (omega (arith, low));
    entry = λ u s j f r names small. content_stays u (32 * s + f) r (not_inode_file u 1 names.directory) (omega (arith, names.in_size, small));
    bytes = λ u o r kind low. ap (λ w. byte_of w (o % 8)) (content_stays u (o / 8) r (not_inode_file u 0 kind) (omega (arith, low)));
  }

  -- each tree has the blocks that it had
  pub store_blocks : KeepsBlocks old (set old place value)
  store_blocks = record {
    back = to_old;
    stay = λ t b also has. to_new (λ r z. HasBlock (set old place value) r z b) t also (has_block-stays old (set old place value) (root_of old t) (size_of old t) (pointers_stay t also) b has);
  }

-- ---- a commit

-- a commit that gives no word but that of attribute k of inode n + 1 another value
pub commit_sets : (old new : Image) (changes : Changes) (n k value : ℕ) → value < 2 ^ 64 → IsWellFormed old → IsReached old (suc n) → k < 3 → allows_attributes (version_of old) ≡ true →
    CommitsOnly old new changes (λ t l. (t ≡ 0) × (l ≡ 8 * suc n + (3 + k))) → changed_word changes old 0 (8 * suc n + (3 + k)) ≡ value → SetsAttribute old new (suc n) k value
commit_sets old new changes n k value fits wf reached few allowed only is = record {
  reached = reached;
  trees = only.commits.trees;
  kind = λ t r. kind-kept old new changes _ only t (in_inodes t r) (λ here. omega (arith, here.1, few));
  attributes = λ t r other. attributes-kept old new changes _ only t (in_inodes t r) (λ f least small here. other (omega (arith, here.1, few, least, small)));
  set = word_sets old new n k value fits (version_stays old new only.commits.trees.has_magic) allowed few
      (word_committed old new changes _ only 0 (8 * suc n + (3 + k)) inode_file (inl refl) (omega (arith, low, few)) (λ e same. omega (arith, same, few)) ∙ is)
      (λ l small other. inode_word-kept old new changes _ only n (3 + l) low (omega (arith, small)) (λ e. omega (arith, e)) (λ here. other (omega (arith, here.1))));
  size = λ t r. size-kept old new changes _ only t (in_inodes t r) (λ here. omega (arith, here.1, few));
  ino = λ u s r kind in_size.
      word-kept old new changes _ only u (32 * s + 0) r (inr kind) (omega (arith, in_size)) (λ e. absurd (no_tree u 1 kind e)) (λ here. no_tree u 1 kind here.0);
  entry = λ u s j f r names small.
      word-kept old new changes _ only u (32 * s + f) r (inr names.directory) (omega (arith, names.in_size, small)) (λ e. absurd (no_tree u 1 names.directory e)) (λ here. no_tree u 1 names.directory here.0);
  bytes = λ u o r kind in_size. byte-kept old new changes _ only u o r kind in_size (λ here. no_tree u 0 kind here.0);
}
  where
    in_inodes : (t : ℕ) → IsReached old t → t < inode_count old
    in_inodes = reached-in_file old wf

    low : suc n < inode_count old
    low = in_inodes (suc n) reached

    no_tree : (t m : ℕ) → kind_of old t ≡ suc m → t ≢ 0
    no_tree t m kind e = let some : kind_of old 0 ≡ suc m = subst (λ x. kind_of old x ≡ suc m) e kind in omega (arith, some)
