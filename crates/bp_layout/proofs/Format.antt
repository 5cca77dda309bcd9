-- A formatted image is well-formed, of its version, and shows the root directory alone.
use Rattle.std.proofs.Common.{◌≡◌, ◌⊎◌, ℕ, zero, suc, ◌+◌, ◌*◌, ◌%◌, ◌<◌, ◌≤◌, [], ◌∷◌, false, true, length, None, Some, refl, sym, ◌∙◌, ap, subst, suc-ne-zero, arith, inl, inr}
use Rattle.bp_layout.specs.Words.{Image, word, block_count, block_of, height_of, slot_word}
use Rattle.bp_layout.specs.Tree.{HasBlock, IsSound}
use Rattle.bp_layout.specs.Inode.{attributes_of, kind_of, root_of, size_of, inode_word}
use Rattle.bp_layout.specs.Directory.{EntryNames, lookup_in, entry_count}
use Rattle.bp_layout.specs.Paths.{Name, Path, no_attributes}
use Rattle.bp_layout.specs.Reached.{IsReached}
use Rattle.bp_layout.specs.Reached.IsReached.{inode_file, root_directory, named}
use Rattle.bp_layout.specs.WellFormed.{IsWellFormed}
use Rattle.bp_layout.specs.Trees.{has_snapshot}
use Rattle.bp_layout.specs.Whole.{IsFileSystem}
use Rattle.bp_layout.proofs.NoSnapshot.{alone_file_system, has_none}
use Rattle.bp_limits.specs.declared.version.Version.{Version}
use Rattle.bp_limits.specs.declared.version.Version.TheVariants.{One, Two, Three}
use Rattle.bp_limits.specs.CallLimits.{allows_snapshot}
use Rattle.bp_limits.specs.Limits.{attribute_field, greatest_height, inode_fields, magic, max_blocks, version_at}
use Rattle.bp_limits.proofs.Versions.{fields_most, version_of_magic}
use Rattle.bp_layout.specs.Formatted.{version_of}
use Rattle.bp_layout.specs.Lookup.{shown}
use Rattle.bp_layout.specs.Paths.Node.{dir}
use Rattle.bp_layout.specs.Format.{format_stores, formatted}
use Rattle.bp_layout.proofs.AttributeLaws.{attributes_none}
use Rattle.bp_layout.proofs.LastValue.{AllWithinImage, length-after_stores, word-after_stores}
use Rattle.bp_layout.proofs.SmallTrees.{none_live, empty_sound, empty_has_none, content_word-leaf, leaf_sound, leaf_full}

-- what the words of a format say, for any image that has them
pub record HasFormat (image : Image) (version : Version) : Type 0 where
  pub has_magic : word image 0 ≡ magic version
  pub counted : word image 1 ≡ block_count image
  pub root : word image 2 ≡ 4096
  pub size : word image 3 ≡ 4096
  pub no_second_size : allows_snapshot version ≡ true → word image 5 ≡ 0
  pub root_kind : word image 520 ≡ 2
  pub root_root : word image 521 ≡ 0
  pub root_size : word image 522 ≡ 0
  pub root_attributes : (f : ℕ) → attribute_field ≤ f → f < inode_fields version → word image (520 + f) ≡ 0

-- the three words after the size are 0
all_cleared : (value : ℕ → ℕ) → value 523 ≡ 0 → value 524 ≡ 0 → value 525 ≡ 0 → (f : ℕ) → attribute_field ≤ f → f < inode_fields Three → value (520 + f) ≡ 0
all_cleared value one two three zero least most = absurd (omega (arith, least))
all_cleared value one two three (suc zero) least most = absurd (omega (arith, least))
all_cleared value one two three (suc (suc zero)) least most = absurd (omega (arith, least))
all_cleared value one two three (suc (suc (suc zero))) least most = one
all_cleared value one two three (suc (suc (suc (suc zero)))) least most = two
all_cleared value one two three (suc (suc (suc (suc (suc zero))))) least most = three
all_cleared value one two three (suc (suc (suc (suc (suc (suc f)))))) least most = absurd (omega (arith, most))

pub formatted_words : (image : Image) (version : Version) (blocks : ℕ) → length image ≡ 512 * blocks → 8 ≤ blocks → HasFormat (formatted image version blocks) version
formatted_words image One blocks whole least =
    let within : AllWithinImage (length image) (format_stores One blocks) =
    omega arith in
    let same : length (formatted image One blocks) ≡ length image = length-after_stores image (format_stores One blocks) in
    let stored = λ (place : ℕ). word-after_stores image (format_stores One blocks) place within in
    let number : blocks ≡ block_count (formatted image One blocks) = omega (arith, same) in
    record {
      has_magic = stored 0;
      counted = stored 1 ∙ number;
      root = stored 2;
      size = stored 3;
      no_second_size = λ e. absurd (cc);
      root_kind = stored 520;
      root_root = stored 521;
      root_size = stored 522;
      root_attributes = λ f least most. absurd (omega (arith, least, most));
    }
formatted_words image Two blocks whole least =
    let within : AllWithinImage (length image) (format_stores Two blocks) =
    omega arith in
    let same : length (formatted image Two blocks) ≡ length image = length-after_stores image (format_stores Two blocks) in
    let stored = λ (place : ℕ). word-after_stores image (format_stores Two blocks) place within in
    let number : blocks ≡ block_count (formatted image Two blocks) = omega (arith, same) in
    record {
      has_magic = stored 0;
      counted = stored 1 ∙ number;
      root = stored 2;
      size = stored 3;
      no_second_size = λ e. stored 5;
      root_kind = stored 520;
      root_root = stored 521;
      root_size = stored 522;
      root_attributes = λ f least most. absurd (omega (arith, least, most));
    }
formatted_words image Three blocks whole least =
    let within : AllWithinImage (length image) (format_stores Three blocks) =
    omega arith in
    let same : length (formatted image Three blocks) ≡ length image = length-after_stores image (format_stores Three blocks) in
    let stored = λ (place : ℕ). word-after_stores image (format_stores Three blocks) place within in
    let number : blocks ≡ block_count (formatted image Three blocks) = omega (arith, same) in
    record {
      has_magic = stored 0;
      counted = stored 1 ∙ number;
      root = stored 2;
      size = stored 3;
      no_second_size = λ e. stored 5;
      root_kind = stored 520;
      root_root = stored 521;
      root_size = stored 522;
      root_attributes = all_cleared (word (formatted image Three blocks)) (stored 523) (stored 524) (stored 525);
    }

module _ (image : Image) (version : Version) (has : HasFormat image version) where
  pub version-is : version_of image ≡ version
  version-is = ap version_at has.has_magic ∙ version_of_magic version

  inode_file_root : root_of image 0 ≡ 4096
  inode_file_root = has.root

  inode_file_size : size_of image 0 ≡ 4096
  inode_file_size = has.size

  inode_word-is : (f : ℕ) → f < 8 → inode_word image 1 f ≡ word image (520 + f)
  inode_word-is f few =
      let column : (8 * 1 + f) % 512 ≡ 8 + f = omega (arith, few) in
      let root : slot_word image (block_of (word image 2)) (8 + f) ≡ word image (512 + (8 + f)) = rw has.root refl in
      let place : 512 + (8 + f) ≡ 520 + f = omega arith in
      content_word-leaf image (word image 2) (8 * 1 + f) (rw has.root refl) ∙ rw column root ∙ ap (word image) place

  root_kind-is : kind_of image 1 ≡ 2
  root_kind-is = inode_word-is 0 (omega arith) ∙ has.root_kind

  pub root_size-is : size_of image 1 ≡ 0
  root_size-is = inode_word-is 2 (omega arith) ∙ has.root_size

  none_named : (i s j : ℕ) → EntryNames image i s j → (i ≡ 0) ⊎ (i ≡ 1) → ⊥
  none_named i s j n (inl e) = let two : kind_of image 0 ≡ 2 = (rw e at n.directory) in absurd (omega (arith, two))
  none_named i s j n (inr e) =
      let in_size : s < entry_count image 1 = (rw e at n.in_size) in
      omega (arith, in_size, root_size-is)

  pub two_reached : (t : ℕ) → IsReached image t → (t ≡ 0) ⊎ (t ≡ 1)
  two_reached _ inode_file = inl refl
  two_reached _ root_directory = inr refl
  two_reached _ (named {i} {j} slot r n) = absurd (none_named i slot j n (two_reached i r))

  no_name : (i s j : ℕ) → IsReached image i → EntryNames image i s j → ⊥
  no_name i s j r n = none_named i s j n (two_reached i r)

  each_tree : (P : ℕ → Type 0) → P 0 → P 1 → (t : ℕ) → IsReached image t → P t
  each_tree P zeroth first t reached = go (two_reached t reached)
    where
      go : (t ≡ 0) ⊎ (t ≡ 1) → P t
      go (inl e) = subst P (sym e) zeroth
      go (inr e) = subst P (sym e) first

  inode_file_sound : 8 ≤ block_count image → IsSound image (root_of image 0) (size_of image 0)
  inode_file_sound least = leaf_sound image (word image 2) (word image 3) (rw has.root refl) (rw has.root (omega arith)) (rw has.size (omega arith))

  root_sound : IsSound image (root_of image 1) (size_of image 1)
  root_sound = rw root_size-is (empty_sound image (root_of image 1))

  root_has_none : (b : ℕ) → HasBlock image (root_of image 1) (size_of image 1) b → ⊥
  root_has_none b has_block = empty_has_none image (root_of image 1) b (rw root_size-is at has_block)

  blocks_apart : (t u b : ℕ) → (t ≡ 0) ⊎ (t ≡ 1) → (u ≡ 0) ⊎ (u ≡ 1) →
      HasBlock image (root_of image t) (size_of image t) b → HasBlock image (root_of image u) (size_of image u) b → t ≡ u
  blocks_apart t u b (inl e) (inl f) one two = e ∙ sym f
  blocks_apart t u b (inr e) f one two = absurd (root_has_none b (subst (λ x. HasBlock image (root_of image x) (size_of image x) b) e one))
  blocks_apart t u b (inl e) (inr f) one two = absurd (root_has_none b (subst (λ x. HasBlock image (root_of image x) (size_of image x) b) f two))

  size_is : (i : ℕ) → IsReached image i → kind_of image i ≡ 2 → size_of image i ≡ 0
  size_is i r kind = go (two_reached i r)
    where
      go : (i ≡ 0) ⊎ (i ≡ 1) → size_of image i ≡ 0
      go (inl e) = let two : kind_of image 0 ≡ 2 = (rw e at kind) in absurd (omega (arith, two))
      go (inr e) = rw e root_size-is

  kind_is : (i : ℕ) → IsReached image (suc i) → kind_of image (suc i) ≡ 2
  kind_is i r = go (two_reached (suc i) r)
    where
      go : (suc i ≡ 0) ⊎ (suc i ≡ 1) → kind_of image (suc i) ≡ 2
      go (inl e) = absurd (suc-ne-zero i e)
      go (inr e) = let zeroth : i ≡ 0 = omega (arith, e) in subst (λ (n : ℕ). kind_of image (suc n) ≡ 2) (sym zeroth) root_kind-is

  low_root : (t : ℕ) → IsReached image t → 0 < size_of image t → height_of (root_of image t) ≤ greatest_height (version_of image)
  low_root = each_tree (λ t. 0 < size_of image t → height_of (root_of image t) ≤ greatest_height (version_of image))
      (λ some. rw has.root (omega arith)) (λ some. omega (arith, some, root_size-is))

  pub format_well_formed : length image ≡ 512 * block_count image → 8 ≤ block_count image → block_count image ≤ max_blocks → IsWellFormed image
  format_well_formed whole least most = record {
    formatted = record {
      sized = record { whole = whole; at_least = least; at_most = most };
      has_magic = has.has_magic ∙ ap magic (sym version-is);
      counted = has.counted;
    };
    low = low_root;
    sound = each_tree (λ t. IsSound image (root_of image t) (size_of image t)) (inode_file_sound least) root_sound;
    apart = λ t u b r q one two. blocks_apart t u b (two_reached t r) (two_reached u q) one two;
    full_inode_file = leaf_full image (word image 2) (word image 3) (rw has.root refl) (rw has.root (omega arith)) (rw has.size (omega arith));
    full_directories = λ i r kind d k live. absurd (none_live (root_of image i) d k (rw (size_is i r kind) at live));
    inode_blocks = rw has.size refl;
    some_inodes = rw has.size (omega arith);
    inos = λ i s j r n. absurd (no_name i s j r n);
    not_root = λ i s j r n. absurd (no_name i s j r n);
    named_once = λ i s k q j r p n m kind. absurd (no_name i s j r n);
    kinds = λ i r. rw (kind_is i r) (omega arith, omega arith);
    root_kind = root_kind-is;
    directory_sizes = λ i r kind. rw (size_is i r kind) refl;
    names = λ i s j r n. absurd (no_name i s j r n);
    names_once = λ i s q j k r n m e. absurd (no_name i s j r n);
  }

  finds_none : (name : Name) → lookup_in image 1 name ≡ None
  finds_none name = rw (root_kind-is, root_size-is) refl

  root_attributes-is : attributes_of image 1 ≡ no_attributes
  root_attributes-is = attributes_none image 1 (λ i f at least most.
      let few : f < inode_fields version = subst (λ v. f < inode_fields v) version-is most in
      ap (λ j. inode_word image j f) (sym at) ∙ inode_word-is f (omega (arith, few, fields_most version)) ∙ has.root_attributes f least few)

  shows_root : shown image [] ≡ Some (dir no_attributes)
  shows_root = rw root_kind-is (ap (λ a. Some (dir a)) root_attributes-is)

  shows_no_name : (name : Name) (path : Path) → shown image (name ∷ path) ≡ None
  shows_no_name name path = rw (finds_none name) refl

-- a format over any words has the magic number of its version
pub formatted_version : (image : Image) (version : Version) (blocks : ℕ) → length image ≡ 512 * blocks → 8 ≤ blocks → version_of (formatted image version blocks) ≡ version
formatted_version image version blocks whole least = version-is (formatted image version blocks) version (formatted_words image version blocks whole least)

module _ (image : Image) (version : Version) (blocks : ℕ) (whole : length image ≡ 512 * blocks) (least : 8 ≤ blocks) (most : blocks ≤ max_blocks) where
  -- it is well formed
  pub formatted_well_formed : IsWellFormed (formatted image version blocks)
  formatted_well_formed =
      let same : length (formatted image version blocks) ≡ length image = length-after_stores image (format_stores version blocks) in
      format_well_formed (formatted image version blocks) version (formatted_words image version blocks whole least) (omega (arith, same)) (omega (arith, same)) (omega (arith, same))

  -- it has no second tree
  pub formatted_alone : has_snapshot (formatted image version blocks) ≡ false
  formatted_alone =
      let has : HasFormat (formatted image version blocks) version = formatted_words image version blocks whole least in
      let is : version_of (formatted image version blocks) ≡ version = formatted_version image version blocks whole least in
      has_none (formatted image version blocks) (λ allows. has.no_second_size (ap allows_snapshot (sym is) ∙ allows))

  -- and is a file system
  pub formatted_file_system : IsFileSystem (formatted image version blocks)
  formatted_file_system = alone_file_system (formatted image version blocks) formatted_well_formed formatted_alone

  -- and shows the root directory alone
  pub shown_formatted_root : shown (formatted image version blocks) [] ≡ Some (dir no_attributes)
  shown_formatted_root = shows_root (formatted image version blocks) version (formatted_words image version blocks whole least)

  pub shown_formatted_else : (name : Name) (path : Path) → shown (formatted image version blocks) (name ∷ path) ≡ None
  shown_formatted_else = shows_no_name (formatted image version blocks) version (formatted_words image version blocks whole least)
