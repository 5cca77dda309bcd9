-- The size of the inode file is stored after the preparation of one more leaf: what that makes of the image.
use Rattle.std.proofs.Common.{◌≡◌, ◌≢◌, ℕ, zero, suc, ◌+◌, ◌-◌, ◌*◌, ◌/◌, ◌%◌, ◌<◌, List, [], refl, sym, ◌∙◌, ap, subst, set, get_or-set_same, get_or-set_other, inl, arith, suc-ne-zero, ◌≤◌}
use Rattle.bp_changes.proofs.Formatted.{low_stays, version_stays}
use Rattle.bp_layout.specs.Formatted.{version_of}
use Rattle.std.proofs.lemmas.List.{length-set}
use Rattle.bp_append.proofs.LaidLaws.{given_none}
use Rattle.bp_append.specs.Prepared.{Prepares}
use Rattle.bp_changes.specs.SameMeaning.{SameMeaning}
use Rattle.bp_layout.specs.Words.{Image, word, block_of, height_of, slot_word, byte_of}
use Rattle.bp_layout.specs.Tree.{node, tree_word, content_word, byte, HasBlock, IsSound, IsFull}
use Rattle.bp_layout.specs.Inode.{attributes_of, inode_word, kind_of, root_of, size_of}
use Rattle.bp_layout.specs.Reached.{IsReached}
use Rattle.bp_layout.specs.WellFormed.{IsWellFormed}
use Rattle.bp_layout.proofs.AttributeLaws.{attributes_alike}
use Rattle.bp_layout.proofs.TreeLaws.{KeepsPointers, slot_word-same, tree_word-zero, tree_word-suc, sound-kept, full-kept, has_block-kept, has_block-stays}
use Rattle.bp_limits.specs.Limits.{block_size, greatest_height}
use Rattle.bp_calls.specs.Growth.{AddsInodes}

-- ---- a store of the size

module _ (image : Image) (value : ℕ) where
  abbrev longer : Image
  longer = set image 3 value

  top_word : (place : ℕ) → place ≢ 3 → word longer place ≡ word image place
  top_word place other = get_or-set_other image 3 place value 0 other

  slot_stays : (b s : ℕ) → slot_word longer b s ≡ slot_word image b s
  slot_stays b s = slot_word-same image longer b s (λ present. top_word (512 * b + s) (λ e. present (omega (arith, e))))

  -- no word of a tree changes
  walk_stays : (root d k : ℕ) → tree_word longer root d k ≡ tree_word image root d k
  walk_stays root zero k = tree_word-zero longer root k ∙ sym (tree_word-zero image root k)
  walk_stays root (suc d) k =
      tree_word-suc longer root d k
      ∙ slot_stays (node longer root d (k / 512)) (k % 512)
      ∙ ap (λ w. slot_word image (block_of w) (k % 512)) (walk_stays root d (k / 512))
      ∙ sym (tree_word-suc image root d k)

  keeps : (root size : ℕ) → KeepsPointers image longer root size
  keeps root size = record { kept = λ d k live. slot_stays (node image root d (k / 512)) (k % 512) }

  content_stays : (root k : ℕ) → content_word longer root k ≡ content_word image root k
  content_stays root k = walk_stays root (suc (height_of root)) k

  byte_stays : (root o : ℕ) → byte longer root o ≡ byte image root o
  byte_stays root o = ap (λ w. byte_of w (o % 8)) (content_stays root (o / 8))

  inode_stays : (i f : ℕ) → inode_word longer i f ≡ inode_word image i f
  inode_stays i f = rw (top_word 2 (omega arith)) (content_stays (word image 2) (8 * i + f))

  kind_stays : (t : ℕ) → kind_of longer t ≡ kind_of image t
  kind_stays zero = refl
  kind_stays (suc i) = inode_stays (suc i) 0

  attributes_stay : (t : ℕ) → attributes_of longer t ≡ attributes_of image t
  attributes_stay t = attributes_alike image longer t (version_stays image longer (top_word 0 (omega arith))) (λ i f is least most. inode_stays (suc i) f)

  root_stays : (t : ℕ) → root_of longer t ≡ root_of image t
  root_stays zero = top_word 2 (omega arith)
  root_stays (suc i) = inode_stays (suc i) 1

  size_stays : (i : ℕ) → size_of longer (suc i) ≡ size_of image (suc i)
  size_stays i = inode_stays (suc i) 2

-- ---- after the preparation

module _ (old mid : Image) (taken : List ℕ) (wf : IsWellFormed old) (ready : Prepares old mid 0 (size_of old 0) (size_of old 0 + block_size) [] taken) where
  abbrev end : ℕ
  end = size_of old 0 + block_size

  abbrev new : Image
  new = set mid 3 end

  size_here : size_of new 0 ≡ end
  size_here = get_or-set_same mid 3 end 0 (omega (arith, ready.meaning.trees.whole, wf.formatted.sized.whole, wf.formatted.sized.at_least))

  word_here : (t k : ℕ) → content_word new (root_of new t) k ≡ content_word mid (root_of mid t) k
  word_here t k = rw (root_stays mid end t) (content_stays mid end (root_of mid t) k)

  byte_here : (t o : ℕ) → byte new (root_of new t) o ≡ byte mid (root_of mid t) o
  byte_here t o = rw (root_stays mid end t) (byte_stays mid end (root_of mid t) o)

  sound_here : (t size : ℕ) → IsSound mid (root_of mid t) size → IsSound new (root_of new t) size
  sound_here t size sound = rw (root_stays mid end t) (sound-kept mid new (root_of mid t) size (keeps mid end (root_of mid t) size) (length-set mid 3 end) sound)

  full_here : (t size : ℕ) → IsFull mid (root_of mid t) size → IsFull new (root_of new t) size
  full_here t size full = rw (root_stays mid end t) (full-kept mid new (root_of mid t) size (keeps mid end (root_of mid t) size) full)

  block_back : (t size b : ℕ) → HasBlock new (root_of new t) size b → HasBlock mid (root_of mid t) size b
  block_back t size b has = has_block-kept mid new (root_of mid t) size (keeps mid end (root_of mid t) size) b (subst (λ r. HasBlock new r size b) (root_stays mid end t) has)

  block_on : (t size b : ℕ) → HasBlock mid (root_of mid t) size b → HasBlock new (root_of new t) size b
  block_on t size b has = subst (λ r. HasBlock new r size b) (sym (root_stays mid end t)) (has_block-stays mid new (root_of mid t) size (keeps mid end (root_of mid t) size) b has)

  file_back : (b : ℕ) → HasBlock new (root_of new 0) (size_of new 0) b → HasBlock mid (root_of mid 0) end b
  file_back b has = block_back 0 end b (subst (λ s. HasBlock new (root_of new 0) s b) size_here has)

  file_on : (b : ℕ) → HasBlock mid (root_of mid 0) end b → HasBlock new (root_of new 0) (size_of new 0) b
  file_on b has = subst (λ s. HasBlock new (root_of new 0) s b) (sym size_here) (block_on 0 end b has)

  other_back : (i b : ℕ) → HasBlock new (root_of new (suc i)) (size_of new (suc i)) b → HasBlock mid (root_of mid (suc i)) (size_of mid (suc i)) b
  other_back i b has = block_back (suc i) (size_of mid (suc i)) b (subst (λ s. HasBlock new (root_of new (suc i)) s b) (size_stays mid end i) has)

  sound_new : (t : ℕ) → IsReached old t → IsSound new (root_of new t) (size_of new t)
  sound_new zero reached = rw size_here (sound_here 0 end ready.sound)
  sound_new (suc i) reached = rw (size_stays mid end i) (sound_here (suc i) (size_of mid (suc i)) (ready.meaning.trees.sound (suc i) reached))

  low_new : (t : ℕ) → IsReached old t → 0 < size_of new t → height_of (root_of new t) ≤ greatest_height (version_of new)
  low_new zero reached some =
      low_stays mid new (top_word mid end 0 (omega arith)) (root_of new 0) (root_of mid 0) (size_of new 0) (λ _. root_stays mid end 0) (λ _. ready.low) some
  low_new (suc i) reached some =
      low_stays mid new (top_word mid end 0 (omega arith)) (root_of new (suc i)) (root_of mid (suc i)) (size_of mid (suc i)) (λ _. root_stays mid end (suc i))
      (ready.meaning.trees.low (suc i) reached) (subst (λ z. 0 < z) (size_stays mid end i) some)

  apart_new : (t u b : ℕ) → IsReached old t → IsReached old u → HasBlock new (root_of new t) (size_of new t) b → HasBlock new (root_of new u) (size_of new u) b → t ≡ u
  apart_new zero zero b one two = λ has also. refl
  apart_new zero (suc u) b one two = λ has also. absurd (ready.apart (suc u) b two (suc-ne-zero u) (other_back u b also) (file_back b has))
  apart_new (suc t) zero b one two = λ has also. absurd (ready.apart (suc t) b one (suc-ne-zero t) (other_back t b has) (file_back b also))
  apart_new (suc t) (suc u) b one two = λ has also. ready.meaning.trees.apart (suc t) (suc u) b one two (other_back t b has) (other_back u b also)

  full_new : (i : ℕ) → IsReached old i → kind_of old i ≡ 2 → IsFull new (root_of new i) (size_of new i)
  full_new zero reached kind = absurd (omega (arith, kind))
  full_new (suc i) reached kind = rw (size_stays mid end i) (full_here (suc i) (size_of mid (suc i)) (ready.meaning.trees.full_directories (suc i) reached kind))

  meaning : SameMeaning old new
  meaning = record {
    trees = record {
      whole = length-set mid 3 end ∙ ready.meaning.trees.whole;
      has_magic = top_word mid end 0 (omega arith) ∙ ready.meaning.trees.has_magic;
      counted = top_word mid end 1 (omega arith) ∙ ready.meaning.trees.counted;
      low = low_new;
      sound = sound_new;
      apart = apart_new;
      full_inode_file = rw size_here (full_here 0 end (ready.full (inl refl)));
      full_directories = full_new;
    };
    kind = λ t r. kind_stays mid end t ∙ ready.meaning.kind t r;
    attributes = λ t r. attributes_stay mid end t ∙ ready.meaning.attributes t r;
    size = λ i r. size_stays mid end i ∙ ready.meaning.size i r;
    inode_blocks = rw size_here (omega (arith, wf.inode_blocks));
    inodes = omega (arith, size_here);
    ino = λ i s r kind low. word_here i (32 * s + 0) ∙ ready.meaning.ino i s r kind low;
    entry = λ i s j f r n few. word_here i (32 * s + f) ∙ ready.meaning.entry i s j f r n few;
    bytes = λ i o r kind low. byte_here i o ∙ ready.meaning.bytes i o r kind low;
  }

  pub adds_inodes : AddsInodes old new taken
  adds_inodes = record {
    meaning = meaning;
    size = size_here;
    height = ap height_of (root_stays mid end 0) ∙ rw size_here ready.height;
    kept = λ o low. byte_here 0 o ∙ ready.kept o low;
    zeros = λ o past low. byte_here 0 o ∙ ready.bytes_are o past (rw size_here at low) ∙ given_none (size_of old 0) o;
    blocks = λ b has. ready.blocks b (file_back b has);
    has_old = λ b has. file_on b (ready.has_old b has);
    has_taken = λ b took. file_on b (ready.has_taken b took);
    nodes = λ d k live present. rw (root_stays mid end 0) (ap block_of (walk_stays mid end (root_of mid 0) (height_of (root_of mid 0) - height_of (root_of old 0) + d) k)) ∙ ready.nodes d k live present;
    roots = λ u r other. root_stays mid end u ∙ ready.roots u r other;
    words = λ u d k r other live. rw (root_stays mid end u) (walk_stays mid end (root_of mid u) (suc d) k) ∙ ready.others u d k r other live (λ e. absurd (other e));
  }
