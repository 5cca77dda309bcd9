-- A tree whose links are done except for its root word, and what the store of that makes of the image.
use Rattle.std.proofs.Common.{◌≡◌, ◌≢◌, ◌⊎◌, ℕ, suc, ◌+◌, ◌-◌, ◌*◌, ◌/◌, ◌%◌, ◌<◌, ◌≤◌, List, length, set, get_or, refl, sym, ◌∙◌, ap, subst₂, arith, inl, inr, get_or-set_other, lt_of_lt_of_le, le_trans}
use Rattle.std.proofs.lemmas.List.{length-set}
use Rattle.bp_layout.proofs.MemberLaws.{each-has}
use Rattle.bp_limits.specs.Limits.{greatest_height}
use Rattle.bp_limits.specs.CallLimits.{greatest_size}
use Rattle.bp_layout.specs.Formatted.{version_of}
use Rattle.bp_layout.specs.Words.{Image, block_of, height_of, slot_word, byte_of}
use Rattle.bp_layout.specs.Tree.{node, tree_word, byte, IsLivePointer, IsLiveWord, HasBlock, IsSound, IsFull}
use Rattle.bp_layout.specs.Inode.{root_of, size_of, inode_count, RootPlace}
use Rattle.bp_layout.specs.Reached.{IsReached, IsLiveBlock}
use Rattle.bp_layout.specs.Reached.IsReached.{inode_file}
use Rattle.bp_layout.specs.WellFormed.{IsWellFormed}
use Rattle.bp_changes.specs.SameContent.{IsReadByWords, ReadsAs}
use Rattle.bp_changes.specs.SameMeaning.{SameMeaning}
use Rattle.bp_layout.specs.Inode.RootPlace.{top, inode}
use Rattle.bp_layout.specs.Nodes.{height_with}
use Rattle.bp_layout.specs.Members.{Has, Each}
use Rattle.bp_layout.proofs.TreeLaws.{KeepsPointers, node-kept, has_block-kept, tree_word-suc, live_above, live_pointer_word, live_content, slot_word-same}
use Rattle.bp_layout.proofs.Reached.{reached-in_file}
use Rattle.bp_changes.proofs.Separation.{SameWord, one_place_in_nodes}
use Rattle.bp_changes.proofs.Formatted.{version_stays}
use Rattle.bp_changes.proofs.ReachedOn.{reached_on, meaning_on}
use Rattle.bp_changes.proofs.Reshape as reshape
use Rattle.bp_changes.proofs.Roots.{reads_self, null_tree, null_words}
use Rattle.bp_changes.proofs.RootLink.{root_reshapes, beside}
use Rattle.bp_append.specs.Given.{given}
use Rattle.bp_append.specs.Built.{IsBuilt}
use Rattle.bp_append.specs.Prepared.{Prepares}
use Rattle.bp_append.proofs.ChildrenLaws.{built_kept}
use Rattle.bp_append.proofs.NeedLaws.{tall_most}

-- ---- a new tree in the place of none

live_larger : (root small large d k : ℕ) → small ≤ large → IsLivePointer root small d k → IsLivePointer root large d k
live_larger root small large d k fits live = record { level = live.level; height = live.height; live = lt_of_lt_of_le live.live fits }

sound_smaller : (image : Image) (root small large : ℕ) → small ≤ large → IsSound image root large → IsSound image root small
sound_smaller image root small large fits sound = record {
  low = λ some. sound.low (lt_of_lt_of_le some fits);
  root_bits = λ some. sound.root_bits (lt_of_lt_of_le some fits);
  pointer_bits = λ d k live. sound.pointer_bits d k (live_larger root small large (suc d) k fits live);
  in_range = λ d k live. sound.in_range d k (live_larger root small large d k fits live);
  once = λ d k e l live also. sound.once d k e l (live_larger root small large d k fits live) (live_larger root small large e l fits also);
  fits = le_trans fits sound.fits;
}

block_larger : (image : Image) (root small large b : ℕ) → small ≤ large → HasBlock image root small b → HasBlock image root large b
block_larger image root small large b fits has =
    record { depth = has.depth; index = has.index; pointer = live_larger root small large has.depth has.index fits has.pointer; named = has.named; not_null = has.not_null }

pub null_byte : (image : Image) (root o : ℕ) → block_of root ≡ 0 → byte image root o ≡ 0
null_byte image root o null = ap (λ w. byte_of w (o % 8)) (null_words image root null (height_of root) (o / 8)) ∙ zero_byte (o % 8)
  where
    zero_byte : (c : ℕ) → byte_of 0 c ≡ 0
    zero_byte c = omega arith

pub built_reads : (ByWords : Type 0) (image : Image) (size to root other : ℕ) (bytes : ℕ → ℕ) (taken : List ℕ) (Full : Type 0) → (ByWords → size ≡ 0) → size ≤ to → (size ≡ 0) ⊎ (block_of root ≡ 0) → IsBuilt image other to bytes (Has taken) Full →
    Each (λ b. IsLiveBlock image b → ⊥) taken → ((i : ℕ) → i < size → bytes i ≡ 0) → height_of other ≤ greatest_height (version_of image) → ReadsAs ByWords image size root other
built_reads ByWords image size to root other bytes taken Full file fits null built free zeros low = record {
  sound = sound_smaller image other size to fits built.sound;
  low = λ some. low;
  content = record {
    words = λ by k low. absurd (omega (arith, low, file by));
    bytes = λ o low. built.bytes_are o (lt_of_lt_of_le low fits) ∙ zeros o low ∙ sym (zero_old o low null);
  };
  blocks = λ b has. inr (each-has (λ c. IsLiveBlock image c → ⊥) taken b free (built.blocks b (block_larger image other size to b fits has)));
  full = λ full. full_of full null;
}
  where
    zero_old : (o : ℕ) → o < size → (size ≡ 0) ⊎ (block_of root ≡ 0) → byte image root o ≡ 0
    zero_old o low (inl e) = absurd (omega (arith, low, e))
    zero_old o low (inr e) = null_byte image root o e

    full_of : IsFull image root size → (size ≡ 0) ⊎ (block_of root ≡ 0) → IsFull image other size
    full_of full (inl e) = λ d k live. absurd (omega (arith, live.live, e))
    full_of full (inr e) = λ d k live is_null. full 0 0 (record { level = height_of root; height = omega arith; live = omega (arith, live.live) }) (null_tree image root e 0 0)

-- ---- the store of the root word

-- The image means the same as the old one, and the root word reads as that of the tree.
pub record HasRootReady (old image : Image) (t place root : ℕ) : Type 0 where
  pub meaning : SameMeaning old image
  pub well : IsWellFormed image
  pub reached : IsReached image t
  pub at : RootPlace image t place
  pub reads : ReadsAs (IsReadByWords image t) image (size_of image t) (root_of image t) root
  pub sizes : (u : ℕ) → IsReached old u → size_of image u ≡ size_of old u
  pub roots : (u : ℕ) → IsReached old u → u ≢ t → root_of image u ≡ root_of old u

module _ (old image : Image) (wf : IsWellFormed old) (t place other from to : ℕ) (raw taken : List ℕ) (reached : IsReached old t)
    (at : RootPlace old t place) (ready : HasRootReady old image t place other) (free : Each (λ b. IsLiveBlock old b → ⊥) taken) where
  abbrev last : Image
  last = set image place other

  shape : reshape.Reshapes image last t other
  shape = root_reshapes image ready.well t place other ready.reached ready.at ready.reads

  -- the root word stands in none of the blocks
  place_beside : (b s : ℕ) → b ≢ 0 → s < 512 → HasBlock old (root_of old t) (size_of old t) b ⊎ (IsLiveBlock old b → ⊥) → 512 * b + s ≢ place
  place_beside = beside old wf t place (root_of old t) reached at (reads_self (IsReadByWords old t) old (size_of old t) (root_of old t) (wf.sound t reached) (wf.low t reached))

  whole : length last ≡ length image
  whole = length-set image place other

  module _ (bytes : ℕ → ℕ) (Full : Type 0) (built : IsBuilt image other to bytes (λ b. HasBlock old (root_of old t) (size_of old t) b ⊎ Has taken b) Full)
      (kept : (o : ℕ) → o < size_of old t → bytes o ≡ byte old (root_of old t) o)
      (past_end : (o : ℕ) → size_of old t ≤ o → o < to → bytes o ≡ given from raw o) (full : IsReadByWords old t → Full)
      (height : height_of other ≡ height_with (root_of old t) (size_of old t) to) (fits : to ≤ greatest_size (version_of old))
      (order : size_of old t ≤ to)
      (frame : (u b k : ℕ) → IsReached old u → u ≢ t → HasBlock old (root_of old u) (size_of old u) b → k < 512 → 512 * b + k ≢ place → get_or last (512 * b + k) 0 ≡ get_or old (512 * b + k) 0)
      (nodes : (d k : ℕ) → IsLivePointer (root_of old t) (size_of old t) d k → node old (root_of old t) d k ≢ 0 → node last other (height_of other - height_of (root_of old t) + d) k ≡ node old (root_of old t) d k) where
    member_free : (b : ℕ) → HasBlock old (root_of old t) (size_of old t) b ⊎ Has taken b → HasBlock old (root_of old t) (size_of old t) b ⊎ (IsLiveBlock old b → ⊥)
    member_free b m = elim m [ inl has ↦ inl has | inr t ↦ inr (each-has (λ c. IsLiveBlock old c → ⊥) taken b free t) ]

    tree_last : IsBuilt last other to bytes (λ b. HasBlock old (root_of old t) (size_of old t) b ⊎ Has taken b) Full
    tree_last = built_kept image last whole
        (λ b s m few. slot_word-same image last b s (λ present. get_or-set_other image place (512 * b + s) other 0 (place_beside b s present few (member_free b m)))) built

    meaning_last : SameMeaning old last
    meaning_last = meaning_on old image last ready.meaning (reshape.reshaped_meaning image last ready.well t other shape)

    roots_last : (u : ℕ) → IsReached old u → u ≢ t → root_of last u ≡ root_of old u
    roots_last u r away = reshape.root-same image last ready.well t other shape u (reached_on old image ready.meaning u r) away ∙ ready.roots u r away

    sizes_last : (u : ℕ) → IsReached old u → size_of last u ≡ size_of old u
    sizes_last u r = reshape.size-same image last ready.well t other shape u (reached_on old image ready.meaning u r) ∙ ready.sizes u r

    -- ---- the other trees

    module _ (u : ℕ) (other_reached : IsReached old u) (away : u ≢ t) where
      -- a word of another tree stands at the place only where it is the root word
      not_root : (d k : ℕ) → IsLiveWord (root_of old u) (size_of old u) (suc d) k → ((u ≡ 0) → (d ≡ height_of (root_of old 0)) → (k ≡ 8 * t + 1) → ⊥) → node old (root_of old u) d (k / 512) ≢ 0 →
          512 * node old (root_of old u) d (k / 512) + k % 512 ≢ place
      not_root d k live out present here = go at
        where
          go : RootPlace old t place → ⊥
          go (top first two) = present (omega (arith, here, two))
          go (inode some stands) =
              let in_file : t < inode_count old = reached-in_file old wf t reached in
              let below : 8 * (8 * t + 1) < size_of old 0 = omega (arith, in_file) in
              let same : SameWord u d k 0 (height_of (root_of old 0)) (8 * t + 1) =
              one_place_in_nodes old wf u d k 0 (height_of (root_of old 0)) (8 * t + 1) place other_reached inode_file (live_above _ _ d k live) (live_above _ _ (height_of (root_of old 0)) (8 * t + 1) (live_content _ _ (8 * t + 1) below))
              (record { present = present; at = here }) stands in
              out same.tree same.depth same.index

      same_slot : (d k : ℕ) → IsLiveWord (root_of old u) (size_of old u) (suc d) k → ((u ≡ 0) → (d ≡ height_of (root_of old 0)) → (k ≡ 8 * t + 1) → ⊥) →
          slot_word last (node old (root_of old u) d (k / 512)) (k % 512) ≡ slot_word old (node old (root_of old u) d (k / 512)) (k % 512)
      same_slot d k live out = slot_word-same old last (node old (root_of old u) d (k / 512)) (k % 512) (λ present.
          frame u (node old (root_of old u) d (k / 512)) (k % 512) other_reached away (record { depth = d; index = k / 512; pointer = live_above _ _ d k live; named = refl; not_null = present }) (omega arith) (not_root d k live out present))

      same_pointers : KeepsPointers old last (root_of old u) (size_of old u)
      same_pointers = record { kept = λ d k live. same_slot d k (live_pointer_word _ _ (suc d) k live) (λ e deep number. above_content d live (ap (λ x. height_of (root_of old x)) e) deep) }
        where
          above_content : (d : ℕ) {k : ℕ} → IsLivePointer (root_of old u) (size_of old u) (suc d) k → height_of (root_of old u) ≡ height_of (root_of old 0) → d ≡ height_of (root_of old 0) → ⊥
          above_content d live same deep = omega (arith, live.height, same, deep)

      others_last : (d k : ℕ) → IsLiveWord (root_of old u) (size_of old u) (suc d) k → ((u ≡ 0) → (d ≡ height_of (root_of old 0)) → (k ≡ 8 * t + 1) → ⊥) → tree_word last (root_of last u) (suc d) k ≡ tree_word old (root_of old u) (suc d) k
      others_last d k live out =
          ap (λ r. tree_word last r (suc d) k) (roots_last u other_reached away)
          ∙ tree_word-suc last (root_of old u) d k
          ∙ ap (λ b. slot_word last b (k % 512)) (node-kept old last (root_of old u) (size_of old u) same_pointers d (k / 512) (live_above _ _ d k live))
          ∙ same_slot d k live out
          ∙ sym (tree_word-suc old (root_of old u) d k)

      -- no block is in two trees
      apart_last : (b : ℕ) → HasBlock last (root_of last u) (size_of last u) b → HasBlock last other to b → ⊥
      apart_last b has mine =
          let before : HasBlock old (root_of old u) (size_of old u) b = has_block-kept old last (root_of old u) (size_of old u) same_pointers b (subst₂ (λ r z. HasBlock last r z b) (roots_last u other_reached away) (sizes_last u other_reached) has) in
          elim (tree_last.blocks b mine) [
            | inl own ↦ away (wf.apart u t b other_reached reached before own)
            | inr new ↦ each-has (λ c. IsLiveBlock old c → ⊥) taken b free new (record { tree = u; reached = other_reached; has = before })
          ]

    pub prepared : Prepares old last t from to raw taken
    prepared = record {
      meaning = meaning_last;
      height = rw shape.here height;
      low = rw (shape.here, version_stays old last meaning_last.trees.has_magic, height) (tall_most (version_of old) (root_of old t) (size_of old t) to (wf.low t reached) fits);
      kept = λ o low. rw shape.here (tree_last.bytes_are o (lt_of_lt_of_le low order) ∙ kept o low);
      bytes_are = λ o above below. rw shape.here (tree_last.bytes_are o below ∙ past_end o above below);
      sound = rw shape.here tree_last.sound;
      full = λ by. rw shape.here (tree_last.full (full by));
      blocks = λ b has. tree_last.blocks b (rw shape.here at has);
      has_old = λ b has. rw shape.here (tree_last.has b (inl has));
      has_taken = λ b m. rw shape.here (tree_last.has b (inr m));
      nodes = λ d k live present. rw shape.here (nodes d k live present);
      sizes = sizes_last;
      roots = roots_last;
      apart = λ u b r away has mine. apart_last u r away b has (rw shape.here at mine);
      others = λ u d k r away live out. others_last u r away d k live out;
    }
