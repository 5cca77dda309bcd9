-- A free subtree of zeros is hung in the place of a null pointer: the image means the same.
use Rattle.std.proofs.Common.{◌≡◌, ◌≢◌, ◌⊎◌, ℕ, zero, suc, ◌+◌, ◌*◌, ◌/◌, ◌%◌, ◌<◌, set, refl, sym, ◌∙◌, ap, subst, subst₂, arith, inl, inr, get_or-set_other}
use Rattle.std.proofs.lemmas.Bool.{cases_eq}
use Rattle.std.proofs.lemmas.List.{length-set}
use Rattle.bp_layout.specs.Words.{Image, word, block_count, block_of, height_of, slot_word, byte_of}
use Rattle.bp_layout.specs.Tree.{tree_word, node, content_word, byte, IsLiveWord, IsLivePointer, HasBlock}
use Rattle.bp_layout.specs.Inode.{root_of, size_of, inode_count}
use Rattle.bp_layout.specs.Reached.{IsReached, IsLiveBlock}
use Rattle.bp_layout.specs.Reached.IsReached.{inode_file}
use Rattle.bp_layout.specs.WellFormed.{IsWellFormed}
use Rattle.bp_layout.proofs.TreeLaws.{KeepsPointers, content-kept, slot_word-same, tree_word-suc, tree_word-zero, live_above, live_pointer_word, live_content}
use Rattle.bp_layout.proofs.Reached.{reached-in_file}
use Rattle.bp_changes.proofs.Separation.{stands_in_block}
use Rattle.bp_changes.proofs.ContentStore.{word-stored, word-elsewhere}
use Rattle.bp_changes.specs.SameContent.{SameContent, IsReadByWords}
use Rattle.bp_changes.specs.Links.{IsUnder, CanHang}
use Rattle.bp_changes.specs.Links.IsUnder.{here, under}
use Rattle.bp_changes.proofs.Reshape.{Reshapes}
use Rattle.bp_changes.proofs.RootLink.{inode_root}

pub below_depth : (d k e l q : ℕ) → IsUnder d k e l q → e ≡ suc d + q
below_depth d k e l _ (here at index) = omega (arith, at)
below_depth d k _ _ _ (under {e} {l} {r = q} b) = let at : e ≡ suc d + q = below_depth d k e (l / 512) q b in omega (arith, at)

pub data Where (d k e l : ℕ) : Type 0 where
  is_below : (q : ℕ) → IsUnder d k e l q → Where d k e l
  is_not : ((q : ℕ) → IsUnder d k e l q → ⊥) → Where d k e l

pub below_or : (d k e l : ℕ) → Where d k e l
below_or d k zero l = is_not (λ q b. let at : 0 ≡ suc d + q = below_depth d k 0 l q b in absurd (omega (arith, at)))
below_or d k (suc e) l = go (below_or d k e (l / 512)) (cases_eq e d) (cases_eq l k)
  where
    neither : ((q : ℕ) → IsUnder d k e (l / 512) q → ⊥) → ((e ≡ d) → (l ≡ k) → ⊥) → (f q : ℕ) → f ≡ suc e → IsUnder d k f l q → ⊥
    neither out away f _ same (here at index) = away (omega (arith, at, same)) index
    neither out away _ _ same (under {e = f} {r = q} b) = out q (subst (λ x. IsUnder d k x (l / 512) q) (omega (arith, same)) b)

    go : Where d k e (l / 512) → (e ≡ d) ⊎ (e ≡ d → ⊥) → (l ≡ k) ⊎ (l ≡ k → ⊥) → Where d k (suc e) l
    go (is_below q b) one two = is_below (suc q) (under b)
    go (is_not out) (inl one) (inl two) = is_below 0 (here (ap suc one) two)
    go (is_not out) (inl one) (inr two) = is_not (λ q b. neither out (λ x y. two y) (suc e) q refl b)
    go (is_not out) (inr one) two = is_not (λ q b. neither out (λ x y. one x) (suc e) q refl b)

-- under a null all is null
pub null_below : (image : Image) (root d k : ℕ) → node image root (suc d) k ≡ 0 → (e l q : ℕ) → IsUnder d k e l q → node image root e l ≡ 0
null_below image root d k null e l _ (here at index) = subst₂ (λ x y. node image root x y ≡ 0) (sym at) (sym index) null
null_below image root d k null _ _ _ (under {e} {l} {r = q} b) =
    let up : node image root e (l / 512) ≡ 0 = null_below image root d k null e (l / 512) q b in
    ap block_of (tree_word-suc image root e l ∙ ap (λ x. slot_word image x (l % 512)) up)

module _ (old : Image) (wf : IsWellFormed old) (t d k place block : ℕ) (hang : CanHang old t d k place block) where
  abbrev r : ℕ
  r = root_of old t

  abbrev s : ℕ
  s = size_of old t

  abbrev new : Image
  new = set old place (4096 * block)

  the_word : IsLiveWord (root_of old t) (size_of old t) (suc d) k
  the_word = live_pointer_word (root_of old t) (size_of old t) (suc d) k hang.live

  pub inode : t ≢ 0
  inode e = wf.full_inode_file (suc d) k
      (subst (λ x. IsLivePointer (root_of old x) (size_of old x) (suc d) k) e hang.live)
      (subst (λ x. node old (root_of old x) (suc d) k ≡ 0) e hang.null)

  elsewhere : (u e l : ℕ) → IsReached old u → IsLiveWord (root_of old u) (size_of old u) (suc e) l → ((t ≡ u) → (d ≡ e) → (k ≡ l) → ⊥) →
      slot_word new (node old (root_of old u) e (l / 512)) (l % 512) ≡ slot_word old (node old (root_of old u) e (l / 512)) (l % 512)
  elsewhere u e l reached live apart =
      word-elsewhere old wf t d k place (4096 * block) hang.reached the_word hang.stands u e l reached live (λ same. apart same.tree same.depth same.index)

  -- a word beside the subtree
  outside : (e l : ℕ) → IsLiveWord r s e l → ((q : ℕ) → IsUnder d k e l q → ⊥) → tree_word new r e l ≡ tree_word old r e l
  outside zero l live out = tree_word-zero new r l ∙ sym (tree_word-zero old r l)
  outside (suc e) l live out =
      let up : tree_word new r e (l / 512) ≡ tree_word old r e (l / 512) =
      outside e (l / 512) (live_pointer_word r s e (l / 512) (live_above r s e l live)) (λ q b. out (suc q) (under b)) in
      tree_word-suc new r e l
      ∙ ap (λ p. slot_word new (block_of p) (l % 512)) up
      ∙ elsewhere t e l hang.reached live (λ x y z. out 0 (here (ap suc (sym y)) (sym z)))
      ∙ sym (tree_word-suc old r e l)

  -- a word of a free block
  pub free_stays : (b c : ℕ) → c < 512 → (b ≢ 0 → IsLiveBlock old b → ⊥) → slot_word new b c ≡ slot_word old b c
  free_stays b c low free = slot_word-same old new b c (λ present. get_or-set_other old place _ (4096 * block) 0 (λ at.
      let same : b ≡ node old r d (k / 512) = omega (arith, at, hang.stands.at, low) in
      free present (record { tree = t; reached = hang.reached; has = subst (HasBlock old r s) (sym same) (stands_in_block old t d k place hang.stands the_word) })))

  top_word : tree_word new r (suc d) k ≡ 4096 * block
  top_word =
      tree_word-suc new r d k
      ∙ ap (λ p. slot_word new (block_of p) (k % 512)) (outside d (k / 512) (live_pointer_word r s d (k / 512) (live_above r s d k the_word))
      (λ q b. let deep : d ≡ suc d + q = below_depth d k d (k / 512) q b in absurd (omega (arith, deep))))
      ∙ word-stored old wf t d k place (4096 * block) hang.reached the_word hang.stands

  -- a word in the subtree
  inside_word : (e l q : ℕ) → IsUnder d k e (l / 512) q → IsLiveWord r s (suc e) l → node new r e (l / 512) ≡ node old (4096 * block) q (l / 512) →
      tree_word new r (suc e) l ≡ tree_word old (4096 * block) (suc q) l
  inside_word e l q b live up =
      tree_word-suc new r e l
      ∙ ap (λ x. slot_word new x (l % 512)) up
      ∙ free_stays _ (l % 512) (omega arith) (λ present. hang.free e (l / 512) q b (live_above r s e l live) present)
      ∙ sym (tree_word-suc old (4096 * block) q l)

  inside : (e l q : ℕ) → IsUnder d k e l q → IsLivePointer r s e l → node new r e l ≡ node old (4096 * block) q l
  inside e l _ (here at index) live =
      ap block_of (subst₂ (λ x y. tree_word new r x y ≡ 4096 * block) (sym at) (sym index) top_word ∙ sym (tree_word-zero old (4096 * block) l))
  inside _ _ _ (under {e} {l} {r = q} b) live =
      let word : IsLiveWord r s (suc e) l = live_pointer_word r s (suc e) l live in
      ap block_of (inside_word e l q b word (inside e (l / 512) q b (live_above r s e l word)))

  node_outside : (e l : ℕ) → IsLivePointer r s e l → ((q : ℕ) → IsUnder d k e l q → ⊥) → node new r e l ≡ node old r e l
  node_outside e l live out = ap block_of (outside e l (live_pointer_word r s e l live) out)

  pointer_bits : (e l : ℕ) → IsLivePointer r s (suc e) l → tree_word new r (suc e) l % 4096 ≡ 0
  pointer_bits e l live = go (below_or d k (suc e) l)
    where
      go_below : (f q : ℕ) → f ≡ suc e → IsUnder d k f l q → tree_word new r f l % 4096 ≡ 0
      go_below f _ same (here at index) =
          let word : tree_word new r f l ≡ 4096 * block = subst₂ (λ x y. tree_word new r x y ≡ 4096 * block) (sym at) (sym index) top_word in
          omega (arith, word)
      go_below _ _ same (under {e = f} {r = q} b) =
          let here_live : IsLivePointer r s (suc f) l = subst (λ x. IsLivePointer r s x l) (sym same) live in
          let word : IsLiveWord r s (suc f) l = live_pointer_word r s (suc f) l here_live in
          rw (inside_word f l q b word (inside f (l / 512) q b (live_above r s f l word))) (hang.bits f l q b here_live)

      go : Where d k (suc e) l → tree_word new r (suc e) l % 4096 ≡ 0
      go (is_below q b) = go_below (suc e) q refl b
      go (is_not out) = rw (outside (suc e) l (live_pointer_word r s (suc e) l live) out) ((wf.sound t hang.reached).pointer_bits e l live)

  in_range : (e l : ℕ) → IsLivePointer r s e l → node new r e l < block_count new
  in_range e l live = go (below_or d k e l)
    where
      go : Where d k e l → node new r e l < block_count new
      go (is_below q b) = rw (inside e l q b live, length-set old place (4096 * block)) (hang.in_range e l q b live)
      go (is_not out) = rw (node_outside e l live out, length-set old place (4096 * block)) ((wf.sound t hang.reached).in_range e l live)

  -- a block of the subtree is no live one
  apart : (e l q f m : ℕ) → IsUnder d k e l q → IsLivePointer r s e l → IsLivePointer r s f m → node old (4096 * block) q l ≢ 0 → node old (4096 * block) q l ≡ node old r f m → ⊥
  apart e l q f m b live also present same =
      hang.free e l q b live present (record { tree = t; reached = hang.reached; has = record { depth = f; index = m; pointer = also; named = sym same; not_null = present } })

  once : (e l f m : ℕ) → IsLivePointer r s e l → IsLivePointer r s f m → node new r e l ≢ 0 → node new r e l ≡ node new r f m → (e ≡ f) × (l ≡ m)
  once e l f m live also present same = go (below_or d k e l) (below_or d k f m)
    where
      go : Where d k e l → Where d k f m → (e ≡ f) × (l ≡ m)
      go (is_below q b) (is_below p c) =
          let one = inside e l q b live in
          let two = inside f m p c also in
          hang.once e l q f m p b c live also (λ null. present (one ∙ null)) (sym one ∙ same ∙ two)
      go (is_below q b) (is_not out) =
          let one = inside e l q b live in
          absurd (apart e l q f m b live also (λ null. present (one ∙ null)) (sym one ∙ same ∙ node_outside f m also out))
      go (is_not out) (is_below p c) =
          let two = inside f m p c also in
          absurd (apart f m p e l c also live (λ null. present (same ∙ two ∙ null)) (sym two ∙ sym same ∙ node_outside e l live out))
      go (is_not out) (is_not none) =
          let one = node_outside e l live out in
          let two = node_outside f m also none in
          (wf.sound t hang.reached).once e l f m live also (λ null. present (one ∙ null)) (sym one ∙ same ∙ two)

  -- a content word: the same, or in the subtree and one of the null's
  data Content (l : ℕ) : Type 0 where
    stays : content_word new r l ≡ content_word old r l → Content l
    hung : (q : ℕ) → IsUnder d k (height_of r) (l / 512) q → content_word new r l ≡ tree_word old (4096 * block) (suc q) l → content_word old r l ≡ 0 → Content l

  content_at : (l : ℕ) → 8 * l < s → Content l
  content_at l below = go (below_or d k (suc (height_of r)) l)
    where
      go_below : (f q : ℕ) → f ≡ suc (height_of r) → IsUnder d k f l q → Content l
      go_below f _ same (here at index) = absurd (omega (arith, at, same, hang.live.height))
      go_below _ _ same (under {e = f} {r = q} b) =
          let height : f ≡ height_of r = omega (arith, same) in
          let row : IsUnder d k (height_of r) (l / 512) q = subst (λ x. IsUnder d k x (l / 512) q) height b in
          let word : IsLiveWord r s (suc (height_of r)) l = live_content r s l below in
          let null : node old r (height_of r) (l / 512) ≡ 0 = null_below old r d k hang.null (height_of r) (l / 512) q row in
          hung q row
          (inside_word (height_of r) l q row word (inside (height_of r) (l / 512) q row (live_above r s (height_of r) l word)))
          (tree_word-suc old r (height_of r) l ∙ ap (λ x. slot_word old x (l % 512)) null)

      go : Where d k (suc (height_of r)) l → Content l
      go (is_below q b) = go_below (suc (height_of r)) q refl b
      go (is_not out) = stays (outside (suc (height_of r)) l (live_content r s l below) out)

  zero_byte : (c : ℕ) → byte_of 0 c ≡ 0
  zero_byte c = omega arith

  pub same_content : SameContent (IsReadByWords old t) old new s r r
  same_content = record {
    words = λ exact l below. absurd (not_exact exact);
    bytes = λ o below. one_byte o below (content_at (o / 8) (omega (arith, below)));
  }
    where
      -- these have no null
      not_exact : IsReadByWords old t → ⊥
      not_exact (inl top) = inode top
      not_exact (inr directory) = wf.full_directories t hang.reached directory (suc d) k hang.live hang.null

      one_byte : (o : ℕ) → o < s → Content (o / 8) → byte new r o ≡ byte old r o
      one_byte o below (stays same) = ap (λ w. byte_of w (o % 8)) same
      one_byte o below (hung q row word null) =
          ap (λ w. byte_of w (o % 8)) word ∙ hang.zero_bytes o q row below ∙ sym (ap (λ w. byte_of w (o % 8)) null ∙ zero_byte (o % 8))

  blocks : (b : ℕ) → HasBlock new r s b → HasBlock old r s b ⊎ (IsLiveBlock old b → ⊥)
  blocks b has = go (below_or d k has.depth has.index)
    where
      go : Where d k has.depth has.index → HasBlock old r s b ⊎ (IsLiveBlock old b → ⊥)
      go (is_below q c) =
          let same : node old (4096 * block) q has.index ≡ b = sym (inside has.depth has.index q c has.pointer) ∙ has.named in
          inr (subst (λ x. IsLiveBlock old x → ⊥) same (hang.free has.depth has.index q c has.pointer (λ null. has.not_null (sym same ∙ null))))
      go (is_not out) = inl (record {
        depth = has.depth;
        index = has.index;
        pointer = has.pointer;
        named = sym (node_outside has.depth has.index has.pointer out) ∙ has.named;
        not_null = has.not_null;
      })

  -- a block of the subtree
  pub record InSubtree (b : ℕ) : Type 0 where
    pub depth : ℕ
    pub index : ℕ
    pub rank : ℕ
    pub below : IsUnder d k depth index rank
    pub pointer : IsLivePointer r s depth index
    pub named : node old (4096 * block) rank index ≡ b
    pub not_null : b ≢ 0

  pub hung_blocks : (b : ℕ) → HasBlock new r s b → HasBlock old r s b ⊎ InSubtree b
  hung_blocks b has = go (below_or d k has.depth has.index)
    where
      go : Where d k has.depth has.index → HasBlock old r s b ⊎ InSubtree b
      go (is_below q c) = inr (record {
        depth = has.depth;
        index = has.index;
        rank = q;
        below = c;
        pointer = has.pointer;
        named = sym (inside has.depth has.index q c has.pointer) ∙ has.named;
        not_null = has.not_null;
      })
      go (is_not out) = inl (record {
        depth = has.depth;
        index = has.index;
        pointer = has.pointer;
        named = sym (node_outside has.depth has.index has.pointer out) ∙ has.named;
        not_null = has.not_null;
      })

  pub low_words : (p : ℕ) → p < 512 → word new p ≡ word old p
  low_words p low = get_or-set_other old place p (4096 * block) 0 (λ e. hang.stands.present (omega (arith, hang.stands.at, e, low)))

  pub same_root : root_of new t ≡ r
  same_root =
      let in_file : t < inode_count old = reached-in_file old wf t hang.reached in
      let below : 8 * (8 * t + 1) < size_of old 0 = omega (arith, in_file) in
      let two : word new 2 ≡ word old 2 = low_words 2 (omega arith) in
      let keeps : KeepsPointers old new (root_of old 0) (size_of old 0) =
      record { kept = λ e l live. elsewhere 0 e l inode_file (live_pointer_word _ _ (suc e) l live) (λ x y z. inode x) } in
      inode_root new t inode
      ∙ rw two (content-kept old new (root_of old 0) (size_of old 0) keeps (8 * t + 1) below
      ∙ elsewhere 0 (height_of (root_of old 0)) (8 * t + 1) inode_file (live_content _ _ (8 * t + 1) below) (λ x y z. inode x)
      ∙ sym (tree_word-suc old (root_of old 0) (height_of (root_of old 0)) (8 * t + 1)))
      ∙ sym (inode_root old t inode)

  pub hung_reshapes : Reshapes old new t r
  hung_reshapes = record {
    reached = hang.reached;
    whole = length-set old place (4096 * block);
    has_magic = low_words 0 (omega arith);
    counted = low_words 1 (omega arith);
    inode_bytes = low_words 3 (omega arith);
    top = λ some. low_words 2 (omega arith);
    here = same_root;
    others = λ u e l reached other live away. elsewhere u e l reached live (λ x y z. other (sym x));
    content = same_content;
    low = wf.low t hang.reached;
    sound = record {
      low = (wf.sound t hang.reached).low;
      root_bits = (wf.sound t hang.reached).root_bits;
      pointer_bits = pointer_bits;
      in_range = in_range;
      once = once;
      fits = (wf.sound t hang.reached).fits;
    };
    blocks = blocks;
    full = λ full. absurd (full (suc d) k hang.live hang.null);
  }
