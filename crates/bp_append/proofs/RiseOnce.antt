-- One node on top of a tree: the root word stands in its first slot, and what lies after that is filled.
use Rattle.std.proofs.Common.{◌≡◌, ◌≢◌, ◌⊎◌, ℕ, zero, suc, ◌+◌, ◌-◌, ◌*◌, ◌/◌, ◌<◌, ◌≤◌, min, max, List, [], ◌∷◌, length, set, get_or, refl, sym, ◌∙◌, ap, subst, subst₂, arith, inl, inr, get_or-set_same, get_or-set_other, lt-ltb, le-ltb, lt_of_mul-lt-mul_right}
use Rattle.bp_layout.proofs.MemberLaws.{each-has, has-prefix}
use Rattle.std.proofs.lemmas.Bool.{cases_eq}
use Rattle.std.proofs.lemmas.List.{length-set}
use Rattle.bp_layout.specs.Words.{Image, block_of, height_of, slot_word}
use Rattle.bp_layout.specs.Tree.{byte, span, HasBlock, IsSound, IsFull}
use Rattle.bp_layout.specs.Members.{Has}
use Rattle.bp_layout.specs.Pieces.{piece}
use Rattle.bp_layout.specs.Stores.{after_stores}
use Rattle.bp_layout.proofs.TreeLaws.{slot_word-at}
use Rattle.pm_epochs.specs.declared.event.Event.TheVariants.{Store}
use Rattle.pm_region.specs.Memory.{Memory, current_words, room_in, Adds}
use Rattle.pm_region.specs.Safe.{AddsMay}
use Rattle.pm_region.proofs.MemoryLaws.{current_words-adds, base-adds, length-current_words}
use Rattle.pm_region.proofs.MayLaws.{may_one, may_frame, room_after_may}
use Rattle.bp_append.proofs.IntoLaws.{into_one, into_more, into_twice}
use Rattle.bp_append.specs.Given.{given, given_at}
use Rattle.bp_append.specs.Tally.{tally}
use Rattle.bp_append.specs.Built.{InBlocks, IsBuilt, Children}
use Rattle.bp_append.specs.Filled.{IsUsable, CanFill, FillsFrom}
use Rattle.bp_append.specs.Risen.{idles, edge, AreOutside, CanRise, risen, Rises}
use Rattle.bp_append.proofs.TallyLaws.{span-suc, span-positive, span-most}
use Rattle.bp_append.proofs.ChildrenLaws.{built_kept, built_as, built_node, children_one, children_as, children_bytes, children_kept, children_both}
use Rattle.bp_append.proofs.FillLaws.{may_length, slot_framed, block_row}
use Rattle.bp_append.proofs.VisitLaws.{whole_links, alike, outside_word}
use Rattle.bp_append.proofs.EdgeCounts.{edge_more, idles_more, idles_none}

module _ {old : Memory} {free_old : List ℕ} (root : ℕ) {from to : ℕ} (can : CanRise old free_old (height_of root) (suc (height_of root)) from to) where
  -- what one level more costs
  cost : edge from to (suc (height_of root)) + idles from to (height_of root) (suc (height_of root)) ≡
      edge from to (height_of root) + 1 + tally (suc (height_of root)) (max from (span (height_of root))) (min to (span (suc (height_of root))))
  cost =
      let none = idles_none from to (height_of root) (height_of root) (omega arith) in
      let more = idles_more from to (height_of root) (height_of root) (omega arith) in
      let here = edge_more from to (height_of root) in
      omega (arith, none, more, here)

  pub enough_once : 0 < length free_old
  enough_once = some_of _ _ _ _ cost can.enough
    where
      some_of : (all low here one : ℕ) → all ≡ low + 1 + here → all ≤ one + low → 0 < one
      some_of all low here one a b = omega (arith, a, b)

  pub store_room_once : 0 < room_in old
  store_room_once = room_of _ _ _ (room_in old) _ cost can.room
    where
      room_of : (all low here room more : ℕ) → all ≡ low + 1 + here → 512 * all + more ≤ room + 512 * low → 0 < room
      room_of all low here room more e h = omega (arith, e, h)

pub head_low : {old : Memory} {free_old free_middle : List ℕ} (root block : ℕ) {from to : ℕ} →
    CanRise old free_old (height_of root) (suc (height_of root)) from to → free_old ≡ block ∷ free_middle → (1 ≤ block) × (block < length old.base / 512)
head_low {old} {free_old} {free_middle} root block {from} {to} can takes =
    let low = rw takes at can.usable.low in
    let high = rw takes at can.usable.high in
    (low.0, high.0)

module _ {old : Memory} (stored : Memory) {free_old free_middle : List ℕ} (root block : ℕ) {from to : ℕ}
    (can : CanRise old free_old (height_of root) (suc (height_of root)) from to) (takes : free_old ≡ block ∷ free_middle)
    (adds : Adds old stored (Store (block * 512) (4096 * block_of root) ∷ [])) where
  abbrev level : ℕ
  level = height_of root

  usable_all : IsUsable (length old.base / 512) (block ∷ free_middle)
  usable_all = rw takes at can.usable

  lengths : length free_old ≡ length free_middle + 1
  lengths = let e = ap length takes in omega (arith, e)

  base : length stored.base ≡ length old.base
  base = ap length (base-adds old stored _ adds)

  whole_is : min to (0 + span (suc level)) ≡ min to (span (suc level))
  whole_is = omega arith

  pub raise_fill_can : CanFill stored free_middle block (suc level) 0 (span level) from to
  raise_fill_can = record {
    flat = can.most;
    index = 0;
    aligned = omega arith;
    order = omega arith;
    inside = omega (arith, span-suc level);
    leaf = λ e. absurd (omega (arith, e));
    first = 1;
    node = λ below e. let same : height_of root ≡ below = omega (arith, e) in subst (λ l. span level ≡ 0 + 1 * span l) same (omega arith);
    begun = can.some;
    few = (let most = span-most (suc level) can.most in omega (arith, most));
    few_to = can.few_to;
    some_block = usable_all.low.0;
    in_range = rw base usable_all.high.0;
    outside = λ m. each-has (λ c. c ≢ block) free_middle block usable_all.apart.0 m refl;
    usable = rw base (record { low = usable_all.low.1; high = usable_all.high.1; apart = usable_all.apart.1 });
    enough =
        subst (λ n. tally (suc level) (max from (span level)) n ≤ length free_middle) (sym whole_is)
        (enough_of _ _ _ _ _ (cost root can) can.enough lengths);
    room =
        subst (λ n. 512 * tally (suc level) (max from (span level)) n + 512 ≤ room_in stored) (sym whole_is)
        (room_of _ _ _ (room_in old) (room_in stored) (cost root can) can.room (room_after_may _ 0 1 old stored one_store));
  }
    where
      one_store : AddsMay (λ place value. Unit {0}) 0 1 old stored
      one_store = may_one _ old stored (block * 512) (4096 * block_of root) tt adds

      enough_of : (all low here one two : ℕ) → all ≡ low + 1 + here → all ≤ one + low → one ≡ two + 1 → here ≤ two
      enough_of all low here one two a b c = omega (arith, a, b, c)

      room_of : (all low here one two : ℕ) → all ≡ low + 1 + here → 512 * all + (suc level - level) ≤ one + 512 * low → one ≤ two + (0 + 1) →
          512 * here + 512 ≤ two
      room_of all low here one two a b c = omega (arith, a, b, c)

  -- and what is filled after the first slot
  module _ {new : Memory} {free_new : List ℕ} (raw : List ℕ)
      (fills : FillsFrom stored new free_middle free_new block (suc level) 0 (span level) from to (given_at from raw 0)) where
    abbrev top : ℕ
    top = 4096 * block + suc level

    abbrev size_was : ℕ
    size_was = min to (span level)

    abbrev size_now : ℕ
    size_now = min to (span (suc level))

    -- the words before it, and those after it, once links are stored
    abbrev was : List (ℕ × ℕ) → Image
    was links = after_stores (current_words old) links

    abbrev now : List (ℕ × ℕ) → Image
    now links = after_stores (current_words new) links

    abbrev bytes_now : List (ℕ × ℕ) → ℕ → ℕ
    bytes_now links = risen (was links) root level from raw

    abbrev Has_old : List (ℕ × ℕ) → ℕ → Type 0
    Has_old links x = HasBlock (was links) root size_was x

    abbrev Full : List (ℕ × ℕ) → Type 0
    Full links = IsFull (was links) root size_was × (from ≤ span level)

    -- the slot of the tree before it, and those that are filled
    abbrev First : ℕ → Type 0
    First c = c ≡ 0

    abbrev PastEnd : ℕ → Type 0
    PastEnd c = span level ≤ 0 + c * span level

    sums : (taken here all low spare : ℕ) → taken ≡ here → all + spare ≡ low + 1 + here → suc taken + low ≡ all + spare
    sums taken here all low spare a b = omega (arith, a, b)

    most : (taken here own : ℕ) → taken ≡ here → own ≤ 512 → 1 + (512 * here + own) ≤ 512 * suc taken + (suc level - level)
    most taken here own e few = omega (arith, e, few)

    block_low : (1 ≤ block) × (block < length old.base / 512)
    block_low = (usable_all.low.0, usable_all.high.0)

    in_taken : (x : ℕ) → Has fills.taken x → Has free_middle x
    in_taken x m = subst (λ f. Has f x) (sym fills.takes) (has-prefix fills.taken free_new x m)

    in_old : (x : ℕ) → Has fills.taken x → Has free_old x
    in_old x m = subst (λ f. Has f x) (sym takes) (inr (in_taken x m))

    block_old : Has free_old block
    block_old = subst (λ f. Has f block) (sym takes) (inl refl)

    block_apart : (x : ℕ) → Has fills.taken x → x ≢ block
    block_apart x m = each-has (λ c. c ≢ block) free_middle x usable_all.apart.0 (in_taken x m)

    words_stored : current_words stored ≡ set (current_words old) (block * 512) (4096 * block_of root)
    words_stored = current_words-adds old stored _ adds

    whole_stored : length (current_words stored) ≡ length (current_words old)
    whole_stored = ap length words_stored ∙ length-set (current_words old) (block * 512) (4096 * block_of root)

    whole_new : length (current_words new) ≡ length (current_words stored)
    whole_new = may_length _ 0 _ stored new fills.stores.part

    slot_zero : slot_word (current_words new) block 0 ≡ 4096 * block_of root
    slot_zero =
        let at : 512 * block + 0 ≡ block * 512 = omega arith in
        let row : block * 512 / 512 ≡ block = omega arith in
        slot_word-at (current_words new) block 0 (λ e. omega (arith, e, block_low.0))
        ∙ ap (λ p. get_or (current_words new) p 0) at
        ∙ may_frame _ 0 _ stored new fills.stores.part (block * 512) (λ v m. elim m [
          | inl t ↦ block_apart block (subst (Has fills.taken) row t) refl
          | inr filled ↦
              let over = filled.node level refl in
              let zero_slot : filled.slot ≡ 0 = omega (arith, filled.at, filled.few) in
              omega (arith, rw zero_slot at over, span-positive level)
        ])
        ∙ rw words_stored (get_or-set_same (current_words old) (block * 512) (4096 * block_of root) 0 (omega (arith, block_low.1, length-current_words old)))

    -- a word of a block that was not free
    old_word : (x k : ℕ) → k < 512 → (Has free_old x → ⊥) → get_or (current_words new) (512 * x + k) 0 ≡ get_or (current_words old) (512 * x + k) 0
    old_word x k few out =
        may_frame _ 0 _ stored new fills.stores.part (512 * x + k) (λ v m. elim m [
          | inl t ↦ out (in_old x (subst (Has fills.taken) (block_row x k few) t))
          | inr filled ↦ (let here : block ≡ x = omega (arith, filled.at, filled.few, few) in out (subst (Has free_old) here block_old))
        ])
        ∙ rw words_stored (get_or-set_other (current_words old) (block * 512) (512 * x + k) (4096 * block_of root) 0 (λ e.
        let here : block ≡ x = omega (arith, e, few) in
        out (subst (Has free_old) here block_old)))

    -- a word of a free block is beside the links
    beside_links : (links : List (ℕ × ℕ)) (x k : ℕ) → AreOutside free_old links → k < 512 → Has free_old x →
        slot_word (now links) x k ≡ slot_word (current_words new) x k
    beside_links links x k out few m =
        slot_framed (current_words new) (now links) x k
        (outside_word free_old links (current_words new) (512 * x + k) out (subst (Has free_old) (sym (block_row x k few)) m))

    tree : (links : List (ℕ × ℕ)) → AreOutside free_old links → IsSound (was links) root size_was → ((b : ℕ) → Has free_old b → Has_old links b → ⊥) →
        IsBuilt (now links) top size_now (bytes_now links) (λ b. Has_old links b ⊎ Has (block ∷ fills.taken) b) (Full links)
    tree links out sound not_free =
        built_as (now links) top size_now (bytes_now links) (bytes_now links)
        (λ x. (x ≡ block) ⊎ (Has_old links x ⊎ Has fills.taken x)) _ (Full links) _
        (λ i low. refl) (λ x m. elim m [ inl e ↦ inr (inl (sym e)) | inr n ↦ elim n [ inl has ↦ inl has | inr t ↦ inr (inr t) ] ])
        (λ x m. elim m [ inl has ↦ inr (inl has) | inr n ↦ elim n [ inl e ↦ inl (sym e) | inr t ↦ inr (inr t) ] ]) (λ p. p)
        (built_node (children_both (first_slot links out sound not_free) (other_slots links out) (λ x has t. not_free x (in_old x t) has))
        (λ e. omega (arith, e, block_low.0))
        (omega (arith, block_low.1, whole_links links (current_words new), whole_new, whole_stored, length-current_words old)) (omega (arith, can.most))
        (omega (arith, can.some, span-positive (suc level))) (omega arith)
        (λ m. elim m [ inl has ↦ not_free block block_old has | inr t ↦ block_apart block t refl ])
        (λ c in_size. elim (cases_eq c 0) [ inl e ↦ inl e | inr some ↦ inr (over c some) ]))
      where
        over : (c : ℕ) → (c ≡ 0 → ⊥) → span level ≤ 0 + c * span level
        over zero some = absurd (some refl)
        over (suc c) some = omega arith

        first_slot : (links : List (ℕ × ℕ)) → AreOutside free_old links → IsSound (was links) root size_was → ((b : ℕ) → Has free_old b → Has_old links b → ⊥) →
            Children (now links) block level size_now First (bytes_now links) (Has_old links) (Full links)
        first_slot links out sound not_free =
            let here : slot_word (now links) block 0 ≡ 4096 * block_of root = beside_links links block 0 out (omega arith) block_old ∙ slot_zero in
            let bits = sound.root_bits (omega (arith, can.some, span-positive level)) in
            let whole : 4096 * block_of root + height_of root ≡ root = omega (arith, bits) in
            let sizes : size_was ≡ piece size_now level 0 = omega (arith, span-suc level) in
            let old_tree : IsBuilt (was links) root size_was (λ i. bytes_now links (0 * span level + i)) (Has_old links) (Full links) =
            record {
              sound = sound;
              bytes_are = λ i low. sym (low_byte i (omega (arith, low)));
              blocks = λ b has. has;
              has = λ b has. has;
              full = λ both. both.0;
            } in
            let kept : IsBuilt (now links) root size_was (λ i. bytes_now links (0 * span level + i)) (Has_old links) (Full links) =
            built_kept (was links) (now links) (whole_links links (current_words new) ∙ whole_new ∙ whole_stored ∙ sym (whole_links links (current_words old)))
            (λ x k has few. slot_framed (was links) (now links) x k
            (alike links (current_words new) (current_words old) (512 * x + k) (whole_new ∙ whole_stored)
            (old_word x k few (λ m. not_free x m has)))) old_tree in
            children_one (now links) block level size_now 0 (bytes_now links) _ _ (rw here (omega arith)) (omega (arith, can.some, span-positive (suc level)))
            (subst₂ (λ r z. IsBuilt (now links) r z (λ i. bytes_now links (0 * span level + i)) (Has_old links) (Full links))
            (sym whole ∙ ap (λ w. w + height_of root) (sym here)) sizes kept)
          where
            low_byte : (i : ℕ) → i < span level → bytes_now links (0 * span level + i) ≡ byte (was links) root i
            low_byte i low = let e : 0 * span level + i ≡ i = omega arith in rw (e, lt-ltb i (span level) low) refl

        other_slots : (links : List (ℕ × ℕ)) → AreOutside free_old links →
            Children (now links) block level size_now PastEnd (bytes_now links) (Has fills.taken) (Full links)
        other_slots links out =
            let slots : Children (current_words new) block level size_now PastEnd (given_at from raw 0) (Has fills.taken) (from ≤ span level) =
            subst (λ z. Children (current_words new) block level (min z (span (suc level))) PastEnd (given_at from raw 0) (Has fills.taken) (from ≤ span level))
            whole_to (fills.slots level refl) in
            children_as (now links) block level size_now PastEnd PastEnd (bytes_now links) (Has fills.taken) (Has fills.taken) (from ≤ span level) _
            (λ c in_size at. at) (λ c in_size at. at) (λ x m. m) (λ x m. m) (λ both. both.1)
            (children_kept (now links)
            (children_bytes (given_at from raw 0) (bytes_now links) (λ c i at in_size inside. high_byte (c * span level + i) (omega (arith, at))) slots)
            (whole_links links (current_words new)) (λ x k m few. beside_links links x k out few (in_old x m))
            (λ c at in_size. beside_links links block c out (few_of c in_size) block_old))
          where
            whole_to : to - 0 ≡ to
            whole_to = omega arith

            few_of : (c : ℕ) → c * span level < size_now → c < 512
            few_of c in_size = let less : c * span level < 512 * span level = omega (arith, in_size, span-suc level) in lt_of_mul-lt-mul_right (span level) less

            high_byte : (o : ℕ) → span level ≤ o → given_at from raw 0 o ≡ bytes_now links o
            high_byte o over = let e : 0 + o ≡ o = omega arith in ap (given from raw) e ∙ sym (rw (le-ltb o (span level) over) refl)

    pub raise_done : Rises old new free_old free_new root top level (suc level) from to raw
    raise_done = record {
      taken = block ∷ fills.taken;
      takes = takes ∙ ap (λ f. block ∷ f) fills.takes;
      counted = sums _ _ _ _ _ (fills.counted ∙ ap (λ n. tally (suc level) (max from (span level)) n) whole_is) (cost root can);
      stores = into_more (block ∷ fills.taken) (block ∷ fills.taken) _ _ _ _ old new (λ b m. m) (λ w v m. m) (most _ _ _ fills.counted fills.few)
          (into_twice (block ∷ []) fills.taken (λ place value. InBlocks (block ∷ fills.taken) place) 1 _ old stored new
          (into_one (λ place value. InBlocks (block ∷ fills.taken) place) block (block * 512) (4096 * block_of root) old stored (omega arith)
          (inl (omega arith)) adds)
          (into_more fills.taken fills.taken _ _ _ _ stored new (λ b m. m)
          (λ w v m. elim m [ inl t ↦ inr t | inr filled ↦ inl (omega (arith, filled.at, filled.few)) ]) (omega arith) fills.stores));
      chain = block ∷ [];
      named = refl;
      tall = omega arith;
      inside = λ b m. elim m [ inl e ↦ inl e | inr none ↦ absurd none ];
      apart = (tt, tt);
      down = (slot_zero, tt);
      tree = tree;
    }
