-- One node after another on top of a tree.
use Rattle.std.proofs.Common.{◌≡◌, ◌⊎◌, ℕ, suc, ◌+◌, ◌-◌, ◌*◌, ◌/◌, ◌<◌, ◌≤◌, min, List, [], ◌∷◌, ◌++◌, length, refl, sym, ◌∙◌, ap, subst, arith, inl, inr, lt-ltb, le-ltb, le_trans}
use Rattle.bp_layout.proofs.MemberLaws.{apart-append, has-after, has-either, has-prefix}
use Rattle.bp_limits.specs.Limits.{max_height}
use Rattle.std.proofs.lemmas.Bool.{cases_lt}
use Rattle.std.proofs.lemmas.List.{append_assoc, length-append}
use Rattle.bp_layout.specs.Words.{Image, height_of, slot_word}
use Rattle.bp_layout.specs.Tree.{byte, span, HasBlock, IsFull}
use Rattle.bp_layout.specs.Members.{Has, AreApart}
use Rattle.bp_changes.specs.Links.{raised, raised_by, LeadDown}
use Rattle.bp_layout.specs.Stores.{after_stores}
use Rattle.pm_region.specs.Memory.{Memory, current_words, room_in}
use Rattle.pm_region.proofs.MayLaws.{may_frame, room_after_may}
use Rattle.bp_append.proofs.IntoLaws.{into_none, into_more, into_twice}
use Rattle.bp_append.specs.Built.{InBlocks}
use Rattle.bp_append.specs.Risen.{idles, edge, CanRise, risen, Rises}
use Rattle.bp_append.proofs.TallyLaws.{span-rising}
use Rattle.bp_append.proofs.ChildrenLaws.{built_as}
use Rattle.bp_append.proofs.FillLaws.{usable_rest, may_base, apart_parts, slot_framed, block_row}
use Rattle.bp_append.proofs.VisitLaws.{outside_less}
use Rattle.bp_append.proofs.EdgeCounts.{edge_rises, idles_more, idles_none}

pub rises_none : (memory : Memory) (free raw : List ℕ) (root from to : ℕ) → height_of root ≤ max_height →
    Rises memory memory free free root root (height_of root) (height_of root) from to raw
rises_none memory free raw root from to low = record {
  taken = [];
  takes = refl;
  counted = omega (arith, idles_none from to (height_of root) (height_of root) (omega arith));
  stores = into_more [] [] _ _ 0 _ memory memory (λ b m. m) (λ w v m. m) (omega arith) (into_none (λ place value. InBlocks [] place) memory);
  chain = [];
  named = refl;
  tall = omega arith;
  inside = λ b m. absurd m;
  apart = tt;
  down = tt;
  tree = λ links out sound not_free. record {
    sound = sound;
    bytes_are = λ i small. sym (low_byte links i (omega (arith, small)));
    blocks = λ b has. inl has;
    has = λ b m. elim m [ inl has ↦ has | inr none ↦ absurd none ];
    full = λ both. both.0;
  };
}
  where
    low_byte : (links : List (ℕ × ℕ)) (i : ℕ) → i < span (height_of root) →
        risen (after_stores (current_words memory) links) root (height_of root) from raw i ≡ byte (after_stores (current_words memory) links) root i
    low_byte links i low = rw (lt-ltb i (span (height_of root)) low) refl

raised_append : (root : ℕ) (xs ys : List ℕ) → raised_by root (xs ++ ys) ≡ raised_by (raised_by root xs) ys
raised_append root [] ys = refl
raised_append root (x ∷ xs) ys = raised_append (raised root x) xs ys

down_append : (image : Image) (root : ℕ) (xs ys : List ℕ) → LeadDown image root xs → LeadDown image (raised_by root xs) ys → LeadDown image root (xs ++ ys)
down_append image root [] ys one two = two
down_append image root (x ∷ xs) ys one two = (one.0, down_append image (raised root x) xs ys one.1 two)

down_kept : (old new : Image) (root : ℕ) (xs : List ℕ) → ((b : ℕ) → Has xs b → slot_word new b 0 ≡ slot_word old b 0) → LeadDown old root xs →
    LeadDown new root xs
down_kept old new root [] same down = tt
down_kept old new root (x ∷ xs) same down = (same x (inl refl) ∙ down.0, down_kept old new (raised root x) xs (λ b m. same b (inr m)) down.1)

module _ {first middle last : Memory} {free_first free_middle free_last raw : List ℕ} {root mid_root top low mid high from to : ℕ}
    (one : Rises first middle free_first free_middle root mid_root low mid from to raw)
    (two : Rises middle last free_middle free_last mid_root top mid high from to raw) (usable : AreApart free_first) (order : low ≤ mid)
    (rest : mid < high) (one_more : high ≡ suc mid) (height_mid : height_of mid_root ≡ mid) where
  in_middle : (x : ℕ) → Has free_middle x → Has free_first x
  in_middle x m = subst (λ f. Has f x) (sym one.takes) (has-after one.taken free_middle x m)

  in_two : (x : ℕ) → Has two.taken x → Has free_middle x
  in_two x m = subst (λ f. Has f x) (sym two.takes) (has-prefix two.taken free_last x m)

  apart_both : (x : ℕ) → Has one.taken x → Has free_middle x → ⊥
  apart_both x m n = apart_parts one.taken free_middle x (rw one.takes at usable) m n

  idle_sum : idles from to low high ≡ idles from to low mid + idles from to mid high
  idle_sum =
      let more = idles_more from to low mid order in
      let here = idles_more from to mid mid (omega arith) in
      let none = idles_none from to mid mid (omega arith) in
      rw one_more (sums _ _ _ _ _ more here none)
    where
      sums : (all part here whole spare : ℕ) → all ≡ part + spare → here ≡ whole + spare → whole ≡ 0 → all ≡ part + here
      sums all part here whole spare a b c = omega (arith, a, b, c)

  -- the words before both, and between the two, once links are stored
  abbrev was : List (ℕ × ℕ) → Image
  was links = after_stores (current_words first) links

  abbrev between : List (ℕ × ℕ) → Image
  between links = after_stores (current_words middle) links

  abbrev bytes_now : List (ℕ × ℕ) → ℕ → ℕ
  bytes_now links = risen (was links) root low from raw

  abbrev Has_old : List (ℕ × ℕ) → ℕ → Type 0
  Has_old links b = HasBlock (was links) root (min to (span low)) b

  abbrev Full : List (ℕ × ℕ) → Type 0
  Full links = IsFull (was links) root (min to (span low)) × (from ≤ span low)

  -- the second changes no word of the blocks that the first took
  chain_kept : (b : ℕ) → Has one.chain b → slot_word (current_words last) b 0 ≡ slot_word (current_words middle) b 0
  chain_kept b m =
      slot_framed (current_words middle) (current_words last) b 0
      (may_frame _ 0 _ middle last two.stores.part (512 * b + 0) (λ v t.
      apart_both b (one.inside b m) (in_two b (subst (Has two.taken) (block_row b 0 (omega arith)) t))))

  pub rises_twice : Rises first last free_first free_last root top low high from to raw
  rises_twice = record {
    taken = one.taken ++ two.taken;
    takes = one.takes ∙ ap (λ f. one.taken ++ f) two.takes ∙ sym (append_assoc one.taken two.taken free_last);
    counted = counts _ _ _ _ _ _ _ _ _ (length-append one.taken two.taken) one.counted two.counted idle_sum;
    stores = into_more (one.taken ++ two.taken) (one.taken ++ two.taken) _ _ _ _ first last (λ b m. m) (λ w v m. m)
        (most _ _ _ (length-append one.taken two.taken))
        (into_twice one.taken two.taken (λ place value. InBlocks (one.taken ++ two.taken) place) _ _ first middle last
        (into_more one.taken one.taken _ _ _ _ first middle (λ b m. m) (λ w v m. has-prefix one.taken two.taken (w / 512) m) (omega arith) one.stores)
        (into_more two.taken two.taken _ _ _ _ middle last (λ b m. m) (λ w v m. has-after one.taken two.taken (w / 512) m) (omega arith) two.stores));
    chain = one.chain ++ two.chain;
    named = two.named ∙ ap (λ r. raised_by r two.chain) one.named ∙ sym (raised_append root one.chain two.chain);
    tall = omega (arith, one.tall, two.tall, height_mid, length-append one.chain two.chain);
    inside = λ b m. elim (has-either one.chain two.chain b m) [
      | inl l ↦ has-prefix one.taken two.taken b (one.inside b l)
      | inr r ↦ has-after one.taken two.taken b (two.inside b r)
    ];
    apart = apart-append one.chain two.chain one.apart two.apart (λ b m n. apart_both b (one.inside b m) (in_two b (two.inside b n)));
    down = down_append (current_words last) root one.chain two.chain
        (down_kept (current_words middle) (current_words last) root one.chain chain_kept one.down)
        (subst (λ r. LeadDown (current_words last) r two.chain) one.named two.down);
    tree = λ links out sound not_free.
        let below = one.tree links out sound not_free in
        let above = two.tree links (outside_less free_first free_middle links in_middle out) below.sound
        (λ b m has. elim (below.blocks b has) [ inl old ↦ not_free b (in_middle b m) old | inr t ↦ apart_both b t m ]) in
        built_as (after_stores (current_words last) links) top (min to (span high)) (risen (between links) mid_root mid from raw) (bytes_now links) _
        (λ b. Has_old links b ⊎ Has (one.taken ++ two.taken) b) _ (Full links)
        (λ i small. same_byte links i (below.bytes_are i) (omega (arith, small)) (cases_lt i (span mid)))
        (λ b m. elim m [
          | inl has ↦ elim (below.blocks b has) [ inl old ↦ inl old | inr t ↦ inr (has-prefix one.taken two.taken b t) ]
          | inr t ↦ inr (has-after one.taken two.taken b t)
        ])
        (λ b m. elim m [
          | inl old ↦ inl (below.has b (inl old))
          | inr t ↦ elim (has-either one.taken two.taken b t) [ inl l ↦ inl (below.has b (inr l)) | inr r ↦ inr r ]
        ])
        (λ both. (below.full both, le_trans both.1 (span-rising low mid order)))
        above;
  }
    where
      counts : (len here there low_edge mid_edge high_edge low_idle mid_idle all_idle : ℕ) → len ≡ here + there → here + low_edge ≡ mid_edge + low_idle →
          there + mid_edge ≡ high_edge + mid_idle → all_idle ≡ low_idle + mid_idle → len + low_edge ≡ high_edge + all_idle
      counts len here there low_edge mid_edge high_edge low_idle mid_idle all_idle a b c d = omega (arith, a, b, c, d)

      most : (len here there : ℕ) → len ≡ here + there → (512 * here + (mid - low)) + (512 * there + (high - mid)) ≤ 512 * len + (high - low)
      most len here there e = omega (arith, e, order, rest)

      same_byte : (links : List (ℕ × ℕ)) (i : ℕ) → (i < min to (span mid) → byte (between links) mid_root i ≡ bytes_now links i) → i < to →
          (i < span mid) ⊎ (span mid ≤ i) → risen (between links) mid_root mid from raw i ≡ bytes_now links i
      same_byte links i below small (inl inside) = rw (lt-ltb i (span mid) inside) (below (omega (arith, small, inside)))
      same_byte links i below small (inr over) =
          let wide = span-rising low mid order in
          rw (le-ltb i (span mid) over, le-ltb i (span low) (le_trans wide over)) refl

-- what is left for the next node
pub can_next : {first middle : Memory} {free_first free_middle raw : List ℕ} {root top low mid height from to : ℕ} →
    CanRise first free_first low height from to → low ≤ mid → mid < height → Rises first middle free_first free_middle root top low mid from to raw →
    CanRise middle free_middle mid (suc mid) from to
can_next {first} {middle} {free_first} {free_middle} {raw} {root} {top} {low} {mid} {height} {from} {to} can order less rises =
    let base = may_base _ 0 _ first middle rises.stores.part in
    let takes = ap length rises.takes in
    let lengths : length free_first ≡ length rises.taken + length free_middle = omega (arith, takes, length-append rises.taken free_middle) in
    let room = room_after_may _ 0 _ first middle rises.stores.part in
    let e : suc mid + (height - suc mid) ≡ height = omega (arith, less) in
    let up = edge_rises from to low (suc mid) (height - suc mid) (omega (arith, order)) in
    let rising = subst (λ h. edge from to (suc mid) + idles from to low (suc mid) ≤ edge from to h + idles from to low h) e up in
    let more = idles_more from to low mid order in
    let here = idles_more from to mid mid (omega arith) in
    let none = idles_none from to mid mid (omega arith) in
    record {
      most = omega (arith, can.most, less);
      some = can.some;
      few_to = can.few_to;
      usable = rw base (usable_rest (length first.base / 512) free_first rises.taken free_middle rises.takes can.usable);
      enough = enough_of _ _ _ _ _ _ _ _ _ _ _ _ _ rising more here none can.enough lengths rises.counted;
      room = room_of _ _ _ _ _ _ _ _ _ (room_in first) (room_in middle) _ _ rising more here none can.room room rises.counted;
    }
  where
    enough_of : (next next_idle all all_idle mid_idle spare here own one two low_edge mid_edge : ℕ) (taken : ℕ) → next + next_idle ≤ all + all_idle →
        next_idle ≡ mid_idle + spare → here ≡ own + spare → own ≡ 0 → all + all_idle ≤ one + low_edge → one ≡ taken + two →
        taken + low_edge ≡ mid_edge + mid_idle → next + here ≤ two + mid_edge
    enough_of next next_idle all all_idle mid_idle spare here own one two low_edge mid_edge taken a b c d e f g = omega (arith, a, b, c, d, e, f, g)

    room_of : (next next_idle all all_idle mid_idle spare here own low_edge one two mid_edge : ℕ) (taken : ℕ) → next + next_idle ≤ all + all_idle →
        next_idle ≡ mid_idle + spare → here ≡ own + spare → own ≡ 0 → 512 * (all + all_idle) + (height - low) ≤ one + 512 * low_edge →
        one ≤ two + (0 + (512 * taken + (mid - low))) → taken + low_edge ≡ mid_edge + mid_idle → 512 * (next + here) + (suc mid - mid) ≤ two + 512 * mid_edge
    room_of next next_idle all all_idle mid_idle spare here own low_edge one two mid_edge taken a b c d e f g = omega (arith, a, b, c, d, e, f, g, order, less)
