-- A tree with blocks is prepared.
use Rattle.std.proofs.Common.{◌≡◌, ◌≢◌, ◌⊎◌, ℕ, zero, suc, ◌+◌, ◌-◌, ◌*◌, ◌/◌, ◌%◌, ◌<◌, ◌≤◌, List, [], ◌∷◌, ◌++◌, length, Bool, set, get_or, sym, ◌∙◌, ap, ap₂, subst, subst₂, arith, inl, inr, get_or-set_other, refl}
use Rattle.bp_layout.proofs.MemberLaws.{each-has}
use Rattle.bp_layout.specs.Words.{Image, block_of, height_of, slot_word}
use Rattle.bp_layout.specs.Tree.{node, IsLivePointer, HasBlock, IsFull}
use Rattle.bp_layout.specs.Inode.{root_of, size_of}
use Rattle.bp_layout.specs.Reached.{IsReached, IsLiveBlock}
use Rattle.bp_layout.specs.Same.{Same}
use Rattle.bp_changes.specs.SameContent.{IsReadByWords}
use Rattle.bp_layout.specs.Members.{Has}
use Rattle.bp_changes.specs.Links.{raised_by}
use Rattle.bp_layout.specs.Stores.{after_stores}
use Rattle.bp_layout.proofs.Addresses.{present_above}
use Rattle.bp_layout.proofs.TreeLaws.{live_above, live_pointer_word, slot_word-at, tree_word-suc, tree_word-zero}
use Rattle.bp_changes.proofs.Frame.{keeps}
use Rattle.pm_epochs.specs.May.{AnyAt, StoresMay, AnyOf, links_of}
use Rattle.bp_changes.specs.Performs.{IsOpen}
use Rattle.bp_changes.specs.Performs.IsOpen.{in_live}
use Rattle.pm_region.specs.Memory.{Memory, current_words}
use Rattle.bp_append.specs.Stores.{prep_stores}
use Rattle.pm_region.proofs.MayLaws.{may_frame}
use Rattle.bp_append.proofs.FillLaws.{block_row}
use Rattle.bp_append.proofs.VisitLaws.{beside as links_beside}
use Rattle.bp_append.proofs.TwoLinks.{any_root_link}
use Rattle.bp_layout.specs.Nodes.{height_with}
use Rattle.bp_changes.proofs.RootLink.{beside as root_beside}
use Rattle.bp_changes.proofs.Roots.{reads_self}
use Rattle.bp_append.proofs.OldNodes.{lead_kept, node-raised_by}
use Rattle.bp_append.specs.Given.{given}
use Rattle.bp_append.specs.Visited.{extended, Hangs, AreHung}
use Rattle.bp_append.specs.Visited.AreHung.{no_link, one_link}
use Rattle.bp_append.specs.Prepared.{PreparesWith, need_for}
use Rattle.bp_append.proofs.VisitDone.{extended_old, extended_new}
use Rattle.bp_append.proofs.NeedLaws.{tall_low}
use Rattle.bp_append.proofs.PrepLaws.{after_append, words_new, epochs_taking}
use Rattle.bp_append.proofs.ReadyLaws.{HasRootReady, prepared}
use Rattle.bp_append.proofs.NullPrepared.{full_by_words}
use Rattle.bp_append.proofs.TreeGrown.{HasGrown, views, order, taken_are, taken_free, open_place, usable, May, harmless, agrees, past_end_block, opens, roots, well, there, place_there, in_taken_chain}
use Rattle.bp_append.proofs.TreeHung.{reads_alone, ready_alone, hung_loose, pointer_is, any_both, ready_hung}

module _ {in_snapshot : ℕ → Bool} {first new : Memory} {free_old free_new : List ℕ} {t place from to : ℕ} {path raw : List ℕ}
    (ready : HasGrown in_snapshot first new free_old free_new t place from to path raw) where
  open ready use {can, at, grows}
  open (views ready) use {old, middle, root, size, taken}

  -- the new root word, and the words once what waited is stored
  abbrev top : ℕ
  top = raised_by root grows.chain

  abbrev linked : Image
  linked = after_stores middle grows.links

  abbrev all_links : List (ℕ × ℕ)
  all_links = grows.links ++ (place, raised_by root grows.chain) ∷ []

  abbrev Waiting : Type 0
  Waiting = AreHung old middle root size from to raw grows.visited (λ p. HasBlock old root size (p / 512)) grows.links

  -- ---- both

  any_links : AnyOf Same middle middle all_links
  any_links = go grows.hung
    where
      all : (links : List (ℕ × ℕ)) → grows.links ≡ links → AnyOf Same middle middle (links ++ (place, top) ∷ []) → AnyOf Same middle middle all_links
      all links e any = subst (λ (l : List (ℕ × ℕ)). AnyOf Same middle middle (l ++ (place, top) ∷ [])) (sym e) any

      go : Waiting → AnyOf Same middle middle all_links
      go (no_link e) = all [] e (any_root_link middle (well ready) t place top (there ready) (place_there ready) (reads_alone ready))
      go (one_link hung_place pointer e hangs part) =
          let any = any_both ready hung_place pointer hangs in
          let is = pointer_is ready hung_place pointer hangs in
          all ((hung_place, pointer) ∷ []) e
          (subst₂ (λ p r. AnyOf Same middle middle ((hung_place, p) ∷ (place, raised_by r grows.chain) ∷ [])) is (roots ready) any)

  few_links : length all_links ≤ 2
  few_links = go grows.hung
    where
      few : (links : List (ℕ × ℕ)) → grows.links ≡ links → length (links ++ (place, top) ∷ []) ≤ 2 → length all_links ≤ 2
      few links e low = subst (λ (l : List (ℕ × ℕ)). length (l ++ (place, top) ∷ []) ≤ 2) (sym e) low

      go : Waiting → length all_links ≤ 2
      go (no_link e) = few [] e (omega arith)
      go (one_link hung_place pointer e hangs part) = few ((hung_place, pointer) ∷ []) e (omega arith)

  open_links : StoresMay (AnyAt (IsOpen old in_snapshot taken)) (links_of all_links)
  open_links = go grows.hung
    where
      opened : (links : List (ℕ × ℕ)) → grows.links ≡ links → StoresMay (AnyAt (IsOpen old in_snapshot taken)) (links_of (links ++ (place, top) ∷ [])) →
          StoresMay (AnyAt (IsOpen old in_snapshot taken)) (links_of all_links)
      opened links e may = subst (λ (l : List (ℕ × ℕ)). StoresMay (AnyAt (IsOpen old in_snapshot taken)) (links_of (l ++ (place, top) ∷ []))) (sym e) may

      go : Waiting → StoresMay (AnyAt (IsOpen old in_snapshot taken)) (links_of all_links)
      go (no_link e) = opened [] e (open_place ready, tt)
      go (one_link hung_place pointer e hangs part) =
          opened ((hung_place, pointer) ∷ []) e
          (in_live (record { tree = t; reached = can.reached; has = part }) (hung_loose ready hung_place pointer hangs), (open_place ready, tt))

  ready_links : HasRootReady old linked t place top
  ready_links = go grows.hung
    where
      after : (links : List (ℕ × ℕ)) → grows.links ≡ links → HasRootReady old (after_stores middle links) t place top → HasRootReady old linked t place top
      after links e is = subst (λ (l : List (ℕ × ℕ)). HasRootReady old (after_stores middle l) t place top) (sym e) is

      go : Waiting → HasRootReady old linked t place top
      go (no_link e) = after [] e (ready_alone ready)
      go (one_link hung_place pointer e hangs part) =
          let hung = ready_hung ready hung_place pointer hangs in
          let is = pointer_is ready hung_place pointer hangs in
          after ((hung_place, pointer) ∷ []) e (subst₂ (λ p r. HasRootReady old (set middle hung_place p) t place (raised_by r grows.chain)) is (roots ready) hung)

  -- a word of another tree
  frame : (u b k : ℕ) → IsReached old u → u ≢ t → HasBlock old (root_of old u) (size_of old u) b → k < 512 → 512 * b + k ≢ place →
      get_or (set linked place top) (512 * b + k) 0 ≡ get_or old (512 * b + k) 0
  frame u b k r away has few beyond =
      get_or-set_other linked place (512 * b + k) top 0 beyond
      ∙ links_beside grows.hung middle (512 * b + k) (λ part. own (subst (HasBlock old root size) (block_row b k few) part))
      ∙ may_frame _ 0 _ first grows.between grows.stores.part (512 * b + k) (λ v m. elim m [
        | inl mine ↦
            let its_own = subst (Has taken) (block_row b k few) mine in
            each-has (λ c. IsLiveBlock old c → ⊥) taken b (taken_free ready) its_own (record { tree = u; reached = r; has = has })
        | inr past_end ↦ own (subst (HasBlock old root size) (block_row b k few) (past_end_block ready (512 * b + k) v past_end))
      ])
    where
      own : HasBlock old root size b → ⊥
      own mine = away (can.well.apart u t b r can.reached has mine)

  -- ---- the nodes that were there

  raised_height : (r : ℕ) (chain : List ℕ) → height_of r + length chain ≤ 7 → height_of (raised_by r chain) ≡ height_of r + length chain
  raised_height r [] low = omega arith
  raised_height r (b ∷ chain) low =
      let one : height_of (4096 * b + suc (height_of r)) ≡ suc (height_of r) = omega (arith, low) in
      let rest = raised_height (4096 * b + suc (height_of r)) chain (omega (arith, low, one)) in
      omega (arith, rest, one)

  tall_is : height_of top ≡ height_with root size to
  tall_is = raised_height root grows.chain (omega (arith, grows.tall, tall_low root size to (can.well.sound t can.reached).low)) ∙ grows.tall

  abbrev last : Image
  last = set linked place top

  beside_root : (b s : ℕ) → b ≢ 0 → s < 512 → HasBlock old root size b ⊎ (IsLiveBlock old b → ⊥) → 512 * b + s ≢ place
  beside_root =
      let reads = reads_self (IsReadByWords old t) old size root (can.well.sound t can.reached) (can.well.low t can.reached) in
      root_beside old can.well t place root can.reached at reads

  -- no pointer that waited is stored over one to a node
  beside_links : (d k : ℕ) → node old root (suc d) k ≢ 0 → (p : ℕ) → 512 * node old root d (k / 512) + k % 512 ≡ p →
      get_or linked p 0 ≡ get_or middle p 0
  beside_links d k present p here = go grows.hung
    where
      apart : (hung_place pointer : ℕ) → Hangs old middle root size from to hung_place pointer raw grows.visited → p ≢ hung_place
      apart hung_place pointer hangs same =
          let block : node old root d (k / 512) ≡ node old root hangs.depth (hangs.index / 512) = omega (arith, here, hangs.at, same) in
          let slot : k % 512 ≡ hangs.index % 512 = omega (arith, here, hangs.at, same) in
          let words = tree_word-suc old root d k ∙ ap₂ (slot_word old) block slot ∙ sym (tree_word-suc old root hangs.depth hangs.index) in
          present (ap block_of words ∙ hangs.null)

      after : (links : List (ℕ × ℕ)) → grows.links ≡ links → get_or (after_stores middle links) p 0 ≡ get_or middle p 0 → get_or linked p 0 ≡ get_or middle p 0
      after links e is = subst (λ (l : List (ℕ × ℕ)). get_or (after_stores middle l) p 0 ≡ get_or middle p 0) (sym e) is

      go : Waiting → get_or linked p 0 ≡ get_or middle p 0
      go (no_link e) = after [] e refl
      go (one_link hung_place pointer e hangs part) =
          after ((hung_place, pointer) ∷ []) e (get_or-set_other middle hung_place p pointer 0 (apart hung_place pointer hangs))

  old_slot : (d k : ℕ) → IsLivePointer root size (suc d) k → node old root (suc d) k ≢ 0 →
      slot_word last (node old root d (k / 512)) (k % 512) ≡ slot_word old (node old root d (k / 512)) (k % 512)
  old_slot d k live present =
      let above : node old root d (k / 512) ≢ 0 = present_above old root d k present in
      let up : IsLivePointer root size d (k / 512) = live_above _ _ d k (live_pointer_word _ _ (suc d) k live) in
      let has : HasBlock old root size (node old root d (k / 512)) = record { depth = d; index = k / 512; pointer = up; named = refl; not_null = above } in
      slot_word-at last (node old root d (k / 512)) (k % 512) above
      ∙ get_or-set_other linked place (512 * node old root d (k / 512) + k % 512) top 0
      (beside_root (node old root d (k / 512)) (k % 512) above (omega arith) (inl has))
      ∙ beside_links d k present (512 * node old root d (k / 512) + k % 512) refl
      ∙ sym (slot_word-at middle (node old root d (k / 512)) (k % 512) above)
      ∙ (keeps old middle can.well (agrees ready) t can.reached).kept d k live

  old_node : (d k : ℕ) → IsLivePointer root size d k → node old root d k ≢ 0 → node last root d k ≡ node old root d k
  old_node zero k live present = ap block_of (tree_word-zero last root k ∙ sym (tree_word-zero old root k))
  old_node (suc d) k live present =
      let up : IsLivePointer root size d (k / 512) = live_above _ _ d k (live_pointer_word _ _ (suc d) k live) in
      let above : node last root d (k / 512) ≡ node old root d (k / 512) = old_node d (k / 512) up (present_above old root d k present) in
      ap block_of
      (tree_word-suc last root d k ∙ ap (λ b. slot_word last b (k % 512)) above ∙ old_slot d k live present ∙ sym (tree_word-suc old root d k))

  chain_slot : (b : ℕ) → Has grows.chain b → slot_word last b 0 ≡ slot_word middle b 0
  chain_slot b m =
      let free : IsLiveBlock old b → ⊥ = each-has (λ c. IsLiveBlock old c → ⊥) taken b (taken_free ready) (in_taken_chain ready b m) in
      let low : 1 ≤ b = each-has (λ c. 1 ≤ c) taken b (usable ready).low (in_taken_chain ready b m) in
      let some : b ≢ 0 = (λ e. omega (arith, low, e)) in
      slot_word-at last b 0 some
      ∙ get_or-set_other linked place (512 * b + 0) top 0 (beside_root b 0 some (omega arith) (inr free))
      ∙ links_beside grows.hung middle (512 * b + 0)
      (λ part. free (record { tree = t; reached = can.reached; has = subst (HasBlock old root size) (block_row b 0 (omega arith)) part }))
      ∙ sym (slot_word-at middle b 0 some)

  nodes_stay : (d k : ℕ) → IsLivePointer root size d k → node old root d k ≢ 0 →
      node last top (height_of top - height_of root + d) k ≡ node old root d k
  nodes_stay d k live present =
      let deep : height_of top - height_of root ≡ length grows.chain = omega (arith, tall_is, grows.tall) in
      let few : height_of root + length grows.chain ≤ 7 = omega (arith, grows.tall, tall_low root size to (can.well.sound t can.reached).low) in
      ap (λ e. node last top (e + d) k) deep
      ∙ node-raised_by last root grows.chain size (can.well.sound t can.reached).fits few (lead_kept middle last root grows.chain chain_slot grows.down) d k live
      ∙ old_node d k live present

  pub tree_prepared : PreparesWith in_snapshot first new free_old free_new t from to raw
  tree_prepared = record {
    taken = grows.visited ++ grows.raised;
    takes = grows.takes;
    counted = grows.counted;
    adds = epochs_taking in_snapshot first grows.between new taken (May ready) _ all_links can.well grows.stores (harmless ready) grows.ends
        (prep_stores size from to (need_for old t from to)) (few _ _ _ _ grows.counted few_links) any_links (usable ready).apart (taken_are ready) (opens ready) open_links;
    ready = rw words_last
        (prepared old linked can.well t place top from to raw taken can.reached at ready_links (taken_free ready)
        (extended old root size from raw 0) (IsFull old root size × (from ≡ size_of old t)) grows.tree
        (λ o low. extended_old old root size from raw 0 o (rw (zero_plus o) low))
        (λ o above below. extended_new old root size from raw 0 o (rw (zero_plus o) above) ∙ ap (given from raw) (zero_plus o))
        (λ by. (full_by_words old can.well t can.reached by, can.by_words by))
        tall_is can.fits (order ready) frame nodes_stay);
  }
    where
      zero_plus : (o : ℕ) → 0 + o ≡ o
      zero_plus o = omega arith

      few : (taken needed past_end links : ℕ) → taken ≡ needed → links ≤ 2 → 512 * taken + past_end + links ≤ 512 * needed + past_end + 2
      few taken needed past_end links e low = omega (arith, e, low)

      words_last : current_words new ≡ set linked place top
      words_last = words_new grows.between new all_links grows.ends
          ∙ after_append middle grows.links ((place, top) ∷ [])
