-- A tree with blocks that has grown: its root, with a pointer that waited and with none.
use Rattle.std.proofs.Common.{◌≡◌, ◌≢◌, ℕ, suc, ◌+◌, ◌-◌, ◌*◌, ◌/◌, ◌<◌, ◌≤◌, List, [], ◌∷◌, Bool, false, min, set, sym, ◌∙◌, ap, subst, arith, lt_of_lt_of_le}
use Rattle.bp_layout.proofs.MemberLaws.{each-of, has-prefix}
use Rattle.bp_limits.specs.Limits.{max_height}
use Rattle.bp_layout.specs.Words.{Image, block_of, height_of}
use Rattle.bp_layout.specs.Tree.{node, span, IsLivePointer}
use Rattle.bp_layout.specs.Inode.{root_of, size_of, StandsAt}
use Rattle.bp_layout.specs.Reached.{IsLiveBlock}
use Rattle.bp_layout.specs.Same.{Same}
use Rattle.bp_changes.specs.SameContent.{IsReadByWords, ReadsAs}
use Rattle.bp_layout.specs.Members.{Has, Each}
use Rattle.bp_changes.specs.Links.{CanHang, raised_by}
use Rattle.bp_layout.proofs.TreeLaws.{node-kept, live_above, live_pointer_word}
use Rattle.bp_changes.proofs.Frame.{keeps, size-same}
use Rattle.bp_changes.proofs.ReachedOn.{reached_on, meaning_on}
use Rattle.bp_changes.proofs.Reshape as reshape
use Rattle.bp_changes.proofs.NullLink as null_link
use Rattle.pm_epochs.specs.May.{AnyOf}
use Rattle.pm_region.specs.Memory.{Memory}
use Rattle.bp_append.specs.Built.{IsBuilt}
use Rattle.bp_append.proofs.LaidLaws.{given-before}
use Rattle.bp_append.proofs.FillLaws.{apart_left, apart_parts}
use Rattle.bp_changes.proofs.Chain.{chain_reads}
use Rattle.bp_append.specs.Given.{given_at}
use Rattle.bp_append.specs.Visited.{Hangs}
use Rattle.bp_append.proofs.HangBuilt.{hang_built, in_below}
use Rattle.bp_append.proofs.ReadyLaws.{HasRootReady}
use Rattle.bp_append.proofs.TwoLinks as two
use Rattle.bp_append.proofs.EndWays.{slot_within}
use Rattle.bp_append.proofs.TreeGrown.{HasGrown, views, order, agrees, sizes, roots_stay, roots, meaning, well, there, place_there, free_there, chain_there, fresh}

module _ {in_snapshot : ℕ → Bool} {first new : Memory} {free_old free_new : List ℕ} {t place from to : ℕ} {path raw : List ℕ}
    (ready : HasGrown in_snapshot first new free_old free_new t place from to path raw) where
  open ready use {can, at, grows}
  open (views ready) use {old, middle, root, size, taken}

  -- ---- with no pointer that waited

  pub reads_alone : ReadsAs (IsReadByWords middle t) middle (size_of middle t) (root_of middle t) (raised_by root grows.chain)
  reads_alone = subst (λ r. ReadsAs (IsReadByWords middle t) middle (size_of middle t) (root_of middle t) (raised_by r grows.chain)) (roots ready)
      (chain_reads (IsReadByWords middle t) middle (size_of middle t) (root_of middle t)
      grows.chain ((well ready).sound t (there ready)) (chain_there ready) (fresh ready))

  pub ready_alone : HasRootReady old middle t place (raised_by root grows.chain)
  ready_alone = record {
    meaning = meaning ready;
    well = well ready;
    reached = there ready;
    at = place_there ready;
    reads = reads_alone;
    sizes = λ u r. size-same old middle can.well (agrees ready) u r;
    roots = λ u r away. (roots_stay ready) u r;
  }

  -- ---- with a pointer that waited

  module _ (hung_place pointer : ℕ) (hangs : Hangs old middle root size from to hung_place pointer raw grows.visited) where
    -- how high its tree is, where it begins, how long it is and what it has
    abbrev level : ℕ
    level = hangs.live.level

    abbrev begins : ℕ
    begins = hangs.index * span level

    abbrev part : ℕ
    part = min (to - begins) (span level)

    abbrev made : ℕ → ℕ
    made = given_at from raw begins

    abbrev Late : Type 0
    Late = from ≤ begins

    abbrev block : ℕ
    block = block_of pointer

    abbrev root_now : ℕ
    root_now = root_of middle t

    -- the node gets a pointer to bytes that are wanted, so it has the byte at the size
    pub hung_loose : in_snapshot (hung_place / 512) ≡ false
    hung_loose =
        let word = live_pointer_word _ _ (suc hangs.depth) hangs.index hangs.live in
        let parent : IsLivePointer root size hangs.depth (hangs.index / 512) = live_above _ _ hangs.depth hangs.index word in
        let past_end = can.past_end in
        let wanted = hangs.wanted in
        let same : suc level ≡ parent.level = omega (arith, parent.height, hangs.live.height) in
        let high : size_of old t < hangs.index / 512 * span parent.level + span parent.level =
        subst (λ l. size_of old t < hangs.index / 512 * span l + span l) same
        (lt_of_lt_of_le (omega (arith, past_end, wanted)) (slot_within hangs.index level)) in
        let row : node old root hangs.depth (hangs.index / 512) ≡ hung_place / 512 = omega (arith, hangs.at) in
        subst (λ b. in_snapshot b ≡ false) row (can.loose.nodes hangs.depth (hangs.index / 512) parent hangs.present high)

    pub pointer_is : 4096 * block ≡ pointer
    pointer_is = omega (arith, hangs.bits)

    nodes_same : (d k : ℕ) → IsLivePointer root size d k → node middle root_now d k ≡ node old root d k
    nodes_same d k live =
        ap (λ r. node middle r d k) (roots ready) ∙ node-kept old middle root size (keeps old middle can.well (agrees ready) t can.reached) d k live

    above_live : IsLivePointer root size hangs.depth (hangs.index / 512)
    above_live = live_above _ _ hangs.depth hangs.index (live_pointer_word _ _ (suc hangs.depth) hangs.index hangs.live)

    low_level : level ≤ max_height
    low_level = let low = (can.well.sound t can.reached).low ready.some in omega (arith, hangs.live.height, low)

    built_there : IsBuilt middle (4096 * block + level) part made (Has hangs.below) Late
    built_there = subst (λ p. IsBuilt middle (p + level) part made (Has hangs.below) Late) (sym pointer_is) hangs.built

    below_free : Each (λ b. IsLiveBlock middle b → ⊥) hangs.below
    below_free = each-of _ hangs.below (λ b m. (free_there ready) b (has-prefix grows.visited grows.raised b (hangs.inside b m)))

    height_there : suc hangs.depth + level ≡ height_of root_now
    height_there = rw (roots ready) hangs.live.height

    live_there : begins < size_of middle t
    live_there = rw (sizes ready) hangs.live.live

    wide_there : (x : ℕ) → x < span level → begins + x < size_of middle t → x < part
    wide_there x small inside = omega (arith, small, inside, sizes ready, order ready)

    zeros_there : (i : ℕ) → begins + i < size_of middle t → made i ≡ 0
    zeros_there i inside = given-before from raw (begins + i) (omega (arith, inside, sizes ready, can.past_end))

    stands_there : StandsAt middle t hangs.depth hangs.index hung_place
    stands_there =
        let same = nodes_same hangs.depth (hangs.index / 512) above_live in
        record { present = rw same hangs.present; at = rw same hangs.at }

    null_there : node middle root_now (suc hangs.depth) hangs.index ≡ 0
    null_there = nodes_same (suc hangs.depth) hangs.index hangs.live ∙ hangs.null

    hang : CanHang middle t hangs.depth hangs.index hung_place block
    hang =
        hang_built middle t hangs.depth hangs.index hung_place block level part made hangs.below Late (there ready) low_level height_there live_there
        null_there stands_there built_there below_free wide_there zeros_there

    not_chain : (b : ℕ) → null_link.InSubtree middle (well ready) t hangs.depth hangs.index hung_place block hang b → Each (λ c. c ≢ b) grows.chain
    not_chain b inside =
        let live_block = in_below middle t hangs.depth hangs.index hung_place block level part made hangs.below Late (there ready) low_level height_there
        live_there null_there stands_there built_there below_free wide_there zeros_there inside.depth inside.index inside.rank inside.below inside.pointer
        (λ e. inside.not_null (sym inside.named ∙ e)) in
        let mine : Has grows.visited b = hangs.inside b (subst (Has hangs.below) inside.named live_block) in
        let apart = apart_left taken free_new (rw grows.takes at can.usable.apart) in
        each-of _ grows.chain (λ c m e. apart_parts grows.visited grows.raised b apart mine (subst (Has grows.raised) e (grows.inside c m)))

    abbrev hung_image : Image
    hung_image = set middle hung_place (4096 * block)

    pub any_both : AnyOf Same middle middle ((hung_place, 4096 * block) ∷ (place, raised_by root_now grows.chain) ∷ [])
    any_both = two.any_two_links middle (well ready) t hangs.depth hangs.index hung_place block hang grows.chain (chain_there ready) not_chain place (place_there ready)

    pub ready_hung : HasRootReady old hung_image t place (raised_by root_now grows.chain)
    ready_hung =
        let reshaped = null_link.hung_reshapes middle (well ready) t hangs.depth hangs.index hung_place block hang in
        record {
          meaning = meaning_on old middle hung_image (meaning ready) (reshape.reshaped_meaning middle hung_image (well ready) t root_now reshaped);
          well = two.wf_middle middle (well ready) t hangs.depth hangs.index hung_place block hang grows.chain (chain_there ready) not_chain;
          reached = two.reached_middle middle (well ready) t hangs.depth hangs.index hung_place block hang grows.chain (chain_there ready) not_chain;
          at = two.place_middle middle (well ready) t hangs.depth hangs.index hung_place block hang grows.chain (chain_there ready) not_chain place (place_there ready);
          reads = two.reads_middle middle (well ready) t hangs.depth hangs.index hung_place block hang grows.chain (chain_there ready) not_chain;
          sizes = λ u r.
              reshape.size-same middle hung_image (well ready) t root_now reshaped u (reached_on old middle (meaning ready) u r)
              ∙ size-same old middle can.well (agrees ready) u r;
          roots = λ u r away.
              reshape.root-same middle hung_image (well ready) t root_now reshaped u (reached_on old middle (meaning ready) u r) away
              ∙ roots_stay ready u r;
        }
