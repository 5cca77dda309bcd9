-- The blocks that a preparation takes are the nodes that the tree lacks.
use Rattle.std.proofs.Common.{◌≡◌, ◌≢◌, ◌⊎◌, ℕ, zero, suc, ◌+◌, ◌-◌, ◌*◌, ◌/◌, ◌<◌, ◌≤◌, min, max, List, [], ◌∷◌, ◌++◌, length, map, filter, flat_map, Bool, true, false, cond, not, ◌&&◌, ◌==◌, nat_lt, nat_le, if◌then◌else◌, refl, sym, ◌∙◌, ap, arith, rules, inl, inr, lt-ltb, le-ltb, le-leb, mul-le-mul_right, ne_eqb, le_trans}
use Rattle.bp_limits.specs.declared.version.Version.{Version}
use Rattle.bp_limits.specs.declared.version.Version.TheVariants.{One, Two, Three}
use Rattle.bp_limits.specs.Limits.{greatest_height, max_height}
use Rattle.bp_limits.specs.CallLimits.{greatest_size, max_size}
use Rattle.std.specs.List.{range_with_len}
use Rattle.std.proofs.lemmas.Bool.{cases_lt, cases_eq, lt-leb}
use Rattle.std.proofs.lemmas.List.{length-append, append-nil}
use Rattle.std.proofs.lemmas.List.Elements.{filter-append}
use Rattle.std.proofs.lemmas.Grind.{flat_map-append}
use Rattle.bp_free.proofs.Members.{range_split}
use Rattle.bp_layout.specs.Words.{Image, height_of, block_of}
use Rattle.bp_layout.specs.Tree.{span, node}
use Rattle.bp_changes.proofs.Roots.{null_tree}
use Rattle.bp_layout.specs.Nodes.{TreeNode, is_present, height_for, height_with, raised_nodes, nodes_over, nodes_for}
use Rattle.bp_append.specs.Tally.{met, tally}
use Rattle.bp_append.specs.Spine.{spine_at, spine}
use Rattle.bp_append.specs.Risen.{idle, idles, edge}
use Rattle.bp_append.specs.Needs.{raised_at, needs}
use Rattle.bp_append.proofs.TallyLaws.{span-positive, met_some, tally_none, span-rising}
use Rattle.std.proofs.Math.Nat.{lt-div-mul-add}
use Rattle.std.proofs.lemmas.List.FromFn.{filter_of_map_range_with_len_more, length-map-range_with_len}
use Rattle.bp_append.proofs.EdgeCounts.{idles_none, idles_more}
use Rattle.bp_append.proofs.SpineLaws.{absent, spine_idle, spine_at_idle, dead_node, null_node}

module _ (image : Image) (root size from to : ℕ) (past_end : size ≤ from) where
  -- the height of the tree with the bytes in it
  abbrev tall : ℕ
  tall = height_with root size to

  abbrev Lacks : TreeNode → Bool
  Lacks n = not (is_present image root size n)

  -- the nodes of a level that are not there, of some in a row
  abbrev lacking : ℕ → ℕ → ℕ → List TreeNode
  lacking level first n = filter Lacks (map (λ i. record { level = level; index = i }) (range_with_len first n))

  -- how many nodes of a level stand after the first
  abbrev past_end_count : ℕ → ℕ
  past_end_count level = (to - 1) / span level - from / span level

  -- the nodes of the levels below one
  abbrev nodes_below : ℕ → List TreeNode
  nodes_below levels = flat_map (nodes_over from to) (range_with_len 0 levels)

  after_first : (level index : ℕ) → from / span level < index → size ≤ index * span level
  after_first level index less =
      let up : (from / span level + 1) * span level ≤ index * span level = mul-le-mul_right (span level) (omega (arith, less)) in
      let step : (from / span level + 1) * span level ≡ from / span level * span level + span level = grind arith in
      let rest = lt-div-mul-add {a = from} {b = span level} (span-positive level) in
      omega (arith, up, step, rest, past_end)

  all_pass : (level n index : ℕ) → from / span level < index → length (lacking level index n) ≡ n
  all_pass level zero index less = refl
  all_pass level (suc n) index less =
      let dead = dead_node image root size level index (after_first level index less) in
      let more = lacking level (index + 1) n in
      ap (λ b. length (if not b then record { level = level; index = index } ∷ more else more)) dead
      ∙ ap suc (all_pass level n (index + 1) (omega (arith, less)))

  at_level : (level : ℕ) → from < to → length (filter Lacks (nodes_over from to level)) + spine_at image root size from to level ≡ met level from to
  at_level level some =
      let first : ℕ = from / span level in
      let rest : ℕ = (to - 1) / span level - from / span level in
      let pass = all_pass level (past_end_count level) (from / span level + 1) (omega arith) in
      met_is (is_present image root size (record { level = level; index = from / span level })) pass
    where
      met_is : (b : Bool) → length (lacking level (from / span level + 1) (past_end_count level)) ≡ past_end_count level →
          length (if not b then record { level = level; index = from / span level } ∷ lacking level (from / span level + 1) (past_end_count level)
          else lacking level (from / span level + 1) (past_end_count level)) + (if nat_lt from to && b then 1 else 0) ≡ met level from to
      met_is true pass = rw (met_some level from to some, lt-ltb from to some) (omega (arith, pass))
      met_is false pass = rw (met_some level from to some, lt-ltb from to some) (omega (arith, pass))

  at_levels : (levels : ℕ) → from < to → length (filter Lacks (nodes_below levels)) + spine image root size from to levels ≡ tally levels from to
  at_levels zero some = refl
  at_levels (suc level) some =
      let up = at_levels level some in
      let here = at_level level some in
      let e : suc level ≡ level + 1 = omega arith in
      let split : range_with_len 0 (suc level) ≡ range_with_len 0 level ++ (0 + level) ∷ [] = ap (range_with_len 0) e ∙ range_split 0 level 1 in
      let zero_is : 0 + level ≡ level = omega arith in
      let one : flat_map (nodes_over from to) ((0 + level) ∷ []) ≡ nodes_over from to level = append-nil _ ∙ ap (nodes_over from to) zero_is in
      let parts = flat_map-append (nodes_over from to) (range_with_len 0 level) ((0 + level) ∷ []) ∙ ap (λ x. nodes_below level ++ x) one in
      let all : filter Lacks (nodes_below (suc level)) ≡ filter Lacks (nodes_below level) ++ filter Lacks (nodes_over from to level) =
      ap (λ r. filter Lacks (flat_map (nodes_over from to) r)) split
      ∙ ap (filter Lacks) parts
      ∙ filter-append Lacks (nodes_below level) (nodes_over from to level) in
      let lengths : length (filter Lacks (nodes_below (suc level))) ≡ length (filter Lacks (nodes_below level)) + length (filter Lacks (nodes_over from to level)) =
      ap length all ∙ length-append (filter Lacks (nodes_below level)) (filter Lacks (nodes_over from to level)) in
      sums _ _ _ _ _ _ _ lengths up here
    where
      sums : (all part one spine_part spine_one tally_part met_one : ℕ) → all ≡ part + one → part + spine_part ≡ tally_part → one + spine_one ≡ met_one → all + (spine_part + spine_one) ≡ tally_part + met_one
      sums all part one spine_part spine_one tally_part met_one a b c = omega (arith, a, b, c)

  spine_less : (level : ℕ) → spine_at image root size from to level ≤ met level from to
  spine_less level = elim (cases_lt from to) [
    | inl some ↦ let e = at_level level some in omega (arith, e)
    | inr none ↦ let e = spine_at_idle image root size from to level none in omega (arith, e)
  ]

  -- the two sums
  abbrev raised_sum : ℕ → ℕ
  raised_sum zero = 0
  raised_sum (suc level) = raised_sum level + raised_at root size from to level

  needs_are : (levels : ℕ) → needs image root size from to levels + spine image root size from to levels ≡ tally levels from to + raised_sum levels
  needs_are zero = refl
  needs_are (suc level) = sums _ _ _ _ _ _ _ (needs_are level) (spine_less level)
    where
      sums : (need spine_part tally_part raised met_here spine_here raised_here : ℕ) → need + spine_part ≡ tally_part + raised → spine_here ≤ met_here →
          (need + (met_here - spine_here + raised_here)) + (spine_part + spine_here) ≡ (tally_part + met_here) + (raised + raised_here)
      sums need spine_part tally_part raised met_here spine_here raised_here a b = omega (arith, a, b)

  raised_some : 0 < size → block_of root ≢ 0 → (level : ℕ) → raised_sum (suc level) ≡ idles from to (height_of root) level
  raised_some some present zero = rw (lt-ltb 0 size some, ne_eqb (block_of root) 0 present, le-ltb (height_of root) 0 (omega arith)) refl
  raised_some some present (suc level) =
      let up = raised_some some present level in
      let here : raised_at root size from to (suc level) ≡ (if nat_lt (height_of root) (suc level) then idle from to (suc level) else 0) = rw (lt-ltb 0 size some, ne_eqb (block_of root) 0 present) refl in
      omega (arith, up, here)

  raised_none : (size ≡ 0) ⊎ (block_of root ≡ 0) → (levels : ℕ) → raised_sum levels ≡ 0
  raised_none none zero = refl
  raised_none none (suc level) = omega (arith, raised_none none level, here none)
    where
      here : (size ≡ 0) ⊎ (block_of root ≡ 0) → raised_at root size from to level ≡ 0
      here (inl e) = rw e refl
      here (inr e) = rw e (go (nat_lt 0 size))
        where
          go : (b : Bool) → ◌≡◌ {A = ℕ} (if b && false && nat_lt (height_of root) level then idle from to level else 0) 0
          go true = refl
          go false = refl

  -- ---- the nodes above the root

  above_idle : to ≤ from → (n : ℕ) → idles from to (height_of root) (height_of root + n) ≡ n
  above_idle none zero = let e : height_of root + 0 ≡ height_of root = omega arith in rw e (idles_none from to (height_of root) (height_of root) (omega arith))
  above_idle none (suc n) =
      let e : height_of root + suc n ≡ suc (height_of root + n) = omega arith in
      let here : idle from to (suc (height_of root + n)) ≡ 1 = rw (le-ltb from (min to (span (suc (height_of root + n)))) (omega (arith, none))) refl in
      let more = idles_more from to (height_of root) (height_of root + n) (omega arith) in
      rw e (omega (arith, more, here, above_idle none n))

  above_met : from < to → (n : ℕ) → length (filter (λ (m : TreeNode). nat_le (span m.level) from) (map (λ level. record { level = level; index = 0 }) (range_with_len (suc (height_of root)) n))) ≡ idles from to (height_of root) (height_of root + n)
  above_met some zero = let e : height_of root + 0 ≡ height_of root = omega arith in rw e (sym (idles_none from to (height_of root) (height_of root) (omega arith)))
  above_met some (suc n) =
      let e : height_of root + suc n ≡ suc (height_of root + n) = omega arith in
      let next : suc n ≡ n + 1 = omega arith in
      let more = idles_more from to (height_of root) (height_of root + n) (omega arith) in
      let snoc = filter_of_map_range_with_len_more (λ (m : TreeNode). nat_le (span m.level) from) (λ level. record { level = level; index = 0 }) (suc (height_of root)) n (suc (height_of root + n)) (omega arith) in
      let lengths = ap length snoc ∙ length-append (filter (λ (m : TreeNode). nat_le (span m.level) from) (map (λ level. record { level = level; index = 0 }) (range_with_len (suc (height_of root)) n))) _ in
      ap (λ k. length (filter (λ (m : TreeNode). nat_le (span m.level) from) (map (λ level. record { level = level; index = 0 }) (range_with_len (suc (height_of root)) k)))) next
      ∙ lengths ∙ sums _ _ _ _ (above_met some n) (one (suc (height_of root + n)) (cases_lt from (span (suc (height_of root + n))))) ∙ sym more ∙ sym (ap (idles from to (height_of root)) e)
    where
      sums : (a b c d : ℕ) → a ≡ c → b ≡ d → a + b ≡ c + d
      sums a b c d p q = omega (arith, p, q)

      one : (level : ℕ) → (from < span level) ⊎ (span level ≤ from) → length {A = TreeNode} (cond (nat_le (span level) from) (record { level = level; index = 0 } ∷ []) []) ≡ idle from to level
      one level (inl low) = rw (lt-leb (span level) from low, lt-ltb from (min to (span level)) (omega (arith, low, some))) refl
      one level (inr over) = rw (le-leb (span level) from over, le-ltb from (min to (span level)) (omega (arith, over))) refl

  -- ---- all of them

  -- the nodes that raise it, where it is raised
  raised_are : 0 < size → block_of root ≢ 0 → raised_nodes root size to ≡ map (λ level. record { level = level; index = 0 }) (range_with_len (suc (height_of root)) (tall - height_of root))
  raised_are some present = rw (lt-ltb 0 size some, ne_eqb (block_of root) 0 present) refl

  raised_are_none : (size ≡ 0) ⊎ (block_of root ≡ 0) → raised_nodes root size to ≡ []
  raised_are_none (inl e) = rw e refl
  raised_are_none (inr e) = rw e (go (nat_lt 0 size))
    where
      go : (b : Bool) → ◌≡◌ {A = List TreeNode} (if b && false then map (λ level. record { level = level; index = 0 }) (range_with_len (suc (height_of root)) (tall - height_of root)) else []) []
      go true = refl
      go false = refl

  nodes_some : from < to → nodes_for image root size from to ≡ filter Lacks (flat_map (nodes_over from to) (range_with_len 0 (suc tall))) ++ filter (λ (m : TreeNode). nat_le (span m.level) from) (raised_nodes root size to)
  nodes_some some = rw (lt-ltb from to some) refl

  nodes_none : to ≤ from → nodes_for image root size from to ≡ raised_nodes root size to
  nodes_none none = rw (le-ltb from to none) refl

  sums : (nodes first second spine_part tally_part raised need : ℕ) → nodes ≡ first + second → first + spine_part ≡ tally_part → second ≡ raised → need + spine_part ≡ tally_part + raised → nodes ≡ need
  sums nodes first second spine_part tally_part raised need a b c d = omega (arith, a, b, c, d)

  up_to : height_of root ≤ tall → height_of root + (tall - height_of root) ≡ tall
  up_to order = omega (arith, order)

  law_present : 0 < size → block_of root ≢ 0 → height_of root ≤ tall → length (nodes_for image root size from to) ≡ needs image root size from to (suc tall)
  law_present some present order = go (cases_lt from to)
    where
      raised_is : raised_sum (suc tall) ≡ idles from to (height_of root) tall
      raised_is = raised_some some present tall

      go : (from < to) ⊎ (to ≤ from) → length (nodes_for image root size from to) ≡ needs image root size from to (suc tall)
      go (inl wanted) =
          let met_is = above_met wanted (tall - height_of root) in
          let second : length (filter (λ (m : TreeNode). nat_le (span m.level) from) (raised_nodes root size to)) ≡ raised_sum (suc tall) =
          ap (λ ns. length (filter (λ (m : TreeNode). nat_le (span m.level) from) ns)) (raised_are some present) ∙ met_is ∙ ap (idles from to (height_of root)) (up_to order) ∙ sym raised_is in
          sums _ _ _ _ _ _ _ (ap length (nodes_some wanted) ∙ length-append _ _) (at_levels (suc tall) wanted) second (needs_are (suc tall))
      go (inr none) =
          let second : length (nodes_for image root size from to) ≡ raised_sum (suc tall) =
          ap length (nodes_none none ∙ raised_are some present) ∙ length-map-range_with_len (λ level. record { level = level; index = 0 }) (suc (height_of root)) (tall - height_of root)
          ∙ sym (above_idle none (tall - height_of root)) ∙ ap (idles from to (height_of root)) (up_to order) ∙ sym raised_is in
          idle_sums _ _ _ _ _ second (needs_are (suc tall)) (spine_idle image root size from to (suc tall) none) (tally_none (suc tall) from to none)
        where
          idle_sums : (nodes raised need tally_part spine_part : ℕ) → nodes ≡ raised → need + spine_part ≡ tally_part + raised → spine_part ≡ 0 → tally_part ≡ 0 → nodes ≡ need
          idle_sums nodes raised need tally_part spine_part a b c d = omega (arith, a, b, c, d)

  law_null : (size ≡ 0) ⊎ (block_of root ≡ 0) → length (nodes_for image root size from to) ≡ needs image root size from to (suc tall)
  law_null null = go (cases_lt from to)
    where
      raised_is : raised_sum (suc tall) ≡ 0
      raised_is = raised_none null (suc tall)

      go : (from < to) ⊎ (to ≤ from) → length (nodes_for image root size from to) ≡ needs image root size from to (suc tall)
      go (inl wanted) =
          let second : length (filter (λ (m : TreeNode). nat_le (span m.level) from) (raised_nodes root size to)) ≡ raised_sum (suc tall) =
          ap (λ ns. length (filter (λ (m : TreeNode). nat_le (span m.level) from) ns)) (raised_are_none null) ∙ sym raised_is in
          sums _ _ _ _ _ _ _ (ap length (nodes_some wanted) ∙ length-append _ _) (at_levels (suc tall) wanted) second (needs_are (suc tall))
      go (inr none) =
          let second : length (nodes_for image root size from to) ≡ raised_sum (suc tall) = ap length (nodes_none none ∙ raised_are_none null) ∙ sym raised_is in
          idle_sums _ _ _ _ _ second (needs_are (suc tall)) (spine_idle image root size from to (suc tall) none) (tally_none (suc tall) from to none)
        where
          idle_sums : (nodes raised need tally_part spine_part : ℕ) → nodes ≡ raised → need + spine_part ≡ tally_part + raised → spine_part ≡ 0 → tally_part ≡ 0 → nodes ≡ need
          idle_sums nodes raised need tally_part spine_part a b c d = omega (arith, a, b, c, d)

  -- ---- what is taken

  -- the levels above the root have no node yet
  spine_above : (more : ℕ) → spine image root size from to (suc (height_of root) + more) ≡ spine image root size from to (suc (height_of root))
  spine_above zero = let e : suc (height_of root) + 0 ≡ suc (height_of root) = omega arith in ap (spine image root size from to) e
  spine_above (suc more) =
      let e : suc (height_of root) + suc more ≡ suc (suc (height_of root) + more) = omega arith in
      let over : is_present image root size (record { level = suc (height_of root) + more; index = from / span (suc (height_of root) + more) }) ≡ false =
      too_high (nat_lt (from / span (suc (height_of root) + more) * span (suc (height_of root) + more)) size) (not (node image root (height_of root - (suc (height_of root) + more)) (from / span (suc (height_of root) + more)) == 0)) in
      let none = absent image root size from to (suc (height_of root) + more) over in
      ap (spine image root size from to) e ∙ omega (arith, none, spine_above more)
    where
      too_high : (a b : Bool) → (nat_le (suc (height_of root) + more) (height_of root) && a && b) ≡ false
      too_high a b = rw (lt-leb (suc (height_of root) + more) (height_of root) (omega arith)) refl

  pub taken_present : 0 < size → block_of root ≢ 0 → height_of root ≤ tall → to ≤ span tall →
      length (nodes_for image root size from to) + spine image root size from to (suc (height_of root)) ≡ edge from to tall + idles from to (height_of root) tall
  taken_present some present order fits =
      let law = law_present some present order in
      let are = needs_are (suc tall) in
      let raised_is = raised_some some present tall in
      let e : suc (height_of root) + (tall - height_of root) ≡ suc tall = omega (arith, order) in
      let above = sym (ap (spine image root size from to) e) ∙ spine_above (tall - height_of root) in
      let high : min to (span tall) ≡ to = omega (arith, fits) in
      rw high (all_sums _ _ _ _ _ _ _ law are raised_is above)
    where
      all_sums : (nodes need spine_all tally_all raised idle_all spine_low : ℕ) → nodes ≡ need → need + spine_all ≡ tally_all + raised → raised ≡ idle_all → spine_all ≡ spine_low → nodes + spine_low ≡ tally_all + idle_all
      all_sums nodes need spine_all tally_all raised idle_all spine_low a b c d = omega (arith, a, b, c, d)

  pub taken_null : (size ≡ 0) ⊎ (block_of root ≡ 0) → to ≤ span tall → length (nodes_for image root size from to) ≡ edge from to tall
  taken_null null fits =
      let law = law_null null in
      let are = needs_are (suc tall) in
      let raised_is = raised_none null (suc tall) in
      let high : min to (span tall) ≡ to = omega (arith, fits) in
      rw high (all_sums _ _ _ _ _ law are raised_is (no_spine null (suc tall)))
    where
      no_spine : (size ≡ 0) ⊎ (block_of root ≡ 0) → (levels : ℕ) → spine image root size from to levels ≡ 0
      no_spine null zero = refl
      no_spine null (suc level) = omega (arith, no_spine null level, here null)
        where
          here : (size ≡ 0) ⊎ (block_of root ≡ 0) → spine_at image root size from to level ≡ 0
          here (inl e) = absent image root size from to level (dead_node image root size level (from / span level) (omega (arith, e)))
          here (inr e) = absent image root size from to level (null_node image root size level (from / span level) (null_tree image root e (height_of root - level) (from / span level)))

      all_sums : (nodes need spine_all tally_all raised : ℕ) → nodes ≡ need → need + spine_all ≡ tally_all + raised → raised ≡ 0 → spine_all ≡ 0 → nodes ≡ tally_all
      all_sums nodes need spine_all tally_all raised a b c d = omega (arith, a, b, c, d)

-- ---- heights

height_for_low : (bytes : ℕ) → height_for bytes ≤ max_height
height_for_low bytes = search (rules)

height_for_fits : (bytes : ℕ) → bytes ≤ max_size → bytes ≤ span (height_for bytes)
height_for_fits bytes fits = search (rules)

height_for_most : (version : Version) (bytes : ℕ) → bytes ≤ greatest_size version → height_for bytes ≤ greatest_height version
height_for_most One bytes fits = search (rules)
height_for_most Two bytes fits = height_for_low bytes
height_for_most Three bytes fits = height_for_low bytes

pub tall_enough : (root size to : ℕ) → 0 < size → height_of root ≤ height_with root size to
tall_enough root size to some = rw (ne_eqb size 0 (λ e. omega (arith, e, some))) (omega arith)

pub need_is : (image : Image) (root size from to : ℕ) → size ≤ from → length (nodes_for image root size from to) ≡ needs image root size from to (suc (height_with root size to))
need_is image root size from to past_end = go (cases_eq size 0) (cases_eq (block_of root) 0)
  where
    go : (size ≡ 0) ⊎ (size ≡ 0 → ⊥) → (block_of root ≡ 0) ⊎ (block_of root ≡ 0 → ⊥) → length (nodes_for image root size from to) ≡ needs image root size from to (suc (height_with root size to))
    go (inl e) _ = law_null image root size from to past_end (inl e)
    go (inr some) (inl e) = law_null image root size from to past_end (inr e)
    go (inr some) (inr present) = law_present image root size from to past_end (omega (arith, some)) present (tall_enough root size to (omega (arith, some)))

-- the tree of that height holds the end
pub tall_fits : (root size to : ℕ) → to ≤ max_size → to ≤ span (height_with root size to)
tall_fits root size to fits = go (cases_eq size 0)
  where
    go : (size ≡ 0) ⊎ (size ≡ 0 → ⊥) → to ≤ span (height_with root size to)
    go (inl e) = rw e (height_for_fits to fits)
    go (inr some) =
        let h : height_with root size to ≡ max (height_of root) (height_for to) = rw (ne_eqb size 0 some) refl in
        let up = span-rising (height_for to) (max (height_of root) (height_for to)) (omega arith) in
        rw h (le_trans (height_for_fits to fits) up)

pub tall_low : (root size to : ℕ) → (0 < size → height_of root ≤ max_height) → height_with root size to ≤ max_height
tall_low root size to low = go (cases_eq size 0)
  where
    go : (size ≡ 0) ⊎ (size ≡ 0 → ⊥) → height_with root size to ≤ max_height
    go (inl e) = rw e (height_for_low to)
    go (inr some) =
        let h : height_with root size to ≡ max (height_of root) (height_for to) = rw (ne_eqb size 0 some) refl in
        let a = low (omega (arith, some)) in
        rw h (omega (arith, a, height_for_low to))

-- it is no higher than those of a version that has room for the end
pub tall_most : (version : Version) (root size to : ℕ) → (0 < size → height_of root ≤ greatest_height version) → to ≤ greatest_size version → height_with root size to ≤ greatest_height version
tall_most version root size to low fits = go (cases_eq size 0)
  where
    go : (size ≡ 0) ⊎ (size ≡ 0 → ⊥) → height_with root size to ≤ greatest_height version
    go (inl e) = rw e (height_for_most version to fits)
    go (inr some) =
        let h : height_with root size to ≡ max (height_of root) (height_for to) = rw (ne_eqb size 0 some) refl in
        let a = low (omega (arith, some)) in
        let b = height_for_most version to fits in
        rw h (omega (arith, a, b))
