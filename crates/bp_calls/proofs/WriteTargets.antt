-- The words near which bytes come into a file, and the ways to them: below its size, after it, and across it.
use Rattle.std.proofs.Common.{◌≡◌, ◌≢◌, ◌⊎◌, ℕ, zero, suc, ◌+◌, ◌-◌, ◌*◌, ◌/◌, ◌%◌, ◌<◌, ◌≤◌, min, max, List, [], ◌∷◌, ◌++◌, Bool, nat_lt, if◌then◌else◌, flat_map, fold, take, length, map, refl, sym, ◌∙◌, ap, ap₂, subst, arith, inl, inr, append_assoc}
use Rattle.std.specs.List.{range_with_len}
use Rattle.std.proofs.lemmas.Bool.{cases_lt, eq-eqb, le-ltb, lt-ltb, ne_eqb}
use Rattle.std.proofs.lemmas.List.{append-nil, length-append}
use Rattle.std.proofs.lemmas.List.Sums.{fold-append}
use Rattle.std.proofs.Math.Seq.{take-append_seam}
use Rattle.bp_layout.specs.Inode.{kind_of, size_of}
use Rattle.bp_layout.specs.Members.{Has}
use Rattle.bp_layout.specs.Need.{Change, common, common_all, content_path_at, cover_of, existing_from, touched_at}
use Rattle.bp_layout.specs.Need.Change.{resizes, writes}
use Rattle.bp_layout.specs.Reached.{IsReached}
use Rattle.bp_layout.specs.Thaw.{cover_now, end_path_now, end_targets, heights_now, is_there_now, root_path_now, targets}
use Rattle.bp_layout.specs.WellFormed.{IsWellFormed}
use Rattle.bp_layout.specs.WordPaths.{WordPath, digits, inode_path}
use Rattle.bp_layout.specs.Words.{Image}
use Rattle.bp_layout.proofs.MemberLaws.{has-after}
use Rattle.bp_cow.proofs.LeafCover.{leaf_path}
use Rattle.bp_thaw.specs.Prefixes.{IsWayIn}
use Rattle.bp_read.proofs.ExistingPaths.{AllThere, cover_of-one, existing-all}
use Rattle.bp_calls.proofs.TargetPaths.{content_way, cover_way, end_way, inode_path-now, inode_way, root_way}

-- ---- what paths have in common

common_prefix : (xs ys zs : List ℕ) → common (xs ++ ys) (xs ++ zs) ≡ xs ++ common ys zs
common_prefix [] ys zs = refl
common_prefix (x ∷ xs) ys zs = rw (eq-eqb x x refl) (ap (λ (r : WordPath). x ∷ r) (common_prefix xs ys zs))

-- the path goes on after a prefix by this slot
record GoesOn (prefix : WordPath) (slot : ℕ) (path : WordPath) : Type 0 where
  pub rest : WordPath
  pub is : path ≡ prefix ++ slot ∷ rest

common_goes : (prefix : WordPath) (slot : ℕ) (p q : WordPath) → GoesOn prefix slot p → GoesOn prefix slot q → GoesOn prefix slot (common p q)
common_goes prefix slot p q one two = record {
  rest = common one.rest two.rest;
  is = ap₂ common one.is two.is ∙ common_prefix prefix (slot ∷ one.rest) (slot ∷ two.rest) ∙ rw (eq-eqb slot slot refl) refl;
}

fold_goes : (f : ℕ → WordPath) (prefix : WordPath) (slot : ℕ) → ((k : ℕ) → GoesOn prefix slot (f k)) → (ks : List ℕ) (p : WordPath) → GoesOn prefix slot p → GoesOn prefix slot (fold common p (map f ks))
fold_goes f prefix slot each [] p goes = goes
fold_goes f prefix slot each (k ∷ ks) p goes = fold_goes f prefix slot each ks (common p (f k)) (common_goes prefix slot p (f k) goes (each k))

-- and another one by another slot
common_apart : (prefix : WordPath) (slot other : ℕ) (p q : WordPath) → slot ≢ other → GoesOn prefix slot p → GoesOn prefix other q → common p q ≡ prefix
common_apart prefix slot other p q apart one two =
    ap₂ common one.is two.is ∙ common_prefix prefix (slot ∷ one.rest) (other ∷ two.rest) ∙ rw (ne_eqb slot other apart) (append-nil prefix)

common_leaf : (f : ℕ → WordPath) (prefix : WordPath) (slot other : ℕ) (last : WordPath) → slot ≢ other → ((k : ℕ) → GoesOn prefix slot (f k)) → GoesOn prefix other last → (from count : ℕ) →
    common_all (map f (range_with_len from (suc count)) ++ last ∷ []) ≡ prefix
common_leaf f prefix slot other last apart each goes from count =
    fold-append common (f from) (map f (range_with_len (from + 1) count)) (last ∷ [])
    ∙ common_apart prefix slot other _ last apart (fold_goes f prefix slot each (range_with_len (from + 1) count) (f from) (each from)) goes

there_prefix : (there : WordPath → Bool) (here p q : WordPath) → AllThere there here (p ++ q) → AllThere there here p
there_prefix there here [] q all = tt
there_prefix there here (slot ∷ p) q all = (all.0, there_prefix there (here ++ slot ∷ []) p q all.1)

module _ (image : Image) (wf : IsWellFormed image) (n : ℕ) (reached : IsReached image (suc n)) where
  abbrev i : ℕ
  i = suc n

  abbrev size_way : WordPath
  size_way = inode_path (heights_now image 0) (suc n) 2

  size_there : AllThere (is_there_now image) [] size_way
  size_there = inode_path-now image wf (suc n) 2 reached (omega arith)

  -- after a cover come the ways to the end
  abbrev pub past_end_cover : WordPath → List WordPath
  past_end_cover cover = cover ∷ root_path_now image (suc n) ∷ end_path_now image (suc n) ∷ []

  past_end_ways : (cover : WordPath) → IsWayIn image cover → (path : WordPath) → Has (past_end_cover cover) path → IsWayIn image path
  past_end_ways cover way path has = elim has [
    | inl e ↦ subst (IsWayIn image) e way
    | inr more ↦ elim more [
      | inl e ↦ subst (IsWayIn image) e (root_way image wf (suc n) reached)
      | inr rest ↦ elim rest [ inl e ↦ subst (IsWayIn image) e (end_way image wf (suc n) reached) | inr never ↦ absurd never ]
    ]
  ]

  module _ (size : ℕ) (longer : size_of image (suc n) < size) where
    growing_cover : cover_now image (resizes (suc n) size) ≡ size_way
    growing_cover = cover_of-one (is_there_now image) size_way size_there

    pub growing_targets : targets image (resizes (suc n) size) ≡ past_end_cover (inode_path (heights_now image 0) (suc n) 2)
    growing_targets = rw (lt-ltb (size_of image (suc n)) size longer) (ap past_end_cover growing_cover)

    pub growing_ways : (path : WordPath) → Has (targets image (resizes (suc n) size)) path → IsWayIn image path
    growing_ways path has =
        past_end_ways (inode_path (heights_now image 0) (suc n) 2) (inode_way image wf (suc n) 2 reached (omega arith)) path (subst (λ ps. Has ps path) growing_targets has)

  module _ (offset len : ℕ) where
    abbrev change : Change
    change = writes (suc n) offset len

    abbrev words : Bool → List ℕ
    words starts = if starts then range_with_len (offset / 8) (suc ((min (offset + len) (size_of image (suc n)) - 1) / 8 - offset / 8)) else []

    abbrev touched_by : Bool → Bool → List WordPath
    touched_by starts longer = map (content_path_at (heights_now image) (suc n)) (words starts) ++ (if longer then size_way ∷ [] else [])

    abbrev covered : Bool → Bool → WordPath
    covered starts longer = cover_of (is_there_now image) (touched_by starts longer)

    past_targets : size_of image (suc n) < offset + len → targets image (writes (suc n) offset len) ≡ past_end_cover (cover_now image (writes (suc n) offset len))
    past_targets past =
        ap (λ (longer : Bool). cover_now image change ∷ flat_map (end_targets image) ((if longer then record { tree = suc n; from = max offset (size_of image (suc n)); to = offset + len } ∷ [] else []) ++ []) ++ []) (lt-ltb (size_of image (suc n)) (offset + len) past)

    -- ---- after the size

    past_end_covered : size_of image (suc n) ≤ offset → size_of image (suc n) < offset + len → cover_now image (writes (suc n) offset len) ≡ inode_path (heights_now image 0) (suc n) 2
    past_end_covered past_end past =
        ap₂ covered (le-ltb offset (size_of image (suc n)) past_end) (lt-ltb (size_of image (suc n)) (offset + len) past)
        ∙ cover_of-one (is_there_now image) size_way size_there

    pub past_end_targets : size_of image (suc n) ≤ offset → size_of image (suc n) < offset + len → targets image (writes (suc n) offset len) ≡ past_end_cover (inode_path (heights_now image 0) (suc n) 2)
    past_end_targets past_end past = past_targets past ∙ ap past_end_cover (past_end_covered past_end past)

    -- ---- across it

    abbrev leaf : WordPath
    leaf = leaf_path (heights_now image 0) (suc n)

    inode_goes : (f : ℕ) → f < 8 → GoesOn leaf ((8 * suc n + f) % 512) (inode_path (heights_now image 0) (suc n) f)
    inode_goes f few =
        let same : (8 * suc n + f) / 512 ≡ (8 * suc n + 1) / 512 = omega (arith, few) in
        record { rest = []; is = ap (λ k. digits (heights_now image 0) k ++ (8 * suc n + f) % 512 ∷ []) same }

    content_goes : (k : ℕ) → GoesOn leaf ((8 * suc n + 1) % 512) (content_path_at (heights_now image) (suc n) k)
    unfolding inode_goes
    content_goes k =
        let root = inode_goes 1 (omega arith) in
        record {
          rest = digits (suc (heights_now image (suc n))) k;
          is = ap (λ (p : WordPath). p ++ digits (suc (heights_now image (suc n))) k) root.is ∙ append_assoc leaf ((8 * suc n + 1) % 512 ∷ []) (digits (suc (heights_now image (suc n))) k);
        }

    leaf_there : AllThere (is_there_now image) [] leaf
    leaf_there = there_prefix (is_there_now image) [] leaf ((8 * suc n + 1) % 512 ∷ []) (inode_path-now image wf (suc n) 1 reached (omega arith))

    pub across_covered : offset < size_of image (suc n) → size_of image (suc n) < offset + len → cover_now image (writes (suc n) offset len) ≡ leaf_path (heights_now image 0) (suc n)
    across_covered below past =
        ap₂ covered (lt-ltb offset (size_of image (suc n)) below) (lt-ltb (size_of image (suc n)) (offset + len) past)
        ∙ ap (existing_from (is_there_now image) []) (common_leaf (content_path_at (heights_now image) (suc n)) leaf ((8 * suc n + 1) % 512) ((8 * suc n + 2) % 512) size_way (omega arith) content_goes (inode_goes 2 (omega arith)) (offset / 8)
        ((min (offset + len) (size_of image (suc n)) - 1) / 8 - offset / 8))
        ∙ existing-all (is_there_now image) [] leaf leaf_there

    pub across_targets : offset < size_of image (suc n) → size_of image (suc n) < offset + len → targets image (writes (suc n) offset len) ≡ past_end_cover (leaf_path (heights_now image 0) (suc n))
    across_targets below past = past_targets past ∙ ap past_end_cover (across_covered below past)

    -- ---- below it

    pub below_targets : offset + len ≤ size_of image (suc n) → targets image (writes (suc n) offset len) ≡ cover_now image (writes (suc n) offset len) ∷ []
    below_targets within =
        ap (λ (longer : Bool). cover_now image change ∷ flat_map (end_targets image) ((if longer then record { tree = suc n; from = max offset (size_of image (suc n)); to = offset + len } ∷ [] else []) ++ []) ++ []) (le-ltb (size_of image (suc n)) (offset + len) within)

    -- ---- the ways

    covering_way : 1 ≤ len → IsWayIn image (cover_now image (writes (suc n) offset len))
    covering_way some = go (cases_lt offset (size_of image (suc n)))
      where
        go : (offset < size_of image (suc n)) ⊎ (size_of image (suc n) ≤ offset) → IsWayIn image (cover_now image (writes (suc n) offset len))
        go (inl low) =
            cover_way image wf (touched_at (heights_now image) image change) (content_path_at (heights_now image) (suc n) (offset / 8))
            (subst (λ s. Has (touched_by s (nat_lt (size_of image (suc n)) (offset + len))) (content_path_at (heights_now image) (suc n) (offset / 8))) (sym (lt-ltb offset (size_of image (suc n)) low)) (inl refl))
            (content_way image wf (suc n) (offset / 8) reached (omega (arith, low)))
        go (inr past) =
            cover_way image wf (touched_at (heights_now image) image change) size_way
            (subst (λ s. Has (touched_by (nat_lt offset (size_of image (suc n))) s) size_way) (sym (lt-ltb (size_of image (suc n)) (offset + len) (omega (arith, past, some))))
            (has-after (map (content_path_at (heights_now image) (suc n)) (words (nat_lt offset (size_of image (suc n))))) (size_way ∷ []) size_way (inl refl)))
            (inode_way image wf (suc n) 2 reached (omega arith))

    pub write_ways : 1 ≤ len → (path : WordPath) → Has (targets image (writes (suc n) offset len)) path → IsWayIn image path
    write_ways some path has = go (cases_lt (size_of image (suc n)) (offset + len))
      where
        alone : Has (cover_now image (writes (suc n) offset len) ∷ []) path → IsWayIn image path
        alone one = elim one [ inl e ↦ subst (IsWayIn image) e (covering_way some) | inr never ↦ absurd never ]

        go : (size_of image (suc n) < offset + len) ⊎ (offset + len ≤ size_of image (suc n)) → IsWayIn image path
        go (inl past) = past_end_ways (cover_now image (writes (suc n) offset len)) (covering_way some) path (subst (λ ps. Has ps path) (past_targets past) has)
        go (inr within) = alone (subst (λ ps. Has ps path) (below_targets within) has)

-- ---- paths as they are read

pub root_path_is : (image : Image) (i : ℕ) → 1 ≤ i → inode_path (heights_now image 0) i 1 ≡ root_path_now image i
root_path_is image zero some = absurd (omega (arith, some))
root_path_is image (suc n) some = sym (append-nil (inode_path (heights_now image 0) (suc n) 1))

-- the word of the size stands in the leaf of the inode
pub leaf_prefix : (height i : ℕ) → take (length (inode_path height i 2) - 1) (inode_path height i 2) ≡ leaf_path height i
leaf_prefix height i =
    let prefix : List ℕ = digits height ((8 * i + 2) / 512) in
    let long : length (prefix ++ (8 * i + 2) % 512 ∷ []) - 1 ≡ length prefix = omega (arith, length-append prefix ((8 * i + 2) % 512 ∷ [])) in
    let same : (8 * i + 2) / 512 ≡ (8 * i + 1) / 512 = omega arith in
    ap (λ n. take n (prefix ++ (8 * i + 2) % 512 ∷ [])) long ∙ take-append_seam prefix ((8 * i + 2) % 512 ∷ []) ∙ ap (digits height) same

-- ---- by the number of the inode

-- a file is not the inode file
pub file_some : (image : Image) (i : ℕ) → kind_of image i ≡ 1 → 1 ≤ i
file_some image zero kind = absurd (omega (arith, kind))
file_some image (suc n) kind = omega arith

-- after a cover come the ways to the end
abbrev pub with_end : Image → WordPath → ℕ → List WordPath
with_end image cover i = cover ∷ root_path_now image i ∷ end_path_now image i ∷ []

module _ (image : Image) (wf : IsWellFormed image) where
  pub growing_at : (i size : ℕ) → 1 ≤ i → IsReached image i → size_of image i < size → targets image (resizes i size) ≡ with_end image (inode_path (heights_now image 0) i 2) i
  growing_at zero size some reached longer = absurd (omega (arith, some))
  growing_at (suc n) size some reached longer = growing_targets image wf n reached size longer

  pub growing_ways_at : (i size : ℕ) → 1 ≤ i → IsReached image i → size_of image i < size → (path : WordPath) → Has (targets image (resizes i size)) path → IsWayIn image path
  growing_ways_at zero size some reached longer = absurd (omega (arith, some))
  growing_ways_at (suc n) size some reached longer = growing_ways image wf n reached size longer

  pub past_end_at : (i offset len : ℕ) → 1 ≤ i → IsReached image i → size_of image i ≤ offset → 1 ≤ len → targets image (writes i offset len) ≡ with_end image (inode_path (heights_now image 0) i 2) i
  past_end_at zero offset len some reached past_end more = absurd (omega (arith, some))
  past_end_at (suc n) offset len some reached past_end more = past_end_targets image wf n reached offset len past_end (omega (arith, past_end, more))

  pub across_at : (i offset len : ℕ) → 1 ≤ i → IsReached image i → offset < size_of image i → size_of image i < offset + len → targets image (writes i offset len) ≡ with_end image (leaf_path (heights_now image 0) i) i
  across_at zero offset len some reached below past = absurd (omega (arith, some))
  across_at (suc n) offset len some reached below past = across_targets image wf n reached offset len below past

  pub below_at : (i offset len : ℕ) → 1 ≤ i → IsReached image i → offset + len ≤ size_of image i → targets image (writes i offset len) ≡ cover_now image (writes i offset len) ∷ []
  below_at zero offset len some reached within = absurd (omega (arith, some))
  below_at (suc n) offset len some reached within = below_targets image wf n reached offset len within

  pub write_ways_at : (i offset len : ℕ) → 1 ≤ i → IsReached image i → 1 ≤ len → (path : WordPath) → Has (targets image (writes i offset len)) path → IsWayIn image path
  write_ways_at zero offset len some reached more = absurd (omega (arith, some))
  write_ways_at (suc n) offset len some reached more = write_ways image wf n reached offset len more
