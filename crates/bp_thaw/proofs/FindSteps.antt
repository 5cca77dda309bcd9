-- One more pointer of a way is looked at, and one more way.
use Rattle.std.proofs.Common.{◌≡◌, ◌≢◌, ◌⊎◌, ℕ, zero, suc, ◌+◌, ◌*◌, ◌/◌, ◌%◌, ◌<◌, ◌≤◌, List, [], ◌∷◌, ◌++◌, map, length, take, drop, get_or, Bool, true, false, ◌||◌, ◌==◌, refl, sym, ◌∙◌, ap, subst, arith, inl, inr, true≢false}
use Rattle.std.specs.List.{list_any, slice_index}
use Rattle.std.proofs.lemmas.Bool.{cases_eq}
use Rattle.std.proofs.lemmas.List.{length-take-le, take-append-drop, take_more}
use Rattle.bp_limits.specs.Limits.{max_blocks}
use Rattle.bp_layout.specs.Thaw.{is_in_snapshot_at, is_there_now}
use Rattle.bp_layout.specs.WellFormed.{IsWellFormed}
use Rattle.bp_layout.specs.WordPaths.{WordPath, address, digits, inode_path, tree_path}
use Rattle.bp_layout.specs.Words.{Image, block_count, block_of, height_of, word}
use Rattle.bp_layout.specs.Inode.{size_of}
use Rattle.bp_layout.proofs.Addresses.{address_from-append}
use Rattle.bp_changes.specs.Trail.{block_on, trail_of}
use Rattle.bp_changes.specs.Forest.{IsTreePointer}
use Rattle.bp_changes.proofs.FreeSets.{pointer_prefixes, wf_forest}
use Rattle.bp_changes.proofs.PathTrails.{low-placed}
use Rattle.bp_thaw.specs.Prefixes.{IsPointerPath, IsWayIn, found_in, found_on, is_found, path_trail}
use Rattle.bp_thaw.proofs.CopySteps.{map-more}
use Rattle.bp_thaw.proofs.Marks.{block_above, placed}
use Rattle.bp_thaw.proofs.PointerPaths.{address_is, are, block_at, bones, prefix_path, prefix-trail, pointer_there, there_pointer}

-- looked for by place
pub any-map : (image : Image) (found : List WordPath) (place : ℕ) → list_any (λ other. other == place) (map (address image) found) ≡ list_any (λ other. address image other == place) found
any-map image [] place = refl
any-map image (f ∷ found) place = ap (λ b. (address image f == place) || b) (any-map image found place)

pub found_in-more : (image : Image) (in_snapshot : ℕ → Bool) (found ws : List WordPath) (w : WordPath) → found_in image in_snapshot found (ws ++ w ∷ []) ≡ found_on image in_snapshot (found_in image in_snapshot found ws) w (length w)
found_in-more image in_snapshot found [] w = refl
found_in-more image in_snapshot found (v ∷ ws) w = found_in-more image in_snapshot (found_on image in_snapshot found v (length v)) ws w

module _ (image : Image) (in_snapshot : ℕ → Bool) (found : List WordPath) (w : WordPath) (d : ℕ) where
  pub found-passes : is_in_snapshot_at image in_snapshot (take d w) ≡ false → found_on image in_snapshot found w (d + 1) ≡ found_on image in_snapshot found w d
  found-passes e = let next : d + 1 ≡ suc d = omega arith in ap (found_on image in_snapshot found w) next ∙ rw e refl

  pub found-old : is_in_snapshot_at image in_snapshot (take d w) ≡ true → is_found image (found_on image in_snapshot found w d) (take d w) ≡ true → found_on image in_snapshot found w (d + 1) ≡ found_on image in_snapshot found w d
  found-old e f = let next : d + 1 ≡ suc d = omega arith in ap (found_on image in_snapshot found w) next ∙ rw (e, f) refl

  pub found-new : is_in_snapshot_at image in_snapshot (take d w) ≡ true → is_found image (found_on image in_snapshot found w d) (take d w) ≡ false → found_on image in_snapshot found w (d + 1) ≡ found_on image in_snapshot found w d ++ take d w ∷ []
  found-new e f = let next : d + 1 ≡ suc d = omega arith in ap (found_on image in_snapshot found w) next ∙ rw (e, f) refl

-- a place is added, but where it is there
pub add_step : (image : Image) (in_snapshot : ℕ → Bool) (found : List WordPath) (w : WordPath) (d : ℕ) (places new : List ℕ) (place : ℕ) → places ≡ map (address image) (found_on image in_snapshot found w d) → place ≡ address image (take d w) →
    is_in_snapshot_at image in_snapshot (take d w) ≡ true → (list_any (λ other. other == place) places ≡ true → new ≡ places) → (list_any (λ other. other == place) places ≡ false → new ≡ places ++ place ∷ []) →
    new ≡ map (address image) (found_on image in_snapshot found w (d + 1))
add_step image in_snapshot found w d places new place are here is old more = go (is_found image (found_on image in_snapshot found w d) (take d w)) refl
  where
    flag : list_any (λ other. other == place) places ≡ is_found image (found_on image in_snapshot found w d) (take d w)
    flag =
        ap (λ p. list_any (λ other. other == p) places) here
        ∙ ap (list_any (λ other. other == address image (take d w))) are
        ∙ any-map image (found_on image in_snapshot found w d) (address image (take d w))

    go : (x : Bool) → is_found image (found_on image in_snapshot found w d) (take d w) ≡ x → new ≡ map (address image) (found_on image in_snapshot found w (d + 1))
    go true e = old (flag ∙ e) ∙ are ∙ ap (map (address image)) (sym (found-old image in_snapshot found w d is e))
    go false e =
        more (flag ∙ e) ∙ ap (λ xs. xs ++ place ∷ []) are ∙ ap (λ p. map (address image) (found_on image in_snapshot found w d) ++ p ∷ []) here
        ∙ sym (map-more (address image) (found_on image in_snapshot found w d) (take d w)) ∙ ap (map (address image)) (sym (found-new image in_snapshot found w d is e))

-- slots are low
low_append : (xs ys : List ℕ) → ((n : ℕ) → get_or xs n 0 < 512) → ((n : ℕ) → get_or ys n 0 < 512) → (n : ℕ) → get_or (xs ++ ys) n 0 < 512
low_append [] ys one two n = two n
low_append (x ∷ xs) ys one two zero = one 0
low_append (x ∷ xs) ys one two (suc n) = low_append xs ys (λ m. one (suc m)) two n

low_one : (x : ℕ) → x < 512 → (n : ℕ) → get_or (x ∷ []) n 0 < 512
low_one x low zero = low
low_one x low (suc n) = omega arith

low_digits : (d k n : ℕ) → get_or (digits d k) n 0 < 512
low_digits zero k n = omega arith
low_digits (suc d) k n = low_append (digits d (k / 512)) (k % 512 ∷ []) (low_digits d (k / 512)) (low_one (k % 512) (omega arith)) n

low_path : (h t d k n : ℕ) → get_or (tree_path h t d k) n 0 < 512
low_path h zero d k n = low_digits d k n
low_path h (suc i) d k n = low_append (inode_path h (suc i) 1) (digits d k) (low_digits (suc h) (8 * suc i + 1)) (low_digits d k) n

pub low_slot : (image : Image) (w : WordPath) → IsWayIn image w → (n : ℕ) → get_or w n 0 < 512
low_slot image w way n = subst (λ p. get_or p n 0 < 512) (sym way.is) (low_path (height_of (word image 2)) way.tree way.depth way.index n)

-- a pointer of a way, the block to which it leads, and the place of the next one
pub record IsOnWay (image : Image) (w : WordPath) (d block : ℕ) : Type 0 where
  pub kept : (in_snapshot : ℕ → Bool) → is_in_snapshot_at image in_snapshot (take d w) ≡ in_snapshot block
  pub inside : block < block_count image
  pub fits : block < max_blocks
  pub slot : get_or w d 0 < 512
  pub next : 512 * block + get_or w d 0 ≡ address image (take (d + 1) w)

module _ (image : Image) (wf : IsWellFormed image) (w : WordPath) (way : IsWayIn image w) where
  -- the trail of the first slots
  pub take-trail : (d : ℕ) → d ≤ length w → path_trail (take d w) ≡ trail_of w d
  take-trail d low = ap (trail_of (take d w)) long ∙ same d (omega arith)
    where
      long : length (take d w) ≡ d
      long = length-take-le d w low

      same : (n : ℕ) → n ≤ d → trail_of (take d w) n ≡ trail_of w n
      same n few = sym (prefix-trail (take d w) (drop d w) n (omega (arith, few, long))) ∙ ap (λ p. trail_of p n) (take-append-drop d w)

  blocks_up : (n d : ℕ) → d ≤ n → block_on image (trail_of w n) ≢ 0 → block_on image (trail_of w d) ≢ 0
  blocks_up zero d low present = subst (λ m. block_on image (trail_of w m) ≢ 0) (none d low) present
    where
      none : (m : ℕ) → m ≤ 0 → 0 ≡ m
      none m few = omega (arith, few)
  blocks_up (suc n) d low present = go (cases_eq d (suc n)) (λ less. blocks_up n d less (block_above image (slice_index w n) (trail_of w n) present))
    where
      go : (d ≡ suc n) ⊎ (d ≡ suc n → ⊥) → (d ≤ n → block_on image (trail_of w d) ≢ 0) → block_on image (trail_of w d) ≢ 0
      go (inl e) rest = subst (λ m. block_on image (trail_of w m) ≢ 0) (sym e) present
      go (inr other) rest = rest (omega (arith, low, other))

  -- what is there has all above it there
  pub there_above : (n d : ℕ) → d ≤ n → n < length w → is_there_now image (take n w) ≡ true → is_there_now image (take d w) ≡ true
  there_above n d low less there =
      let at_n = there_pointer image wf (take n w) (prefix_path image wf w n way less) there in
      let one = subst (IsTreePointer image (size_of image)) (take-trail n (omega (arith, less))) at_n.0 in
      let some = subst (λ t. block_on image t ≢ 0) (take-trail n (omega (arith, less))) at_n.1 in
      let back : trail_of w d ≡ path_trail (take d w) = sym (take-trail d (omega (arith, low, less))) in
      pointer_there image wf (take d w) (prefix_path image wf w d way (omega (arith, low, less)))
      (subst (IsTreePointer image (size_of image)) back (pointer_prefixes image (size_of image) (wf_forest image wf) w n d low one))
      (subst (λ t. block_on image t ≢ 0) back (blocks_up n d low some))

  not_in_snapshot : (in_snapshot : ℕ → Bool) (f : WordPath) → is_there_now image f ≡ false → is_in_snapshot_at image in_snapshot f ≡ false
  not_in_snapshot in_snapshot f none = rw none refl

  -- nothing is found below what is not there
  pub found-ends : (in_snapshot : ℕ → Bool) (found : List WordPath) (d n : ℕ) → d < length w → is_there_now image (take d w) ≡ false → n + d ≤ length w → found_on image in_snapshot found w (n + d) ≡ found_on image in_snapshot found w d
  found-ends in_snapshot found d zero low none fits = let same : 0 + d ≡ d = omega arith in ap (found_on image in_snapshot found w) same
  found-ends in_snapshot found d (suc n) low none fits =
      let gone : is_there_now image (take (n + d) w) ≡ false = go (is_there_now image (take (n + d) w)) refl in
      let next : suc n + d ≡ suc (n + d) = omega arith in
      ap (found_on image in_snapshot found w) next ∙ rw (not_in_snapshot in_snapshot (take (n + d) w) gone) (found-ends in_snapshot found d n low none (omega (arith, fits)))
    where
      go : (x : Bool) → is_there_now image (take (n + d) w) ≡ x → is_there_now image (take (n + d) w) ≡ false
      go false e = e
      go true e = absurd (true≢false (sym (there_above (n + d) d (omega arith) (omega (arith, fits)) e) ∙ none))

  module _ (d : ℕ) (low : d < length w) (there : is_there_now image (take d w) ≡ true) where
    of : IsPointerPath image (take d w)
    of = prefix_path image wf w d way low

    block_inside : block_of (word image (address image (take d w))) < block_count image
    block_inside = rw (block_at image wf (take d w) of there) ((bones image wf).in_range (path_trail (take d w)) (there_pointer image wf (take d w) of there).0)

    pub place_inside : address image (take d w) < length image
    place_inside =
        let one = there_pointer image wf (take d w) of there in
        let some : 0 < block_count image = (let least = wf.formatted.sized.at_least in omega (arith, least)) in
        rw (address_is image wf (take d w) of there)
        (low-placed image (IsTreePointer image (size_of image)) (path_trail (take d w)) (bones image wf) some
        (placed image (IsTreePointer image (size_of image)) (are image wf) (bones image wf) (path_trail (take d w)) one.0 one.1))

    pub on_way : (place value block : ℕ) → place ≡ address image (take d w) → value ≡ word image place → block ≡ block_of value → IsOnWay image w d block
    on_way place value block at loaded of =
        let is : block ≡ block_of (word image (address image (take d w))) = of ∙ ap block_of (loaded ∙ ap (word image) at) in
        record {
          kept = λ kept. rw there (ap kept (sym is));
          inside = rw is block_inside;
          fits = omega (arith, is, block_inside, wf.formatted.sized.at_most);
          slot = low_slot image w way d;
          next = rw is (sym (ap (address image) (take_more w d 0 low) ∙ address_from-append image 2 (take d w) (get_or w d 0 ∷ [])));
        }
