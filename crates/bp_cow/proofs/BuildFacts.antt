-- What holds between two steps of the making of copies: what the next call asks, and how the steps are stated by the words.
use Rattle.std.proofs.Common.{◌≡◌, ◌≢◌, ◌⊎◌, ℕ, zero, suc, ◌+◌, ◌*◌, ◌/◌, ◌<◌, ◌≤◌, set, ◌∷◌, length, Bool, true, false, Option, None, Some, refl, sym, ◌∙◌, ap, subst, arith, inl, inr, get_or-set_same}
use Rattle.std.proofs.lemmas.Bool.{cases_eq}
use Rattle.std.proofs.lemmas.List.{length-set}
use Rattle.std.proofs.lemmas.Slice.Eq.{bytes_eq-Decides}
use Rattle.std.specs.Str.{bytes_eq}
use Rattle.bp_layout.specs.Words.{Image, word, block_count, block_of}
use Rattle.bp_changes.specs.Trail.{Trail, word_on, block_on, place_on, ArePointers}
use Rattle.bp_changes.proofs.PathTrails.{word-placed, low-placed, length-trail_of}
use Rattle.bp_cow.specs.Stage.{IsBuilding}
use Rattle.bp_cow.specs.Job.{Job, prefix, end_of, word_trail, value_upto, laid_upto, laid_on, IsBegun, IsRenewed}
use Rattle.bp_cow.specs.Job.IsRenewed.{is_cover, is_begun, is_proper_prefix}
use Rattle.bp_cow.proofs.BuildingLaws.{word-loaded}

-- the same pointers under another name
pub building_same : {in_snapshot : ℕ → Bool} {old words : Image} {place pointer : ℕ} {cover : Trail} {Pointer Counts renewed other : Trail → Type 0} {value : Trail → Option ℕ} {laid : Trail → ℕ} {free : ℕ → Bool} →
    ((q : Trail) → renewed q → other q) → ((q : Trail) → other q → renewed q) →
    IsBuilding old words place pointer cover Pointer Counts renewed value laid in_snapshot free → IsBuilding old words place pointer cover Pointer Counts other value laid in_snapshot free
building_same to from building =
    let stage = building.stage in
    record {
      some = building.some;
      stage = record {
        whole = stage.whole;
        skeleton = stage.skeleton;
        superblock = stage.superblock;
        same = λ p live n. stage.same p live (λ a. n (to p a));
        words = λ p slot live n low m counts. stage.words p slot live (from p n) low (λ a. m (to (slot ∷ p) a)) counts;
        still = λ p slot live n low m. stage.still p slot live (λ a. n (to p a)) low (λ a. m (to (slot ∷ p) a));
        bits = stage.bits;
        fresh = λ p live n. stage.fresh p live (from p n);
        outside_snapshot = λ p live n. stage.outside_snapshot p live (from p n);
        unvalued = stage.unvalued;
        early = λ p slot live n. stage.early p slot live (λ a. n (to p a));
        taken = stage.taken;
        known = stage.known;
        in_range = stage.in_range;
        loose = stage.loose;
      };
      placed = building.placed;
      at = building.at;
      below = λ p n. building.below p (from p n);
    }

module _ {in_snapshot : ℕ → Bool} {old words : Image} {place pointer : ℕ} {cover : Trail} {Pointer Counts renewed : Trail → Type 0} {value : Trail → Option ℕ} {laid : Trail → ℕ} {free : ℕ → Bool} (pointers : ArePointers Pointer)
    (building : IsBuilding old words place pointer cover Pointer Counts renewed value laid in_snapshot free) where
  same_count : block_count (set words place pointer) ≡ block_count old
  same_count = ap (λ n. n / 512) building.stage.whole

  some_seen : 0 < block_count (set words place pointer)
  some_seen = rw same_count building.some

  -- the cover's pointer
  pub top : word_on (set words place pointer) cover ≡ pointer
  top =
      let low : place_on (set words place pointer) cover < length (set words place pointer) = low-placed (set words place pointer) Pointer cover building.stage.skeleton some_seen building.placed in
      sym (word-placed (set words place pointer) Pointer cover building.placed) ∙ ap (word (set words place pointer)) building.at
      ∙ get_or-set_same words place pointer 0 (rw (length-set words place pointer) at (rw building.at at low))

  -- blocks that lie in the image
  in_image : (b : ℕ) → b < block_count (set words place pointer) → 512 * b + 512 ≤ length words
  in_image b low =
      let whole : length (set words place pointer) ≡ 512 * block_count (set words place pointer) = building.stage.skeleton.whole in
      omega (arith, low, whole, length-set words place pointer)

  pub free_in_image : (b : ℕ) → free b ≡ true → (1 ≤ b) × (512 * b + 512 ≤ length words)
  free_in_image b is =
      let range = building.stage.in_range b is in
      (range.0, in_image b (rw same_count range.1))

  null_used : free 0 ≡ false
  null_used = go (free 0) refl
    where
      go : (x : Bool) → free 0 ≡ x → free 0 ≡ false
      go false e = e
      go true e = absurd (omega (arith, (building.stage.in_range 0 e).0))

  led_used : (q : Trail) → Pointer q → free (block_on (set words place pointer) q) ≡ false
  led_used q live = go (cases_eq (block_on (set words place pointer) q) 0)
    where
      go : (block_on (set words place pointer) q ≡ 0) ⊎ (block_on (set words place pointer) q ≡ 0 → ⊥) → free (block_on (set words place pointer) q) ≡ false
      go (inl null) = ap free null ∙ null_used
      go (inr some) = building.stage.taken _ (inr (record { trail = q; pointer = live; named = refl; not_null = some }))

  module _ (p : Trail) (slot : ℕ) (live : Pointer p) (made : renewed p) (low : slot < 512) where
    pub at_low : 512 * block_on (set words place pointer) p + slot < length words
    at_low = let range : 512 * block_on (set words place pointer) p + 512 ≤ length words = in_image _ (building.stage.skeleton.in_range p live) in omega (arith, range, low)

    at_block : (512 * block_on (set words place pointer) p + slot) / 512 ≡ block_on (set words place pointer) p
    at_block = omega (arith, low)

    pub at_used : free ((512 * block_on (set words place pointer) p + slot) / 512) ≡ false
    at_used = ap free at_block ∙ led_used p live

    -- the block to which the loaded pointer leads
    pub from_is : block_of (word words (512 * block_on (set words place pointer) p + slot)) ≡ block_on (set words place pointer) (slot ∷ p)
    from_is = ap block_of (word-loaded pointers building p slot live made low)

    module _ (pointed : Pointer (slot ∷ p)) where
      pub from_low : 512 * block_of (word words (512 * block_on (set words place pointer) p + slot)) + 512 ≤ length words
      from_low = in_image _ (rw from_is (building.stage.skeleton.in_range (slot ∷ p) pointed))

-- ---- the pointers that were turned, stated by the words

module _ (job : Job) (from i : ℕ) where
  pub renewed_start : (q : Trail) → (⊥ ⊎ (q ≡ prefix job 0 from)) → IsRenewed job from 0 from q
  renewed_start q (inl none) = absurd none
  renewed_start q (inr e) = is_cover e

  pub renewed_start_back : (q : Trail) → IsRenewed job from 0 from q → ⊥ ⊎ (q ≡ prefix job 0 from)
  renewed_start_back q (is_cover e) = inr e
  renewed_start_back q (is_begun b) = absurd (omega (arith, b.early))
  renewed_start_back q (is_proper_prefix count low high e) = absurd (omega (arith, low, high))

  module _ (depth : ℕ) where
    pub renewed_more : (q : Trail) → IsRenewed job from i depth q ⊎ (q ≡ prefix job i (depth + 1)) → from ≤ depth → IsRenewed job from i (depth + 1) q
    renewed_more q (inl (is_cover e)) low = is_cover e
    renewed_more q (inl (is_begun b)) low = is_begun b
    renewed_more q (inl (is_proper_prefix count small high e)) low = is_proper_prefix count small (omega (arith, high)) e
    renewed_more q (inr e) low = is_proper_prefix (depth + 1) (omega (arith, low)) (omega arith) e

    pub renewed_more_back : (q : Trail) → IsRenewed job from i (depth + 1) q → IsRenewed job from i depth q ⊎ (q ≡ prefix job i (depth + 1))
    renewed_more_back q (is_cover e) = inl (is_cover e)
    renewed_more_back q (is_begun b) = inl (is_begun b)
    renewed_more_back q (is_proper_prefix count small high e) = go (cases_eq count (depth + 1))
      where
        go : (count ≡ depth + 1) ⊎ (count ≡ depth + 1 → ⊥) → IsRenewed job from i depth q ⊎ (q ≡ prefix job i (depth + 1))
        go (inl same) = inr (e ∙ ap (prefix job i) same)
        go (inr other) = inl (is_proper_prefix count small (omega (arith, high, other)) e)

    -- the next pointer on the way is not yet turned, where no earlier word begins with it
    pub not_renewed : from ≤ depth → (IsBegun job from i (prefix job i (depth + 1)) → ⊥) → IsRenewed job from i depth (prefix job i (depth + 1)) → ⊥
    not_renewed low none (is_cover e) = absurd (omega (arith, low, length-trail_of (job.way i) (depth + 1), length-trail_of (job.way 0) from, ap (λ (x : Trail). length x) e))
    not_renewed low none (is_begun b) = none b
    not_renewed low none (is_proper_prefix count small high e) =
        absurd (omega (arith, high, length-trail_of (job.way i) (depth + 1), length-trail_of (job.way i) count, ap (λ (x : Trail). length x) e))

  -- a word is done
  module _ (last : ℕ) (len : last ≡ length (job.way i)) (low : from ≤ last) (cover : prefix job i from ≡ prefix job 0 from) where
    pub renewed_next : (q : Trail) → IsRenewed job from i last q → IsRenewed job from (i + 1) from q
    renewed_next q (is_cover e) = is_cover e
    renewed_next q (is_begun b) = is_begun (record { which = b.which; depth = b.depth; early = omega (arith, b.early); low = b.low; high = b.high; same = b.same })
    renewed_next q (is_proper_prefix count small high e) = is_begun (record { which = i; depth = count; early = omega arith; low = omega (arith, small); high = omega (arith, high, len); same = e })

    pub renewed_next_back : (q : Trail) → IsRenewed job from (i + 1) from q → IsRenewed job from i last q
    renewed_next_back q (is_cover e) = is_cover e
    renewed_next_back q (is_proper_prefix count small high e) = absurd (omega (arith, small, high))
    renewed_next_back q (is_begun b) = go (cases_eq b.which i) (cases_eq b.depth from)
      where
        at : b.which ≡ i → q ≡ prefix job i b.depth
        at e = b.same ∙ ap (λ j. prefix job j b.depth) e

        go : (b.which ≡ i) ⊎ (b.which ≡ i → ⊥) → (b.depth ≡ from) ⊎ (b.depth ≡ from → ⊥) → IsRenewed job from i last q
        go (inr other) any = is_begun (record { which = b.which; depth = b.depth; early = omega (arith, b.early, other); low = b.low; high = b.high; same = b.same })
        go (inl e) (inl top) = is_cover (at e ∙ ap (prefix job i) top ∙ cover)
        go (inl e) (inr deep) =
            let proper : b.depth ≤ length (job.way i) = subst (λ j. b.depth ≤ length (job.way j)) e b.high in
            is_proper_prefix b.depth (omega (arith, b.low, deep)) (omega (arith, proper, len)) (at e)

-- ---- the values of the words

value_upto-next : (job : Job) (i : ℕ) (q : Trail) → value_upto job (i + 1) q ≡ value_upto job (suc i) q
value_upto-next job i q = let e : i + 1 ≡ suc i = omega arith in ap (λ n. value_upto job n q) e

pub value-here : (job : Job) (i : ℕ) → value_upto job (i + 1) (word_trail job i) ≡ Some (job.value i)
value-here job i =
    let t : Trail = word_trail job i in
    let same : bytes_eq t t ≡ true = (bytes_eq-Decides t t).1 refl in
    value_upto-next job i t ∙ (rw same refl)

differ : (p q : Trail) → p ≢ q → bytes_eq p q ≡ false
differ p q other = go (bytes_eq p q) refl
  where
    go : (x : Bool) → bytes_eq p q ≡ x → bytes_eq p q ≡ false
    go false e = e
    go true e = absurd (other ((bytes_eq-Decides p q).0 e))

pub value-other : (job : Job) (i : ℕ) (q : Trail) → q ≢ word_trail job i → value_upto job (i + 1) q ≡ value_upto job i q
value-other job i q other =
    let not_same : bytes_eq q (word_trail job i) ≡ false = differ q (word_trail job i) other in
    value_upto-next job i q ∙ (rw not_same refl)

pub value-none : (job : Job) (count : ℕ) (q : Trail) → ((i : ℕ) → i < count → q ≢ word_trail job i) → value_upto job count q ≡ None
value-none job zero q none = refl
value-none job (suc i) q none =
    let not_same : bytes_eq q (word_trail job i) ≡ false = differ q (word_trail job i) (none i (omega arith)) in
    rw not_same (value-none job i q (λ k low. none k (omega (arith, low))))

-- ---- what is laid over the leaves

laid-upto_other : (old : Image) (job : Job) (count slot : ℕ) (p : Trail) → ((j : ℕ) → j < count → p ≢ end_of job j) → laid_upto old job count (slot ∷ p) ≡ word_on old (slot ∷ p)
laid-upto_other old job zero slot p none = refl
laid-upto_other old job (suc j) slot p none =
    let not_same : bytes_eq p (end_of job j) ≡ false = differ p (end_of job j) (none j (omega arith)) in
    rw not_same (laid-upto_other old job j slot p (λ k low. none k (omega (arith, low))))

pub laid-other : (old : Image) (job : Job) (slot : ℕ) (p : Trail) → ((j : ℕ) → j < job.leaves → p ≢ end_of job j) → laid_on old job (slot ∷ p) ≡ word_on old (slot ∷ p)
laid-other old job slot p none = laid-upto_other old job job.leaves slot p none

laid-upto_leaf : (old : Image) (job : Job) (count slot j : ℕ) → j < count → ((l : ℕ) → l < count → end_of job j ≡ end_of job l → (w : ℕ) → job.patch j slot w ≡ job.patch l slot w) →
    laid_upto old job count (slot ∷ end_of job j) ≡ job.patch j slot (word_on old (slot ∷ end_of job j))
laid-upto_leaf old job zero slot j low agree = absurd (omega (arith, low))
laid-upto_leaf old job (suc l) slot j low agree =
    go (bytes_eq (end_of job j) (end_of job l)) refl (cases_eq j l) (λ small. laid-upto_leaf old job l slot j small (λ k low_k. agree k (omega (arith, low_k))))
  where
    go : (x : Bool) → bytes_eq (end_of job j) (end_of job l) ≡ x → (j ≡ l) ⊎ (j ≡ l → ⊥) → (j < l → laid_upto old job l (slot ∷ end_of job j) ≡ job.patch j slot (word_on old (slot ∷ end_of job j))) →
        laid_upto old job (suc l) (slot ∷ end_of job j) ≡ job.patch j slot (word_on old (slot ∷ end_of job j))
    go true e any rest = rw e (sym (agree l (omega arith) ((bytes_eq-Decides (end_of job j) (end_of job l)).0 e) (word_on old (slot ∷ end_of job j))))
    go false e (inl same) rest = let equal : bytes_eq (end_of job j) (end_of job l) ≡ true = (bytes_eq-Decides (end_of job j) (end_of job l)).1 (ap (end_of job) same) in absurd (cc)
    go false e (inr other) rest = rw e (rest (omega (arith, low, other)))

-- all ways to one leaf have one patch
pub laid-leaf : (old : Image) (job : Job) (slot j : ℕ) → j < job.leaves → ((l : ℕ) → l < job.leaves → end_of job j ≡ end_of job l → (w : ℕ) → job.patch j slot w ≡ job.patch l slot w) →
    laid_on old job (slot ∷ end_of job j) ≡ job.patch j slot (word_on old (slot ∷ end_of job j))
laid-leaf old job slot j low agree = laid-upto_leaf old job job.leaves slot j low agree
