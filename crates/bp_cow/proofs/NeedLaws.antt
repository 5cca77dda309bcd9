-- How many blocks are copied.
use Rattle.std.proofs.Common.{◌≡◌, ◌⊎◌, ℕ, zero, suc, ◌+◌, ◌≤◌, length, Bool, true, false, ◌&&◌, refl, sym, ◌∙◌, ap, subst, arith, inl, inr, le_trans}
use Rattle.std.specs.Prelude.{nat_le, bytes_eq}
use Rattle.std.proofs.lemmas.Bool.{cases_eq, leb-true, le-leb}
use Rattle.std.specs.Bool.{Decides}
use Rattle.std.proofs.lemmas.Bool.Decides.{Decides-and}
use Rattle.std.proofs.lemmas.Slice.Eq.{bytes_eq-Decides}
use Rattle.bp_changes.specs.Trail.{Trail}
use Rattle.bp_changes.proofs.PathTrails.{length-trail_of}
use Rattle.bp_cow.specs.Job.{Job, prefix, IsBegun, begins, turns_at, turned_for, turned_upto}

Decides-leb : (a b : ℕ) → Decides (nat_le a b) (a ≤ b)
Decides-leb a b = (leb-true a b, le-leb a b)

test-Decides : (job : Job) (from i : ℕ) (q : Trail) →
    Decides (nat_le from (length q) && nat_le (length q) (length (job.way i)) && bytes_eq q (prefix job i (length q)))
    (((from ≤ length q) × (length q ≤ length (job.way i))) × (q ≡ prefix job i (length q)))
test-Decides job from i q =
    Decides-and _ _ (Decides-and _ _ (Decides-leb from (length q)) (Decides-leb (length q) (length (job.way i)))) (bytes_eq-Decides q (prefix job i (length q)))

pub begun-begins : (job : Job) (from count : ℕ) (q : Trail) → begins job from count q ≡ true → IsBegun job from count q
begun-begins job from zero q e = absurd (cc)
begun-begins job from (suc i) q e = go (begins job from i q) refl (λ is. begun-begins job from i q is)
  where
    go : (x : Bool) → begins job from i q ≡ x → (begins job from i q ≡ true → IsBegun job from i q) → IsBegun job from (suc i) q
    go true is rest = let b = rest is in record { which = b.which; depth = b.depth; early = omega (arith, b.early); low = b.low; high = b.high; same = b.same }
    go false is rest =
        let parts = (test-Decides job from i q).0 (rw is at e) in
        record { which = i; depth = length q; early = omega arith; low = parts.0.0; high = parts.0.1; same = parts.1 }

pub begins-begun : (job : Job) (from count : ℕ) (q : Trail) → IsBegun job from count q → begins job from count q ≡ true
begins-begun job from zero q b = absurd (omega (arith, b.early))
begins-begun job from (suc i) q b = go (cases_eq b.which i) (λ less. begins-begun job from i q less) (begins job from i q) refl
  where
    depth_is : length q ≡ b.depth
    depth_is = ap (λ (x : Trail). length x) b.same ∙ length-trail_of (job.way b.which) b.depth

    here : b.which ≡ i → (nat_le from (length q) && nat_le (length q) (length (job.way i)) && bytes_eq q (prefix job i (length q))) ≡ true
    here e =
        let proper : b.depth ≤ length (job.way i) = subst (λ j. b.depth ≤ length (job.way j)) e b.high in
        (test-Decides job from i q).1 ((omega (arith, b.low, depth_is), omega (arith, proper, depth_is)), b.same ∙ ap (λ j. prefix job j b.depth) e ∙ ap (prefix job i) (sym depth_is))

    go : (b.which ≡ i) ⊎ (b.which ≡ i → ⊥) → (IsBegun job from i q → begins job from i q ≡ true) → (x : Bool) → begins job from i q ≡ x → begins job from (suc i) q ≡ true
    go any rest true is = rw is refl
    go (inl e) rest false is = rw (is, here e) refl
    go (inr n) rest false is =
        let yes_before : begins job from i q ≡ true = rest (record { which = b.which; depth = b.depth; early = omega (arith, b.early, n); low = b.low; high = b.high; same = b.same }) in
        absurd (cc)

pub turns_none : (job : Job) (from i depth : ℕ) → IsBegun job from i (prefix job i depth) → turns_at job from i depth ≡ 0
turns_none job from i depth b = rw (begins-begun job from i (prefix job i depth) b) refl

pub turns_one : (job : Job) (from i depth : ℕ) → (IsBegun job from i (prefix job i depth) → ⊥) → turns_at job from i depth ≡ 1
turns_one job from i depth none = go (begins job from i (prefix job i depth)) refl
  where
    go : (x : Bool) → begins job from i (prefix job i depth) ≡ x → turns_at job from i depth ≡ 1
    go false is = rw is refl
    go true is = absurd (none (begun-begins job from i (prefix job i depth) is))

pub turned-next : (job : Job) (from i depth : ℕ) → from ≤ depth → turned_for job from i (depth + 1) ≡ turned_for job from i depth + turns_at job from i (depth + 1)
turned-next job from i depth low =
    let next : depth + 1 ≡ suc depth = omega arith in
    let test : nat_le from depth ≡ true = (Decides-leb from depth).1 low in
    rw next (rw test refl)

pub turned-more : (job : Job) (from i depth end : ℕ) → depth ≤ end → turned_for job from i depth ≤ turned_for job from i end
turned-more job from i depth zero low = let none : depth ≡ 0 = omega (arith, low) in rw none (omega arith)
turned-more job from i depth (suc end) low = go (cases_eq depth (suc end)) (λ less. turned-more job from i depth end less)
  where
    go : (depth ≡ suc end) ⊎ (depth ≡ suc end → ⊥) → (depth ≤ end → turned_for job from i depth ≤ turned_for job from i end) → turned_for job from i depth ≤ turned_for job from i (suc end)
    go (inl e) rest = rw e (omega arith)
    go (inr n) rest = le_trans (rest (omega (arith, low, n))) (omega arith)

pub turned-low : (job : Job) (from i depth : ℕ) → depth ≤ from → turned_for job from i depth ≡ 0
turned-low job from i zero small = refl
turned-low job from i (suc depth) small = go (nat_le from depth) refl (turned-low job from i depth (omega (arith, small)))
  where
    go : (x : Bool) → nat_le from depth ≡ x → turned_for job from i depth ≡ 0 → turned_for job from i (suc depth) ≡ 0
    go false is rest = rw (is, rest) refl
    go true is rest = absurd (omega (arith, small, (Decides-leb from depth).0 is))

pub turned-start : (job : Job) (from i : ℕ) → turned_for job from i from ≡ 0
turned-start job from i = turned-low job from i from (omega arith)

pub upto-next : (job : Job) (from i : ℕ) → turned_upto job from (i + 1) ≡ turned_upto job from i + turned_for job from i (length (job.way i))
upto-next job from i = let next : i + 1 ≡ suc i = omega arith in ap (turned_upto job from) next

pub upto-more : (job : Job) (from i end : ℕ) → i ≤ end → turned_upto job from i ≤ turned_upto job from end
upto-more job from i zero low = let none : i ≡ 0 = omega (arith, low) in rw none (omega arith)
upto-more job from i (suc end) low = go (cases_eq i (suc end)) (λ less. upto-more job from i end less)
  where
    go : (i ≡ suc end) ⊎ (i ≡ suc end → ⊥) → (i ≤ end → turned_upto job from i ≤ turned_upto job from end) → turned_upto job from i ≤ turned_upto job from (suc end)
    go (inl e) rest = rw e (omega arith)
    go (inr n) rest = le_trans (rest (omega (arith, low, n))) (omega arith)
