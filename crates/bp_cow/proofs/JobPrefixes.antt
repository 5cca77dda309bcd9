-- The prefixes of the ways, each once: as many as blocks are copied.
use Rattle.std.proofs.Common.{◌≡◌, ◌⊎◌, ℕ, zero, suc, ◌<◌, ◌≤◌, List, [], ◌∷◌, ◌++◌, length, take, Bool, true, false, refl, sym, ◌∙◌, ap, subst, arith, inl, inr, length-append}
use Rattle.std.specs.Prelude.{nat_le, if◌then◌else◌}
use Rattle.std.proofs.lemmas.Bool.{cases_eq, leb-true, le-leb}
use Rattle.std.proofs.lemmas.List.{length-take}
use Rattle.bp_layout.proofs.MemberLaws.{apart-append, has-after, has-either, has-prefix}
use Rattle.bp_layout.specs.Members.{AreApart, Has}
use Rattle.bp_changes.specs.Trail.{Trail, trail_of}
use Rattle.bp_changes.proofs.PathTrails.{length-trail_of}
use Rattle.bp_cow.specs.Job.{Job, prefix, begins, turns_at, turned_for, turned_upto}
use Rattle.bp_cow.proofs.NeedLaws.{begun-begins, begins-begun}
use Rattle.bp_cow.proofs.RunPrefixes.{trail_of-take}
use Rattle.bp_cow.proofs.Distinct.{same-take}

-- the prefix of a way with one slot more, where no earlier way begins with it
new_prefix : Job → ℕ → ℕ → ℕ → List (List ℕ)
new_prefix job from i depth = if begins job from i (prefix job i depth) then [] else take depth (job.way i) ∷ []

prefixes_for : Job → ℕ → ℕ → ℕ → List (List ℕ)
prefixes_for job from i zero = []
prefixes_for job from i (suc depth) = (if nat_le from depth then new_prefix job from i (suc depth) else []) ++ prefixes_for job from i depth

pub prefixes_upto : Job → ℕ → ℕ → List (List ℕ)
prefixes_upto job from zero = []
prefixes_upto job from (suc i) = prefixes_for job from i (length (job.way i)) ++ prefixes_upto job from i

length-new : (job : Job) (from i depth : ℕ) → length (new_prefix job from i depth) ≡ turns_at job from i depth
unfolding new_prefix
length-new job from i depth = go (begins job from i (prefix job i depth)) refl
  where
    go : (x : Bool) → begins job from i (prefix job i depth) ≡ x → length (if begins job from i (prefix job i depth) then [] else take depth (job.way i) ∷ []) ≡ turns_at job from i depth
    go true e = rw e refl
    go false e = rw e refl

length-for : (job : Job) (from i depth : ℕ) → length (prefixes_for job from i depth) ≡ turned_for job from i depth
unfolding prefixes_for
length-for job from i zero = refl
length-for job from i (suc depth) = go (nat_le from depth) refl (length-for job from i depth)
  where
    go : (x : Bool) → nat_le from depth ≡ x → length (prefixes_for job from i depth) ≡ turned_for job from i depth →
        length ((if nat_le from depth then new_prefix job from i (suc depth) else []) ++ prefixes_for job from i depth) ≡ turned_for job from i (suc depth)
    go false e rest = rw e (omega (arith, rest))
    go true e rest = rw e (omega (arith, length-append (new_prefix job from i (suc depth)) (prefixes_for job from i depth), length-new job from i (suc depth), rest))

pub length-upto : (job : Job) (from count : ℕ) → length (prefixes_upto job from count) ≡ turned_upto job from count
unfolding prefixes_upto
length-upto job from zero = refl
length-upto job from (suc i) = omega (arith, length-append (prefixes_for job from i (length (job.way i))) (prefixes_upto job from i), length-for job from i (length (job.way i)), length-upto job from i)

-- a prefix of a way with which no earlier way begins
record IsNewPrefix (job : Job) (from i most : ℕ) (q : List ℕ) : Type 0 where
  pub count : ℕ
  pub low : from < count
  pub high : count ≤ most
  pub same : q ≡ take count (job.way i)
  pub new : begins job from i (prefix job i count) ≡ false

new-sound : (job : Job) (from i depth : ℕ) (q : List ℕ) → Has (new_prefix job from i depth) q → (q ≡ take depth (job.way i)) × (begins job from i (prefix job i depth) ≡ false)
unfolding new_prefix
new-sound job from i depth q has = go (begins job from i (prefix job i depth)) refl has
  where
    one : (take depth (job.way i) ≡ q) ⊎ ⊥ → q ≡ take depth (job.way i)
    one (inl e) = sym e
    one (inr none) = absurd none

    go : (x : Bool) → begins job from i (prefix job i depth) ≡ x → Has (if begins job from i (prefix job i depth) then [] else take depth (job.way i) ∷ []) q → (q ≡ take depth (job.way i)) × (begins job from i (prefix job i depth) ≡ false)
    go true e has = let none : ⊥ = rw e at has in absurd none
    go false e has = (one (rw e at has), e)

new-complete : (job : Job) (from i depth : ℕ) → begins job from i (prefix job i depth) ≡ false → Has (new_prefix job from i depth) (take depth (job.way i))
unfolding new_prefix
new-complete job from i depth e = rw e (inl refl)

for-sound : (job : Job) (from i depth : ℕ) (q : List ℕ) → Has (prefixes_for job from i depth) q → IsNewPrefix job from i depth q
unfolding prefixes_for
for-sound job from i zero q has = absurd has
for-sound job from i (suc depth) q has = go (nat_le from depth) refl has (λ more. for-sound job from i depth q more)
  where
    more_of : IsNewPrefix job from i depth q → IsNewPrefix job from i (suc depth) q
    more_of f = record { count = f.count; low = f.low; high = omega (arith, f.high); same = f.same; new = f.new }

    both : from ≤ depth → Has (new_prefix job from i (suc depth)) q ⊎ Has (prefixes_for job from i depth) q → (Has (prefixes_for job from i depth) q → IsNewPrefix job from i depth q) → IsNewPrefix job from i (suc depth) q
    both low (inl one) rest = let is = new-sound job from i (suc depth) q one in record { count = suc depth; low = omega (arith, low); high = omega arith; same = is.0; new = is.1 }
    both low (inr two) rest = more_of (rest two)

    go : (x : Bool) → nat_le from depth ≡ x → Has ((if nat_le from depth then new_prefix job from i (suc depth) else []) ++ prefixes_for job from i depth) q → (Has (prefixes_for job from i depth) q → IsNewPrefix job from i depth q) → IsNewPrefix job from i (suc depth) q
    go false e has rest = more_of (rest (rw e at has))
    go true e has rest = both (leb-true from depth e) (has-either (new_prefix job from i (suc depth)) (prefixes_for job from i depth) q (rw e at has)) rest

for-complete : (job : Job) (from i depth n : ℕ) → from < n → n ≤ depth → begins job from i (prefix job i n) ≡ false → Has (prefixes_for job from i depth) (take n (job.way i))
unfolding prefixes_for
for-complete job from i zero n low high new = absurd (omega (arith, low, high))
for-complete job from i (suc depth) n low high new = go (cases_eq n (suc depth)) (λ small. for-complete job from i depth n low small new)
  where
    go : (n ≡ suc depth) ⊎ (n ≡ suc depth → ⊥) → (n ≤ depth → Has (prefixes_for job from i depth) (take n (job.way i))) → Has ((if nat_le from depth then new_prefix job from i (suc depth) else []) ++ prefixes_for job from i depth) (take n (job.way i))
    go (inl e) rest =
        let test : nat_le from depth ≡ true = le-leb from depth (omega (arith, low, e)) in
        let here : Has (new_prefix job from i (suc depth)) (take (suc depth) (job.way i)) = new-complete job from i (suc depth) (subst (λ k. begins job from i (prefix job i k) ≡ false) e new) in
        rw test (has-prefix (new_prefix job from i (suc depth)) (prefixes_for job from i depth) (take n (job.way i)) (subst (λ k. Has (new_prefix job from i (suc depth)) (take k (job.way i))) (sym e) here))
    go (inr other) rest = has-after (if nat_le from depth then new_prefix job from i (suc depth) else []) (prefixes_for job from i depth) (take n (job.way i)) (rest (omega (arith, high, other)))

distinct-new : (job : Job) (from i depth : ℕ) → AreApart (new_prefix job from i depth)
unfolding new_prefix
distinct-new job from i depth = go (begins job from i (prefix job i depth)) refl
  where
    go : (x : Bool) → begins job from i (prefix job i depth) ≡ x → AreApart (if begins job from i (prefix job i depth) then [] else take depth (job.way i) ∷ [])
    go true e = rw e tt
    go false e = rw e (tt, tt)

distinct-for : (job : Job) (from i depth : ℕ) → depth ≤ length (job.way i) → AreApart (prefixes_for job from i depth)
unfolding prefixes_for
distinct-for job from i zero short = tt
distinct-for job from i (suc depth) short = go (nat_le from depth) refl (distinct-for job from i depth (omega (arith, short)))
  where
    apart : (q : List ℕ) → Has (new_prefix job from i (suc depth)) q → Has (prefixes_for job from i depth) q → ⊥
    apart q one two =
        let long : q ≡ take (suc depth) (job.way i) = (new-sound job from i (suc depth) q one).0 in
        let less = for-sound job from i depth q two in
        omega (arith, short, less.high, length-take (suc depth) (job.way i), length-take less.count (job.way i), ap (λ (p : List ℕ). length p) long, ap (λ (p : List ℕ). length p) less.same)

    go : (x : Bool) → nat_le from depth ≡ x → AreApart (prefixes_for job from i depth) → AreApart ((if nat_le from depth then new_prefix job from i (suc depth) else []) ++ prefixes_for job from i depth)
    go false e rest = rw e rest
    go true e rest = rw e (apart-append (new_prefix job from i (suc depth)) (prefixes_for job from i depth) (distinct-new job from i (suc depth)) rest apart)

-- ---- of the first ways

pub record IsPrefixBefore (job : Job) (from count : ℕ) (q : List ℕ) : Type 0 where
  pub which : ℕ
  pub early : which < count
  pub depth : ℕ
  pub low : from < depth
  pub high : depth ≤ length (job.way which)
  pub same : q ≡ take depth (job.way which)

pub upto-sound : (job : Job) (from count : ℕ) (q : List ℕ) → Has (prefixes_upto job from count) q → IsPrefixBefore job from count q
unfolding prefixes_upto
upto-sound job from zero q has = absurd has
upto-sound job from (suc i) q has = go (has-either (prefixes_for job from i (length (job.way i))) (prefixes_upto job from i) q has) (λ more. upto-sound job from i q more)
  where
    go : Has (prefixes_for job from i (length (job.way i))) q ⊎ Has (prefixes_upto job from i) q → (Has (prefixes_upto job from i) q → IsPrefixBefore job from i q) → IsPrefixBefore job from (suc i) q
    go (inl one) rest = let f = for-sound job from i (length (job.way i)) q one in record { which = i; early = omega arith; depth = f.count; low = f.low; high = f.high; same = f.same }
    go (inr two) rest = let f = rest two in record { which = f.which; early = omega (arith, f.early); depth = f.depth; low = f.low; high = f.high; same = f.same }

pub upto-complete : (job : Job) (from count which n : ℕ) → which < count → from < n → n ≤ length (job.way which) → Has (prefixes_upto job from count) (take n (job.way which))
unfolding prefixes_upto
upto-complete job from zero which n early low high = absurd (omega (arith, early))
upto-complete job from (suc i) which n early low high = go (cases_eq which i) (λ w m small few short. upto-complete job from i w m small few short)
  where
    beyond : (w m : ℕ) → Has (prefixes_upto job from i) (take m (job.way w)) → Has (prefixes_for job from i (length (job.way i)) ++ prefixes_upto job from i) (take m (job.way w))
    beyond w m has = has-after (prefixes_for job from i (length (job.way i))) (prefixes_upto job from i) (take m (job.way w)) has

    here : (x : Bool) → begins job from i (prefix job i n) ≡ x → n ≤ length (job.way i) → ((w m : ℕ) → w < i → from < m → m ≤ length (job.way w) → Has (prefixes_upto job from i) (take m (job.way w))) →
        Has (prefixes_for job from i (length (job.way i)) ++ prefixes_upto job from i) (take n (job.way i))
    here false new short rest = has-prefix (prefixes_for job from i (length (job.way i))) (prefixes_upto job from i) (take n (job.way i)) (for-complete job from i (length (job.way i)) n low short new)
    here true old short rest =
        let b = begun-begins job from i (prefix job i n) old in
        let depths : n ≡ b.depth = omega (arith, length-trail_of (job.way i) n, length-trail_of (job.way b.which) b.depth, ap (λ (q : Trail). length q) b.same) in
        let few : n ≤ length (job.way b.which) = omega (arith, b.high, depths) in
        let same : take n (job.way i) ≡ take n (job.way b.which) = same-take (job.way i) (job.way b.which) n short few (b.same ∙ ap (prefix job b.which) (sym depths)) in
        has-after (prefixes_for job from i (length (job.way i))) (prefixes_upto job from i) (take n (job.way i)) (subst (Has (prefixes_upto job from i)) (sym same) (rest b.which n b.early low few))

    go : (which ≡ i) ⊎ (which ≡ i → ⊥) → ((w m : ℕ) → w < i → from < m → m ≤ length (job.way w) → Has (prefixes_upto job from i) (take m (job.way w))) →
        Has (prefixes_for job from i (length (job.way i)) ++ prefixes_upto job from i) (take n (job.way which))
    go (inl e) rest =
        subst (λ w. Has (prefixes_for job from i (length (job.way i)) ++ prefixes_upto job from i) (take n (job.way w))) (sym e)
        (here (begins job from i (prefix job i n)) refl (subst (λ w. n ≤ length (job.way w)) e high) rest)
    go (inr other) rest = beyond which n (rest which n (omega (arith, early, other)) low high)

pub distinct-upto : (job : Job) (from count : ℕ) → AreApart (prefixes_upto job from count)
unfolding prefixes_upto
distinct-upto job from zero = tt
distinct-upto job from (suc i) =
    apart-append (prefixes_for job from i (length (job.way i))) (prefixes_upto job from i) (distinct-for job from i (length (job.way i)) (omega arith)) (distinct-upto job from i) apart
  where
    apart : (q : List ℕ) → Has (prefixes_for job from i (length (job.way i))) q → Has (prefixes_upto job from i) q → ⊥
    apart q one two =
        let f = for-sound job from i (length (job.way i)) q one in
        let g = upto-sound job from i q two in
        let lengths : f.count ≡ g.depth = omega (arith, f.high, g.high, length-take f.count (job.way i), length-take g.depth (job.way g.which), ap (λ (p : List ℕ). length p) f.same, ap (λ (p : List ℕ). length p) g.same) in
        let takes : take f.count (job.way i) ≡ take f.count (job.way g.which) = sym f.same ∙ g.same ∙ ap (λ n. take n (job.way g.which)) (sym lengths) in
        let trails : prefix job i f.count ≡ prefix job g.which f.count =
        sym (trail_of-take (job.way i) f.count f.count (omega arith)) ∙ ap (λ p. trail_of p f.count) takes ∙ trail_of-take (job.way g.which) f.count f.count (omega arith) in
        let old : begins job from i (prefix job i f.count) ≡ true =
        begins-begun job from i (prefix job i f.count) (record { which = g.which; depth = f.count; early = g.early; low = omega (arith, f.low); high = omega (arith, g.high, lengths); same = trails }) in
        let new = f.new in
        absurd (cc)
