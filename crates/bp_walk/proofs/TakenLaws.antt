-- How takings are put together.
use Rattle.std.proofs.Common.{◌≡◌, ◌≢◌, ◌⊎◌, ℕ, Bool, true, false, length, refl, sym, ◌∙◌, ap, inl, inr, rules, ◌<◌}
use Rattle.std.proofs.lemmas.Bool.{cases_eq}
use Rattle.std.proofs.lemmas.List.{get_or-set_same, get_or-set_other}
use Rattle.bp_free.specs.Set.{Set, has, without}
use Rattle.bp_layout.specs.Words.{Image}
use Rattle.bp_walk.specs.Taken.{block_at, NamesBlock, Takes}

pub clash : {b : Bool} → b ≡ true → b ≡ false → ⊥
clash was_in not_in = absurd (cc)

pub take_none : (image : Image) (set : Set) → Takes image (λ p. ⊥) set set
take_none image set = record {
  room = refl;
  was = λ p never some. absurd never;
  gone = λ p never some. absurd never;
  named = λ b was_in not_in. absurd (clash was_in not_in);
  less = λ b not_in. not_in;
  once = λ p q never other some same. absurd never;
}

pub take_null : (image : Image) (at : ℕ) (set : Set) → block_at image at ≡ 0 → Takes image (λ p. p ≡ at) set set
take_null image at set null = record {
  room = refl;
  was = λ p here some. absurd (some (ap (block_at image) here ∙ null));
  gone = λ p here some. absurd (some (ap (block_at image) here ∙ null));
  named = λ b was_in not_in. absurd (clash was_in not_in);
  less = λ b not_in. not_in;
  once = λ p q one two some same. one ∙ sym two;
}

pub length_without : (set : Set) (i : ℕ) → length (without set i) ≡ length set
length_without set i = search rules

pub has_without : (set : Set) (i : ℕ) → i < length set → has (without set i) i ≡ false
has_without set i low = get_or-set_same set i false false low

pub has_other : (set : Set) (i j : ℕ) → j ≢ i → has (without set i) j ≡ has set j
has_other set i j other = get_or-set_other set i j false false other

pub has_less : (set : Set) (i j : ℕ) → i < length set → has set j ≡ false → has (without set i) j ≡ false
has_less set i j low not_in = go (cases_eq j i)
  where
    go : (j ≡ i) ⊎ (j ≡ i → ⊥) → has (without set i) j ≡ false
    go (inr other) = has_other set i j other ∙ not_in
    go (inl same) = ap (has (without set i)) same ∙ has_without set i low

pub take_one : (image : Image) (at : ℕ) (set : Set) → block_at image at < length set → has set (block_at image at) ≡ true →
    Takes image (λ p. p ≡ at) set (without set (block_at image at))
take_one image at set low was_in = record {
  room = search rules;
  was = λ p here some. ap (λ x. has set (block_at image x)) here ∙ was_in;
  gone = λ p here some. ap (λ x. has (without set (block_at image at)) (block_at image x)) here ∙ has_without set (block_at image at) low;
  named = λ b in_old not_new. go b (cases_eq b (block_at image at)) in_old not_new;
  less = λ b not_in. has_less set (block_at image at) b low not_in;
  once = λ p q one two some same. one ∙ sym two;
}
  where
    go : (b : ℕ) → (b ≡ block_at image at) ⊎ (b ≡ block_at image at → ⊥) → has set b ≡ true → has (without set (block_at image at)) b ≡ false → NamesBlock image (λ p. p ≡ at) b
    go b (inl same) in_old not_new = record { place = at; is = refl; named = sym same }
    go b (inr other) in_old not_new = absurd (clash in_old (sym (has_other set (block_at image at) b other) ∙ not_new))

-- the same places under another name
pub take_same : (image : Image) (P Q : ℕ → Type 0) (old new : Set) → ((p : ℕ) → P p → Q p) → ((p : ℕ) → Q p → P p) → Takes image P old new → Takes image Q old new
take_same image P Q old new there back t = record {
  room = t.room;
  was = λ p is. t.was p (back p is);
  gone = λ p is. t.gone p (back p is);
  named = λ b was_in not_in. let n : NamesBlock image P b = t.named b was_in not_in in record { place = n.place; is = there n.place n.is; named = n.named };
  less = t.less;
  once = λ p q one two. t.once p q (back p one) (back q two);
}

pub known : (b : Bool) → (b ≡ true) ⊎ (b ≡ false)
known true = inl refl
known false = inr refl

pub take_both : (image : Image) (P Q : ℕ → Type 0) (old mid new : Set) → Takes image P old mid → Takes image Q mid new → Takes image (λ p. P p ⊎ Q p) old new
take_both image P Q old mid new one two = record {
  room = two.room ∙ one.room;
  was = was;
  gone = gone;
  named = λ b was_in not_in. named b (known (has mid b)) was_in not_in;
  less = λ b not_in. two.less b (one.less b not_in);
  once = once;
}
  where
    -- a block that is still in the set in between was in it before
    before : (b : ℕ) → (has old b ≡ true) ⊎ (has old b ≡ false) → has mid b ≡ true → has old b ≡ true
    before b (inl was_in) still = was_in
    before b (inr not_in) still = absurd (clash still (one.less b not_in))

    was : (p : ℕ) → P p ⊎ Q p → block_at image p ≢ 0 → has old (block_at image p) ≡ true
    was p (inl is) some = one.was p is some
    was p (inr is) some = before (block_at image p) (known (has old (block_at image p))) (two.was p is some)

    gone : (p : ℕ) → P p ⊎ Q p → block_at image p ≢ 0 → has new (block_at image p) ≡ false
    gone p (inl is) some = two.less (block_at image p) (one.gone p is some)
    gone p (inr is) some = two.gone p is some

    named : (b : ℕ) → (has mid b ≡ true) ⊎ (has mid b ≡ false) → has old b ≡ true → has new b ≡ false → NamesBlock image (λ p. P p ⊎ Q p) b
    named b (inl still) was_in not_in = let n : NamesBlock image Q b = two.named b still not_in in record { place = n.place; is = inr n.is; named = n.named }
    named b (inr left) was_in not_in = let n : NamesBlock image P b = one.named b was_in left in record { place = n.place; is = inl n.is; named = n.named }

    once : (p q : ℕ) → P p ⊎ Q p → P q ⊎ Q q → block_at image p ≢ 0 → block_at image p ≡ block_at image q → p ≡ q
    once p q (inl is) (inl also) some same = one.once p q is also some same
    once p q (inr is) (inr also) some same = two.once p q is also some same
    once p q (inl is) (inr also) some same = absurd (clash (ap (has mid) same ∙ two.was q also (λ null. some (same ∙ null))) (one.gone p is some))
    once p q (inr is) (inl also) some same = absurd (clash (two.was p is some) (ap (has mid) same ∙ one.gone q also (λ null. some (same ∙ null))))
