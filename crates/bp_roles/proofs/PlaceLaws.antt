-- `stored_at` and `seen_at` are inverse to each other, and the identity past the first 8 words.
use Rattle.std.proofs.Common.{◌≡◌, ℕ, zero, suc, ◌<◌, ◌≤◌, inl, inr, length, get_or, refl, arith}
use Rattle.std.proofs.lemmas.Bool.{cases_lt}
use Rattle.std.proofs.lemmas.List.{get_or_default, get_or_past}
use Rattle.bp_roles.specs.Roles.{seen_at, seen_places, stored_at, stored_places}
use Rattle.bp_roles.specs.declared.roles.Roles.{Roles}
use Rattle.bp_roles.specs.declared.roles.Roles.TheVariants.{OutsideA, OutsideB, InsideA, InsideB}

-- a property of all words, from the first 8 one by one and the rest together
pub by_word : (P : ℕ → Type 0) → P 0 → P 1 → P 2 → P 3 → P 4 → P 5 → P 6 → P 7
    → ((i : ℕ) → P (suc (suc (suc (suc (suc (suc (suc (suc i))))))))) → (i : ℕ) → P i
by_word P p0 p1 p2 p3 p4 p5 p6 p7 rest zero = p0
by_word P p0 p1 p2 p3 p4 p5 p6 p7 rest (suc zero) = p1
by_word P p0 p1 p2 p3 p4 p5 p6 p7 rest (suc (suc zero)) = p2
by_word P p0 p1 p2 p3 p4 p5 p6 p7 rest (suc (suc (suc zero))) = p3
by_word P p0 p1 p2 p3 p4 p5 p6 p7 rest (suc (suc (suc (suc zero)))) = p4
by_word P p0 p1 p2 p3 p4 p5 p6 p7 rest (suc (suc (suc (suc (suc zero))))) = p5
by_word P p0 p1 p2 p3 p4 p5 p6 p7 rest (suc (suc (suc (suc (suc (suc zero)))))) = p6
by_word P p0 p1 p2 p3 p4 p5 p6 p7 rest (suc (suc (suc (suc (suc (suc (suc zero))))))) = p7
by_word P p0 p1 p2 p3 p4 p5 p6 p7 rest (suc (suc (suc (suc (suc (suc (suc (suc i)))))))) = rest i

pub stored_at-seen_at : (roles : Roles) (word : ℕ) → stored_at roles (seen_at roles word) ≡ word
unfolding stored_at seen_at
stored_at-seen_at OutsideA word = by_word (λ i. stored_at OutsideA (seen_at OutsideA i) ≡ i) refl refl refl refl refl refl refl refl (λ i. refl) word
stored_at-seen_at OutsideB word = by_word (λ i. stored_at OutsideB (seen_at OutsideB i) ≡ i) refl refl refl refl refl refl refl refl (λ i. refl) word
stored_at-seen_at InsideA word = by_word (λ i. stored_at InsideA (seen_at InsideA i) ≡ i) refl refl refl refl refl refl refl refl (λ i. refl) word
stored_at-seen_at InsideB word = by_word (λ i. stored_at InsideB (seen_at InsideB i) ≡ i) refl refl refl refl refl refl refl refl (λ i. refl) word

pub seen_at-stored_at : (roles : Roles) (word : ℕ) → seen_at roles (stored_at roles word) ≡ word
unfolding stored_at seen_at
seen_at-stored_at OutsideA word = by_word (λ i. seen_at OutsideA (stored_at OutsideA i) ≡ i) refl refl refl refl refl refl refl refl (λ i. refl) word
seen_at-stored_at OutsideB word = by_word (λ i. seen_at OutsideB (stored_at OutsideB i) ≡ i) refl refl refl refl refl refl refl refl (λ i. refl) word
seen_at-stored_at InsideA word = by_word (λ i. seen_at InsideA (stored_at InsideA i) ≡ i) refl refl refl refl refl refl refl refl (λ i. refl) word
seen_at-stored_at InsideB word = by_word (λ i. seen_at InsideB (stored_at InsideB i) ≡ i) refl refl refl refl refl refl refl refl (λ i. refl) word

pub stored_at-zero : (roles : Roles) → stored_at roles 0 ≡ 0
unfolding stored_at
stored_at-zero OutsideA = refl
stored_at-zero OutsideB = refl
stored_at-zero InsideA = refl
stored_at-zero InsideB = refl

length-stored_places : (roles : Roles) → length (stored_places roles) ≡ 8
length-stored_places OutsideA = refl
length-stored_places OutsideB = refl
length-stored_places InsideA = refl
length-stored_places InsideB = refl

length-seen_places : (roles : Roles) → length (seen_places roles) ≡ 8
length-seen_places OutsideA = refl
length-seen_places OutsideB = refl
length-seen_places InsideA = refl
length-seen_places InsideB = refl

pub stored_at-past : (roles : Roles) (word : ℕ) → 8 ≤ word → stored_at roles word ≡ word
unfolding stored_at
stored_at-past roles word high = get_or_past (stored_places roles) word word (omega (arith, length-stored_places roles, high))

pub seen_at-past : (roles : Roles) (word : ℕ) → 8 ≤ word → seen_at roles word ≡ word
unfolding seen_at
seen_at-past roles word high = get_or_past (seen_places roles) word word (omega (arith, length-seen_places roles, high))

pub stored_at-low : (roles : Roles) (word : ℕ) → word < 8 → stored_at roles word < 8
stored_at-low roles word low = elim (cases_lt (stored_at roles word) 8) [
  | inl is ↦ is
  | inr high ↦ absurd (omega (arith, seen_at-past roles (stored_at roles word) high, seen_at-stored_at roles word, low, high))
]

pub seen_at-low : (roles : Roles) (word : ℕ) → word < 8 → seen_at roles word < 8
seen_at-low roles word low = elim (cases_lt (seen_at roles word) 8) [
  | inl is ↦ is
  | inr high ↦ absurd (omega (arith, stored_at-past roles (seen_at roles word) high, stored_at-seen_at roles word, low, high))
]

pub stored_at-listed : (roles : Roles) (word : ℕ) → word < 8 → get_or (stored_places roles) word 0 ≡ stored_at roles word
unfolding stored_at
stored_at-listed roles word low = get_or_default (stored_places roles) word 0 word (omega (arith, length-stored_places roles, low))

pub seen_at-listed : (roles : Roles) (word : ℕ) → word < 8 → get_or (seen_places roles) word 0 ≡ seen_at roles word
unfolding seen_at
seen_at-listed roles word low = get_or_default (seen_places roles) word 0 word (omega (arith, length-seen_places roles, low))
