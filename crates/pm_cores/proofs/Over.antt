-- The memory is the base with the stores that are back.
use Rattle.std.proofs.Common.{◌≡◌, ℕ, zero, suc, ◌<◌, ◌≤◌, ◌⊎◌, inl, inr, Bool, true, false, cond, eqb, ◌||◌, Option, Some, None, List, [], ◌∷◌, ◌++◌, length, get_or, set, take, refl, sym, ◌∙◌, ap, arith}
use Rattle.std.specs.Prelude.{map}
use Rattle.std.specs.List.{slice_get, range_with_len}
use Rattle.std.proofs.lemmas.Bool.{cases_Bool, eqb-true, eqb-false, eq-eqb}
use Rattle.std.proofs.lemmas.Bool.Decides.{eqb_tells}
use Rattle.std.proofs.lemmas.Option.{slice_get-get_or, get_or_from_slice_get}
use Rattle.std.proofs.lemmas.List.{ext_get_or, get_or-set_same, get_or-set_other, length-set}
use Rattle.std.proofs.lemmas.List.FromFn.{length-map-range_with_len}
use Rattle.pm_cores.specs.declared.entry.Entry.{Entry}
use Rattle.pm_cores.specs.declared.entry.Entry.TheVariants.{Load, Store, Barrier}
use Rattle.pm_cores.specs.declared.entry.Owner.{Owner}
use Rattle.pm_cores.specs.Log.{epoch_at, last_value, words_back, IsStore}
use Rattle.pm_cores.specs.Caches.{Caches, entry_is_of, owner_at, memory_over, value_at, logged, with_back, written_by, written_under, IsDirtyUnder, MayLeave}
use Rattle.pm_cores.specs.Order.{IsCoherent}
use Rattle.pm_cores.proofs.Lists.{get_within}
use Rattle.pm_cores.proofs.Views.{get_map_range}

-- ## One word after the stores that are back

abbrev pub word_back : ℕ → List Entry → List Bool → ℕ → ℕ
word_back now [] back word = now
word_back now (entry ∷ log) [] word = now
word_back now (Load core at ∷ log) (flag ∷ back) word = word_back now log back word
word_back now (Store core at value ∷ log) (true ∷ back) word = word_back (cond (eqb at word) value now) log back word
word_back now (Store core at value ∷ log) (false ∷ back) word = word_back now log back word
word_back now (Barrier core ∷ log) (flag ∷ back) word = word_back now log back word

pub length-words_back : (words : List ℕ) (log : List Entry) (back : List Bool) → length (words_back words log back) ≡ length words
length-words_back words [] back = refl
length-words_back words (entry ∷ log) [] = refl
length-words_back words (Load core at ∷ log) (flag ∷ back) = length-words_back words log back
length-words_back words (Store core at value ∷ log) (true ∷ back) = length-words_back (set words at value) log back ∙ length-set words at value
length-words_back words (Store core at value ∷ log) (false ∷ back) = length-words_back words log back
length-words_back words (Barrier core ∷ log) (flag ∷ back) = length-words_back words log back

pub get-words_back : (words : List ℕ) (log : List Entry) (back : List Bool) (word : ℕ) → word < length words → get_or (words_back words log back) word 0 ≡ word_back (get_or words word 0) log back word
get-words_back words [] back word low = refl
get-words_back words (entry ∷ log) [] word low = refl
get-words_back words (Load core at ∷ log) (flag ∷ back) word low = get-words_back words log back word low
get-words_back words (Store core at value ∷ log) (true ∷ back) word low =
    let still : word < length (set words at value) = let size = length-set words at value in omega arith in
    get-words_back (set words at value) log back word still ∙ ap (λ n. word_back n log back word) (elim (eqb_tells at word) [
      | inl same ↦ rw (same.0, same.1) (get_or-set_same words word value 0 low)
      | inr differ ↦ rw differ.0 (get_or-set_other words at word value 0 (λ e. differ.1 (sym e)))
    ])
get-words_back words (Store core at value ∷ log) (false ∷ back) word low = get-words_back words log back word low
get-words_back words (Barrier core ∷ log) (flag ∷ back) word low = get-words_back words log back word low

-- all stores to the word are back
pub all_back : (log : List Entry) (back : List Bool) (now word : ℕ) → length back ≡ length log → ((place core : ℕ) → IsStore log place core word → slice_get back place ≡ Some true) → word_back now log back word ≡ last_value now log word
all_back [] back now word size all = refl
all_back (entry ∷ log) [] now word size all = absurd (omega arith)
all_back (Load core at ∷ log) (flag ∷ back) now word size all = all_back log back now word (omega arith) (λ place its store. all (suc place) its (record { value = store.value; is = store.is }))
all_back (Barrier core ∷ log) (flag ∷ back) now word size all = all_back log back now word (omega arith) (λ place its store. all (suc place) its (record { value = store.value; is = store.is }))
all_back (Store core at value ∷ log) (true ∷ back) now word size all = all_back log back (cond (eqb at word) value now) word (omega arith) (λ place its store. all (suc place) its (record { value = store.value; is = store.is }))
all_back (Store core at value ∷ log) (false ∷ back) now word size all = elim (eqb_tells at word) [
  | inl same ↦
      let flag : Some false ≡ Some true = all 0 core (record { value = value; is = ap (λ n. Some (Store core n value)) same.1 }) in
      cc
  | inr differ ↦
      rw differ.0 (all_back log back now word (omega arith) (λ place its store. all (suc place) its (record { value = store.value; is = store.is })))
]

-- the same stores to the word are back
same_back : (log : List Entry) (back back2 : List Bool) (now word : ℕ) → length back ≡ length log → length back2 ≡ length log → ((place core : ℕ) → IsStore log place core word → slice_get back2 place ≡ slice_get back place) → word_back now log back2 word ≡ word_back now log back word
same_back [] back back2 now word size size2 same = refl
same_back (entry ∷ log) [] back2 now word size size2 same = absurd (omega arith)
same_back (entry ∷ log) (flag ∷ back) [] now word size size2 same = absurd (omega arith)
same_back (Load core at ∷ log) (flag ∷ back) (flag2 ∷ back2) now word size size2 same = same_back log back back2 now word (omega arith) (omega arith) (λ place its store. same (suc place) its (record { value = store.value; is = store.is }))
same_back (Barrier core ∷ log) (flag ∷ back) (flag2 ∷ back2) now word size size2 same = same_back log back back2 now word (omega arith) (omega arith) (λ place its store. same (suc place) its (record { value = store.value; is = store.is }))
same_back (Store core at value ∷ log) (true ∷ back) (true ∷ back2) now word size size2 same = same_back log back back2 (cond (eqb at word) value now) word (omega arith) (omega arith) (λ place its store. same (suc place) its (record { value = store.value; is = store.is }))
same_back (Store core at value ∷ log) (false ∷ back) (false ∷ back2) now word size size2 same = same_back log back back2 now word (omega arith) (omega arith) (λ place its store. same (suc place) its (record { value = store.value; is = store.is }))
same_back (Store core at value ∷ log) (true ∷ back) (false ∷ back2) now word size size2 same = elim (eqb_tells at word) [
  | inl hit ↦ let flag : Some false ≡ Some true = same 0 core (record { value = value; is = ap (λ n. Some (Store core n value)) hit.1 }) in cc
  | inr miss ↦ rw miss.0 (same_back log back back2 now word (omega arith) (omega arith) (λ place its store. same (suc place) its (record { value = store.value; is = store.is })))
]
same_back (Store core at value ∷ log) (false ∷ back) (true ∷ back2) now word size size2 same = elim (eqb_tells at word) [
  | inl hit ↦ let flag : Some true ≡ Some false = same 0 core (record { value = value; is = ap (λ n. Some (Store core n value)) hit.1 }) in cc
  | inr miss ↦ rw miss.0 (same_back log back back2 now word (omega arith) (omega arith) (λ place its store. same (suc place) its (record { value = store.value; is = store.is })))
]

pushed_back : (words : List ℕ) (log : List Entry) (back : List Bool) (entry : Entry) → length back ≡ length log → words_back words (log ++ entry ∷ []) (back ++ false ∷ []) ≡ words_back words log back
pushed_back words [] [] (Load core at) size = refl
pushed_back words [] [] (Store core at value) size = refl
pushed_back words [] [] (Barrier core) size = refl
pushed_back words [] (flag ∷ back) entry size = absurd (omega arith)
pushed_back words (first ∷ log) [] entry size = absurd (omega arith)
pushed_back words (Load core at ∷ log) (flag ∷ back) entry size = pushed_back words log back entry (omega arith)
pushed_back words (Store core at value ∷ log) (true ∷ back) entry size = pushed_back (set words at value) log back entry (omega arith)
pushed_back words (Store core at value ∷ log) (false ∷ back) entry size = pushed_back words log back entry (omega arith)
pushed_back words (Barrier core ∷ log) (flag ∷ back) entry size = pushed_back words log back entry (omega arith)

-- ## What is written back

pub record IsWordGone (log : List Entry) (back2 : List Bool) (first new word : ℕ) : Type 0 where
  pub value : new ≡ last_value first log word
  pub all : (other its : ℕ) → IsStore log other its word → slice_get back2 other ≡ Some true

pub record IsWordKept (log : List Entry) (back back2 : List Bool) (old new word : ℕ) : Type 0 where
  pub value : new ≡ old
  pub same : (other its : ℕ) → IsStore log other its word → slice_get back2 other ≡ slice_get back other

pub over_by : (base memory2 : List ℕ) (log : List Entry) (back back2 : List Bool) → length memory2 ≡ length base → length back ≡ length log → length back2 ≡ length log →
    ((word : ℕ) → word < length base → IsWordGone log back2 (get_or base word 0) (get_or memory2 word 0) word ⊎ IsWordKept log back back2 (get_or (words_back base log back) word 0) (get_or memory2 word 0) word) → memory2 ≡ words_back base log back2
over_by base memory2 log back back2 size flags flags2 each =
    ext_get_or 0 memory2 (words_back base log back2) (size ∙ sym (length-words_back base log back2))
    (λ word low.
    let in_base : word < length base = omega arith in
    let now : get_or (words_back base log back) word 0 ≡ word_back (get_or base word 0) log back word = get-words_back base log back word in_base in
    elim (each word in_base) [
      | inl gone ↦
          gone.value ∙ sym (all_back log back2 (get_or base word 0) word flags2 gone.all) ∙ sym (get-words_back base log back2 word in_base)
      | inr kept ↦ kept.value ∙ now ∙ sym (same_back log back back2 (get_or base word 0) word flags flags2 kept.same) ∙ sym (get-words_back base log back2 word in_base)
    ])

module _ (base : List ℕ) (caches : Caches) (coherent : IsCoherent caches) (goes : ℕ → Bool) (pick : ℕ → Option Entry → Bool) (memory2 : List ℕ)
    (memory_size : length memory2 ≡ length base)
    (gone_value : (word : ℕ) → word < length base → goes word ≡ true → get_or memory2 word 0 ≡ value_at base caches word)
    (kept_value : (word : ℕ) → word < length base → goes word ≡ false → get_or memory2 word 0 ≡ get_or (memory_over base caches) word 0)
    (picked : (other its word value : ℕ) → slice_get caches.log other ≡ Some (Store its word value) → slice_get caches.back other ≡ Some false → pick other (Some (Store its word value)) ≡ goes word)
    (unpicked : (other its word value : ℕ) → slice_get caches.log other ≡ Some (Store its word value) → goes word ≡ false → slice_get caches.back other ≡ Some true → (true || pick other (Some (Store its word value))) ≡ true) where
  abbrev back2 : List Bool
  back2 = map (λ place. get_or caches.back place false || pick place (slice_get caches.log place)) (range_with_len 0 (length caches.log))

  size2 : length back2 ≡ length caches.log
  size2 = length-map-range_with_len (λ place. get_or caches.back place false || pick place (slice_get caches.log place)) 0 (length caches.log)

  flag2 : (other its word value : ℕ) → slice_get caches.log other ≡ Some (Store its word value) → slice_get back2 other ≡ Some (get_or caches.back other false || pick other (Some (Store its word value)))
  flag2 other its word value is =
      let low : other < length caches.log = get_within caches.log other (Store its word value) is in
      let size = size2 in
      slice_get-get_or back2 other false (omega arith)
      ∙ ap (λ (b : Bool). Some b) (get_map_range (λ place. get_or caches.back place false || pick place (slice_get caches.log place)) (length caches.log) other false low)
      ∙ ap (λ e. Some (get_or caches.back other false || pick other e)) is

  flag1 : (other its word value : ℕ) → slice_get caches.log other ≡ Some (Store its word value) → slice_get caches.back other ≡ Some (get_or caches.back other false)
  flag1 other its word value is =
      let low : other < length caches.log = get_within caches.log other (Store its word value) is in
      let size = coherent.flags in
      slice_get-get_or caches.back other false (omega arith)

  gone_flag : (other its word value : ℕ) (flag : Bool) → get_or caches.back other false ≡ flag → slice_get caches.log other ≡ Some (Store its word value) → goes word ≡ true → slice_get back2 other ≡ Some true
  gone_flag other its word value true flag_is is going = flag2 other its word value is ∙ ap (λ b. Some (b || pick other (Some (Store its word value)))) flag_is
  gone_flag other its word value false flag_is is going =
      flag2 other its word value is ∙ ap (λ b. Some (b || pick other (Some (Store its word value)))) flag_is
      ∙ ap (λ (b : Bool). Some b) (picked other its word value is (flag1 other its word value is ∙ ap (λ (b : Bool). Some b) flag_is) ∙ going)

  kept_flag : (other its word value : ℕ) (flag : Bool) → get_or caches.back other false ≡ flag → slice_get caches.log other ≡ Some (Store its word value) → goes word ≡ false → slice_get back2 other ≡ slice_get caches.back other
  kept_flag other its word value true flag_is is going = flag2 other its word value is ∙ ap (λ b. Some (b || pick other (Some (Store its word value)))) flag_is ∙ sym (flag1 other its word value is ∙ ap (λ (b : Bool). Some b) flag_is)
  kept_flag other its word value false flag_is is going =
      let old = flag1 other its word value is ∙ ap (λ (b : Bool). Some b) flag_is in
      flag2 other its word value is ∙ ap (λ b. Some (b || pick other (Some (Store its word value)))) flag_is
      ∙ ap (λ (b : Bool). Some b) (picked other its word value is old ∙ going) ∙ sym old

  pub over_picked : memory2 ≡ words_back base caches.log back2
  over_picked = over_by base memory2 caches.log caches.back back2 memory_size coherent.flags size2
      (λ word low. elim (cases_Bool (goes word)) [
        | inl going ↦
            inl (record {
              value = gone_value word low going;
              all = λ other its its_store. gone_flag other its word its_store.value (get_or caches.back other false) refl its_store.is going;
            })
        | inr staying ↦ inr (record {
          value = kept_value word low staying;
          same = λ other its its_store. kept_flag other its word its_store.value (get_or caches.back other false) refl its_store.is staying;
        })
      ])

-- ## One word

at_under : (caches : Caches) (word : ℕ) (owner : Owner) → IsDirtyUnder caches word owner → owner_at caches word ≡ Some owner
at_under caches word owner under = get_or_from_slice_get caches.owners word (Some owner) None under

module _ (base : List ℕ) (caches : Caches) (coherent : IsCoherent caches) (word : ℕ) (owner : Owner) (is : owner_at caches word ≡ Some owner) where
  picked_one : (other its at value : ℕ) → slice_get caches.log other ≡ Some (Store its at value) → slice_get caches.back other ≡ Some false → (eqb at word ≡ true) ⊎ (eqb at word ≡ false) → entry_is_of owner word caches.log other (Some (Store its at value)) ≡ eqb at word
  picked_one other its at value entry flag (inl hit) =
      let same = eqb-true at word hit in
      let under = coherent.waiting other its at (record { value = value; is = entry }) flag in
      let one : Owner = record { core = its; epoch = epoch_at caches.log its other } in
      let owner_is : Some one ≡ Some owner = sym (at_under caches at one under) ∙ ap (owner_at caches) same ∙ is in
      let both : one ≡ owner = cc in
      let core_is : its ≡ owner.core = ap (λ (o : Owner). o.core) both in
      let epoch_is : epoch_at caches.log its other ≡ owner.epoch = ap (λ (o : Owner). o.epoch) both in
      rw (hit, eq-eqb its owner.core core_is, eq-eqb (epoch_at caches.log its other) owner.epoch epoch_is) refl
  picked_one other its at value entry flag (inr miss) = rw miss refl

  written_by_over : memory_over base (written_by caches word owner) ≡ set (memory_over base caches) word (value_at base caches word)
  unfolding written_by
  written_by_over =
      let goes : ℕ → Bool = λ other. eqb other word in
      let memory = memory_over base caches in
      let memory2 = set memory word (value_at base caches word) in
      let size = length-words_back base caches.log caches.back in
      sym (over_picked base caches coherent goes (entry_is_of owner word caches.log) memory2
      (length-set memory word (value_at base caches word) ∙ size)
      (λ other low going. let same = eqb-true other word going in rw same (get_or-set_same memory word (value_at base caches word) 0 (omega arith)))
      (λ other low staying. get_or-set_other memory word other (value_at base caches word) 0 (eqb-false other word staying))
      (λ other its at value entry flag. picked_one other its at value entry flag (cases_Bool (eqb at word)))
      (λ other its at value entry going flag. refl))

pub written_over : (base : List ℕ) (caches : Caches) (word : ℕ) → IsCoherent caches → MayLeave caches word → memory_over base (with_back caches word) ≡ set (memory_over base caches) word (value_at base caches word)
written_over base caches word coherent may =
    let is = at_under caches word may.owner may.under in
    ap (λ (it : Option Owner). memory_over base (written_under caches word it)) is ∙ written_by_over base caches coherent word may.owner is

-- ## An entry more

pub entry_over : (base : List ℕ) (caches : Caches) (entry : Entry) → IsCoherent caches → memory_over base (logged caches entry) ≡ memory_over base caches
entry_over base caches entry coherent = pushed_back base caches.log caches.back entry coherent.flags

-- ## A word of which the stores so far are back

none_back : (log : List Entry) (back : List Bool) (now word : ℕ) → length back ≡ length log → ((place core : ℕ) → IsStore log place core word → slice_get back place ≡ Some false) → word_back now log back word ≡ now
none_back [] back now word size none = refl
none_back (entry ∷ log) [] now word size none = absurd (omega arith)
none_back (Load core at ∷ log) (flag ∷ back) now word size none = none_back log back now word (omega arith) (λ place its store. none (suc place) its (record { value = store.value; is = store.is }))
none_back (Barrier core ∷ log) (flag ∷ back) now word size none = none_back log back now word (omega arith) (λ place its store. none (suc place) its (record { value = store.value; is = store.is }))
none_back (Store core at value ∷ log) (false ∷ back) now word size none = none_back log back now word (omega arith) (λ place its store. none (suc place) its (record { value = store.value; is = store.is }))
none_back (Store core at value ∷ log) (true ∷ back) now word size none = elim (eqb_tells at word) [
  | inl same ↦
      let flag : Some true ≡ Some false = none 0 core (record { value = value; is = ap (λ n. Some (Store core n value)) same.1 }) in
      cc
  | inr differ ↦
      rw differ.0 (none_back log back now word (omega arith) (λ place its store. none (suc place) its (record { value = store.value; is = store.is })))
]

pub some_back : (log : List Entry) (back : List Bool) (now word first : ℕ) → length back ≡ length log → ((place core : ℕ) → IsStore log place core word → place < first → slice_get back place ≡ Some true) →
    ((place core : ℕ) → IsStore log place core word → first ≤ place → slice_get back place ≡ Some false) → word_back now log back word ≡ last_value now (take first log) word
some_back [] back now word zero size before following = refl
some_back [] back now word (suc first) size before following = refl
some_back (entry ∷ log) back now word zero size before following = none_back (entry ∷ log) back now word size (λ place core store. following place core store (omega arith))
some_back (entry ∷ log) [] now word (suc first) size before following = absurd (omega arith)
some_back (Load core at ∷ log) (flag ∷ back) now word (suc first) size before following =
    some_back log back now word first (omega arith) (λ place its store low. before (suc place) its (record { value = store.value; is = store.is }) (omega arith)) (λ place its store high. following (suc place) its (record { value = store.value; is = store.is }) (omega arith))
some_back (Barrier core ∷ log) (flag ∷ back) now word (suc first) size before following =
    some_back log back now word first (omega arith) (λ place its store low. before (suc place) its (record { value = store.value; is = store.is }) (omega arith)) (λ place its store high. following (suc place) its (record { value = store.value; is = store.is }) (omega arith))
some_back (Store core at value ∷ log) (true ∷ back) now word (suc first) size before following =
    some_back log back (cond (eqb at word) value now) word first (omega arith) (λ place its store low. before (suc place) its (record { value = store.value; is = store.is }) (omega arith)) (λ place its store high. following (suc place) its (record { value = store.value; is = store.is }) (omega arith))
some_back (Store core at value ∷ log) (false ∷ back) now word (suc first) size before following = elim (eqb_tells at word) [
  | inl same ↦
      let flag : Some false ≡ Some true = before 0 core (record { value = value; is = ap (λ n. Some (Store core n value)) same.1 }) (omega arith) in
      cc
  | inr differ ↦
      some_back log back now word first (omega arith) (λ place its store low. before (suc place) its (record { value = store.value; is = store.is }) (omega arith)) (λ place its store high. following (suc place) its (record { value = store.value; is = store.is }) (omega arith))
      ∙ ap (λ b. last_value (cond b value now) (take first log) word) (sym differ.0)
]
