-- Which stores the numbers report.
use Rattle.std.proofs.Common.{◌≡◌, ℕ, zero, suc, ◌<◌, ◌≤◌, inl, inr, not, cond, Some, List, [], ◌∷◌, ◌++◌, length, get_or, set, take, replicate, refl, sym, ◌∙◌, ap, arith, length-append}
use Rattle.std.specs.List.{slice_get}
use Rattle.std.proofs.lemmas.Bool.{lt-leb, le-leb, ne_eqb, eq-eqb}
use Rattle.std.proofs.lemmas.List.{length-set, length-replicate}
use Rattle.std.proofs.lemmas.List.FromFn.{length-map-range_with_len}
use Rattle.pm_cores.specs.declared.entry.Entry.{Entry}
use Rattle.pm_cores.specs.declared.entry.Entry.TheVariants.{Store}
use Rattle.pm_cores.specs.Log.{last_value, words_back, IsStore}
use Rattle.pm_cores.specs.Inside.{waits_at, entry_is_back, flags_of, stored_by, recorded_by, AreSound, AreRecorded}
use Rattle.pm_cores.proofs.Lists.{get_pushed, get_pushed_old, get_pushed_new, get_before, get_within, index_before, index_new, set_either}
use Rattle.pm_cores.proofs.Logs.{IsNoStore, last_value-other, last_value-stored}
use Rattle.pm_cores.proofs.Cleaning.{zero_at}
use Rattle.pm_cores.proofs.Coherent.{flag_store}
use Rattle.pm_cores.proofs.Over.{all_back, some_back, get-words_back}

recorded_pushed : (log : List Entry) (entry : Entry) (number now : ℕ) → number ≤ length log → recorded_by (log ++ entry ∷ []) number now ≡ recorded_by log number now
recorded_pushed log entry zero now low = refl
recorded_pushed log entry (suc place) now low = ap (λ it. stored_by it now) (get_before log entry place (omega arith))

take_pushed : (log : List Entry) (entry : Entry) (place : ℕ) → place ≤ length log → take place (log ++ entry ∷ []) ≡ take place log
take_pushed [] entry zero low = refl
take_pushed [] entry (suc place) low = absurd (omega arith)
take_pushed (first ∷ log) entry zero low = refl
take_pushed (first ∷ log) entry (suc place) low = ap (λ (es : List Entry). first ∷ es) (take_pushed log entry place (omega arith))

take_all : (log : List Entry) → take (length log) log ≡ log
take_all [] = refl
take_all (first ∷ log) = ap (λ (es : List Entry). first ∷ es) (take_all log)

-- nothing done
pub fresh_recorded : (words : ℕ) → AreRecorded words (replicate words 0) [] []
fresh_recorded words = record {
  as_many_lasts = length-replicate words 0;
  as_many_befores = refl;
  store = λ word last is. let nothing : 0 ≡ suc last = sym (zero_at words word) ∙ is in cc;
  last = λ word now. sym (ap (λ n. recorded_by [] n now) (zero_at words word));
  within = λ place core word store. let is = store.is in cc;
  before = λ place core word now store. let is = store.is in cc;
}

module _ (words : ℕ) (lasts : List ℕ) (log : List Entry) (befores : List ℕ) (recorded : AreRecorded words lasts log befores) where
  pub last_within : (word : ℕ) → get_or lasts word 0 ≤ length log
  last_within word = at (get_or lasts word 0) refl
    where
      at : (number : ℕ) → get_or lasts word 0 ≡ number → get_or lasts word 0 ≤ length log
      at zero is = omega arith
      at (suc last) is =
          let store = recorded.store word last is in
          let low = get_within log last (Store store.0 word store.1.value) store.1.is in
          omega arith

  module _ (entry : Entry) (number : ℕ) where
    abbrev log2 : List Entry
    log2 = log ++ entry ∷ []

    abbrev befores2 : List ℕ
    befores2 = befores ++ number ∷ []

    as_many : length befores2 ≡ length log2
    as_many = let size = recorded.as_many_befores in omega (arith, length-append befores (number ∷ []), length-append log (entry ∷ []))

    old_within : (place core word : ℕ) → IsStore log place core word → get_or befores2 place 0 ≤ place
    old_within place core word store =
        let low = get_within log place (Store core word store.value) store.is in
        let size = recorded.as_many_befores in
        let is = index_before befores number place (omega arith) in
        let within = recorded.within place core word store in
        omega arith

    old_before : (place core word now : ℕ) → IsStore log place core word → last_value now (take place log2) word ≡ recorded_by log2 (get_or befores2 place 0) now
    old_before place core word now store =
        let low = get_within log place (Store core word store.value) store.is in
        let size = recorded.as_many_befores in
        let is = index_before befores number place (omega arith) in
        let within = recorded.within place core word store in
        ap (λ (es : List Entry). last_value now es word) (take_pushed log entry place (omega arith))
        ∙ recorded.before place core word now store
        ∙ sym (recorded_pushed log entry (get_or befores place 0) now (omega arith))
        ∙ ap (λ n. recorded_by log2 n now) (sym is)

    old_store : (word last : ℕ) → get_or lasts word 0 ≡ suc last → (core : ℕ) × IsStore log2 last core word
    old_store word last is =
        let store = recorded.store word last is in
        (store.0, record { value = store.1.value; is = get_pushed_old log entry last (Store store.0 word store.1.value) store.1.is })

  pub pushed_recorded : (entry : Entry) → IsNoStore entry → AreRecorded words lasts (log ++ entry ∷ []) (befores ++ 0 ∷ [])
  pushed_recorded entry none = record {
    as_many_lasts = recorded.as_many_lasts;
    as_many_befores = as_many entry 0;
    store = old_store entry 0;
    last = λ word now. last_value-other log entry none now word ∙ recorded.last word now ∙ sym (recorded_pushed log entry (get_or lasts word 0) now (last_within word));
    within = λ place core word store. old_within entry 0 place core word (was_store place core word store);
    before = λ place core word now store. old_before entry 0 place core word now (was_store place core word store);
  }
    where
      was_store : (place core word : ℕ) → IsStore (log ++ entry ∷ []) place core word → IsStore log place core word
      was_store place core word store = elim (get_pushed log entry place (Store core word store.value) store.is) [
        | inl old ↦ record { value = store.value; is = old }
        | inr new ↦ absurd (none core word store.value new.1)
      ]

  module _ (core word value number : ℕ) (low : word < words) (number_is : number ≡ suc (length log)) where
    abbrev set_to : Entry
    set_to = Store core word value

    in_lasts : word < length lasts
    in_lasts = let size = recorded.as_many_lasts in omega arith

    store_at : (other last : ℕ) → get_or (set lasts word number) other 0 ≡ suc last → (its : ℕ) × IsStore (log ++ set_to ∷ []) last its other
    store_at other last is = elim (set_either lasts word number other in_lasts) [
      | inl same ↦
          let at : last ≡ length log = let e : number ≡ suc last = sym same.1 ∙ is in omega arith in
          (core, record { value = value; is = ap (slice_get (log ++ set_to ∷ [])) at ∙ get_pushed_new log set_to ∙ ap (λ n. Some (Store core n value)) (sym same.0) })
      | inr differ ↦ old_store set_to (get_or lasts word 0) other last (sym differ.1 ∙ is)
    ]

    last_at : (other now : ℕ) → last_value now (log ++ set_to ∷ []) other ≡ recorded_by (log ++ set_to ∷ []) (get_or (set lasts word number) other 0) now
    last_at other now = elim (set_either lasts word number other in_lasts) [
      | inl same ↦
          last_value-stored log core word value now other ∙ ap (λ b. cond b value (last_value now log other)) (eq-eqb word other (sym same.0))
          ∙ sym (ap (λ n. recorded_by (log ++ set_to ∷ []) n now) (same.1 ∙ number_is) ∙ ap (λ it. stored_by it now) (get_pushed_new log set_to))
      | inr differ ↦
          last_value-stored log core word value now other ∙ ap (λ b. cond b value (last_value now log other)) (ne_eqb word other (λ e. differ.0 (sym e))) ∙ recorded.last other now
          ∙ sym (recorded_pushed log set_to (get_or lasts other 0) now (last_within other)) ∙ ap (λ n. recorded_by (log ++ set_to ∷ []) n now) (sym differ.1)
    ]

    within_at : (place its other : ℕ) → IsStore (log ++ set_to ∷ []) place its other → get_or (befores ++ get_or lasts word 0 ∷ []) place 0 ≤ place
    within_at place its other store = elim (get_pushed log set_to place (Store its other store.value) store.is) [
      | inl old ↦ old_within set_to (get_or lasts word 0) place its other (record { value = store.value; is = old })
      | inr new ↦
          let at : place ≡ length befores = new.0 ∙ sym recorded.as_many_befores in
          let here : get_or (befores ++ get_or lasts word 0 ∷ []) place 0 ≡ get_or lasts word 0 = ap (λ n. get_or (befores ++ get_or lasts word 0 ∷ []) n 0) at ∙ index_new befores (get_or lasts word 0) in
          let most = last_within word in
          let place_is = new.0 in
          omega arith
    ]

    before_at : (place its other now : ℕ) → IsStore (log ++ set_to ∷ []) place its other → last_value now (take place (log ++ set_to ∷ [])) other ≡ recorded_by (log ++ set_to ∷ []) (get_or (befores ++ get_or lasts word 0 ∷ []) place 0) now
    before_at place its other now store = elim (get_pushed log set_to place (Store its other store.value) store.is) [
      | inl old ↦ old_before set_to (get_or lasts word 0) place its other now (record { value = store.value; is = old })
      | inr new ↦
          let at : place ≡ length befores = new.0 ∙ sym recorded.as_many_befores in
          let here : get_or (befores ++ get_or lasts word 0 ∷ []) place 0 ≡ get_or lasts word 0 = ap (λ n. get_or (befores ++ get_or lasts word 0 ∷ []) n 0) at ∙ index_new befores (get_or lasts word 0) in
          let same : Store core word value ≡ Store its other store.value = new.1 in
          let word_is : other ≡ word = cc in
          let place_is = new.0 in
          ap (λ (es : List Entry). last_value now es other) (take_pushed log set_to place (omega arith) ∙ ap (λ n. take n log) place_is ∙ take_all log)
          ∙ recorded.last other now ∙ ap (λ n. recorded_by log (get_or lasts n 0) now) word_is
          ∙ sym (recorded_pushed log set_to (get_or lasts word 0) now (last_within word))
          ∙ ap (λ n. recorded_by (log ++ set_to ∷ []) n now) (sym here)
    ]

    pub stored_recorded : AreRecorded words (set lasts word number) (log ++ Store core word value ∷ []) (befores ++ get_or lasts word 0 ∷ [])
    stored_recorded = record {
      as_many_lasts = length-set lasts word number ∙ recorded.as_many_lasts;
      as_many_befores = as_many set_to (get_or lasts word 0);
      store = store_at;
      last = last_at;
      within = within_at;
      before = before_at;
    }

  -- the last store that is back
  module _ (since epochs : List ℕ) (sound : AreSound words since log epochs) (base : List ℕ) (word : ℕ) (low : word < length base) where
    flags_size : length (flags_of since log) ≡ length log
    flags_size = length-map-range_with_len (λ at. entry_is_back since at (slice_get log at)) 0 (length log)

    abbrev now : ℕ
    now = get_or base word 0

    flag_of : (place core : ℕ) → IsStore log place core word → slice_get (flags_of since log) place ≡ Some (not (waits_at (get_or since word 0) place))
    flag_of place core store = flag_store 0 words since log epochs 0 sound place core word store

    pub back_clean : get_or since word 0 ≡ 0 → recorded_by log (get_or lasts word 0) (get_or base word 0) ≡ get_or (words_back base log (flags_of since log)) word 0
    back_clean is =
        sym (recorded.last word now)
        ∙ sym (all_back log (flags_of since log) now word flags_size (λ place core store. flag_of place core store ∙ ap (λ n. Some (not (waits_at n place))) is))
        ∙ sym (get-words_back base log (flags_of since log) word low)

    pub back_dirty : (first : ℕ) → get_or since word 0 ≡ suc first → recorded_by log (get_or befores first 0) (get_or base word 0) ≡ get_or (words_back base log (flags_of since log)) word 0
    back_dirty first is =
        let store = sound.first word first is in
        sym (recorded.before first store.0 word now store.1)
        ∙ sym (some_back log (flags_of since log) now word first flags_size
        (λ place core at early. flag_of place core at ∙ ap (λ n. Some (not (waits_at n place))) is ∙ ap (λ b. Some (not b)) (lt-leb first place early))
        (λ place core at late. flag_of place core at ∙ ap (λ n. Some (not (waits_at n place))) is ∙ ap (λ b. Some (not b)) (le-leb first place late)))
        ∙ sym (get-words_back base log (flags_of since log) word low)
