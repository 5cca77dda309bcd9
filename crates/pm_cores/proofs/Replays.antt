-- The memory is the replay of the choice.
use Rattle.std.proofs.Common.{◌≡◌, ℕ, zero, suc, ◌+◌, ◌<◌, ◌≤◌, ◌⊎◌, inl, inr, Bool, true, false, cond, eqb, ltb, ◌&&◌, Option, Some, None, List, [], ◌∷◌, ◌++◌, length, get_or, set, take, refl, sym, ◌∙◌, ap, subst, arith, length-append, append-nil, append_assoc}
use Rattle.std.specs.List.{slice_get}
use Rattle.std.proofs.lemmas.Bool.{cases_Bool, cases_eq, eq-eqb, ne_eqb, eqb-true, and_right, and_parts}
use Rattle.std.proofs.lemmas.Option.{slice_get-get_or}
use Rattle.pm_epochs.specs.declared.event.Event.{Event}
use Rattle.pm_epochs.specs.declared.event.Event.TheVariants.{Store as Set, Barrier as Fence, CallEnd}
use Rattle.pm_epochs.specs.Log.{words_after, barriers, epoch_stores}
use Rattle.pm_epochs.specs.Replay.{IsRight, stores_of, replay}
use Rattle.pm_cores.specs.declared.entry.Entry.{Entry}
use Rattle.pm_cores.specs.declared.entry.Entry.TheVariants.{Load, Store, Barrier}
use Rattle.pm_cores.specs.declared.entry.Owner.{Owner}
use Rattle.pm_cores.specs.Log.{core_barriers, epoch_at, words_back, IsStore}
use Rattle.pm_cores.specs.Caches.{Caches, memory_over}
use Rattle.pm_cores.specs.Order.{IsCoherent}
use Rattle.pm_cores.specs.Choice.{first_epoch, dirty_epoch, flag_in, mask_to, cut_at}
use Rattle.pm_cores.specs.Played.{without_call_ends, done_by_first, IsPlayed}
use Rattle.pm_cores.proofs.Lists.{get_within}
use Rattle.pm_cores.proofs.Logs.{epoch_at-most, core_barriers-append}
use Rattle.pm_cores.proofs.Flags.{first_epoch_most, first_epoch_own}

-- ## Marks are nothing

stores_without_call_ends : (epoch : ℕ) (mask : List Bool) (events : List Event) → stores_of epoch mask (without_call_ends events) ≡ stores_of epoch mask events
stores_without_call_ends epoch mask [] = refl
stores_without_call_ends zero [] (Set word value ∷ events) = refl
stores_without_call_ends zero (true ∷ mask) (Set word value ∷ events) = ap (λ es. Set word value ∷ es) (stores_without_call_ends zero mask events)
stores_without_call_ends zero (false ∷ mask) (Set word value ∷ events) = stores_without_call_ends zero mask events
stores_without_call_ends (suc epoch) mask (Set word value ∷ events) = ap (λ es. Set word value ∷ es) (stores_without_call_ends (suc epoch) mask events)
stores_without_call_ends zero mask (Fence ∷ events) = refl
stores_without_call_ends (suc epoch) mask (Fence ∷ events) = stores_without_call_ends epoch mask events
stores_without_call_ends epoch mask (CallEnd ∷ events) = stores_without_call_ends epoch mask events

barriers_without_call_ends : (events : List Event) → barriers (without_call_ends events) ≡ barriers events
barriers_without_call_ends [] = refl
barriers_without_call_ends (Set word value ∷ events) = barriers_without_call_ends events
barriers_without_call_ends (Fence ∷ events) = ap suc (barriers_without_call_ends events)
barriers_without_call_ends (CallEnd ∷ events) = barriers_without_call_ends events

epoch_without_call_ends : (epoch : ℕ) (events : List Event) → epoch_stores epoch (without_call_ends events) ≡ epoch_stores epoch events
epoch_without_call_ends epoch [] = refl
epoch_without_call_ends zero (Set word value ∷ events) = ap suc (epoch_without_call_ends zero events)
epoch_without_call_ends (suc epoch) (Set word value ∷ events) = epoch_without_call_ends (suc epoch) events
epoch_without_call_ends zero (Fence ∷ events) = refl
epoch_without_call_ends (suc epoch) (Fence ∷ events) = epoch_without_call_ends epoch events
epoch_without_call_ends epoch (CallEnd ∷ events) = epoch_without_call_ends epoch events

-- ## The mask, from the prefix

abbrev mask_seen : ℕ → ℕ → List Entry → List Bool → List Bool
mask_seen epoch seen [] back = []
mask_seen epoch seen (entry ∷ log) [] = []
mask_seen epoch seen (Load core word ∷ log) (flag ∷ back) = mask_seen epoch seen log back
mask_seen epoch seen (Store core word value ∷ log) (flag ∷ back) = cond (eqb core 0 && eqb seen epoch) (flag ∷ []) [] ++ mask_seen epoch seen log back
mask_seen epoch seen (Barrier core ∷ log) (flag ∷ back) = mask_seen epoch (seen + cond (eqb core 0) 1 0) log back

get_seam : {A : Type 0} (prefix : List A) (x : A) (rest : List A) → slice_get (prefix ++ x ∷ rest) (length prefix) ≡ Some x
get_seam [] x rest = refl
get_seam (y ∷ prefix) x rest = get_seam prefix x rest

flag_seam : (prefix : List Bool) (x : Bool) (rest : List Bool) → get_or (prefix ++ x ∷ rest) (length prefix) false ≡ x
flag_seam [] x rest = refl
flag_seam (y ∷ prefix) x rest = flag_seam prefix x rest

take_seam : {A : Type 0} (prefix rest : List A) → take (length prefix) (prefix ++ rest) ≡ prefix
take_seam [] [] = refl
take_seam [] (x ∷ rest) = refl
take_seam (y ∷ prefix) rest = ap (λ xs. y ∷ xs) (take_seam prefix rest)

mask_by_prefix : (epoch : ℕ) (prefix rest : List Entry) (prefixes rests : List Bool) → length prefixes ≡ length prefix → length rests ≡ length rest →
    mask_to 0 epoch (prefix ++ rest) (prefixes ++ rests) (length (prefix ++ rest)) ≡ mask_to 0 epoch (prefix ++ rest) (prefixes ++ rests) (length prefix) ++ mask_seen epoch (core_barriers 0 prefix) rest rests
mask_by_prefix epoch prefix [] prefixes rests same sizes =
    let size : length (prefix ++ []) ≡ length prefix = ap length (append-nil prefix) in
    ap (mask_to 0 epoch (prefix ++ []) (prefixes ++ rests)) size ∙ sym (append-nil (mask_to 0 epoch (prefix ++ []) (prefixes ++ rests) (length prefix)))
mask_by_prefix epoch prefix (entry ∷ rest) prefixes [] same sizes = absurd (omega arith)
mask_by_prefix epoch prefix (entry ∷ rest) prefixes (flag ∷ rests) same sizes =
    let log : List Entry = prefix ++ entry ∷ rest in
    let back : List Bool = prefixes ++ flag ∷ rests in
    let again : List Entry = (prefix ++ entry ∷ []) ++ rest in
    let flags : List Bool = (prefixes ++ flag ∷ []) ++ rests in
    let log_is : (prefix ++ entry ∷ []) ++ rest ≡ prefix ++ entry ∷ rest = append_assoc prefix (entry ∷ []) rest in
    let back_is : (prefixes ++ flag ∷ []) ++ rests ≡ prefixes ++ flag ∷ rests = append_assoc prefixes (flag ∷ []) rests in
    let longer : length (prefix ++ entry ∷ []) ≡ suc (length prefix) = omega (arith, length-append prefix (entry ∷ [])) in
    let longers : length (prefixes ++ flag ∷ []) ≡ length (prefix ++ entry ∷ []) = omega (arith, length-append prefix (entry ∷ []), length-append prefixes (flag ∷ [])) in
    let later = mask_by_prefix epoch (prefix ++ entry ∷ []) rest (prefixes ++ flag ∷ []) rests longers (omega arith) in
    let seen = mask_seen epoch (core_barriers 0 (prefix ++ entry ∷ [])) rest rests in
    let later_is : mask_to 0 epoch log back (length log) ≡ mask_to 0 epoch log back (suc (length prefix)) ++ seen =
    subst (λ (l : List Entry). mask_to 0 epoch l back (length l) ≡ mask_to 0 epoch l back (suc (length prefix)) ++ seen) log_is
    (subst (λ (b : List Bool). mask_to 0 epoch again b (length again) ≡ mask_to 0 epoch again b (suc (length prefix)) ++ seen) back_is
    (subst (λ n. mask_to 0 epoch again flags (length again) ≡ mask_to 0 epoch again flags n ++ seen) longer later)) in
    let here : flag_in 0 epoch log back (length prefix) (slice_get log (length prefix)) ≡ flag_in 0 epoch log back (length prefix) (Some entry) = ap (flag_in 0 epoch log back (length prefix)) (get_seam prefix entry rest) in
    let flag_is : get_or back (length prefix) false ≡ flag = ap (λ n. get_or back n false) (sym same) ∙ flag_seam prefixes flag rests in
    later_is ∙ ap (λ (bs : List Bool). (mask_to 0 epoch log back (length prefix) ++ bs) ++ seen) here
    ∙ append_assoc (mask_to 0 epoch log back (length prefix)) (flag_in 0 epoch log back (length prefix) (Some entry)) seen
    ∙ ap (λ (bs : List Bool). mask_to 0 epoch log back (length prefix) ++ bs) (one entry flag_is)
  where
    one : (it : Entry) → get_or (prefixes ++ flag ∷ rests) (length prefix) false ≡ flag →
        flag_in 0 epoch (prefix ++ entry ∷ rest) (prefixes ++ flag ∷ rests) (length prefix) (Some it) ++ mask_seen epoch (core_barriers 0 (prefix ++ it ∷ [])) rest rests ≡ mask_seen epoch (core_barriers 0 prefix) (it ∷ rest) (flag ∷ rests)
    one (Load core word) flag_is = ap (λ n. mask_seen epoch n rest rests) (core_barriers-append 0 prefix (Load core word ∷ []) ∙ omega arith)
    one (Barrier core) flag_is = ap (λ n. mask_seen epoch n rest rests) (core_barriers-append 0 prefix (Barrier core ∷ []) ∙ omega arith)
    one (Store core word value) flag_is =
        let seen_is : core_barriers 0 (prefix ++ Store core word value ∷ []) ≡ core_barriers 0 prefix = core_barriers-append 0 prefix (Store core word value ∷ []) ∙ omega arith in
        ap (λ n. flag_in 0 epoch (prefix ++ entry ∷ rest) (prefixes ++ flag ∷ rests) (length prefix) (Some (Store core word value)) ++ mask_seen epoch n rest rests) seen_is
        ∙ ap (λ (bs : List Bool). bs ++ mask_seen epoch (core_barriers 0 prefix) rest rests) (store_flag core)
      where
        store_flag : (core : ℕ) → cond (eqb core 0 && eqb (epoch_at (prefix ++ entry ∷ rest) core (length prefix)) epoch) (get_or (prefixes ++ flag ∷ rests) (length prefix) false ∷ []) [] ≡ cond (eqb core 0 && eqb (core_barriers 0 prefix) epoch) (flag ∷ []) []
        store_flag core = elim (cases_eq core 0) [
          | inl same_core ↦ rw (flag_is, same_core, take_seam prefix (entry ∷ rest)) refl
          | inr differ ↦ rw (ne_eqb core 0 differ) refl
        ]

pub mask_is_seen : (epoch : ℕ) (log : List Entry) (back : List Bool) → length back ≡ length log → mask_to 0 epoch log back (length log) ≡ mask_seen epoch 0 log back
mask_is_seen epoch log back same = mask_by_prefix epoch [] log [] back refl same

-- ## The stores that are kept

module _ (epoch : ℕ) where
  record Fits (left : ℕ) (log : List Entry) (back : List Bool) : Type 0 where
    size : length back ≡ length log
    alone : (place core word : ℕ) → IsStore log place core word → core ≡ 0
    before : (place word : ℕ) → IsStore log place 0 word → epoch_at log 0 place < left → slice_get back place ≡ Some true
    following : (place word : ℕ) → IsStore log place 0 word → left < epoch_at log 0 place → slice_get back place ≡ Some false

  none_back : (log : List Entry) (back : List Bool) (words : List ℕ) → length back ≡ length log
      → ((place core word : ℕ) → IsStore log place core word → slice_get back place ≡ Some false) → words_back words log back ≡ words
  none_back [] back words size none = refl
  none_back (entry ∷ log) [] words size none = absurd (omega arith)
  none_back (Load core word ∷ log) (flag ∷ back) words size none = none_back log back words (omega arith) (λ place its at store. none (suc place) its at (record { value = store.value; is = store.is }))
  none_back (Barrier core ∷ log) (flag ∷ back) words size none = none_back log back words (omega arith) (λ place its at store. none (suc place) its at (record { value = store.value; is = store.is }))
  none_back (Store core word value ∷ log) (false ∷ back) words size none = none_back log back words (omega arith) (λ place its at store. none (suc place) its at (record { value = store.value; is = store.is }))
  none_back (Store core word value ∷ log) (true ∷ back) words size none =
      let flag : Some true ≡ Some false = none 0 core word (record { value = value; is = refl }) in
      cc

  -- what is after an entry that takes some epochs
  later_fits : (left next some : ℕ) (entry : Entry) (log : List Entry) (flag : Bool) (back : List Bool)
      → ((es : List Entry) → core_barriers 0 (entry ∷ es) ≡ some + core_barriers 0 es) → some + next ≡ left
      → Fits left (entry ∷ log) (flag ∷ back) → Fits next log back
  later_fits left next some entry log flag back takes sum fits = record {
    size = omega (arith, fits.size);
    alone = λ place its at store. fits.alone (suc place) its at (record { value = store.value; is = store.is });
    before = λ place at store low. fits.before (suc place) at (record { value = store.value; is = store.is }) (omega (arith, takes (take place log)));
    following = λ place at store high. fits.following (suc place) at (record { value = store.value; is = store.is }) (omega (arith, takes (take place log)));
  }

  barrier_fits : (left next core : ℕ) (log : List Entry) (flag : Bool) (back : List Bool) → cond (eqb core 0) 1 0 + next ≡ left → Fits left (Barrier core ∷ log) (flag ∷ back) → Fits next log back
  barrier_fits left next core log flag back = later_fits left next (cond (eqb core 0) 1 0) (Barrier core) log flag back (λ es. refl)

  -- the words that are back are those that a crash keeps
  abbrev AreKept : ℕ → ℕ → List Entry → List Bool → List ℕ → Type 0
  AreKept left seen log back words = words_back words log back ≡ words_after words (stores_of left (mask_seen epoch seen log back) (done_by_first log))

  kept : (left seen : ℕ) (log : List Entry) (back : List Bool) (words : List ℕ) → seen + left ≡ epoch → Fits left log back → AreKept left seen log back words
  kept left seen [] back words sum fits = refl
  kept left seen (entry ∷ log) [] words sum fits = let size = fits.size in absurd (omega arith)
  kept left seen (Load core word ∷ log) (flag ∷ back) words sum fits =
      kept left seen log back words sum (later_fits left left 0 (Load core word) log flag back (λ es. omega arith) (omega arith) fits)
  kept left seen (Barrier core ∷ log) (flag ∷ back) words sum fits = elim (cases_Bool (eqb core 0)) [
    | inr other ↦
        rw other (kept left (seen + 0) log back words (omega arith) (barrier_fits left left core log flag back (rw other (omega arith)) fits))
    | inl own ↦ rw own (fence left sum fits own (λ next total its. kept next (seen + 1) log back words total its))
  ]
    where
      fence : (left : ℕ) → seen + left ≡ epoch → Fits left (Barrier core ∷ log) (flag ∷ back) → eqb core 0 ≡ true
          → ((next : ℕ) → (seen + 1) + next ≡ epoch → Fits next log back → AreKept next (seen + 1) log back words)
          → words_back words log back ≡ words_after words (stores_of left (mask_seen epoch (seen + 1) log back) (Fence ∷ done_by_first log))
      fence zero sum fits own rest =
          none_back log back words (let size = fits.size in omega arith)
          (λ place its at store.
          let first = fits.alone (suc place) its at (record { value = store.value; is = store.is }) in
          let here : IsStore (Barrier core ∷ log) (suc place) 0 at = record { value = store.value; is = store.is ∙ ap (λ n. Some (Store n at store.value)) first } in
          fits.following (suc place) at here (rw own (omega arith)))
      fence (suc left) sum fits own rest = rest left (omega arith) (barrier_fits (suc left) left core log flag back (rw own (omega arith)) fits)
  kept left seen (Store core word value ∷ log) (flag ∷ back) words sum fits =
      let first : core ≡ 0 = fits.alone 0 core word (record { value = value; is = refl }) in
      let own : eqb core 0 ≡ true = eq-eqb core 0 first in
      let later = later_fits left left 0 (Store core word value) log flag back (λ es. omega arith) (omega arith) fits in
      rw own (one left flag sum fits first (λ now. kept left seen log back now sum later))
    where
      one : (left : ℕ) (flag : Bool) → seen + left ≡ epoch → Fits left (Store core word value ∷ log) (flag ∷ back) → core ≡ 0
          → ((now : List ℕ) → AreKept left seen log back now)
          → words_back words (Store core word value ∷ log) (flag ∷ back)
          ≡ words_after words
          (stores_of left (cond (true && eqb seen epoch) (flag ∷ []) [] ++ mask_seen epoch seen log back) (Set word value ∷ done_by_first log))
      one zero true sum fits first rest = rw (eq-eqb seen epoch (omega arith)) (rest (set words word value))
      one zero false sum fits first rest = rw (eq-eqb seen epoch (omega arith)) (rest words)
      one (suc left) true sum fits first rest = rw (ne_eqb seen epoch (λ e. omega arith)) (rest (set words word value))
      one (suc left) false sum fits first rest =
          let flag_is : Some false ≡ Some true = fits.before 0 word (record { value = value; is = ap (λ n. Some (Store n word value)) first }) (omega arith) in
          cc

  -- there are no more flags than stores of the epoch
  abbrev AreFew : ℕ → ℕ → List Entry → List Bool → Type 0
  AreFew left seen log back = length (mask_seen epoch seen log back) ≤ epoch_stores left (done_by_first log)

  few : (left seen : ℕ) (log : List Entry) (back : List Bool) → seen + left ≡ epoch → AreFew left seen log back
  few left seen [] back sum = omega arith
  few left seen (entry ∷ log) [] sum = omega arith
  few left seen (Load core word ∷ log) (flag ∷ back) sum = few left seen log back sum
  few left seen (Barrier core ∷ log) (flag ∷ back) sum = elim (cases_Bool (eqb core 0)) [
    | inr other ↦ rw other (few left (seen + 0) log back (omega arith))
    | inl own ↦ rw own (fence left sum (λ next total. few next (seen + 1) log back total))
  ]
    where
      past : (seen : ℕ) (log : List Entry) (back : List Bool) → epoch < seen → mask_seen epoch seen log back ≡ []
      past seen [] back high = refl
      past seen (entry ∷ log) [] high = refl
      past seen (Load core word ∷ log) (flag ∷ back) high = past seen log back high
      past seen (Barrier core ∷ log) (flag ∷ back) high = past (seen + cond (eqb core 0) 1 0) log back (omega arith)
      past seen (Store core word value ∷ log) (flag ∷ back) high = rw (and_right (eqb core 0) (eqb seen epoch) (ne_eqb seen epoch (λ e. omega arith))) (past seen log back high)

      fence : (left : ℕ) → seen + left ≡ epoch → ((next : ℕ) → (seen + 1) + next ≡ epoch → AreFew next (seen + 1) log back)
          → length (mask_seen epoch (seen + 1) log back) ≤ epoch_stores left (Fence ∷ done_by_first log)
      fence zero sum rest = rw (past (seen + 1) log back (omega arith)) (omega arith)
      fence (suc left) sum rest = rest left (omega arith)
  few left seen (Store core word value ∷ log) (flag ∷ back) sum = elim (cases_Bool (eqb core 0)) [
    | inr other ↦ rw other (few left seen log back sum)
    | inl own ↦ rw own (one left sum (λ next total. few next seen log back total))
  ]
    where
      one : (left : ℕ) → seen + left ≡ epoch → ((next : ℕ) → seen + next ≡ epoch → AreFew next seen log back)
          → length (cond (true && eqb seen epoch) (flag ∷ []) [] ++ mask_seen epoch seen log back) ≤ epoch_stores left (Set word value ∷ done_by_first log)
      one zero sum rest = rw (eq-eqb seen epoch (omega arith)) (let most = rest zero sum in omega arith)
      one (suc left) sum rest = rw (ne_eqb seen epoch (λ e. omega arith)) (rest (suc left) sum)

done_barriers : (log : List Entry) → barriers (done_by_first log) ≡ core_barriers 0 log
done_barriers [] = refl
done_barriers (Load core word ∷ log) = done_barriers log
done_barriers (Store core word value ∷ log) = elim (cases_Bool (eqb core 0)) [ inl own ↦ rw own (done_barriers log) | inr other ↦ rw other (done_barriers log) ]
done_barriers (Barrier core ∷ log) = let rest = done_barriers log in elim (cases_Bool (eqb core 0)) [ inl own ↦ rw own (omega arith) | inr other ↦ rw other (omega arith) ]

-- ## The choice

record IsAttained (core otherwise : ℕ) (owners : List (Option Owner)) (epoch : ℕ) : Type 0 where
  word : ℕ
  owner : Owner
  under : slice_get owners word ≡ Some (Some owner)
  same : owner.core ≡ core
  is : owner.epoch ≡ epoch

attained : (core otherwise : ℕ) (owners : List (Option Owner)) → (first_epoch core otherwise owners ≡ otherwise) ⊎ IsAttained core otherwise owners (first_epoch core otherwise owners)
attained core otherwise [] = inl refl
attained core otherwise (None ∷ owners) = elim (attained core otherwise owners) [
  | inl same ↦ inl same
  | inr at ↦ inr (record { word = suc at.word; owner = at.owner; under = at.under; same = at.same; is = at.is })
]
attained core otherwise (Some first ∷ owners) = elim (cases_Bool (eqb first.core core && ltb first.epoch otherwise)) [
  | inl hit ↦ elim (attained core first.epoch owners) [
    | inl same ↦
        let parts = and_parts (eqb first.core core) (ltb first.epoch otherwise) hit in
        inr (rw hit (record { word = 0; owner = first; under = refl; same = eqb-true first.core core parts.0; is = sym same }))
    | inr at ↦ inr (rw hit (record { word = suc at.word; owner = at.owner; under = at.under; same = at.same; is = at.is }))
  ]
  | inr miss ↦ elim (attained core otherwise owners) [
    | inl same ↦ inl (rw miss same)
    | inr at ↦ inr (rw miss (record { word = suc at.word; owner = at.owner; under = at.under; same = at.same; is = at.is }))
  ]
]

module _ (caches : Caches) (coherent : IsCoherent caches) where
  flag_of : (place core word : ℕ) → IsStore caches.log place core word → slice_get caches.back place ≡ Some (get_or caches.back place false)
  flag_of place core word store =
      let low : place < length caches.log = get_within caches.log place (Store core word store.value) store.is in
      let size = coherent.flags in
      slice_get-get_or caches.back place false (omega arith)

  before_is : (place word : ℕ) → IsStore caches.log place 0 word → epoch_at caches.log 0 place < dirty_epoch 0 caches → (flag : Bool) → get_or caches.back place false ≡ flag → slice_get caches.back place ≡ Some true
  before_is place word store low true is = flag_of place 0 word store ∙ ap (λ (b : Bool). Some b) is
  before_is place word store low false is =
      let under = coherent.waiting place 0 word store (flag_of place 0 word store ∙ ap (λ (b : Bool). Some b) is) in
      let own = first_epoch_own 0 (core_barriers 0 caches.log) caches.owners word (record { core = 0; epoch = epoch_at caches.log 0 place }) under refl in
      absurd (omega arith)

  after_is : (place word : ℕ) → IsStore caches.log place 0 word → dirty_epoch 0 caches < epoch_at caches.log 0 place → (flag : Bool) → get_or caches.back place false ≡ flag → slice_get caches.back place ≡ Some false
  after_is place word store high false is = flag_of place 0 word store ∙ ap (λ (b : Bool). Some b) is
  after_is place word store high true is = elim (attained 0 (core_barriers 0 caches.log) caches.owners) [
    | inl same ↦ let most = epoch_at-most caches.log 0 place in absurd (omega arith)
    | inr at ↦
        let its = coherent.dirty at.word at.owner at.under in
        let its_store = subst (λ c. IsStore caches.log its.0 c at.word) at.same its.1 in
        let its_epoch = ap (λ c. epoch_at caches.log c its.0) at.same in
        let epoch_is = its.2 in
        let epoch = at.is in
        let back = coherent.epochs its.0 0 at.word place word its_store store (omega arith) (flag_of place 0 word store ∙ ap (λ (b : Bool). Some b) is) in
        let not : Some true ≡ Some false = sym back ∙ its.3 in
        cc
  ]

  module _ (events : List Event) (moment : ℕ) (within : moment ≤ length events) (played : IsPlayed (take moment events) caches.log) where
    fits : Fits (dirty_epoch 0 caches) (dirty_epoch 0 caches) caches.log caches.back
    fits = record {
      size = coherent.flags;
      alone = played.alone;
      before = λ place word store low. before_is place word store low (get_or caches.back place false) refl;
      following = λ place word store high. after_is place word store high (get_or caches.back place false) refl;
    }

    pub choice_right : IsRight events (cut_at caches moment)
    choice_right = record {
      moment = within;
      epoch =
          let most = first_epoch_most 0 (core_barriers 0 caches.log) caches.owners in
          let same = done_barriers caches.log in
          let by = ap barriers played.same in
          let call_ends = barriers_without_call_ends (take moment events) in
          omega arith;
      mask =
          let most = few (dirty_epoch 0 caches) (dirty_epoch 0 caches) 0 caches.log caches.back (omega arith) in
          let size = ap length (mask_is_seen (dirty_epoch 0 caches) caches.log caches.back coherent.flags) in
          let by = ap (epoch_stores (dirty_epoch 0 caches)) played.same in
          let call_ends = epoch_without_call_ends (dirty_epoch 0 caches) (take moment events) in
          omega arith;
    }

    pub choice_replays : (base : List ℕ) → replay base events (cut_at caches moment) ≡ memory_over base caches
    choice_replays base =
        let mask = mask_to 0 (dirty_epoch 0 caches) caches.log caches.back (length caches.log) in
        let stays : words_back base caches.log caches.back ≡ words_after base (stores_of (dirty_epoch 0 caches) (mask_seen (dirty_epoch 0 caches) 0 caches.log caches.back) (done_by_first caches.log)) =
        kept (dirty_epoch 0 caches) (dirty_epoch 0 caches) 0 caches.log caches.back base (omega arith) fits in
        sym (stays
        ∙ ap (λ (m : List Bool). words_after base (stores_of (dirty_epoch 0 caches) m (done_by_first caches.log))) (sym (mask_is_seen (dirty_epoch 0 caches) caches.log caches.back coherent.flags))
        ∙ ap (λ (es : List Event). words_after base (stores_of (dirty_epoch 0 caches) mask es)) (sym played.same)
        ∙ ap (words_after base) (stores_without_call_ends (dirty_epoch 0 caches) mask (take moment events)))
