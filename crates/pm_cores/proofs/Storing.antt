-- A core sets a word.
use Rattle.std.proofs.Common.{◌≡◌, ◌≢◌, ℕ, zero, suc, ◌<◌, ◌≤◌, ◌⊎◌, inl, inr, true, Some, List, [], ◌∷◌, ◌++◌, length, get_or, refl, sym, ◌∙◌, ap, arith, length-append}
use Rattle.std.specs.List.{slice_get}
use Rattle.std.proofs.lemmas.Bool.{cases_eq}
use Rattle.pm_cores.specs.declared.entry.Entry.{Entry}
use Rattle.pm_cores.specs.declared.entry.Entry.TheVariants.{Load, Store}
use Rattle.pm_cores.specs.Log.{core_barriers, epoch_at, line_at, IsStore, IsUse}
use Rattle.pm_cores.specs.Log.IsUse.{use_load, use_store}
use Rattle.pm_cores.specs.Inside.{waits_at, Waits, AreSound, IsLow}
use Rattle.pm_cores.proofs.Lists.{get_pushed, get_pushed_old, get_pushed_new, get_within}
use Rattle.pm_cores.proofs.Logs.{epoch_at-pushed, epoch_at-end, epoch_at-most}
use Rattle.pm_cores.proofs.Waiting.{waits_true, waits_from}
use Rattle.pm_cores.proofs.Pushing.{counted_pushed}

-- the words that wait after a store: its word waits from then on, where it was clean
pub record IsSince (log : List Entry) (word : ℕ) (since since2 : List ℕ) : Type 0 where
  pub size : length since2 ≡ length since
  pub here : get_or since word 0 ≡ 0 → get_or since2 word 0 ≡ suc (length log)
  pub same : (other first : ℕ) → get_or since other 0 ≡ suc first → get_or since2 other 0 ≡ suc first
  pub others : (other : ℕ) → other ≢ word → get_or since2 other 0 ≡ get_or since other 0

-- a core's word waits from then on, and its line is the core's in its epoch
pub record CanStore (words : ℕ) (since : List ℕ) (log : List Entry) (epochs since2 : List ℕ) (core word epoch : ℕ) : Type 0 where
  pub sound : AreSound words since log epochs
  pub epoch_is : epoch ≡ core_barriers core log
  pub low : word < words
  pub waiting : IsSince log word since since2
  pub ready : (place its_core its_word : ℕ) → Waits since log place its_core its_word → line_at its_word ≡ line_at word →
      (its_core ≡ core) × (epoch_at log its_core place ≡ core_barriers core log)

module _ (words : ℕ) (since : List ℕ) (log : List Entry) (epochs since2 : List ℕ) (core word epoch value : ℕ)
    (can : CanStore words since log epochs since2 core word epoch) where
  open can use {sound, epoch_is, low, waiting, ready}

  abbrev log2 : List Entry
  log2 = log ++ Store core word value ∷ []

  -- a number of a word is what it was, or the word is this one, which was clean
  number_of : (other : ℕ) → (get_or since2 other 0 ≡ get_or since other 0) ⊎ ((other ≡ word) × (get_or since word 0 ≡ 0) × (get_or since2 word 0 ≡ suc (length log)))
  number_of other = elim (cases_eq other word) [
    | inl same ↦ number_at other (get_or since word 0) same refl
    | inr differ ↦ inl (waiting.others other differ)
  ]
    where
      number_at : (other number : ℕ) → other ≡ word → get_or since word 0 ≡ number → (get_or since2 other 0 ≡ get_or since other 0) ⊎ ((other ≡ word) × (get_or since word 0 ≡ 0) × (get_or since2 word 0 ≡ suc (length log)))
      number_at other zero same is = inr (same, is, waiting.here is)
      number_at other (suc first) same is = inl (ap (λ n. get_or since2 n 0) same ∙ waiting.same word first is ∙ sym is ∙ sym (ap (λ n. get_or since n 0) same))

  before : (place its_core its_word : ℕ) → IsStore log place its_core its_word → place < length log
  before place its_core its_word store = get_within log place (Store its_core its_word store.value) store.is

  same_epoch : (place its_core its_word : ℕ) → IsStore log place its_core its_word → epoch_at log2 its_core place ≡ epoch_at log its_core place
  same_epoch place its_core its_word store = epoch_at-pushed log (Store core word value) its_core place (let at = before place its_core its_word store in omega arith)

  abbrev IsNew : ℕ → ℕ → ℕ → Type 0
  IsNew place its_core its_word = (place ≡ length log) × (its_core ≡ core) × (its_word ≡ word)

  store_of : (place its_core its_word : ℕ) → IsStore log2 place its_core its_word → IsStore log place its_core its_word ⊎ IsNew place its_core its_word
  store_of place its_core its_word store = elim (get_pushed log (Store core word value) place (Store its_core its_word store.value) store.is) [
    | inl old ↦ inl (record { value = store.value; is = old })
    | inr new ↦
        let same : Store core word value ≡ Store its_core its_word store.value = new.1 in
        let core_is : its_core ≡ core = cc in
        let word_is : its_word ≡ word = cc in
        inr (new.0, core_is, word_is)
  ]

  waits_of : (place its_core its_word : ℕ) → Waits since2 log2 place its_core its_word → Waits since log place its_core its_word ⊎ IsNew place its_core its_word
  waits_of place its_core its_word waits = elim (store_of place its_core its_word waits.store) [
    | inl old ↦ elim (number_of its_word) [
      | inl same ↦ inl (record { store = old; waits = sym (ap (λ n. waits_at n place) same) ∙ waits.waits })
      | inr fresh ↦
          let number : get_or since2 its_word 0 ≡ suc (length log) = ap (λ n. get_or since2 n 0) fresh.0 ∙ fresh.2 in
          let from = waits_true (get_or since2 its_word 0) place waits.waits in
          let at = before place its_core its_word old in
          let first_is : suc from.first ≡ suc (length log) = sym from.is ∙ number in
          let late = from.low in
          absurd (omega arith)
    ]
    | inr new ↦ inr new
  ]

  pub still_waits : (other place : ℕ) → waits_at (get_or since other 0) place ≡ true → waits_at (get_or since2 other 0) place ≡ true
  still_waits other place waits =
      let from = waits_true (get_or since other 0) place waits in
      waits_from (get_or since2 other 0) from.first place (waiting.same other from.first from.is) from.low

  -- the new store waits
  pub new_waits : waits_at (get_or since2 word 0) (length log) ≡ true
  new_waits = at (get_or since word 0) refl
    where
      at : (number : ℕ) → get_or since word 0 ≡ number → waits_at (get_or since2 word 0) (length log) ≡ true
      at zero is = waits_from (get_or since2 word 0) (length log) (length log) (waiting.here is) (omega arith)
      at (suc first) is =
          let store = sound.first word first is in
          let early = before first store.0 word store.1 in
          waits_from (get_or since2 word 0) first (length log) (waiting.same word first is) (omega arith)

  end_epoch : epoch_at log2 core (length log) ≡ core_barriers core log
  end_epoch = epoch_at-end log (Store core word value) core

  -- an old store that waits on the line, beside the new one
  beside : (place its_core its_word : ℕ) → Waits since log place its_core its_word → line_at its_word ≡ line_at word → (its_core ≡ core) × (epoch_at log2 its_core place ≡ epoch_at log2 core (length log))
  beside place its_core its_word waits line =
      let both = ready place its_core its_word waits line in
      (both.0, same_epoch place its_core its_word waits.store ∙ both.1 ∙ sym end_epoch)

  one_owner : (place its_core its_word other other_core other_word : ℕ) → Waits since2 log2 place its_core its_word → Waits since2 log2 other other_core other_word → line_at its_word ≡ line_at other_word → (its_core ≡ other_core) × (epoch_at log2 its_core place ≡ epoch_at log2 other_core other)
  one_owner place its_core its_word other other_core other_word one two line = elim (waits_of place its_core its_word one) [
    | inl old ↦ elim (waits_of other other_core other_word two) [
      | inl old_too ↦
          let both = sound.one place its_core its_word other other_core other_word old old_too line in
          (both.0, same_epoch place its_core its_word old.store ∙ both.1 ∙ sym (same_epoch other other_core other_word old_too.store))
      | inr new ↦
          let both = beside place its_core its_word old (line ∙ ap line_at new.2) in
          (both.0 ∙ sym new.1, both.1 ∙ sym (ap (λ c. epoch_at log2 c other) new.1 ∙ ap (epoch_at log2 core) new.0))
    ]
    | inr new ↦ elim (waits_of other other_core other_word two) [
      | inl old ↦
          let both = beside other other_core other_word old (sym line ∙ ap line_at new.2) in
          (new.1 ∙ sym both.0, (ap (λ c. epoch_at log2 c place) new.1 ∙ ap (epoch_at log2 core) new.0) ∙ sym both.1)
      | inr new_too ↦
          (new.1 ∙ sym new_too.1, (ap (λ c. epoch_at log2 c place) new.1 ∙ ap (epoch_at log2 core) new.0) ∙ sym (ap (λ c. epoch_at log2 c other) new_too.1 ∙ ap (epoch_at log2 core) new_too.0))
    ]
  ]

  use_at : (other its_core line : ℕ) → IsUse log2 other its_core line → IsUse log other its_core line ⊎ ((other ≡ length log) × (its_core ≡ core) × (line_at word ≡ line))
  use_at other its_core line (use_load at is on) = elim (get_pushed log (Store core word value) other (Load its_core at) is) [
    | inl old ↦ inl (use_load at old on)
    | inr new ↦ let differ : Store core word value ≡ Load its_core at = new.1 in cc
  ]
  use_at other its_core line (use_store at its is on) = elim (get_pushed log (Store core word value) other (Store its_core at its) is) [
    | inl old ↦ inl (use_store at its old on)
    | inr new ↦
        let same : Store core word value ≡ Store its_core at its = new.1 in
        let core_is : its_core ≡ core = cc in
        let word_is : word ≡ at = cc in
        inr (new.0, core_is, ap line_at word_is ∙ on)
  ]

  use_low : (other its_core line : ℕ) → IsUse log other its_core line → other < length log
  use_low other its_core line (use_load at is on) = get_within log other (Load its_core at) is
  use_low other its_core line (use_store at its is on) = get_within log other (Store its_core at its) is

  alone_at : (place its_core its_word other other_core : ℕ) → Waits since2 log2 place its_core its_word → place < other → IsUse log2 other other_core (line_at its_word) → other_core ≡ its_core
  alone_at place its_core its_word other other_core waits late used = elim (waits_of place its_core its_word waits) [
    | inl old ↦ elim (use_at other other_core (line_at its_word) used) [
      | inl used_old ↦ sound.alone place its_core its_word other other_core old late used_old
      | inr new ↦
          let both = ready place its_core its_word old (sym new.2) in
          new.1 ∙ sym both.0
    ]
    | inr new ↦ elim (use_at other other_core (line_at its_word) used) [
      | inl used_old ↦ let low = use_low other other_core (line_at its_word) used_old in let at = new.0 in absurd (omega arith)
      | inr new_too ↦ let at = new.0 in let at_too = new_too.0 in absurd (omega arith)
    ]
  ]

  in_order_at : (place its_core its_word other other_word : ℕ) → Waits since2 log2 place its_core its_word → IsStore log2 other its_core other_word → epoch_at log2 its_core place < epoch_at log2 its_core other → waits_at (get_or since2 other_word 0) other ≡ true
  in_order_at place its_core its_word other other_word waits store less = elim (store_of other its_core other_word store) [
    | inl store_old ↦ elim (waits_of place its_core its_word waits) [
      | inl old ↦
          let one = same_epoch place its_core its_word old.store in
          let two = same_epoch other its_core other_word store_old in
          still_waits other_word other (sound.in_order place its_core its_word other other_word old store_old (omega arith))
      | inr new ↦
          let one : epoch_at log2 its_core place ≡ core_barriers core log = ap (λ c. epoch_at log2 c place) new.1 ∙ ap (epoch_at log2 core) new.0 ∙ end_epoch in
          let two : epoch_at log2 its_core other ≡ epoch_at log core other = same_epoch other its_core other_word store_old ∙ ap (λ c. epoch_at log c other) new.1 in
          let most = epoch_at-most log core other in
          absurd (omega arith)
    ]
    | inr new ↦ let at : get_or since2 other_word 0 ≡ get_or since2 word 0 = ap (λ n. get_or since2 n 0) new.2 in rw (at, new.0) new_waits
  ]

  first_of : (other first : ℕ) → get_or since2 other 0 ≡ suc first → (its_core : ℕ) × IsStore log2 first its_core other
  first_of other first is = elim (number_of other) [
    | inl same ↦
        let store = sound.first other first (sym same ∙ is) in
        (store.0, record { value = store.1.value; is = get_pushed_old log (Store core word value) first (Store store.0 other store.1.value) store.1.is })
    | inr fresh ↦
        let number : suc (length log) ≡ suc first = sym fresh.2 ∙ ap (λ n. get_or since2 n 0) (sym fresh.0) ∙ is in
        let at : first ≡ length log = omega arith in
        (core, record { value = value; is = ap (slice_get log2) at ∙ get_pushed_new log (Store core word value) ∙ ap (λ n. Some (Store core n value)) (sym fresh.0) })
  ]

  pub stored_sound : AreSound words since2 log2 (epochs ++ epoch ∷ [])
  stored_sound = record {
    as_many_since = waiting.size ∙ sound.as_many_since;
    as_many_epochs = let size = sound.as_many_epochs in omega (arith, length-append epochs (epoch ∷ []), length-append log (Store core word value ∷ []));
    words = λ place its_core its_word store. elim (store_of place its_core its_word store) [
      | inl old ↦ sound.words place its_core its_word old
      | inr new ↦ rw new.2 low
    ];
    counted = counted_pushed log epochs (Store core word value) epoch sound.as_many_epochs sound.counted epoch_is;
    first = first_of;
    one = one_owner;
    alone = alone_at;
    in_order = in_order_at;
  }

  pub low_stored : (its_core at : ℕ) → at ≤ length log → IsLow since log its_core at → IsLow since2 log2 its_core at
  low_stored its_core at most is_low = λ place its_word waits. elim (waits_of place its_core its_word waits) [
    | inl old ↦ is_low place its_word old
    | inr new ↦ let here = new.0 in omega arith
  ]
