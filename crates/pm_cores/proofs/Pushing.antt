-- The log grows by an entry that is no store.
use Rattle.std.proofs.Common.{◌≡◌, ℕ, ◌<◌, ◌≤◌, inl, inr, Some, List, [], ◌∷◌, ◌++◌, length, sym, ◌∙◌, ap, subst, arith, length-append}
use Rattle.std.specs.List.{slice_get}
use Rattle.pm_cores.specs.declared.entry.Entry.{Entry}
use Rattle.pm_cores.specs.declared.entry.Entry.TheVariants.{Load, Store}
use Rattle.pm_cores.specs.Log.{core_of, core_barriers, epoch_at, line_at, IsStore, IsUse}
use Rattle.pm_cores.specs.Log.IsUse.{use_load, use_store}
use Rattle.pm_cores.specs.Inside.{Waits, AreCounted, AreSound, IsLow}
use Rattle.pm_cores.proofs.Lists.{get_pushed, get_pushed_old, get_within, index_before, index_new}
use Rattle.pm_cores.proofs.Logs.{IsNoStore, epoch_at-pushed, epoch_at-end}

pub counted_pushed : (log : List Entry) (epochs : List ℕ) (entry : Entry) (epoch : ℕ) → length epochs ≡ length log → AreCounted log epochs → epoch ≡ core_barriers (core_of entry) log → AreCounted (log ++ entry ∷ []) (epochs ++ epoch ∷ [])
counted_pushed log epochs entry epoch size counted epoch_is = λ place at is. elim (get_pushed log entry place at is) [
  | inl old ↦
      let low : place < length log = get_within log place at old in
      let low_epochs : place < length epochs = omega arith in
      index_before epochs epoch place low_epochs ∙ counted place at old ∙ sym (epoch_at-pushed log entry (core_of at) place (omega arith))
  | inr new ↦
      let place_is : place ≡ length epochs = new.0 ∙ sym size in
      rw place_is (index_new epochs epoch ∙ epoch_is ∙ ap (λ e. core_barriers (core_of e) log) new.1 ∙ sym (rw size (epoch_at-end log entry (core_of at))))
]

module _ (words : ℕ) (since : List ℕ) (log : List Entry) (epochs : List ℕ) (entry : Entry) (epoch : ℕ)
    (sound : AreSound words since log epochs) (epoch_is : epoch ≡ core_barriers (core_of entry) log) (none : IsNoStore entry)
    (ready : (core word : ℕ) → entry ≡ Load core word → (place its_core its_word : ℕ) → Waits since log place its_core its_word → line_at word ≡ line_at its_word → core ≡ its_core) where
  old_store : (place core word : ℕ) → IsStore (log ++ entry ∷ []) place core word → IsStore log place core word
  old_store place core word store = elim (get_pushed log entry place (Store core word store.value) store.is) [
    | inl old ↦ record { value = store.value; is = old }
    | inr new ↦ absurd (none core word store.value new.1)
  ]

  old_waits : (place core word : ℕ) → Waits since (log ++ entry ∷ []) place core word → Waits since log place core word
  old_waits place core word waits = record { store = old_store place core word waits.store; waits = waits.waits }

  before : (place core word : ℕ) → IsStore log place core word → place ≤ length log
  before place core word store = let low = get_within log place (Store core word store.value) store.is in omega arith

  same_epoch : (place core word : ℕ) → IsStore log place core word → epoch_at (log ++ entry ∷ []) core place ≡ epoch_at log core place
  same_epoch place core word store = epoch_at-pushed log entry core place (before place core word store)

  alone_at : (place core word other its_core : ℕ) → Waits since log place core word → place < other → IsUse (log ++ entry ∷ []) other its_core (line_at word) → its_core ≡ core
  alone_at place core word other its_core waits low (use_load at is line) = elim (get_pushed log entry other (Load its_core at) is) [
    | inl old ↦ sound.alone place core word other its_core waits low (use_load at old line)
    | inr new ↦ ready its_core at new.1 place core word waits line
  ]
  alone_at place core word other its_core waits low (use_store at value is line) = elim (get_pushed log entry other (Store its_core at value) is) [
    | inl old ↦ sound.alone place core word other its_core waits low (use_store at value old line)
    | inr new ↦ absurd (none its_core at value new.1)
  ]

  pub pushed_sound : AreSound words since (log ++ entry ∷ []) (epochs ++ epoch ∷ [])
  pushed_sound = record {
    as_many_since = sound.as_many_since;
    as_many_epochs = let size = sound.as_many_epochs in omega (arith, length-append epochs (epoch ∷ []), length-append log (entry ∷ []));
    words = λ place core word store. sound.words place core word (old_store place core word store);
    counted = counted_pushed log epochs entry epoch sound.as_many_epochs sound.counted epoch_is;
    first = λ word first is. let store = sound.first word first is in
        (store.0, record { value = store.1.value; is = get_pushed_old log entry first (Store store.0 word store.1.value) store.1.is });
    one = λ place core word other its_core its_word one two same.
        let one_old = old_waits place core word one in
        let two_old = old_waits other its_core its_word two in
        let both = sound.one place core word other its_core its_word one_old two_old same in
        (both.0, same_epoch place core word one_old.store ∙ both.1 ∙ sym (same_epoch other its_core its_word two_old.store));
    alone = λ place core word other its_core waits low used. alone_at place core word other its_core (old_waits place core word waits) low used;
    in_order = λ place core word other its_word waits store low.
        let waits_old = old_waits place core word waits in
        let store_old = old_store other core its_word store in
        sound.in_order place core word other its_word waits_old store_old
        (let one = same_epoch place core word waits_old.store in let two = same_epoch other core its_word store_old in omega arith);
  }

  pub low_pushed : (its_core low : ℕ) → IsLow since log its_core low → IsLow since (log ++ entry ∷ []) its_core low
  low_pushed its_core low is_low = λ place word waits. is_low place word (old_waits place its_core word waits)

pub known_pushed : (log : List Entry) (entry : Entry) (cores : ℕ) → ((place : ℕ) (its : Entry) → slice_get log place ≡ Some its → core_of its < cores) → core_of entry < cores → (place : ℕ) (its : Entry) → slice_get (log ++ entry ∷ []) place ≡ Some its → core_of its < cores
known_pushed log entry cores known low = λ place its is. elim (get_pushed log entry place its is) [
  | inl old ↦ known place its old
  | inr new ↦ subst (λ e. core_of e < cores) new.1 low
]
