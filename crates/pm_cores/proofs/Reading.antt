-- What code reads in the log.
use Rattle.std.proofs.Common.{◌≡◌, ◌≢◌, ℕ, ◌<◌, Some, List, length, get_or, sym, ◌∙◌, ap}
use Rattle.std.specs.List.{slice_get}
use Rattle.std.proofs.lemmas.Option.{slice_get-get_or, get_or_from_slice_get}
use Rattle.pm_cores.specs.declared.entry.Entry.{Entry}
use Rattle.pm_cores.specs.declared.entry.Entry.TheVariants.{Load, Store, Barrier}
use Rattle.pm_cores.specs.Log.{IsStore}

pub entry_read : (log : List Entry) (place : ℕ) (entry : Entry) → place < length log → get_or log place (Load 0 0) ≡ entry → slice_get log place ≡ Some entry
entry_read log place entry low is = slice_get-get_or log place (Load 0 0) low ∙ ap (λ (e : Entry). Some e) is

pub store_read : (log : List Entry) (place core word value : ℕ) → place < length log → get_or log place (Load 0 0) ≡ Store core word value → IsStore log place core word
store_read log place core word value low is = record { value = value; is = entry_read log place (Store core word value) low is }

pub no_store_load : (log : List Entry) (place core at : ℕ) → get_or log place (Load 0 0) ≡ Load core at → (its_core word : ℕ) → IsStore log place its_core word → ⊥
no_store_load log place core at is its_core word store =
    let read = get_or_from_slice_get log place (Store its_core word store.value) (Load 0 0) store.is in
    let differ : Load core at ≡ Store its_core word store.value = sym is ∙ read in
    cc

pub no_store_barrier : (log : List Entry) (place core : ℕ) → get_or log place (Load 0 0) ≡ Barrier core → (its_core word : ℕ) → IsStore log place its_core word → ⊥
no_store_barrier log place core is its_core word store =
    let read = get_or_from_slice_get log place (Store its_core word store.value) (Load 0 0) store.is in
    let differ : Barrier core ≡ Store its_core word store.value = sym is ∙ read in
    cc

pub no_store_other : (log : List Entry) (place core at value its_core : ℕ) → get_or log place (Load 0 0) ≡ Store core at value → core ≢ its_core → (word : ℕ) → IsStore log place its_core word → ⊥
no_store_other log place core at value its_core is differ word store =
    let read = get_or_from_slice_get log place (Store its_core word store.value) (Load 0 0) store.is in
    let both : Store core at value ≡ Store its_core word store.value = sym is ∙ read in
    let core_is : core ≡ its_core = cc in
    differ core_is

pub same_word : (log : List Entry) (place core other word at value : ℕ) → get_or log place (Load 0 0) ≡ Store other at value → IsStore log place core word → word ≡ at
same_word log place core other word at value is store =
    let read = get_or_from_slice_get log place (Store core word store.value) (Load 0 0) store.is in
    let both : Store other at value ≡ Store core word store.value = sym is ∙ read in
    cc
