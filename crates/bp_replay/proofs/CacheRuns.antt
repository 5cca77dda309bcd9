-- A run of two cores' caches.
use Rattle.std.proofs.Common.{◌≡◌, ℕ, zero, suc, ◌+◌, ◌<◌, ◌≤◌, inl, inr, true, false, not, cond, eqb, ltb, leb, ◌&&◌, Option, Some, None, Result, Ok, Err, List, [], ◌∷◌, length, get_or, take, drop, refl, sym, ◌∙◌, ap, subst, arith, length-append}
use Rattle.std.specs.Prelude.{is_some, IsOk, OnOk, OnErr, ◌↔◌}
use Rattle.std.specs.List.{slice_get, list_all}
use Rattle.std.proofs.lemmas.Bool.{cases_Bool, and_parts, and_from, and_cases, eqb-false, ltb-false, le-ltb, not-true, and_left, and_right}
use Rattle.std.proofs.lemmas.Bool.Decides.{eqb_tells}
use Rattle.std.proofs.lemmas.Option.{get_or_from_slice_get}
use Rattle.pm_epochs.specs.declared.event.Event.{Event}
use Rattle.pm_epochs.specs.declared.event.Event.TheVariants.{Store, Barrier, CallEnd}
use Rattle.pm_epochs.specs.May.{StoresMay}
use Rattle.pm_cores.specs.declared.entry.Owner.{Owner}
use Rattle.pm_cores.specs.Log.{core_barriers}
use Rattle.pm_cores.specs.Caches.{Caches, owner_at, line_owner, with_back, written_by, written_under, after_load, after_store, stored, MayLeave}
use Rattle.pm_cores.proofs.Calls.{load_frame, store_frame}
use Rattle.bp_replay.specs.Cache.{is_no_earlier, may_go, may_go_by, after_back, after_event, last_word, by_draw, after_draw, IsLike, IsWordBelow}

-- ## Which words may go back

no_earlier : (owner its : Owner) → (its.core ≡ owner.core → owner.epoch ≤ its.epoch) → is_no_earlier owner (Some its) ≡ true
no_earlier owner its low = elim (eqb_tells its.core owner.core) [
  | inl same ↦ ap not (and_right (eqb its.core owner.core) (ltb its.epoch owner.epoch) (le-ltb its.epoch owner.epoch (low same.1)))
  | inr differ ↦ ap not (and_left (eqb its.core owner.core) (ltb its.epoch owner.epoch) differ.0)
]

was_no_earlier : (owner its : Owner) → is_no_earlier owner (Some its) ≡ true → its.core ≡ owner.core → owner.epoch ≤ its.epoch
was_no_earlier owner its is same = elim (and_cases (eqb its.core owner.core) (ltb its.epoch owner.epoch) (not-true (eqb its.core owner.core && ltb its.epoch owner.epoch) is)) [
  | inl differ ↦ absurd (eqb-false its.core owner.core differ same)
  | inr late ↦ ltb-false its.epoch owner.epoch late
]

all_later : (owner : Owner) (owners : List (Option Owner)) → ((other : ℕ) (its : Owner) → slice_get owners other ≡ Some (Some its) → its.core ≡ owner.core → owner.epoch ≤ its.epoch) → list_all (is_no_earlier owner) owners ≡ true
all_later owner [] each = refl
all_later owner (None ∷ owners) each = all_later owner owners (λ other its under same. each (suc other) its under same)
all_later owner (Some first ∷ owners) each =
    and_from (is_no_earlier owner (Some first)) (list_all (is_no_earlier owner) owners) (no_earlier owner first (λ same. each 0 first refl same))
    (all_later owner owners (λ other its under same. each (suc other) its under same))

were_later : (owner : Owner) (owners : List (Option Owner)) → list_all (is_no_earlier owner) owners ≡ true → (other : ℕ) (its : Owner) → slice_get owners other ≡ Some (Some its) → its.core ≡ owner.core → owner.epoch ≤ its.epoch
were_later owner [] all other its under same = cc
were_later owner (first ∷ owners) all zero its under same =
    let parts = and_parts (is_no_earlier owner first) (list_all (is_no_earlier owner) owners) all in
    let one : first ≡ Some its = cc in
    was_no_earlier owner its (ap (is_no_earlier owner) (sym one) ∙ parts.0) same
were_later owner (first ∷ owners) all (suc other) its under same =
    let parts = and_parts (is_no_earlier owner first) (list_all (is_no_earlier owner) owners) all in
    were_later owner owners parts.1 other its under same

under_at : (owners : List (Option Owner)) (word : ℕ) (owner : Owner) → get_or owners word None ≡ Some owner → slice_get owners word ≡ Some (Some owner)
under_at [] word owner is = cc
under_at (one ∷ owners) zero owner is = ap (λ (o : Option Owner). Some o) is
under_at (one ∷ owners) (suc word) owner is = under_at owners word owner is

may_is : (caches : Caches) (word : ℕ) → MayLeave caches word → may_go caches word ≡ true
may_is caches word may =
    ap (may_go_by caches) (get_or_from_slice_get caches.owners word (Some may.owner) None may.under)
    ∙ all_later may.owner caches.owners may.earliest

is_may : (caches : Caches) (word : ℕ) → may_go caches word ≡ true → MayLeave caches word
is_may caches word is = by (owner_at caches word) refl is
  where
    by : (it : Option Owner) → owner_at caches word ≡ it → may_go_by caches it ≡ true → MayLeave caches word
    by None at all = cc
    by (Some owner) at all = record { owner = owner; under = under_at caches.owners word owner at; earliest = were_later owner caches.owners all }

pub back_outcome : {T E : Type 0} (old new : Caches) (word : ℕ) (result : Result T E) → (IsOk result ↔ MayLeave old word) → OnOk result (new ≡ with_back old word) → OnErr result (new ≡ old) → new ≡ after_back old word
unfolding after_back
back_outcome old new word (Ok value) allowed ok err = ok ∙ sym (ap (λ b. cond b (with_back old word) old) (may_is old word (allowed.0 refl)))
back_outcome old new word (Err error) allowed ok err = elim (cases_Bool (may_go old word)) [
  | inl may ↦ (let no : false ≡ true = allowed.1 (is_may old word may) in cc)
  | inr not_yet ↦ err ∙ sym (ap (λ b. cond b (with_back old word) old) not_yet)
]

pub clean_stays : (caches : Caches) (word : ℕ) → is_some (owner_at caches word) ≡ false → caches ≡ after_back caches word
unfolding after_back
clean_stays caches word is = by (owner_at caches word) refl is
  where
    by : (it : Option Owner) → owner_at caches word ≡ it → is_some it ≡ false → caches ≡ cond (may_go caches word) (with_back caches word) caches
    by None at none = sym (ap (λ b. cond b (with_back caches word) caches) (ap (may_go_by caches) at))
    by (Some owner) at none = cc

-- ## The caches keep their frame

written_like : (begun : Caches) (n : ℕ) (caches : Caches) (word : ℕ) (it : Option Owner) → IsLike begun n caches → IsLike begun n (written_under caches word it)
unfolding written_by
written_like begun n caches word None like = like
written_like begun n caches word (Some owner) like = record {
  cores = like.cores;
  words = like.words;
  capacity = like.capacity;
  few = like.few;
}

pub more_like : (begun : Caches) (n m : ℕ) (caches : Caches) → n ≤ m → IsLike begun n caches → IsLike begun m caches
more_like begun n m caches most like = record { cores = like.cores; words = like.words; capacity = like.capacity; few = let few = like.few in omega arith }

load_like : (begun : Caches) (n : ℕ) (caches : Caches) (core word : ℕ) → IsLike begun n caches → IsLike begun (n + 1) (after_load caches core word)
unfolding after_load
load_like begun n caches core word like =
    let frame = load_frame caches core (line_owner caches word) in
    record {
      cores = frame.cores ∙ like.cores;
      words = frame.size ∙ like.words;
      capacity = frame.capacity ∙ like.capacity;
      few = let few = like.few in let same = ap length frame.log in simp length-append (omega arith);
    }

store_like : (begun : Caches) (n : ℕ) (caches : Caches) (core word value : ℕ) → IsLike begun n caches → IsLike begun (n + 1) (after_store caches core word value)
unfolding after_store
store_like begun n caches core word value like =
    let frame = store_frame caches core (core_barriers core caches.log) (line_owner caches word) in
    record {
      cores = frame.cores ∙ like.cores;
      words = frame.size ∙ like.words;
      capacity = frame.capacity ∙ like.capacity;
      few = let few = like.few in let same = ap length frame.log in simp length-append (omega arith);
    }

back_like : (begun : Caches) (n : ℕ) (caches : Caches) (word : ℕ) → IsLike begun n caches → IsLike begun n (after_back caches word)
unfolding after_back
back_like begun n caches word like = elim (cases_Bool (may_go caches word)) [
  | inl may ↦ rw may (written_like begun n caches word (owner_at caches word) like)
  | inr not_yet ↦ rw not_yet like
]

pub event_like : (begun : Caches) (n : ℕ) (caches : Caches) (event : Event) → IsLike begun n caches → IsLike begun (n + 1) (after_event caches event)
event_like begun n caches (Store word value) like = store_like begun n caches 0 word value like
event_like begun n caches Barrier like = record { cores = like.cores; words = like.words; capacity = like.capacity; few = let few = like.few in simp length-append (omega arith) }
event_like begun n caches CallEnd like = more_like begun n (n + 1) caches (omega arith) like

eighth_like : (begun : Caches) (n : ℕ) (caches : Caches) (word eighth : ℕ) → IsLike begun n caches → IsLike begun (n + 1) (by_draw caches word eighth)
unfolding by_draw
eighth_like begun n caches word eighth like = elim (cases_Bool (eqb eighth 0)) [
  | inl reads ↦ rw reads (load_like begun n caches 1 word like)
  | inr others ↦ rw others (elim (cases_Bool (leb eighth 4)) [
    | inl writes ↦ rw writes (more_like begun n (n + 1) (after_back caches word) (omega arith) (back_like begun n caches word like))
    | inr nothing ↦ rw nothing (more_like begun n (n + 1) caches (omega arith) like)
  ])
]

pub draw_like : (begun : Caches) (n : ℕ) (caches : Caches) (last : Option ℕ) (draw : ℕ) → IsLike begun n caches → IsLike begun (n + 1) (after_draw caches last draw)
draw_like begun n caches None draw like = more_like begun n (n + 1) caches (omega arith) like
draw_like begun n caches (Some word) draw like = eighth_like begun n caches word _ like

-- ## The events

pub stored_below : (bound : ℕ) (events : List Event) (i word value : ℕ) → StoresMay (λ at its. at < bound) events → slice_get events i ≡ Some (Store word value) → word < bound
stored_below bound [] i word value may is = cc
stored_below bound (Store at its ∷ events) zero word value may is =
    let same : Store at its ≡ Store word value = cc in
    let word_is : at ≡ word = cc in
    subst (λ n. n < bound) word_is may.0
stored_below bound (Barrier ∷ events) zero word value may is = cc
stored_below bound (CallEnd ∷ events) zero word value may is = cc
stored_below bound (Store at its ∷ events) (suc i) word value may is = stored_below bound events i word value may.1 is
stored_below bound (Barrier ∷ events) (suc i) word value may is = stored_below bound events i word value may is
stored_below bound (CallEnd ∷ events) (suc i) word value may is = stored_below bound events i word value may is

pub last_below : (bound : ℕ) (last : Option ℕ) (event : Event) → IsWordBelow bound last → ((word value : ℕ) → event ≡ Store word value → word < bound) → IsWordBelow bound (last_word last event)
last_below bound last (Store word value) below stored = stored word value refl
last_below bound last Barrier below stored = below
last_below bound last CallEnd below stored = below

pub dropped_at : (events : List Event) (moment i : ℕ) (event : Event) → i < moment → slice_get events i ≡ Some event → drop i (take moment events) ≡ event ∷ drop (i + 1) (take moment events)
dropped_at events moment i event low is = (let next : suc i ≡ i + 1 = omega arith in at events moment i low is ∙ ap (λ n. event ∷ drop n (take moment events)) next)
  where
    at : (events : List Event) (moment i : ℕ) → i < moment → slice_get events i ≡ Some event → drop i (take moment events) ≡ event ∷ drop (suc i) (take moment events)
    at [] moment i low is = cc
    at (first ∷ events) zero i low is = absurd (omega arith)
    at (first ∷ events) (suc moment) zero low is = let one : first ≡ event = cc in ap (λ e. e ∷ take moment events) one
    at (first ∷ events) (suc moment) (suc i) low is = at events moment i (omega arith) is
