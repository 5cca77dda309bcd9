-- Core 0 has done the events of the log, and no other core stored.
use Rattle.std.proofs.Common.{◌≡◌, ℕ, zero, suc, ◌+◌, inl, inr, eqb, leb, Option, Some, None, List, [], ◌∷◌, ◌++◌, take, refl, sym, ◌∙◌, ap, arith, append-nil}
use Rattle.std.specs.List.{slice_get}
use Rattle.std.proofs.lemmas.Bool.{cases_Bool}
use Rattle.pm_epochs.specs.declared.event.Event.{Event}
use Rattle.pm_epochs.specs.declared.event.Event.TheVariants.{Store as Set, Barrier as Fence, CallEnd}
use Rattle.pm_cores.specs.declared.entry.Entry.{Entry}
use Rattle.pm_cores.specs.declared.entry.Entry.TheVariants.{Load, Store, Barrier}
use Rattle.pm_cores.specs.declared.entry.Owner.{Owner}
use Rattle.pm_cores.specs.Log.{core_barriers, IsStore}
use Rattle.pm_cores.specs.Caches.{Caches, owner_at, line_owner, written_by, written_under, after_load, after_store}
use Rattle.pm_cores.specs.Played.{without_call_ends, done_by_first, IsPlayed}
use Rattle.pm_cores.proofs.Lists.{get_pushed}
use Rattle.pm_cores.proofs.Calls.{load_frame, store_frame}
use Rattle.bp_replay.specs.Cache.{may_go, after_back, after_event, by_draw, after_draw}

done_more : (log : List Entry) (entry : Entry) → done_by_first (log ++ entry ∷ []) ≡ done_by_first log ++ done_by_first (entry ∷ [])
done_more [] entry = refl
done_more (Load core word ∷ log) entry = done_more log entry
done_more (Store core word value ∷ log) entry = elim (cases_Bool (eqb core 0)) [
  | inl own ↦ rw own (ap (λ es. Set word value ∷ es) (done_more log entry))
  | inr other ↦ rw other (done_more log entry)
]
done_more (Barrier core ∷ log) entry = elim (cases_Bool (eqb core 0)) [
  | inl own ↦ rw own (ap (λ es. Fence ∷ es) (done_more log entry))
  | inr other ↦ rw other (done_more log entry)
]

more_without_call_ends : (events : List Event) (event : Event) → without_call_ends (events ++ event ∷ []) ≡ without_call_ends events ++ without_call_ends (event ∷ [])
more_without_call_ends [] event = refl
more_without_call_ends (Set word value ∷ events) event = ap (λ es. Set word value ∷ es) (more_without_call_ends events event)
more_without_call_ends (Fence ∷ events) event = ap (λ es. Fence ∷ es) (more_without_call_ends events event)
more_without_call_ends (CallEnd ∷ events) event = more_without_call_ends events event

pub played_start : (words : List Event) → IsPlayed [] []
played_start words = record { same = refl; alone = λ place core word store. let is = store.is in cc }

-- an entry of core 0, or one that is no store
alone_more : (log : List Entry) (entry : Entry) → ((place core word : ℕ) → IsStore log place core word → core ≡ 0) → ((core word value : ℕ) → entry ≡ Store core word value → core ≡ 0) → (place core word : ℕ) → IsStore (log ++ entry ∷ []) place core word → core ≡ 0
alone_more log entry alone own place core word store = elim (get_pushed log entry place (Store core word store.value) store.is) [
  | inl old ↦ alone place core word (record { value = store.value; is = old })
  | inr new ↦ own core word store.value new.1
]

played_load : (events : List Event) (log : List Entry) (core word : ℕ) → IsPlayed events log → IsPlayed events (log ++ Load core word ∷ [])
played_load events log core word played = record {
  same = played.same ∙ sym (append-nil (done_by_first log)) ∙ sym (done_more log (Load core word));
  alone = alone_more log (Load core word) played.alone (λ its at value same. cc);
}

played_store : (events : List Event) (log : List Entry) (word value : ℕ) → IsPlayed events log → IsPlayed (events ++ Set word value ∷ []) (log ++ Store 0 word value ∷ [])
played_store events log word value played = record {
  same = more_without_call_ends events (Set word value) ∙ ap (λ (es : List Event). es ++ Set word value ∷ []) played.same ∙ sym (done_more log (Store 0 word value));
  alone = alone_more log (Store 0 word value) played.alone (λ its at other same. cc);
}

played_barrier : (events : List Event) (log : List Entry) → IsPlayed events log → IsPlayed (events ++ Fence ∷ []) (log ++ Barrier 0 ∷ [])
played_barrier events log played = record {
  same = more_without_call_ends events Fence ∙ ap (λ (es : List Event). es ++ Fence ∷ []) played.same ∙ sym (done_more log (Barrier 0));
  alone = alone_more log (Barrier 0) played.alone (λ its at other same. cc);
}

played_call_end : (events : List Event) (log : List Entry) → IsPlayed events log → IsPlayed (events ++ CallEnd ∷ []) log
played_call_end events log played = record { same = more_without_call_ends events CallEnd ∙ append-nil (without_call_ends events) ∙ played.same; alone = played.alone }

pub event_played : (events : List Event) (caches : Caches) (event : Event) → IsPlayed events caches.log → IsPlayed (events ++ event ∷ []) (after_event caches event).log
unfolding after_store
event_played events caches (Set word value) played =
    let frame = store_frame caches 0 (core_barriers 0 caches.log) (line_owner caches word) in
    rw frame.log (played_store events caches.log word value played)
event_played events caches Fence played = played_barrier events caches.log played
event_played events caches CallEnd played = played_call_end events caches.log played

load_played : (events : List Event) (caches : Caches) (core word : ℕ) → IsPlayed events caches.log → IsPlayed events (after_load caches core word).log
unfolding after_load
load_played events caches core word played =
    let frame = load_frame caches core (line_owner caches word) in
    rw frame.log (played_load events caches.log core word played)

written_log : (caches : Caches) (word : ℕ) (it : Option Owner) → (written_under caches word it).log ≡ caches.log
unfolding written_by
written_log caches word None = refl
written_log caches word (Some owner) = refl

back_played : (events : List Event) (caches : Caches) (word : ℕ) → IsPlayed events caches.log → IsPlayed events (after_back caches word).log
unfolding after_back
back_played events caches word played = elim (cases_Bool (may_go caches word)) [
  | inl may ↦ rw (may, written_log caches word (owner_at caches word)) played
  | inr not_yet ↦ rw not_yet played
]

eighth_played : (events : List Event) (caches : Caches) (word eighth : ℕ) → IsPlayed events caches.log → IsPlayed events (by_draw caches word eighth).log
unfolding by_draw
eighth_played events caches word eighth played = elim (cases_Bool (eqb eighth 0)) [
  | inl reads ↦ rw reads (load_played events caches 1 word played)
  | inr others ↦ rw others (elim (cases_Bool (leb eighth 4)) [
    | inl writes ↦ rw writes (back_played events caches word played)
    | inr nothing ↦ rw nothing played
  ])
]

pub draw_played : (events : List Event) (caches : Caches) (last : Option ℕ) (draw : ℕ) → IsPlayed events caches.log → IsPlayed events (after_draw caches last draw).log
draw_played events caches None draw played = played
draw_played events caches (Some word) draw played = eighth_played events caches word _ played

pub taken_more : (events : List Event) (i : ℕ) (event : Event) → slice_get events i ≡ Some event → take (i + 1) events ≡ take i events ++ event ∷ []
taken_more events i event is = (let next : i + 1 ≡ suc i = omega arith in ap (λ n. take n events) next ∙ at events i is)
  where
    at : (events : List Event) (i : ℕ) → slice_get events i ≡ Some event → take (suc i) events ≡ take i events ++ event ∷ []
    at [] i is = cc
    at (first ∷ events) zero is = let one : first ≡ event = cc in ap (λ (e : Event). e ∷ []) one
    at (first ∷ events) (suc i) is = ap (λ es. first ∷ es) (at events i is)
