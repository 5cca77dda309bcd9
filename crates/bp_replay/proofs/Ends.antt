-- The two ends: a crash that keeps all, and one that keeps nothing.
use Rattle.std.proofs.Common.{◌≡◌, ℕ, zero, suc, true, List, [], ◌∷◌, length, take, replicate, refl, ◌∙◌, ap, arith}
use Rattle.std.proofs.lemmas.List.{length-replicate, take_all}
use Rattle.pm_epochs.specs.declared.event.Event.{Event}
use Rattle.pm_epochs.specs.declared.event.Event.TheVariants.{Store, Barrier, CallEnd}
use Rattle.pm_epochs.specs.Log.{words_after, stores, barriers, call_ends, epoch_stores}
use Rattle.pm_epochs.specs.Replay.{IsRight, stores_of, call_ends_of, kept_calls, replay}
use Rattle.pm_epochs.proofs.Cuts.{stores_of_none, kept_stores_right}
use Rattle.bp_replay.specs.Wanted.{all, nothing, cut_for}

pub right_all : (events : List Event) → IsRight events (cut_for events all)
right_all events = record {
  moment = omega arith;
  epoch = rw (take_all (length events) events (omega arith)) (omega arith);
  mask = rw (take_all (length events) events (omega arith)) (omega (arith, length-replicate (epoch_stores (barriers events) events) true));
}

pub call_ends_of_all : (events : List Event) → call_ends_of (barriers events) (replicate (epoch_stores (barriers events) events) true) events ≡ call_ends events
call_ends_of_all [] = refl
call_ends_of_all (Store word value ∷ events) = following (barriers events) refl (call_ends_of_all events)
  where
    following : (epoch : ℕ) → barriers events ≡ epoch → call_ends_of (barriers events) (replicate (epoch_stores (barriers events) events) true) events ≡ call_ends events → call_ends_of epoch (replicate (epoch_stores epoch (Store word value ∷ events)) true) (Store word value ∷ events) ≡ call_ends events
    following zero is more = rw is at more
    following (suc epoch) is more = rw is at more
call_ends_of_all (Barrier ∷ events) = call_ends_of_all events
call_ends_of_all (CallEnd ∷ events) = ap suc (call_ends_of_all events)

pub kept_calls_all : (events : List Event) → kept_calls events (cut_for events all) ≡ call_ends events
kept_calls_all events = call_ends_of_all events

stores_of_all : (events : List Event) → stores_of (barriers events) (replicate (epoch_stores (barriers events) events) true) events ≡ stores events
stores_of_all [] = refl
stores_of_all (Store word value ∷ events) = following (barriers events) refl (stores_of_all events)
  where
    following : (epoch : ℕ) → barriers events ≡ epoch → stores_of (barriers events) (replicate (epoch_stores (barriers events) events) true) events ≡ stores events → stores_of epoch (replicate (epoch_stores epoch (Store word value ∷ events)) true) (Store word value ∷ events) ≡ Store word value ∷ stores events
    following zero is more = ap (λ es. Store word value ∷ es) (rw is at more)
    following (suc epoch) is more = ap (λ es. Store word value ∷ es) (rw is at more)
stores_of_all (Barrier ∷ events) = stores_of_all events
stores_of_all (CallEnd ∷ events) = stores_of_all events

words_after-stores : (words : List ℕ) (events : List Event) → words_after words (stores events) ≡ words_after words events
words_after-stores words [] = refl
words_after-stores words (Store word value ∷ events) = words_after-stores _ events
words_after-stores words (Barrier ∷ events) = words_after-stores words events
words_after-stores words (CallEnd ∷ events) = words_after-stores words events

pub replay_all : (base : List ℕ) (events : List Event) → replay base events (cut_for events all) ≡ words_after base events
replay_all base events =
    ap (words_after base) (kept_stores_right events (cut_for events all) (right_all events) ∙ stores_of_all events)
    ∙ words_after-stores base events

pub replay_nothing : (base : List ℕ) (events : List Event) → replay base events (cut_for events nothing) ≡ base
replay_nothing base events = ap (words_after base) (stores_of_none (take (length events) events))
