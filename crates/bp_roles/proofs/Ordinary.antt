-- A call outside a transaction is right for the files of the image if it is right as it is seen.
use Rattle.std.proofs.Common.{◌≡◌, ◌≤◌, Bool, List, length, take, sym, ◌∙◌, subst}
use Rattle.pm_epochs.specs.declared.event.Event.{Event}
use Rattle.pm_epochs.specs.Log.{words_after, up_to_call_end, IsStoredIn}
use Rattle.pm_epochs.specs.Replay.{after_calls, kept_calls, replay, stores_of}
use Rattle.pm_epochs.specs.Crash.{CrashRight}
use Rattle.pm_epochs.specs.May.{AnyAt, StoresMay}
use Rattle.pm_epochs.proofs.MayLaws.{EachMay-stored, StoresMay-stores_of, StoresMay-take, same_where_none}
use Rattle.pm_epochs.proofs.PieceLaws.{StoresMay-IsStoredIn}
use Rattle.bp_layout.specs.Whole.{SameFiles}
use Rattle.bp_layout.specs.Words.{Image, word}
use Rattle.bp_roles.specs.Roles.{magic_of}
use Rattle.bp_roles.specs.Seen.{seen_events, seen_words}
use Rattle.bp_roles.specs.Mounted.{SameDurable, by_roles}
use Rattle.bp_roles.specs.Transaction.{outside}
use Rattle.bp_roles.proofs.SeenLaws.{seen-after_calls, seen-kept_calls, seen-replay, seen-right}
use Rattle.bp_roles.proofs.Durable.{StoresMay-up_to_call_end, by_outside}

module _ (is_b : Bool) (image : Image) (events : List Event) (wide : 8 ≤ length image) (marked : word image 0 ≡ magic_of (outside is_b)) (none : IsStoredIn events 0 → ⊥) where
  -- whichever stores survive, the magic number is the same
  magic_stays : (part : List Event) → StoresMay (AnyAt (IsStoredIn events)) part → word (words_after image part) 0 ≡ magic_of (outside is_b)
  magic_stays part may =
      same_where_none (AnyAt (IsStoredIn events)) image (words_after image part) (EachMay-stored (AnyAt (IsStoredIn events)) image part may) 0 (λ value stored. none stored) ∙ marked

  pub seen_right : CrashRight SameFiles (seen_words (outside is_b) image) (seen_events (outside is_b) events) → CrashRight SameDurable image events
  seen_right as_seen = record {
    each = λ cut right.
        let stored = StoresMay-IsStoredIn events in
        let replayed = by_outside is_b (replay image events cut)
        (magic_stays (stores_of cut.epoch cut.mask (take cut.moment events))
        (StoresMay-stores_of (AnyAt (IsStoredIn events)) (take cut.moment events) cut.epoch cut.mask (StoresMay-take (AnyAt (IsStoredIn events)) cut.moment events stored))) in
        let called = by_outside is_b (after_calls image events (kept_calls events cut))
        (magic_stays (up_to_call_end (kept_calls events cut) events) (StoresMay-up_to_call_end (AnyAt (IsStoredIn events)) (kept_calls events cut) events stored)) in
        let same = as_seen.each cut (seen-right (outside is_b) events cut right) in
        let left : SameFiles (seen_words (outside is_b) (replay image events cut)) (after_calls (seen_words (outside is_b) image) (seen_events (outside is_b) events) (kept_calls (seen_events (outside is_b) events) cut)) =
        subst (λ ws. SameFiles ws (after_calls (seen_words (outside is_b) image) (seen_events (outside is_b) events) (kept_calls (seen_events (outside is_b) events) cut))) (sym (seen-replay (outside is_b) image events cut wide)) same in
        let count : SameFiles (seen_words (outside is_b) (replay image events cut)) (after_calls (seen_words (outside is_b) image) (seen_events (outside is_b) events) (kept_calls events cut)) =
        subst (λ n. SameFiles (seen_words (outside is_b) (replay image events cut)) (after_calls (seen_words (outside is_b) image) (seen_events (outside is_b) events) n)) (seen-kept_calls (outside is_b) events cut) left in
        let both : SameFiles (seen_words (outside is_b) (replay image events cut)) (seen_words (outside is_b) (after_calls image events (kept_calls events cut))) =
        subst (SameFiles (seen_words (outside is_b) (replay image events cut))) (sym (seen-after_calls (outside is_b) image events (kept_calls events cut) wide)) count in
        subst (λ ws. SameFiles ws (by_roles (after_calls image events (kept_calls events cut)))) (sym replayed)
        (subst (SameFiles (seen_words (outside is_b) (replay image events cut))) (sym called) both);
  }
