-- Stores to the spare slot only, as those of a begin, are right, since the files of the image depend on none of its words.
use Rattle.std.proofs.Common.{true≢false, ◌≡◌, inl, inr, ℕ, ◌≤◌, Bool, false, ◌&&◌, nat_lt, List, length, sym, ◌∙◌, ap, subst, arith}
use Rattle.pm_epochs.specs.declared.event.Event.{Event}
use Rattle.pm_epochs.specs.Log.{words_after, up_to_call_end}
use Rattle.pm_epochs.specs.Replay.{after_calls, kept_calls, stores_of}
use Rattle.pm_epochs.specs.Crash.{CrashRight}
use Rattle.pm_epochs.specs.May.{AnyAt, EachMay, StoresMay}
use Rattle.pm_epochs.proofs.CrashLaws.{length-words_after}
use Rattle.pm_epochs.proofs.Cuts.{kept_stores_right}
use Rattle.pm_epochs.proofs.MayLaws.{EachMay-stored, StoresMay-stores_of, same_where_none}
use Rattle.bp_limits.specs.CallLimits.{allows_snapshot}
use Rattle.bp_limits.specs.Limits.{version_at}
use Rattle.bp_layout.specs.Trees.{has_snapshot}
use Rattle.bp_layout.specs.WellFormed.{IsWellFormed}
use Rattle.bp_layout.specs.Whole.{SameFiles}
use Rattle.bp_layout.specs.Words.{Image, word}
use Rattle.bp_layout.proofs.SameLaws.{same_symmetric}
use Rattle.bp_roles.specs.Roles.{magic_of, swapped}
use Rattle.bp_roles.specs.Seen.{seen_events, seen_words}
use Rattle.bp_roles.specs.Mounted.{SameDurable, by_roles}
use Rattle.bp_roles.specs.Transaction.{IsSpare, outside}
use Rattle.bp_roles.proofs.SeenLaws.{seen-stores_of, seen-up_to_call_end, seen-words_after, stored-first}
use Rattle.bp_roles.proofs.Bridge.{SameButSlots, same_but_slots}
use Rattle.bp_roles.proofs.Likeness.{durable_symmetric, durable_transitive}
use Rattle.bp_roles.proofs.Durable.{StoresMay-up_to_call_end, by_outside}

module _ (is_b : Bool) (image : Image) (events : List Event) (wide : 8 ≤ length image) (marked : word image 0 ≡ magic_of (outside is_b)) (wf : IsWellFormed (seen_words (outside is_b) image))
    (alone : has_snapshot (seen_words (outside is_b) image) ≡ false) (spare : StoresMay (AnyAt IsSpare) (seen_events (outside is_b) events)) where
  module _ (left : Image) (left_wide : 8 ≤ length left) (each : EachMay (AnyAt IsSpare) (seen_words (outside is_b) image) (seen_words (outside is_b) left)) where
    at : (i : ℕ) → (IsSpare i → ⊥) → word (seen_words (outside is_b) left) i ≡ word (seen_words (outside is_b) image) i
    at i none = same_where_none (AnyAt IsSpare) (seen_words (outside is_b) image) (seen_words (outside is_b) left) each i (λ value is. none is)

    not_spare : (i : ℕ) → (i ≡ 6 → ⊥) → (i ≡ 7 → ⊥) → IsSpare i → ⊥
    not_spare i six seven (inl is) = six is
    not_spare i six seven (inr is) = seven is

    alike : SameButSlots (seen_words (outside is_b) image) (seen_words (outside is_b) left)
    alike = record {
      size = each.size;
      magic = at 0 (not_spare 0 (λ e. omega (arith, e)) (λ e. omega (arith, e)));
      count = at 1 (not_spare 1 (λ e. omega (arith, e)) (λ e. omega (arith, e)));
      root = at 2 (not_spare 2 (λ e. omega (arith, e)) (λ e. omega (arith, e)));
      bytes = at 3 (not_spare 3 (λ e. omega (arith, e)) (λ e. omega (arith, e)));
      past = λ i high. at i (not_spare i (λ e. omega (arith, e, high)) (λ e. omega (arith, e, high)));
    }

    magic_left : word left 0 ≡ magic_of (outside is_b)
    magic_left = sym (stored-first (outside is_b) left left_wide) ∙ ap (swapped (outside is_b) 0) alike.magic ∙ stored-first (outside is_b) image wide ∙ marked

    second : has_snapshot (seen_words (outside is_b) left) ≡ has_snapshot (seen_words (outside is_b) image)
    second =
        let five = at 5 (not_spare 5 (λ e. omega (arith, e)) (λ e. omega (arith, e))) in
        λ i. allows_snapshot (version_at (alike.magic i)) && nat_lt 0 (at 5 (not_spare 5 (λ e. omega (arith, e)) (λ e. omega (arith, e))) i)

    spare_left : SameDurable left image
    spare_left =
        subst (λ other. SameFiles other (by_roles image)) (sym (by_outside is_b left magic_left))
        (subst (λ other. SameFiles (seen_words (outside is_b) left) other) (sym (by_outside is_b image marked)) (record {
          first = same_symmetric (seen_words (outside is_b) image) (seen_words (outside is_b) left) (same_but_slots (seen_words (outside is_b) image) (seen_words (outside is_b) left) wf alike);
          second = record { there = sym second; same = λ has. absurd (true≢false (sym has ∙ second ∙ alone)) };
        }))

  part_is : (part : List Event) → StoresMay (AnyAt IsSpare) (seen_events (outside is_b) part) → SameDurable (words_after image part) image
  part_is part may =
      spare_left (words_after image part) (omega (arith, length-words_after image part, wide))
      (subst (EachMay (AnyAt IsSpare) (seen_words (outside is_b) image)) (sym (seen-words_after (outside is_b) image part wide))
      (EachMay-stored (AnyAt IsSpare) (seen_words (outside is_b) image) (seen_events (outside is_b) part) may))

  pub spare_right : CrashRight SameDurable image events
  spare_right = record {
    each = λ cut right.
        subst (λ es. SameDurable (words_after image es) (after_calls image events (kept_calls events cut))) (sym (kept_stores_right events cut right))
        (durable_transitive (words_after image (stores_of cut.epoch cut.mask events)) image (after_calls image events (kept_calls events cut))
        (part_is (stores_of cut.epoch cut.mask events)
        (subst (StoresMay (AnyAt IsSpare)) (seen-stores_of (outside is_b) cut.epoch cut.mask events) (StoresMay-stores_of (AnyAt IsSpare) (seen_events (outside is_b) events) cut.epoch cut.mask spare)))
        (durable_symmetric (after_calls image events (kept_calls events cut)) image
        (part_is (up_to_call_end (kept_calls events cut) events)
        (subst (StoresMay (AnyAt IsSpare)) (seen-up_to_call_end (outside is_b) (kept_calls events cut) events) (StoresMay-up_to_call_end (AnyAt IsSpare) (kept_calls events cut) (seen_events (outside is_b) events) spare)))));
  }
