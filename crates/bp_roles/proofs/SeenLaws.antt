-- Words, logs and memories as they are seen: the words after a log are seen as the seen words after the seen log, and a
-- crash of one is a crash of the other that keeps the same calls.
use Rattle.std.proofs.Common.{◌≡◌, ℕ, zero, suc, ◌-◌, ◌<◌, ◌≤◌, inl, inr, Bool, true, false, List, [], ◌∷◌, length, take, set, get_or, refl, sym, ◌∙◌, ap, subst, arith, get_or-set_same, get_or-set_other}
use Rattle.std.proofs.lemmas.List.{length-set, length-map, map-append, take-map, get_or_past, ext_get_or}
use Rattle.std.proofs.lemmas.List.FromFn.{length-map-range_with_len, get_or-map-range_with_len}
use Rattle.std.proofs.lemmas.Bool.{cases_eq, cases_lt}
use Rattle.pm_epochs.specs.declared.event.Event.{Event}
use Rattle.pm_epochs.specs.declared.event.Event.TheVariants.{Store, Barrier, CallEnd}
use Rattle.pm_epochs.specs.Log.{words_after, barriers, call_ends, epoch_stores, up_to_call_end, IsClosed}
use Rattle.pm_epochs.specs.Replay.{PowerCut, IsRight, stores_of, call_ends_of, kept_calls, replay, after_calls}
use Rattle.pm_epochs.proofs.CrashLaws.{length-words_after}
use Rattle.pm_region.specs.Epochs.{epoch_start}
use Rattle.pm_region.specs.Memory.{Memory, Adds, current_words, room_in, drained, crashed, AreWithin}
use Rattle.bp_roles.specs.Roles.{stored_at, seen_at, swapped}
use Rattle.bp_roles.specs.Seen.{seen_words, seen_event, seen_events, seen_memory, IsWide}
use Rattle.bp_roles.specs.declared.roles.Roles.{Roles}
use Rattle.bp_roles.proofs.PlaceLaws.{stored_at-seen_at, seen_at-stored_at, stored_at-zero, stored_at-past, seen_at-past, stored_at-low, seen_at-low}
use Rattle.bp_roles.proofs.SwapLaws.{swapped-past, swapped-twice}

-- ## Words

pub length-seen : (roles : Roles) (words : List ℕ) → length (seen_words roles words) ≡ length words
unfolding seen_words
length-seen roles words = length-map-range_with_len (λ i. swapped roles i (get_or words (stored_at roles i) 0)) 0 (length words)

seen-word_inside : (roles : Roles) (words : List ℕ) (i : ℕ) → i < length words → get_or (seen_words roles words) i 0 ≡ swapped roles i (get_or words (stored_at roles i) 0)
unfolding seen_words
seen-word_inside roles words i low = get_or-map-range_with_len (λ k. swapped roles k (get_or words (stored_at roles k) 0)) 0 (length words) i i 0 low (omega arith)

-- the value of each seen word, also past the end
pub seen-word : (roles : Roles) (words : List ℕ) (i : ℕ) → 8 ≤ length words → get_or (seen_words roles words) i 0 ≡ swapped roles i (get_or words (stored_at roles i) 0)
seen-word roles words i wide = elim (cases_lt i (length words)) [
  | inl low ↦ seen-word_inside roles words i low
  | inr past ↦
      get_or_past (seen_words roles words) i 0 (omega (arith, length-seen roles words, past))
      ∙ sym (get_or_past words i 0 past)
      ∙ ap (λ p. get_or words p 0) (sym (stored_at-past roles i (omega (arith, past, wide))))
      ∙ sym (swapped-past roles i (get_or words (stored_at roles i) 0) (omega (arith, past, wide)))
]

-- the stored word 0 is the seen one, swapped
pub stored-first : (roles : Roles) (words : List ℕ) → 8 ≤ length words → swapped roles 0 (get_or (seen_words roles words) 0 0) ≡ get_or words 0 0
stored-first roles words wide =
    ap (swapped roles 0) (seen-word roles words 0 wide ∙ ap (λ p. swapped roles 0 (get_or words p 0)) (stored_at-zero roles)) ∙ swapped-twice roles 0 (get_or words 0 0)

-- a word past the first 8 is seen as it is stored
pub seen-word_past : (roles : Roles) (words : List ℕ) (i : ℕ) → 8 ≤ length words → 8 ≤ i → get_or (seen_words roles words) i 0 ≡ get_or words i 0
seen-word_past roles words i wide past =
    seen-word roles words i wide ∙ swapped-past roles i (get_or words (stored_at roles i) 0) (omega (arith, past)) ∙ ap (λ p. get_or words p 0) (stored_at-past roles i past)

-- the place where a word of the memory is stored is in the memory too
pub stored_at-inside : (roles : Roles) (n word : ℕ) → 8 ≤ n → word < n → stored_at roles word < n
stored_at-inside roles n word wide low = elim (cases_lt word 8) [
  | inl head ↦ omega (arith, stored_at-low roles word head, wide)
  | inr past ↦ omega (arith, stored_at-past roles word past, low)
]

pub seen_at-inside : (roles : Roles) (n word : ℕ) → 8 ≤ n → word < n → seen_at roles word < n
seen_at-inside roles n word wide low = elim (cases_lt word 8) [
  | inl head ↦ omega (arith, seen_at-low roles word head, wide)
  | inr past ↦ omega (arith, seen_at-past roles word past, low)
]

-- setting a word sets the word at which it is seen
pub seen-set : (roles : Roles) (words : List ℕ) (word value : ℕ) → 8 ≤ length words → seen_words roles (set words word value) ≡ set (seen_words roles words) (seen_at roles word) (swapped roles (seen_at roles word) value)
seen-set roles words word value wide = ext_get_or 0 _ _ sizes each
  where
    size : length (set words word value) ≡ length words
    size = length-set words word value

    sizes : length (seen_words roles (set words word value)) ≡ length (set (seen_words roles words) (seen_at roles word) (swapped roles (seen_at roles word) value))
    sizes = length-seen roles (set words word value) ∙ size ∙ sym (length-seen roles words) ∙ sym (length-set (seen_words roles words) (seen_at roles word) (swapped roles (seen_at roles word) value))

    here : seen_at roles word < length (seen_words roles words) → get_or (set words word value) (stored_at roles (seen_at roles word)) 0 ≡ value
    here low =
        ap (λ p. get_or (set words word value) p 0) (stored_at-seen_at roles word)
        ∙ get_or-set_same words word value 0 (subst (λ p. p < length words) (stored_at-seen_at roles word) (stored_at-inside roles (length words) (seen_at roles word) wide (omega (arith, low, length-seen roles words))))

    each : (i : ℕ) → i < length (seen_words roles (set words word value)) → get_or (seen_words roles (set words word value)) i 0 ≡ get_or (set (seen_words roles words) (seen_at roles word) (swapped roles (seen_at roles word) value)) i 0
    each i low = elim (cases_eq i (seen_at roles word)) [
      | inl same ↦
          let inside : seen_at roles word < length (seen_words roles words) = omega (arith, low, same, size, length-seen roles (set words word value), length-seen roles words) in
          subst (λ k. get_or (seen_words roles (set words word value)) k 0 ≡ get_or (set (seen_words roles words) (seen_at roles word) (swapped roles (seen_at roles word) value)) k 0) (sym same)
          (seen-word roles (set words word value) (seen_at roles word) (omega (arith, size, wide))
          ∙ ap (swapped roles (seen_at roles word)) (here inside)
          ∙ sym (get_or-set_same (seen_words roles words) (seen_at roles word) (swapped roles (seen_at roles word) value) 0 inside))
      | inr differ ↦
          seen-word roles (set words word value) i (omega (arith, size, wide))
          ∙ ap (swapped roles i) (get_or-set_other words word (stored_at roles i) value 0 (λ e. differ (sym (seen_at-stored_at roles i) ∙ ap (seen_at roles) e)))
          ∙ sym (seen-word roles words i wide)
          ∙ sym (get_or-set_other (seen_words roles words) (seen_at roles word) i (swapped roles (seen_at roles word) value) 0 differ)
    ]

-- ## Logs

pub seen-words_after : (roles : Roles) (words : List ℕ) (events : List Event) → 8 ≤ length words → seen_words roles (words_after words events) ≡ words_after (seen_words roles words) (seen_events roles events)
seen-words_after roles words [] wide = refl
seen-words_after roles words (Store word value ∷ events) wide =
    seen-words_after roles (set words word value) events (omega (arith, length-set words word value, wide))
    ∙ ap (λ ws. words_after ws (seen_events roles events)) (seen-set roles words word value wide)
seen-words_after roles words (Barrier ∷ events) wide = seen-words_after roles words events wide
seen-words_after roles words (CallEnd ∷ events) wide = seen-words_after roles words events wide

pub seen-barriers : (roles : Roles) (events : List Event) → barriers (seen_events roles events) ≡ barriers events
seen-barriers roles [] = refl
seen-barriers roles (Store word value ∷ events) = seen-barriers roles events
seen-barriers roles (Barrier ∷ events) = ap suc (seen-barriers roles events)
seen-barriers roles (CallEnd ∷ events) = seen-barriers roles events

pub seen-call_ends : (roles : Roles) (events : List Event) → call_ends (seen_events roles events) ≡ call_ends events
seen-call_ends roles [] = refl
seen-call_ends roles (Store word value ∷ events) = seen-call_ends roles events
seen-call_ends roles (Barrier ∷ events) = seen-call_ends roles events
seen-call_ends roles (CallEnd ∷ events) = ap suc (seen-call_ends roles events)

pub seen-epoch_stores : (roles : Roles) (epoch : ℕ) (events : List Event) → epoch_stores epoch (seen_events roles events) ≡ epoch_stores epoch events
seen-epoch_stores roles zero [] = refl
seen-epoch_stores roles (suc epoch) [] = refl
seen-epoch_stores roles zero (Store word value ∷ events) = ap suc (seen-epoch_stores roles zero events)
seen-epoch_stores roles (suc epoch) (Store word value ∷ events) = seen-epoch_stores roles (suc epoch) events
seen-epoch_stores roles zero (Barrier ∷ events) = refl
seen-epoch_stores roles (suc epoch) (Barrier ∷ events) = seen-epoch_stores roles epoch events
seen-epoch_stores roles zero (CallEnd ∷ events) = seen-epoch_stores roles zero events
seen-epoch_stores roles (suc epoch) (CallEnd ∷ events) = seen-epoch_stores roles (suc epoch) events

pub seen-epoch_start : (roles : Roles) (epoch : ℕ) (events : List Event) → epoch_start epoch (seen_events roles events) ≡ epoch_start epoch events
seen-epoch_start roles zero events = refl
seen-epoch_start roles (suc epoch) [] = refl
seen-epoch_start roles (suc epoch) (Store word value ∷ events) = ap suc (seen-epoch_start roles (suc epoch) events)
seen-epoch_start roles (suc epoch) (Barrier ∷ events) = ap suc (seen-epoch_start roles epoch events)
seen-epoch_start roles (suc epoch) (CallEnd ∷ events) = ap suc (seen-epoch_start roles (suc epoch) events)

pub seen-up_to_call_end : (roles : Roles) (count : ℕ) (events : List Event) → up_to_call_end count (seen_events roles events) ≡ seen_events roles (up_to_call_end count events)
seen-up_to_call_end roles zero events = refl
seen-up_to_call_end roles (suc count) [] = refl
seen-up_to_call_end roles (suc count) (Store word value ∷ events) = ap (λ es. seen_event roles (Store word value) ∷ es) (seen-up_to_call_end roles (suc count) events)
seen-up_to_call_end roles (suc count) (Barrier ∷ events) = ap (λ es. Barrier ∷ es) (seen-up_to_call_end roles (suc count) events)
seen-up_to_call_end roles (suc count) (CallEnd ∷ events) = ap (λ es. CallEnd ∷ es) (seen-up_to_call_end roles count events)

pub seen-closed : (roles : Roles) (events : List Event) → IsClosed events → IsClosed (seen_events roles events)
seen-closed roles [] closed = tt
seen-closed roles (Store word value ∷ events) closed = (omega (arith, seen-barriers roles events, closed.0), seen-closed roles events closed.1)
seen-closed roles (Barrier ∷ events) closed = seen-closed roles events closed
seen-closed roles (CallEnd ∷ events) closed = seen-closed roles events closed

pub closed-seen : (roles : Roles) (events : List Event) → IsClosed (seen_events roles events) → IsClosed events
closed-seen roles [] closed = tt
closed-seen roles (Store word value ∷ events) closed = (omega (arith, seen-barriers roles events, closed.0), closed-seen roles events closed.1)
closed-seen roles (Barrier ∷ events) closed = closed-seen roles events closed
closed-seen roles (CallEnd ∷ events) closed = closed-seen roles events closed

pub seen-within : (roles : Roles) (count : ℕ) (events : List Event) → 8 ≤ count → AreWithin count events → AreWithin count (seen_events roles events)
seen-within roles count [] wide within = tt
seen-within roles count (Store word value ∷ events) wide within = (seen_at-inside roles count word wide within.0, seen-within roles count events wide within.1)
seen-within roles count (Barrier ∷ events) wide within = seen-within roles count events wide within
seen-within roles count (CallEnd ∷ events) wide within = seen-within roles count events wide within

-- ## Crashes

pub seen-stores_of : (roles : Roles) (epoch : ℕ) (mask : List Bool) (events : List Event) → stores_of epoch mask (seen_events roles events) ≡ seen_events roles (stores_of epoch mask events)
seen-stores_of roles epoch mask [] = refl
seen-stores_of roles zero [] (Store word value ∷ events) = refl
seen-stores_of roles zero (true ∷ mask) (Store word value ∷ events) = ap (λ es. seen_event roles (Store word value) ∷ es) (seen-stores_of roles zero mask events)
seen-stores_of roles zero (false ∷ mask) (Store word value ∷ events) = seen-stores_of roles zero mask events
seen-stores_of roles (suc epoch) mask (Store word value ∷ events) = ap (λ es. seen_event roles (Store word value) ∷ es) (seen-stores_of roles (suc epoch) mask events)
seen-stores_of roles zero mask (Barrier ∷ events) = refl
seen-stores_of roles (suc epoch) mask (Barrier ∷ events) = seen-stores_of roles epoch mask events
seen-stores_of roles epoch mask (CallEnd ∷ events) = seen-stores_of roles epoch mask events

pub seen-call_ends_of : (roles : Roles) (epoch : ℕ) (mask : List Bool) (events : List Event) → call_ends_of epoch mask (seen_events roles events) ≡ call_ends_of epoch mask events
seen-call_ends_of roles epoch mask [] = refl
seen-call_ends_of roles zero [] (Store word value ∷ events) = refl
seen-call_ends_of roles zero (true ∷ mask) (Store word value ∷ events) = seen-call_ends_of roles zero mask events
seen-call_ends_of roles zero (false ∷ mask) (Store word value ∷ events) = refl
seen-call_ends_of roles (suc epoch) mask (Store word value ∷ events) = seen-call_ends_of roles (suc epoch) mask events
seen-call_ends_of roles zero mask (Barrier ∷ events) = seen-call_ends_of roles zero [] events
seen-call_ends_of roles (suc epoch) mask (Barrier ∷ events) = seen-call_ends_of roles epoch mask events
seen-call_ends_of roles epoch mask (CallEnd ∷ events) = ap suc (seen-call_ends_of roles epoch mask events)

pub seen-kept_calls : (roles : Roles) (events : List Event) (cut : PowerCut) → kept_calls (seen_events roles events) cut ≡ kept_calls events cut
seen-kept_calls roles events cut = seen-call_ends_of roles cut.epoch cut.mask events

pub seen-right : (roles : Roles) (events : List Event) (cut : PowerCut) → IsRight events cut → IsRight (seen_events roles events) cut
seen-right roles events cut right =
    let front = take-map (seen_event roles) cut.moment events in
    record {
      moment = omega (arith, length-map events (seen_event roles), right.moment);
      epoch = rw (front, seen-barriers roles (take cut.moment events)) right.epoch;
      mask = rw (front, seen-epoch_stores roles cut.epoch (take cut.moment events)) right.mask;
    }

pub right-seen : (roles : Roles) (events : List Event) (cut : PowerCut) → IsRight (seen_events roles events) cut → IsRight events cut
right-seen roles events cut right =
    let front = take-map (seen_event roles) cut.moment events in
    record {
      moment = omega (arith, length-map events (seen_event roles), right.moment);
      epoch = rw (front, seen-barriers roles (take cut.moment events)) at right.epoch;
      mask = rw (front, seen-epoch_stores roles cut.epoch (take cut.moment events)) at right.mask;
    }

pub seen-replay : (roles : Roles) (base : List ℕ) (events : List Event) (cut : PowerCut) → 8 ≤ length base → seen_words roles (replay base events cut) ≡ replay (seen_words roles base) (seen_events roles events) cut
seen-replay roles base events cut wide =
    seen-words_after roles base (stores_of cut.epoch cut.mask (take cut.moment events)) wide
    ∙ ap (words_after (seen_words roles base))
    (sym (seen-stores_of roles cut.epoch cut.mask (take cut.moment events))
    ∙ ap (stores_of cut.epoch cut.mask) (sym (take-map (seen_event roles) cut.moment events)))

pub seen-after_calls : (roles : Roles) (base : List ℕ) (events : List Event) (count : ℕ) → 8 ≤ length base → seen_words roles (after_calls base events count) ≡ after_calls (seen_words roles base) (seen_events roles events) count
seen-after_calls roles base events count wide =
    seen-words_after roles base (up_to_call_end count events) wide ∙ ap (words_after (seen_words roles base)) (sym (seen-up_to_call_end roles count events))

-- ## Memories

pub seen-current : (roles : Roles) (memory : Memory) → IsWide memory → current_words (seen_memory roles memory) ≡ seen_words roles (current_words memory)
seen-current roles memory wide = sym (seen-words_after roles memory.base memory.events wide)

pub seen-room : (roles : Roles) (memory : Memory) → room_in (seen_memory roles memory) ≡ room_in memory
seen-room roles memory = ap (λ n. memory.capacity - n) (length-map memory.events (seen_event roles))

pub seen-adds : (roles : Roles) (old new : Memory) (more : List Event) → Adds old new more → Adds (seen_memory roles old) (seen_memory roles new) (seen_events roles more)
seen-adds roles old new more added =
    ap (seen_memory roles) added ∙ ap (λ es. record (seen_memory roles old) { events = es }) (map-append (seen_event roles) old.events more)

pub seen-drained : (roles : Roles) (memory : Memory) → IsWide memory → seen_memory roles (drained memory) ≡ drained (seen_memory roles memory)
seen-drained roles memory wide = ap (λ ws. record (drained (seen_memory roles memory)) { base = ws }) (sym (seen-current roles memory wide))

pub seen-crashed : (roles : Roles) (memory : Memory) (cut : PowerCut) → IsWide memory → seen_memory roles (crashed memory cut) ≡ crashed (seen_memory roles memory) cut
seen-crashed roles memory cut wide = ap (λ ws. record (crashed (seen_memory roles memory) cut) { base = ws }) (seen-replay roles memory.base memory.events cut wide)

-- events leave the number of words as it is
pub wide-adds : (old new : Memory) (more : List Event) → Adds old new more → IsWide old → IsWide new
wide-adds old new more added wide = omega (arith, ap (λ (m : Memory). length m.base) added, wide)

pub wide-drained : (memory : Memory) → IsWide memory → IsWide (drained memory)
wide-drained memory wide = omega (arith, length-words_after memory.base memory.events, wide)

pub wide-crashed : (memory : Memory) (cut : PowerCut) → IsWide memory → IsWide (crashed memory cut)
wide-crashed memory cut wide = omega (arith, length-words_after memory.base (stores_of cut.epoch cut.mask (take cut.moment memory.events)), wide)
