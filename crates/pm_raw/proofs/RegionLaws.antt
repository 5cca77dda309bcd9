-- Memories that are stated by the words now and an undo log.
use Rattle.std.proofs.Common.{◌≡◌, ℕ, zero, suc, ◌+◌, ◌≤◌, List, [], ◌∷◌, ◌++◌, length, take, drop, set, refl, sym, ◌∙◌, ap, arith}
use Rattle.std.specs.List.{range_with_len}
use Rattle.std.proofs.lemmas.List.{append_assoc, drop-set-lt, length-append, length-drop, length-set, length-take-le, take-append-drop, take_more_set}
use Rattle.std.proofs.lemmas.List.FromFn.{length-range_with_len}
use Rattle.pm_epochs.specs.declared.event.Event.{Event}
use Rattle.pm_epochs.specs.Log.{words_after}
use Rattle.pm_epochs.proofs.CrashLaws.{length-words_after}
use Rattle.pm_region.specs.Memory.{AreWithin, Memory, stores_from, with_values}
use Rattle.pm_region.proofs.MemoryLaws.{with_values-none}
use Rattle.pm_region.proofs.WithinLaws.{within-append, within-none, within-run, within-same}
use Rattle.pm_raw.specs.declared.region.RawRegion.TheInside.{Inside}
use Rattle.pm_raw.specs.Entries.{Entered, events_of}
use Rattle.pm_raw.specs.Places.{is_barrier, is_call_end}
use Rattle.pm_raw.specs.RawRegion.{IsConsistent, barriers_of, call_ends_placed, raw_memory, undos_of}
use Rattle.pm_raw.specs.Unwound.{base_from, erased, events_from, undo_of}
use Rattle.pm_raw.proofs.EntryLaws.{events_of-run, length_events, log-pushed}
use Rattle.pm_raw.proofs.KindLaws.{erased-events}
use Rattle.pm_raw.proofs.PlaceLaws.{placed-none, placed-stores}
use Rattle.pm_raw.proofs.UnwoundLaws.{base-pushed, events-pushed, length-base, length-events, undo-run}

-- a block written at once is written word by word
pub with_values-stores : (words values : List ℕ) (first : ℕ) → first + length values ≤ length words → with_values words first values ≡ words_after words (stores_from first values)
with_values-stores words [] first fits = with_values-none words first
with_values-stores words (value ∷ values) first fits =
    let next = set words first value in
    let place : first + length (value ∷ values) ≡ (first + 1) + length values = omega arith in
    let suffix = drop ((first + 1) + length values) in
    ap (λ n. take first words ++ ((value ∷ values) ++ drop n words)) place
    ∙ sym (append_assoc (take first words) (value ∷ []) (values ++ suffix words))
    ∙ ap (λ prefix. prefix ++ (values ++ suffix words)) (sym (take_more_set words first value (omega arith)))
    ∙ ap (λ ws. take (first + 1) next ++ (values ++ ws)) (sym (drop-set-lt ((first + 1) + length values) words first value (omega arith)))
    ∙ with_values-stores next values (first + 1) (omega (arith, length-set words first value))

abbrev pub memory_of : List ℕ → List Event → ℕ → ℕ → Memory
memory_of base events capacity drains = record { base = base; events = events; capacity = capacity; drains = drains; through = 0 }

abbrev pub memory_from : List ℕ → List Event → ℕ → ℕ → Memory
memory_from now undos capacity drains = memory_of (base_from now undos) (events_from now undos) capacity drains

-- how many events there are
pub count-events : (now words saved : List ℕ) → length saved ≡ length words → length (events_from now (events_of words saved)) ≡ length words
count-events now words saved counted = length-events now (events_of words saved) ∙ length_events words saved counted

-- events are done, and stand after the undo log with what they replaced
pub memory-pushed : (old : Memory) (now next : List ℕ) (undos new_undos more : List Event) (capacity new_capacity drains : ℕ) → memory_from now undos capacity drains ≡ old
    → next ≡ words_after now more → new_undos ≡ undos ++ undo_of now more → AreWithin (length now) more → new_capacity ≡ capacity → memory_from next new_undos new_capacity drains ≡ record old { events = old.events ++ more }
memory-pushed old now next undos new_undos more capacity new_capacity drains is next_is undos_are within capacity_is =
    ap (λ ws. memory_of ws (events_from next new_undos) new_capacity drains) (base-pushed now next undos new_undos more next_is undos_are)
    ∙ ap (λ es. memory_of (base_from now undos) es new_capacity drains) (events-pushed now next undos new_undos more next_is undos_are within)
    ∙ ap (λ n. memory_of (base_from now undos) (events_from now undos ++ more) n drains) capacity_is
    ∙ ap (λ (m : Memory). record m { events = m.events ++ more }) is

-- ## What a consistent region reports

-- how many words, events and places a memory has, by the parts of its region
pub record HasSizes (region : Inside) (memory : Memory) : Type 0 where
  pub base : length memory.base ≡ length region.current
  pub events : length memory.events ≡ length region.entries.words
  pub capacity : memory.capacity ≡ region.entries.room
  pub undos : length (undos_of region) ≡ length region.entries.words

-- a consistent region reports them
pub sizes : (region : Inside) (memory : Memory) → IsConsistent region → raw_memory region ≡ memory → HasSizes region memory
sizes region memory step is = record {
  base = sym (ap (λ (m : Memory). length m.base) is) ∙ length-base region.current (undos_of region);
  events = sym (ap (λ (m : Memory). length m.events) is) ∙ count-events region.current region.entries.words region.entries.saved step.counted;
  capacity = sym (ap (λ (m : Memory). m.capacity) is);
  undos = length_events region.entries.words region.entries.saved step.counted;
}

-- the next region has events with these words and saved values after those of the first one
pub record IsPushed (region next : Inside) (words saved : List ℕ) : Type 0 where
  pub words_are : next.entries.words ≡ region.entries.words ++ words
  pub saved_are : next.entries.saved ≡ region.entries.saved ++ saved
  pub room : next.entries.room ≡ region.entries.room
  pub each : length saved ≡ length words
  pub fits : length region.entries.words + length words ≤ region.entries.room
  pub same : length next.current ≡ length region.current
  pub within : AreWithin (length region.current) (events_of words saved)

module _ (region next : Inside) (words saved : List ℕ) (step : IsConsistent region) (pushed : IsPushed region next words saved) where
  -- the undos of these events stand after the others
  pub undos-pushed : undos_of next ≡ undos_of region ++ events_of words saved
  undos-pushed = log-pushed region.entries.words region.entries.saved _ _ words saved step.counted pushed.words_are pushed.saved_are

  -- the next region is consistent, where its barriers and marks are known
  pub consistent-pushed : next.barriers ≡ barriers_of next → next.call_ends ≡ call_ends_placed next → IsConsistent next
  consistent-pushed barriers call_ends =
      let long = ap length pushed.words_are ∙ length-append region.entries.words words in
      let saved_long = ap length pushed.saved_are ∙ length-append region.entries.saved saved in
      let all = within-append (length region.current) (undos_of region) (events_of words saved) step.within pushed.within in
      record {
        barriers = barriers;
        call_ends = call_ends;
        within = within-same (length region.current) _ (undos_of region ++ events_of words saved) _ (sym pushed.same) (sym undos-pushed) all;
        few = omega (arith, pushed.same, step.few);
        counted = omega (arith, long, saved_long, pushed.each, step.counted);
        fits = omega (arith, pushed.fits, long, pushed.room);
        small = omega (arith, pushed.room, step.small);
      }

-- the next region has a run of stores done, from the word `first` on
pub record IsStored (region next : Inside) (first : ℕ) (run : List ℕ) : Type 0 where
  pub inside : first + length run ≤ length region.current
  pub fits : length region.entries.words + length run ≤ region.entries.room
  pub now : next.current ≡ words_after region.current (stores_from first run)
  pub words : next.entries.words ≡ region.entries.words ++ range_with_len first (length run)
  pub saved : next.entries.saved ≡ region.entries.saved ++ take (length run) (drop first region.current)
  pub room : next.entries.room ≡ region.entries.room
  pub barriers : next.barriers ≡ region.barriers
  pub call_ends : next.call_ends ≡ region.call_ends
  pub drains : next.drains ≡ region.drains

module _ (region next : Inside) (first : ℕ) (run : List ℕ) (step : IsConsistent region) (stored : IsStored region next first run) where
  -- the values that the run replaces
  abbrev olds : List ℕ
  olds = take (length run) (drop first region.current)

  -- they are as many as its own
  length-olds : length olds ≡ length run
  length-olds = length-take-le (length run) (drop first region.current) (omega (arith, stored.inside, length-drop first region.current))

  -- what undoes the run are stores of what it replaced
  undos-run : events_of (range_with_len first (length run)) olds ≡ stores_from first olds
  undos-run =
      ap (λ n. events_of (range_with_len first n) olds) (sym length-olds)
      ∙ events_of-run first olds (omega (arith, stored.inside, step.few, length-olds))

  -- so the run is pushed after the other events
  run-pushed : IsPushed region next (range_with_len first (length run)) olds
  run-pushed =
      let many = length-range_with_len first (length run) in
      record {
        words_are = stored.words;
        saved_are = stored.saved;
        room = stored.room;
        each = length-olds ∙ sym many;
        fits = omega (arith, stored.fits, many);
        same = ap length stored.now ∙ length-words_after region.current (stores_from first run);
        within = within-same (length region.current) (length region.current) (stores_from first olds) _ refl (sym undos-run)
            (within-run (length region.current) first olds (omega (arith, stored.inside, length-olds)));
      }

  -- and its undos stand after theirs
  undos-stored : undos_of next ≡ undos_of region ++ stores_from first olds
  undos-stored = undos-pushed region next (range_with_len first (length run)) olds step run-pushed ∙ ap (λ es. undos_of region ++ es) undos-run

  -- stores are no barriers and no marks, so the next region is consistent
  pub consistent-stored : IsConsistent next
  consistent-stored = consistent-pushed region next (range_with_len first (length run)) olds step run-pushed
      (stored.barriers ∙ placed-stores is_barrier region.barriers (undos_of region) (undos_of next) first olds region.entries.room next.entries.room
      (λ place value. refl) undos-stored stored.room step.barriers)
      (stored.call_ends ∙ placed-stores is_call_end region.call_ends (undos_of region) (undos_of next) first olds region.entries.room next.entries.room
      (λ place value. refl) undos-stored stored.room step.call_ends)

  -- and its memory has the run in its log
  pub memory-stored : (memory : Memory) → raw_memory region ≡ memory → raw_memory next ≡ record memory { events = memory.events ++ stores_from first run }
  memory-stored memory is =
      let undone = undos-stored ∙ sym (ap (λ es. undos_of region ++ es) (undo-run region.current run first stored.inside)) in
      ap (λ n. memory_from next.current (undos_of next) next.entries.room n) stored.drains
      ∙ memory-pushed memory region.current next.current (undos_of region) (undos_of next) (stores_from first run) region.entries.room next.entries.room
      region.drains is stored.now undone (within-run (length region.current) first run stored.inside) stored.room

-- ## Logs that are emptied, and unwound

-- a memory whose log is empty
pub memory-emptied : (now : List ℕ) (entries : Entered) (size room drains : ℕ) → entries ≡ record { words = []; saved = []; room = size } → size ≡ room
    → memory_from now (events_of entries.words entries.saved) entries.room drains ≡ memory_of now [] room drains
memory-emptied now entries size room drains none size_is =
    ap (λ (e : Entered). memory_from now (events_of e.words e.saved) e.room drains) none
    ∙ ap (λ n. memory_of now [] n drains) size_is

-- a region stays consistent where its log is emptied
pub consistent-emptied : (region next : Inside) (size : ℕ) → IsConsistent region → length next.current ≡ length region.current
    → next.entries ≡ record { words = []; saved = []; room = size } → size ≡ region.entries.room
    → next.barriers ≡ record { items = []; room = region.barriers.room } → next.call_ends ≡ record { items = []; room = region.call_ends.room }
    → IsConsistent next
consistent-emptied region next size step same cleared size_is barriers call_ends =
    let none = ap (λ (e : Entered). events_of e.words e.saved) cleared in
    let room = ap (λ (e : Entered). e.room) cleared ∙ size_is in
    record {
      barriers = placed-none is_barrier region.barriers next.barriers (undos_of region) (undos_of next) region.entries.room _ none room step.barriers barriers;
      call_ends = placed-none is_call_end region.call_ends next.call_ends (undos_of region) (undos_of next) region.entries.room _ none room step.call_ends call_ends;
      within = within-none (length next.current) (undos_of next) none;
      few = omega (arith, same, step.few);
      counted = ap (λ (e : Entered). length e.saved) cleared ∙ sym (ap (λ (e : Entered). length e.words) cleared);
      fits = omega (arith, ap (λ (e : Entered). length e.words) cleared);
      small = omega (arith, room, step.small);
    }

-- an undo log has the events of the memory except for the values of stores
pub erased-log : (region : Inside) (memory : Memory) (log : List Event) → raw_memory region ≡ memory → log ≡ undos_of region
    → erased log ≡ erased memory.events
erased-log region memory log is log_is =
    ap erased log_is ∙ sym (erased-events region.current (undos_of region)) ∙ ap (λ (m : Memory). erased m.events) is

-- words are changed while the log is empty
pub no-undos : (now : List ℕ) (undos : List Event) → events_from now undos ≡ [] → undos ≡ []
no-undos now undos none = empty undos (sym (length-events now undos) ∙ ap length none)
  where
    empty : (undos : List Event) → length undos ≡ 0 → undos ≡ []
    empty [] is = refl
    empty (event ∷ undos) is = absurd (omega (arith, is))

pub memory-adopted : (old : Memory) (now next : List ℕ) (undos : List Event) (capacity drains : ℕ) → memory_from now undos capacity drains ≡ old → undos ≡ [] → memory_from next undos capacity drains ≡ record old { base = next }
memory-adopted old now next undos capacity drains is none =
    ap (λ es. memory_from next es capacity drains) none
    ∙ sym (ap (λ es. memory_of next (events_from now es) capacity drains) none)
    ∙ ap (λ (m : Memory). record m { base = next }) is

-- a log whose end is unwound has as many events
pub unwound-long : (now : List ℕ) (undos : List Event) (start : ℕ) → length (take start undos ++ events_from now (drop start undos)) ≡ length undos
unwound-long now undos start =
    length-append (take start undos) (events_from now (drop start undos))
    ∙ ap (λ n. length (take start undos) + n) (length-events now (drop start undos))
    ∙ sym (length-append (take start undos) (drop start undos))
    ∙ ap length (take-append-drop start undos)

-- a log whose end is unwound is there the log that was undone
pub unwound-part : (start moment : ℕ) (undos events : List Event) → length undos ≡ length events → drop start (take moment (take start undos ++ drop start events)) ≡ drop start (take moment events)
unwound-part zero moment undos events same = refl
unwound-part (suc start) zero undos events same = refl
unwound-part (suc start) (suc moment) [] [] same = refl
unwound-part (suc start) (suc moment) [] (event ∷ events) same = absurd (omega (arith, same))
unwound-part (suc start) (suc moment) (undo ∷ undos) [] same = absurd (omega (arith, same))
unwound-part (suc start) (suc moment) (undo ∷ undos) (event ∷ events) same = unwound-part start moment undos events (omega (arith, same))
