use Rattle.std.proofs.Common.{◌≡◌, ◌∙◌, [], ◌∷◌, ◌++◌, ap, arith, length, refl}
use Rattle.pm_raw.specs.declared.region.RawRegion.TheInside.{Inside}
use Rattle.pm_raw.specs.Entries.{no_word, signal_of}
use Rattle.pm_raw.specs.Places.{is_barrier, is_call_end}
use Rattle.pm_raw.specs.RawRegion.{undos_of}
use Rattle.pm_raw.proofs.EntryLaws.{within-signal}
use Rattle.pm_raw.proofs.PlaceLaws.{placed-more, placed-room}
use Rattle.pm_raw.proofs.RegionLaws.{IsPushed, consistent-pushed, memory-pushed, sizes, undos-pushed}
use Rattle.pm_raw.proofs.UnwoundLaws.{after-signal, undo-signal}
use Rattle.pm_raw.proofs.region.RawRegion.push_signal.Goals.{After-push}
use Rattle.pm_raw.proofs.region.RawRegion.push_signal.Goals as goal

pub push-requires : goal.push-requires
push-requires c =
    let reported = sizes c.self.inside _ c.self.invariant c.self.view_is in
    omega (arith, c.requires, reported.events, reported.capacity)

pub note_signal-requires-clause-barriers_room : goal.note_signal-requires-clause-barriers_room
note_signal-requires-clause-barriers_room c =
    let region = c.self.inside in
    let reported = sizes region _ c.self.invariant c.self.view_is in
    placed-room is_barrier _ (undos_of region) region.entries.room c.self.invariant.barriers (omega (arith, c.requires, reported.events, reported.capacity, reported.undos))

pub note_signal-requires-clause-call_ends_room : goal.note_signal-requires-clause-call_ends_room
note_signal-requires-clause-call_ends_room c =
    let region = c.self.inside in
    let reported = sizes region _ c.self.invariant c.self.view_is in
    placed-room is_call_end _ (undos_of region) region.entries.room c.self.invariant.call_ends (omega (arith, c.requires, reported.events, reported.capacity, reported.undos))

-- the region as it is left
abbrev next : After-push → Inside
next c = record c.self.inside { entries = c.push.new.self; barriers = c.note_signal.new.barriers; call_ends = c.note_signal.new.call_ends }

-- it has the signal after its log
pushed : (c : After-push) → IsPushed c.self.inside (next c) (no_word ∷ []) (c.args.value ∷ [])
pushed c =
    let reported = sizes c.self.inside _ c.self.invariant c.self.view_is in
    record {
      words_are = c.push.ensures.words;
      saved_are = c.push.ensures.saved;
      room = c.push.ensures.room;
      each = refl;
      fits = omega (arith, c.requires, reported.events, reported.capacity);
      same = refl;
      within = within-signal _ c.args.value;
    }

pub invariant_of-self : goal.invariant_of-self
invariant_of-self c =
    let region = c.self.inside in
    let step = c.self.invariant in
    let reported = sizes region _ step c.self.view_is in
    let undos = undos_of region in
    let event = signal_of c.args.value in
    let place = c.len-place.result in
    let there : length undos ≡ place = omega (arith, reported.undos, c.len-place.ensures) in
    let undos_are = undos-pushed region (next c) _ _ step (pushed c) in
    let note = c.note_signal.ensures in
    consistent-pushed region (next c) _ _ step (pushed c)
    (placed-more is_barrier region.barriers _ undos _ (event ∷ []) place region.entries.room _ there undos_are c.push.ensures.room step.barriers note.barriers)
    (placed-more is_call_end region.call_ends _ undos _ (event ∷ []) place region.entries.room _ there undos_are c.push.ensures.room step.call_ends note.call_ends)

pub returns : goal.returns
returns c =
    let region = c.self.inside in
    let value = c.args.value in
    let undos_are = undos-pushed region (next c) _ _ c.self.invariant (pushed c) ∙ ap (λ es. undos_of region ++ es) (undo-signal region.current value) in
    memory-pushed _ region.current _ (undos_of region) _ (signal_of value ∷ []) region.entries.room _ region.drains c.self.view_is
    (after-signal region.current value) undos_are (within-signal _ value) c.push.ensures.room
