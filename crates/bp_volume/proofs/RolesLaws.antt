-- Calls over the view of a region, and what they do to the region below.
use Rattle.std.proofs.Common.{◌≡◌, ◌≤◌, ℕ, Bool, true, false, List, [], ◌∷◌, ◌++◌, inl, inr, sym, ◌∙◌, ap, subst, arith}
use Rattle.std.specs.Prelude.{if◌then◌else◌, nat_lt}
use Rattle.std.proofs.lemmas.List.{map-append}
use Rattle.pm_epochs.specs.declared.event.Event.{Event}
use Rattle.pm_epochs.specs.declared.event.Event.TheVariants.{CallEnd}
use Rattle.pm_epochs.specs.Crash.{commit}
use Rattle.pm_epochs.specs.Log.{call_ends}
use Rattle.pm_epochs.proofs.MayLaws.{StoresMay-append}
use Rattle.pm_epochs.proofs.PieceLaws.{StoresTo-append}
use Rattle.pm_region.specs.Memory.{Adds, Memory, current_words, drained, room_in, with_room}
use Rattle.pm_region.proofs.MemoryLaws.{adds_both, current_words-with_room, length-current_words}
use Rattle.bp_cache.specs.declared.cache.DirectoryCache.{DirectoryCache}
use Rattle.bp_free.specs.declared.parts.Parts.{Parts}
use Rattle.bp_changes.proofs.PerformsLaws.{performed, performs_adds, performs_short}
use Rattle.bp_limits.specs.Limits.{call_room, super_magic}
use Rattle.bp_plain.specs.Calls.{Answer, Call}
use Rattle.bp_plain.specs.Stands.{Stands}
use Rattle.bp_roles.specs.Mounted.{KeepsRoles, served_events, served_words}
use Rattle.bp_roles.specs.Seen.{IsWide, MemoryByRoles, raw_event, raw_events, seen, seen_memory}
use Rattle.bp_roles.proofs.KeptLaws.{LeavesSeen, events-with_room, kept-adds, kept-events, kept-idle, kept-outside, kept-safe, kept-served, raw-adds, seen-with_room, served-with_room}
use Rattle.bp_roles.proofs.SeenLaws.{seen-call_ends, seen-room}
use Rattle.bp_roles.proofs.Unseen.{all_seen_raw}
use Rattle.bp_volume.specs.Carried.{CarriesOut, ChangesTree}
use Rattle.bp_volume.specs.Carried.CarriesOut.{changed, unchanged}
use Rattle.bp_fs.specs.FileCall.{FileCall, IsCheap}
use Rattle.bp_volume.specs.Queries.{Answers}
use Rattle.bp_fs.specs.Step.{Step}
use Rattle.bp_volume.specs.Volume.{IsCachedVolume}
use Rattle.bp_volume.proofs.CarriedLaws.{file_call_carried}
use Rattle.bp_volume.proofs.FileCallLaws.{SeenCall, file_call_unchanged}
use Rattle.bp_volume.proofs.SuperLaws.{CallsSuper, file_call_super}
use Rattle.bp_volume.proofs.SuperLaws.CallsSuper.{altered, unchanged as unaltered}

-- ---- the roles after a call

-- a marker alone leaves them
pub ended_keeps : (middle new : MemoryByRoles) → KeepsRoles middle → Adds (seen middle) (seen new) (CallEnd ∷ []) → KeepsRoles new
ended_keeps middle new keeps ends = kept-idle middle new (CallEnd ∷ []) keeps ends (λ stored. elim stored [ ])

-- no store of a call on files goes to word 0
pub carried_keeps : (middle made new : MemoryByRoles) (call : Call) (answer : Answer) → KeepsRoles middle → CarriesOut (seen middle) call answer (seen made) → Adds (seen made) (seen new) (CallEnd ∷ []) → KeepsRoles new
carried_keeps middle made new call answer keeps (changed does) ends =
    let events = performed does.in_snapshot (seen middle) (seen made) does.change (ChangesTree call answer) does.performs in
    let short = performs_short does.in_snapshot (seen middle) (seen made) does.change (ChangesTree call answer) does.performs in
    kept-idle middle new (events ++ CallEnd ∷ []) keeps
    (adds_both (seen middle) (seen made) (seen new) events (CallEnd ∷ []) (performs_adds does.in_snapshot (seen middle) (seen made) does.change (ChangesTree call answer) does.performs) ends)
    (λ stored. elim (StoresTo-append (λ place. place ≡ super_magic) events (CallEnd ∷ []) stored) [
      | inl first ↦ short.idle super_magic (omega arith) (λ e. omega (arith, e)) (λ e. omega (arith, e)) first
      | inr last ↦ elim last [ ]
    ])
carried_keeps middle made new call answer keeps (unchanged same reports) ends = ended_keeps middle new keeps (subst (λ memory. Adds memory (seen new) (CallEnd ∷ [])) same ends)

pub super_keeps : (middle made new : MemoryByRoles) (call : Call) (answer : Answer) → KeepsRoles middle → CallsSuper (seen middle) (seen made) call answer → Adds (seen made) (seen new) (CallEnd ∷ []) → KeepsRoles new
super_keeps middle made new call answer keeps (altered is does) ends =
    let events : List Event = does.prepared ++ commit does.place does.value in
    kept-adds middle new (events ++ CallEnd ∷ []) keeps (adds_both (seen middle) (seen made) (seen new) events (CallEnd ∷ []) does.adds ends)
    (StoresMay-append (LeavesSeen middle.roles) events (CallEnd ∷ []) (does.leaves middle.roles (kept-outside middle keeps)) tt)
super_keeps middle made new call answer keeps (unaltered same reports) ends = ended_keeps middle new keeps (subst (λ memory. Adds memory (seen new) (CallEnd ∷ [])) same ends)

-- ---- a call over the view is one over the region below

-- room changes no number of words
wide_before : (wanted : ℕ) (memory : Memory) → IsWide (with_room wanted memory) → IsWide memory
wide_before wanted memory wide = go (nat_lt (room_in memory) wanted) wide
  where
    go : (full : Bool) → IsWide (if full then drained memory else memory) → IsWide memory
    go true now = omega (arith, now, length-current_words memory)
    go false now = now

pub seen_room : (old : Memory) (middle : MemoryByRoles) → middle.memory ≡ with_room call_room old → KeepsRoles middle → seen middle ≡ with_room call_room (seen_memory middle.roles old)
seen_room old middle room keeps =
    ap (seen_memory middle.roles) room ∙ seen-with_room middle.roles call_room old (wide_before call_room old (subst IsWide room keeps.wide))

-- the room for a call is there through the view
pub seen_fits : (it : MemoryByRoles) (memory : Memory) → it.memory ≡ memory → call_room ≤ room_in memory → call_room ≤ room_in (seen it)
seen_fits it memory same fits = omega (arith, seen-room it.roles it.memory, ap room_in same, fits)

pub raw_call : (old : Memory) (middle new : MemoryByRoles) (call : Call) (answer : Answer) → middle.memory ≡ with_room call_room old → KeepsRoles middle → KeepsRoles new →
    SeenCall (seen_memory middle.roles old) call answer (seen new) → FileCall old call answer new.memory
raw_call old middle new call answer room keeps kept is =
    let viewed : seen middle ≡ with_room call_room (seen_memory middle.roles old) = seen_room old middle room keeps in
    let adds : Adds (seen middle) (seen new) (is.added ++ CallEnd ∷ []) = subst (λ memory. Adds memory (seen new) (is.added ++ CallEnd ∷ [])) (sym viewed) is.adds in
    let raw : Adds middle.memory new.memory (raw_events middle.roles (is.added ++ CallEnd ∷ [])) = raw-adds middle new (is.added ++ CallEnd ∷ []) keeps.wide adds in
    let before : current_words (seen_memory middle.roles old) ≡ served_words old =
    sym (ap current_words viewed ∙ current_words-with_room call_room (seen_memory middle.roles old)) ∙ sym (kept-served middle keeps) ∙ ap served_words room ∙ served-with_room call_room old in
    let after : current_words (seen new) ≡ served_words new.memory = sym (kept-served new kept) in
    let shown : is.added ≡ served_events old (raw_events middle.roles is.added) =
    sym (kept-events middle keeps is.added) ∙ ap (λ memory. served_events memory (raw_events middle.roles is.added)) room ∙ events-with_room call_room old (raw_events middle.roles is.added) in
    record {
      added = raw_events middle.roles is.added;
      no_call_end = sym (seen-call_ends middle.roles (raw_events middle.roles is.added)) ∙ ap call_ends (all_seen_raw middle.roles is.added) ∙ is.no_call_end;
      adds = subst (λ memory. Adds memory new.memory (raw_events middle.roles is.added ++ CallEnd ∷ [])) room
          (subst (Adds middle.memory new.memory) (map-append (raw_event middle.roles) is.added (CallEnd ∷ [])) raw);
      step = subst (λ image. Step image call answer (served_words new.memory)) before (subst (Step (current_words (seen_memory middle.roles old)) call answer) after is.step);
      silent = λ tree stands none. ap (raw_events middle.roles) (is.silent tree (subst (λ image. Stands image tree) (sym before) stands) none);
      short = λ tree stands changing.
          subst (IsCheap (served_words old) call (served_words new.memory)) shown
          (subst (λ image. IsCheap (served_words old) call image is.added) after
          (subst (λ image. IsCheap image call (current_words (seen new)) is.added) before
          (is.short tree (subst (λ image. Stands image tree) (sym before) stands) changing)));
      safe = kept-safe new kept is.safe;
    }

-- ---- the whole calls of a volume, from the volume after it made room

module _ (old : Memory) (parts : Parts MemoryByRoles) (pending : ℕ) (cache : DirectoryCache) (call : Call) (answer : Answer) (room : parts.region.memory ≡ with_room call_room old)
    (volume : IsCachedVolume parts pending cache) where
  viewed_room : seen parts.region ≡ with_room call_room (seen_memory parts.region.roles old)
  viewed_room = seen_room old parts.region room volume.roles

  pub call_unchanged : (new : MemoryByRoles) → Adds (seen parts.region) (seen new) (CallEnd ∷ []) → Answers (current_words (seen parts.region)) call answer → FileCall old call answer new.memory
  call_unchanged new ends reports =
      raw_call old parts.region new call answer room volume.roles (ended_keeps parts.region new volume.roles ends)
      (file_call_unchanged (seen_memory parts.region.roles old) (seen parts.region) (seen new) call answer viewed_room volume.volume.safe ends reports)

  pub call_carried : (made new : MemoryByRoles) → CarriesOut (seen parts.region) call answer (seen made) → Adds (seen made) (seen new) (CallEnd ∷ []) → FileCall old call answer new.memory
  call_carried made new called ends =
      raw_call old parts.region new call answer room volume.roles (carried_keeps parts.region made new call answer volume.roles called ends)
      (file_call_carried (seen_memory parts.region.roles old) (seen parts.region) (seen made) (seen new) call answer viewed_room volume.volume.safe volume.volume.well_formed called ends)

  pub call_super : (made new : MemoryByRoles) → CallsSuper (seen parts.region) (seen made) call answer → Adds (seen made) (seen new) (CallEnd ∷ []) → FileCall old call answer new.memory
  call_super made new called ends =
      raw_call old parts.region new call answer room volume.roles (super_keeps parts.region made new call answer volume.roles called ends)
      (file_call_super (seen_memory parts.region.roles old) (seen parts.region) (seen made) (seen new) call answer viewed_room volume.volume.safe called ends)
