-- A call on a file, from what it did before its marker.
use Rattle.std.proofs.Common.{◌≡◌, ℕ, ◌*◌, ◌/◌, ◌<◌, ◌≤◌, [], ◌∷◌, length, sym, ◌∙◌, ap, subst, arith}
use Rattle.pm_epochs.specs.declared.event.Event.{Event}
use Rattle.pm_epochs.specs.declared.event.Event.TheVariants.{CallEnd}
use Rattle.std.specs.Prelude.{List}
use Rattle.pm_region.specs.Memory.{Memory, current_words, with_room, room_in, Adds}
use Rattle.pm_region.specs.Safe.{IsSafe}
use Rattle.pm_region.proofs.MemoryLaws.{capacity-adds, current_words-adds, length-current_words}
use Rattle.bp_free.specs.declared.parts.Parts.{Parts}
use Rattle.bp_layout.specs.Whole.{IsFileSystem, SameFiles}
use Rattle.bp_layout.specs.Words.{block_count}
use Rattle.bp_layout.specs.Trees.{AreInSnapshot}
use Rattle.bp_free.specs.Set.{has}
use Rattle.bp_changes.specs.Sets.{IsExact, in_snapshot_of}
use Rattle.bp_plain.specs.Calls.{Call, Answer}
use Rattle.bp_limits.specs.Limits.{call_room}
use Rattle.bp_volume.specs.Carried.{ChangesTree, CarriesOut, PerformsCall}
use Rattle.bp_volume.specs.Carried.CarriesOut.{changed, unchanged}
use Rattle.bp_volume.specs.Volume.{IsVolume}
use Rattle.bp_volume.proofs.FileCallLaws.{SeenCall, exact_parts, file_call_changed, file_call_unchanged, volume-ended}
use Rattle.bp_volume.proofs.ChangeLaws.{snapshot_once}
use Rattle.bp_volume.proofs.SafeLaws.{file_system_after, snapshot_after, whole_safe}

pub blocks-adds : (old new : Memory) (more : List Event) → Adds old new more → block_count (current_words new) ≡ block_count (current_words old)
blocks-adds old new more adds =
    ap (λ n. n / 512) (length-current_words new ∙ ap (λ (memory : Memory). length memory.base) adds ∙ sym (length-current_words old))

-- the marker has its room
pub call_end_fits : {call : Call} {answer : Answer} {middle made : Memory} → CarriesOut middle call answer made → call_room ≤ room_in middle → 0 < room_in made
call_end_fits (changed performs) room = performs.room
call_end_fits (unchanged same reports) room = rw same (omega (arith, room))

-- the blocks of the snapshot are those that they were
snapshot_carried : {R : Type 0} {call : Call} {answer : Answer} (middle made : Memory) (parts after : Parts R) (pending : ℕ) → IsVolume middle parts pending → PerformsCall middle call answer made →
    after.snapshot_blocks ≡ parts.snapshot_blocks → AreInSnapshot (current_words made) (in_snapshot_of after)
snapshot_carried {R} {call} {answer} middle made parts after pending volume does kept =
    let same : does.in_snapshot ≡ in_snapshot_of after = snapshot_once (current_words middle) does.in_snapshot (in_snapshot_of parts) does.snapshot_blocks volume.snapshot_blocks ∙ ap has (sym kept) in
    subst (AreInSnapshot (current_words made)) same (snapshot_after does.in_snapshot middle made does.change (ChangesTree call answer) does.performs volume.well_formed does.snapshot_blocks)

-- the volume is one again, with the sets and counts of the new words
pub carried_volume : {R : Type 0} {call : Call} {answer : Answer} (middle made new : Memory) (parts after : Parts R) (region : R) (pending : ℕ) → IsVolume middle parts pending →
    CarriesOut middle call answer made → IsExact (current_words made) after → after.snapshot_blocks ≡ parts.snapshot_blocks → Adds made new (CallEnd ∷ []) → IsVolume new (record after { region = region }) pending
carried_volume {R} {call} {answer} middle made new parts after region pending volume (changed does) exact kept ends =
    let words : current_words new ≡ current_words made = current_words-adds made new (CallEnd ∷ []) ends in
    let capacity : new.capacity ≡ middle.capacity = capacity-adds made new (CallEnd ∷ []) ends ∙ capacity-adds middle made _ does.performs.commit.adds in
    let is : IsFileSystem (current_words made) = file_system_after does.in_snapshot middle made does.change (ChangesTree call answer) does.performs volume.well_formed does.snapshot_blocks in
    record {
      safe = whole_safe does.in_snapshot middle made does.change (ChangesTree call answer) does.performs volume.well_formed does.snapshot_blocks new ends volume.safe;
      roomy = rw capacity volume.roomy;
      well_formed = rw words is;
      snapshot_blocks = rw words (snapshot_carried middle made parts after pending volume does kept);
      exact = rw words (exact_parts (current_words made) after region exact);
      scans = volume.scans ∙ ap (λ n. 64 * n) (sym (blocks-adds made new (CallEnd ∷ []) ends ∙ blocks-adds middle made _ does.performs.commit.adds));
    }
carried_volume {R} {call} {answer} middle made new parts after region pending volume (unchanged same reports) exact kept ends =
    let here : IsVolume middle after pending = record {
      safe = volume.safe;
      roomy = volume.roomy;
      well_formed = volume.well_formed;
      snapshot_blocks = subst (AreInSnapshot (current_words middle)) (ap has (sym kept)) volume.snapshot_blocks;
      exact = rw same at exact;
      scans = volume.scans;
    } in
    volume-ended middle new after region pending here (rw same at ends)

-- the whole call
pub file_call_carried : (old middle made new : Memory) (call : Call) (answer : Answer) → middle ≡ with_room call_room old → IsSafe SameFiles middle → IsFileSystem (current_words middle) →
    CarriesOut middle call answer made → Adds made new (CallEnd ∷ []) → SeenCall old call answer new
file_call_carried old middle made new call answer room safe is (changed does) ends = file_call_changed old middle made new call answer room safe is does ends
file_call_carried old middle made new call answer room safe is (unchanged same reports) ends = file_call_unchanged old middle new call answer room safe (rw same at ends) reports
