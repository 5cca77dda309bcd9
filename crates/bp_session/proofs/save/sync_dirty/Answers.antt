use Rattle.std.proofs.Common.{◌∙◌, ap, length, refl}
use Rattle.bp_layout.specs.Bytes.{image_bytes}
use Rattle.pm_region.specs.Memory.{Memory, current_words}
use Rattle.bp_session.proofs.ActingLaws.{holds_bytes, size-drains}
use Rattle.bp_session.proofs.ChangedLaws.{holds_more, saves_words}
use Rattle.bp_session.proofs.DirtyLaws.{all_are_dirty, kept_still}
use Rattle.pm_region.proofs.MemoryLaws.{length-current_words}
use Rattle.bp_session.proofs.SavingLaws.{still_attached, still_ready}
use Rattle.bp_session.proofs.save.sync_dirty.Goals as goal

pub save-requires : goal.save-requires
save-requires g c =
    rw (c.region-2.ensures, c.sync.ensures.drained)
    (still_ready _ _ _ _ c.requires (size-drains g.V.FileSystem.behaviour g.met.V.FileSystem.lawful (g.V.FileSystem.state c.args.system.now)) (still_attached _))

pub returns-in-Ok-clause-saved : goal.returns-in-Ok-clause-saved
returns-in-Ok-clause-saved g c = λ name was held.
    let system = g.V.FileSystem.state c.args.system.now in
    let memory = g.V.FileSystem.behaviour.memory system in
    let files = g.F.Files.view c.args.files.now in
    let size = length-current_words memory ∙ c.requires.size in
    saves_words c.dirty_stored.new.flags (current_words memory) files (g.F.Files.view c.save.new.files) size c.save.ensures.reported c.save.ensures.attached.blocks name was
    (holds_more c.args.dirty.now c.dirty_stored.new.flags memory.base (current_words memory) files.blocks c.requires.size size
    c.dirty_stored.ensures.more (rw c.region.ensures at c.dirty_stored.ensures.flags) files name was refl held)
    (rw (c.region-2.ensures, c.sync.ensures.drained, g.met.V.FileSystem.lawful.drains system) at (c.in-Ok.ensures.saved name (image_bytes was) (holds_bytes _ name was held.file)))

pub returns-in-Err-clause-partly : goal.returns-in-Err-clause-partly
returns-in-Err-clause-partly g c = λ name was file. record {
  attached = c.save.ensures.attached.attached name ∙ file.attached;
  bytes = rw (c.region-2.ensures, c.sync.ensures.drained, g.met.V.FileSystem.lawful.drains (g.V.FileSystem.state c.args.system.now)) at (c.in-Err.ensures.partly name (image_bytes was) (holds_bytes _ name was file));
}

pub returns-in-Ok-clause-kept : goal.returns-in-Ok-clause-kept
returns-in-Ok-clause-kept g c = λ none covers empty.
    let it = g.V.FileSystem.behaviour in
    let system = g.V.FileSystem.state c.args.system.now in
    let size = ap (λ (m : Memory). length m.base) c.region-2.ensures ∙ ap (λ s. length (it.memory s).base) c.sync.ensures.drained ∙ size-drains it g.met.V.FileSystem.lawful system in
    kept_still c.args.dirty.now c.dirty_stored.new.flags (length (it.memory system).base) _ c.save.ensures.kept (c.dirty_stored.ensures.none (rw c.region.ensures empty)) size none covers

pub returns-in-Err-clause-kept : goal.returns-in-Err-clause-kept
returns-in-Err-clause-kept g c = λ none covers empty.
    let it = g.V.FileSystem.behaviour in
    let system = g.V.FileSystem.state c.args.system.now in
    let size = ap (λ (m : Memory). length m.base) c.region-2.ensures ∙ ap (λ s. length (it.memory s).base) c.sync.ensures.drained ∙ size-drains it g.met.V.FileSystem.lawful system in
    kept_still c.args.dirty.now c.dirty_stored.new.flags (length (it.memory system).base) _ c.save.ensures.kept (c.dirty_stored.ensures.none (rw c.region.ensures empty)) size none covers

pub returns-in-Ok-clause-cleared : goal.returns-in-Ok-clause-cleared
returns-in-Ok-clause-cleared g c = c.dirty_each.ensures.each

pub returns-in-Err-clause-lost : goal.returns-in-Err-clause-lost
returns-in-Err-clause-lost g c = all_are_dirty c.dirty_each-in-Err.new.flags c.dirty_each-in-Err.ensures.each
