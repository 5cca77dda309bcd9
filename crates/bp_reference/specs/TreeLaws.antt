-- The behaviour of trees is that of a file system over its region.
use Rattle.std.proofs.Common.{refl, ◌∙◌, ap, ◌≡◌, length, true, false}
use Rattle.std.specs.Prelude.{if◌then◌else◌}
use Rattle.bp_fs.specs.Behaviour.{IsBehaviour, KeepsDrained, drains_first}
use Rattle.bp_fs.specs.WordLaws.{size-drained}
use Rattle.bp_limits.specs.Limits.{call_room}
use Rattle.bp_plain.specs.Calls.{Call, Answer}
use Rattle.bp_plain.specs.Calls.Call.{upgrade_to_three}
use Rattle.bp_reference.specs.ByTree.{TreeCall, begun, by_tree, drained_trees}
use Rattle.bp_reference.specs.ByTree.TreeCall.{plainly, no_room}
use Rattle.bp_reference.specs.Trees.{Trees}
use Rattle.pm_region.specs.Memory.{Memory, drained, with_room}

-- The memory from which a call begins has room for it.
begun_memory : (s : Trees) → (begun s).memory ≡ with_room call_room s.memory
begun_memory s = elim (drains_first s.memory) as (λ full. (if full then drained_trees s else s).memory ≡ (if full then drained s.memory else s.memory)) [ true ↦ refl | false ↦ refl ]

called_base : (old : Trees) (call : Call) (answer : Answer) (new : Trees) → TreeCall old call answer new → new.memory.base ≡ (with_room call_room old.memory).base
called_base old call answer new (plainly done) = ap (λ (m : Memory). m.base) done.memory ∙ ap (λ (m : Memory). m.base) (begun_memory old)
called_base old call answer new (no_room done) = ap (λ (s : Trees). s.memory.base) done.same ∙ ap (λ (m : Memory). m.base) (begun_memory old)

called_capacity : (old : Trees) (call : Call) (answer : Answer) (new : Trees) → TreeCall old call answer new → new.memory.capacity ≡ (with_room call_room old.memory).capacity
called_capacity old call answer new (plainly done) = ap (λ (m : Memory). m.capacity) done.memory ∙ ap (λ (m : Memory). m.capacity) (begun_memory old)
called_capacity old call answer new (no_room done) = ap (λ (s : Trees). s.memory.capacity) done.same ∙ ap (λ (m : Memory). m.capacity) (begun_memory old)

room_base : (m : Memory) → length (with_room call_room m).base ≡ length m.base
room_base m = elim (drains_first m) as (λ full. length (if full then drained m else m).base ≡ length m.base) [ true ↦ size-drained m | false ↦ refl ]

room_capacity : (m : Memory) → (with_room call_room m).capacity ≡ m.capacity
room_capacity m = elim (drains_first m) as (λ full. (if full then drained m else m).capacity ≡ m.capacity) [ true ↦ refl | false ↦ refl ]

keeps_drained : (old : Trees) (call : Call) (answer : Answer) (new : Trees) → TreeCall old call answer new → KeepsDrained call old.memory new.memory
keeps_drained old upgrade_to_three answer new done = tt
keeps_drained old call answer new done = called_base old call answer new done

pub trees_behave : IsBehaviour by_tree
trees_behave = record {
  drains = λ s. refl;
  crashes = λ s cut. refl;
  size = λ old call answer new done. ap length (called_base old call answer new done) ∙ room_base old.memory;
  capacity = λ old call answer new done. called_capacity old call answer new done ∙ room_capacity old.memory;
  base = keeps_drained;
}
