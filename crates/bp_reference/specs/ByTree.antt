-- The behaviour of a file system whose calls are those of the abstract tree. Its region has no files: the log has for each
-- call a store to the first word, a barrier and an end-of-call marker, so that a crash can lose the last calls.
use Rattle.std.specs.Prelude.{◌≡◌, ℕ, List, ◌++◌, [], ◌∷◌, if◌then◌else◌, take}
use Rattle.bp_fs.specs.Behaviour.{Behaviour, drains_first}
use Rattle.bp_layout.specs.declared.totals.Totals.{Totals}
use Rattle.bp_plain.specs.Calls.{Call, Answer}
use Rattle.bp_plain.specs.Calls.Answer.{refused}
use Rattle.bp_plain.specs.Calls.Refusal.{no_memory}
use Rattle.bp_plain.specs.Plain.{plain}
use Rattle.bp_reference.specs.Trees.{Trees, latest, present}
use Rattle.pm_epochs.specs.declared.event.Event.{Event}
use Rattle.pm_epochs.specs.declared.event.Event.TheVariants.{Barrier, CallEnd, Store}
use Rattle.pm_epochs.specs.Replay.{PowerCut, kept_calls}
use Rattle.pm_region.specs.Memory.{Adds, crashed, drained}

-- The state once the present tree is durable.
abbrev pub drained_trees : Trees → Trees
drained_trees s = record { memory = drained s.memory; durable = present s; since = [] }

-- The state that a crash at this point leaves: the tree after the calls that it keeps.
abbrev pub crashed_trees : Trees → PowerCut → Trees
crashed_trees s cut = record {
  memory = crashed s.memory cut;
  durable = latest s.durable (take (kept_calls s.memory.events cut) s.since);
  since = [];
}

-- The state from which a call begins: it drains first if the log might not have room for its events.
abbrev pub begun : Trees → Trees
begun s = if drains_first s.memory then drained_trees s else s

-- The events of a call.
abbrev pub call_events : List Event
call_events = Store 0 1 ∷ Barrier ∷ CallEnd ∷ []

-- The answer and the new tree are those of the abstract tree.
pub record CallsTree (old : Trees) (call : Call) (answer : Answer) (new : Trees) : Type 0 where
  pub answers : answer ≡ (plain (present old) call).0
  pub memory : Adds old.memory new.memory call_events
  pub durable : new.durable ≡ old.durable
  pub since : new.since ≡ old.since ++ (plain (present old) call).1 ∷ []

-- Allocation failed, and the call did nothing.
pub record LacksMemory (old : Trees) (answer : Answer) (new : Trees) : Type 0 where
  pub answers : answer ≡ refused no_memory
  pub same : new ≡ old

-- A call.
pub data TreeCall (old : Trees) (call : Call) (answer : Answer) (new : Trees) : Type 0 where
  plainly : CallsTree (begun old) call answer new → TreeCall old call answer new
  no_room : LacksMemory (begun old) answer new → TreeCall old call answer new

-- A tree has no blocks, and this file system counts nothing: its numbers are 0.
pub record CountsNoBlocks (s : Trees) (free live : ℕ) : Type 0 where
  pub no_free : free ≡ 0
  pub no_live : live ≡ 0

abbrev pub nothing : Totals
nothing = record { files = 0; dirs = 0; bytes = 0; live = 0 }

abbrev pub by_tree : Behaviour Trees
by_tree = record {
  memory = λ s. s.memory;
  calls = TreeCall;
  drained = drained_trees;
  crashed = crashed_trees;
  space = CountsNoBlocks;
  totals = λ s totals. totals ≡ nothing;
}
