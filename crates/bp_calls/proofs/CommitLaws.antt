-- What a call comes to, by what its parts do: a change is committed after a thaw, or at once where nothing is thawed; or there are too few blocks, and nothing has changed.
use Rattle.std.specs.Prelude.{◌≡◌, ◌≤◌, [], Err, Ok, Result, length, refl}
use Rattle.std.proofs.Common.{sym, ◌∙◌, ap, subst}
use Rattle.bp_calls.specs.Commits.{CommitsChange, CommitsOrLacksBlocks, CommitsOrLacksSpace}
use Rattle.bp_calls.specs.Mounted.{IsMounted}
use Rattle.bp_calls.specs.Space.{LacksBlocks, LacksSpace}
use Rattle.bp_calls.specs.ThawsFor.{ThawsFor}
use Rattle.bp_calls.proofs.FreeCounts.{lacks_nothing}
use Rattle.bp_calls.proofs.NothingInSnapshot.{lacks_at_once, performed_at_once}
use Rattle.bp_calls.proofs.ThawedParts.{performed_thawed}
use Rattle.bp_changes.proofs.ShapeLaws.{IsOfReached}
use Rattle.bp_free.specs.Set.{members}
use Rattle.bp_free.specs.declared.parts.NoSpace.{NoSpace}
use Rattle.bp_free.specs.declared.parts.Parts.{Parts}
use Rattle.bp_layout.specs.Need.{Change, need}
use Rattle.bp_layout.specs.Thaw.{targets, thawed}
use Rattle.bp_layout.specs.Words.{Image}
use Rattle.bp_changes.specs.Sets.{IsExact, in_snapshot_of}
use Rattle.pm_region.specs.Memory.{Memory, current_words}

-- the change is done, so there were blocks for it
pub committed : {R T : Type 0} {memory : R → Memory} {old new : Parts R} {change : Change} {Effect : Image → Image → Type 0} {x : T} →
    CommitsChange memory old new change Effect → CommitsOrLacksBlocks memory old new (Ok x) change Effect
committed done = record { performs = done.performs; snapshot_blocks = done.snapshot_blocks; exact = done.exact; refused = tt; free = tt; same = tt }

-- parts that are as they were are exact
stay_exact : {R : Type 0} (memory : R → Memory) (old new : Parts R) → IsExact (current_words (memory old.region)) old → new ≡ old → IsExact (current_words (memory new.region)) new
stay_exact {R = R} memory old new exact same = subst (λ (parts : Parts R). IsExact (current_words (memory parts.region)) parts) (sym same) exact

-- too few are free
pub lacking_blocks : {R T : Type 0} (memory : R → Memory) (old : Parts R) {change : Change} {Effect : Image → Image → Type 0} {lacks : NoSpace} → IsExact (current_words (memory old.region)) old →
    LacksBlocks (current_words (memory old.region)) (in_snapshot_of old) (need (current_words (memory old.region)) change) lacks → lacks.free ≡ length (members old.free_blocks) →
    CommitsOrLacksBlocks {T = T} memory old old (Err lacks) change Effect
lacking_blocks memory old exact has free = record { performs = tt; snapshot_blocks = refl; exact = exact; refused = has; free = free; same = refl }

pub lacking_space : {R T : Type 0} (memory : R → Memory) (old new : Parts R) {change : Change} {Effect : Image → Image → Type 0} {lacks : NoSpace} → IsExact (current_words (memory old.region)) old →
    LacksSpace (current_words (memory old.region)) (in_snapshot_of old) change lacks → new ≡ old → CommitsOrLacksSpace {T = T} memory old new (Err lacks) change Effect
lacking_space {R = R} memory old new exact has same =
    record { performs = tt; snapshot_blocks = ap (λ (parts : Parts R). parts.snapshot_blocks) same; exact = stay_exact memory old new exact same; refused = has; same = same }

-- ---- at once

module _ {R T : Type 0} (memory : R → Memory) (change : Change) (Effect : Image → Image → Type 0) (old new : Parts R) (mounted : IsMounted (current_words (memory old.region)) old)
    (clear : thawed (current_words (memory old.region)) (in_snapshot_of old) change ≡ []) where
  pub commits_at_once : (result : Result T NoSpace) → CommitsOrLacksBlocks memory old new result change Effect → CommitsOrLacksSpace memory old new result change Effect
  commits_at_once (Ok x) done = record {
    performs = performed_at_once memory change old mounted clear (memory new.region) Effect done.performs;
    snapshot_blocks = done.snapshot_blocks;
    exact = done.exact;
    refused = tt;
    same = tt;
  }
  commits_at_once (Err lacks) done = record {
    performs = tt;
    snapshot_blocks = done.snapshot_blocks;
    exact = done.exact;
    refused = lacks_at_once memory change old mounted clear lacks done.refused;
    same = done.same;
  }

-- ---- after a thaw

module _ {R T : Type 0} (memory : R → Memory) (change : Change) (Effect : Image → Image → Type 0) (old middle new : Parts R) (mounted : IsMounted (current_words (memory old.region)) old)
    (of : IsOfReached (current_words (memory old.region)) change) (done : ThawsFor memory (targets (current_words (memory old.region)) change) old middle) where
  pub committed_thawed : (x : T) → CommitsChange memory middle new change Effect → CommitsOrLacksSpace memory old new (Ok x) change Effect
  committed_thawed x rest = record {
    performs = performed_thawed memory change old middle mounted of done new Effect rest.performs;
    snapshot_blocks = rest.snapshot_blocks ∙ done.snapshot_blocks;
    exact = rest.exact;
    refused = tt;
    same = tt;
  }

  -- after it as many are free as the change needs
  pub commits_thawed : need (current_words (memory middle.region)) change ≤ length (members middle.free_blocks) → (result : Result T NoSpace) →
      CommitsOrLacksBlocks memory middle new result change Effect → CommitsOrLacksSpace memory old new result change Effect
  commits_thawed enough (Ok x) rest = committed_thawed x (record { performs = rest.performs; snapshot_blocks = rest.snapshot_blocks; exact = rest.exact })
  commits_thawed enough (Err lacks) rest =
      absurd (lacks_nothing (current_words (memory middle.region)) (in_snapshot_of middle) middle.free_blocks done.exact.sets.free_blocks done.exact.sets.block_room
      (need (current_words (memory middle.region)) change) enough lacks rest.refused)
