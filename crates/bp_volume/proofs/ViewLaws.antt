-- The region of a volume, seen by its roles, after a drain and after a crash.
use Rattle.std.proofs.Common.{true≢false, ◌≡◌, ℕ, ◌*◌, ◌<◌, ◌≤◌, ◌↔◌, List, [], length, sym, ◌∙◌, ap, subst, arith, refl}
use Rattle.std.specs.Prelude.{Err, IsErr, IsOk, Ok, OnErr, Result, if◌then◌else◌}
use Rattle.std.proofs.lemmas.Bool.{lt-ltb}
use Rattle.pm_epochs.specs.declared.event.Event.{Event}
use Rattle.pm_epochs.specs.Log.{call_ends}
use Rattle.pm_epochs.specs.May.{StoresMay}
use Rattle.pm_epochs.specs.Replay.{IsRight, PowerCut, after_calls, kept_calls}
use Rattle.pm_region.specs.Memory.{Memory, crashed, current_words, drained, room_in, with_room}
use Rattle.pm_region.specs.Safe.{IsSafe}
use Rattle.pm_region.proofs.SafeLaws.{safe_empty}
use Rattle.bp_cache.specs.Cache.{IsCacheOf}
use Rattle.bp_cache.specs.declared.cache.DirectoryCache.{DirectoryCache}
use Rattle.bp_free.specs.declared.parts.Parts.{Parts}
use Rattle.bp_layout.specs.Whole.{IsFileSystem, SameFiles}
use Rattle.bp_layout.specs.Trees.{AreInSnapshot}
use Rattle.bp_layout.specs.Words.{Image, block_count, word}
use Rattle.bp_changes.specs.Sets.{IsExact, in_snapshot_of}
use Rattle.bp_limits.specs.Limits.{call_room, super_magic}
use Rattle.bp_roles.specs.Mounted.{KeepsRoles, LeavesRoles, SameDurable, by_roles, roles_of, served_words}
use Rattle.bp_roles.specs.Seen.{IsWide, MemoryByRoles, raw_events, seen, seen_events, seen_memory}
use Rattle.bp_roles.specs.declared.roles.Roles.{Roles}
use Rattle.bp_roles.proofs.KeptLaws.{kept-after, kept-crashed, kept-drained, kept-safe, kept-served}
use Rattle.bp_roles.proofs.SeenLaws.{length-seen, right-seen, seen-call_ends, seen-crashed, seen-drained, seen-kept_calls, seen-right, seen-room, wide-crashed, wide-drained}
use Rattle.bp_roles.proofs.Unseen.{all_raw_seen, all_told}
use Rattle.bp_volume.specs.Volume.{IsCachedVolume, IsVolume}
use Rattle.bp_volume.proofs.FileCallLaws.{exact_parts}
use Rattle.bp_volume.proofs.WholeLaws.{whole_equivalence}

-- ---- the region below

-- what is seen by the same roles of another memory is that memory by these roles
told : (old new : MemoryByRoles) (memory : Memory) → IsWide memory → seen new ≡ seen_memory old.roles memory → new ≡ record old { memory = memory }
told old new memory wide same =
    let size : length new.memory.base ≡ length memory.base =
    sym (length-seen new.roles new.memory.base) ∙ ap (λ (m : Memory). length m.base) same ∙ length-seen old.roles memory.base in
    all_told new (record old { memory = memory }) (omega (arith, size, wide)) wide same

module _ (old new : MemoryByRoles) (wide : IsWide old.memory) where
  pub drained_told : seen new ≡ drained (seen old) → new ≡ record old { memory = drained old.memory }
  drained_told drains = told old new (drained old.memory) (wide-drained old.memory wide) (drains ∙ sym (seen-drained old.roles old.memory wide))

  pub crashed_told : (cut : PowerCut) → seen new ≡ crashed (seen old) cut → new ≡ record old { memory = crashed old.memory cut }
  crashed_told cut left = told old new (crashed old.memory cut) (wide-crashed old.memory cut wide) (left ∙ sym (seen-crashed old.roles old.memory cut wide))

  pub same_told : seen new ≡ seen old → new ≡ old
  same_told same = told old new old.memory wide same

  -- a drain of the view makes room below
  pub made_room : seen new ≡ drained (seen old) → room_in (seen old) < call_room → new.memory ≡ with_room call_room old.memory
  made_room drains little =
      let full : room_in old.memory < call_room = omega (arith, little, seen-room old.roles old.memory) in
      ap (λ (it : MemoryByRoles). it.memory) (drained_told drains)
      ∙ ap (λ b. if b then drained old.memory else old.memory) (sym (lt-ltb (room_in old.memory) call_room full))

-- the words that a mount of the region below serves
pub served_is : (it : MemoryByRoles) (memory : Memory) → KeepsRoles it → it.memory ≡ memory → current_words (seen it) ≡ served_words memory
served_is it memory keeps same = sym (kept-served it keeps) ∙ ap served_words same

-- ---- an empty log

pub unseen_none : (roles : Roles) (events : List Event) → seen_events roles events ≡ [] → events ≡ []
unseen_none roles events none = sym (all_raw_seen roles events) ∙ ap (raw_events roles) none

pub fresh_keeps : (it : MemoryByRoles) → IsWide it.memory → roles_of (word it.memory.base super_magic) ≡ it.roles → (seen it).events ≡ [] → KeepsRoles it
fresh_keeps it wide base fresh = record {
  wide = wide;
  base = base;
  stores = subst (StoresMay (LeavesRoles it.roles)) (sym (unseen_none it.roles it.memory.events fresh)) tt;
}

-- ---- a crash

module _ (old : MemoryByRoles) (memory : Memory) (same : old.memory ≡ memory) (cut : PowerCut) where
  pub right_below : (Is : Type 0) → (Is ↔ IsRight (seen old).events cut) → Is ↔ IsRight memory.events cut
  right_below Is both = (
    (λ is. subst (λ (m : Memory). IsRight m.events cut) same (right-seen old.roles old.memory.events cut (both.0 is))),
    (λ right. both.1 (seen-right old.roles old.memory.events cut (subst (λ (m : Memory). IsRight m.events cut) (sym same) right))),
  )

  pub kept_below : kept_calls (seen old).events cut ≡ kept_calls memory.events cut
  kept_below = seen-kept_calls old.roles old.memory.events cut ∙ ap (λ (m : Memory). kept_calls m.events cut) same

  pub call_ends_below : call_ends (seen old).events ≡ call_ends memory.events
  call_ends_below = seen-call_ends old.roles old.memory.events ∙ ap (λ (m : Memory). call_ends m.events) same

  module _ (keeps : KeepsRoles old) (new : MemoryByRoles) (left : seen new ≡ crashed (seen old) cut) where
    pub crashed_keeps : KeepsRoles new
    crashed_keeps = subst KeepsRoles (sym (crashed_told old new keeps.wide cut left)) (kept-crashed old keeps cut)

    pub crashed_below : new.memory ≡ crashed memory cut
    crashed_below = ap (λ (it : MemoryByRoles). it.memory) (crashed_told old new keeps.wide cut left) ∙ ap (λ (m : Memory). crashed m cut) same

    pub shows_below : (count : ℕ) → SameFiles (current_words (seen new)) (after_calls (seen old).base (seen old).events count) → SameDurable (current_words new.memory) (after_calls memory.base memory.events count)
    shows_below count shows =
        subst (λ (m : Memory). SameDurable (current_words new.memory) (after_calls m.base m.events count)) same
        (subst (λ (image : Image). SameFiles image (by_roles (after_calls old.memory.base old.memory.events count))) (sym (kept-served new crashed_keeps))
        (subst (SameFiles (current_words (seen new))) (sym (kept-after old keeps count)) shows))

    pub safe_below : IsSafe SameFiles (seen new) → IsSafe SameDurable new.memory
    safe_below = kept-safe new crashed_keeps

-- an error says that there was none
pub not_ok : {T E P : Type 0} (result : Result T E) → IsErr result → (P → ⊥) → IsOk result ↔ P
not_ok (Ok value) is none = absurd (true≢false (sym is))
not_ok (Err error) is none = ((λ ok. absurd (true≢false (sym ok))), (λ p. absurd (none p)))

pub on_err : {T E P : Type 0} (result : Result T E) → P → OnErr result P
on_err (Ok value) p = tt
on_err (Err error) p = p

-- ---- the volume

pub volume_drained : {R : Type 0} (old new : Memory) (parts : Parts R) (region : R) (pending : ℕ) → IsVolume old parts pending → new ≡ drained old → IsVolume new (record parts { region = region }) pending
volume_drained {R} old new parts region pending volume drains =
    subst (λ memory. IsVolume memory (record parts { region = region }) pending) (sym drains) (record {
      safe = safe_empty SameFiles whole_equivalence (drained old) refl volume.safe.well;
      roomy = volume.roomy;
      well_formed = volume.well_formed;
      snapshot_blocks = volume.snapshot_blocks;
      exact = exact_parts (current_words old) parts region volume.exact;
      scans = volume.scans;
    })

pub cached_drained : (parts : Parts MemoryByRoles) (region : MemoryByRoles) (pending : ℕ) (cache : DirectoryCache) → IsCachedVolume parts pending cache → seen region ≡ drained (seen parts.region) →
    IsCachedVolume (record parts { region = region }) pending cache
cached_drained parts region pending cache volume drains = record {
  roles = subst KeepsRoles (sym (drained_told parts.region region volume.roles.wide drains)) (kept-drained parts.region volume.roles);
  volume = volume_drained (seen parts.region) (seen region) parts region pending volume.volume drains;
  right = subst (λ (memory : Memory). IsCacheOf (current_words memory) cache) (sym drains) volume.right;
}

-- to a mount of the region below, it is safe
pub cached_safe : (parts : Parts MemoryByRoles) (pending : ℕ) (cache : DirectoryCache) → IsCachedVolume parts pending cache → IsSafe SameDurable parts.region.memory
cached_safe parts pending cache volume = kept-safe parts.region volume.roles volume.volume.safe

-- a scan of the same words finds the same sets and counts
pub cached_rescanned : (parts made : Parts MemoryByRoles) (pending made_pending : ℕ) (cache : DirectoryCache) → IsCachedVolume parts pending cache → made.region ≡ parts.region → IsExact (current_words (seen made.region)) made →
    AreInSnapshot (current_words (seen made.region)) (in_snapshot_of made) → made_pending ≡ pending → IsCachedVolume made made_pending cache
cached_rescanned parts made pending made_pending cache is region exact snapshot_blocks same =
    let memory : seen parts.region ≡ seen made.region = ap seen (sym region) in
    record {
      roles = subst KeepsRoles (sym region) is.roles;
      volume = record {
        safe = subst (IsSafe SameFiles) memory is.volume.safe;
        roomy = subst (λ (m : Memory). call_room ≤ m.capacity) memory is.volume.roomy;
        well_formed = subst (λ (m : Memory). IsFileSystem (current_words m)) memory is.volume.well_formed;
        snapshot_blocks = snapshot_blocks;
        exact = exact;
        scans = same ∙ is.volume.scans ∙ ap (λ (m : Memory). 64 * block_count (current_words m)) memory;
      };
      right = subst (λ (m : Memory). IsCacheOf (current_words m) cache) memory is.right;
    }

-- nothing has changed
pub cached_same : (parts : Parts MemoryByRoles) (region : MemoryByRoles) (pending : ℕ) (cache : DirectoryCache) → IsCachedVolume parts pending cache → seen region ≡ seen parts.region →
    IsCachedVolume (record parts { region = region }) pending cache
cached_same parts region pending cache is same =
    subst (λ (it : MemoryByRoles). IsCachedVolume (record parts { region = it }) pending cache) (sym (same_told parts.region region is.roles.wide same)) is
