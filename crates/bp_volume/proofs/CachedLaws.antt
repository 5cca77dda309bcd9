-- A volume after a call, with what it remembers of its directories.
use Rattle.std.proofs.Common.{◌≡◌, ℕ, [], ◌∷◌}
use Rattle.pm_epochs.specs.declared.event.Event.TheVariants.{CallEnd}
use Rattle.pm_region.specs.Memory.{Memory, current_words, Adds}
use Rattle.pm_region.proofs.MemoryLaws.{current_words-adds}
use Rattle.bp_cache.specs.Cache.{IsCacheOf}
use Rattle.bp_cache.specs.declared.cache.DirectoryCache.{DirectoryCache}
use Rattle.bp_cache.proofs.EffectLaws.{cache_kept, same_trees_keep_all}
use Rattle.bp_free.specs.declared.parts.Parts.{Parts}
use Rattle.bp_layout.specs.Trees.{AreInSnapshot}
use Rattle.bp_changes.specs.Sets.{IsExact, in_snapshot_of}
use Rattle.bp_plain.specs.Calls.{Call, Answer}
use Rattle.bp_roles.specs.Mounted.{KeepsRoles}
use Rattle.bp_roles.specs.Seen.{MemoryByRoles, seen}
use Rattle.bp_volume.specs.Carried.{CarriesOut}
use Rattle.bp_volume.specs.Volume.{IsCachedVolume, IsVolume}
use Rattle.bp_volume.proofs.CarriedLaws.{carried_volume}
use Rattle.bp_volume.proofs.FileCallLaws.{volume-ended}
use Rattle.bp_volume.proofs.RolesLaws.{carried_keeps, ended_keeps, super_keeps}
use Rattle.bp_volume.proofs.SuperLaws.{CallsSuper, super_trees, volume_super}
use Rattle.bp_volume.proofs.SuperLaws.CallsSuper.{altered, unchanged}

-- a marker changes no word
right_ended : (made new : Memory) (cache : DirectoryCache) → IsCacheOf (current_words made) cache → Adds made new (CallEnd ∷ []) → IsCacheOf (current_words new) cache
right_ended made new cache right ends = rw (current_words-adds made new (CallEnd ∷ []) ends) right

-- a call that asks
pub cached_ended : (parts : Parts MemoryByRoles) (region : MemoryByRoles) (pending : ℕ) (cache : DirectoryCache) → KeepsRoles parts.region → IsVolume (seen parts.region) parts pending →
    IsCacheOf (current_words (seen parts.region)) cache → Adds (seen parts.region) (seen region) (CallEnd ∷ []) → IsCachedVolume (record parts { region = region }) pending cache
cached_ended parts region pending cache roles volume right ends = record {
  roles = ended_keeps parts.region region roles ends;
  volume = volume-ended (seen parts.region) (seen region) parts region pending volume ends;
  right = right_ended (seen parts.region) (seen region) cache right ends;
}

-- a call that was carried out
pub cached_carried : {call : Call} {answer : Answer} (parts after : Parts MemoryByRoles) (region : MemoryByRoles) (pending : ℕ) (cache : DirectoryCache) → KeepsRoles parts.region →
    IsVolume (seen parts.region) parts pending → CarriesOut (seen parts.region) call answer (seen after.region) → IsExact (current_words (seen after.region)) after → after.snapshot_blocks ≡ parts.snapshot_blocks →
    IsCacheOf (current_words (seen after.region)) cache → Adds (seen after.region) (seen region) (CallEnd ∷ []) → IsCachedVolume (record after { region = region }) pending cache
cached_carried {call} {answer} parts after region pending cache roles volume called exact kept right ends = record {
  roles = carried_keeps parts.region after.region region call answer roles called ends;
  volume = carried_volume (seen parts.region) (seen after.region) (seen region) parts after region pending volume called exact kept ends;
  right = right_ended (seen after.region) (seen region) cache right ends;
}

-- a call that stores words of the superblock beside the first tree
right_super : (memory made : Memory) (call : Call) (answer : Answer) (cache : DirectoryCache) → CallsSuper memory made call answer → IsCacheOf (current_words memory) cache → IsCacheOf (current_words made) cache
right_super memory made call answer cache (altered is does) right =
    cache_kept (current_words memory) (current_words made) cache
    (same_trees_keep_all (current_words memory) (current_words made) (super_trees memory made call does) does.well.first) right
right_super memory made call answer cache (unchanged same reported) right = rw same right

pub cached_super : (call : Call) (answer : Answer) (parts after : Parts MemoryByRoles) (region : MemoryByRoles) (pending : ℕ) (cache : DirectoryCache) → KeepsRoles parts.region → IsVolume (seen parts.region) parts pending →
    IsCacheOf (current_words (seen parts.region)) cache → CallsSuper (seen parts.region) (seen after.region) call answer → IsExact (current_words (seen after.region)) after →
    AreInSnapshot (current_words (seen after.region)) (in_snapshot_of after) → Adds (seen after.region) (seen region) (CallEnd ∷ []) → IsCachedVolume (record after { region = region }) pending cache
cached_super call answer parts after region pending cache roles volume right called exact snapshot_blocks ends = record {
  roles = super_keeps parts.region after.region region call answer roles called ends;
  volume = volume_super (seen parts.region) (seen after.region) (seen region) call answer parts after region pending volume called exact snapshot_blocks ends;
  right = right_ended (seen after.region) (seen region) cache (right_super (seen parts.region) (seen after.region) call answer cache called right) ends;
}
