-- How a handle gets a volume, and how it loses it, with its memory or without.
use Rattle.std.specs.Prelude.{◌≡◌, ◌≢◌, ◌⊎◌, ℕ, ◌*◌, ◌^◌, ◌-◌, List, [], length, min, Option, None, Some, Result, Ok, Err}
use Rattle.bp_layout.specs.Checks.{number_of}
use Rattle.bp_layout.specs.Formatted.{IsSized}
use Rattle.bp_layout.specs.Whole.{IsFileSystem}
use Rattle.bp_limits.specs.Limits.{log_events, max_blocks}
use Rattle.bp_scan.specs.Length.{wanted_length}
use Rattle.bp_scan.specs.declared.fault.MountFault.{MountFault}
use Rattle.bp_scan.specs.declared.fault.MountFault.TheVariants.{NotFormatted, BadSize, Damaged, Memory as Lacking}
use Rattle.pm_region.specs.Memory.{Memory, current_words}
use Rattle.bp_roles.specs.Mounted.{by_roles}
use Rattle.bp_mount.specs.Faults.{IsMountFault}
use Rattle.bpfs_c.specs.declared.mounted.Mounted.{Mounted}
use Rattle.bpfs_c.specs.declared.mount.Fault.{Fault}

-- The number of a mount fault, and the fields of `Fault` that are written with it. The place of a fault of a mount is
-- where its word is stored (`IsMountFault`). The other fields keep their values.
abbrev pub ReportsFault : MountFault → Fault → ℕ → Fault → Type 0
ReportsFault NotFormatted old code new = (code ≡ 35) × (new ≡ old)
ReportsFault (BadSize found wanted) old code new =
    (code ≡ 36) × (new ≡ record old { found = found; wanted = wanted })
ReportsFault (Damaged check place) old code new =
    (code ≡ 37) × (new ≡ record old { check = number_of check; place = place })
ReportsFault Lacking old code new = (code ≡ 12) × (new ≡ old)

-- The region of a copy of these words, with an empty log.
abbrev pub region_of : List ℕ → Memory
region_of words = record { base = words; events = []; capacity = log_events; drains = 0; through = 0 }

-- The length of words in bytes, as a 64-bit number: at most 2^64 - 1.
abbrev pub byte_count : List ℕ → ℕ
byte_count words = min (8 * length words) (2 ^ 64 - 1)

-- The fault of words whose number no image has: their length in bytes, and that of the image nearest in size.
abbrev pub odd_size : List ℕ → MountFault
odd_size words = BadSize (byte_count words) (wanted_length max_blocks (byte_count words))

-- An image may have this number of words; else the fault is `odd_size`.
abbrev pub IsSizedOr : List ℕ → Result (Unit {0}) MountFault → Type 0
IsSizedOr words (Ok nothing) = IsSized words
IsSizedOr words (Err fault) = ¬ IsSized words × (fault ≡ odd_size words)

-- The volume is over a copy of these words, and to a mount they are a file system (`by_roles`). Else the fault names the
-- cause: no image has this number of words, allocation failed, or the words are no file system to a mount.
abbrev pub Mounts : List ℕ → Result Memory MountFault → Type 0
Mounts words (Ok volume) = IsSized words × (volume ≡ region_of words) × IsFileSystem (by_roles words)
Mounts words (Err fault) =
    (¬ IsSized words × (fault ≡ odd_size words))
    ⊎ (IsSized words × ((fault ≡ Lacking) ⊎ (IsMountFault words fault × ¬ IsFileSystem (by_roles words))))

-- A volume right after its mount: no listing is kept, no event was drained, and the tag is 0.
abbrev pub mounted_of : Memory → Mounted
mounted_of volume = record { volume = volume; listing = None; drained = 0; tag = 0 }

-- The handle holds this volume and no listing (0), or allocation failed and the handle is unchanged (12).
abbrev pub Holds : Memory → Option Mounted → ℕ → Option Mounted → Type 0
Holds volume old code new =
    ((code ≡ 0) × (new ≡ Some (mounted_of volume))) ⊎ ((code ≡ 12) × (new ≡ old))

-- A handle that held no volume then holds one over a copy of the words. It still holds none where no image has this
-- number of words or they are no file system to a mount (the number and `Fault` give the cause), and where allocation
-- fails. A handle that held a volume keeps it, and the number is 33.
pub data Opens (words : List ℕ) (old : Option Mounted) (fault : Fault) (code : ℕ) (new : Option Mounted) (new_fault : Fault) : Type 0 where
  opened : old ≡ None → IsSized words → IsFileSystem (by_roles words) → code ≡ 0 →
      new ≡ Some (mounted_of (region_of words)) → new_fault ≡ fault →
      Opens words old fault code new new_fault
  holding : (held : Mounted) → old ≡ Some held → code ≡ 33 → new ≡ old → new_fault ≡ fault →
      Opens words old fault code new new_fault
  odd : old ≡ None → ¬ IsSized words → ReportsFault (odd_size words) fault code new_fault → new ≡ None →
      Opens words old fault code new new_fault
  faulty : (why : MountFault) → old ≡ None → IsSized words → IsMountFault words why → ¬ IsFileSystem (by_roles words) →
      ReportsFault why fault code new_fault → new ≡ None → Opens words old fault code new new_fault
  short : old ≡ None → IsSized words → code ≡ 12 → new ≡ None → new_fault ≡ fault →
      Opens words old fault code new new_fault

-- The handle loses its volume if the log has no event. Else it keeps the volume, and the number is 40.
pub data Closes (old : Option Mounted) (code : ℕ) (new : Option Mounted) : Type 0 where
  closed : old ≡ None → code ≡ 32 → new ≡ None → Closes old code new
  pending : (held : Mounted) → old ≡ Some held → held.volume.events ≢ [] → code ≡ 40 → new ≡ old → Closes old code new
  freed : (held : Mounted) → old ≡ Some held → held.volume.events ≡ [] → code ≡ 0 → new ≡ None → Closes old code new

-- The number that `bpfs_discard` and `bpfs_close_at` return: 32 if the handle held no volume, else 0.
abbrev pub ReportsWhetherHeld : Option Mounted → ℕ → Type 0
ReportsWhetherHeld None code = code ≡ 32
ReportsWhetherHeld (Some held) code = code ≡ 0

-- The volume is over these words, and to a mount they are a file system. Else the words come back, and the fault names
-- the cause as for `Mounts`.
abbrev pub MountsAt : List ℕ → Result Memory (List ℕ × MountFault) → Type 0
MountsAt words (Ok volume) = Mounts words (Ok volume)
MountsAt words (Err (again, fault)) = (again ≡ words) × Mounts words (Err fault)

-- The handle holds this volume and no listing (0), or allocation failed (12): then the handle is unchanged, and the
-- words of the volume are lent again.
abbrev pub HoldsAt : Memory → Option Mounted → Option (List ℕ) → ℕ → Option Mounted → Option (List ℕ) → Type 0
HoldsAt volume old lent code new new_lent =
    ((code ≡ 0) × (new ≡ Some (mounted_of volume)) × (new_lent ≡ lent))
    ⊎ ((code ≡ 12) × (new ≡ old) × (new_lent ≡ Some (current_words volume)))

-- Lent words are mounted where they are, as `Opens` says of a copy of them, and then belong to the handle. They are
-- lent again if there is no volume. A handle that held a volume keeps it, and what is lent stays (33). The number is
-- 38 where nothing is lent.
pub data OpensAt (lent : Option (List ℕ)) (old : Option Mounted) (fault : Fault) (code : ℕ) (new : Option Mounted)
    (new_lent : Option (List ℕ)) (new_fault : Fault) : Type 0 where
  nothing : lent ≡ None → old ≡ None → code ≡ 38 → new ≡ None → new_lent ≡ None → new_fault ≡ fault →
      OpensAt lent old fault code new new_lent new_fault
  busy : (held : Mounted) → old ≡ Some held → code ≡ 33 → new ≡ old → new_lent ≡ lent → new_fault ≡ fault →
      OpensAt lent old fault code new new_lent new_fault
  opened_at : (words : List ℕ) → lent ≡ Some words → old ≡ None → code ≡ 0 →
      Opens words old fault code new new_fault → new_lent ≡ None → OpensAt lent old fault code new new_lent new_fault
  refused : (words : List ℕ) → lent ≡ Some words → old ≡ None →
      Opens words old fault code new new_fault → new ≡ None → new_lent ≡ Some words → OpensAt lent old fault code new new_lent new_fault

-- The words of the volume that the handle held, as they are now, are lent. Without a volume nothing changes.
abbrev pub GivesBack : Option Mounted → Option (List ℕ) → Option (List ℕ) → Type 0
GivesBack None lent new = new ≡ lent
GivesBack (Some held) lent new = new ≡ Some (current_words held.volume)
