-- How a mount sees an image of any version: by the roles that its magic number gives.
use Rattle.std.specs.Prelude.{◌≡◌, ◌==◌, ℕ, if◌then◌else◌, List}
use Rattle.pm_epochs.specs.declared.event.Event.{Event}
use Rattle.pm_epochs.specs.May.{StoresMay}
use Rattle.pm_region.specs.Memory.{Memory, current_words}
use Rattle.bp_limits.specs.Limits.{super_magic}
use Rattle.bp_layout.specs.Whole.{SameFiles}
use Rattle.bp_layout.specs.Words.{Image, word}
use Rattle.bp_roles.specs.Roles.{magic_of}
use Rattle.bp_roles.specs.Seen.{IsWide, MemoryByRoles, seen_events, seen_words}
use Rattle.bp_roles.specs.declared.roles.Roles.{Roles}
use Rattle.bp_roles.specs.declared.roles.Roles.TheVariants.{OutsideA, OutsideB}

-- The roles outside a transaction under a magic number. They are those of the magic number `BPFSRS3A` for all values
-- except `BPFSRS3B`: an image of version 1 or 2 has its words where `BPFSRS3A` has them.
abbrev pub roles_of : ℕ → Roles
roles_of value = if value == magic_of OutsideB then OutsideB else OutsideA

-- The image as a mount, a check and an export see it: if it is of version 3, with the magic number `BPFSRS3A`, and with
-- the root word and the size of its files at words 2 and 3. So what is stated of images with that magic number holds
-- for all images of version 3. An image without the magic number `BPFSRS3B` is seen as it is.
abbrev pub by_roles : Image → Image
by_roles image = seen_words (roles_of (word image super_magic)) image

-- Both images represent the same files to a mount, in one version. An open transaction plays no part.
abbrev pub SameDurable : Image → Image → Type 0
SameDurable old new = SameFiles (by_roles old) (by_roles new)

-- The current words of a region as a mount would see them: the image that a volume serves.
abbrev pub served_words : Memory → Image
served_words memory = by_roles (current_words memory)

-- Events of a log as the roles show them that the current words of a region give.
abbrev pub served_events : Memory → List Event → List Event
served_events memory events = seen_events (roles_of (word (current_words memory) super_magic)) events

-- A store that leaves these roles: it does not go to word 0, or its value there gives these roles.
abbrev pub LeavesRoles : Roles → ℕ → ℕ → Type 0
LeavesRoles roles place value = place ≡ super_magic → roles_of value ≡ roles

-- The roles are those that a mount would take, now and after a crash at any point: each value that word 0 has had since
-- the last drain gives them.
pub record KeepsRoles (it : MemoryByRoles) : Type 0 where
  pub wide : IsWide it.memory
  pub base : roles_of (word it.memory.base super_magic) ≡ it.roles
  pub stores : StoresMay (LeavesRoles it.roles) it.memory.events
