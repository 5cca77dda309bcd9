-- What a format does to a region.
use Rattle.std.specs.Prelude.{◌≡◌, ℕ, ◌+◌, ◌-◌, ◌^◌, min, List, [], ◌∷◌, ◌++◌, map, flat_map}
use Rattle.pm_epochs.specs.declared.event.Event.{Event}
use Rattle.pm_epochs.specs.declared.event.Event.TheVariants.{Store, Barrier}
use Rattle.pm_epochs.specs.Replay.{IsReplay}
use Rattle.pm_region.specs.Memory.{Memory}
use Rattle.bp_layout.specs.Format.{format_epochs, formatted}
use Rattle.bp_plain.specs.PlainTree.{empty_tree}
use Rattle.bp_plain.specs.Stands.{Stands}
use Rattle.bp_fs.specs.SuperEvents.{stores_epoch}
use Rattle.bp_limits.specs.Limits.{super_magic}
use Rattle.bp_limits.specs.declared.version.Version.{Version}
use Rattle.bp_layout.specs.Words.{Image, word, block_count}

abbrev pub format_events : Version → ℕ → List Event
format_events version blocks = flat_map stores_epoch (format_epochs version blocks)

-- What a crash during a format leaves: the old words, words whose magic number is 0, or an empty file system.
pub data IsLeftByFormat (version : Version) (old image : Image) : Type 0 where
  untouched : image ≡ old → IsLeftByFormat version old image
  no_magic : word image super_magic ≡ 0 → IsLeftByFormat version old image
  empty : Stands image (empty_tree version) → IsLeftByFormat version old image

-- The property holds of each image that a crash may leave of the memory.
abbrev pub OfEachReplay : Memory → (Image → Type 0) → Type 0
OfEachReplay memory Holds = (image : Image) → IsReplay memory.base memory.events image → Holds image

-- The memory after a format and a drain: its log is empty, and its words are those of an empty file system.
abbrev pub formatted_memory : Version → Memory → Memory
formatted_memory version memory = record {
  base = formatted memory.base version (block_count memory.base);
  events = [];
  capacity = memory.capacity;
  drains = min (memory.drains + 1) (2 ^ 64 - 1);
  through = memory.through;
}
