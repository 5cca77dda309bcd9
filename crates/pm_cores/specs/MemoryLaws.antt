-- What a write-back and a crash leave of the memory.
use Rattle.std.specs.Prelude.{◌≡◌, ◌≤◌, ℕ, List, length, take, slice_set}
use Rattle.pm_epochs.specs.declared.event.Event.{Event}
use Rattle.pm_epochs.specs.Replay.{IsRight, replay}
use Rattle.pm_cores.specs.Caches.{Caches, memory_over, value_at, with_back}
use Rattle.pm_cores.specs.Choice.{cut_at}
use Rattle.pm_cores.specs.Played.{IsPlayed}

-- Writing back a word changes the memory only at this word, which takes its value.
abbrev pub WritesOneWord : List ℕ → Caches → ℕ → Type 0
WritesOneWord base caches word =
    memory_over base (with_back caches word) ≡ slice_set (memory_over base caches) word (value_at base caches word)

-- If only core 0 stored, and its entries are the first `moment` events of a log, the crash point is valid for the log.
abbrev pub IsRightChoice : Caches → List Event → ℕ → Type 0
IsRightChoice caches events moment =
    moment ≤ length events → IsPlayed (take moment events) caches.log → IsRight events (cut_at caches moment)

-- If only core 0 stored, and its entries are the first `moment` events of a log, the memory is the replay of the crash
-- point.
abbrev pub LeavesMemory : List ℕ → Caches → List Event → ℕ → Type 0
LeavesMemory base caches events moment = moment ≤ length events → IsPlayed (take moment events) caches.log →
    replay base events (cut_at caches moment) ≡ memory_over base caches
