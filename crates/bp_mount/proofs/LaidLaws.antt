-- What a format makes of a region.
use Rattle.std.proofs.Common.{◌≡◌, ◌∙◌, List, [], ap, length, refl}
use Rattle.pm_epochs.specs.declared.event.Event.{Event}
use Rattle.pm_region.specs.Memory.{Memory, drained, Adds}
use Rattle.pm_region.proofs.MemoryLaws.{length-current_words}
use Rattle.bp_limits.specs.declared.version.Version.{Version}
use Rattle.bp_limits.specs.declared.version.Version.TheVariants.{One, Two, Three}
use Rattle.bp_layout.specs.Words.{block_count}
use Rattle.bp_mount.specs.Laid.{format_events, formatted_memory}

-- after the stores of a format and a drain
pub drained_format : (version : Version) (old new : Memory) → old.events ≡ [] → Adds old new (format_events version (block_count old.base)) → drained new ≡ formatted_memory version old
drained_format One old new fresh adds = rw (adds, fresh) refl
drained_format Two old new fresh adds = rw (adds, fresh) refl
drained_format Three old new fresh adds = rw (adds, fresh) refl

-- which has as many words
pub length_laid : (old laid : Memory) (events : List Event) (new : Memory) → Adds old laid events → new ≡ drained laid → length new.base ≡ length old.base
length_laid old laid events new adds drains = ap (λ (memory : Memory). length memory.base) drains ∙ length-current_words laid ∙ ap (λ (memory : Memory). length memory.base) adds
