use Rattle.std.proofs.Common.{rules, length, ◌≡◌, ℕ, ap, sym, ◌∙◌}
use Rattle.std.proofs.lemmas.List.{nil_from_length}
use Rattle.pm_region.specs.Memory.{Memory}
use Rattle.bpfs_c.specs.Opens.Closes.{freed, pending}
use Rattle.bpfs_c.specs.declared.mounted.Mounted.{Mounted}
use Rattle.bpfs_c.proofs.mount.bpfs_close.Goals as goal

counted : (count : ℕ) (memory : Memory) (now held : Mounted) → count ≡ length memory.events → memory ≡ now.volume → now ≡ held → count ≡ length held.volume.events
counted count memory now held counts same is = counts ∙ ap (λ (m : Memory). length m.events) same ∙ ap (λ (m : Mounted). length m.volume.events) is

pub returns-then-event_count-ne0 : goal.returns-then-event_count-ne0
returns-then-event_count-ne0 c =
    let held = c.in-Some.mounted.value in
    let count = counted _ _ _ held c.event_count.ensures.count c.region.ensures.memory c.deref.ensures in
    pending held (search rules) (λ none. c.if-event_count-ne0.true (count ∙ ap length none)) (search rules) (search rules)

pub returns : goal.returns
returns c =
    let held = c.in-Some.mounted.value in
    let count = counted _ _ _ held c.event_count.ensures.count c.region.ensures.memory c.deref.ensures in
    freed held (search rules) (nil_from_length held.volume.events (sym count ∙ c.if-event_count-ne0.false)) (search rules) (search rules)
