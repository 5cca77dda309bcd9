-- The seen memory determines the roles and the memory below, and the events that were added to its log.
use Rattle.std.proofs.Common.{◌≡◌, ℕ, ◌+◌, ◌*◌, ◌<◌, ◌≤◌, List, [], ◌∷◌, ◌++◌, length, get_or, refl, sym, ◌∙◌, ap, subst, arith}
use Rattle.std.proofs.lemmas.List.{ext_get_or, map-append}
use Rattle.pm_epochs.specs.declared.event.Event.{Event}
use Rattle.pm_epochs.specs.declared.event.Event.TheVariants.{Store, Barrier, CallEnd}
use Rattle.pm_region.specs.Memory.{Memory, Adds}
use Rattle.bp_roles.specs.Roles.{number_of, seen_at, swapped}
use Rattle.bp_roles.specs.Seen.{IsWide, MemoryByRoles, raw_event, raw_events, seen, seen_event, seen_events, seen_memory, seen_words}
use Rattle.bp_roles.specs.Stored.{roles_numbered}
use Rattle.bp_roles.specs.declared.roles.Roles.{Roles}
use Rattle.bp_roles.specs.declared.roles.Roles.TheVariants.{OutsideA, OutsideB, InsideA, InsideB}
use Rattle.bp_roles.proofs.PlaceLaws.{stored_at-seen_at, seen_at-stored_at}
use Rattle.bp_roles.proofs.SwapLaws.{swapped-twice}
use Rattle.bp_roles.proofs.SeenLaws.{length-seen, seen-word}

-- ## Words

pub word_told : (roles : Roles) (words : List ℕ) (i : ℕ) → 8 ≤ length words → get_or words i 0 ≡ swapped roles (seen_at roles i) (get_or (seen_words roles words) (seen_at roles i) 0)
word_told roles words i wide =
    sym (ap (swapped roles (seen_at roles i)) (seen-word roles words (seen_at roles i) wide ∙ ap (λ p. swapped roles (seen_at roles i) (get_or words p 0)) (stored_at-seen_at roles i))
    ∙ swapped-twice roles (seen_at roles i) (get_or words i 0))

words_told : (roles : Roles) (one two : List ℕ) → 8 ≤ length one → 8 ≤ length two → seen_words roles one ≡ seen_words roles two → one ≡ two
words_told roles one two wide other same = ext_get_or 0 one two (sym (length-seen roles one) ∙ ap length same ∙ length-seen roles two) (λ i low.
    word_told roles one i wide ∙ ap (λ ws. swapped roles (seen_at roles i) (get_or ws (seen_at roles i) 0)) same ∙ sym (word_told roles two i other))

-- ## Events

raw_seen : (roles : Roles) (event : Event) → raw_event roles (seen_event roles event) ≡ event
raw_seen roles (Store word value) =
    ap (λ w. Store w (swapped roles (seen_at roles word) (swapped roles (seen_at roles word) value))) (stored_at-seen_at roles word) ∙ ap (Store word) (swapped-twice roles (seen_at roles word) value)
raw_seen roles Barrier = refl
raw_seen roles CallEnd = refl

seen_raw : (roles : Roles) (event : Event) → seen_event roles (raw_event roles event) ≡ event
seen_raw roles (Store word value) =
    ap (λ w. Store w (swapped roles w (swapped roles word value))) (seen_at-stored_at roles word) ∙ ap (Store word) (swapped-twice roles word value)
seen_raw roles Barrier = refl
seen_raw roles CallEnd = refl

pub all_raw_seen : (roles : Roles) (events : List Event) → raw_events roles (seen_events roles events) ≡ events
all_raw_seen roles [] = refl
all_raw_seen roles (event ∷ events) = ap (λ e. e ∷ raw_events roles (seen_events roles events)) (raw_seen roles event) ∙ ap (λ es. event ∷ es) (all_raw_seen roles events)

pub all_seen_raw : (roles : Roles) (events : List Event) → seen_events roles (raw_events roles events) ≡ events
all_seen_raw roles [] = refl
all_seen_raw roles (event ∷ events) = ap (λ e. e ∷ seen_events roles (raw_events roles events)) (seen_raw roles event) ∙ ap (λ es. event ∷ es) (all_seen_raw roles events)

-- ## Roles

pub number_low : (roles : Roles) → number_of roles < 4
number_low OutsideA = omega arith
number_low OutsideB = omega arith
number_low InsideA = omega arith
number_low InsideB = omega arith

pub numbered_number : (roles : Roles) → roles_numbered (number_of roles) ≡ roles
unfolding roles_numbered
numbered_number OutsideA = refl
numbered_number OutsideB = refl
numbered_number InsideA = refl
numbered_number InsideB = refl

-- ## Memories

roles_told : (one two : MemoryByRoles) → seen one ≡ seen two → one.roles ≡ two.roles
roles_told one two same =
    let through : 4 * one.memory.through + number_of one.roles ≡ 4 * two.memory.through + number_of two.roles = ap (λ (m : Memory). m.through) same in
    let number : number_of one.roles ≡ number_of two.roles = omega (arith, through, number_low one.roles, number_low two.roles) in
    sym (numbered_number one.roles) ∙ ap roles_numbered number ∙ numbered_number two.roles

memory_told : (roles : Roles) (one two : Memory) → IsWide one → IsWide two → seen_memory roles one ≡ seen_memory roles two → one ≡ two
memory_told roles one two wide other same =
    let base : one.base ≡ two.base = words_told roles one.base two.base wide other (ap (λ (m : Memory). m.base) same) in
    let events : one.events ≡ two.events = sym (all_raw_seen roles one.events) ∙ ap (λ (m : Memory). raw_events roles m.events) same ∙ all_raw_seen roles two.events in
    let capacity : one.capacity ≡ two.capacity = ap (λ (m : Memory). m.capacity) same in
    let drains : one.drains ≡ two.drains = ap (λ (m : Memory). m.drains) same in
    let shown : 4 * one.through + number_of roles ≡ 4 * two.through + number_of roles = ap (λ (m : Memory). m.through) same in
    let through : one.through ≡ two.through = omega (arith, shown) in
    λ i. record { base = base i; events = events i; capacity = capacity i; drains = drains i; through = through i }

pub all_told : (one two : MemoryByRoles) → IsWide one.memory → IsWide two.memory → seen one ≡ seen two → one ≡ two
all_told one two wide other same =
    let roles : one.roles ≡ two.roles = roles_told one two same in
    let memory : one.memory ≡ two.memory =
    memory_told two.roles one.memory two.memory wide other (subst (λ r. seen_memory r one.memory ≡ seen_memory two.roles two.memory) roles same) in
    λ i. record { roles = roles i; memory = memory i }

pub adds_told : (old new : MemoryByRoles) (more : List Event) → IsWide old.memory → IsWide new.memory → Adds (seen old) (seen new) more →
    new ≡ record { roles = old.roles; memory = record old.memory { events = old.memory.events ++ raw_events old.roles more } }
adds_told old new more wide other added =
    all_told new (record { roles = old.roles; memory = record old.memory { events = old.memory.events ++ raw_events old.roles more } }) other wide
    (added ∙ ap (λ es. record (seen old) { events = es })
    (ap (λ es. seen_events old.roles old.memory.events ++ es) (sym (all_seen_raw old.roles more))
    ∙ sym (map-append (seen_event old.roles) old.memory.events (raw_events old.roles more))))
