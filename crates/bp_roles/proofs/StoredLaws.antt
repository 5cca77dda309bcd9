-- The memory that is seen says what is stored.
use Rattle.std.proofs.Common.{◌≡◌, ℕ, ◌<◌, ◌≤◌, List, length, get_or, refl, sym, ◌∙◌, ap, arith}
use Rattle.std.specs.Prelude.{◌+◌, ◌*◌, ◌%◌}
use Rattle.std.proofs.lemmas.List.{ext_get_or}
use Rattle.std.proofs.lemmas.List.FromFn.{length-map-range_with_len, get_or-map-range_with_len}
use Rattle.pm_region.specs.Memory.{Memory, current_words}
use Rattle.bp_roles.specs.Roles.{number_of, seen_at, swapped}
use Rattle.bp_roles.specs.Seen.{IsWide, MemoryByRoles, raw_events, seen, seen_words}
use Rattle.bp_roles.specs.Stored.{raw_words, roles_in, roles_numbered, stored_base, stored_events, stored_words}
use Rattle.bp_roles.specs.declared.roles.Roles.{Roles}
use Rattle.bp_roles.specs.declared.roles.Roles.TheVariants.{OutsideA}
use Rattle.bp_roles.proofs.AsStored.{swapped-same}
use Rattle.bp_roles.proofs.PlaceLaws.{by_word, seen_at-past}
use Rattle.bp_roles.proofs.SeenLaws.{length-seen, seen-current, wide-drained}
use Rattle.bp_roles.proofs.SwapLaws.{swapped-past}
use Rattle.bp_roles.proofs.Unseen.{all_raw_seen, number_low, numbered_number, word_told}

-- ## Words

pub length-raw : (roles : Roles) (words : List ℕ) → length (raw_words roles words) ≡ length words
unfolding raw_words
length-raw roles words = length-map-range_with_len (λ i. swapped roles (seen_at roles i) (get_or words (seen_at roles i) 0)) 0 (length words)

pub raw-word : (roles : Roles) (words : List ℕ) (i : ℕ) → i < length words → get_or (raw_words roles words) i 0 ≡ swapped roles (seen_at roles i) (get_or words (seen_at roles i) 0)
unfolding raw_words
raw-word roles words i low = get_or-map-range_with_len (λ k. swapped roles (seen_at roles k) (get_or words (seen_at roles k) 0)) 0 (length words) i i 0 low (omega arith)

pub raw_of_seen : (roles : Roles) (words : List ℕ) → 8 ≤ length words → raw_words roles (seen_words roles words) ≡ words
raw_of_seen roles words wide = ext_get_or 0 (raw_words roles (seen_words roles words)) words (length-raw roles (seen_words roles words) ∙ length-seen roles words) (λ i low.
    raw-word roles (seen_words roles words) i (omega (arith, low, length-raw roles (seen_words roles words))) ∙ sym (word_told roles words i wide))

-- past the first 8 words nothing is at another place
pub raw-past : (roles : Roles) (words : List ℕ) (i : ℕ) → 8 ≤ i → i < length words → get_or (raw_words roles words) i 0 ≡ get_or words i 0
raw-past roles words i past low =
    raw-word roles words i low
    ∙ swapped-past roles (seen_at roles i) (get_or words (seen_at roles i) 0) (omega (arith, seen_at-past roles i past, past))
    ∙ ap (λ p. get_or words p 0) (seen_at-past roles i past)

-- ## Roles

pub roles-seen : (it : MemoryByRoles) → roles_in (seen it) ≡ it.roles
roles-seen it =
    let number : (4 * it.memory.through + number_of it.roles) % 4 ≡ number_of it.roles = omega (arith, number_low it.roles) in
    ap roles_numbered number ∙ numbered_number it.roles

-- ## Memories

pub stored_now : (it : MemoryByRoles) → IsWide it.memory → stored_words (seen it) ≡ current_words it.memory
stored_now it wide =
    ap (λ roles. raw_words roles (current_words (seen it))) (roles-seen it)
    ∙ ap (raw_words it.roles) (seen-current it.roles it.memory wide)
    ∙ raw_of_seen it.roles (current_words it.memory) (wide-drained it.memory wide)

pub stored_then : (it : MemoryByRoles) → IsWide it.memory → stored_base (seen it) ≡ it.memory.base
stored_then it wide =
    ap (λ roles. raw_words roles (seen it).base) (roles-seen it) ∙ raw_of_seen it.roles it.memory.base wide

pub stored_log : (it : MemoryByRoles) → stored_events (seen it) ≡ it.memory.events
stored_log it = ap (λ roles. raw_events roles (seen it).events) (roles-seen it) ∙ all_raw_seen it.roles it.memory.events

-- ## A region's own memory

seen_at-a : (i : ℕ) → seen_at OutsideA i ≡ i
unfolding seen_at
seen_at-a i = by_word (λ i. seen_at OutsideA i ≡ i) refl refl refl refl refl refl refl refl (λ i. refl) i

raw_own : (words : List ℕ) → raw_words OutsideA words ≡ words
raw_own words = ext_get_or 0 (raw_words OutsideA words) words (length-raw OutsideA words) (λ i low.
    raw-word OutsideA words i (omega (arith, low, length-raw OutsideA words))
    ∙ swapped-same OutsideA refl (seen_at OutsideA i) (get_or words (seen_at OutsideA i) 0)
    ∙ ap (λ p. get_or words p 0) (seen_at-a i))

roles-own : (memory : Memory) → memory.through ≡ 0 → roles_in memory ≡ OutsideA
roles-own memory own = ap (λ n. roles_numbered (n % 4)) own ∙ numbered_number OutsideA

pub own_now : (memory : Memory) → memory.through ≡ 0 → stored_words memory ≡ current_words memory
own_now memory own = ap (λ roles. raw_words roles (current_words memory)) (roles-own memory own) ∙ raw_own (current_words memory)

pub own_then : (memory : Memory) → memory.through ≡ 0 → stored_base memory ≡ memory.base
own_then memory own = ap (λ roles. raw_words roles memory.base) (roles-own memory own) ∙ raw_own memory.base
