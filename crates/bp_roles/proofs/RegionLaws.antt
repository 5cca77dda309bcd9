-- The postconditions of the calls of a region as it is seen, from those of the region below.
use Rattle.std.proofs.Common.{◌≡◌, ℕ, zero, suc, ◌+◌, ◌-◌, ◌<◌, ◌≤◌, false, List, [], ◌∷◌, ◌++◌, length, take, drop, get_or, Some, refl, sym, ◌∙◌, ap, subst, arith}
use Rattle.std.specs.Prelude.{None, slice_get, slice_range, option_map}
use Rattle.std.proofs.lemmas.Bool.{ltb-false}
use Rattle.std.proofs.lemmas.List.{ext_get_or, get_or-drop, length-drop, take-map}
use Rattle.std.proofs.lemmas.Option.{slice_get-get_or, slice_get-map}
use Rattle.pm_epochs.specs.declared.event.Event.{Event}
use Rattle.pm_epochs.specs.declared.event.Event.TheVariants.{Store, Barrier, CallEnd}
use Rattle.pm_epochs.specs.declared.event.EventKind.{EventKind}
use Rattle.pm_epochs.specs.declared.event.EventKind.TheVariants as kinds
use Rattle.pm_epochs.specs.Kind.{event_of, event_value, value_at}
use Rattle.pm_epochs.specs.Log.{words_after}
use Rattle.pm_epochs.proofs.CrashLaws.{length-words_after}
use Rattle.pm_region.specs.Memory.{Memory, Adds, AreInRow, AreWithin, Follows, current_words, stores_from}
use Rattle.pm_region.proofs.KindLaws.{kind_get}
use Rattle.bp_roles.specs.Roles.{stored_at, seen_at, swapped}
use Rattle.bp_roles.specs.Seen.{MemoryByRoles, IsWide, is_of_head, seen, seen_words, seen_event, seen_events, seen_kind, seen_memory}
use Rattle.bp_roles.specs.declared.roles.Roles.{Roles}
use Rattle.bp_roles.proofs.PlaceLaws.{seen_at-stored_at, seen_at-past}
use Rattle.bp_roles.proofs.SwapLaws.{swapped-past, swapped-twice}
use Rattle.bp_roles.proofs.SeenLaws.{length-seen, seen-word, seen-word_past, stored_at-inside, seen-words_after, seen-current, seen-adds, seen-within}

-- ## Reads

-- a word read at the place where it is stored
pub read-is : (roles : Roles) (words : List ℕ) (word at value : ℕ) → 8 ≤ length words → at ≡ stored_at roles word → value ≡ get_or words at 0 → swapped roles word value ≡ get_or (seen_words roles words) word 0
read-is roles words word at value wide there is =
    ap (swapped roles word) (is ∙ ap (λ p. get_or words p 0) there) ∙ sym (seen-word roles words word wide)

pub wide-after : (words : List ℕ) (events : List Event) → 8 ≤ length words → 8 ≤ length (words_after words events)
wide-after words events wide = omega (arith, length-words_after words events, wide)

module _ (it now : MemoryByRoles) (same : it ≡ now) where
  pub size-is : length (seen_words now.roles now.memory.base) ≡ length it.memory.base
  size-is = length-seen now.roles now.memory.base ∙ ap (λ (r : MemoryByRoles). length r.memory.base) (sym same)

  pub stored_at-in : IsWide it.memory → (word at : ℕ) → at ≡ stored_at it.roles word → word < length (seen_words now.roles now.memory.base) → at < length it.memory.base
  stored_at-in wide word at there low =
      subst (λ p. p < length it.memory.base) (sym there) (stored_at-inside it.roles (length it.memory.base) word wide (omega (arith, low, size-is)))

  pub load-is : IsWide it.memory → (word at value : ℕ) → at ≡ stored_at it.roles word → value ≡ get_or (current_words it.memory) at 0 → swapped it.roles word value ≡ get_or (current_words (seen now)) word 0
  load-is wide word at value there is =
      subst (λ (r : MemoryByRoles). swapped it.roles word value ≡ get_or (current_words (seen r)) word 0) same
      (read-is it.roles (current_words it.memory) word at value (wide-after it.memory.base it.memory.events wide) there is
      ∙ ap (λ ws. get_or ws word 0) (sym (seen-current it.roles it.memory wide)))

  pub load-past : IsWide it.memory → (word value : ℕ) → 8 ≤ word → value ≡ get_or (current_words it.memory) word 0 → value ≡ get_or (current_words (seen now)) word 0
  load-past wide word value past is =
      subst (λ (r : MemoryByRoles). value ≡ get_or (current_words (seen r)) word 0) same
      (is ∙ sym (seen-word_past it.roles (current_words it.memory) word (wide-after it.memory.base it.memory.events wide) past)
      ∙ ap (λ ws. get_or ws word 0) (sym (seen-current it.roles it.memory wide)))

  pub base-is : IsWide it.memory → (word at value : ℕ) → at ≡ stored_at it.roles word → value ≡ get_or it.memory.base at 0 → swapped it.roles word value ≡ get_or (seen now).base word 0
  base-is wide word at value there is =
      subst (λ (r : MemoryByRoles). swapped it.roles word value ≡ get_or (seen r).base word 0) same (read-is it.roles it.memory.base word at value wide there is)

  pub past-is : IsWide it.memory → (moment word at value : ℕ) → at ≡ stored_at it.roles word → value ≡ get_or (words_after it.memory.base (take moment it.memory.events)) at 0 →
      swapped it.roles word value ≡ get_or (words_after (seen now).base (take moment (seen now).events)) word 0
  past-is wide moment word at value there is =
      subst (λ (r : MemoryByRoles). swapped it.roles word value ≡ get_or (words_after (seen r).base (take moment (seen r).events)) word 0) same
      (read-is it.roles (words_after it.memory.base (take moment it.memory.events)) word at value (wide-after it.memory.base (take moment it.memory.events) wide) there is
      ∙ ap (λ ws. get_or ws word 0)
      (seen-words_after it.roles it.memory.base (take moment it.memory.events) wide
      ∙ ap (words_after (seen_words it.roles it.memory.base)) (sym (take-map (seen_event it.roles) moment it.memory.events))))

-- a run of words past the first 8
drop-seen : (roles : Roles) (words : List ℕ) (first : ℕ) → 8 ≤ length words → 8 ≤ first → drop first (seen_words roles words) ≡ drop first words
drop-seen roles words first wide past = ext_get_or 0 _ _ (length-drop first (seen_words roles words) ∙ ap (λ n. n - first) (length-seen roles words) ∙ sym (length-drop first words)) (λ i low.
    get_or-drop first (seen_words roles words) i 0 ∙ seen-word_past roles words (first + i) wide (omega (arith, past)) ∙ sym (get_or-drop first words i 0))

pub run-is : (it now : MemoryByRoles) → it ≡ now → IsWide it.memory → (first count : ℕ) (values : List ℕ) → 8 ≤ first → values ≡ slice_range (current_words it.memory) first (first + count) → values ≡ slice_range (current_words (seen now)) first (first + count)
run-is it now same wide first count values past is =
    subst (λ (r : MemoryByRoles). values ≡ slice_range (current_words (seen r)) first (first + count)) same
    (is ∙ ap (take ((first + count) - first)) (sym (drop-seen it.roles (current_words it.memory) first (wide-after it.memory.base it.memory.events wide) past)
    ∙ ap (drop first) (sym (seen-current it.roles it.memory wide))))

-- ## Stores

pub store-is : (it now : MemoryByRoles) → it ≡ now → (new : Memory) (word at value to : ℕ) → at ≡ stored_at it.roles word → to ≡ swapped it.roles word value →
    Adds it.memory new (Store at to ∷ []) → Adds (seen now) (seen_memory it.roles new) (Store word value ∷ [])
store-is it now same new word at value to there is added =
    let at_is : seen_at it.roles at ≡ word = ap (seen_at it.roles) there ∙ seen_at-stored_at it.roles word in
    let value_is : swapped it.roles (seen_at it.roles at) to ≡ value = ap (λ w. swapped it.roles w to) at_is ∙ ap (swapped it.roles word) is ∙ swapped-twice it.roles word value in
    let event_is : seen_event it.roles (Store at to) ≡ Store word value = ap (λ w. Store w (swapped it.roles (seen_at it.roles at) to)) at_is ∙ ap (Store word) value_is in
    subst (λ (r : MemoryByRoles). Adds (seen r) (seen_memory it.roles new) (Store word value ∷ [])) same
    (subst (λ (event : Event). Adds (seen it) (seen_memory it.roles new) (event ∷ [])) event_is (seen-adds it.roles it.memory new (Store at to ∷ []) added))

pub added-is : (it now : MemoryByRoles) → it ≡ now → (new : Memory) (more others : List Event) → Adds it.memory new more → seen_events it.roles more ≡ others → Adds (seen now) (seen_memory it.roles new) others
added-is it now same new more others added is =
    subst (λ (r : MemoryByRoles). Adds (seen r) (seen_memory it.roles new) others) same
    (subst (λ (es : List Event). Adds (seen it) (seen_memory it.roles new) es) is (seen-adds it.roles it.memory new more added))

pub store-past : (roles : Roles) (word value : ℕ) → 8 ≤ word → seen_events roles (Store word value ∷ []) ≡ Store word value ∷ []
store-past roles word value past =
    let at_is : seen_at roles word ≡ word = seen_at-past roles word past in
    ap (λ (event : Event). event ∷ []) (ap (λ w. Store w (swapped roles (seen_at roles word) value)) at_is
    ∙ ap (Store word) (ap (λ w. swapped roles w value) at_is ∙ swapped-past roles word value (omega (arith, past))))

pub run-past : (roles : Roles) (first : ℕ) (values : List ℕ) → 8 ≤ first → seen_events roles (stores_from first values) ≡ stores_from first values
run-past roles first [] past = refl
run-past roles first (value ∷ values) past =
    ap (λ es. es ++ seen_events roles (stores_from (first + 1) values)) (store-past roles first value past)
    ∙ ap (λ es. Store first value ∷ es) (run-past roles (first + 1) values (omega (arith, past)))

-- ## Events

kind-whole : (roles : Roles) (kind : EventKind) (value : ℕ) → seen_event roles (event_of kind value) ≡ event_of (seen_kind roles kind) (event_value (seen_event roles (event_of kind value)))
kind-whole roles (kinds.Store word) value = refl
kind-whole roles kinds.Barrier value = refl
kind-whole roles kinds.CallEnd value = refl

pub kind-is : (it now : MemoryByRoles) → it ≡ now → (i : ℕ) (kind told : EventKind) → told ≡ seen_kind it.roles kind → slice_get it.memory.events i ≡ Some (event_of kind (value_at it.memory.events i)) →
    slice_get (seen now).events i ≡ Some (event_of told (value_at (seen now).events i))
kind-is it now same i kind told tells is =
    subst (λ (r : MemoryByRoles). slice_get (seen r).events i ≡ Some (event_of told (value_at (seen r).events i))) same
    (kind_get (seen it).events i (seen_event it.roles (event_of kind (value_at it.memory.events i))) told
    (slice_get-map (seen_event it.roles) it.memory.events i ∙ ap (option_map (seen_event it.roles)) is)
    (kind-whole it.roles kind (value_at it.memory.events i) ∙ ap (λ k. event_of k (event_value (seen_event it.roles (event_of kind (value_at it.memory.events i))))) (sym tells)))

-- a store past the first 8 words, or an event that is no store
abbrev IsPastHead : Event → Type 0
IsPastHead (Store word value) = 8 ≤ word
IsPastHead Barrier = Unit {0}
IsPastHead CallEnd = Unit {0}

past-next : (event next : Event) → IsPastHead event → Follows event next → IsPastHead next
past-next (Store word value) (Store other more) past follows = omega (arith, past, follows)
past-next (Store word value) Barrier past follows = absurd follows
past-next (Store word value) CallEnd past follows = absurd follows
past-next Barrier next past follows = absurd follows
past-next CallEnd next past follows = absurd follows

past-kind : (kind : EventKind) (value : ℕ) → is_of_head kind ≡ false → IsPastHead (event_of kind value)
past-kind (kinds.Store word) value loose = omega (arith, ltb-false word 8 loose)
past-kind kinds.Barrier value loose = tt
past-kind kinds.CallEnd value loose = tt

seen-past : (roles : Roles) (event : Event) → IsPastHead event → seen_event roles event ≡ event
seen-past roles (Store word value) past =
    let at_is : seen_at roles word ≡ word = seen_at-past roles word past in
    ap (λ w. Store w (swapped roles (seen_at roles word) value)) at_is
    ∙ ap (Store word) (ap (λ w. swapped roles w value) at_is ∙ swapped-past roles word value (omega (arith, past)))
seen-past roles Barrier past = refl
seen-past roles CallEnd past = refl

-- all events of a row that begins past the first 8 words are of this kind
past-row : (events : List Event) (first count : ℕ) (begins : Event) → AreInRow events first count → slice_get events first ≡ Some begins → IsPastHead begins → first + count ≤ length events →
    (i : ℕ) (event : Event) → i < count → slice_get events (first + i) ≡ Some event → IsPastHead event
past-row events first count begins row starts past inside zero event low is =
    let here : first + 0 ≡ first = omega arith in
    let same : begins ≡ event = let told = ap (slice_get events) here in cc in
    subst IsPastHead same past
past-row events first count begins row starts past inside (suc i) event low is =
    let last = get_or events (first + i) CallEnd in
    let there : first + suc i ≡ first + i + 1 = omega arith in
    let found : slice_get events (first + i) ≡ Some (get_or events (first + i) CallEnd) = slice_get-get_or events (first + i) CallEnd (omega (arith, low, inside)) in
    past-next (get_or events (first + i) CallEnd) event
    (past-row events first count begins row starts past inside i (get_or events (first + i) CallEnd) (omega (arith, low)) found)
    (row i (get_or events (first + i) CallEnd) event (omega (arith, low)) found (ap (slice_get events) (sym there) ∙ is))

-- each seen event comes from an event of the log below
record SeenFrom (roles : Roles) (events : List Event) (i : ℕ) (event : Event) : Type 0 where
  raw : Event
  there : slice_get events i ≡ Some raw
  is : seen_event roles raw ≡ event

seen-from : (roles : Roles) (events : List Event) (i : ℕ) (event : Event) → slice_get (seen_events roles events) i ≡ Some event → SeenFrom roles events i event
seen-from roles [] i event is = absurd (let no : None ≡ Some event = is in cc)
seen-from roles (raw ∷ events) zero event is = record { raw = raw; there = refl; is = let told : Some (seen_event roles raw) ≡ Some event = is in cc }
seen-from roles (raw ∷ events) (suc i) event is = let found = seen-from roles events i event is in record { raw = found.raw; there = found.there; is = found.is }

pub row-is : (it now : MemoryByRoles) → it ≡ now → (first count : ℕ) (kind : EventKind) (value : ℕ) → is_of_head kind ≡ false → slice_get it.memory.events first ≡ Some (event_of kind value) → first + count ≤ length it.memory.events →
    AreInRow it.memory.events first count → AreInRow (seen now).events first count
row-is it now same first count kind value loose starts inside row =
    subst (λ (r : MemoryByRoles). AreInRow (seen r).events first count) same (λ i event next low is then.
    let one = seen-from it.roles it.memory.events (first + i) event is in
    let two = seen-from it.roles it.memory.events (first + i + 1) next then in
    let past = past-row it.memory.events first count (event_of kind value) row starts (past-kind kind value loose) inside i one.raw (omega (arith, low)) one.there in
    let follows = row i one.raw two.raw low one.there two.there in
    let first_is : event ≡ one.raw = sym one.is ∙ seen-past it.roles one.raw past in
    let next_is : next ≡ two.raw = sym two.is ∙ seen-past it.roles two.raw (past-next one.raw two.raw past follows) in
    rw (first_is, next_is) follows)

pub within-is : (it now : MemoryByRoles) → it ≡ now → IsWide it.memory → AreWithin (length it.memory.base) it.memory.events → AreWithin (length (seen now).base) (seen now).events
within-is it now same wide within =
    subst (λ (r : MemoryByRoles). AreWithin (length (seen r).base) (seen r).events) same
    (subst (λ n. AreWithin n (seen_events it.roles it.memory.events)) (sym (length-seen it.roles it.memory.base)) (seen-within it.roles (length it.memory.base) it.memory.events wide within))
