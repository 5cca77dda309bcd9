-- The blocks to which a log stores.
use Rattle.std.proofs.Common.{zero, suc, refl, sym, ◌∙◌, ap, arith, ◌≡◌, ℕ, ◌+◌, ◌-◌, ◌*◌, ◌/◌, ◌<◌, ◌≤◌, List, [], ◌∷◌, ◌++◌, drop, length, set, take, Bool, true, false, inl, inr, subst}
use Rattle.std.specs.Prelude.{◌⊎◌, Option, None, Some, min, replicate, slice_get, if◌then◌else◌}
use Rattle.std.proofs.lemmas.Bool.{cases_eq, cases_lt, le-ltb, lt-ltb}
use Rattle.bp_limits.specs.Limits.{call_room, max_file_blocks}
use Rattle.std.proofs.lemmas.List.{append-nil, drop_all, get_or-replicate, get_or-set_other, get_or-take, get_or_past, length-append, length-replicate, length-set, length-take, take_all, take_at}
use Rattle.pm_epochs.specs.declared.event.Event.{Event}
use Rattle.pm_epochs.specs.declared.event.Event.TheVariants.{Barrier, CallEnd, Store}
use Rattle.pm_epochs.specs.Log.{stores, words_after}
use Rattle.pm_region.specs.Memory.{AreInRow, AreWithin, Follows, Memory, current_words, drained, room_in}
use Rattle.bp_layout.specs.Words.{Image, word}
use Rattle.bp_plain.specs.declared.calls.Call.{Call as GivenCall}
use Rattle.bp_plain.specs.declared.calls.Call.TheVariants.{UpgradeToThree}
use Rattle.bp_plain.specs.Seen.{call_of}
use Rattle.bp_session.specs.Changed.{AreDirty, AreClean, CoversAll, CoversCall, CoversChanges, CoversDrain, is_dirty}

-- each word to which one of the first events stores, as many, lies in a block that is dirty
abbrev pub CoversStores : List Bool → List Event → ℕ → Type 0
CoversStores flags events count =
    (i at value : ℕ) → i < count → slice_get events i ≡ Some (Store at value) → is_dirty flags (at / 512) ≡ true

-- where each store's word does, no other word changes
pub covers_changes : (flags : List Bool) (base : Image) (events : List Event) → CoversStores flags events (length events) → CoversChanges flags base (words_after base events)
covers_changes flags base [] reported place inside offset = refl
covers_changes flags base (Store at value ∷ events) reported place inside offset =
    covers_changes flags (set base at value) events (λ i a v low. reported (suc i) a v (omega (arith, low))) place (omega (arith, inside, length-set base at value)) offset
    ∙ apart (cases_eq place at)
  where
    apart : ((place ≡ at) ⊎ (place ≡ at → ⊥)) → word (set base at value) place ≡ word base place
    apart (inl e) = absurd (let no : true ≡ false = sym (reported zero at value (omega arith) refl) ∙ (rw (sym e) offset) in cc)
    apart (inr other) = get_or-set_other base at place value 0 other
covers_changes flags base (Barrier ∷ events) reported place inside offset = covers_changes flags base events (λ i a v low. reported (suc i) a v (omega (arith, low))) place inside offset
covers_changes flags base (CallEnd ∷ events) reported place inside offset = covers_changes flags base events (λ i a v low. reported (suc i) a v (omega (arith, low))) place inside offset

-- ---- a row of stores

-- the event is a store to this word
abbrev pub StoresTo : Event → ℕ → Type 0
StoresTo (Store at value) place = at ≡ place
StoresTo Barrier place = ⊥
StoresTo CallEnd place = ⊥

some_at : (events : List Event) (i : ℕ) → i < length events → slice_get events i ≡ None → ⊥
some_at [] i low none = omega (arith, low)
some_at (event ∷ events) zero low none = absurd (cc)
some_at (event ∷ events) (suc i) low none = some_at events i (omega (arith, low)) none

next_to : (event next : Event) (place : ℕ) → StoresTo event place → Follows event next → StoresTo next (place + 1)
next_to (Store at value) (Store other given) place to follows = follows ∙ ap (λ n. n + 1) to
next_to (Store at value) Barrier place to follows = absurd follows
next_to (Store at value) CallEnd place to follows = absurd follows
next_to Barrier next place to follows = absurd to
next_to CallEnd next place to follows = absurd to

-- the events of a row that begins with a store, by their places in it
pub row_at : (events : List Event) (first count at value : ℕ) → slice_get events first ≡ Some (Store at value) → AreInRow events first count → first + count ≤ length events
    → (j : ℕ) (event : Event) → j < count → slice_get events (first + j) ≡ Some event → StoresTo event (at + j)
row_at events first count at value is row fits zero event low here =
    let place : first + 0 ≡ first = omega arith in
    let same : Some (Store at value) ≡ Some event = sym is ∙ sym (ap (slice_get events) place) ∙ here in
    let store : Store at value ≡ event = cc in
    let to : at ≡ at + 0 = omega arith in
    subst (λ (e : Event). StoresTo e (at + 0)) store to
row_at events first count at value is row fits (suc j) event low here =
    go (slice_get events (first + j)) refl (λ before. row_at events first count at value is row fits j before (omega (arith, low)))
  where
    go : (before : Option Event) → slice_get events (first + j) ≡ before → ((before : Event) → slice_get events (first + j) ≡ Some before → StoresTo before (at + j)) → StoresTo event (at + suc j)
    go None none to = absurd (some_at events (first + j) (omega (arith, low, fits)) none)
    go (Some before) some to =
        let place : first + suc j ≡ first + j + 1 = omega arith in
        let follows = row j before event (omega (arith, low)) some (sym (ap (slice_get events) place) ∙ here) in
        let sum : at + j + 1 ≡ at + suc j = omega arith in
        subst (λ n. StoresTo event n) sum (next_to before event (at + j) (to before some) follows)

-- an event that none follows stands alone
pub row_alone : (events : List Event) (first count : ℕ) (event : Event) → slice_get events first ≡ Some event → ((next : Event) → Follows event next → ⊥) → AreInRow events first count
    → first + count ≤ length events → count ≤ 1
row_alone events first count event is alone row fits = at (cases_lt 1 count)
  where
    at : (1 < count) ⊎ (count ≤ 1) → count ≤ 1
    at (inl more) = go (slice_get events (first + 1)) refl
      where
        go : (next : Option Event) → slice_get events (first + 1) ≡ next → count ≤ 1
        go None none = absurd (some_at events (first + 1) (omega (arith, more, fits)) none)
        go (Some next) some =
            let here : first + 0 ≡ first = omega arith in
            let following : first + 0 + 1 ≡ first + 1 = omega arith in
            absurd (alone next (row 0 event next (omega (arith, more)) (ap (slice_get events) here ∙ is) (ap (slice_get events) following ∙ some)))
    at (inr few) = few

within_at : (count : ℕ) (events : List Event) (i at value : ℕ) → AreWithin count events → slice_get events i ≡ Some (Store at value) → at < count
within_at count [] i at value within here = absurd (cc)
within_at count (Store word given ∷ events) zero at value within here = let same : word ≡ at = cc in subst (λ n. n < count) same within.0
within_at count (Barrier ∷ events) zero at value within here = absurd (cc)
within_at count (CallEnd ∷ events) zero at value within here = absurd (cc)
within_at count (Store word given ∷ events) (suc i) at value within here = within_at count events i at value within.1 here
within_at count (Barrier ∷ events) (suc i) at value within here = within_at count events i at value within here
within_at count (CallEnd ∷ events) (suc i) at value within here = within_at count events i at value within here

-- the words of a row of stores
pub row_within : (words : ℕ) (events : List Event) (first count at value : ℕ) → slice_get events first ≡ Some (Store at value) → AreInRow events first count → first + count ≤ length events
    → 0 < count → AreWithin words events → at + count ≤ words
row_within words events first count at value is row fits some within = go (slice_get events (first + (count - 1))) refl
  where
    go : (last : Option Event) → slice_get events (first + (count - 1)) ≡ last → at + count ≤ words
    go None none = absurd (some_at events (first + (count - 1)) (omega (arith, some, fits)) none)
    go (Some last) here = end last here (row_at events first count at value is row fits (count - 1) last (omega (arith, some)) here)
      where
        end : (last : Event) → slice_get events (first + (count - 1)) ≡ Some last → StoresTo last (at + (count - 1)) → at + count ≤ words
        end (Store word given) here to = omega (arith, some, to, within_at words events (first + (count - 1)) word given within here)
        end Barrier here to = absurd to
        end CallEnd here to = absurd to

-- ---- the flags of a row, after those of the events before it

pub covers_more : (old new : List Bool) (events : List Event) (count : ℕ) → ((i : ℕ) → is_dirty old i ≡ true → is_dirty new i ≡ true) → CoversStores old events count → CoversStores new events count
covers_more old new events count more reported i at value low here = more (at / 512) (reported i at value low here)

pub covers_row : (flags : List Bool) (events : List Event) (first count at value : ℕ) → slice_get events first ≡ Some (Store at value) → AreInRow events first count → first + count ≤ length events
    → ((place : ℕ) → at ≤ place → place < at + count → is_dirty flags (place / 512) ≡ true) → CoversStores flags events first → CoversStores flags events (first + count)
covers_row flags events first count at value is row fits dirtied reported i store given low here = go (cases_lt i first)
  where
    go : (i < first) ⊎ (first ≤ i) → is_dirty flags (store / 512) ≡ true
    go (inl before) = reported i store given before here
    go (inr past) =
        let place : first + (i - first) ≡ i = omega (arith, past) in
        let to : store ≡ at + (i - first) = row_at events first count at value is row fits (i - first) (Store store given) (omega (arith, low, past)) (ap (slice_get events) place ∙ here) in
        dirtied store (omega (arith, to)) (omega (arith, to, low, past))

pub covers_alone : (flags : List Bool) (events : List Event) (first count : ℕ) (event : Event) → slice_get events first ≡ Some event → ((at value : ℕ) → event ≡ Store at value → ⊥) → count ≤ 1
    → CoversStores flags events first → CoversStores flags events (first + count)
covers_alone flags events first count event is alone few reported i store given low here = go (cases_lt i first)
  where
    go : (i < first) ⊎ (first ≤ i) → is_dirty flags (store / 512) ≡ true
    go (inl before) = reported i store given before here
    go (inr past) =
        let place : i ≡ first = omega (arith, past, low, few) in
        let same : Some event ≡ Some (Store store given) = sym is ∙ sym (ap (slice_get events) place) ∙ here in
        absurd (alone store given cc)

-- a log without a store has none
pub none_at : (events : List Event) (i at value : ℕ) → stores events ≡ [] → slice_get events i ≡ Some (Store at value) → ⊥
none_at [] i at value none here = cc
none_at (Store word given ∷ events) i at value none here = cc
none_at (Barrier ∷ events) zero at value none here = cc
none_at (CallEnd ∷ events) zero at value none here = cc
none_at (Barrier ∷ events) (suc i) at value none here = none_at events i at value none here
none_at (CallEnd ∷ events) (suc i) at value none here = none_at events i at value none here

-- the words of blocks that are dirty, up to the last or to the end of the flags
pub dirty_within : (flags : List Bool) (first count end block : ℕ) → 0 < count → end ≡ min (length flags) ((first + (count - 1)) / 512 + 1) → end ≤ block
    → ((k : ℕ) → first / 512 ≤ k → k < block → is_dirty flags k ≡ true) → (word : ℕ) → first ≤ word → word < first + count → is_dirty flags (word / 512) ≡ true
dirty_within flags first count end block some is past reported word low high = at (cases_lt (word / 512) block)
  where
    at : (word / 512 < block) ⊎ (block ≤ word / 512) → is_dirty flags (word / 512) ≡ true
    at (inl before) = reported (word / 512) (omega (arith, low)) before
    at (inr following) = get_or_past flags (word / 512) true (omega (arith, some, is, past, high, following))

-- ---- the flags of a drain that a call begins with

pub drain_dirty : (memory : Memory) (before after : List Bool) → room_in memory < call_room → length after ≡ length before → ((i : ℕ) → is_dirty before i ≡ true → is_dirty after i ≡ true)
    → CoversChanges after memory.base (current_words memory) → (stores memory.events ≡ [] → after ≡ before) → CoversDrain memory before after
drain_dirty memory before after low size more changes none = record {
  size = size;
  more = more;
  changes = subst (λ (full : Bool). CoversChanges after memory.base (if full then drained memory else memory).base) (sym (lt-ltb (room_in memory) call_room low)) changes;
  none = λ drains. elim drains [ inl high ↦ absurd (omega (arith, high, low)) | inr empty ↦ none empty ];
}

pub drain_none : (memory : Memory) (flags : List Bool) → call_room ≤ room_in memory → CoversDrain memory flags flags
drain_none memory flags high = record {
  size = refl;
  more = λ i on. on;
  changes = subst (λ (full : Bool). CoversChanges flags memory.base (if full then drained memory else memory).base) (sym (le-ltb (room_in memory) call_room high)) (λ place inside offset. refl);
  none = λ _. refl;
}

-- ---- all flags at once

pub all_are_dirty : (flags : List Bool) → ((i : ℕ) → i < length flags → is_dirty flags i ≡ true) → AreDirty flags
all_are_dirty flags each i = go (cases_lt i (length flags))
  where
    go : (i < length flags) ⊎ (length flags ≤ i) → is_dirty flags i ≡ true
    go (inl inside) = each i inside
    go (inr following) = get_or_past flags i true following

-- ---- the flags of a call

pub covers_all : (before after : List Bool) → length after ≡ length before → ((i : ℕ) → i < length after → is_dirty after i ≡ true) → CoversAll before after
covers_all before after size each = record { size = size; all = all_are_dirty after each }

pub covers_call : (call : GivenCall) (memory : Memory) (before after : List Bool) → ¬ (call ≡ UpgradeToThree) → CoversDrain memory before after → CoversCall (call_of call) memory before after
covers_call UpgradeToThree memory before after other covers = absurd (other refl)
covers_call call memory before after other covers = covers

-- ---- flags of which none is dirty

-- the first of flags of which none is
pub prefix_clean : (count : ℕ) → AreClean (take count (replicate max_file_blocks false))
prefix_clean count i low =
    let size : length (take count (replicate max_file_blocks false)) ≡ min count max_file_blocks = length-take count (replicate max_file_blocks false) ∙ ap (min count) (length-replicate max_file_blocks false) in
    get_or-take count (replicate max_file_blocks false) i true (omega (arith, low, size)) ∙ get_or-replicate max_file_blocks i false true (omega (arith, low, size))

-- the first flags, as many, which were lent and came back before those after them
pub lent_back : (count lent : ℕ) (flags new : List Bool) → lent ≡ min count (length flags) → length new ≡ lent → take count (new ++ drop lent flags) ≡ new
lent_back count lent flags new is size = at (cases_lt (length flags) count)
  where
    at : (length flags < count) ⊎ (count ≤ length flags) → take count (new ++ drop lent flags) ≡ new
    at (inl short) =
        let none : drop lent flags ≡ [] = drop_all lent flags (omega (arith, short, is)) in
        rw none (take_all count (new ++ []) (omega (arith, length-append new [], size, short, is)) ∙ append-nil new)
    at (inr fits) = take_at new (drop lent flags) count (omega (arith, size, fits, is))

-- what is stated of a file where none is dirty, by those before a log without a store
pub kept_still : {P : Type 0} (old new : List Bool) (words now : ℕ) → (AreClean new → now ≤ 512 * length new → P) → new ≡ old → now ≡ words → AreClean old → words ≤ 512 * length old → P
kept_still old new words now kept same size none covers = kept (subst (λ (flags : List Bool). AreClean flags) (sym same) none) (omega (arith, covers, size, ap length same))
