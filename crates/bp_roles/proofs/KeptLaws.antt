-- Roles that a mount would take too: what a call over the view does to the region below.
use Rattle.std.proofs.Common.{◌≡◌, ◌≢◌, ◌⊎◌, inl, inr, ℕ, Bool, true, false, nat_lt, List, [], ◌∷◌, length, take, refl, sym, ◌∙◌, ap, subst, arith}
use Rattle.std.specs.Prelude.{if◌then◌else◌}
use Rattle.std.proofs.lemmas.Bool.{ne_eqb}
use Rattle.std.proofs.lemmas.Bool.Decides.{eqb_tells}
use Rattle.pm_epochs.specs.declared.event.Event.{Event}
use Rattle.pm_epochs.specs.declared.event.Event.TheVariants.{Store, Barrier, CallEnd}
use Rattle.pm_epochs.specs.Log.{IsStoredIn, up_to_call_end, words_after}
use Rattle.pm_epochs.specs.May.{AnyAt, StoresMay}
use Rattle.pm_epochs.specs.Replay.{PowerCut, after_calls, kept_calls, kept_stores, replay}
use Rattle.pm_epochs.proofs.MayLaws.{EachMay-stored, StoresMay-append, StoresMay-stores_of, StoresMay-take, StoresMay-weaker}
use Rattle.pm_epochs.proofs.PieceLaws.{StoresMay-IsStoredIn}
use Rattle.pm_region.specs.Memory.{Adds, Memory, crashed, current_words, drained, room_in, with_room}
use Rattle.pm_region.specs.Safe.{IsSafe}
use Rattle.pm_region.proofs.MemoryLaws.{current_words-with_room}
use Rattle.bp_limits.specs.Limits.{magic, super_magic}
use Rattle.bp_limits.specs.declared.version.Version.TheVariants.{Three}
use Rattle.bp_layout.specs.Whole.{SameFiles}
use Rattle.bp_layout.specs.Words.{Image, word}
use Rattle.bp_roles.specs.Mounted.{KeepsRoles, LeavesRoles, SameDurable, by_roles, roles_of, served_events, served_words}
use Rattle.bp_roles.specs.Roles.{magic_of, seen_at, stored_at, swapped}
use Rattle.bp_roles.specs.Seen.{IsWide, MemoryByRoles, raw_events, seen, seen_events, seen_memory, seen_words}
use Rattle.bp_roles.specs.declared.roles.Roles.{Roles}
use Rattle.bp_roles.specs.declared.roles.Roles.TheVariants.{OutsideA, OutsideB}
use Rattle.bp_roles.proofs.Durable.{StoresMay-up_to_call_end}
use Rattle.bp_roles.proofs.PlaceLaws.{seen_at-stored_at, stored_at-zero}
use Rattle.bp_roles.proofs.SwapLaws.{exchanged-one, swapped-first}
use Rattle.bp_roles.proofs.SeenLaws.{closed-seen, length-seen, seen-after_calls, seen-current, seen-drained, seen-kept_calls, seen-replay, seen-right, seen-room, seen-word, wide-crashed, wide-drained}
use Rattle.bp_roles.proofs.Unseen.{adds_told, all_seen_raw}

-- ## Roles outside a transaction

-- A store, as it is seen, that leaves these roles.
abbrev pub LeavesSeen : Roles → ℕ → ℕ → Type 0
LeavesSeen roles place value = place ≡ super_magic → roles_of (swapped roles super_magic value) ≡ roles

-- The roles are those outside a transaction that fit the image, which is seen by them.
abbrev pub IsOutside : Roles → Image → Type 0
IsOutside roles image = (roles ≡ OutsideA) ⊎ ((roles ≡ OutsideB) × (word image super_magic ≡ magic Three))

pub roles_other : (value : ℕ) → value ≢ magic_of OutsideB → roles_of value ≡ OutsideA
roles_other value other = rw (ne_eqb value (magic_of OutsideB) other) refl

-- whichever of the stores survive, word 0 gives the roles
module _ (it : MemoryByRoles) (keeps : KeepsRoles it) where
  roles-after : (part : List Event) → StoresMay (LeavesRoles it.roles) part → roles_of (word (words_after it.memory.base part) super_magic) ≡ it.roles
  roles-after part may = elim ((EachMay-stored (LeavesRoles it.roles) it.memory.base part may).each super_magic) [
    | inl same ↦ ap roles_of same ∙ keeps.base
    | inr leaves ↦ leaves refl
  ]

  roles-now : roles_of (word (current_words it.memory) super_magic) ≡ it.roles
  roles-now = roles-after it.memory.events keeps.stores

  roles-replay : (cut : PowerCut) → roles_of (word (replay it.memory.base it.memory.events cut) super_magic) ≡ it.roles
  roles-replay cut = roles-after (kept_stores it.memory.events cut)
      (StoresMay-stores_of (LeavesRoles it.roles) (take cut.moment it.memory.events) cut.epoch cut.mask
      (StoresMay-take (LeavesRoles it.roles) cut.moment it.memory.events keeps.stores))

  roles-calls : (count : ℕ) → roles_of (word (after_calls it.memory.base it.memory.events count) super_magic) ≡ it.roles
  roles-calls count = roles-after (up_to_call_end count it.memory.events) (StoresMay-up_to_call_end (LeavesRoles it.roles) count it.memory.events keeps.stores)

  -- word 0 is seen with the magic number of version 3 if it is stored with the other one
  first-b : it.roles ≡ OutsideB → word (current_words it.memory) super_magic ≡ magic_of OutsideB → word (current_words (seen it)) super_magic ≡ magic Three
  first-b is_b marked =
      ap (λ ws. word ws super_magic) (seen-current it.roles it.memory keeps.wide)
      ∙ seen-word it.roles (current_words it.memory) super_magic (wide-drained it.memory keeps.wide)
      ∙ ap (λ place. swapped it.roles super_magic (word (current_words it.memory) place)) (stored_at-zero it.roles)
      ∙ ap (swapped it.roles super_magic) marked
      ∙ ap (λ roles. swapped roles super_magic (magic_of OutsideB)) is_b
      ∙ swapped-first OutsideB (magic_of OutsideB)
      ∙ exchanged-one (magic_of OutsideB) (magic Three)

pub kept-outside : (it : MemoryByRoles) → KeepsRoles it → IsOutside it.roles (current_words (seen it))
kept-outside it keeps = elim (eqb_tells (word (current_words it.memory) super_magic) (magic_of OutsideB)) [
  | inl same ↦
      let is_b : it.roles ≡ OutsideB = sym (roles-now it keeps) ∙ ap roles_of same.1 in
      inr (is_b, first-b it keeps is_b same.1)
  | inr differ ↦ inl (sym (roles-now it keeps) ∙ roles_other (word (current_words it.memory) super_magic) differ.1)
]

-- ## Events that are added

module _ (old new : MemoryByRoles) (more : List Event) (wide : IsWide old.memory) (adds : Adds (seen old) (seen new) more) where
  pub wide-adds : IsWide new.memory
  wide-adds = omega (
    arith,
    ap (λ (m : Memory). length m.base) adds,
    length-seen new.roles new.memory.base,
    length-seen old.roles old.memory.base,
    wide,
  )

  pub roles-adds : new.roles ≡ old.roles
  roles-adds = ap (λ (it : MemoryByRoles). it.roles) (adds_told old new more wide wide-adds adds)

  pub raw-adds : Adds old.memory new.memory (raw_events old.roles more)
  raw-adds = ap (λ (it : MemoryByRoles). it.memory) (adds_told old new more wide wide-adds adds)

-- only the store that is seen at word 0 goes there
first-place : (roles : Roles) (place : ℕ) → stored_at roles place ≡ super_magic → place ≡ super_magic
first-place roles place there =
    sym (seen_at-stored_at roles place) ∙ ap (seen_at roles) (there ∙ sym (stored_at-zero roles)) ∙ seen_at-stored_at roles super_magic

raw-leaves : (roles : Roles) (events : List Event) → StoresMay (LeavesSeen roles) events → StoresMay (LeavesRoles roles) (raw_events roles events)
raw-leaves roles [] may = tt
raw-leaves roles (Store place value ∷ events) may = (
  λ there.
      let first : place ≡ super_magic = first-place roles place there in
      ap (λ at. roles_of (swapped roles at value)) first ∙ may.0 first,
  raw-leaves roles events may.1,
)
raw-leaves roles (Barrier ∷ events) may = raw-leaves roles events may
raw-leaves roles (CallEnd ∷ events) may = raw-leaves roles events may

module _ (old new : MemoryByRoles) (more : List Event) (keeps : KeepsRoles old) (adds : Adds (seen old) (seen new) more) where
  pub kept-adds : StoresMay (LeavesSeen old.roles) more → KeepsRoles new
  kept-adds may = subst KeepsRoles (sym (adds_told old new more keeps.wide (wide-adds old new more keeps.wide adds) adds)) (record {
    wide = keeps.wide;
    base = keeps.base;
    stores = StoresMay-append (LeavesRoles old.roles) old.memory.events (raw_events old.roles more) keeps.stores (raw-leaves old.roles more may);
  })

  -- where no store goes to word 0
  pub kept-idle : (IsStoredIn more super_magic → ⊥) → KeepsRoles new
  kept-idle idle = kept-adds
      (StoresMay-weaker (AnyAt (IsStoredIn more)) (LeavesSeen old.roles) (λ place value stored there. absurd (idle (subst (IsStoredIn more) there stored))) more
      (StoresMay-IsStoredIn more))

-- ## Words and memories

module _ (it : MemoryByRoles) (keeps : KeepsRoles it) where
  pub kept-served : served_words it.memory ≡ current_words (seen it)
  kept-served = ap (λ roles. seen_words roles (current_words it.memory)) (roles-now it keeps) ∙ sym (seen-current it.roles it.memory keeps.wide)

  pub kept-events : (more : List Event) → served_events it.memory (raw_events it.roles more) ≡ more
  kept-events more = ap (λ roles. seen_events roles (raw_events it.roles more)) (roles-now it keeps) ∙ all_seen_raw it.roles more

  pub kept-replay : (cut : PowerCut) → by_roles (replay it.memory.base it.memory.events cut) ≡ replay (seen it).base (seen it).events cut
  kept-replay cut =
      ap (λ roles. seen_words roles (replay it.memory.base it.memory.events cut)) (roles-replay it keeps cut)
      ∙ seen-replay it.roles it.memory.base it.memory.events cut keeps.wide

  pub kept-after : (count : ℕ) → by_roles (after_calls it.memory.base it.memory.events count) ≡ after_calls (seen it).base (seen it).events count
  kept-after count =
      ap (λ roles. seen_words roles (after_calls it.memory.base it.memory.events count)) (roles-calls it keeps count)
      ∙ seen-after_calls it.roles it.memory.base it.memory.events count keeps.wide

  pub kept-safe : IsSafe SameFiles (seen it) → IsSafe SameDurable it.memory
  kept-safe safe = record {
    right = record {
      each = λ cut right.
          let calls : after_calls (seen it).base (seen it).events (kept_calls (seen it).events cut) ≡ by_roles (after_calls it.memory.base it.memory.events (kept_calls it.memory.events cut)) =
          ap (after_calls (seen it).base (seen it).events) (seen-kept_calls it.roles it.memory.events cut) ∙ sym (kept-after (kept_calls it.memory.events cut)) in
          subst (λ ws. SameFiles ws (by_roles (after_calls it.memory.base it.memory.events (kept_calls it.memory.events cut)))) (sym (kept-replay cut))
          (subst (SameFiles (replay (seen it).base (seen it).events cut)) calls (safe.right.each cut (seen-right it.roles it.memory.events cut right)));
    };
    closed = closed-seen it.roles it.memory.events safe.closed;
    well = subst (λ ws. SameFiles ws ws) (sym kept-served) safe.well;
  }

  pub kept-drained : KeepsRoles (record it { memory = drained it.memory })
  kept-drained = record { wide = wide-drained it.memory keeps.wide; base = roles-now it keeps; stores = tt }

  pub kept-crashed : (cut : PowerCut) → KeepsRoles (record it { memory = crashed it.memory cut })
  kept-crashed cut = record { wide = wide-crashed it.memory cut keeps.wide; base = roles-replay it keeps cut; stores = tt }

pub kept-fresh : (memory : Memory) → IsWide memory → memory.events ≡ [] → KeepsRoles (record { roles = roles_of (word memory.base super_magic); memory = memory })
kept-fresh memory wide fresh = record {
  wide = wide;
  base = refl;
  stores = subst (StoresMay (LeavesRoles (roles_of (word memory.base super_magic)))) (sym fresh) tt;
}

-- ## Room for a call

pub seen-with_room : (roles : Roles) (wanted : ℕ) (memory : Memory) → IsWide memory → seen_memory roles (with_room wanted memory) ≡ with_room wanted (seen_memory roles memory)
seen-with_room roles wanted memory wide =
    either (nat_lt (room_in memory) wanted)
    ∙ ap (λ room. if nat_lt room wanted then drained (seen_memory roles memory) else seen_memory roles memory) (sym (seen-room roles memory))
  where
    either : (full : Bool) → seen_memory roles (if full then drained memory else memory) ≡ (if full then drained (seen_memory roles memory) else seen_memory roles memory)
    either true = seen-drained roles memory wide
    either false = refl

pub served-with_room : (wanted : ℕ) (memory : Memory) → served_words (with_room wanted memory) ≡ served_words memory
served-with_room wanted memory = ap by_roles (current_words-with_room wanted memory)

pub events-with_room : (wanted : ℕ) (memory : Memory) (more : List Event) → served_events (with_room wanted memory) more ≡ served_events memory more
events-with_room wanted memory more = ap (λ ws. seen_events (roles_of (word ws super_magic)) more) (current_words-with_room wanted memory)
