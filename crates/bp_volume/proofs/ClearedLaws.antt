-- Words that no version before 3 reads are cleared: the files stay, and the volume is one with the same sets and the
-- same cache.
use Rattle.std.proofs.Common.{true≢false, ◌≡◌, ◌⊎◌, ℕ, ◌+◌, ◌-◌, ◌*◌, ◌^◌, ◌<◌, ◌≤◌, List, [], ◌∷◌, ◌++◌, length, min, Bool, true, false, Ok, refl, sym, ◌∙◌, ap, subst, arith, inl, inr}
use Rattle.std.proofs.lemmas.Bool.{cases_lt}
use Rattle.std.proofs.lemmas.List.{map-append}
use Rattle.std.specs.Prelude.{Err, IsErr, IsErrAnd, Result, if◌then◌else◌, nat_lt}
use Rattle.pm_epochs.specs.declared.event.Event.{Event}
use Rattle.pm_epochs.specs.declared.event.Event.TheVariants.{CallEnd}
use Rattle.pm_epochs.specs.Crash.{CrashRight, IsQuiet, Likeness}
use Rattle.pm_epochs.specs.Log.{call_ends}
use Rattle.pm_epochs.specs.Replay.{after_calls, kept_calls, replay}
use Rattle.pm_epochs.proofs.CrashLaws.{call_ends_of-le}
use Rattle.pm_epochs.proofs.MayLaws.{StoresMay-weaker}
use Rattle.pm_region.specs.Memory.{Adds, Memory, current_words, drained, room_in, with_room}
use Rattle.pm_region.specs.Safe.{IsSafe}
use Rattle.pm_region.proofs.MemoryLaws.{adds_both, base-adds, capacity-adds, current_words-adds, length-current_words}
use Rattle.pm_region.proofs.SafeLaws.{room_after_quiet, safe_call, safe_call_end, safe_empty}
use Rattle.bp_cache.specs.Cache.{IsCacheOf}
use Rattle.bp_cache.specs.declared.cache.DirectoryCache.{DirectoryCache}
use Rattle.bp_cache.proofs.EffectLaws.{cache_kept, meaning_keeps_all}
use Rattle.bp_calls.specs.Cleared.{ClearsFrom, IsClearing}
use Rattle.bp_layout.specs.Clearing.{IsNextToClear, cleared_inodes}
use Rattle.bp_calls.proofs.AfterLaws.{IsPrepared, agrees_prepared}
use Rattle.bp_calls.proofs.CountLaws.{exact_meaning}
use Rattle.bp_calls.proofs.SetLaws.{exact_prepared}
use Rattle.bp_changes.specs.Sets.{IsExact, in_snapshot_of}
use Rattle.bp_free.specs.declared.parts.Parts.{Parts}
use Rattle.bp_layout.specs.Formatted.{version_of}
use Rattle.bp_layout.specs.Inode.{AreClear, AreClearBelow, inode_count}
use Rattle.bp_layout.specs.Trees.{AreInSnapshot, has_snapshot}
use Rattle.bp_layout.specs.WellFormed.{IsWellFormed}
use Rattle.bp_layout.specs.Whole.{IsFileSystem, SameFiles}
use Rattle.bp_layout.specs.Words.{Image}
use Rattle.bp_layout.proofs.FewLeaves.{inodes_low}
use Rattle.bp_layout.proofs.NoSnapshot.{none_in_snapshot_of, snapshot_none}
use Rattle.bp_limits.specs.CallLimits.{allows_attributes}
use Rattle.bp_limits.specs.Limits.{call_room}
use Rattle.bp_roles.specs.Mounted.{KeepsRoles, SameDurable, served_words}
use Rattle.bp_roles.specs.Seen.{MemoryByRoles, raw_event, raw_events, seen}
use Rattle.bp_roles.proofs.KeptLaws.{LeavesSeen, kept-adds, kept-safe, kept-served, raw-adds, served-with_room}
use Rattle.bp_roles.proofs.Likeness.{durable_equivalence}
use Rattle.bp_roles.proofs.SeenLaws.{seen-call_ends}
use Rattle.bp_roles.proofs.Unseen.{all_seen_raw}
use Rattle.bp_plain.specs.declared.errors.FsError.{FsError}
use Rattle.bp_fs.specs.Called.{CanUpgrade, ClearsInSteps, ClearsSome, ClearsStep}
use Rattle.bp_fs.specs.Called.ClearsInSteps.{more, none}
use Rattle.bp_volume.specs.Upgraded.{ClearsFirst, MayUpgrade}
use Rattle.bp_volume.specs.Upgraded.ClearsFirst.{cleared, kept}
use Rattle.bp_volume.specs.Volume.{IsCachedVolume, IsVolume}
use Rattle.bp_volume.proofs.CarriedLaws.{blocks-adds}
use Rattle.bp_volume.proofs.FileCallLaws.{volume-ended}
use Rattle.bp_volume.proofs.RolesLaws.{ended_keeps}
use Rattle.bp_volume.proofs.SafeLaws.{whole_of_same, whole_self}
use Rattle.bp_volume.proofs.ViewLaws.{served_is}
use Rattle.bp_volume.proofs.WholeLaws.{whole_equivalence}

-- ---- a quiet log

-- it is right where no call ends in it
quiet_right : (Same : Likeness) (base : List ℕ) (events : List Event) → call_ends events ≡ 0 → IsQuiet Same base events → CrashRight Same base events
quiet_right Same base events none_ends quiet = record {
  each = λ cut right.
      let nothing : kept_calls events cut ≡ 0 = omega (arith, call_ends_of-le events cut.epoch cut.mask, none_ends) in
      subst (λ count. Same (replay base events cut) (after_calls base events count)) (sym nothing) (quiet.each cut right);
}

-- ---- an image with the same files

-- it can be upgraded where the other can
can_upgrade_same : (old new : Image) → SameFiles old new → CanUpgrade old → CanUpgrade new
can_upgrade_same old new same can = record {
  early = ap allows_attributes same.first.version ∙ can.early;
  single = same.second.there ∙ can.single;
}

-- room changes no word
pub words_with_room : (old : Memory) (it : MemoryByRoles) → KeepsRoles it → it.memory ≡ with_room call_room old → current_words (seen it) ≡ served_words old
words_with_room old it keeps room = served_is it (with_room call_room old) keeps room ∙ served-with_room call_room old

pub can_with_room : (old : Memory) (it : MemoryByRoles) → KeepsRoles it → it.memory ≡ with_room call_room old → allows_attributes (version_of (served_words old)) ≡ false → has_snapshot (served_words old) ≡ false →
    CanUpgrade (current_words (seen it))
can_with_room old it keeps room early single = subst CanUpgrade (sym (words_with_room old it keeps room)) (record { early = early; single = single })

-- ---- the answer of the test, which sees the words as a mount does

pub can_if_before : (image : Image) (before : Bool) → before ≡ true → MayUpgrade image (Ok before) → CanUpgrade image
can_if_before image before is = subst (λ b. MayUpgrade image (Ok b)) is

pub allows_if_not : (image : Image) (before : Bool) → before ≡ false → MayUpgrade image (Ok before) → allows_attributes (version_of image) ≡ true
allows_if_not image before is = subst (λ b. MayUpgrade image (Ok b)) is

-- nothing is cleared where an upgrade changes nothing, or is refused
module _ (old : Memory) (image : Image) (served : image ≡ served_words old) where
  cannot : (allows_attributes (version_of image) ≡ true) ⊎ (has_snapshot image ≡ true) → CanUpgrade (served_words old) → AreClear (served_words old)
  cannot (inl allows) can = absurd (true≢false (sym (subst (λ words. allows_attributes (version_of words) ≡ true) served allows) ∙ can.early))
  cannot (inr there) can = absurd (true≢false (sym (subst (λ words. has_snapshot words ≡ true) served there) ∙ can.single))

  pub clears_none : (result : Result Bool FsError) → (result ≡ Ok true → ⊥) → MayUpgrade image result → ClearsFirst old old
  clears_none (Ok true) not_true may = absurd (not_true refl)
  clears_none (Ok false) not_true may = kept (cannot (inl may)) refl
  clears_none (Err error) not_true may = kept (cannot (inr may.2)) refl

  pub step_refused : (error : FsError) (result : Result Bool FsError) → MayUpgrade image (Err error) → IsErr result → IsErrAnd result (λ other. other ≡ error) → ClearsStep old result old
  step_refused error (Ok before) may is is_it = absurd (true≢false (sym is))
  step_refused error (Err other) may is is_it = (
    refl,
    is_it ∙ may.0,
    subst (λ words. allows_attributes (version_of words) ≡ false) served may.1,
    subst (λ words. has_snapshot words ≡ true) served may.2,
  )

-- ---- an image with the same files, in both directions

same_back : (old new : Image) → SameFiles old new → SameFiles new old
same_back old new = whole_equivalence.symmetric old new

-- ---- one step, before its marker

module _ (memory made : Memory) (first count : ℕ) (is : IsFileSystem (current_words memory)) (can : CanUpgrade (current_words memory)) (clears : ClearsFrom memory first count made) where
  abbrev image : Image
  image = current_words memory

  prepared : IsPrepared image (current_words made)
  prepared = agrees_prepared image (current_words made) is.first clears.agrees

  file_system_cleared : IsFileSystem (current_words made)
  file_system_cleared = whole_of_same (current_words made) image (same_back image (current_words made) clears.files)

  safe_cleared : IsSafe SameFiles memory → IsSafe SameFiles made
  safe_cleared safe =
      safe_call SameFiles whole_equivalence memory made clears.quiet.added safe clears.quiet.adds
      (quiet_right SameFiles image clears.quiet.added clears.quiet.piece.no_call_end clears.quiet.quiet) clears.quiet.closed
      (subst (λ words. SameFiles words words) (current_words-adds memory made clears.quiet.added clears.quiet.adds) (whole_self (current_words made) file_system_cleared))

  -- no block was in the snapshot, and none is
  snapshot_cleared : (in_snapshot : ℕ → Bool) → AreInSnapshot image in_snapshot → AreInSnapshot (current_words made) in_snapshot
  snapshot_cleared in_snapshot snapshot_blocks =
      subst (AreInSnapshot (current_words made)) (sym (snapshot_none image in_snapshot can.single snapshot_blocks))
      (none_in_snapshot_of (current_words made) (can_upgrade_same image (current_words made) clears.files can).single)

  exact_cleared : {R : Type 0} (parts : Parts R) → IsExact image parts → IsExact (current_words made) parts
  exact_cleared parts exact =
      exact_meaning image (current_words made) parts parts exact
      (exact_prepared image (current_words made) is.first prepared parts.free_blocks parts.free_inodes exact.sets) refl refl is.first prepared.meaning

  volume_cleared : {R : Type 0} (parts : Parts R) (pending : ℕ) → IsVolume memory parts pending → IsVolume made parts pending
  volume_cleared parts pending volume = record {
    safe = safe_cleared volume.safe;
    roomy = rw (capacity-adds memory made clears.quiet.added clears.quiet.adds) volume.roomy;
    well_formed = file_system_cleared;
    snapshot_blocks = snapshot_cleared (in_snapshot_of parts) volume.snapshot_blocks;
    exact = exact_cleared parts volume.exact;
    scans = volume.scans ∙ ap (λ n. 64 * n) (sym (blocks-adds memory made clears.quiet.added clears.quiet.adds));
  }

  right_cleared : (cache : DirectoryCache) → IsCacheOf image cache → IsCacheOf (current_words made) cache
  right_cleared cache = cache_kept image (current_words made) cache (meaning_keeps_all image (current_words made) is.first prepared.meaning)

-- its marker has room
pub cleared_end_fits : (memory made : Memory) (first : ℕ) → ClearsFrom memory first cleared_inodes made → call_room ≤ room_in memory → 1 ≤ room_in made
cleared_end_fits memory made first clears room = omega (arith, room, room_after_quiet SameFiles 1 (3 * cleared_inodes) memory made clears.quiet)

-- ---- one step

-- each word that it stores is in a block of the inode file
cleared_keeps : (it made : MemoryByRoles) (first count : ℕ) → KeepsRoles it → ClearsFrom (seen it) first count (seen made) → KeepsRoles made
cleared_keeps it made first count keeps clears =
    kept-adds it made clears.quiet.added keeps clears.quiet.adds
    (StoresMay-weaker (IsClearing (current_words (seen it)) first count) (LeavesSeen it.roles) (λ place value may there. absurd (may.stands.present (omega (arith, may.stands.at, there)))) clears.quiet.added clears.stores)

pub cached_cleared : (parts : Parts MemoryByRoles) (made ended : MemoryByRoles) (first count pending : ℕ) (cache : DirectoryCache) → IsCachedVolume parts pending cache → CanUpgrade (current_words (seen parts.region)) →
    ClearsFrom (seen parts.region) first count (seen made) → Adds (seen made) (seen ended) (CallEnd ∷ []) → IsCachedVolume (record parts { region = ended }) pending cache
cached_cleared parts made ended first count pending cache is can clears ends =
    let right : IsCacheOf (current_words (seen made)) cache = right_cleared (seen parts.region) (seen made) first count is.volume.well_formed can clears cache is.right in
    record {
      roles = ended_keeps made ended (cleared_keeps parts.region made first count is.roles clears) ends;
      volume = volume-ended (seen made) (seen ended) parts ended pending (volume_cleared (seen parts.region) (seen made) first count is.volume.well_formed can clears parts pending is.volume) ends;
      right = subst (λ words. IsCacheOf words cache) (sym (current_words-adds (seen made) (seen ended) (CallEnd ∷ []) ends)) right;
    }

pub clears_some : (old : Memory) (parts : Parts MemoryByRoles) (made ended : MemoryByRoles) (first count pending : ℕ) (cache : DirectoryCache) → parts.region.memory ≡ with_room call_room old → IsCachedVolume parts pending cache →
    CanUpgrade (current_words (seen parts.region)) → ClearsFrom (seen parts.region) first count (seen made) → Adds (seen made) (seen ended) (CallEnd ∷ []) → ClearsSome old first count ended.memory
clears_some old parts made ended first count pending cache room is can clears ends =
    let it : MemoryByRoles = parts.region in
    let events : List Event = clears.quiet.added in
    let kept : KeepsRoles ended = ended_keeps made ended (cleared_keeps it made first count is.roles clears) ends in
    let before : current_words (seen it) ≡ served_words old = words_with_room old it is.roles room in
    let after : current_words (seen made) ≡ served_words ended.memory = sym (current_words-adds (seen made) (seen ended) (CallEnd ∷ []) ends) ∙ sym (kept-served ended kept) in
    let raw : Adds it.memory ended.memory (raw_events it.roles (events ++ CallEnd ∷ [])) =
    raw-adds it ended (events ++ CallEnd ∷ []) is.roles.wide (adds_both (seen it) (seen made) (seen ended) events (CallEnd ∷ []) clears.quiet.adds ends) in
    record {
      added = raw_events it.roles events;
      no_call_end = sym (seen-call_ends it.roles (raw_events it.roles events)) ∙ ap call_ends (all_seen_raw it.roles events) ∙ clears.quiet.piece.no_call_end;
      adds = subst (λ start. Adds start ended.memory (raw_events it.roles events ++ CallEnd ∷ [])) room (subst (Adds it.memory ended.memory) (map-append (raw_event it.roles) events (CallEnd ∷ [])) raw);
      files = subst (SameFiles (served_words old)) after (subst (λ image. SameFiles image (current_words (seen made))) before clears.files);
      clear = λ below. subst (λ image. AreClearBelow image (min (first + count) (inode_count image))) after (clears.clear (subst (λ image. AreClearBelow image first) (sym before) below));
      safe = kept-safe ended kept
          (safe_call_end SameFiles whole_equivalence (seen made) (seen ended) (safe_cleared (seen it) (seen made) first count is.volume.well_formed can clears is.volume.safe) ends);
    }

-- ---- steps with drains

module _ (old new : Memory) (first count : ℕ) (clears : ClearsSome old first count new) where
  abbrev start : Memory
  start = with_room call_room old

  abbrev stores : List Event
  stores = clears.added ++ CallEnd ∷ []

  whole_step : length new.base ≡ length (current_words old)
  whole_step = ap length (base-adds start new stores clears.adds) ∙ go (nat_lt (room_in old) call_room)
    where
      go : (b : Bool) → length ((if b then drained old else old).base) ≡ length (current_words old)
      go true = refl
      go false = sym (length-current_words old)

  capacity_step : new.capacity ≡ old.capacity
  capacity_step = capacity-adds start new stores clears.adds ∙ go (nat_lt (room_in old) call_room)
    where
      go : (b : Bool) → (if b then drained old else old).capacity ≡ old.capacity
      go true = refl
      go false = refl

  through_step : new.through ≡ old.through
  through_step = ap (λ (memory : Memory). memory.through) clears.adds ∙ go (nat_lt (room_in old) call_room)
    where
      go : (b : Bool) → (if b then drained old else old).through ≡ old.through
      go true = refl
      go false = refl

module _ (old : Memory) (safe : IsSafe SameDurable old) where
  files_steps : (new : Memory) → ClearsInSteps old new → SameFiles (served_words old) (served_words new)
  files_steps _ none = safe.well
  files_steps _ (more {between} {new} steps clears) = whole_equivalence.transitive (served_words old) (served_words between) (served_words new) (files_steps between steps) clears.files

  whole_steps : (new : Memory) → ClearsInSteps old new → length (current_words new) ≡ length (current_words old)
  whole_steps _ none = refl
  whole_steps _ (more {between} {new} {first} steps clears) = length-current_words new ∙ whole_step between new first cleared_inodes clears ∙ whole_steps between steps

  capacity_steps : (new : Memory) → ClearsInSteps old new → new.capacity ≡ old.capacity
  capacity_steps _ none = refl
  capacity_steps _ (more {between} {new} {first} steps clears) = capacity_step between new first cleared_inodes clears ∙ capacity_steps between steps

  through_steps : (new : Memory) → ClearsInSteps old new → new.through ≡ old.through
  through_steps _ none = refl
  through_steps _ (more {between} {new} {first} steps clears) = through_step between new first cleared_inodes clears ∙ through_steps between steps

  safe_steps : (new : Memory) → ClearsInSteps old new → IsSafe SameDurable new
  safe_steps _ none = safe
  safe_steps _ (more {between} {new} steps clears) = safe_empty SameDurable durable_equivalence (drained new) refl clears.safe.well

-- ---- the loop

-- the inode number from which the search goes on is a greater one
pub goes_on : (image : Image) → IsWellFormed image → (first ino after : ℕ) → IsNextToClear image first ino → after ≡ min (ino + cleared_inodes) (2 ^ 32 - 1) → 2 ^ 32 - after < 2 ^ 32 - first
goes_on image wf first ino after next is = omega (arith, inodes_low image wf, next.from, next.there, is)

-- The inodes up to this one are clear, by steps with drains: the log is empty if there was one.
pub record HasCleared (old now : Memory) (first : ℕ) : Type 0 where
  pub safe : IsSafe SameDurable old
  pub can : CanUpgrade (served_words old)
  pub steps : ClearsInSteps old now
  pub below : AreClearBelow (served_words now) (min first (inode_count (served_words now)))
  pub some : (now ≡ old) ⊎ ((AreClear (served_words old) → ⊥) × (now.events ≡ []))

pub cleared_none : (old : Memory) → IsSafe SameDurable old → CanUpgrade (served_words old) → HasCleared old old 0
cleared_none old safe can = record { safe = safe; can = can; steps = none; below = λ i k low few. absurd (omega (arith, low)); some = inl refl }

module _ (old now : Memory) (first : ℕ) (has : HasCleared old now first) where
  pub can_go_on : CanUpgrade (served_words now)
  can_go_on = can_upgrade_same (served_words old) (served_words now) (files_steps old has.safe now has.steps) has.can

  module _ (ino : ℕ) (next : IsNextToClear (served_words now) first ino) where
    below_next : AreClearBelow (served_words now) ino
    below_next = next.clear (λ i k low few. has.below i k (omega (arith, low, next.from, next.there)) few)

    not_clear : AreClear (served_words now) → ⊥
    not_clear clear = next.set.set (clear ino next.set.number next.there next.set.low)

    not_clear_before : AreClear (served_words old) → ⊥
    not_clear_before = go has.some
      where
        go : (now ≡ old) ⊎ ((AreClear (served_words old) → ⊥) × (now.events ≡ [])) → AreClear (served_words old) → ⊥
        go (inl same) = subst (λ (memory : Memory). AreClear (served_words memory) → ⊥) same not_clear
        go (inr some) = some.0

    pub cleared_more : (made : Memory) (after : ℕ) → ClearsSome now ino cleared_inodes made → after ≤ ino + cleared_inodes → HasCleared old (drained made) after
    cleared_more made after clears near = record {
      safe = has.safe;
      can = has.can;
      steps = more has.steps clears;
      below = λ i k low few. clears.clear below_next i k (omega (arith, low, near)) few;
      some = inr (not_clear_before, refl);
    }

  pub cleared_end : (AreClearBelow (served_words now) first → AreClear (served_words now)) → ClearsFirst old now
  cleared_end rest = go has.some
    where
      -- the inode file ends after this inode, or before it
      clear : AreClear (served_words now)
      clear = elim (cases_lt first (inode_count (served_words now))) [
        | inl under ↦ rest (λ i k low few. has.below i k (omega (arith, low, under)) few)
        | inr over ↦ (λ i k low few. has.below i k (omega (arith, low, over)) few)
      ]

      go : (now ≡ old) ⊎ ((AreClear (served_words old) → ⊥) × (now.events ≡ [])) → ClearsFirst old now
      go (inl same) = kept (λ can. subst (λ (memory : Memory). AreClear (served_words memory)) same clear) same
      go (inr some) = cleared some.0 (record {
        can = has.can;
        steps = has.steps;
        files = files_steps old has.safe now has.steps;
        clear = clear;
        durable = some.1;
        whole = sym (length-current_words now) ∙ whole_steps old has.safe now has.steps ∙ length-current_words old;
        capacity = capacity_steps old has.safe now has.steps;
        through = through_steps old has.safe now has.steps;
        safe = safe_steps old has.safe now has.steps;
      })
