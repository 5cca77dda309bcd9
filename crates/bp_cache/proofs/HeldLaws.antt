-- What is held of directories is right after a change of names that was reported to it.
use Rattle.std.proofs.Common.{◌≡◌, ◌≢◌, ◌⊎◌, ℕ, ◌<◌, inl, inr, sym, ◌∙◌, subst}
use Rattle.std.proofs.lemmas.Bool.{cases_eq}
use Rattle.bp_layout.specs.Words.{Image}
use Rattle.bp_layout.specs.Directory.{entry_count, ino_at}
use Rattle.bp_layout.specs.Inode.{IsDirectory}
use Rattle.bp_layout.specs.Reached.{IsReached}
use Rattle.bp_changes.specs.KeepsEntries.{OneSlot, TwoSlots}
use Rattle.bp_cache.specs.declared.index.Index.{Index}
use Rattle.bp_cache.specs.Index.{EntersSlot, LeavesSlot}
use Rattle.bp_cache.specs.declared.held.Held.{Held}
use Rattle.bp_cache.specs.declared.held.Held.TheVariants.{Indexed, Lost, Unindexed}
use Rattle.bp_cache.specs.declared.name_at.NameAt.{NameAt}
use Rattle.bp_cache.specs.Cache.{AreHeldOf, IsHeldOf, IsIndexIn}
use Rattle.bp_cache.specs.Changes.{KeepsNamed, NameEnters, NameLeaves, NameMoves, NameReplaces, NameStands, WasNamed}
use Rattle.bp_cache.specs.Held.{Becomes, ChangesOne, Enters, Leaves}
use Rattle.bp_cache.proofs.IndexLaws.{KeepsBut, index_kept, index_entered, index_left, index_respelled}
use Rattle.bp_cache.proofs.Lists.{Directories, Was}

-- ---- what is held of one directory

module _ (old new : Image) (i : ℕ) where
  held_kept : (held : Held) → ((slot : ℕ) → IsReached new i → IsDirectory new i → slot < entry_count new i → WasNamed old new i slot) →
      IsHeldOf old i held → IsHeldOf new i held
  held_kept Lost keeps is = tt
  held_kept (Indexed index) keeps is = index_kept old new i index keeps is
  held_kept Unindexed keeps is = tt

  held_becomes : (Step : Index → Index → Type 0) → ((before after : Index) → Step before after → IsIndexIn old i before → IsIndexIn new i after) →
      (was held : Held) → Becomes Step was held → IsHeldOf old i was → IsHeldOf new i held
  held_becomes Step steps was Lost becomes is = tt
  held_becomes Step steps was Unindexed becomes is = tt
  held_becomes Step steps Lost (Indexed after) becomes is = absurd becomes
  held_becomes Step steps (Indexed before) (Indexed after) becomes is = steps before after becomes is
  held_becomes Step steps Unindexed (Indexed after) becomes is = absurd becomes

-- one step after another
becomes_twice : (Step Next : Index → Index → Type 0) (first second third : Held) → Becomes Step first second → Becomes Next second third →
    Becomes (λ before after. (between : Index) × Step before between × Next between after) first third
becomes_twice Step Next Lost Lost third one two = two
becomes_twice Step Next Lost (Indexed between) third one two = absurd one
becomes_twice Step Next Lost Unindexed third one two = two
becomes_twice Step Next Unindexed Lost third one two = two
becomes_twice Step Next Unindexed (Indexed between) third one two = absurd one
becomes_twice Step Next Unindexed Unindexed third one two = two
becomes_twice Step Next (Indexed before) second Lost one two = tt
becomes_twice Step Next (Indexed before) second Unindexed one two = tt
becomes_twice Step Next (Indexed before) Lost (Indexed after) one two = absurd two
becomes_twice Step Next (Indexed before) Unindexed (Indexed after) one two = absurd two
becomes_twice Step Next (Indexed before) (Indexed between) (Indexed after) one two = (between, one, two)

-- ---- what is held of directories

module _ (old new : Image) (before after : Directories) (right : AreHeldOf old before) where
  -- entries outside one slot, stated of each directory
  outside : (dir slot : ℕ) → KeepsNamed old new (OneSlot dir slot) → KeepsBut old new dir slot
  outside dir slot keeps other reached directory live apart = keeps dir other reached directory live (λ touched. apart touched.1)

  beside : (dir slot i : ℕ) → KeepsNamed old new (OneSlot dir slot) → i ≢ dir → (other : ℕ) → IsReached new i → IsDirectory new i → other < entry_count new i →
      WasNamed old new i other
  beside dir slot i keeps apart other reached directory live = keeps i other reached directory live (λ touched. apart touched.0)

  pub held_enters : (at : NameAt) → ChangesOne at.dir (Enters at) before after → NameEnters old new at → AreHeldOf new after
  held_enters at changes enters i held has = go (changes i held has) (cases_eq i at.dir)
    where
      go : Was at.dir (Enters at) before i held → (i ≡ at.dir) ⊎ (i ≢ at.dir) → IsHeldOf new i held
      go (was, there, same, step) (inr apart) =
          held_kept old new i held (beside at.dir at.slot i enters.entries apart) (subst (IsHeldOf old i) (sym (same apart)) (right i was there))
      go (was, there, same, step) (inl here) =
          let is : IsHeldOf old at.dir was = subst (λ d. IsHeldOf old d was) here (right i was there) in
          subst (λ d. IsHeldOf new d held) (sym here)
          (held_becomes old new at.dir (λ x y. EntersSlot x y at.name.now at.slot)
          (λ x y reported index. index_entered old new at x y (outside at.dir at.slot enters.entries) enters.stands reported index) was held (step here) is)

  left : (at : NameAt) → ChangesOne at.dir (Leaves at) before after → KeepsNamed old new (OneSlot at.dir at.slot) → NameStands old at →
      ino_at new at.dir at.slot ≡ 0 → AreHeldOf new after
  left at changes keeps stood none i held has = go (changes i held has) (cases_eq i at.dir)
    where
      go : Was at.dir (Leaves at) before i held → (i ≡ at.dir) ⊎ (i ≢ at.dir) → IsHeldOf new i held
      go (was, there, same, step) (inr apart) =
          held_kept old new i held (beside at.dir at.slot i keeps apart) (subst (IsHeldOf old i) (sym (same apart)) (right i was there))
      go (was, there, same, step) (inl here) =
          let is : IsHeldOf old at.dir was = subst (λ d. IsHeldOf old d was) here (right i was there) in
          subst (λ d. IsHeldOf new d held) (sym here)
          (held_becomes old new at.dir (λ x y. LeavesSlot x y at.name.now at.slot)
          (λ x y reported index. index_left old new at x y stood reported index (outside at.dir at.slot keeps) none) was held (step here) is)

  pub held_leaves : (at : NameAt) → ChangesOne at.dir (Leaves at) before after → NameLeaves old new at → AreHeldOf new after
  held_leaves at changes leaves = left at changes leaves.entries leaves.stood leaves.empty

  pub held_replaces : (from to : NameAt) → ChangesOne from.dir (Leaves from) before after → NameReplaces old new from to → AreHeldOf new after
  held_replaces from to changes replaces = left from changes replaces.entries replaces.stood replaces.empty

  pub held_moves : (from to : NameAt) (between : Directories) → ChangesOne from.dir (Leaves from) before between → ChangesOne to.dir (Enters to) between after →
      NameMoves old new from to → AreHeldOf new after
  held_moves from to between leaves enters moves i held has = go (enters i held has) (cases_eq i from.dir) (cases_eq i to.dir)
    where
      Touched : ℕ → ℕ → Type 0
      Touched = TwoSlots from.dir from.slot to.dir to.slot

      -- where only one of both directories is this one
      source : from.dir ≢ to.dir → KeepsBut old new from.dir from.slot
      source apart other reached directory live beside_it = moves.entries from.dir other reached directory live untouched
        where
          untouched : Touched from.dir other → ⊥
          untouched (inl here) = beside_it here.1
          untouched (inr there) = apart there.0

      target : from.dir ≢ to.dir → KeepsBut old new to.dir to.slot
      target apart other reached directory live beside_it = moves.entries to.dir other reached directory live untouched
        where
          untouched : Touched to.dir other → ⊥
          untouched (inl here) = apart (sym here.0)
          untouched (inr there) = beside_it there.1

      both : from.dir ≡ to.dir → KeepsBut old new from.dir from.slot
      both same other reached directory live beside_it = moves.entries from.dir other reached directory live untouched
        where
          untouched : Touched from.dir other → ⊥
          untouched (inl here) = beside_it here.1
          untouched (inr there) = beside_it (there.1 ∙ sym (moves.here same))

      neither : i ≢ from.dir → i ≢ to.dir → (other : ℕ) → IsReached new i → IsDirectory new i → other < entry_count new i → WasNamed old new i other
      neither one two other reached directory live = moves.entries i other reached directory live untouched
        where
          untouched : Touched i other → ⊥
          untouched (inl here) = one here.0
          untouched (inr there) = two there.0

      go : Was to.dir (Enters to) between i held → (i ≡ from.dir) ⊎ (i ≢ from.dir) → (i ≡ to.dir) ⊎ (i ≢ to.dir) → IsHeldOf new i held
      go (mid, there, same, step) in_from in_to = on (leaves i mid there) in_from in_to
        where
          on : Was from.dir (Leaves from) before i mid → (i ≡ from.dir) ⊎ (i ≢ from.dir) → (i ≡ to.dir) ⊎ (i ≢ to.dir) → IsHeldOf new i held
          on (was, first, kept, left_it) (inr one) (inr two) =
              held_kept old new i held (neither one two) (subst (IsHeldOf old i) (sym (same two ∙ kept one)) (right i was first))
          on (was, first, kept, left_it) (inl here) (inr two) =
              let is : IsHeldOf old from.dir was = subst (λ d. IsHeldOf old d was) here (right i was first) in
              let apart : from.dir ≢ to.dir = λ e. two (here ∙ e) in
              subst (λ d. IsHeldOf new d held) (sym here)
              (held_becomes old new from.dir (λ x y. LeavesSlot x y from.name.now from.slot)
              (λ x y reported index. index_left old new from x y moves.stood reported index (source apart) (moves.empty apart)) was held
              (subst (Leaves from was) (sym (same two)) (left_it here)) is)
          on (was, first, kept, left_it) (inr one) (inl there_too) =
              let is : IsHeldOf old to.dir was = subst (λ d. IsHeldOf old d was) there_too (right i was first) in
              let apart : from.dir ≢ to.dir = λ e. one (there_too ∙ sym e) in
              subst (λ d. IsHeldOf new d held) (sym there_too)
              (held_becomes old new to.dir (λ x y. EntersSlot x y to.name.now to.slot)
              (λ x y reported index. index_entered old new to x y (target apart) moves.stands reported index) was held
              (subst (λ h. Enters to h held) (kept one) (step there_too)) is)
          on (was, first, kept, left_it) (inl here) (inl there_too) =
              let is : IsHeldOf old to.dir was = subst (λ d. IsHeldOf old d was) there_too (right i was first) in
              let one_dir : from.dir ≡ to.dir = sym here ∙ there_too in
              subst (λ d. IsHeldOf new d held) (sym there_too)
              (held_becomes old new to.dir (λ x z. (y : Index) × LeavesSlot x y from.name.now from.slot × EntersSlot y z to.name.now to.slot)
              (λ x z reported index.
              index_respelled old new from x reported.0 moves.stood reported.1 (subst (λ d. IsIndexIn old d x) (sym one_dir) index) to z one_dir (moves.here one_dir)
              (both one_dir) moves.stands reported.2) was held
              (becomes_twice (λ x y. LeavesSlot x y from.name.now from.slot) (λ x y. EntersSlot x y to.name.now to.slot) was mid held (left_it here)
              (step there_too)) is)
