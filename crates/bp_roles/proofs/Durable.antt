-- The calls inside a transaction are quiet outside, and its commit makes the tree inside the files of the outside, by one
-- store.
use Rattle.std.proofs.Common.{true≢false, ◌≡◌, ◌≢◌, ◌⊎◌, inl, inr, ℕ, zero, suc, ◌/◌, ◌<◌, ◌≤◌, Bool, true, false, not, ◌&&◌, nat_lt, List, [], ◌∷◌, ◌++◌, length, set, refl, sym, ◌∙◌, ap, subst, arith, get_or-set_same, get_or-set_other}
use Rattle.std.proofs.lemmas.List.{length-set}
use Rattle.std.proofs.lemmas.Bool.{cases_lt}
use Rattle.pm_epochs.specs.declared.event.Event.{Event}
use Rattle.pm_epochs.specs.declared.event.Event.TheVariants.{Store, Barrier, CallEnd}
use Rattle.pm_epochs.specs.Log.{words_after, up_to_call_end, IsClosed, IsStoredIn}
use Rattle.pm_epochs.specs.Replay.{after_calls, kept_calls, stores_of}
use Rattle.pm_epochs.specs.Crash.{CrashRight, IsQuiet}
use Rattle.pm_epochs.specs.May.{AnyAt, EachMay, StoresMay}
use Rattle.pm_epochs.proofs.CrashLaws.{crash_right-append, crash_right_commit, length-words_after, quiet_from, quiet_none, up_to_call_end-append, words_after-append}
use Rattle.pm_epochs.proofs.Cuts.{kept_stores_right}
use Rattle.pm_epochs.proofs.MayLaws.{EachMay-stored, StoresMay-stores_of}
use Rattle.pm_epochs.proofs.PieceLaws.{StoresMay-IsStoredIn}
use Rattle.bp_limits.specs.CallLimits.{allows_snapshot}
use Rattle.bp_limits.specs.Limits.{magic, version_at}
use Rattle.bp_limits.specs.declared.version.Version.TheVariants.{Three}
use Rattle.bp_layout.specs.Same.{Same}
use Rattle.bp_layout.specs.Trees.{AreInSnapshot, has_snapshot, snapshot_of}
use Rattle.bp_layout.specs.WellFormed.{IsWellFormed}
use Rattle.bp_layout.specs.Whole.{IsFileSystem, SameFiles}
use Rattle.bp_layout.specs.Words.{Image, word}
use Rattle.bp_layout.proofs.SameLaws.{same_symmetric, same_transitive}
use Rattle.bp_changes.proofs.Snapshot.{Keeps, snapshot_same}
use Rattle.bp_roles.specs.Roles.{exchanged, magic_of, stored_at, swapped}
use Rattle.bp_roles.specs.Seen.{seen_events, seen_words}
use Rattle.bp_roles.specs.Mounted.{SameDurable, by_roles, roles_of}
use Rattle.bp_roles.specs.Transaction.{IsOneStore, AvoidsSnapshot, commit_events, inside, outside, outside_place}
use Rattle.bp_roles.proofs.PlaceLaws.{stored_at-zero}
use Rattle.bp_roles.proofs.SwapLaws.{exchanged-one, swapped-past, swapped-first}
use Rattle.bp_roles.proofs.SeenLaws.{length-seen, seen-stores_of, seen-up_to_call_end, seen-word, seen-word_past, seen-words_after, stored-first}
use Rattle.bp_roles.proofs.Likeness.{durable_symmetric, durable_transitive}
use Rattle.bp_roles.proofs.Bridge.{SameButSlots, inside-magic, inside-word, kept_same, same_but_slots, same_magic}

-- ## Magic numbers

roles_of-outside : (is_b : Bool) → roles_of (magic_of (outside is_b)) ≡ outside is_b
roles_of-outside false = refl
roles_of-outside true = refl

pub by_outside : (is_b : Bool) (image : Image) → word image 0 ≡ magic_of (outside is_b) → by_roles image ≡ seen_words (outside is_b) image
by_outside is_b image marked = ap (λ roles. seen_words roles image) (ap roles_of marked ∙ roles_of-outside is_b)

pub StoresMay-up_to_call_end : (May : ℕ → ℕ → Type 0) (count : ℕ) (events : List Event) → StoresMay May events → StoresMay May (up_to_call_end count events)
StoresMay-up_to_call_end May zero events may = tt
StoresMay-up_to_call_end May (suc count) [] may = tt
StoresMay-up_to_call_end May (suc count) (Store word value ∷ events) may = (may.0, StoresMay-up_to_call_end May (suc count) events may.1)
StoresMay-up_to_call_end May (suc count) (Barrier ∷ events) may = StoresMay-up_to_call_end May (suc count) events may
StoresMay-up_to_call_end May (suc count) (CallEnd ∷ events) may = StoresMay-up_to_call_end May count events may

-- ## Calls inside

module _ (is_b : Bool) (image : Image) (events : List Event) (in_snapshot : ℕ → Bool) (wide : 8 ≤ length image) (marked : word image 0 ≡ magic_of (outside is_b)) (is : IsFileSystem (seen_words (inside is_b) image))
    (exact : AreInSnapshot (seen_words (inside is_b) image) in_snapshot) (there : has_snapshot (seen_words (inside is_b) image) ≡ true) (alone : has_snapshot (seen_words (outside is_b) image) ≡ false) (out : AvoidsSnapshot in_snapshot (seen_events (inside is_b) events)) where
  abbrev Stored : ℕ → ℕ → Type 0
  Stored = AnyAt (IsStoredIn (seen_events (inside is_b) events))

  first_is_loose : in_snapshot 0 ≡ true → ⊥
  first_is_loose has = (exact.are 0 has).live.has.not_null refl

  go : (old new : Image) (at : ℕ) → (IsStoredIn (seen_events (inside is_b) events) at → ⊥) → (word new at ≡ word old at) ⊎ IsStoredIn (seen_events (inside is_b) events) at → word new at ≡ word old at
  go old new at closed (inl same) = same
  go old new at closed (inr stored) = absurd (closed stored)

  in_blocks : (at : ℕ) → in_snapshot (at / 512) ≡ true → IsStoredIn (seen_events (inside is_b) events) at → ⊥
  in_blocks at has stored = elim (cases_lt at 512) [
    | inl low ↦ first_is_loose (subst (λ b. in_snapshot b ≡ true) (omega (arith, low)) has)
    | inr high ↦ out.keeps at high has stored
  ]

  keeps : (left : Image) → EachMay Stored (seen_words (inside is_b) image) left → Keeps (seen_words (inside is_b) image) left in_snapshot
  keeps left each = record {
    whole = each.size;
    superblock = λ at low a b. go (seen_words (inside is_b) image) left at (out.idle at low a b) (each.each at);
    blocks = λ at has. go (seen_words (inside is_b) image) left at (in_blocks at has) (each.each at);
  }

  module _ (left : Image) (left_wide : 8 ≤ length left) (each : EachMay Stored (seen_words (inside is_b) image) (seen_words (inside is_b) left)) where
    kept_words : Keeps (seen_words (inside is_b) image) (seen_words (inside is_b) left) in_snapshot
    kept_words = keeps (seen_words (inside is_b) left) each

    long : 4 ≤ length (seen_words (inside is_b) image)
    long = omega (arith, length-seen (inside is_b) image, wide)

    same_magic_left : word left 0 ≡ magic_of (outside is_b)
    same_magic_left =
        sym (stored-first (inside is_b) left left_wide) ∙ ap (swapped (inside is_b) 0) (kept_words.superblock 0 (omega arith) (λ e. omega (arith, e)) (λ e. omega (arith, e))) ∙ stored-first (inside is_b) image wide ∙ marked

    both : Same (snapshot_of (seen_words (inside is_b) image)) (snapshot_of (seen_words (inside is_b) left))
    both = snapshot_same (seen_words (inside is_b) image) (seen_words (inside is_b) left) in_snapshot long exact kept_words there (is.second there)

    first : Same (seen_words (outside is_b) left) (seen_words (outside is_b) image)
    first =
        same_transitive _ _ _ (same_symmetric _ _ (kept_same is_b left left_wide both.new_well_formed))
        (same_transitive _ _ _ (same_symmetric _ _ both) (kept_same is_b image wide both.old_well_formed))

    outside_word : (i : ℕ) (j : ℕ) → outside_place i ≡ j → i < 512 → i ≢ 2 → i ≢ 3 → word (seen_words (outside is_b) left) j ≡ word (seen_words (outside is_b) image) j
    outside_word i j is_there low a b =
        subst (λ k. word (seen_words (outside is_b) left) k ≡ word (seen_words (outside is_b) image) k) is_there
        (sym (inside-word is_b left i left_wide) ∙ kept_words.superblock i low a b ∙ inside-word is_b image i wide)

    outside_place_zero : outside_place 0 ≡ 0
    unfolding outside_place
    outside_place_zero = refl

    outside_place_seven : outside_place 7 ≡ 5
    unfolding outside_place
    outside_place_seven = refl

    second : has_snapshot (seen_words (outside is_b) left) ≡ has_snapshot (seen_words (outside is_b) image)
    second =
        λ i. allows_snapshot (version_at (outside_word 0 0 outside_place_zero (omega arith) (λ e. omega (arith, e)) (λ e. omega (arith, e)) i))
        && nat_lt 0 (outside_word 7 5 outside_place_seven (omega arith) (λ e. omega (arith, e)) (λ e. omega (arith, e)) i)

    files : SameFiles (seen_words (outside is_b) left) (seen_words (outside is_b) image)
    files = record {
      first = first;
      second = record { there = sym second; same = λ has. absurd (true≢false (sym has ∙ second ∙ alone)) };
    }

    pub durable_left : SameDurable left image
    durable_left =
        subst (λ other. SameFiles other (by_roles image)) (sym (by_outside is_b left same_magic_left))
        (subst (λ other. SameFiles (seen_words (outside is_b) left) other) (sym (by_outside is_b image marked)) files)

  stored : StoresMay Stored (seen_events (inside is_b) events)
  stored = StoresMay-IsStoredIn (seen_events (inside is_b) events)

  -- whichever of their stores survive, the image represents the files from before
  part_is : (part : List Event) → StoresMay Stored (seen_events (inside is_b) part) → SameDurable (words_after image part) image
  part_is part may =
      durable_left (words_after image part) (omega (arith, length-words_after image part, wide))
      (subst (EachMay Stored (seen_words (inside is_b) image)) (sym (seen-words_after (inside is_b) image part wide))
      (EachMay-stored Stored (seen_words (inside is_b) image) (seen_events (inside is_b) part) may))

  kept_part : (epoch : ℕ) (mask : List Bool) → SameDurable (words_after image (stores_of epoch mask events)) image
  kept_part epoch mask =
      part_is (stores_of epoch mask events) (subst (StoresMay Stored) (seen-stores_of (inside is_b) epoch mask events) (StoresMay-stores_of Stored (seen_events (inside is_b) events) epoch mask stored))

  pub front_part : (count : ℕ) → SameDurable (words_after image (up_to_call_end count events)) image
  front_part count = part_is (up_to_call_end count events) (subst (StoresMay Stored) (seen-up_to_call_end (inside is_b) count events) (StoresMay-up_to_call_end Stored count (seen_events (inside is_b) events) stored))

  pub quiet_outside : IsQuiet SameDurable image events
  quiet_outside = quiet_from SameDurable image events kept_part

  pub whole_part : SameDurable (words_after image events) image
  whole_part = part_is events stored

  pub magic_after : word (words_after image events) 0 ≡ magic_of (outside is_b)
  magic_after = same_magic_left (words_after image events) (omega (arith, length-words_after image events, wide)) (
      subst (EachMay Stored (seen_words (inside is_b) image)) (sym (seen-words_after (inside is_b) image events wide))
      (EachMay-stored Stored (seen_words (inside is_b) image) (seen_events (inside is_b) events) stored))

  -- so it does after any number of surviving calls
  pub right_outside : CrashRight SameDurable image events
  right_outside = record {
    each = λ cut right.
        subst (λ es. SameDurable (words_after image es) (after_calls image events (kept_calls events cut))) (sym (kept_stores_right events cut right))
        (durable_transitive (words_after image (stores_of cut.epoch cut.mask events)) image (after_calls image events (kept_calls events cut))
        (kept_part cut.epoch cut.mask) (durable_symmetric (after_calls image events (kept_calls events cut)) image (front_part (kept_calls events cut))));
  }

-- ## The commit

module _ (is_b : Bool) (image : Image) (wide : 8 ≤ length image) (marked : word image 0 ≡ magic_of (outside is_b)) where
  abbrev committed : Image
  committed = set image 0 (magic_of (outside (not is_b)))

  abbrev committed_seen : Image
  committed_seen = seen_words (outside (not is_b)) (set image 0 (magic_of (outside (not is_b))))

  committed_wide : 8 ≤ length committed
  committed_wide = omega (arith, length-set image 0 (magic_of (outside (not is_b))), wide)

  same_place : (u : Bool) (i : ℕ) → i < 4 → stored_at (outside (not u)) i ≡ stored_at (inside u) i
  unfolding stored_at
  same_place false zero low = refl
  same_place false (suc zero) low = refl
  same_place false (suc (suc zero)) low = refl
  same_place false (suc (suc (suc zero))) low = refl
  same_place false (suc (suc (suc (suc i)))) low = absurd (omega arith)
  same_place true zero low = refl
  same_place true (suc zero) low = refl
  same_place true (suc (suc zero)) low = refl
  same_place true (suc (suc (suc zero))) low = refl
  same_place true (suc (suc (suc (suc i)))) low = absurd (omega arith)

  some_place : (u : Bool) (i : ℕ) → 0 < i → i < 4 → 0 < stored_at (inside u) i
  unfolding stored_at
  some_place false zero some low = absurd (omega arith)
  some_place false (suc zero) some low = omega arith
  some_place false (suc (suc zero)) some low = omega arith
  some_place false (suc (suc (suc zero))) some low = omega arith
  some_place false (suc (suc (suc (suc i)))) some low = absurd (omega arith)
  some_place true zero some low = absurd (omega arith)
  some_place true (suc zero) some low = omega arith
  some_place true (suc (suc zero)) some low = omega arith
  some_place true (suc (suc (suc zero))) some low = omega arith
  some_place true (suc (suc (suc (suc i)))) some low = absurd (omega arith)

  stored_magic : word committed 0 ≡ magic_of (outside (not is_b))
  stored_magic = get_or-set_same image 0 (magic_of (outside (not is_b))) 0 (omega (arith, wide))

  after_magic : word committed_seen 0 ≡ magic Three
  after_magic =
      seen-word (outside (not is_b)) committed 0 committed_wide
      ∙ ap (λ p. swapped (outside (not is_b)) 0 (word committed p)) (stored_at-zero (outside (not is_b)))
      ∙ ap (swapped (outside (not is_b)) 0) stored_magic ∙ swapped-first (outside (not is_b)) (magic_of (outside (not is_b))) ∙ exchanged-one (magic_of (outside (not is_b))) (magic Three)

  before_magic : word (seen_words (inside is_b) image) 0 ≡ magic Three
  before_magic =
      seen-word (inside is_b) image 0 wide ∙ ap (λ p. swapped (inside is_b) 0 (word image p)) (stored_at-zero (inside is_b)) ∙ ap (swapped (inside is_b) 0) marked
      ∙ swapped-first (inside is_b) (magic_of (outside is_b)) ∙ ap (λ m. exchanged m (magic Three) (magic_of (outside is_b))) (same_magic is_b) ∙ exchanged-one (magic_of (outside is_b)) (magic Three)

  after_word : (i : ℕ) → 0 < i → i < 4 → word committed_seen i ≡ word (seen_words (inside is_b) image) i
  after_word i some low =
      let at = stored_at (inside is_b) i in
      let positive : 0 < stored_at (inside is_b) i = some_place is_b i some low in
      seen-word (outside (not is_b)) committed i committed_wide
      ∙ swapped-past (outside (not is_b)) i (word committed (stored_at (outside (not is_b)) i)) some
      ∙ ap (word committed) (same_place is_b i low)
      ∙ get_or-set_other image 0 (stored_at (inside is_b) i) (magic_of (outside (not is_b))) 0 (λ e. omega (arith, e, positive))
      ∙ sym (seen-word (inside is_b) image i wide ∙ swapped-past (inside is_b) i (word image (stored_at (inside is_b) i)) some)

  committed_alike : SameButSlots (seen_words (inside is_b) image) committed_seen
  committed_alike = record {
    size = length-seen (outside (not is_b)) committed ∙ length-set image 0 (magic_of (outside (not is_b))) ∙ sym (length-seen (inside is_b) image);
    magic = after_magic ∙ sym before_magic;
    count = after_word 1 (omega arith) (omega arith);
    root = after_word 2 (omega arith) (omega arith);
    bytes = after_word 3 (omega arith) (omega arith);
    past = λ i high.
        seen-word_past (outside (not is_b)) committed i committed_wide high
        ∙ get_or-set_other image 0 i (magic_of (outside (not is_b))) 0 (λ e. omega (arith, e, high))
        ∙ sym (seen-word_past (inside is_b) image i wide high);
  }

  -- the image represents the tree of the transaction
  pub committed_same : IsWellFormed (seen_words (inside is_b) image) → Same (seen_words (inside is_b) image) (by_roles committed)
  committed_same wf =
      subst (Same (seen_words (inside is_b) image)) (sym (by_outside (not is_b) committed stored_magic))
      (same_but_slots (seen_words (inside is_b) image) committed_seen wf committed_alike)

  -- and it has a snapshot only if it had one
  five : (u : Bool) → stored_at (outside u) 5 ≡ 5
  unfolding stored_at
  five false = refl
  five true = refl

  pub outside_magic : word (seen_words (outside is_b) image) 0 ≡ magic Three
  outside_magic = sym (inside-magic is_b image wide) ∙ before_magic

  outside_five : (u : Bool) (other : Image) → 8 ≤ length other → word (seen_words (outside u) other) 5 ≡ word other 5
  outside_five u other long = seen-word (outside u) other 5 long ∙ swapped-past (outside u) 5 (word other (stored_at (outside u) 5)) (omega arith) ∙ ap (word other) (five u)

  same_second : has_snapshot committed_seen ≡ has_snapshot (seen_words (outside is_b) image)
  same_second =
      let first_word : word committed_seen 0 ≡ word (seen_words (outside is_b) image) 0 = after_magic ∙ sym outside_magic in
      let size : word committed_seen 5 ≡ word (seen_words (outside is_b) image) 5 =
      outside_five (not is_b) committed committed_wide ∙ get_or-set_other image 0 5 (magic_of (outside (not is_b))) 0 (λ e. omega (arith, e)) ∙ sym (outside_five is_b image wide) in
      λ i. allows_snapshot (version_at (first_word i)) && nat_lt 0 (size i)

  committed_well : IsWellFormed (seen_words (inside is_b) image) → has_snapshot (seen_words (outside is_b) image) ≡ false → SameDurable committed committed
  committed_well wf alone =
      subst (λ other. SameFiles other other) (sym (by_outside (not is_b) committed stored_magic)) (record {
        first =
            let same = same_but_slots (seen_words (inside is_b) image) committed_seen wf committed_alike in
            same_transitive _ _ _ (same_symmetric _ _ same) same;
        second = record { there = refl; same = λ has. absurd (true≢false (sym has ∙ same_second ∙ alone)) };
      })

  pub committed_second : has_snapshot (by_roles committed) ≡ has_snapshot (seen_words (outside is_b) image)
  committed_second = ap has_snapshot (by_outside (not is_b) committed stored_magic) ∙ same_second

  -- the commit is right by itself
  pub commit_right : IsWellFormed (seen_words (inside is_b) image) → has_snapshot (seen_words (outside is_b) image) ≡ false → SameDurable image image → CrashRight SameDurable image (commit_events is_b ++ CallEnd ∷ [])
  commit_right wf alone same = crash_right_commit SameDurable image [] 0 (magic_of (outside (not is_b))) refl (quiet_none SameDurable image same) (committed_well wf alone)

-- ## A transaction

module _ (is_b : Bool) (image : Image) (events : List Event) (in_snapshot : ℕ → Bool) (wide : 8 ≤ length image) (marked : word image 0 ≡ magic_of (outside is_b)) (is : IsFileSystem (seen_words (inside is_b) image))
    (exact : AreInSnapshot (seen_words (inside is_b) image) in_snapshot) (there : has_snapshot (seen_words (inside is_b) image) ≡ true) (alone : has_snapshot (seen_words (outside is_b) image) ≡ false) (out : AvoidsSnapshot in_snapshot (seen_events (inside is_b) events)) where
  -- its calls and its commit: after a crash at any point the image represents the files from before, or with the commit
  -- those inside
  pub transaction_right : IsClosed events → IsWellFormed (seen_words (inside is_b) (words_after image events)) → IsOneStore is_b image events
  transaction_right closed wf =
      let same = whole_part is_b image events in_snapshot wide marked is exact there alone out in
      let after = magic_after is_b image events in_snapshot wide marked is exact there alone out in
      let still : SameDurable (words_after image events) (words_after image events) = durable_transitive (words_after image events) image (words_after image events) same (durable_symmetric (words_after image events) image same) in
      let no_second : has_snapshot (seen_words (outside is_b) (words_after image events)) ≡ false =
      ap has_snapshot (sym (by_outside is_b (words_after image events) after)) ∙ sym same.second.there ∙ ap has_snapshot (by_outside is_b image marked) ∙ alone in
      let long : 8 ≤ length (words_after image events) = omega (arith, length-words_after image events, wide) in
      record {
        right = crash_right-append SameDurable durable_transitive image events (commit_events is_b ++ CallEnd ∷ []) closed
            (right_outside is_b image events in_snapshot wide marked is exact there alone out)
            (commit_right is_b (words_after image events) long after wf no_second still);
        before = λ count low.
            subst (λ es. SameDurable (words_after image es) image) (sym (up_to_call_end-append events (commit_events is_b ++ CallEnd ∷ []) count low))
            (front_part is_b image events in_snapshot wide marked is exact there alone out count);
        after =
            subst (λ other. Same (seen_words (inside is_b) (words_after image events)) (by_roles other)) (sym (words_after-append image events (commit_events is_b ++ CallEnd ∷ [])))
            (committed_same is_b (words_after image events) long after wf);
      }
