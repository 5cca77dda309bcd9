-- A name has been spelled again: that it is performed, and that the sets are exact.
use Rattle.std.proofs.Common.{◌≡◌, ◌≢◌, ℕ, Bool, zero, suc, ◌+◌, ◌-◌, ◌*◌, ◌/◌, ◌<◌, ◌≤◌, List, length, get_or, slice_index, refl, sym, ◌∙◌, ap, subst, arith, inl, le-ltb, lt-ltb}
use Rattle.pm_words.proofs.Bytes.{word_of_bytes}
use Rattle.pm_words.specs.Bytes.{word_bytes}
use Rattle.bp_free.specs.Set.{Set, has}
use Rattle.bp_layout.specs.Directory.{EntryNames, entry_word, name_at}
use Rattle.bp_layout.specs.Paths.{Name}
use Rattle.bp_layout.specs.Inode.{root_of, size_of}
use Rattle.bp_layout.specs.Names.{AreCounts}
use Rattle.bp_layout.specs.Members.{Has}
use Rattle.bp_layout.specs.Need.{need}
use Rattle.bp_layout.specs.Need.Change.{respells}
use Rattle.bp_layout.specs.Tree.{byte, content_word}
use Rattle.bp_layout.specs.Words.{Image, byte_of}
use Rattle.bp_layout.proofs.NameBytes.{map-equal}
use Rattle.bp_changes.specs.Effects.{RespellsEntry}
use Rattle.bp_changes.proofs.Committed.{commit_respells}
use Rattle.bp_changes.proofs.Named.{respelled_counts}
use Rattle.bp_changes.proofs.Respell.{respelled_well_formed}
use Rattle.bp_changes.specs.Sets.{AreExact}
use Rattle.bp_changes.proofs.MovedSets.{respelled_exact}
use Rattle.bp_changes.specs.Performs.{PerformsThawed, room_for}
use Rattle.bp_cow.specs.CanCommit.{CanCommit}
use Rattle.bp_cow.specs.Commit.{CommitsTouched, HasRoom}
use Rattle.bp_cow.specs.Committed.{changes_of}
use Rattle.bp_cow.specs.Cover.{commit_cover}
use Rattle.bp_cow.specs.Job.{IsTurned}
use Rattle.bp_cow.specs.Touched.{job_of, leaves_of, run_end, run_leaves}
use Rattle.bp_cow.specs.declared.touched.Touched.{Touched}
use Rattle.bp_cow.proofs.CommitTaking.{commit_performs, stores_few}
use Rattle.bp_cow.proofs.FewCopies.{few_copies}
use Rattle.bp_cow.proofs.RunLaws.{run_word-inside}
use Rattle.pm_region.specs.Memory.{Memory, current_words, room_in}
use Rattle.bp_calls.proofs.EnteredLaws.{not_named}
use Rattle.bp_calls.proofs.RunCommits.{IsRunOf, few_leaves, run_open}
use Rattle.bp_rename.specs.Respelled.{TouchesName, respelled_byte}
use Rattle.bp_rename.proofs.NameRun.{run_commit, run_given, run_only, run_words}
use Rattle.bp_rename.proofs.WithinLaws.{CanRespell, few_words, name_end, name_run, no_words, within_cover, within_need, within_shape}

-- the bytes of a word, one by one
byte_at : (w c : ℕ) → c < 8 → slice_index (word_bytes w) c ≡ byte_of w c
byte_at w zero low = omega arith
byte_at w (suc zero) low = refl
byte_at w (suc (suc zero)) low = refl
byte_at w (suc (suc (suc zero))) low = refl
byte_at w (suc (suc (suc (suc zero)))) low = refl
byte_at w (suc (suc (suc (suc (suc zero))))) low = refl
byte_at w (suc (suc (suc (suc (suc (suc zero)))))) low = refl
byte_at w (suc (suc (suc (suc (suc (suc (suc zero))))))) low = refl
byte_at w (suc (suc (suc (suc (suc (suc (suc (suc c)))))))) low = absurd (omega (arith, low))

-- the bytes of the length, and those of the name
length_byte : (name : Name) (at : ℕ) → at < 8 → respelled_byte name at ≡ byte_of (length name) at
length_byte name at low = rw (lt-ltb at 8 low) refl

name_byte : (name : Name) (o : ℕ) → respelled_byte name (8 + o) ≡ slice_index name o
name_byte name o =
    let past : 8 ≤ 8 + o = omega arith in
    let back : 8 + o - 8 ≡ o = omega arith in
    rw (le-ltb (8 + o) 8 past, back) refl

module _ {in_snapshot : ℕ → Bool} (memory : Memory) (n s j : ℕ) (name : Name) (can : CanRespell (current_words memory) (suc n) s j name) (touched : Touched) (is : TouchesName (current_words memory) (suc n) s name touched)
    (blocks inodes : Set) (exact : AreExact (current_words memory) in_snapshot blocks inodes) (room : room_for (need (current_words memory) (respells (suc n) s (length name))) ≤ room_in memory + 2) where
  pub within_ready : CanCommit (current_words memory) (size_of (current_words memory)) in_snapshot touched (has blocks)
  within_ready =
      run_commit (current_words memory) can.well_formed n can.reached touched is.run is.one (no_words (current_words memory) n s j name can touched is) is.no_trees (name_run (current_words memory) n s j name can touched is)
      (has blocks) exact.free_blocks

  few : run_leaves is.run ≤ 257
  few = few_leaves is.run (omega (arith, is.is.count, few_words (current_words memory) n s j name can touched is))

  pub within_room : HasRoom memory touched
  within_room =
      let copies = few_copies (current_words memory) (size_of (current_words memory)) touched (has blocks) can.well_formed within_ready is.run is.one in
      omega (arith, copies, few, no_words (current_words memory) n s j name can touched is, within_need (current_words memory) n s j name can touched is, room)

module _ {in_snapshot : ℕ → Bool} (old new : Memory) (n s j : ℕ) (name : Name) (can : CanRespell (current_words old) (suc n) s j name) (touched : Touched) (is : TouchesName (current_words old) (suc n) s name touched)
    (blocks inodes left : Set) (exact : AreExact (current_words old) in_snapshot blocks inodes) (room : room_for (need (current_words old) (respells (suc n) s (length name))) ≤ room_in old + 2)
    (done : CommitsTouched (size_of (current_words old)) in_snapshot touched old new blocks left) (as_long : length left ≡ length blocks) where
  bare : length touched.words.now ≡ 0
  bare = no_words (current_words old) n s j name can touched is

  run_there : IsRunOf (current_words old) (suc n) is.run
  run_there = name_run (current_words old) n s j name can touched is

  few_of : (length name + 7) / 8 ≤ 30
  few_of = few_words (current_words old) n s j name can touched is

  ends : run_end is.run ≡ 256 * s + 16 + 8 * ((length name + 7) / 8)
  ends = name_end (current_words old) n s j name can touched is

  ready : CanCommit (current_words old) (size_of (current_words old)) in_snapshot touched (has blocks)
  ready = within_ready old n s j name can touched is blocks inodes exact room

  -- the word of the length
  length_word : entry_word (current_words new) (suc n) s 1 ≡ length name
  length_word =
      run_words (current_words old) can.well_formed n can.reached touched is.run is.one bare is.no_trees run_there
      (has blocks) exact.free_blocks can.names.directory (current_words new) (IsTurned (job_of touched) (length (commit_cover (current_words old) touched))) done.words
      (32 * s + 1) (omega (arith, is.is.from)) (omega (arith, ends)) (omega (arith, can.names.in_size))
      ∙ sym (run_word-inside is.run (32 * s + 1) (content_word (current_words old) (root_of (current_words old) (suc n)) (32 * s + 1)) (word_bytes (length name)) (omega (arith, is.is.from)) (omega (arith, ends)) refl same)
      ∙ word_of_bytes (length name) (omega (arith, can.form.short))
    where
      same : (i : ℕ) → i < 8 → slice_index (word_bytes (length name)) i ≡ slice_index is.run.bytes.now (8 * (32 * s + 1) - is.run.offset + i)
      same i low =
          let at : 8 * (32 * s + 1) - is.run.offset + i ≡ i = omega (arith, is.is.from) in
          byte_at (length name) i low ∙ sym (ap (slice_index is.run.bytes.now) at ∙ is.is.bytes_are i (omega (arith, low)) ∙ length_byte name i low)

  pub within_name : name_at (current_words new) (suc n) s ≡ name
  within_name = rw length_word (map-equal (λ o. byte (current_words new) (root_of (current_words new) (suc n)) (256 * s + 16 + o)) name each)
    where
      each : (o : ℕ) → o < length name → byte (current_words new) (root_of (current_words new) (suc n)) (256 * s + 16 + o) ≡ get_or name o 0
      each o low =
          let at : 256 * s + 16 + o - is.run.offset ≡ 8 + o = omega (arith, is.is.from) in
          run_given (current_words old) can.well_formed n can.reached touched is.run is.one bare is.no_trees run_there
          (has blocks) exact.free_blocks can.names.directory (current_words new) (IsTurned (job_of touched) (length (commit_cover (current_words old) touched))) done.words
          (256 * s + 16 + o) is.is.small (omega (arith, is.is.from)) (omega (arith, ends, low)) (omega (arith, low, can.form.short, can.names.in_size))
          ∙ ap (slice_index is.run.bytes.now) at ∙ is.is.bytes_are (8 + o) (omega (arith, low)) ∙ name_byte name o

  no_name : (x l : ℕ) → EntryNames (current_words old) (suc n) x l → name_at (current_words old) (suc n) x ≢ name
  no_name = not_named (current_words old) can.well_formed (suc n) name can.reached can.missing

  pub within_respells : RespellsEntry (current_words old) (current_words new) (suc n) s j
  within_respells =
      commit_respells (current_words old) (current_words new) (changes_of (current_words old) (job_of touched)) (suc n) s j can.well_formed can.reached can.names
      (run_only (current_words old) can.well_formed n can.reached touched is.run is.one bare is.no_trees run_there
      (has blocks) exact.free_blocks can.names.directory (current_words new) (IsTurned (job_of touched) (length (commit_cover (current_words old) touched))) done.words
      (λ t l. (t ≡ suc n) × (32 * s + 1 ≤ l) × (l < 32 * s + 32))
      (λ k first last. (refl, omega (arith, first, is.is.from), omega (arith, last, ends, few_of))))
      (rw within_name can.form) (λ same. no_name s j can.names (same ∙ within_name)) (λ x l names other same. no_name x l names (same ∙ within_name))

  pub within_performs : (Effect : Image → Image → Type 0) → (RespellsEntry (current_words old) (current_words new) (suc n) s j → name_at (current_words new) (suc n) s ≡ name → Effect (current_words old) (current_words new)) →
      PerformsThawed in_snapshot old new (respells (suc n) s (length name)) Effect
  within_performs Effect so =
      commit_performs old new (respells (suc n) s (length name)) Effect (size_of (current_words old)) touched blocks left done
      (within_cover (current_words old) n s j name can touched is) (within_need (current_words old) n s j name can touched is)
      (let stores = stores_few (current_words old) (size_of (current_words old)) touched (has blocks) can.well_formed ready in
      omega (arith, stores, ap leaves_of is.one, few old n s j name can touched is blocks inodes exact room, bare, within_need (current_words old) n s j name can touched is))
      (run_open (current_words old) can.well_formed n can.reached is.run run_there in_snapshot touched (within_shape (current_words old) n s j name can touched is) (subst (λ runs. Has runs is.run) (sym is.one) (inl refl)) done.loose done.taken)
      (respelled_well_formed (current_words old) (current_words new) can.well_formed (suc n) s j within_respells)
      (so within_respells within_name)

  pub within_exact : AreExact (current_words new) in_snapshot left inodes
  within_exact = respelled_exact (current_words old) (current_words new) can.well_formed (suc n) s j within_respells in_snapshot blocks left inodes exact as_long done.exact

  pub within_counts : (counts : List ℕ) → AreCounts (current_words old) counts → AreCounts (current_words new) counts
  within_counts = respelled_counts (current_words old) (current_words new) can.well_formed (suc n) s j within_respells

  pub within_whole : length (current_words new) ≡ length (current_words old)
  within_whole = within_respells.trees.whole

-- ---- stated of any directory

module _ {in_snapshot : ℕ → Bool} (old : Memory) (s j : ℕ) (name : Name) (touched : Touched) (blocks inodes : Set) (exact : AreExact (current_words old) in_snapshot blocks inodes) where
  pub within_ready_at : (i : ℕ) → room_for (need (current_words old) (respells i s (length name))) ≤ room_in old + 2 → CanRespell (current_words old) i s j name → TouchesName (current_words old) i s name touched → CanCommit (current_words old) (size_of (current_words old)) in_snapshot touched (has blocks)
  within_ready_at zero room can is = absurd (omega (arith, can.names.directory))
  within_ready_at (suc n) room can is = within_ready old n s j name can touched is blocks inodes exact room

  pub within_room_at : (i : ℕ) → room_for (need (current_words old) (respells i s (length name))) ≤ room_in old + 2 → CanRespell (current_words old) i s j name → TouchesName (current_words old) i s name touched → HasRoom old touched
  within_room_at zero room can is = absurd (omega (arith, can.names.directory))
  within_room_at (suc n) room can is = within_room old n s j name can touched is blocks inodes exact room

  module _ (new : Memory) (left : Set) (done : CommitsTouched (size_of (current_words old)) in_snapshot touched old new blocks left) (as_long : length left ≡ length blocks) where
    pub within_performs_at : (i : ℕ) → room_for (need (current_words old) (respells i s (length name))) ≤ room_in old + 2 → CanRespell (current_words old) i s j name → TouchesName (current_words old) i s name touched → (Effect : Image → Image → Type 0) →
        (RespellsEntry (current_words old) (current_words new) i s j → name_at (current_words new) i s ≡ name → Effect (current_words old) (current_words new)) → PerformsThawed in_snapshot old new (respells i s (length name)) Effect
    within_performs_at zero room can is Effect so = absurd (omega (arith, can.names.directory))
    within_performs_at (suc n) room can is Effect so = within_performs old new n s j name can touched is blocks inodes left exact room done as_long Effect so

    pub within_exact_at : (i : ℕ) → room_for (need (current_words old) (respells i s (length name))) ≤ room_in old + 2 → CanRespell (current_words old) i s j name → TouchesName (current_words old) i s name touched → AreExact (current_words new) in_snapshot left inodes
    within_exact_at zero room can is = absurd (omega (arith, can.names.directory))
    within_exact_at (suc n) room can is = within_exact old new n s j name can touched is blocks inodes left exact room done as_long

    pub within_counts_at : (i : ℕ) → room_for (need (current_words old) (respells i s (length name))) ≤ room_in old + 2 → CanRespell (current_words old) i s j name → TouchesName (current_words old) i s name touched →
        (counts : List ℕ) → AreCounts (current_words old) counts → AreCounts (current_words new) counts
    within_counts_at zero room can is = absurd (omega (arith, can.names.directory))
    within_counts_at (suc n) room can is = within_counts old new n s j name can touched is blocks inodes left exact room done as_long

    pub within_whole_at : (i : ℕ) → room_for (need (current_words old) (respells i s (length name))) ≤ room_in old + 2 → CanRespell (current_words old) i s j name → TouchesName (current_words old) i s name touched → length (current_words new) ≡ length (current_words old)
    within_whole_at zero room can is = absurd (omega (arith, can.names.directory))
    within_whole_at (suc n) room can is = within_whole old new n s j name can touched is blocks inodes left exact room done as_long
