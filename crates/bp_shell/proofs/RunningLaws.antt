-- What a run leaves outside.
use Rattle.std.proofs.Common.{refl, sym, ◌∙◌, ap, arith, ◌≡◌, ℕ, ◌*◌, ◌/◌, ◌≤◌, List, [], ◌∷◌, ◌++◌, length, inl, inr, true}
use Rattle.std.specs.Prelude.{Some}
use Rattle.std.specs.Io.KnownBytes.{Consumes, IsAtEnd}
use Rattle.pm_region.specs.Memory.{Memory, current_words, drained}
use Rattle.bp_fs.specs.ByWords.{by_words}
use Rattle.bp_layout.specs.Formatted.{version_of}
use Rattle.bp_layout.specs.Words.{Image, word}
use Rattle.bp_layout.specs.Bytes.{image_bytes}
use Rattle.bp_plain.proofs.Existence.{stands_for, tree_of}
use Rattle.bp_script.specs.Commands.{Command}
use Rattle.bp_script.specs.Texts.{LineReply}
use Rattle.bp_script.specs.declared.notices.Notice.{Notice}
use Rattle.bp_layout.specs.Whole.{IsFileSystem}
use Rattle.bp_layout.proofs.BothTrees.{none_fails_whole}
use Rattle.bp_limits.specs.Limits.{max_file_blocks, min_blocks, super_magic}
use Rattle.bp_scan.specs.Length.{wanted_length}
use Rattle.bp_session.specs.Acting.{state}
use Rattle.bp_session.specs.Files.{AreWordsOf64Bits, IsAbsent}
use Rattle.bp_session.specs.Lines.{commands_from}
use Rattle.bp_replies.specs.Room.{gathered_size}
use Rattle.bp_roles.specs.Mounted.{by_roles, roles_of}
use Rattle.bp_roles.specs.Roles.{stored_at}
use Rattle.bp_shell.specs.Opening.{HoldsFileSystem, IsShortFileSystem, RefusesFile, RefusesImage, start}
use Rattle.bp_shell.specs.Opening.RefusesFile.{by_length, by_image}
use Rattle.bp_shell.specs.Opening.RefusesImage.{not_formatted, by_count, damaged}
use Rattle.bp_session.specs.Prefixes.{FollowsTree}
use Rattle.bp_shell.specs.Running.{BeginsRun, BreaksOffPlainly, IsComplete, Runs, RunsBroken, RunsLong, RunsPart, RunsStopped, RunsUnsaved, Saves, SavesSomeBlocks, StopsPlainly}
use Rattle.bp_session.specs.Outside.{Outside}
use Rattle.bp_session.specs.Faults.{SourceFailed, SinkFailed, FilesFailed}
use Rattle.bp_shell.specs.Ending.{IsReadComplete}
use Rattle.bp_session.specs.Serving.{BreaksOff, OfLines, Serves, ServesAll, StopsAtSave, Replied}
use Rattle.bp_session.specs.Session.{Session, State}
use Rattle.bp_shell.specs.Statuses.{IsReadStatus, IsRunStatus}
use Rattle.bp_shell.specs.declared.status.Status.{Status}
use Rattle.bp_shell.specs.declared.status.Status.TheVariants as status
use Rattle.bp_shell.proofs.SeeingLaws.{length-by_roles}
use Rattle.bp_session.proofs.BlockLaws.{image_once, length-image_bytes}
use Rattle.bp_session.proofs.PlainLaws.{follows_tree}
use Rattle.bp_session.proofs.ServingLaws.{breaks_as, not_long, serves_as, session_append, stops_as}

-- ---- the end of a run, by its status

module _ (before after : Outside) (image : Image) (memory new : Memory) (found : HoldsFileSystem before.file image) (same : memory ≡ (start image).system) where
  abbrev begins : (input : List ℕ) → Consumes before.left after.left input → BeginsRun before after
  begins input read = record { image = image; found = found; tree = tree_of (by_roles image) found.well_formed.first found.well_formed.second; stands = stands_for (by_roles image) found.well_formed.first found.well_formed.second; input = input; read = read }

  plainly : (commands : List Command) (replies : List LineReply) (end : State Memory) → Session by_words (start image) commands replies end → FollowsTree (tree_of (by_roles image) found.well_formed.first found.well_formed.second) (start image) commands replies end
  plainly commands replies end session = follows_tree (start image) (tree_of (by_roles image) found.well_formed.first found.well_formed.second) commands replies end refl (stands_for (by_roles image) found.well_formed.first found.well_formed.second) session

  pub runs_whole : (input : List ℕ) (holds : Image → Type 0) → Consumes before.left after.left input → IsAtEnd after.left → length input ≤ 1073741824
      → ServesAll by_words (state memory image) new holds (commands_from [] input) before.taken after.taken → Saves after (current_words new) → after.is_flushed ≡ true → Runs before after
  runs_whole input holds read end few all saved flushed =
      let reported : Replied by_words (start image) (state new all.after) (commands_from [] input) before.taken after.taken = rw same at all.reported in
      record {
        begins = begins input read;
        all = end;
        few = few;
        new = state new all.after;
        reported = reported;
        saved = saved;
        flushed = flushed;
        plainly = plainly _ _ _ reported.session;
      }

  serves_from_start : (input keeps : List ℕ) (holds : Image → Type 0) → ((i : Image) → holds i → Saves after i) → Serves by_words (state memory image) new holds [] input keeps before.taken after.taken
      → Serves by_words (start image) new (Saves after) [] input keeps before.taken after.taken
  serves_from_start input keeps holds f serves = serves_as by_words (start image) new before.taken after.taken holds (Saves after) f [] input keeps (rw same at serves)

  pub runs_part : (input keeps : List ℕ) (holds : Image → Type 0) → ((i : Image) → holds i → Saves after i) → Consumes before.left after.left input
      → Serves by_words (state memory image) new holds [] input keeps before.taken after.taken → RunsPart before after
  runs_part input keeps holds f read serves =
      let reported = serves_from_start input keeps holds f serves in
      record { begins = begins input read; keeps = keeps; memory = new; serves = reported; plainly = plainly _ _ _ reported.reported.session }

  pub runs_long : (input more keeps : List ℕ) (holds : Image → Type 0) → ((i : Image) → holds i → Saves after i) → Consumes before.left after.left (input ++ more) → length input ≡ 1073741824 → 1 ≤ length more → length more ≤ 65536
      → Serves by_words (state memory image) new holds [] input keeps before.taken after.taken → RunsLong before after
  runs_long input more keeps holds f read most some few serves =
      let reported = serves_from_start input keeps holds f serves in
      record {
        begins = begins (input ++ more) read;
        served = input;
        more = more;
        are = refl;
        most = most;
        some = some;
        few = few;
        keeps = keeps;
        memory = new;
        serves = reported;
        plainly = plainly _ _ _ reported.reported.session;
      }

  breaks_plainly : (holds : Image → Type 0) → ((i : Image) → holds i → Saves after i) → (commands : List Command) → BreaksOff by_words gathered_size (state memory image) new holds commands before.taken after.taken
      → BreaksOffPlainly image (tree_of (by_roles image) found.well_formed.first found.well_formed.second) new before after commands
  breaks_plainly holds f commands breaks =
      let reported : BreaksOff by_words gathered_size (start image) new (Saves after) commands before.taken after.taken =
      breaks_as by_words (start image) new before.taken after.taken holds (Saves after) f gathered_size gathered_size commands (λ e. e) (rw same at breaks) in
      record {
        breaks = reported;
        plainly = plainly _ _ _
            (session_append by_words (start image) reported.middle (state new reported.after) reported.prefix (reported.last ∷ reported.ahead) reported.replies (reported.reply ∷ reported.unheard) reported.session (reported.reached, reported.line, reported.later));
      }

  pub runs_broken : (input : List ℕ) (holds : Image → Type 0) → ((i : Image) → holds i → Saves after i) → Consumes before.left after.left input
      → OfLines after.left input (λ commands. BreaksOff by_words gathered_size (state memory image) new holds commands before.taken after.taken) → RunsBroken before after
  runs_broken input holds f read breaks = record {
    begins = begins input read;
    memory = new;
    breaks = elim breaks [
      | inl all ↦ inl (λ rest. breaks_plainly holds f (commands_from [] (input ++ rest)) (all rest))
      | inr last ↦ inr (last.0, breaks_plainly holds f (commands_from [] input) last.1)
    ];
  }

  stops_plainly : (partly : Image → Image → Type 0) → ((i j : Image) → partly i j → SavesSomeBlocks after i j) → (commands : List Command) → StopsAtSave by_words (state memory image) new partly commands before.taken after.taken
      → StopsPlainly image (tree_of (by_roles image) found.well_formed.first found.well_formed.second) new before after commands
  stops_plainly partly f commands stops =
      let reported : StopsAtSave by_words (start image) new (SavesSomeBlocks after) commands before.taken after.taken = stops_as by_words (start image) new before.taken after.taken partly (SavesSomeBlocks after) f commands (rw same at stops) in
      record { stops = reported; plainly = plainly _ _ _ reported.reported.session }

  pub runs_stopped : (input : List ℕ) (partly : Image → Image → Type 0) → ((i j : Image) → partly i j → SavesSomeBlocks after i j) → Consumes before.left after.left input
      → OfLines after.left input (λ commands. StopsAtSave by_words (state memory image) new partly commands before.taken after.taken) → RunsStopped before after
  runs_stopped input partly f read stops = record {
    begins = begins input read;
    memory = new;
    stops = elim stops [
      | inl all ↦ inl (λ rest. stops_plainly partly f (commands_from [] (input ++ rest)) (all rest))
      | inr last ↦ inr (last.0, stops_plainly partly f (commands_from [] input) last.1)
    ];
  }

  -- the sync at the input's end
  pub runs_unsaved : (input : List ℕ) (middle : Memory) (holds : Image → Type 0) → Consumes before.left after.left input → IsAtEnd after.left → length input ≤ 1073741824
      → (all : ServesAll by_words (state memory image) middle holds (commands_from [] input) before.taken after.taken) → new ≡ drained middle → SavesSomeBlocks after all.after (current_words middle) → RunsUnsaved before after
  runs_unsaved input middle holds read end few all done file =
      let reported : Replied by_words (start image) (state middle all.after) (commands_from [] input) before.taken after.taken = rw same at all.reported in
      record {
        begins = begins input read;
        all = end;
        few = few;
        memory = new;
        middle = state middle all.after;
        reported = reported;
        fails = record { is = refl; drained = done; file = file };
        plainly = plainly _ _ _ reported.session;
      }

wanted_whole : (n : ℕ) → min_blocks ≤ n → n ≤ max_file_blocks → wanted_length max_file_blocks (4096 * n) ≡ 4096 * n
wanted_whole n least most = omega arith

-- ---- completeness

-- a file system is not refused
not_wrong : (image : Image) (stored : ℕ → ℕ) (notice : Notice) → IsFileSystem image → RefusesImage image stored notice → ⊥
not_wrong image stored line well (not_formatted wrong) = wrong (version_of image) well.first.formatted.has_magic
not_wrong image stored line well (by_count has_magic wrong) = wrong well.first.formatted.counted
not_wrong image stored line well (damaged {check = check} {place = place} has_magic counted wrong) = none_fails_whole image well check place wrong

pub not_refused : (image : Image) (notice : Notice) → AreWordsOf64Bits image → IsShortFileSystem image → RefusesFile (Some (Some (image_bytes image))) notice → ⊥
not_refused image line words well (by_length {len = len} has wrong) =
    let sized = well.0.first.formatted.sized in
    let long : length (by_roles image) ≡ length image = length-by_roles image in
    let size : len ≡ 4096 * (length image / 512) = omega (arith, has, length-image_bytes image, sized.whole, long) in
    wrong (size ∙ sym (wanted_whole (length image / 512) (omega (arith, sized.at_least, long)) well.1) ∙ ap (wanted_length max_file_blocks) (sym size))
not_refused image line words well (by_image {image = other} has wrong) =
    let same = image_once image other words has.has.words has.has.bytes in
    not_wrong (by_roles other) (stored_at (roles_of (word other super_magic))) line (rw (← same) well.0) wrong

pub complete : (answer : Status) (before after : Outside) → (answer ≡ status.Missing → IsAbsent before.file) → (answer ≡ status.SourceFailed → SourceFailed before after) → (answer ≡ status.SinkFailed → SinkFailed before after) → (answer ≡ status.FilesFailed → FilesFailed before after)
    → (answer ≡ status.LongInput → RunsLong before after) → (answer ≡ status.Refused → (notice : Notice) × RefusesFile before.file notice)
    → IsRunStatus answer → IsComplete answer before after
complete answer before after missing source sink files long refused among image input held words well reported few no_source no_sink no_files = elim among [
  | inl e ↦ inl e
  | inr (inl e) ↦ absurd (rw held at (missing e))
  | inr (inr (inl e)) ↦ absurd (no_source (source e))
  | inr (inr (inr (inl e))) ↦ absurd (no_sink (sink e))
  | inr (inr (inr (inr (inl e)))) ↦ absurd (no_files (files e))
  | inr (inr (inr (inr (inr (inl e))))) ↦ let run = long e in absurd (not_long before.left after.left input run.served run.more reported few (rw run.are at run.begins.read) run.most run.some)
  | inr (inr (inr (inr (inr (inr (inl e)))))) ↦ let why = refused e in absurd (not_refused image why.0 words well (rw held at why.1))
  | inr (inr (inr (inr (inr (inr (inr e)))))) ↦ inr e
]

pub read_complete : (answer : Status) (before after : Outside) → (answer ≡ status.Missing → IsAbsent before.file) → (answer ≡ status.SinkFailed → SinkFailed before after) → (answer ≡ status.FilesFailed → FilesFailed before after)
    → (answer ≡ status.Refused → (notice : Notice) × RefusesFile before.file notice) → IsReadStatus answer → IsReadComplete answer before after
read_complete answer before after missing sink files refused among image held words well no_sink no_files = elim among [
  | inl e ↦ inl e
  | inr (inl e) ↦ absurd (rw held at (missing e))
  | inr (inr (inl e)) ↦ absurd (no_sink (sink e))
  | inr (inr (inr (inl e))) ↦ absurd (no_files (files e))
  | inr (inr (inr (inr (inl e)))) ↦ let why = refused e in absurd (not_refused image why.0 words well (rw held at why.1))
  | inr (inr (inr (inr (inr e)))) ↦ inr e
]
