-- What is known of the file of a run.
use Rattle.std.proofs.Common.{zero, suc, refl, sym, ◌∙◌, ap, subst, arith, ◌≡◌, ◌≢◌, ℕ, ◌+◌, ◌*◌, ◌/◌, ◌%◌, ◌-◌, List, [], ◌∷◌, ◌++◌, length, take, false, true, inl, inr}
use Rattle.std.specs.Prelude.{Some, None, ◌⊎◌}
use Rattle.std.proofs.Math.Seq.{take-add, take-length}
use Rattle.bp_limits.specs.Limits.{max_file_blocks, super_magic}
use Rattle.bp_io.specs.Files.{Stays, FileSatisfies, Answers, Reads, blocks_of}
use Rattle.bp_io.specs.Views.{Known, View, HasBytes}
use Rattle.bp_session.proofs.OthersLaws.{stays_same, stays_stays}
use Rattle.bp_session.proofs.SavingLaws.{stays_attached, still_attached}
use Rattle.bp_layout.specs.Bytes.{image_bytes}
use Rattle.bp_free.specs.Set.{Set, has, members}
use Rattle.bp_layout.specs.Free.{AreFreeBlocks, numbers_below}
use Rattle.bp_layout.specs.Trees.{AreInSnapshot}
use Rattle.bp_layout.specs.Whole.{HasSpace}
use Rattle.bp_layout.specs.Checks.{number_of}
use Rattle.bp_layout.specs.Words.{Image, block_count, word}
use Rattle.bp_roles.specs.Mounted.{by_roles, roles_of}
use Rattle.bp_roles.specs.Roles.{stored_at}
use Rattle.bp_roles.specs.declared.roles.Roles.{Roles}
use Rattle.bp_scan.specs.Faults.{IsFault}
use Rattle.bp_scan.specs.Length.{wanted_length}
use Rattle.bp_scan.specs.declared.fault.MountFault.{MountFault}
use Rattle.bp_scan.specs.declared.fault.MountFault.TheVariants as f
use Rattle.bp_script.specs.declared.notices.Notice.{Notice}
use Rattle.bp_script.specs.declared.notices.Notice.TheVariants.{NotFormatted, BadSize, Damaged}
use Rattle.bp_session.proofs.BlockLaws.{image_bytes-append}
use Rattle.bp_session.specs.Files.{AreWordsOf64Bits, HasLength, Holds, HoldsFirstBlocks}
use Rattle.pm_raw.specs.Part.{Part}
use Rattle.pm_raw.specs.Spelled.{spelled_words}
use Rattle.pm_raw.proofs.SpelledLaws.{AreSmall, bytes_of_spelled}
use Rattle.bp_shell.specs.Opening.{FindsImage, HasLoaded, HasSized, RefusesFile, RefusesImage}
use Rattle.bp_shell.specs.Opening.RefusesFile.{by_length, by_image}
use Rattle.bp_shell.specs.Opening.RefusesImage.{not_formatted, by_count, damaged}
use Rattle.bp_shell.specs.Stops.{stop_by}
use Rattle.bp_mount.specs.Faults.{IsMountFault, stored_fault}
use Rattle.bp_shell.specs.declared.stop.Stop.{Stop}
use Rattle.bp_shell.specs.declared.stop.Stop.TheVariants.{Missing, Outside, Refused, Memory}

-- a run of blocks after those before it
pub blocks_next : (bytes : List ℕ) (first count : ℕ) → take (4096 * (first + count)) bytes ≡ take (4096 * first) bytes ++ blocks_of bytes first count
blocks_next bytes first count =
    let width : (4096 * first + 4096 * count) - 4096 * first ≡ 4096 * count = omega arith in
    let end : 4096 * (first + count) ≡ 4096 * first + 4096 * count = omega arith in
    rw (width, end) (take-add (4096 * first) (4096 * count) bytes)

pub reports_next : (known : Known) (read next run : List ℕ) (first count : ℕ) → FileSatisfies known (λ bytes. read ≡ take (4096 * first) bytes) → FileSatisfies known (λ bytes. run ≡ blocks_of bytes first count) → next ≡ read ++ run
    → FileSatisfies known (λ bytes. next ≡ take (4096 * (first + count)) bytes)
reports_next None read next run first count before here e = tt
reports_next (Some None) read next run first count before here e = tt
reports_next (Some (Some bytes)) read next run first count before here e =
    e ∙ ap (λ l. l ++ run) before ∙ ap (λ l. take (4096 * first) bytes ++ l) here ∙ sym (blocks_next bytes first count)

pub stays_equal : (was now : Known) → Stays was now → now ≡ was
stays_equal None now stays = stays
stays_equal (Some was) now stays = stays

pub reads_none : (a : View) → Reads a a
reads_none a = record { files = λ name. stays_same (a.contents name); attached = still_attached a; flushed = refl }

pub reads_then : (a b c : View) → Reads a b → Reads b c → Reads a c
reads_then a b c one two = record {
  files = λ name. stays_stays (a.contents name) (b.contents name) (c.contents name) (one.files name) (two.files name);
  attached = stays_attached a b c one.attached two.attached;
  flushed = two.flushed ∙ one.flushed;
}

pub reports_all : (known : Known) (P : List ℕ → Type 0) → ((bytes : List ℕ) → P bytes) → FileSatisfies known P
reports_all None P all = tt
reports_all (Some None) P all = tt
reports_all (Some (Some bytes)) P all = all bytes

-- ---- an image that is loaded

pub bytes_next : (base words : Image) (bytes : List ℕ) → image_bytes words ≡ bytes → image_bytes (base ++ words) ≡ image_bytes base ++ bytes
bytes_next base words bytes spelled = image_bytes-append base words ∙ ap (λ l. image_bytes base ++ l) spelled

-- a run of bytes, as the words that it spells
pub spelled_image : (run : List ℕ) → length run % 8 ≡ 0 → AreSmall run → image_bytes (spelled_words (length run / 8) run) ≡ run
unfolding image_bytes
spelled_image run whole small =
    let all : 8 * (length run / 8) ≡ length run = omega (arith, whole) in
    bytes_of_spelled (length run / 8) run (omega (arith, all)) small ∙ ap (λ n. take n run) all ∙ take-length run

pub words_append : (first second : Image) → AreWordsOf64Bits first → AreWordsOf64Bits second → AreWordsOf64Bits (first ++ second)
words_append [] second low high place = high place
words_append (w ∷ first) second low high zero = low zero
words_append (w ∷ first) second low high (suc place) = words_append first second (λ k. low (suc k)) high place

pub no_words : image_bytes [] ≡ []
unfolding image_bytes
no_words = refl

-- what is loaded is so before a read and after it
module _ (a b : View) (count : ℕ) (part : Part) (reads : Reads a b) where
  abbrev prefix : Known → Type 0
  prefix known = FileSatisfies known (λ bytes. image_bytes part.words ≡ take (4096 * count) bytes)

  pub loaded_then : HasLoaded a count part → HasLoaded b count part
  loaded_then loaded = record {
    image = λ name is. subst prefix (sym (stays_equal _ _ (reads.files name))) (loaded.image name (sym (reads.attached.attached name) ∙ is));
    words = loaded.words;
    long = loaded.long;
    size = omega (arith, loaded.size, reads.attached.blocks);
  }

  pub loaded_before : HasLoaded b count part → HasLoaded a count part
  loaded_before loaded = record {
    image = λ name is. subst prefix (stays_equal _ _ (reads.files name)) (loaded.image name (reads.attached.attached name ∙ is));
    words = loaded.words;
    long = loaded.long;
    size = omega (arith, loaded.size, reads.attached.blocks);
  }

whole_known : (known : Known) (count : ℕ) (bytes : List ℕ) → HasLength known (4096 * count) → FileSatisfies known (λ found. bytes ≡ take (4096 * count) found) → HasBytes known bytes
whole_known None count bytes long reports = tt
whole_known (Some None) count bytes long reports = long
whole_known (Some (Some found)) count bytes long reports = sym (reports ∙ ap (λ n. take n found) (sym long) ∙ take-length found)

module _ (was : Known) (name : List ℕ) (count : ℕ) (found now : View) (base : Image) (finds : FindsImage was name count found) (same : found.contents name ≡ was) (reads : Reads found now)
    (prefix : HoldsFirstBlocks found count base) (size : length base ≡ 512 * count) (words : AreWordsOf64Bits base) where
  known : HasBytes was (image_bytes base)
  known =
      let reports : FileSatisfies was (λ bytes. image_bytes base ≡ take (4096 * count) bytes) = rw same at (prefix name finds.attached) in
      whole_known was count (image_bytes base) finds.has reports

  pub is_sized : HasSized was base
  is_sized = record {
    has = record { bytes = known; words = words };
    sized = record {
      whole = omega (arith, size);
      at_least = omega (arith, size, finds.at_least);
      at_most = omega (arith, size, finds.at_most);
    };
  }

  pub is_held : Holds now name base
  is_held = record {
    attached = reads.attached.attached name ∙ finds.attached;
    size = omega (arith, size, finds.blocks, reads.attached.blocks);
    bytes = let e : now.contents name ≡ was = stays_equal _ _ (reads.files name) ∙ same in rw e known;
  }

pub has_length : (known : Known) (n : ℕ) → Answers known false (Some n) → HasLength known n
has_length None n answers = tt
has_length (Some None) n answers = absurd (let never : false ≡ true = answers.0 in cc)
has_length (Some (Some bytes)) n answers = sym answers

-- ---- faults of an image

pub stop_kinds : (fault : MountFault) → ((notice : Notice) × (stop_by fault ≡ Refused notice)) ⊎ (stop_by fault ≡ Memory)
stop_kinds f.NotFormatted = inl (NotFormatted, refl)
stop_kinds (f.BadSize found wanted) = inl (BadSize found wanted, refl)
stop_kinds (f.Damaged check place) = inl (Damaged (number_of check) place, refl)
stop_kinds f.Memory = inr refl

pub no_refusal : (notice : Notice) → ◌≡◌ {A = Stop} Memory (Refused notice) → ⊥
no_refusal reported e = cc

same_notice : (first second : Notice) → ◌≡◌ {A = Stop} (Refused first) (Refused second) → first ≡ second
same_notice first second e = cc

-- a fault of an image that is seen by these roles, with the place where the word is stored
refused_stored : (shown : MountFault) (image : Image) (roles : Roles) (notice : Notice) → IsFault image shown → stop_by (stored_fault roles shown) ≡ Refused notice → RefusesImage image (stored_at roles) notice
refused_stored f.NotFormatted image roles reported why e = rw (← same_notice NotFormatted reported e) (not_formatted why)
refused_stored (f.BadSize found wanted) image roles reported why e = rw (← same_notice (BadSize found wanted) reported e, why.2, why.3) (by_count why.0 why.1)
refused_stored (f.Damaged check place) image roles reported why e = rw (← same_notice (Damaged (number_of check) (stored_at roles place)) reported e) (damaged why.0 why.1 why.2)
refused_stored f.Memory image roles reported why e = absurd why

pub stop_refused : (fault : MountFault) (image : Image) (known : Known) (notice : Notice) → IsMountFault image fault → HasSized known image → stop_by fault ≡ Refused notice → RefusesFile known notice
stop_refused fault image file line why has e =
    by_image has (refused_stored why.shown (by_roles image) (roles_of (word image super_magic)) line why.applies (ap stop_by (sym why.stored) ∙ e))

pub stop_refused_length : (fault : MountFault) (known : Known) (len : ℕ) (notice : Notice) → HasLength known len → (fault ≡ f.BadSize len (wanted_length max_file_blocks len)) × (len ≢ wanted_length max_file_blocks len) → stop_by fault ≡ Refused notice → RefusesFile known notice
stop_refused_length fault known len notice has why e =
    let reported : stop_by (f.BadSize len (wanted_length max_file_blocks len)) ≡ Refused notice = rw why.0 at e in
    rw (← same_notice (BadSize len (wanted_length max_file_blocks len)) notice reported) (by_length has why.1)

pub never_missing : (fault : MountFault) → stop_by fault ≡ Missing → ⊥
never_missing f.NotFormatted e = cc
never_missing (f.BadSize found wanted) e = cc
never_missing (f.Damaged check place) e = cc
never_missing f.Memory e = cc

pub if_missing : (stop : Stop) → stop ≡ Missing → stop ≡ Outside → ⊥
if_missing stop is e = let no : ◌≡◌ {A = Stop} Missing Outside = sym is ∙ e in cc

pub if_refused : (stop : Stop) (notice : Notice) → stop ≡ Refused notice → stop ≡ Outside → ⊥
if_refused stop notice is e = let no : ◌≡◌ {A = Stop} (Refused notice) Outside = sym is ∙ e in cc

pub if_memory : (stop : Stop) → stop ≡ Memory → stop ≡ Outside → ⊥
if_memory stop is e = let no : ◌≡◌ {A = Stop} Memory Outside = sym is ∙ e in cc

-- the blocks of a set of a scan, counted
pub counted : (image : Image) (snapshot_blocks set : Set) (count : ℕ) → AreInSnapshot image (has snapshot_blocks) → AreFreeBlocks image (has snapshot_blocks) (has set) → length set ≡ block_count image → count ≡ length (members set) → HasSpace image count
counted image snapshot_blocks set count kept are size is = record {
  in_snapshot = has snapshot_blocks;
  are = kept;
  free = record {
    set = has set;
    are = are;
    number = ap (λ n. length (numbers_below n (has set))) (sym size) ∙ sym is;
  };
}
