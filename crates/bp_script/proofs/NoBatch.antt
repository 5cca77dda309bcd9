-- Only a line of four words and more asks for a batch.
use Rattle.std.proofs.Common.{◌≡◌, ℕ, List, Bool, true, false, Option, None, Some, Result, Ok, codes, if◌then◌else◌, refl, ◌∙◌, ap, true≢false}
use Rattle.std.specs.Prelude.{bytes_eq}
use Rattle.bp_plain.specs.Calls.{Call}
use Rattle.bp_plain.specs.Calls.Call.{create, mkdir, unlink, rmdir, list, stat, rename, link, links, upgrade, upgrade_to_three, snap, unsnap, snap_list, snap_stat, batch}
use Rattle.bp_plain.specs.declared.calls.Call.TheVariants as given
use Rattle.bp_replay.specs.Wanted.Wanted.{all, nothing}
use Rattle.bp_script.specs.Commands.{Command, attribute_command, attribute_number, bare_command, bytes_spelled, cache_command, decoded, decoded_call, length_spelled, long_command, masked_crash, number_spelled, pair_command, path_command, read_command, set_attribute_command, snap_read_command, storm_command, truncate_command, upgrade_command, whole_crash, word_command, write_command}
use Rattle.bp_script.specs.Commands.Command.{file_call, sync, space, crash, log, bad_syntax}
use Rattle.bp_script.specs.Lines.{HasItsParts, line_asks}
use Rattle.bp_script.specs.declared.lines.Line.{Line}
use Rattle.bp_script.specs.declared.lines.Line.TheVariants as asks
use Rattle.bp_script.specs.declared.lines.Syntax.{Syntax}

pub is_batch : Call → Bool
is_batch (batch pieces) = true
is_batch call = false

pub has_batch : Command → Bool
has_batch (file_call call) = is_batch call
has_batch command = false

either : (test : Bool) (first second : Command) → has_batch first ≡ false → has_batch second ≡ false → has_batch (if test then first else second) ≡ false
either true first second one other = one
either false first second one other = other

none_read : (path : List ℕ) (offset len : Option ℕ) → has_batch (read_command path offset len) ≡ false
unfolding has_batch is_batch
none_read path (Some offset) (Some len) = refl
none_read path None len = refl
none_read path (Some offset) None = refl

none_snap_read : (path : List ℕ) (offset len : Option ℕ) → has_batch (snap_read_command path offset len) ≡ false
unfolding has_batch is_batch
none_snap_read path (Some offset) (Some len) = refl
none_snap_read path None len = refl
none_snap_read path (Some offset) None = refl

none_write : (path : List ℕ) (offset : Option ℕ) (new : Option (List ℕ)) → has_batch (write_command path offset new) ≡ false
unfolding has_batch is_batch
none_write path (Some offset) (Some new) = refl
none_write path (Some offset) None = refl
none_write path None new = refl

none_truncate : (path : List ℕ) (size : Option ℕ) → has_batch (truncate_command path size) ≡ false
unfolding has_batch is_batch
none_truncate path (Some size) = refl
none_truncate path None = refl

none_attribute : (path : List ℕ) (number : Option ℕ) → has_batch (attribute_command path number) ≡ false
unfolding has_batch is_batch
none_attribute path (Some number) = refl
none_attribute path None = refl

none_set_attribute : (path : List ℕ) (number value : Option ℕ) → has_batch (set_attribute_command path number value) ≡ false
unfolding has_batch is_batch
none_set_attribute path (Some number) (Some value) = refl
none_set_attribute path None value = refl
none_set_attribute path (Some number) None = refl

none_whole : (word : List ℕ) → has_batch (whole_crash word) ≡ false
unfolding has_batch
none_whole word = either (bytes_eq word (codes "all")) (crash all) _ refl (either (bytes_eq word (codes "none")) (crash nothing) bad_syntax refl refl)

none_masked : (moment epoch : Option ℕ) (mask : Option (List ℕ)) → has_batch (masked_crash moment epoch mask) ≡ false
unfolding has_batch
none_masked (Some moment) (Some epoch) (Some mask) = refl
none_masked None epoch mask = refl
none_masked (Some moment) None mask = refl
none_masked (Some moment) (Some epoch) None = refl

none_storm : (seed : Option ℕ) → has_batch (storm_command seed) ≡ false
unfolding has_batch
none_storm (Some seed) = refl
none_storm None = refl

none_cache : (seed : Option ℕ) → has_batch (cache_command seed) ≡ false
unfolding has_batch
none_cache (Some seed) = refl
none_cache None = refl

none_upgrade : (word : List ℕ) → has_batch (upgrade_command word) ≡ false
unfolding has_batch is_batch
none_upgrade word = either (bytes_eq word (codes "3")) (file_call upgrade_to_three) bad_syntax refl refl

pub none_bare : (verb : List ℕ) → has_batch (bare_command verb) ≡ false
unfolding has_batch is_batch
none_bare verb =
    either (bytes_eq verb (codes "sync")) sync _ refl
    (either (bytes_eq verb (codes "space")) space _ refl
    (either (bytes_eq verb (codes "log")) log _ refl
    (either (bytes_eq verb (codes "upgrade")) (file_call upgrade) _ refl
    (either (bytes_eq verb (codes "snap")) (file_call snap) _ refl (either (bytes_eq verb (codes "unsnap")) (file_call unsnap) bad_syntax refl refl)))))

none_path : (verb path : List ℕ) → has_batch (path_command verb path) ≡ false
unfolding has_batch is_batch
none_path verb path =
    either (bytes_eq verb (codes "create")) (file_call (create path)) _ refl
    (either (bytes_eq verb (codes "mkdir")) (file_call (mkdir path)) _ refl
    (either (bytes_eq verb (codes "unlink")) (file_call (unlink path)) _ refl
    (either (bytes_eq verb (codes "rmdir")) (file_call (rmdir path)) _ refl
    (either (bytes_eq verb (codes "list")) (file_call (list path)) _ refl
    (either (bytes_eq verb (codes "stat")) (file_call (stat path)) _ refl
    (either (bytes_eq verb (codes "links")) (file_call (links path)) _ refl
    (either (bytes_eq verb (codes "slist")) (file_call (snap_list path)) _ refl (either (bytes_eq verb (codes "sstat")) (file_call (snap_stat path)) bad_syntax refl refl))))))))

pub none_word : (verb word : List ℕ) → has_batch (word_command verb word) ≡ false
none_word verb word =
    either (bytes_eq verb (codes "crash")) (whole_crash word) _ (none_whole word)
    (either (bytes_eq verb (codes "storm")) (storm_command (number_spelled word)) _ (none_storm (number_spelled word))
    (either (bytes_eq verb (codes "cache")) (cache_command (number_spelled word)) _ (none_cache (number_spelled word))
    (either (bytes_eq verb (codes "upgrade")) (upgrade_command word) _ (none_upgrade word) (none_path verb word))))

pub none_pair : (verb first second : List ℕ) → has_batch (pair_command verb first second) ≡ false
unfolding has_batch is_batch
none_pair verb first second =
    either (bytes_eq verb (codes "truncate")) (truncate_command first (number_spelled second)) _ (none_truncate first (number_spelled second))
    (either (bytes_eq verb (codes "rename")) (file_call (rename first second)) _ refl
    (either (bytes_eq verb (codes "link")) (file_call (link first second)) _ refl
    (either (bytes_eq verb (codes "attr")) (attribute_command first (attribute_number (number_spelled second))) bad_syntax (none_attribute first (attribute_number (number_spelled second))) refl)))

pub none_long : (verb first second third : List ℕ) → has_batch (long_command verb first second third) ≡ false
unfolding has_batch
none_long verb first second third =
    either (bytes_eq verb (codes "read")) (read_command first (number_spelled second) (length_spelled third)) _ (none_read first (number_spelled second) (length_spelled third))
    (either (bytes_eq verb (codes "write")) (write_command first (number_spelled second) (bytes_spelled third)) _ (none_write first (number_spelled second) (bytes_spelled third))
    (either (bytes_eq verb (codes "crash")) (masked_crash (number_spelled first) (number_spelled second) (bytes_spelled third)) _ (none_masked (number_spelled first) (number_spelled second) (bytes_spelled third))
    (either (bytes_eq verb (codes "sread")) (snap_read_command first (number_spelled second) (length_spelled third)) _ (none_snap_read first (number_spelled second) (length_spelled third))
    (either (bytes_eq verb (codes "setattr")) (set_attribute_command first (attribute_number (number_spelled second)) (number_spelled third)) bad_syntax (none_set_attribute first (attribute_number (number_spelled second)) (number_spelled third)) refl))))

-- decoded paths make no batch of another call
decoded_none : (call : Call) → is_batch (decoded_call call) ≡ is_batch call
unfolding is_batch
decoded_none (batch pieces) = refl
decoded_none call = refl

none_decoded : (command : Command) → has_batch command ≡ false → has_batch (decoded command) ≡ false
unfolding has_batch
none_decoded (file_call call) none = decoded_none call ∙ none
none_decoded command none = none

-- so a line of another command has no parts to hold
pub has_none : (asked : Result Line Syntax) → has_batch (line_asks asked) ≡ false → HasItsParts asked
unfolding has_batch is_batch
has_none (Ok (asks.Call (given.Batch text pieces))) none = absurd (true≢false none)
has_none asked none = tt

pub parts_of_other : (asked : Result Line Syntax) (command : Command) → line_asks asked ≡ decoded command → has_batch command ≡ false → HasItsParts asked
parts_of_other asked command is none = has_none asked (ap has_batch is ∙ none_decoded command none)
