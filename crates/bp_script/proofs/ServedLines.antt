-- A volume carries out each call that a line asks for.
use Rattle.std.proofs.Common.{◌≡◌, ℕ, List, [], ◌∷◌, Bool, true, false, Option, None, Some, codes, length, ◌&&◌, if◌then◌else◌, nat_le, nat_lt, refl, arith}
use Rattle.std.specs.List.{list_any}
use Rattle.std.specs.Prelude.{bytes_eq}
use Rattle.std.proofs.lemmas.Bool.{leb-true, ltb-true}
use Rattle.std.proofs.lemmas.List.{length-map}
use Rattle.bp_limits.specs.Limits.{attributes, max_pieces, max_read}
use Rattle.bp_plain.specs.Calls.{Call, Piece}
use Rattle.bp_plain.specs.Calls.Call.{create, mkdir, unlink, rmdir, list, stat, read, rename, link, links, upgrade, upgrade_to_three, snap, unsnap, snap_list, snap_stat, snap_read, batch, attribute, set_attribute}
use Rattle.bp_plain.specs.Served.{IsServed}
use Rattle.bp_replay.specs.Wanted.Wanted.{all, nothing}
use Rattle.bp_script.specs.Commands.{Command, IsServedCommand, attribute_command, attribute_number, bare_command, batch_of, bytes_spelled, cache_command, command_by_words, decoded, decoded_call, decoded_piece, in_grammar, is_empty_word, length_spelled, long_command, masked_crash, number_spelled, pair_command, path_command, piece_words, read_command, row_command, set_attribute_command, short_length, snap_read_command, storm_command, truncate_command, upgrade_command, whole_crash, word_command, words_of, write_command}
use Rattle.bp_script.specs.Commands.Command.{file_call, sync, space, crash, log, bad_syntax}

served_either : (test : Bool) (first second : Command) → IsServedCommand first → IsServedCommand second → IsServedCommand (if test then first else second)
served_either true first second one other = one
served_either false first second one other = other

served_read : (path : List ℕ) (offset number : Option ℕ) → IsServedCommand (read_command path offset (short_length number))
served_read path (Some offset) (Some len) = go (nat_le len max_read) refl
  where
    go : (few : Bool) → nat_le len max_read ≡ few → IsServedCommand (read_command path (Some offset) (if few then Some len else None))
    go true e = leb-true len max_read e
    go false e = tt
served_read path None number = tt
served_read path (Some offset) None = tt

served_snap_read : (path : List ℕ) (offset number : Option ℕ) → IsServedCommand (snap_read_command path offset (short_length number))
served_snap_read path (Some offset) (Some len) = go (nat_le len max_read) refl
  where
    go : (few : Bool) → nat_le len max_read ≡ few → IsServedCommand (snap_read_command path (Some offset) (if few then Some len else None))
    go true e = leb-true len max_read e
    go false e = tt
served_snap_read path None number = tt
served_snap_read path (Some offset) None = tt

served_write : (path : List ℕ) (offset : Option ℕ) (new : Option (List ℕ)) → IsServedCommand (write_command path offset new)
served_write path (Some offset) (Some new) = tt
served_write path (Some offset) None = tt
served_write path None new = tt

served_truncate : (path : List ℕ) (size : Option ℕ) → IsServedCommand (truncate_command path size)
served_truncate path (Some size) = tt
served_truncate path None = tt

served_attribute : (path : List ℕ) (number : Option ℕ) → IsServedCommand (attribute_command path (attribute_number number))
served_attribute path None = tt
served_attribute path (Some number) = go (nat_lt number attributes) refl
  where
    go : (few : Bool) → nat_lt number attributes ≡ few → IsServedCommand (attribute_command path (if few then Some number else None))
    go true e = ltb-true number attributes e
    go false e = tt

served_set_attribute : (path : List ℕ) (number value : Option ℕ) → IsServedCommand (set_attribute_command path (attribute_number number) value)
served_set_attribute path None value = tt
served_set_attribute path (Some number) value = go (nat_lt number attributes) refl value
  where
    go : (few : Bool) → nat_lt number attributes ≡ few → (value : Option ℕ) → IsServedCommand (set_attribute_command path (if few then Some number else None) value)
    go true e (Some value) = ltb-true number attributes e
    go true e None = tt
    go false e value = tt

served_bare : (verb : List ℕ) → IsServedCommand (bare_command verb)
served_bare verb =
    served_either (bytes_eq verb (codes "sync")) sync _ tt
    (served_either (bytes_eq verb (codes "space")) space _ tt
    (served_either (bytes_eq verb (codes "log")) log _ tt
    (served_either (bytes_eq verb (codes "upgrade")) (file_call upgrade) _ tt
    (served_either (bytes_eq verb (codes "snap")) (file_call snap) _ tt (served_either (bytes_eq verb (codes "unsnap")) (file_call unsnap) bad_syntax tt tt)))))

served_whole : (word : List ℕ) → IsServedCommand (whole_crash word)
served_whole word = served_either (bytes_eq word (codes "all")) (crash all) _ tt (served_either (bytes_eq word (codes "none")) (crash nothing) bad_syntax tt tt)

served_masked : (moment epoch : Option ℕ) (mask : Option (List ℕ)) → IsServedCommand (masked_crash moment epoch mask)
served_masked (Some moment) (Some epoch) (Some mask) = tt
served_masked None epoch mask = tt
served_masked (Some moment) None mask = tt
served_masked (Some moment) (Some epoch) None = tt

served_storm : (seed : Option ℕ) → IsServedCommand (storm_command seed)
served_storm (Some seed) = tt
served_storm None = tt

served_cache : (seed : Option ℕ) → IsServedCommand (cache_command seed)
served_cache (Some seed) = tt
served_cache None = tt

served_upgrade : (word : List ℕ) → IsServedCommand (upgrade_command word)
served_upgrade word = served_either (bytes_eq word (codes "3")) (file_call upgrade_to_three) bad_syntax tt tt

served_path : (verb path : List ℕ) → IsServedCommand (path_command verb path)
served_path verb path =
    served_either (bytes_eq verb (codes "create")) (file_call (create path)) _ tt
    (served_either (bytes_eq verb (codes "mkdir")) (file_call (mkdir path)) _ tt
    (served_either (bytes_eq verb (codes "unlink")) (file_call (unlink path)) _ tt
    (served_either (bytes_eq verb (codes "rmdir")) (file_call (rmdir path)) _ tt
    (served_either (bytes_eq verb (codes "list")) (file_call (list path)) _ tt
    (served_either (bytes_eq verb (codes "stat")) (file_call (stat path)) _ tt
    (served_either (bytes_eq verb (codes "links")) (file_call (links path)) _ tt
    (served_either (bytes_eq verb (codes "slist")) (file_call (snap_list path)) _ tt
    (served_either (bytes_eq verb (codes "sstat")) (file_call (snap_stat path)) bad_syntax tt tt))))))))

served_word : (verb word : List ℕ) → IsServedCommand (word_command verb word)
served_word verb word =
    served_either (bytes_eq verb (codes "crash")) (whole_crash word) _ (served_whole word)
    (served_either (bytes_eq verb (codes "storm")) (storm_command (number_spelled word)) _ (served_storm (number_spelled word))
    (served_either (bytes_eq verb (codes "cache")) (cache_command (number_spelled word)) _ (served_cache (number_spelled word))
    (served_either (bytes_eq verb (codes "upgrade")) (upgrade_command word) _ (served_upgrade word) (served_path verb word))))

served_pair : (verb first second : List ℕ) → IsServedCommand (pair_command verb first second)
served_pair verb first second =
    served_either (bytes_eq verb (codes "truncate")) (truncate_command first (number_spelled second)) _ (served_truncate first (number_spelled second))
    (served_either (bytes_eq verb (codes "rename")) (file_call (rename first second)) _ tt
    (served_either (bytes_eq verb (codes "link")) (file_call (link first second)) _ tt
    (served_either (bytes_eq verb (codes "attr")) (attribute_command first (attribute_number (number_spelled second))) bad_syntax (served_attribute first (number_spelled second)) tt)))

served_long : (verb first second third : List ℕ) → IsServedCommand (long_command verb first second third)
served_long verb first second third =
    served_either (bytes_eq verb (codes "read")) (read_command first (number_spelled second) (length_spelled third)) _ (served_read first (number_spelled second) (number_spelled third))
    (served_either (bytes_eq verb (codes "write")) (write_command first (number_spelled second) (bytes_spelled third)) _ (served_write first (number_spelled second) (bytes_spelled third))
    (served_either (bytes_eq verb (codes "crash")) (masked_crash (number_spelled first) (number_spelled second) (bytes_spelled third)) _ (served_masked (number_spelled first) (number_spelled second) (bytes_spelled third))
    (served_either (bytes_eq verb (codes "sread")) (snap_read_command first (number_spelled second) (length_spelled third)) _ (served_snap_read first (number_spelled second) (number_spelled third))
    (served_either (bytes_eq verb (codes "setattr")) (set_attribute_command first (attribute_number (number_spelled second)) (number_spelled third)) bad_syntax (served_set_attribute first (number_spelled second) (number_spelled third)) tt))))

served_batch : (found : Option (List Piece)) → IsServedCommand (batch_of found)
served_batch None = tt
served_batch (Some pieces) = go (nat_le 1 (length pieces)) (nat_le (length pieces) max_pieces) refl refl
  where
    go : (some few : Bool) → nat_le 1 (length pieces) ≡ some → nat_le (length pieces) max_pieces ≡ few → IsServedCommand (if some && few then file_call (batch pieces) else bad_syntax)
    go true true at_some at_few = (leb-true 1 (length pieces) at_some, leb-true (length pieces) max_pieces at_few)
    go true false at_some at_few = tt
    go false few at_some at_few = tt

served_row : (verb : List ℕ) (words : List (List ℕ)) → IsServedCommand (row_command verb words)
served_row verb [] = served_bare verb
served_row verb (word ∷ []) = served_word verb word
served_row verb (first ∷ second ∷ []) = served_pair verb first second
served_row verb (first ∷ second ∷ third ∷ []) = served_long verb first second third
served_row verb (first ∷ second ∷ third ∷ fourth ∷ more) = tt

served_words : (words : List (List ℕ)) → IsServedCommand (command_by_words words)
served_words [] = tt
served_words (verb ∷ words) =
    served_either (bytes_eq verb (codes "batch")) (batch_of (piece_words words)) (row_command verb words) (served_batch (piece_words words)) (served_row verb words)

-- decoded paths make no other call of one
served_decoded_call : (call : Call) → IsServed call → IsServed (decoded_call call)
served_decoded_call (read path offset len) served = served
served_decoded_call (snap_read path offset len) served = served
served_decoded_call (attribute path number) served = served
served_decoded_call (set_attribute path number value) served = served
served_decoded_call (batch pieces) served = let len = length-map pieces decoded_piece in (omega (arith, len, served.0), omega (arith, len, served.1))
served_decoded_call call served = served

served_decoded : (command : Command) → IsServedCommand command → IsServedCommand (decoded command)
served_decoded (file_call call) served = served_decoded_call call served
served_decoded command served = served

pub served_line : (line : List ℕ) → IsServedCommand (in_grammar line)
served_line line = served_decoded _ (served_either (list_any is_empty_word (words_of line)) bad_syntax (command_by_words (words_of line)) tt (served_words (words_of line)))
