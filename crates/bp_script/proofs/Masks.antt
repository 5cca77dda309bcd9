-- A mask has half as many bytes as its line spells digits.
use Rattle.std.proofs.Common.{◌≡◌, ℕ, ◌*◌, ◌≤◌, ◌==◌, List, [], ◌∷◌, length, codes, Bool, true, false, ◌&&◌, Option, None, Some, Ok, Err, Result, if◌then◌else◌, nat_le, refl, ap, arith}
use Rattle.std.specs.Option.{unwrap_or}
use Rattle.std.specs.List.{list_any, AllByRecursion}
use Rattle.std.specs.Prelude.{bytes_eq}
use Rattle.std.specs.Result.{result_ok}
use Rattle.hex.specs.Hex.{decode_of}
use Rattle.hex.specs.declared.error.FromHexError.{FromHexError}
use Rattle.hex.proofs.HexLemmas.{decode_of-ok}
use Rattle.bp_limits.specs.Limits.{max_pieces}
use Rattle.bp_script.specs.Commands.{Command, asked_by, attribute_command, attribute_number, bare_command, batch_of, bytes_spelled, cache_command, command_by_words, decoded, in_grammar, is_empty_word, length_spelled, mask_in, masked_crash, number_spelled, pair_command, path_command, piece_words, read_command, row_command, set_attribute_command, snap_read_command, storm_command, truncate_command, upgrade_command, whole_crash, word_command, words_of, write_command}
use Rattle.bp_replay.specs.Wanted.Wanted.{all, nothing}
use Rattle.bp_script.specs.Commands.Command.{file_call, sync, space, crash, log, bad_syntax}
use Rattle.bp_plain.specs.Calls.{Piece}
use Rattle.bp_plain.specs.Calls.Call.{create, mkdir, unlink, rmdir, list, stat, rename, link, links, upgrade, upgrade_to_three, snap, unsnap, snap_list, snap_stat, batch}
use Rattle.bp_script.proofs.Rows.{parts_within}

-- ---- most commands have none

none_either : (test : Bool) (x y : Command) → mask_in x ≡ [] → mask_in y ≡ [] → mask_in (if test then x else y) ≡ []
none_either true x y p q = p
none_either false x y p q = q

bare_none : (verb : List ℕ) → mask_in (bare_command verb) ≡ []
bare_none verb =
    none_either (bytes_eq verb (codes "sync")) sync _ refl
    (none_either (bytes_eq verb (codes "space")) space _ refl
    (none_either (bytes_eq verb (codes "log")) log _ refl
    (none_either (bytes_eq verb (codes "upgrade")) (file_call upgrade) _ refl
    (none_either (bytes_eq verb (codes "snap")) (file_call snap) _ refl (none_either (bytes_eq verb (codes "unsnap")) (file_call unsnap) bad_syntax refl refl)))))

path_none : (verb path : List ℕ) → mask_in (path_command verb path) ≡ []
path_none verb path =
    none_either (bytes_eq verb (codes "create")) (file_call (create path)) _ refl
    (none_either (bytes_eq verb (codes "mkdir")) (file_call (mkdir path)) _ refl
    (none_either (bytes_eq verb (codes "unlink")) (file_call (unlink path)) _ refl
    (none_either (bytes_eq verb (codes "rmdir")) (file_call (rmdir path)) _ refl
    (none_either (bytes_eq verb (codes "list")) (file_call (list path)) _ refl
    (none_either (bytes_eq verb (codes "stat")) (file_call (stat path)) _ refl
    (none_either (bytes_eq verb (codes "links")) (file_call (links path)) _ refl
    (none_either (bytes_eq verb (codes "slist")) (file_call (snap_list path)) _ refl
    (none_either (bytes_eq verb (codes "sstat")) (file_call (snap_stat path)) bad_syntax refl refl))))))))

whole_none : (word : List ℕ) → mask_in (whole_crash word) ≡ []
whole_none word = none_either (bytes_eq word (codes "all")) (crash all) _ refl (none_either (bytes_eq word (codes "none")) (crash nothing) bad_syntax refl refl)

storm_none : (seed : Option ℕ) → mask_in (storm_command seed) ≡ []
storm_none None = refl
storm_none (Some seed) = refl

cache_none : (seed : Option ℕ) → mask_in (cache_command seed) ≡ []
cache_none None = refl
cache_none (Some seed) = refl

upgrade_none : (word : List ℕ) → mask_in (upgrade_command word) ≡ []
upgrade_none word = none_either (bytes_eq word (codes "3")) (file_call upgrade_to_three) bad_syntax refl refl

word_none : (verb word : List ℕ) → mask_in (word_command verb word) ≡ []
word_none verb word =
    none_either (bytes_eq verb (codes "crash")) (whole_crash word) _ (whole_none word)
    (none_either (bytes_eq verb (codes "storm")) (storm_command (number_spelled word)) _ (storm_none (number_spelled word))
    (none_either (bytes_eq verb (codes "cache")) (cache_command (number_spelled word)) _ (cache_none (number_spelled word))
    (none_either (bytes_eq verb (codes "upgrade")) (upgrade_command word) _ (upgrade_none word) (path_none verb word))))

truncate_none : (path : List ℕ) (size : Option ℕ) → mask_in (truncate_command path size) ≡ []
truncate_none path None = refl
truncate_none path (Some size) = refl

attribute_none : (path : List ℕ) (number : Option ℕ) → mask_in (attribute_command path number) ≡ []
attribute_none path None = refl
attribute_none path (Some number) = refl

pair_none : (verb first second : List ℕ) → mask_in (pair_command verb first second) ≡ []
pair_none verb first second =
    none_either (bytes_eq verb (codes "truncate")) (truncate_command first (number_spelled second)) _ (truncate_none first (number_spelled second))
    (none_either (bytes_eq verb (codes "rename")) (file_call (rename first second)) _ refl
    (none_either (bytes_eq verb (codes "link")) (file_call (link first second)) _ refl
    (none_either (bytes_eq verb (codes "attr")) (attribute_command first (attribute_number (number_spelled second))) bad_syntax (attribute_none first (attribute_number (number_spelled second))) refl)))

read_none : (path : List ℕ) (offset len : Option ℕ) → mask_in (read_command path offset len) ≡ []
read_none path None len = refl
read_none path (Some offset) None = refl
read_none path (Some offset) (Some len) = refl

snap_read_none : (path : List ℕ) (offset len : Option ℕ) → mask_in (snap_read_command path offset len) ≡ []
snap_read_none path None len = refl
snap_read_none path (Some offset) None = refl
snap_read_none path (Some offset) (Some len) = refl

write_none : (path : List ℕ) (offset : Option ℕ) (new : Option (List ℕ)) → mask_in (write_command path offset new) ≡ []
write_none path None new = refl
write_none path (Some offset) None = refl
write_none path (Some offset) (Some new) = refl

set_attribute_none : (path : List ℕ) (number value : Option ℕ) → mask_in (set_attribute_command path number value) ≡ []
set_attribute_none path None value = refl
set_attribute_none path (Some number) None = refl
set_attribute_none path (Some number) (Some value) = refl

-- ---- a mask that is spelled

bytes_short : (word bytes : List ℕ) → bytes_spelled word ≡ Some bytes → 2 * length bytes ≤ length word
bytes_short word bytes e = go (bytes_eq word (codes "-")) refl
  where
    spelled : (r : Result (List ℕ) FromHexError) → decode_of word ≡ r → result_ok r ≡ Some bytes → 2 * length bytes ≤ length word
    spelled (Ok found) is same = omega (arith, (decode_of-ok word found is).2, ap (λ o. length (unwrap_or o [])) same)
    spelled (Err fault) is same = absurd (cc)

    go : (dash : Bool) → bytes_eq word (codes "-") ≡ dash → 2 * length bytes ≤ length word
    go true at = let same : Some [] ≡ Some bytes = rw at at e in omega (arith, ap (λ o. length (unwrap_or o [])) same)
    go false at = let same : result_ok (decode_of word) ≡ Some bytes = rw at at e in spelled (decode_of word) refl same

masked_short : (digits : ℕ) (moment epoch : Option ℕ) (mask : Option (List ℕ)) → ((bytes : List ℕ) → mask ≡ Some bytes → 2 * length bytes ≤ digits)
    → 2 * length (mask_in (masked_crash moment epoch mask)) ≤ digits
masked_short digits None epoch mask fits = omega arith
masked_short digits (Some moment) None mask fits = omega arith
masked_short digits (Some moment) (Some epoch) None fits = omega arith
masked_short digits (Some moment) (Some epoch) (Some bytes) fits = fits bytes refl

-- ---- the mask of a line

none_short : (digits : ℕ) (mask : List ℕ) → mask ≡ [] → 2 * length mask ≤ digits
none_short digits mask e = omega (arith, ap length e)

-- of a line of four words, by its verb
long_short : (digits : ℕ) (a b c d e : Bool) (x y z u v : Command) → mask_in x ≡ [] → mask_in y ≡ [] → 2 * length (mask_in z) ≤ digits → mask_in u ≡ [] → mask_in v ≡ []
    → 2 * length (mask_in (if a then x else if b then y else if c then z else if d then u else if e then v else bad_syntax)) ≤ digits
long_short digits true b c d e x y z u v p q r s t = none_short digits (mask_in x) p
long_short digits false true c d e x y z u v p q r s t = none_short digits (mask_in y) q
long_short digits false false true d e x y z u v p q r s t = r
long_short digits false false false true e x y z u v p q r s t = none_short digits (mask_in u) s
long_short digits false false false false true x y z u v p q r s t = none_short digits (mask_in v) t
long_short digits false false false false false x y z u v p q r s t = omega arith

batch_none : (found : Option (List Piece)) → mask_in (batch_of found) ≡ []
batch_none None = refl
batch_none (Some pieces) = none_either (nat_le 1 (length pieces) && nat_le (length pieces) max_pieces) (file_call (batch pieces)) bad_syntax refl refl

row_short : (digits : ℕ) (verb : List ℕ) (words : List (List ℕ)) → AllByRecursion (λ word. length word ≤ digits) words → 2 * length (mask_in (row_command verb words)) ≤ digits
row_short digits verb [] fit = none_short digits (mask_in (bare_command verb)) (bare_none verb)
row_short digits verb (word ∷ []) fit = none_short digits (mask_in (word_command verb word)) (word_none verb word)
row_short digits verb (first ∷ second ∷ []) fit = none_short digits (mask_in (pair_command verb first second)) (pair_none verb first second)
row_short digits verb (first ∷ second ∷ third ∷ []) fit =
    long_short digits (bytes_eq verb (codes "read")) (bytes_eq verb (codes "write")) (bytes_eq verb (codes "crash")) (bytes_eq verb (codes "sread")) (bytes_eq verb (codes "setattr"))
    (read_command first (number_spelled second) (length_spelled third)) (write_command first (number_spelled second) (bytes_spelled third)) (masked_crash (number_spelled first) (number_spelled second) (bytes_spelled third))
    (snap_read_command first (number_spelled second) (length_spelled third)) (set_attribute_command first (attribute_number (number_spelled second)) (number_spelled third))
    (read_none first (number_spelled second) (length_spelled third)) (write_none first (number_spelled second) (bytes_spelled third))
    (masked_short digits (number_spelled first) (number_spelled second) (bytes_spelled third) (λ bytes is. omega (arith, bytes_short third bytes is, fit.1.1.0)))
    (snap_read_none first (number_spelled second) (length_spelled third))
    (set_attribute_none first (attribute_number (number_spelled second)) (number_spelled third))
row_short digits verb (a ∷ b ∷ c ∷ d ∷ words) fit = omega arith

words_short : (digits : ℕ) (words : List (List ℕ)) → AllByRecursion (λ word. length word ≤ digits) words → 2 * length (mask_in (command_by_words words)) ≤ digits
words_short digits [] fit = omega arith
words_short digits (verb ∷ words) fit = go (bytes_eq verb (codes "batch"))
  where
    go : (a : Bool) → 2 * length (mask_in (if a then batch_of (piece_words words) else row_command verb words)) ≤ digits
    go true = none_short digits (mask_in (batch_of (piece_words words))) (batch_none (piece_words words))
    go false = row_short digits verb words fit.1

asked_short : (digits : ℕ) (words : List (List ℕ)) → AllByRecursion (λ word. length word ≤ digits) words → 2 * length (mask_in (asked_by words)) ≤ digits
asked_short digits words fit = go (list_any is_empty_word words)
  where
    go : (a : Bool) → 2 * length (mask_in (if a then bad_syntax else command_by_words words)) ≤ digits
    go true = omega arith
    go false = words_short digits words fit

mask_decoded : (command : Command) → mask_in (decoded command) ≡ mask_in command
mask_decoded (file_call call) = refl
mask_decoded command = refl

pub mask_short : (line : List ℕ) → 2 * length (mask_in (in_grammar line)) ≤ length line
mask_short line =
    omega (arith, ap length (mask_decoded (asked_by (words_of line))), asked_short (length line) (words_of line) (parts_within (λ b. b == 32) line))
