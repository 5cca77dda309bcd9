-- The rows of the table of commands.
use Rattle.std.proofs.Common.{◌≡◌, ℕ, zero, suc, ◌+◌, ◌-◌, ◌<◌, ◌≤◌, List, [], ◌∷◌, ◌==◌, ◌&&◌, ◌||◌, length, take, drop, slice_index, position, codes, nat_le, nat_lt, Bool, true, false, Option, None, Some, Result, Ok, Err, if◌then◌else◌, refl, sym, ◌∙◌, ap, arith, true≢false}
use Rattle.std.proofs.lemmas.Bool.{eqb-true, ne_eqb}
use Rattle.std.proofs.lemmas.Slice.Eq.{bytes_eq-Decides}
use Rattle.std.proofs.lemmas.List.Folds.{list_all_at}
use Rattle.std.proofs.lemmas.List.Quantifiers.{position-Some}
use Rattle.std.proofs.lemmas.List.Sums.{list_all-from_AllPass}
use Rattle.std.specs.Char.{is_ascii_digit}
use Rattle.std.specs.List.{list_all, list_any, slice_split, AllByRecursion}
use Rattle.std.specs.Prelude.{bytes_eq}
use Rattle.std.specs.Result.{result_ok}
use Rattle.std.specs.Str.Parse.{digits_value}
use Rattle.hex.specs.Hex.{decode_of, is_hex_digit}
use Rattle.hex.specs.declared.error.FromHexError.{FromHexError}
use Rattle.hex.proofs.HexLemmas.{decode_of-ok}
use Rattle.bp_plain.specs.Calls.Call.{upgrade, upgrade_to_three, snap, unsnap}
use Rattle.bp_script.specs.Commands.{Command, asked_by, attribute_number, bare_command, batch_of, bytes_spelled, command_by_words, decoded, is_empty_word, long_command, masked_crash, number_spelled, pair_command, path_bytes, piece_words, read_command, row_command, set_attribute_command, snap_read_command, upgrade_command, whole_crash, word_command, words_of, write_command}
use Rattle.bp_replay.specs.Wanted.Wanted.{all, nothing}
use Rattle.bp_script.specs.Commands.Command.{bad_syntax, crash, file_call, log, space, sync}
use Rattle.bp_script.specs.Lines.{path_row}
use Rattle.bp_script.specs.declared.verbs.PathVerb.{PathVerb}
use Rattle.bp_script.specs.declared.verbs.PathVerb.TheVariants as verb
use Rattle.bp_script.proofs.Splitting.{slice_split-cons, slice_split-none, slice_split-some}

-- words of a line, none of which but the first may be empty

filled : (word : List ℕ) → 0 < length word → is_empty_word word ≡ false
filled word some = ne_eqb (length word) 0 (λ none. absurd (omega (arith, some, none)))

-- where `batch` has fewer words than a piece, it is no row either way
row_of : (verb : List ℕ) (words : List (List ℕ)) → (bytes_eq verb (codes "batch") ≡ true → batch_of (piece_words words) ≡ row_command verb words)
    → command_by_words (verb ∷ words) ≡ row_command verb words
row_of verb words same = go (bytes_eq verb (codes "batch")) refl
  where
    go : (t : Bool) → bytes_eq verb (codes "batch") ≡ t → (if t then batch_of (piece_words words) else row_command verb words) ≡ row_command verb words
    go true at = same at
    go false at = refl

is_verb : (verb word : List ℕ) → bytes_eq verb word ≡ true → verb ≡ word
is_verb verb word at = (bytes_eq-Decides verb word).0 at

pub row_one : (verb : List ℕ) → command_by_words (verb ∷ []) ≡ bare_command verb
row_one verb = row_of verb [] (λ at. rw (is_verb verb (codes "batch") at) refl)

pub row_two : (verb word : List ℕ) → command_by_words (verb ∷ word ∷ []) ≡ word_command verb word
row_two verb word = row_of verb (word ∷ []) (λ at. rw (is_verb verb (codes "batch") at) refl)

pub row_three : (verb first second : List ℕ) → command_by_words (verb ∷ first ∷ second ∷ []) ≡ pair_command verb first second
row_three verb first second = row_of verb (first ∷ second ∷ []) (λ at. rw (is_verb verb (codes "batch") at) refl)

asked_one : (verb : List ℕ) → asked_by (verb ∷ []) ≡ bare_command verb
asked_one [] = refl
asked_one (v ∷ verb) = rw (filled (v ∷ verb) (omega arith)) (row_one (v ∷ verb))

-- a verb and one word, or two, of which no word but the verb is empty
pub asked_two : (verb word : List ℕ) → 0 < length word → asked_by (verb ∷ word ∷ []) ≡ word_command verb word
asked_two [] word some = refl
asked_two (v ∷ verb) word some = rw (filled (v ∷ verb) (omega arith), filled word some) (row_two (v ∷ verb) word)

pub asked_three : (verb first second : List ℕ) → 0 < length first → 0 < length second → asked_by (verb ∷ first ∷ second ∷ []) ≡ pair_command verb first second
asked_three [] first second some some_second = refl
asked_three (v ∷ verb) first second some some_second = rw (filled (v ∷ verb) (omega arith), filled first some, filled second some_second) (row_three (v ∷ verb) first second)

asked_four : (verb first second third : List ℕ) → bytes_eq verb (codes "batch") ≡ false → 0 < length first → 0 < length second → 0 < length third
    → asked_by (verb ∷ first ∷ second ∷ third ∷ []) ≡ long_command verb first second third
asked_four [] first second third other some some_second some_third = refl
asked_four (v ∷ verb) first second third other some some_second some_third =
    rw (filled (v ∷ verb) (omega arith), filled first some, filled second some_second, filled third some_third, other) refl

asked_more : (a b c d e : List ℕ) (more : List (List ℕ)) → bytes_eq a (codes "batch") ≡ false → asked_by (a ∷ b ∷ c ∷ d ∷ e ∷ more) ≡ bad_syntax
asked_more a b c d e more other = go (list_any is_empty_word (a ∷ b ∷ c ∷ d ∷ e ∷ more)) refl
  where
    go : (t : Bool) → list_any is_empty_word (a ∷ b ∷ c ∷ d ∷ e ∷ more) ≡ t → asked_by (a ∷ b ∷ c ∷ d ∷ e ∷ more) ≡ bad_syntax
    go true at = rw at refl
    go false at = rw (at, other) refl

-- an empty word makes a line none of the table

either_true : (t : Bool) → (t || true) ≡ true
either_true true = refl
either_true false = refl

-- ---- a fourth word with a space: there are more words, and it is neither a number nor bytes

number_with_space : (word : List ℕ) (i : ℕ) → i < length word → slice_index word i ≡ 32 → number_spelled word ≡ None
number_with_space word i inside is =
    let no : list_all is_ascii_digit word ≡ false = list_all_at is_ascii_digit word i 0 inside (ap is_ascii_digit is) in
    rw no (go (nat_le 1 (length word)) (nat_le (length word) 20) (nat_lt (digits_value 10 word) 18446744073709551616))
  where
    go : (a b c : Bool) → (if (a && b && false) && c then Some (digits_value 10 word) else None) ≡ None
    go true true c = refl
    go true false c = refl
    go false b c = refl

digits_with_space : (word : List ℕ) (i : ℕ) → i < length word → slice_index word i ≡ 32 → result_ok (decode_of word) ≡ None
digits_with_space word i inside is = go (decode_of word) refl
  where
    go : (r : Result (List ℕ) FromHexError) → decode_of word ≡ r → result_ok r ≡ None
    go (Err fault) at = refl
    go (Ok found) at =
        let all : list_all is_hex_digit word ≡ true = list_all-from_AllPass is_hex_digit word (decode_of-ok word found at).1 in
        let no : list_all is_hex_digit word ≡ false = list_all_at is_hex_digit word i 0 inside (ap is_hex_digit is) in
        absurd (true≢false (sym all ∙ no))

bytes_with_space : (word : List ℕ) (i : ℕ) → i < length word → slice_index word i ≡ 32 → bytes_spelled word ≡ None
bytes_with_space [] i inside is = absurd (omega (arith, inside))
bytes_with_space (x ∷ []) zero inside is =
    let space : x ≡ 32 = is in
    rw space (digits_with_space (32 ∷ []) 0 (omega arith) refl)
bytes_with_space (x ∷ []) (suc i) inside is = absurd (omega (arith, inside))
bytes_with_space (x ∷ y ∷ word) i inside is = go (x == 45) (digits_with_space (x ∷ y ∷ word) i inside is)
  where
    go : (t : Bool) → result_ok (decode_of (x ∷ y ∷ word)) ≡ None → (if t && false then Some [] else result_ok (decode_of (x ∷ y ∷ word))) ≡ None
    go true none = none
    go false none = none

no_length : (path : List ℕ) (offset : Option ℕ) → read_command path offset None ≡ bad_syntax
no_length path None = refl
no_length path (Some offset) = refl

no_snap_length : (path : List ℕ) (offset : Option ℕ) → snap_read_command path offset None ≡ bad_syntax
no_snap_length path None = refl
no_snap_length path (Some offset) = refl

no_bytes : (path : List ℕ) (offset : Option ℕ) → write_command path offset None ≡ bad_syntax
no_bytes path None = refl
no_bytes path (Some offset) = refl

no_value : (path : List ℕ) (number : Option ℕ) → set_attribute_command path number None ≡ bad_syntax
no_value path None = refl
no_value path (Some number) = refl

no_mask : (moment epoch : Option ℕ) → masked_crash moment epoch None ≡ bad_syntax
no_mask None epoch = refl
no_mask (Some moment) None = refl
no_mask (Some moment) (Some epoch) = refl

long_with_space : (verb first second third : List ℕ) (i : ℕ) → i < length third → slice_index third i ≡ 32 → long_command verb first second third ≡ bad_syntax
long_with_space verb first second third i inside is =
    rw (
      number_with_space third i inside is,
      bytes_with_space third i inside is,
      no_length first (number_spelled second),
      no_bytes first (number_spelled second),
      no_mask (number_spelled first) (number_spelled second),
      no_snap_length first (number_spelled second),
      no_value first (attribute_number (number_spelled second)),
    )
    (go (bytes_eq verb (codes "read")) (bytes_eq verb (codes "write")) (bytes_eq verb (codes "crash")) (bytes_eq verb (codes "sread")) (bytes_eq verb (codes "setattr")))
  where
    go : (a b c d e : Bool) → (if a then bad_syntax else if b then bad_syntax else if c then bad_syntax else if d then bad_syntax else if e then bad_syntax else bad_syntax) ≡ bad_syntax
    go true b c d e = refl
    go false true c d e = refl
    go false false true d e = refl
    go false false false true e = refl
    go false false false false true = refl
    go false false false false false = refl

-- what is after the third space, as a whole
pub asked_after : (verb first second rest : List ℕ) → bytes_eq verb (codes "batch") ≡ false → 0 < length first → 0 < length second → 0 < length rest
    → long_command verb first second rest ≡ asked_by (verb ∷ first ∷ second ∷ words_of rest)
asked_after verb first second rest other some some_second some_rest = go (position (λ b. b == 32) rest) refl
  where
    go : (found : Option ℕ) → position (λ b. b == 32) rest ≡ found → long_command verb first second rest ≡ asked_by (verb ∷ first ∷ second ∷ words_of rest)
    go None at = rw (slice_split-none (λ b. b == 32) rest at) (sym (asked_four verb first second rest other some some_second some_rest))
    go (Some i) at =
        let here : (i < length rest) × ((slice_index rest i == 32) ≡ true) × ((k : ℕ) → k < i → (slice_index rest k == 32) ≡ false) = position-Some (λ b. b == 32) rest i 0 at in
        let more = slice_split-cons (λ b. b == 32) (take (length rest - (i + 1)) (drop (i + 1) rest)) in
        long_with_space verb first second rest i here.0 (eqb-true _ _ here.1)
        ∙ sym (rw (slice_split-some (λ b. b == 32) rest i at, more.2) (asked_more verb first second (take i rest) more.0 more.1 other))

-- ---- no word of a line is longer than the line

AllByRecursion-more : (m n : ℕ) (words : List (List ℕ)) → m ≤ n → AllByRecursion (λ word. length word ≤ m) words → AllByRecursion (λ word. length word ≤ n) words
AllByRecursion-more m n [] low fit = tt
AllByRecursion-more m n (word ∷ words) low fit = (omega (arith, low, fit.0), AllByRecursion-more m n words low fit.1)

pub parts_within : (p : ℕ → Bool) (text : List ℕ) → AllByRecursion (λ part. length part ≤ length text) (slice_split p text)
parts_within p [] = (omega arith, tt)
parts_within p (x ∷ xs) = go (p x) refl (slice_split p xs) refl (parts_within p xs)
  where
    go : (b : Bool) → p x ≡ b → (parts : List (List ℕ)) → slice_split p xs ≡ parts → AllByRecursion (λ part. length part ≤ length xs) parts → AllByRecursion (λ part. length part ≤ length (x ∷ xs)) (slice_split p (x ∷ xs))
    go true at parts is fit = rw (at, is) (omega arith, AllByRecursion-more (length xs) (length (x ∷ xs)) parts (omega arith) fit)
    go false at [] is fit = rw (at, is) (omega arith, tt)
    go false at (part ∷ parts) is fit = rw (at, is) (omega (arith, fit.0), AllByRecursion-more (length xs) (length (x ∷ xs)) parts (omega arith) fit.1)

-- ---- rows with their paths decoded

pub decoded-path : (verb : PathVerb) (path : List ℕ) → path_row verb (path_bytes path) ≡ decoded (path_row verb path)
decoded-path verb.Create path = refl
decoded-path verb.Mkdir path = refl
decoded-path verb.Unlink path = refl
decoded-path verb.Rmdir path = refl
decoded-path verb.List path = refl
decoded-path verb.Stat path = refl
decoded-path verb.Links path = refl
decoded-path verb.SnapList path = refl
decoded-path verb.SnapStat path = refl

pub decoded-set_attribute : (path : List ℕ) (number value : Option ℕ) → set_attribute_command (path_bytes path) number value ≡ decoded (set_attribute_command path number value)
decoded-set_attribute path None value = refl
decoded-set_attribute path (Some number) None = refl
decoded-set_attribute path (Some number) (Some value) = refl

decoded_either : (test : Bool) (x y : Command) → x ≡ decoded x → y ≡ decoded y → (if test then x else y) ≡ decoded (if test then x else y)
decoded_either true x y p q = p
decoded_either false x y p q = q

decoded-bare : (verb : List ℕ) → bare_command verb ≡ decoded (bare_command verb)
decoded-bare verb =
    decoded_either (bytes_eq verb (codes "sync")) sync _ refl
    (decoded_either (bytes_eq verb (codes "space")) space _ refl
    (decoded_either (bytes_eq verb (codes "log")) log _ refl
    (decoded_either (bytes_eq verb (codes "upgrade")) (file_call upgrade) _ refl
    (decoded_either (bytes_eq verb (codes "snap")) (file_call snap) _ refl (decoded_either (bytes_eq verb (codes "unsnap")) (file_call unsnap) bad_syntax refl refl)))))

pub decoded-whole : (word : List ℕ) → whole_crash word ≡ decoded (whole_crash word)
decoded-whole word = decoded_either (bytes_eq word (codes "all")) (crash all) _ refl (decoded_either (bytes_eq word (codes "none")) (crash nothing) bad_syntax refl refl)

pub decoded-upgrade : (word : List ℕ) → upgrade_command word ≡ decoded (upgrade_command word)
decoded-upgrade word = decoded_either (bytes_eq word (codes "3")) (file_call upgrade_to_three) bad_syntax refl refl

pub bare_asked : (verb : List ℕ) → bare_command verb ≡ decoded (asked_by (verb ∷ []))
bare_asked verb = decoded-bare verb ∙ ap decoded (sym (asked_one verb))
