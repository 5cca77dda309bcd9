-- The line of a call asks for that call.
use Rattle.std.proofs.Common.{◌≡◌, ℕ, zero, suc, ◌^◌, ◌<◌, ◌≤◌, ◌==◌, ◌&&◌, List, [], ◌∷◌, ◌++◌, length, map, flat_map, Bool, true, false, not, codes, decimal, nat_lt, Some, if◌then◌else◌, refl, sym, ◌∙◌, ap, ap₂, arith, length-append, append_assoc, true≢false}
use Rattle.std.specs.Prelude.{bytes_eq}
use Rattle.std.specs.List.{join_by, list_all, slice_split}
use Rattle.std.specs.Result.{result_ok}
use Rattle.std.specs.Char.{is_ascii_digit}
use Rattle.std.specs.Cmp.{first_so, second_so}
use Rattle.std.specs.Cmp.Lexicographic.{unequal}
use Rattle.std.specs.Str.Parse.{AllDigits}
use Rattle.std.specs.Int.{IsInRange}
use Rattle.std.proofs.lemmas.Str.Parse.{digit_from_value}
use Rattle.std.proofs.lemmas.Bool.Decides.{nat_tests}
use Rattle.std.proofs.lemmas.Bool.{eqb-true, le-ltb, lt-ltb, ltb-true, ne_eqb, le-leb}
use Rattle.std.proofs.lemmas.List.Folds.{list_all-append}
use Rattle.std.proofs.lemmas.List.Sums.{list_all-from_AllPass}
use Rattle.std.proofs.lemmas.Fmt.{decimal_is_IsNumeral, decimal_nonempty, length-decimal-le}
use Rattle.hex.specs.Hex.{encode_lower, is_hex_digit, IsBytes, lower_digits}
use Rattle.hex.proofs.HexLemmas.{decode_of-encode_lower, decode_of-ok, length-encode_with}
use Rattle.percent_encoding.specs.Percent.{percent_encode_byte}
use Rattle.percent_encoding.proofs.PercentLemmas.{percent_decode-nil, percent_decode_not_percent, percent_decode-percent_encode_byte}
use Rattle.bp_limits.specs.Limits.{attributes, max_line, max_read}
use Rattle.bp_plain.specs.Calls.{Call}
use Rattle.bp_plain.specs.Calls.Call.{create, mkdir, unlink, rmdir, list, stat, read, write, truncate, rename, link, links, upgrade, upgrade_to_three, snap, unsnap, snap_list, snap_stat, snap_read, batch, attribute, set_attribute}
use Rattle.bp_script.specs.Commands.{asked_by, bytes_spelled, command_of, decoded, decoded_call, is_empty_word, number_spelled, pair_command, part_bytes, path_bytes, unslashed, word_command, words_of}
use Rattle.bp_script.specs.Commands.Command.{file_call}
use Rattle.bp_plain.specs.Export.{are_bytes}
use Rattle.bp_script.specs.Export.{IsSpelled, IsWord, FitsLine, call_line, path_word}
use Rattle.bp_script.specs.Texts.{digits_or_dash, is_escaped}
use Rattle.bp_script.proofs.EachByte.{all_below, from_all_below}
use Rattle.bp_script.proofs.NumberWords.{number_is}
use Rattle.bp_script.proofs.Rows.{row_three, row_two}
use Rattle.bp_script.proofs.Splitting.{slice_split-cons}

-- ---- the bytes of a word

-- neither the end of a line nor a space
abbrev pub is_inner : ℕ → Bool
is_inner b = not (b == 10) && not (b == 32)

abbrev pub is_whole : List ℕ → Bool
is_whole word = list_all is_inner word

abbrev pub spelled_byte : ℕ → List ℕ
spelled_byte b = if is_escaped b && not (b == 47) then percent_encode_byte b else b ∷ []

-- no `/` either
abbrev is_part : ℕ → Bool
is_part b = is_inner b && not (b == 47)

byte_whole : ℕ → Bool
byte_whole b = is_whole (spelled_byte b)

all_whole : all_below byte_whole 256 ≡ true
unfolding all_below byte_whole percent_encode_byte
all_whole = refl

escape_parts : ℕ → Bool
escape_parts b = list_all is_part (percent_encode_byte b)

all_parts : all_below escape_parts 256 ≡ true
unfolding all_below escape_parts percent_encode_byte
all_parts = refl

pub both_true : (a b : Bool) → a ≡ true → b ≡ true → (a && b) ≡ true
both_true true b one two = two
both_true false b one two = one

pub path_whole : (text : List ℕ) → are_bytes text ≡ true → is_whole (path_word text) ≡ true
unfolding byte_whole
path_whole [] bytes = refl
path_whole (b ∷ text) bytes =
    let here : is_whole (spelled_byte b) ≡ true = from_all_below byte_whole 256 b all_whole (ltb-true b 256 (first_so (nat_lt b 256) (are_bytes text) bytes)) in
    list_all-append is_inner (spelled_byte b) (path_word text)
    ∙ both_true _ _ here (path_whole text (second_so (nat_lt b 256) (are_bytes text) bytes))

-- ---- the word of a path is decoded to the path

parts_of : List ℕ → List (List ℕ)
parts_of word = slice_split (λ b. b == 47) word

not_true : (t : Bool) → not t ≡ true → t ≡ false
not_true true e = absurd (true≢false (sym e))
not_true false e = refl

-- bytes before a word stand before its first part
parts-prefix : (bytes rest first : List ℕ) (more : List (List ℕ)) → list_all (λ b. not (b == 47)) bytes ≡ true → parts_of rest ≡ first ∷ more → parts_of (bytes ++ rest) ≡ (bytes ++ first) ∷ more
unfolding parts_of
parts-prefix [] rest first more inner is = is
parts-prefix (b ∷ bytes) rest first more inner is =
    rw (not_true (b == 47) (first_so (not (b == 47)) _ inner), parts-prefix bytes rest first more (second_so (not (b == 47)) _ inner) is) refl

-- what stands for one byte of a part
one_byte : (bytes rest : List ℕ) (b : ℕ) → list_all (λ c. not (c == 47)) bytes ≡ true → ((first : List ℕ) → part_bytes (bytes ++ first) ≡ b ∷ part_bytes first) → path_bytes (bytes ++ rest) ≡ b ∷ path_bytes rest
unfolding parts_of
one_byte bytes rest b inner stands =
    let cut = slice_split-cons (λ c. c == 47) rest in
    ap (join_by part_bytes (47 ∷ [])) (parts-prefix bytes rest cut.0 cut.1 inner cut.2)
    ∙ ap (λ xs. xs ++ flat_map (λ y. (47 ∷ []) ++ part_bytes y) cut.1) (stands cut.0)
    ∙ ap (λ ps. b ∷ join_by part_bytes (47 ∷ []) ps) (sym cut.2)

slash_byte : (rest : List ℕ) → path_bytes (47 ∷ rest) ≡ 47 ∷ path_bytes rest
slash_byte rest =
    let cut = slice_split-cons (λ c. c == 47) rest in
    let none : part_bytes [] ≡ [] = ap (map unslashed) percent_decode-nil in
    rw cut.2 (ap (λ xs. xs ++ flat_map (λ y. (47 ∷ []) ++ part_bytes y) (cut.0 ∷ cut.1)) none)

inner_parts : (xs : List ℕ) → list_all is_part xs ≡ true → list_all (λ c. not (c == 47)) xs ≡ true
inner_parts [] all = refl
inner_parts (x ∷ xs) all = both_true _ _ (second_so (is_inner x) _ (first_so (is_part x) _ all)) (inner_parts xs (second_so (is_part x) _ all))

escaped_byte : (b : ℕ) (rest : List ℕ) → b < 256 → (b == 47) ≡ false → path_bytes (percent_encode_byte b ++ rest) ≡ b ∷ path_bytes rest
unfolding escape_parts
escaped_byte b rest low other =
    one_byte (percent_encode_byte b) rest b (inner_parts (percent_encode_byte b) (from_all_below escape_parts 256 b all_parts low))
    (λ first. ap (map unslashed) (percent_decode-percent_encode_byte b first low) ∙ rw other refl)

plain_byte : (b : ℕ) (rest : List ℕ) → is_escaped b ≡ false → (b == 47) ≡ false → path_bytes (b ∷ rest) ≡ b ∷ path_bytes rest
plain_byte b rest plain other =
    one_byte (b ∷ []) rest b (rw other refl)
    (λ first. ap (map unslashed) (percent_decode_not_percent b first (λ e. true≢false (sym (ap is_escaped e) ∙ plain))) ∙ rw other refl)

pub path_word-decoded : (text : List ℕ) → are_bytes text ≡ true → path_bytes (path_word text) ≡ text
path_word-decoded [] bytes = ap (λ x. map unslashed x ++ []) percent_decode-nil
path_word-decoded (b ∷ text) bytes = go (b == 47) refl (is_escaped b) refl (path_word-decoded text (second_so (nat_lt b 256) (are_bytes text) bytes))
  where
    low : b < 256
    low = ltb-true b 256 (first_so (nat_lt b 256) (are_bytes text) bytes)

    go : (slash : Bool) → (b == 47) ≡ slash → (escaped : Bool) → is_escaped b ≡ escaped → path_bytes (path_word text) ≡ text → path_bytes (path_word (b ∷ text)) ≡ b ∷ text
    go true at true also rest =
        let e : b ≡ 47 = eqb-true b 47 at in
        rw (also, at) (ap (λ c. path_bytes (c ∷ path_word text)) e ∙ slash_byte (path_word text) ∙ ap₂ (λ x xs. x ∷ xs) (sym e) rest)
    go true at false also rest =
        let e : b ≡ 47 = eqb-true b 47 at in
        rw also (ap (λ c. path_bytes (c ∷ path_word text)) e ∙ slash_byte (path_word text) ∙ ap₂ (λ x xs. x ∷ xs) (sym e) rest)
    go false at true also rest = rw (also, at) (escaped_byte b (path_word text) low at ∙ ap (λ xs. b ∷ xs) rest)
    go false at false also rest = rw also (plain_byte b (path_word text) also at ∙ ap (λ xs. b ∷ xs) rest)

-- ---- the words of a line

words-prefix : (word rest : List ℕ) → is_whole word ≡ true → words_of (word ++ 32 ∷ rest) ≡ word ∷ words_of rest
words-prefix [] rest whole = refl
words-prefix (b ∷ word) rest whole =
    rw (not_true (b == 32) (second_so (not (b == 10)) _ (first_so (is_inner b) _ whole)), words-prefix word rest (second_so (is_inner b) _ whole)) refl

words-last : (word : List ℕ) → is_whole word ≡ true → words_of word ≡ word ∷ []
words-last [] whole = refl
words-last (b ∷ word) whole =
    rw (not_true (b == 32) (second_so (not (b == 10)) _ (first_so (is_inner b) _ whole)), words-last word (second_so (is_inner b) _ whole)) refl

filled : (word : List ℕ) → 1 ≤ length word → is_empty_word word ≡ false
filled word some = ne_eqb (length word) 0 (λ none. absurd (omega (arith, some, none)))

pub path_some : (text : List ℕ) → 1 ≤ length text → 1 ≤ length (path_word text)
unfolding percent_encode_byte
path_some [] some = some
path_some (b ∷ text) some = omega (arith, length-append (spelled_byte b) (path_word text), one b)
  where
    by : (t : Bool) (b : ℕ) → 1 ≤ length (if t then percent_encode_byte b else b ∷ [])
    by true b = omega arith
    by false b = omega arith

    one : (b : ℕ) → 1 ≤ length (spelled_byte b)
    one b = by (is_escaped b && not (b == 47)) b

-- ---- numbers and bytes

digits_whole : (ds : List ℕ) → AllDigits 10 ds → (list_all is_ascii_digit ds ≡ true) × (is_whole ds ≡ true)
digits_whole [] all = (refl, refl)
digits_whole (d ∷ ds) all =
    let rest = digits_whole ds all.1 in
    let in_range : IsInRange 48 57 d = digit_from_value d all.0 in
    (both_true (is_ascii_digit d) _ (grind (arith, nat_tests, in_range)) rest.0, both_true (is_inner d) _ (both_true _ _ (not_it d 10 (omega (arith, in_range))) (not_it d 32 (omega (arith, in_range)))) rest.1)
  where
    not_it : (x y : ℕ) → (y < x) → not (x == y) ≡ true
    not_it x y low = ap not (ne_eqb x y (λ e. absurd (omega (arith, low, e))))

pub decimal_whole : (n : ℕ) → n < 2 ^ 64 → is_whole (decimal n) ≡ true
decimal_whole n low = (digits_whole (decimal n) (decimal_is_IsNumeral n low).0.1).1

decimal_spells : (n : ℕ) → n < 2 ^ 64 → number_spelled (decimal n) ≡ Some n
decimal_spells n low =
    let is = decimal_is_IsNumeral n low in
    number_is (decimal n) (decimal_nonempty n low) (length-decimal-le 20 n (omega arith) (omega (arith, low)) low) (digits_whole (decimal n) is.0.1).0 (omega (arith, low, is.1)) ∙ ap Some is.1

bytes_at : (xs : List ℕ) → are_bytes xs ≡ true → IsBytes xs
bytes_at [] all i = omega arith
bytes_at (x ∷ xs) all zero = ltb-true x 256 (first_so (nat_lt x 256) (are_bytes xs) all)
bytes_at (x ∷ xs) all (suc i) = bytes_at xs (second_so (nat_lt x 256) (are_bytes xs) all) i

hex_inner : (x : ℕ) → is_hex_digit x ≡ true → is_inner x ≡ true
hex_inner x is = both_true _ _ (ap not (ne_eqb x 10 (λ e. true≢false (sym is ∙ ap is_hex_digit e)))) (ap not (ne_eqb x 32 (λ e. true≢false (sym is ∙ ap is_hex_digit e))))

pub all_from : (p q : ℕ → Bool) → ((x : ℕ) → p x ≡ true → q x ≡ true) → (xs : List ℕ) → list_all p xs ≡ true → list_all q xs ≡ true
all_from p q more [] all = refl
all_from p q more (x ∷ xs) all = both_true _ _ (more x (first_so (p x) (list_all p xs) all)) (all_from p q more xs (second_so (p x) (list_all p xs) all))

hex_whole : (new : List ℕ) → are_bytes new ≡ true → is_whole (encode_lower new) ≡ true
hex_whole new bytes =
    let read = decode_of-encode_lower new (bytes_at new bytes) in
    all_from is_hex_digit is_inner hex_inner (encode_lower new) (list_all-from_AllPass is_hex_digit (encode_lower new) (decode_of-ok (encode_lower new) new read).1)

hex_spells : (new : List ℕ) → 1 ≤ length new → are_bytes new ≡ true → bytes_spelled (encode_lower new) ≡ Some new
hex_spells new some bytes =
    let long : bytes_eq (encode_lower new) (codes "-") ≡ false = unequal (λ a b. a == b) (encode_lower new) (codes "-") (λ e. absurd (omega (arith, e, some, length-encode_with lower_digits new))) in
    rw long (ap result_ok (decode_of-encode_lower new (bytes_at new bytes)))

-- the word of bytes
pub dash_whole : (new : List ℕ) → are_bytes new ≡ true → is_whole (digits_or_dash new) ≡ true
dash_whole [] bytes = refl
dash_whole (b ∷ new) bytes = hex_whole (b ∷ new) bytes

dash_some : (new : List ℕ) → 1 ≤ length (digits_or_dash new)
dash_some [] = omega arith
dash_some (b ∷ new) = omega (arith, length-encode_with lower_digits (b ∷ new))

dash_spells : (new : List ℕ) → are_bytes new ≡ true → bytes_spelled (digits_or_dash new) ≡ Some new
dash_spells [] bytes = refl
dash_spells (b ∷ new) bytes = hex_spells (b ∷ new) (omega arith) bytes

-- ---- the lines

asks : (call : Call) (words : List (List ℕ)) (other : Call) → FitsLine call → words_of (call_line call) ≡ words → asked_by words ≡ file_call other
    → decoded (file_call other) ≡ file_call call → command_of (call_line call) ≡ file_call call
asks call words other fits cut row is =
    rw (le-ltb max_line (length (call_line call)) fits) (ap (λ ws. decoded (asked_by ws)) cut ∙ ap decoded row ∙ is)

-- a word that stands for a text
record Stands (text word : List ℕ) : Type 0 where
  whole : is_whole word ≡ true
  some : is_empty_word word ≡ false
  is : path_bytes word ≡ text

stands : (text : List ℕ) → IsWord text → Stands text (path_word text)
stands text word = record {
  whole = path_whole text word.bytes;
  some = filled (path_word text) (path_some text word.some);
  is = path_word-decoded text word.bytes;
}

abbrev IsRead : Call → Type 0
IsRead call = FitsLine call → command_of (call_line call) ≡ file_call call

module _ (text : List ℕ) (word : IsWord text) where
  abbrev w : List ℕ
  w = path_word text

  abbrev has : Stands text w
  has = stands text word

  -- a verb and a path
  path_asks : (verb : List ℕ) (call : List ℕ → Call) → is_whole verb ≡ true → is_empty_word verb ≡ false
      → ((path : List ℕ) → word_command verb path ≡ file_call (call path))
      → ((path : List ℕ) → decoded_call (call path) ≡ call (path_bytes path)) → call_line (call text) ≡ verb ++ 32 ∷ w → IsRead (call text)
  path_asks verb call whole some row spelled line fits =
      asks (call text) (verb ∷ w ∷ []) (call w) fits
      (ap words_of line ∙ words-prefix verb w whole ∙ ap (λ ws. verb ∷ ws) (words-last w has.whole))
      (rw (some, has.some) (row_two verb w ∙ row w))
      (ap file_call (spelled w ∙ ap call has.is))

  truncate_asks : (size : ℕ) → size < 2 ^ 64 → IsRead (truncate text size)
  truncate_asks size low fits =
      asks (truncate text size) (codes "truncate" ∷ w ∷ decimal size ∷ []) (truncate w size) fits
      (ap words_of line ∙ ap (λ ws. codes "truncate" ∷ ws) (words-prefix w (decimal size) has.whole ∙ ap (λ ws. w ∷ ws) (words-last (decimal size) (decimal_whole size low))))
      (rw (has.some, filled (decimal size) (decimal_nonempty size low), decimal_spells size low) refl)
      (ap (λ p. file_call (truncate p size)) has.is)
    where
      line : call_line (truncate text size) ≡ codes "truncate " ++ (w ++ 32 ∷ decimal size)
      line = simp append_assoc

  attribute_asks : (number : ℕ) → number < attributes → IsRead (attribute text number)
  attribute_asks number few fits =
      asks (attribute text number) (codes "attr" ∷ w ∷ decimal number ∷ []) (attribute w number) fits
      (ap words_of line ∙ ap (λ ws. codes "attr" ∷ ws) (words-prefix w (decimal number) has.whole ∙ ap (λ ws. w ∷ ws) (words-last (decimal number) (decimal_whole number small))))
      (rw (has.some, filled (decimal number) (decimal_nonempty number small), decimal_spells number small, lt-ltb number attributes few) refl)
      (ap (λ p. file_call (attribute p number)) has.is)
    where
      small : number < 2 ^ 64
      small = omega (arith, few)

      line : call_line (attribute text number) ≡ codes "attr " ++ (w ++ 32 ∷ decimal number)
      line = simp append_assoc

  -- a verb, a path and two words
  three_words : (first second : List ℕ) → is_whole first ≡ true → is_whole second ≡ true
      → words_of (w ++ 32 ∷ (first ++ 32 ∷ second)) ≡ w ∷ first ∷ second ∷ []
  three_words first second one two =
      words-prefix w (first ++ 32 ∷ second) has.whole
      ∙ ap (λ ws. w ∷ ws) (words-prefix first second one ∙ ap (λ ws. first ∷ ws) (words-last second two))

  read_asks : (offset len : ℕ) → offset < 2 ^ 64 → len ≤ max_read → IsRead (read text offset len)
  read_asks offset len low few fits =
      asks (read text offset len) (codes "read" ∷ w ∷ decimal offset ∷ decimal len ∷ []) (read w offset len) fits
      (ap words_of line ∙ ap (λ ws. codes "read" ∷ ws) (three_words (decimal offset) (decimal len) (decimal_whole offset low) (decimal_whole len small)))
      (rw (has.some, filled (decimal offset) (decimal_nonempty offset low), filled (decimal len) (decimal_nonempty len small), decimal_spells offset low, decimal_spells len small, le-leb len max_read few) refl)
      (ap (λ p. file_call (read p offset len)) has.is)
    where
      small : len < 2 ^ 64
      small = omega (arith, few)

      line : call_line (read text offset len) ≡ codes "read " ++ (w ++ 32 ∷ (decimal offset ++ 32 ∷ decimal len))
      line = simp append_assoc

  snap_read_asks : (offset len : ℕ) → offset < 2 ^ 64 → len ≤ max_read → IsRead (snap_read text offset len)
  snap_read_asks offset len low few fits =
      asks (snap_read text offset len) (codes "sread" ∷ w ∷ decimal offset ∷ decimal len ∷ []) (snap_read w offset len) fits
      (ap words_of line ∙ ap (λ ws. codes "sread" ∷ ws) (three_words (decimal offset) (decimal len) (decimal_whole offset low) (decimal_whole len small)))
      (rw (has.some, filled (decimal offset) (decimal_nonempty offset low), filled (decimal len) (decimal_nonempty len small), decimal_spells offset low, decimal_spells len small, le-leb len max_read few) refl)
      (ap (λ p. file_call (snap_read p offset len)) has.is)
    where
      small : len < 2 ^ 64
      small = omega (arith, few)

      line : call_line (snap_read text offset len) ≡ codes "sread " ++ (w ++ 32 ∷ (decimal offset ++ 32 ∷ decimal len))
      line = simp append_assoc

  set_attribute_asks : (number value : ℕ) → number < attributes → value < 2 ^ 64 → IsRead (set_attribute text number value)
  set_attribute_asks number value few low fits =
      asks (set_attribute text number value) (codes "setattr" ∷ w ∷ decimal number ∷ decimal value ∷ []) (set_attribute w number value) fits
      (ap words_of line ∙ ap (λ ws. codes "setattr" ∷ ws) (three_words (decimal number) (decimal value) (decimal_whole number small) (decimal_whole value low)))
      (rw (has.some, filled (decimal number) (decimal_nonempty number small), filled (decimal value) (decimal_nonempty value low), decimal_spells number small, decimal_spells value low, lt-ltb number attributes few) refl)
      (ap (λ p. file_call (set_attribute p number value)) has.is)
    where
      small : number < 2 ^ 64
      small = omega (arith, few)

      line : call_line (set_attribute text number value) ≡ codes "setattr " ++ (w ++ 32 ∷ (decimal number ++ 32 ∷ decimal value))
      line = simp append_assoc

  write_asks : (offset : ℕ) (new : List ℕ) → offset < 2 ^ 64 → are_bytes new ≡ true → IsRead (write text offset new)
  write_asks offset new low bytes fits =
      asks (write text offset new) (codes "write" ∷ w ∷ decimal offset ∷ digits_or_dash new ∷ []) (write w offset new) fits
      (ap words_of line ∙ ap (λ ws. codes "write" ∷ ws) (three_words (decimal offset) (digits_or_dash new) (decimal_whole offset low) (dash_whole new bytes)))
      (rw (has.some, filled (decimal offset) (decimal_nonempty offset low), filled (digits_or_dash new) (dash_some new), decimal_spells offset low, dash_spells new bytes) refl)
      (ap (λ p. file_call (write p offset new)) has.is)
    where
      line : call_line (write text offset new) ≡ codes "write " ++ (w ++ 32 ∷ (decimal offset ++ 32 ∷ digits_or_dash new))
      line = simp append_assoc

-- a verb and two paths
pair_asks : (from to : List ℕ) → IsWord from → IsWord to → (verb : List ℕ) (call : List ℕ → List ℕ → Call) → is_whole verb ≡ true → is_empty_word verb ≡ false
    → ((first second : List ℕ) → pair_command verb first second ≡ file_call (call first second))
    → ((first second : List ℕ) → decoded_call (call first second) ≡ call (path_bytes first) (path_bytes second))
    → call_line (call from to) ≡ verb ++ 32 ∷ (path_word from ++ 32 ∷ path_word to) → IsRead (call from to)
pair_asks from to from_word to_word verb call whole some row spelled line fits =
    let one = stands from from_word in
    let two = stands to to_word in
    asks (call from to) (verb ∷ path_word from ∷ path_word to ∷ []) (call (path_word from) (path_word to)) fits
    (ap words_of line ∙ words-prefix verb (path_word from ++ 32 ∷ path_word to) whole
    ∙ ap (λ ws. verb ∷ ws) (words-prefix (path_word from) (path_word to) one.whole ∙ ap (λ ws. path_word from ∷ ws) (words-last (path_word to) two.whole)))
    (rw (some, one.some, two.some) (row_three verb (path_word from) (path_word to) ∙ row (path_word from) (path_word to)))
    (ap file_call (spelled (path_word from) (path_word to) ∙ ap₂ call one.is two.is))

pub call_asks : (call : Call) → IsSpelled call → FitsLine call → command_of (call_line call) ≡ file_call call
call_asks (create text) is = path_asks text is (codes "create") create refl refl (λ p. refl) (λ p. refl) refl
call_asks (mkdir text) is = path_asks text is (codes "mkdir") mkdir refl refl (λ p. refl) (λ p. refl) refl
call_asks (unlink text) is = path_asks text is (codes "unlink") unlink refl refl (λ p. refl) (λ p. refl) refl
call_asks (rmdir text) is = path_asks text is (codes "rmdir") rmdir refl refl (λ p. refl) (λ p. refl) refl
call_asks (list text) is = path_asks text is (codes "list") list refl refl (λ p. refl) (λ p. refl) refl
call_asks (stat text) is = path_asks text is (codes "stat") stat refl refl (λ p. refl) (λ p. refl) refl
call_asks (links text) is = path_asks text is (codes "links") links refl refl (λ p. refl) (λ p. refl) refl
call_asks (read text offset len) is = read_asks text is.0 offset len is.1 is.2
call_asks (write text offset new) is = write_asks text is.0 offset new is.1 is.2
call_asks (truncate text size) is = truncate_asks text is.0 size is.1
call_asks (rename from to) is = pair_asks from to is.0 is.1 (codes "rename") rename refl refl (λ p q. refl) (λ p q. refl) (simp append_assoc)
call_asks (link from to) is = pair_asks from to is.0 is.1 (codes "link") link refl refl (λ p q. refl) (λ p q. refl) (simp append_assoc)
call_asks upgrade is = λ fits. refl
call_asks upgrade_to_three is = λ fits. refl
call_asks snap is = λ fits. refl
call_asks unsnap is = λ fits. refl
call_asks (snap_list text) is = path_asks text is (codes "slist") snap_list refl refl (λ p. refl) (λ p. refl) refl
call_asks (snap_stat text) is = path_asks text is (codes "sstat") snap_stat refl refl (λ p. refl) (λ p. refl) refl
call_asks (snap_read text offset len) is = snap_read_asks text is.0 offset len is.1 is.2
call_asks (attribute text number) is = attribute_asks text is.0 number is.1
call_asks (set_attribute text number value) is = set_attribute_asks text is.0 number value is.1 is.2
call_asks (batch pieces) is = absurd is
