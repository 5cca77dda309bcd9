-- The pieces of a batch and the words that spell them.
use Rattle.std.proofs.Common.{◌≡◌, ℕ, ◌+◌, ◌-◌, ◌≤◌, ◌&&◌, ◌||◌, List, [], ◌∷◌, ◌++◌, length, map, take, drop, codes, nat_le, Bool, true, false, Option, None, Some, option_to_list, if◌then◌else◌, refl, sym, ◌∙◌, ap, ap₂, arith, append_assoc, Bor}
use Rattle.std.specs.List.{All, list_any}
use Rattle.std.specs.Option.{option_map_or}
use Rattle.std.proofs.lemmas.Bool.{le-leb, leb-true, ne_eqb}
use Rattle.std.proofs.lemmas.List.{append-nil, drop-take, drop_at, length-append, length-map, length-take, length-take-le, map-append, take-take, take_at}
use Rattle.std.proofs.lemmas.List.Elements.{All-append, All-cons, All-head, All-tail}
use Rattle.bp_limits.specs.Limits.{max_pieces}
use Rattle.bp_plain.specs.Calls.{Piece}
use Rattle.bp_plain.specs.Calls.Call.{batch}
use Rattle.bp_plain.specs.Seen.{LiesIn, piece_in, spanned}
use Rattle.bp_plain.specs.declared.calls.Piece.{Piece as GivenPiece}
use Rattle.bp_plain.specs.declared.calls.Span.{Span}
use Rattle.bp_script.specs.Commands.{Command, and_pieces, asked_by, batch_of, bytes_spelled, decoded, decoded_piece, is_empty_word, number_spelled, path_bytes, piece_spelled, piece_words}
use Rattle.bp_script.specs.Commands.Command.{bad_syntax, file_call}
use Rattle.bp_script.specs.Lines.{len_after, piece_decoded, bytes_in_word}

-- ---- parts of a text that keeps its prefix

pub prefix_kept : (at end : ℕ) (text longer : List ℕ) → at ≤ end → take end longer ≡ take end text → take at longer ≡ take at text
prefix_kept at end text longer before same = sym (take-take at end longer before) ∙ ap (take at) same ∙ take-take at end text before

pub part_kept : (end : ℕ) (text longer : List ℕ) (part : Span) → take end longer ≡ take end text → part.at + part.len ≤ end → spanned longer part ≡ spanned text part
part_kept end text longer part same inside =
    let n : (part.at + part.len) - part.at ≡ part.len = omega arith in
    rw (n) (
    sym (drop-take part.at part.len longer)
    ∙ ap (drop part.at) (prefix_kept (part.at + part.len) end text longer inside same)
    ∙ drop-take part.at part.len text
    )

pub piece_kept : (end : ℕ) (text longer : List ℕ) (piece : GivenPiece) → take end longer ≡ take end text → LiesIn (take end text) piece → piece_in longer piece ≡ piece_in text piece
piece_kept end text longer piece same lies =
    let n = length-take end text in
    ap₂ (λ (path bytes : List ℕ). record { path = path; offset = piece.offset; bytes = bytes })
    (part_kept end text longer piece.path same (omega (arith, n, lies.path)))
    (part_kept end text longer piece.bytes same (omega (arith, n, lies.bytes)))

pub pieces_kept : (end : ℕ) (text longer : List ℕ) (pieces : List GivenPiece) → take end longer ≡ take end text → All (LiesIn (take end text)) pieces → map (piece_in longer) pieces ≡ map (piece_in text) pieces
pieces_kept end text longer [] same lie = refl
pieces_kept end text longer (piece ∷ pieces) same lie =
    ap₂ (λ (one : Piece) (more : List Piece). one ∷ more) (piece_kept end text longer piece same (All-head (LiesIn (take end text)) piece pieces lie)) (pieces_kept end text longer pieces same (All-tail (LiesIn (take end text)) piece pieces lie))

-- the pieces of a text that gets one more
pub one_more : (end : ℕ) (text longer : List ℕ) (pieces : List GivenPiece) (piece : GivenPiece) → take end longer ≡ take end text → All (LiesIn (take end text)) pieces
    → map (piece_in longer) (pieces ++ piece ∷ []) ≡ map (piece_in text) pieces ++ piece_in longer piece ∷ []
one_more end text longer pieces piece same lie = map-append (piece_in longer) pieces (piece ∷ []) ∙ ap (λ ps. ps ++ piece_in longer piece ∷ []) (pieces_kept end text longer pieces same lie)

pub lie_on : (text longer : List ℕ) (pieces : List GivenPiece) → length text ≤ length longer → All (LiesIn text) pieces → All (LiesIn longer) pieces
lie_on text longer pieces fits lie =
    λ i piece at. let here = lie i piece at in record { path = omega (arith, here.path, fits); bytes = omega (arith, here.bytes, fits) }

pub lie_in_all : (end : ℕ) (text : List ℕ) (pieces : List GivenPiece) → All (LiesIn (take end text)) pieces → All (LiesIn text) pieces
lie_in_all end text pieces lie = lie_on (take end text) text pieces (omega (arith, length-take end text)) lie

-- one more, after them
pub one_more_lies : (end following : ℕ) (text longer : List ℕ) (pieces : List GivenPiece) (piece : GivenPiece) → All (LiesIn (take end text)) pieces → end ≤ following → following ≤ length longer
    → piece.path.at + piece.path.len ≤ following → piece.bytes.at + piece.bytes.len ≤ following → All (LiesIn (take following longer)) (pieces ++ piece ∷ [])
one_more_lies end following text longer pieces piece lie later inside path bytes =
    let n : length (take following longer) ≡ following = length-take-le following longer inside in
    All-append (LiesIn (take following longer)) pieces (piece ∷ [])
    (lie_on (take end text) (take following longer) pieces (omega (arith, n, length-take end text, later)) lie)
    (All-cons (LiesIn (take following longer)) piece [] (record { path = omega (arith, n, path); bytes = omega (arith, n, bytes) }) (λ k d low. absurd (omega (arith, low))))

-- ---- a part that is written after the prefix of a text

pub part_written : (prefix part_bytes longer : List ℕ) (end : ℕ) (part : Span) → take end longer ≡ prefix ++ part_bytes → length prefix ≡ part.at → part.at + part.len ≡ end → spanned longer part ≡ part_bytes
part_written prefix part_bytes longer end part is len ends =
    let n : (part.at + part.len) - part.at ≡ part.len = omega arith in
    rw (n) (
    sym (drop-take part.at part.len longer)
    ∙ ap (λ n. drop part.at (take n longer)) ends
    ∙ ap (drop part.at) is
    ∙ drop_at prefix part_bytes part.at len
    )

pub prefix_stays : (at end : ℕ) (text part_bytes longer : List ℕ) → at ≤ length text → at ≤ end → take end longer ≡ take at text ++ part_bytes → take at longer ≡ take at text
prefix_stays at end text part_bytes longer within later is =
    sym (take-take at end longer later) ∙ ap (take at) is ∙ take_at (take at text) part_bytes at (length-take-le at text within)

-- ---- the piece of three words

pub piece_is : (path offset bytes : List ℕ) (n : ℕ) (new : List ℕ) → is_empty_word path ≡ false → number_spelled offset ≡ Some n → bytes_in_word bytes ≡ Some new
    → piece_decoded path offset bytes ≡ Some (record { path = path_bytes path; offset = n; bytes = new })
piece_is path offset bytes n new some_path number spelled = go (is_empty_word bytes) refl
  where
    go : (none : Bool) → is_empty_word bytes ≡ none → piece_decoded path offset bytes ≡ Some (record { path = path_bytes path; offset = n; bytes = new })
    go true at = let no_bytes : ◌≡◌ {A = Option (List ℕ)} None (Some new) = rw at at spelled in absurd (cc)
    go false at = let found : bytes_spelled bytes ≡ Some new = rw at at spelled in rw (some_path, at, number, found) refl

-- ---- what pieces that are decoded ask for, with those of more words

pub rest_of : List Piece → Option (List Piece) → Command
rest_of done (Some pieces) = batch_of (Some (done ++ map decoded_piece pieces))
rest_of done None = bad_syntax

pub asks_on : List Piece → List (List ℕ) → Command
asks_on done words = if list_any is_empty_word words then bad_syntax else rest_of done (piece_words words)

whole_rest : (found : Option (List Piece)) → decoded (batch_of found) ≡ rest_of [] found
unfolding rest_of
whole_rest None = refl
whole_rest (Some pieces) = rw (length-map pieces decoded_piece) (go (nat_le 1 (length pieces) && nat_le (length pieces) max_pieces))
  where
    go : (t : Bool) → decoded (if t then file_call (batch pieces) else bad_syntax) ≡ (if t then file_call (batch (map decoded_piece pieces)) else bad_syntax)
    go true = refl
    go false = refl

pub batch_asks : (words : List (List ℕ)) → decoded (asked_by (codes "batch" ∷ words)) ≡ asks_on [] words
unfolding asks_on
batch_asks words = go (list_any is_empty_word words)
  where
    go : (t : Bool) → decoded (if t then bad_syntax else batch_of (piece_words words)) ≡ (if t then bad_syntax else rest_of [] (piece_words words))
    go true = refl
    go false = whole_rest (piece_words words)

either_bad : (t : Bool) (command : Command) → command ≡ bad_syntax → (if t then bad_syntax else command) ≡ bad_syntax
either_bad true command is = refl
either_bad false command is = is

either_true : (t : Bool) → (t || true) ≡ true
either_true true = refl
either_true false = refl

rest_more : (done : List Piece) (piece : Piece) (found : Option (List Piece)) → rest_of done (and_pieces (Some piece) found) ≡ rest_of (done ++ decoded_piece piece ∷ []) found
unfolding rest_of
rest_more done piece None = refl
rest_more done piece (Some pieces) = ap (λ all. batch_of (Some all)) (sym (append_assoc done (decoded_piece piece ∷ []) (map decoded_piece pieces)))

some_digits : (offset : List ℕ) (n : ℕ) → number_spelled offset ≡ Some n → is_empty_word offset ≡ false
some_digits [] n is = absurd (cc)
some_digits (d ∷ offset) n is = ne_eqb (length (d ∷ offset)) 0 (λ none. absurd (omega (arith, none)))

-- three words of a piece
pub on_piece : (done : List Piece) (path offset bytes : List ℕ) (words : List (List ℕ)) (piece : Piece) → piece_decoded path offset bytes ≡ Some piece
    → asks_on done (path ∷ offset ∷ bytes ∷ words) ≡ asks_on (done ++ piece ∷ []) words
unfolding asks_on
on_piece done path offset bytes words piece is = go (is_empty_word path) (is_empty_word bytes) (number_spelled offset) (bytes_spelled bytes) refl refl refl refl
  where
    go : (no_path no_bytes : Bool) (number : Option ℕ) (new : Option (List ℕ)) → is_empty_word path ≡ no_path → is_empty_word bytes ≡ no_bytes → number_spelled offset ≡ number → bytes_spelled bytes ≡ new
        → asks_on done (path ∷ offset ∷ bytes ∷ words) ≡ asks_on (done ++ piece ∷ []) words
    go true no_bytes number new at_path at_bytes at_off at_new = let none : ◌≡◌ {A = Option Piece} None (Some piece) = rw at_path at is in absurd (cc)
    go false true number new at_path at_bytes at_off at_new = let none : ◌≡◌ {A = Option Piece} None (Some piece) = rw (at_path, at_bytes) at is in absurd (cc)
    go false false None new at_path at_bytes at_off at_new = let none : ◌≡◌ {A = Option Piece} None (Some piece) = rw (at_path, at_bytes, at_off) at is in absurd (cc)
    go false false (Some n) None at_path at_bytes at_off at_new = let none : ◌≡◌ {A = Option Piece} None (Some piece) = rw (at_path, at_bytes, at_off, at_new) at is in absurd (cc)
    go false false (Some n) (Some new) at_path at_bytes at_off at_new =
        let same : Some (decoded_piece (record { path = path; offset = n; bytes = new })) ≡ Some piece = rw (at_path, at_bytes, at_off, at_new) at is in
        rw (at_path, at_bytes, some_digits offset n at_off, at_off, at_new)
        (ap (λ command. if list_any is_empty_word words then bad_syntax else command)
        (rest_more done (record { path = path; offset = n; bytes = new }) (piece_words words) ∙ ap (λ (all : Option Piece). rest_of (done ++ option_to_list all) (piece_words words)) same))

-- and of none
pub no_piece : (done : List Piece) (path offset bytes : List ℕ) (words : List (List ℕ)) → piece_decoded path offset bytes ≡ None → asks_on done (path ∷ offset ∷ bytes ∷ words) ≡ bad_syntax
unfolding asks_on rest_of
no_piece done path offset bytes words is = go (is_empty_word path) (is_empty_word bytes) (piece_spelled path (number_spelled offset) (bytes_spelled bytes)) refl refl refl
  where
    go : (no_path no_bytes : Bool) (spelled : Option Piece) → is_empty_word path ≡ no_path → is_empty_word bytes ≡ no_bytes → piece_spelled path (number_spelled offset) (bytes_spelled bytes) ≡ spelled
        → asks_on done (path ∷ offset ∷ bytes ∷ words) ≡ bad_syntax
    go true no_bytes spelled at_path at_bytes at = rw at_path refl
    go false true spelled at_path at_bytes at = rw (at_path, at_bytes, either_true (is_empty_word offset)) refl
    go false false None at_path at_bytes at = rw at (either_bad (list_any is_empty_word (path ∷ offset ∷ bytes ∷ words)) bad_syntax refl)
    go false false (Some piece) at_path at_bytes at = let some : ◌≡◌ {A = Option Piece} (Some (decoded_piece piece)) None = rw (at_path, at_bytes, at) at is in absurd (cc)

-- no more words
pub on_none : (done : List Piece) → 1 ≤ length done → length done ≤ max_pieces → asks_on done [] ≡ file_call (batch done)
unfolding asks_on rest_of
on_none done some few = rw (append-nil done, le-leb 1 (length done) some, le-leb (length done) max_pieces few) refl

-- so few words that they are none of a piece
pub on_few : (done : List Piece) (words : List (List ℕ)) → 1 ≤ length words → length words ≤ 2 → asks_on done words ≡ bad_syntax
unfolding asks_on rest_of
on_few done [] some few = absurd (omega (arith, some))
on_few done (a ∷ []) some few = either_bad (list_any is_empty_word (a ∷ [])) bad_syntax refl
on_few done (a ∷ b ∷ []) some few = either_bad (list_any is_empty_word (a ∷ b ∷ [])) bad_syntax refl
on_few done (a ∷ b ∷ c ∷ words) some few = absurd (omega (arith, few))

too_many : (done : List Piece) (piece : Piece) (pieces : List Piece) → length done ≡ max_pieces → batch_of (Some (done ++ piece ∷ pieces)) ≡ bad_syntax
too_many done piece pieces full = go (nat_le 1 (length (done ++ piece ∷ pieces))) (nat_le (length (done ++ piece ∷ pieces)) max_pieces) refl
  where
    go : (some few : Bool) → nat_le (length (done ++ piece ∷ pieces)) max_pieces ≡ few → (if some && few then file_call (batch (done ++ piece ∷ pieces)) else bad_syntax) ≡ bad_syntax
    go some true at = absurd (omega (arith, leb-true (length (done ++ piece ∷ pieces)) max_pieces at, length-append done (piece ∷ pieces), full))
    go true false at = refl
    go false false at = refl

-- three words more than a batch may have
pub on_full : (done : List Piece) (path offset bytes : List ℕ) (words : List (List ℕ)) → length done ≡ max_pieces → asks_on done (path ∷ offset ∷ bytes ∷ words) ≡ bad_syntax
unfolding asks_on rest_of
on_full done path offset bytes words full =
    either_bad (list_any is_empty_word (path ∷ offset ∷ bytes ∷ words)) _ (go (piece_spelled path (number_spelled offset) (bytes_spelled bytes)) (piece_words words))
  where
    go : (one : Option Piece) (more : Option (List Piece)) → rest_of done (and_pieces one more) ≡ bad_syntax
    go None more = refl
    go (Some piece) None = refl
    go (Some piece) (Some pieces) = too_many done (decoded_piece piece) (map decoded_piece pieces) full

-- a text is shorter than what a separator and it are
pub len_after_less : (text : Option (Bor (List ℕ))) → len_after text ≤ option_map_or (λ rest. length rest.now + 1) text 0
len_after_less None = omega arith
len_after_less (Some text) = omega arith

-- so what all words ask for is what those that are left do
pub asked_so : (words : List (List ℕ)) (done : List Piece) (left : List (List ℕ)) (command : Command) → asks_on done left ≡ asks_on [] words → asks_on done left ≡ command
    → command ≡ decoded (asked_by (codes "batch" ∷ words))
asked_so words done left command so is = sym is ∙ so ∙ sym (batch_asks words)
