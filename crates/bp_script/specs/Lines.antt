-- The command of a line that was decoded.
use Rattle.std.specs.Prelude.{ℕ, ◌≤◌, ◌+◌, ◌||◌, if◌then◌else◌, List, [], ◌∷◌, get_or, length, map, min, Option, None, Some, option_map, Result, Ok, Err}
use Rattle.std.specs.Borrow.{Bor, Fml, MutBor}
use Rattle.std.specs.List.{All}
use Rattle.std.specs.Option.{option_map_or}
use Rattle.std.specs.Io.BufRead.{Rests}
use Rattle.std.specs.Vec.{vec_capacity}
use Rattle.bp_plain.specs.Calls.Call.{batch, create, mkdir, unlink, rmdir, list, stat, rename, link, links, snap_list, snap_stat}
use Rattle.bp_plain.specs.Calls.{Call, Piece}
use Rattle.bp_plain.specs.Seen.{CanAsk, LiesIn, call_of, piece_in}
use Rattle.bp_plain.specs.declared.calls.Call.TheVariants as given
use Rattle.bp_plain.specs.declared.calls.Piece.{Piece as GivenPiece}
use Rattle.bp_replay.specs.Wanted.{wanted_by}
use Rattle.bp_script.specs.declared.batches.PieceWords.{PieceWords}
use Rattle.bp_script.specs.declared.decoded.Decoded.{Decoded}
use Rattle.bp_script.specs.declared.lines.Line.{Line}
use Rattle.bp_script.specs.declared.lines.Line.TheVariants as asks
use Rattle.bp_script.specs.declared.verbs.PairVerb.{PairVerb}
use Rattle.bp_script.specs.declared.verbs.PairVerb.TheVariants as pair
use Rattle.bp_script.specs.declared.verbs.PathVerb.{PathVerb}
use Rattle.bp_script.specs.declared.verbs.PathVerb.TheVariants as verb
use Rattle.bp_script.specs.declared.lines.Syntax.{Syntax}
use Rattle.bp_script.specs.declared.decoded.TheConstants.{MOST_ROOM}
use Rattle.bp_script.specs.declared.verbs.WordVerb.{WordVerb}
use Rattle.bp_script.specs.declared.verbs.WordVerb.TheVariants as on
use Rattle.bp_script.specs.contracts.decoded.Decoded.{the_row}
use Rattle.bp_script.specs.Commands.{Command, attribute_command, attribute_number, bytes_spelled, cache_command, decoded_piece, is_empty_word, number_spelled, piece_spelled, storm_command, truncate_command, upgrade_command, whole_crash, words_of}
use Rattle.bp_script.specs.Commands.Command.{file_call, sync, space, crash, storm, cache, log, bad_syntax}

-- The greatest number of bytes of a line, so that an offset in it has 32 bits.
abbrev pub most_room : ℕ
most_room = MOST_ROOM

-- The length in bytes of the longest line that can be decoded.
abbrev pub decoded_room : Decoded → ℕ
decoded_room decoded = min (min (vec_capacity decoded.first) (vec_capacity decoded.second)) most_room

-- The decoded memory has at least as much room when the borrow of its contents ends.
abbrev pub KeepsRoom : MutBor Decoded → Fml
KeepsRoom decoded = Rests the_row decoded (λ after. decoded_room decoded.now ≤ decoded_room after)

-- The contents of the two memories.
abbrev pub first_held : Decoded → List ℕ
first_held decoded = decoded.first.items

abbrev pub second_held : Decoded → List ℕ
second_held decoded = decoded.second.items

-- The decoded pieces. Their paths and bytes are parts of the first memory.
abbrev pub pieces_held : Decoded → List Piece
pieces_held decoded = map (piece_in decoded.first.items) decoded.pieces.items

abbrev pub HoldsParts : Decoded → Type 0
HoldsParts decoded = All (LiesIn decoded.first.items) decoded.pieces.items

abbrev pub line_asks : Result Line Syntax → Command
line_asks (Ok (asks.Call call)) = file_call (call_of call)
line_asks (Ok asks.Sync) = sync
line_asks (Ok asks.Space) = space
line_asks (Ok (asks.Crash cut)) = crash (wanted_by cut)
line_asks (Ok (asks.Storm seed)) = storm seed
line_asks (Ok (asks.Cache seed)) = cache seed
line_asks (Ok asks.Log) = log
line_asks (Err fault) = bad_syntax

-- The parts of each piece of a batch lie in its text.
abbrev pub HasItsParts : Result Line Syntax → Type 0
HasItsParts (Ok (asks.Call (given.Batch text pieces))) = All (LiesIn text.now) pieces.now
HasItsParts asked = Unit {0}

-- The call of a line satisfies the requirements of a call.
abbrev pub CanBeAsked : Result Line Syntax → Type 0
CanBeAsked (Ok (asks.Call call)) = CanAsk call
CanBeAsked asked = Unit {0}

-- ---- the fields of pieces

-- The fields of a piece and of all pieces after it, and the number of their bytes.
abbrev pub words_at : PieceWords → List (List ℕ)
words_at words = words.path.now ∷ words.offset.now ∷ words_of words.rest.now

abbrev pub words_len : PieceWords → ℕ
words_len words = length words.path.now + length words.offset.now + length words.rest.now

-- The first field of a text.
abbrev pub first_word : List ℕ → List ℕ
first_word text = get_or (words_of text) 0 []

-- The fields of a text, none if there is no text; and the number of its bytes.
abbrev pub words_after : Option (Bor (List ℕ)) → List (List ℕ)
words_after text = option_map_or (λ t. words_of t.now) text []

abbrev pub len_after : Option (Bor (List ℕ)) → ℕ
len_after text = option_map_or (λ t. length t.now) text 0

-- The batch of pieces whose paths and bytes are parts of a text.
abbrev pub batch_in : List ℕ → List GivenPiece → Call
batch_in text pieces = batch (map (piece_in text) pieces)

-- The bytes of a field that is not empty.
abbrev pub bytes_in_word : List ℕ → Option (List ℕ)
bytes_in_word word = if is_empty_word word then None else bytes_spelled word

-- A piece decoded from its three fields, if none of them is empty.
abbrev pub piece_decoded : List ℕ → List ℕ → List ℕ → Option Piece
piece_decoded path offset bytes =
    if is_empty_word path || is_empty_word bytes then None
    else option_map decoded_piece (piece_spelled path (number_spelled offset) (bytes_spelled bytes))

-- The first piece that these fields spell.
abbrev pub first_piece : PieceWords → Option Piece
first_piece words = piece_decoded words.path.now words.offset.now (first_word words.rest.now)

-- The command of a verb and a path.
abbrev pub path_row : PathVerb → List ℕ → Command
path_row verb.Create path = file_call (create path)
path_row verb.Mkdir path = file_call (mkdir path)
path_row verb.Unlink path = file_call (unlink path)
path_row verb.Rmdir path = file_call (rmdir path)
path_row verb.List path = file_call (list path)
path_row verb.Stat path = file_call (stat path)
path_row verb.Links path = file_call (links path)
path_row verb.SnapList path = file_call (snap_list path)
path_row verb.SnapStat path = file_call (snap_stat path)

-- The command of a verb and one other field.
abbrev pub word_row : Option WordVerb → List ℕ → Command
word_row (Some on.Crash) word = whole_crash word
word_row (Some on.Storm) word = storm_command (number_spelled word)
word_row (Some on.Cache) word = cache_command (number_spelled word)
word_row (Some on.Upgrade) word = upgrade_command word
word_row (Some (on.Path verb)) word = path_row verb word
word_row None word = bad_syntax

-- The command of a verb, a path and a last field.
abbrev pub pair_row : Option PairVerb → List ℕ → List ℕ → Command
pair_row (Some pair.Truncate) path last = truncate_command path (number_spelled last)
pair_row (Some pair.Rename) path last = file_call (rename path last)
pair_row (Some pair.Link) path last = file_call (link path last)
pair_row (Some pair.Attribute) path last = attribute_command path (attribute_number (number_spelled last))
pair_row None path last = bad_syntax
