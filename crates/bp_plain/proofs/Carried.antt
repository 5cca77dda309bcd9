-- What calls that are not refused answer and make, and why the pieces of a batch are refused.
use Rattle.std.proofs.Common.{◌≡◌, ◌≤◌, ◌<◌, ◌+◌, ◌++◌, ℕ, suc, List, [], ◌∷◌, length, drop, get_or, map, Bool, true, false, not, nat_lt, Option, None, Some, is_some, if◌then◌else◌, option_map, refl, sym, ◌∙◌, ap, ap₂, true≢false, arith, length-drop, ◌-◌}
use Rattle.std.proofs.lemmas.List.{drop_more, length-take}
use Rattle.std.specs.List.{All, fold, list_any, sum_by}
use Rattle.std.specs.Option.{is_none}
use Rattle.bp_layout.specs.Paths.{Path, parse}
use Rattle.bp_limits.specs.CallLimits.{max_batch}
use Rattle.bp_plain.specs.Calls.{Answer, Call, Piece, Refusal}
use Rattle.bp_plain.specs.Calls.Answer.{done}
use Rattle.bp_plain.specs.Calls.Call.{batch}
use Rattle.bp_plain.specs.Calls.Refusal.{bad_path, is_dir, is_root, not_empty, too_long}
use Rattle.bp_plain.specs.Plain.{answer, changes, dir_refusal, file_refusal, first, is_empty_dir, is_root_path, move_refusal, new_refusal, on_path, path_named, piece_refusal, refusal, tree_after, when, with_now, with_piece, with_pieces}
use Rattle.bp_plain.specs.declared.calls.Piece.{Piece as GivenPiece}
use Rattle.bp_plain.specs.declared.calls.Span.{Span}
use Rattle.bp_plain.specs.PlainTree.{FileTree, Nodes, PathMap}
use Rattle.bp_plain.specs.declared.errors.FsError.{FsError}
use Rattle.bp_plain.specs.Seen.{LiesIn, piece_in, refusal_of, spanned}
use Rattle.bp_plain.specs.SeenTree.{carried_out}
use Rattle.bp_plain.proofs.PathLaws.{first_one}
use Rattle.bp_plain.proofs.Rooted.{first_none, not_false, when_none}

-- ---- paths

-- where a path is spelled, its refusals are those of the path
pub on_named : (text : List ℕ) (refusals : Path → Option Refusal) → on_path text refusals ≡ None → refusals (path_named text) ≡ None
on_named text refusals e = go (parse text) refl
  where
    go : (found : Option Path) → parse text ≡ found → refusals (path_named text) ≡ None
    go None at = let wrong : ◌≡◌ {A = Option Refusal} (Some bad_path) None = rw at at e in absurd (cc)
    go (Some path) at = rw at (rw at at e)

pub file_passes : (nodes : Nodes) (p : Path) → first (when (is_root_path p) is_dir ∷ file_refusal nodes p ∷ []) ≡ None → file_refusal nodes p ≡ None
file_passes nodes p e = (first_none (file_refusal nodes p) [] (first_none (when (is_root_path p) is_dir) (file_refusal nodes p ∷ []) e).1).0

pub dir_passes : (nodes : Nodes) (p : Path) → first (when (is_root_path p) is_root ∷ dir_refusal nodes p ∷ when (not (is_empty_dir nodes p)) not_empty ∷ []) ≡ None →
    (is_root_path p ≡ false) × (is_empty_dir nodes p ≡ true)
dir_passes nodes p e =
    let one = first_none (when (is_root_path p) is_root) (dir_refusal nodes p ∷ when (not (is_empty_dir nodes p)) not_empty ∷ []) e in
    let two = first_none (dir_refusal nodes p) (when (not (is_empty_dir nodes p)) not_empty ∷ []) one.1 in
    let three = first_none (when (not (is_empty_dir nodes p)) not_empty) [] two.1 in
    (when_none (is_root_path p) is_root one.0, not_false (is_empty_dir nodes p) (when_none (not (is_empty_dir nodes p)) not_empty three.0))

pub link_passes : (nodes : Nodes) (from to : List ℕ) → on_path from (λ p. on_path to (λ q. first (file_refusal nodes p ∷ new_refusal nodes q ∷ []))) ≡ None →
    (file_refusal nodes (path_named from) ≡ None) × (new_refusal nodes (path_named to) ≡ None)
link_passes nodes from to e =
    let both : first (file_refusal nodes (path_named from) ∷ new_refusal nodes (path_named to) ∷ []) ≡ None =
    on_named to (λ q. first (file_refusal nodes (path_named from) ∷ new_refusal nodes q ∷ []))
    (on_named from (λ p. on_path to (λ q. first (file_refusal nodes p ∷ new_refusal nodes q ∷ []))) e) in
    let one = first_none (file_refusal nodes (path_named from)) (new_refusal nodes (path_named to) ∷ []) both in
    let two = first_none (new_refusal nodes (path_named to)) [] one.1 in
    (one.0, two.0)

pub move_passes : (nodes : Nodes) (from to : List ℕ) → on_path from (λ p. on_path to (λ q. move_refusal nodes p q)) ≡ None → move_refusal nodes (path_named from) (path_named to) ≡ None
move_passes nodes from to e =
    on_named to (λ q. move_refusal nodes (path_named from) q) (on_named from (λ p. on_path to (λ q. move_refusal nodes p q)) e)

-- ---- changes

-- what is answered and made, where it is known whether the call changes the tree
pub carries : (tree after : FileTree) (call : Call) (found : Answer) (b : Bool) → changes tree call ≡ b → found ≡ answer tree call → after ≡ (if b then tree_after tree call else tree) →
    (found, after) ≡ carried_out tree call
carries tree after call found b at is made =
    ap₂ (λ (a : Answer) (t : FileTree). (a, t)) is made ∙ ap (λ (x : Bool). (answer tree call, if x then tree_after tree call else tree)) (sym at)

-- ---- batches

bad_first : (pieces : List Piece) (rest : List (Option Refusal)) →
    first (map (λ piece. when (is_none (parse piece.path)) bad_path) pieces ++ rest) ≡ first (when (list_any (λ piece. is_none (parse piece.path)) pieces) bad_path ∷ rest)
bad_first [] rest = refl
bad_first (piece ∷ pieces) rest = go (is_none (parse piece.path)) refl (bad_first pieces rest)
  where
    go : (b : Bool) → is_none (parse piece.path) ≡ b →
        first (map (λ piece. when (is_none (parse piece.path)) bad_path) pieces ++ rest) ≡ first (when (list_any (λ piece. is_none (parse piece.path)) pieces) bad_path ∷ rest) →
        first (map (λ piece. when (is_none (parse piece.path)) bad_path) (piece ∷ pieces) ++ rest) ≡ first (when (list_any (λ piece. is_none (parse piece.path)) (piece ∷ pieces)) bad_path ∷ rest)
    go true at later = rw at refl
    go false at later = rw at later

first_join : (a b : Option Refusal) (rest : List (Option Refusal)) → first (a ∷ b ∷ first rest ∷ []) ≡ first (a ∷ b ∷ rest)
first_join None None rest = first_one (first rest)
first_join None (Some refusal) rest = refl
first_join (Some refusal) b rest = refl

pub batch_refused : (tree : FileTree) (pieces : List Piece) (a b c : Option Refusal) →
    a ≡ when (list_any (λ piece. is_none (parse piece.path)) pieces) bad_path →
    b ≡ when (nat_lt max_batch (sum_by (λ piece. length piece.bytes) pieces)) too_long →
    c ≡ first (map (piece_refusal tree.now.nodes) pieces) → first (a ∷ b ∷ c ∷ []) ≡ refusal tree (batch pieces)
batch_refused tree pieces a b c one two three =
    rw (one, two, three)
    (first_join (when (list_any (λ piece. is_none (parse piece.path)) pieces) bad_path) (when (nat_lt max_batch (sum_by (λ piece. length piece.bytes) pieces)) too_long) (map (piece_refusal tree.now.nodes) pieces)
    ∙ sym (bad_first pieces (when (nat_lt max_batch (sum_by (λ piece. length piece.bytes) pieces)) too_long ∷ map (piece_refusal tree.now.nodes) pieces)))

-- pieces with no bytes change nothing
no_pieces : (m : PathMap) (pieces : List Piece) → list_any (λ piece. nat_lt 0 (length piece.bytes)) pieces ≡ false → with_pieces m pieces ≡ m
no_pieces m [] e = refl
no_pieces m (piece ∷ pieces) e = go (nat_lt 0 (length piece.bytes)) refl (λ f. no_pieces m pieces f)
  where
    go : (b : Bool) → nat_lt 0 (length piece.bytes) ≡ b → (list_any (λ piece. nat_lt 0 (length piece.bytes)) pieces ≡ false → with_pieces m pieces ≡ m) → with_pieces m (piece ∷ pieces) ≡ m
    go true at rest = absurd (true≢false (rw at at e))
    go false at rest = rw at (rest (rw at at e))

pub batch_carried : (tree : FileTree) (pieces : List Piece) → (done, with_now tree (with_pieces tree.now pieces)) ≡ carried_out tree (batch pieces)
batch_carried tree pieces = go (list_any (λ piece. nat_lt 0 (length piece.bytes)) pieces) refl
  where
    go : (b : Bool) → list_any (λ piece. nat_lt 0 (length piece.bytes)) pieces ≡ b → (done, with_now tree (with_pieces tree.now pieces)) ≡ carried_out tree (batch pieces)
    go true at = rw at refl
    go false at = rw at (ap (λ m. (done, with_now tree m)) (no_pieces tree.now pieces at))

-- ---- parts of a text

length-spanned : (text : List ℕ) (span : Span) → span.at + span.len ≤ length text → length (spanned text span) ≡ span.len
length-spanned text span lies = omega (arith, length-take (span.at + span.len - span.at) (drop span.at text), length-drop span.at text, lies)

sum_from : (text : List ℕ) (pieces : List GivenPiece) → All (LiesIn text) pieces → (n : ℕ) →
    fold (λ a piece. a + length piece.bytes) n (map (piece_in text) pieces) ≡ fold (λ a piece. a + piece.bytes.len) n pieces
sum_from text [] all n = refl
sum_from text (piece ∷ pieces) all n =
    let here : LiesIn text piece = all 0 piece (omega arith) in
    ap (λ len. fold (λ a piece. a + length piece.bytes) (n + len) (map (piece_in text) pieces)) (length-spanned text piece.bytes here.bytes)
    ∙ sum_from text pieces (λ k d low. all (suc k) d (omega (arith, low))) (n + piece.bytes.len)

pub sum_lies : (text : List ℕ) (pieces : List GivenPiece) → All (LiesIn text) pieces →
    sum_by (λ piece. length piece.bytes) (map (piece_in text) pieces) ≡ sum_by (λ piece. piece.bytes.len) pieces
sum_lies text pieces all = sum_from text pieces all 0

-- ---- pieces one after the other

pub record NextPiece (pieces : List GivenPiece) (i : ℕ) (piece : GivenPiece) : Type 0 where
  pub next : drop i pieces ≡ piece ∷ drop (i + 1) pieces

pub next_piece : (pieces : List GivenPiece) (i : ℕ) (other : GivenPiece) → i < length pieces → NextPiece pieces i (get_or pieces i other)
next_piece pieces i other low = record { next = drop_more pieces i other low }

module _ (text : List ℕ) (pieces : List GivenPiece) (i : ℕ) (piece : GivenPiece) (at : NextPiece pieces i piece) where
  pub piece_passes : (nodes : Nodes) (found : Option FsError) → is_some found ≡ false → option_map refusal_of found ≡ piece_refusal nodes (piece_in text piece) →
      first (map (piece_refusal nodes) (map (piece_in text) (drop (i + 1) pieces))) ≡ first (map (piece_refusal nodes) (map (piece_in text) (drop i pieces)))
  piece_passes nodes None e is = rw (at.next, sym is) refl
  piece_passes nodes (Some error) e is = absurd (true≢false e)

  pub piece_stops : (nodes : Nodes) (found : Option FsError) → is_some found ≡ true → option_map refusal_of found ≡ piece_refusal nodes (piece_in text piece) →
      option_map refusal_of found ≡ first (map (piece_refusal nodes) (map (piece_in text) (drop i pieces)))
  piece_stops nodes None e is = absurd (true≢false (sym e))
  piece_stops nodes (Some error) e is = rw (at.next, sym is) refl

  pub piece_written : (before after : PathMap) → after ≡ with_piece before (piece_in text piece) →
      with_pieces after (map (piece_in text) (drop (i + 1) pieces)) ≡ with_pieces before (map (piece_in text) (drop i pieces))
  piece_written before after is = rw (at.next, is) refl
