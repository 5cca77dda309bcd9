-- Calls that change nothing, and their answers, as properties of the image.
use Rattle.std.specs.Prelude.{◌≡◌, ℕ, List, [], ◌∷◌, map, false, Option, None, Some}
use Rattle.bp_layout.specs.Words.{Image}
use Rattle.bp_layout.specs.Paths.{Path}
use Rattle.bp_plain.specs.PlainTree.{FileTree}
use Rattle.bp_plain.specs.Stands.{Stands}
use Rattle.bp_plain.specs.Calls.{Call, Answer, Piece, Refusal}
use Rattle.bp_plain.specs.Plain.{on_path, attribute_refusal, refusal, walk, walk_parent, first, when, file_refusal, is_root_path, move_refusal, new_refusal, piece_refusal}
use Rattle.bp_plain.specs.Calls.Refusal.{not_found, not_dir}
use Rattle.bp_path.specs.Walk.{Walked}
use Rattle.bp_path.specs.Walk.Walked.{found, missing, in_file}
use Rattle.bp_fs.specs.Step.{StepFor}
use Rattle.bp_fs.specs.FileCall.{has_changed}

-- The call changes nothing, and this is a possible answer.
abbrev pub Answers : Image → Call → Answer → Type 0
Answers image call answer = (tree : FileTree) → Stands image tree →
    (has_changed tree call answer ≡ false) × StepFor image tree call answer image

-- The refusal for the result of a walk; none if it found an inode.
abbrev pub refusal_of_walk : Walked → Option Refusal
refusal_of_walk (found i) = None
refusal_of_walk missing = Some not_found
refusal_of_walk in_file = Some not_dir

-- The text is no path, or the walk to the path is refused with `why`.
abbrev pub StopsWalk : Image → List ℕ → Refusal → Type 0
StopsWalk image text why = (tree : FileTree) → Stands image tree → on_path text (walk tree.now.nodes) ≡ Some why

-- The call is refused by each tree that the image represents, with `why`.
abbrev pub Refuses : Image → Call → Refusal → Type 0
Refuses image call why = (tree : FileTree) → Stands image tree → refusal tree call ≡ Some why

-- The walk to the path is refused with `why`.
abbrev pub RefusesWalk : Image → Path → Refusal → Type 0
RefusesWalk image path why = (tree : FileTree) → Stands image tree → walk tree.now.nodes path ≡ Some why

-- The first refusal that applies to a call on a file at a path.
abbrev pub refusal_of_file : FileTree → Path → Option Refusal
refusal_of_file tree = file_refusal tree.now.nodes

-- A call on a file at the path is refused with `why`.
abbrev pub RefusesFileAt : Image → Path → Refusal → Type 0
RefusesFileAt image path why = (tree : FileTree) → Stands image tree → refusal_of_file tree path ≡ Some why

-- The text is no path, or a call on a file at the path is refused, with `why`.
abbrev pub StopsAtFile : Image → List ℕ → Refusal → Type 0
StopsAtFile image text why = (tree : FileTree) → Stands image tree → on_path text (refusal_of_file tree) ≡ Some why

-- The text is no path, or a call on the attributes at the path is refused, with `why`.
abbrev pub StopsAtAttributes : Image → List ℕ → Refusal → Type 0
StopsAtAttributes image text why = (tree : FileTree) → Stands image tree →
    on_path text (attribute_refusal tree) ≡ Some why

-- The first refusal that applies to a new file at a path.
abbrev pub refusal_of_new : FileTree → Path → Option Refusal
refusal_of_new tree = new_refusal tree.now.nodes

-- The text is no path, or a new file at the path is refused, with `why`.
abbrev pub StopsAtNew : Image → List ℕ → Refusal → Type 0
StopsAtNew image text why = (tree : FileTree) → Stands image tree → on_path text (refusal_of_new tree) ≡ Some why

-- The first refusal that applies before the entry of a path is found. The refusal for the root directory is given.
abbrev pub refusal_of_entry : Refusal → FileTree → Path → Option Refusal
refusal_of_entry root tree path = first (when (is_root_path path) root ∷ walk tree.now.nodes path ∷ [])

-- No entry is found at the path, and the refusal is `why`.
abbrev pub RefusesEntry : Image → Path → Refusal → Refusal → Type 0
RefusesEntry image path root why = (tree : FileTree) → Stands image tree → refusal_of_entry root tree path ≡ Some why

-- The text is no path, or no entry is found at the path, and the refusal is `why`.
abbrev pub StopsAtEntry : Image → List ℕ → Refusal → Refusal → Type 0
StopsAtEntry image text root why = (tree : FileTree) → Stands image tree →
    on_path text (refusal_of_entry root tree) ≡ Some why

-- A new file at the path is refused with `why`.
abbrev pub RefusesNew : Image → Path → Refusal → Type 0
RefusesNew image path why = (tree : FileTree) → Stands image tree → refusal_of_new tree path ≡ Some why

-- The walk to the path's parent directory is refused with `why`.
abbrev pub RefusesParent : Image → Path → Refusal → Type 0
RefusesParent image path why = (tree : FileTree) → Stands image tree → walk_parent tree.now.nodes path ≡ Some why

-- A rename of the first path to the second is refused with `why`.
abbrev pub RefusesRename : Image → Path → Path → Refusal → Type 0
RefusesRename image p q why = (tree : FileTree) → Stands image tree → move_refusal tree.now.nodes p q ≡ Some why

-- A piece of a batch is refused with `why`. `RefusesPieces`: the first piece that is refused is refused with `why`.
abbrev pub RefusesPiece : Image → Piece → Refusal → Type 0
RefusesPiece image piece why = (tree : FileTree) → Stands image tree → piece_refusal tree.now.nodes piece ≡ Some why

abbrev pub RefusesPieces : Image → List Piece → Refusal → Type 0
RefusesPieces image pieces why = (tree : FileTree) → Stands image tree →
    first (map (piece_refusal tree.now.nodes) pieces) ≡ Some why
