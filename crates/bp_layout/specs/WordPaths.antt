-- A word path names a word by the slots on the way to it from the top. The empty path is the root word of the inode
-- file.
use Rattle.std.specs.Prelude.{◌≢◌, ℕ, zero, suc, ◌+◌, ◌*◌, ◌/◌, ◌%◌, List, [], ◌∷◌, ◌++◌, Bool, not, ◌==◌}
use Rattle.bp_limits.specs.Limits.{block_words, inode_words, root_field, super_root}
use Rattle.bp_layout.specs.Words.{Image, word, block_of}

abbrev pub WordPath : Type 0
WordPath = List ℕ

-- the last `count` digits of a number in base 512, the highest first
abbrev pub digits : ℕ → ℕ → List ℕ
digits zero index = []
digits (suc count) index = digits count (index / block_words) ++ index % block_words ∷ []

-- the path of word f of inode i, if the inode file has this height
abbrev pub inode_path : ℕ → ℕ → ℕ → WordPath
inode_path height i f = digits (suc height) (inode_words * i + f)

-- the path of a word of tree t at a depth, if the inode file has this height
abbrev pub tree_path : ℕ → ℕ → ℕ → ℕ → WordPath
tree_path height zero depth index = digits depth index
tree_path height (suc i) depth index = inode_path height (suc i) root_field ++ digits depth index

-- the place that a path names, from the place of a pointer on
abbrev pub address_from : Image → ℕ → WordPath → ℕ
address_from image place [] = place
address_from image place (slot ∷ path) = address_from image (block_words * block_of (word image place) + slot) path

abbrev pub address : Image → WordPath → ℕ
address image path = address_from image super_root path

-- the word that a path names is not null
abbrev pub is_pointed : Image → WordPath → Bool
is_pointed image path = not (block_of (word image (address image path)) == 0)

-- none of the words that a proper prefix of the path names is null
abbrev pub ExistsFrom : Image → ℕ → WordPath → Type 0
ExistsFrom image place [] = Unit {0}
ExistsFrom image place (slot ∷ path) =
    (block_of (word image place) ≢ 0) × ExistsFrom image (block_words * block_of (word image place) + slot) path

abbrev pub Exists : Image → WordPath → Type 0
Exists image path = ExistsFrom image super_root path
