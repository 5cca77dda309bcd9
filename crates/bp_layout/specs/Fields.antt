-- The meaning of the words of an image's fields.
use Rattle.std.specs.Prelude.{◌≡◌, ℕ, ◌+◌, ◌*◌, ◌/◌, ◌%◌, ◌≤◌, List, [], ◌∷◌, map, slice_index}
use Rattle.std.specs.List.{range_with_len}
use Rattle.bp_layout.specs.Words.{byte_of, height_of}
use Rattle.bp_limits.specs.Limits.{block_size, directory_kind, file_kind}
use Rattle.bp_layout.specs.declared.fields.Kind.{Kind}
use Rattle.bp_layout.specs.declared.fields.Kind.TheVariants.{File, Dir}
use Rattle.bp_layout.specs.declared.fields.Super.{Super}
use Rattle.bp_layout.specs.declared.fields.Inode.{Inode}

-- A valid root word: its height (bits 0 to 2) is at most `top`, its block is in bits 12 to 63, and bits 3 to 11 are
-- zero.
abbrev pub IsRootWord : ℕ → ℕ → Type 0
IsRootWord top word = (height_of word ≤ top) × (word / 8 % 512 ≡ 0)

abbrev pub root_word : ℕ → ℕ → ℕ
root_word height block = block_size * block + height

-- A valid pointer word: its block is in bits 12 to 63, and bits 0 to 11 are zero.
abbrev pub IsPointerWord : ℕ → Type 0
IsPointerWord word = word % block_size ≡ 0

abbrev pub pointer_word : ℕ → ℕ
pointer_word block = block_size * block

-- the first word of an inode of this kind
abbrev pub kind_word : Kind → ℕ
kind_word File = file_kind
kind_word Dir = directory_kind

-- the words of a superblock, and of an inode, from the first on
abbrev pub words_of_super : Super → List ℕ
words_of_super super = super.magic ∷ super.blocks ∷ super.root ∷ super.size ∷ []

abbrev pub words_of_inode : Inode → List ℕ
words_of_inode inode = kind_word inode.kind ∷ inode.root ∷ inode.size ∷ []

-- byte number `offset` of the name in an entry's words; `name_of` is the whole name: its length is in word 1, its bytes
-- start at word 2
abbrev pub name_byte : List ℕ → ℕ → ℕ
name_byte words offset = byte_of (slice_index words (2 + offset / 8)) (offset % 8)

abbrev pub name_of : List ℕ → List ℕ
name_of words = map (name_byte words) (range_with_len 0 (slice_index words 1))
