-- The stores of a format, in their order, and those of an upgrade.
use Rattle.std.specs.Prelude.{ℕ, ◌+◌, List, [], ◌∷◌, ◌++◌, flat_map}
use Rattle.bp_layout.specs.Words.{Image}
use Rattle.bp_limits.specs.declared.version.Version.{Version}
use Rattle.bp_limits.specs.declared.version.Version.TheVariants.{One, Two, Three}
use Rattle.bp_limits.specs.Limits.{attribute_field, block_size, directory_kind, first_inode, magic, root_field, size_field, super_blocks, super_magic, super_root, super_snapshot_root, super_snapshot_size, super_size, super_spare_root, super_spare_size}
use Rattle.bp_layout.specs.Stores.{after_stores}

-- the stores that record from version 2 on that there is no second inode file (no snapshot)
abbrev pub no_second : List (ℕ × ℕ)
no_second = (super_snapshot_root, 0) ∷ (super_snapshot_size, 0) ∷ []

-- the stores that clear the words which version 3 reserves for another inode file
abbrev pub no_spare : List (ℕ × ℕ)
no_spare = (super_spare_root, 0) ∷ (super_spare_size, 0) ∷ []

-- the stores to the other words of the superblock that have a meaning in this version
abbrev pub kept_words : Version → List (ℕ × ℕ)
kept_words One = []
kept_words Two = no_second
kept_words Three = no_second ++ no_spare

-- the stores that clear the attributes of inode 1
abbrev pub first_attributes : Version → List (ℕ × ℕ)
first_attributes One = []
first_attributes Two = []
first_attributes Three =
    (first_inode + attribute_field, 0) ∷ (first_inode + (attribute_field + 1), 0)
    ∷ (first_inode + (attribute_field + 2), 0) ∷ []

-- the stores that make inode 1 a root directory without entries
abbrev pub no_entries : Version → List (ℕ × ℕ)
no_entries version =
    (first_inode, directory_kind) ∷ (first_inode + root_field, 0) ∷ (first_inode + size_field, 0) ∷ []
    ++ first_attributes version

-- the stores of an empty file system of this many blocks, except the magic number
abbrev pub empty_words : Version → ℕ → List (ℕ × ℕ)
empty_words version blocks = (super_blocks, blocks) ∷ (super_root, 0x1000) ∷ (super_size, block_size) ∷ []
    ++ kept_words version ++ no_entries version

-- The stores of a format, in three epochs: the magic number is cleared, an empty file system is stored, and the new
-- magic number is stored.
abbrev pub format_epochs : Version → ℕ → List (List (ℕ × ℕ))
format_epochs version blocks =
    ((super_magic, 0) ∷ []) ∷ empty_words version blocks ∷ ((super_magic, magic version) ∷ []) ∷ []

abbrev pub format_stores : Version → ℕ → List (ℕ × ℕ)
format_stores version blocks = flat_map (λ stores. stores) (format_epochs version blocks)

abbrev pub formatted : Image → Version → ℕ → Image
formatted image version blocks = after_stores image (format_stores version blocks)

-- ---- an upgrade of version 1

-- The stores of an upgrade, in two epochs: the words of version 2 for a snapshot, and then its magic number.
abbrev pub upgrade_epochs : List (List (ℕ × ℕ))
upgrade_epochs = no_second ∷ ((super_magic, magic Two) ∷ []) ∷ []

abbrev pub upgrade_stores : List (ℕ × ℕ)
upgrade_stores = flat_map (λ stores. stores) upgrade_epochs

abbrev pub upgraded : Image → Image
upgraded image = after_stores image upgrade_stores

-- ---- an upgrade to version 3

-- The stores of an upgrade to version 3, in two epochs: the words of the superblock that have a meaning there, and then
-- its magic number.
abbrev pub to_three_epochs : List (List (ℕ × ℕ))
to_three_epochs = kept_words Three ∷ ((super_magic, magic Three) ∷ []) ∷ []

abbrev pub to_three_stores : List (ℕ × ℕ)
to_three_stores = flat_map (λ stores. stores) to_three_epochs

abbrev pub upgraded_to_three : Image → Image
upgraded_to_three image = after_stores image to_three_stores
