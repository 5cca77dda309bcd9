-- The roles of the three slots of the superblock in images of version 3. A slot is a root word with the size next to
-- it, in bytes, of an inode file: words 2 and 3, 4 and 5, 6 and 7. Roles say where each of the first 8 words is stored,
-- and which magic number is at word 0.
--
-- No program has transactions yet, so none makes an image with the second magic number.
use Rattle.std.specs.Prelude.{ℕ, ◌==◌, List, [], ◌∷◌, if◌then◌else◌, slice_index_or}
use Rattle.bp_limits.specs.Limits.{magic, super_magic}
use Rattle.bp_limits.specs.declared.version.Version.TheVariants.{Three}
use Rattle.bp_roles.specs.declared.roles.Roles.{Roles}
use Rattle.bp_roles.specs.declared.roles.Roles.TheVariants.{OutsideA, OutsideB, InsideA, InsideB}

-- The magic number that word 0 has under these roles and that is seen as `BPFSRS3A`, the one of version 3. Version 3
-- has two: the bytes `BPFSRS3A` and `BPFSRS3B`.
abbrev pub magic_of : Roles → ℕ
magic_of OutsideA = magic Three
magic_of OutsideB = 0x4233535253465042
magic_of InsideA = magic Three
magic_of InsideB = 0x4233535253465042

-- The number of the roles among all of them.
abbrev pub number_of : Roles → ℕ
number_of OutsideA = 0
number_of OutsideB = 1
number_of InsideA = 2
number_of InsideB = 3

-- The places where the first 8 words are stored, in the order in which they are seen.
abbrev pub stored_places : Roles → List ℕ
stored_places OutsideA = 0 ∷ 1 ∷ 2 ∷ 3 ∷ 4 ∷ 5 ∷ 6 ∷ 7 ∷ []
stored_places OutsideB = 0 ∷ 1 ∷ 6 ∷ 7 ∷ 4 ∷ 5 ∷ 2 ∷ 3 ∷ []
stored_places InsideA = 0 ∷ 1 ∷ 6 ∷ 7 ∷ 2 ∷ 3 ∷ 4 ∷ 5 ∷ []
stored_places InsideB = 0 ∷ 1 ∷ 2 ∷ 3 ∷ 6 ∷ 7 ∷ 4 ∷ 5 ∷ []

-- The places at which the first 8 words are seen, in the order in which they are stored.
abbrev pub seen_places : Roles → List ℕ
seen_places OutsideA = 0 ∷ 1 ∷ 2 ∷ 3 ∷ 4 ∷ 5 ∷ 6 ∷ 7 ∷ []
seen_places OutsideB = 0 ∷ 1 ∷ 6 ∷ 7 ∷ 4 ∷ 5 ∷ 2 ∷ 3 ∷ []
seen_places InsideA = 0 ∷ 1 ∷ 4 ∷ 5 ∷ 6 ∷ 7 ∷ 2 ∷ 3 ∷ []
seen_places InsideB = 0 ∷ 1 ∷ 2 ∷ 3 ∷ 6 ∷ 7 ∷ 4 ∷ 5 ∷ []

-- The place where the word seen at this place is stored. Past the first 8 words it is the same place.
unfoldable pub stored_at : Roles → ℕ → ℕ
stored_at roles word = slice_index_or (stored_places roles) word word

-- The place at which the word stored at this place is seen. Past the first 8 words it is the same place.
unfoldable pub seen_at : Roles → ℕ → ℕ
seen_at roles word = slice_index_or (seen_places roles) word word

-- One of two values in place of the other; any other value as it is.
abbrev pub exchanged : ℕ → ℕ → ℕ → ℕ
exchanged one other value = if value == one then other else if value == other then one else value

-- The value that is seen at a word for a stored value, and the value that is stored for a seen one. At word 0 the magic
-- number of the roles and `BPFSRS3A` are exchanged, so that an image with `BPFSRS3B` is seen as one with `BPFSRS3A`.
unfoldable pub swapped : Roles → ℕ → ℕ → ℕ
swapped roles word value = if word == super_magic then exchanged (magic_of roles) (magic Three) value else value
