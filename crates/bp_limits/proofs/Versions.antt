-- The limits of each version are within those of any.
use Rattle.std.proofs.Common.{◌≡◌, ◌*◌, ◌^◌, ◌≤◌, refl, arith}
use Rattle.bp_limits.specs.declared.version.Version.{Version}
use Rattle.bp_limits.specs.declared.version.Version.TheVariants.{One, Two, Three}
use Rattle.bp_limits.specs.Limits.{attribute_field, block_size, block_words, greatest_height, inode_fields, inode_words, magic, max_height, version_at}
use Rattle.bp_limits.specs.CallLimits.{greatest_size, greatest_write, max_size, max_write}

pub height_most : (version : Version) → greatest_height version ≤ max_height
height_most One = omega arith
height_most Two = omega arith
height_most Three = omega arith

pub size_most : (version : Version) → greatest_size version ≤ max_size
size_most One = omega arith
size_most Two = omega arith
size_most Three = omega arith

pub write_most : (version : Version) → greatest_write version ≤ max_write
write_most One = omega arith
write_most Two = omega arith
write_most Three = omega arith

-- no version has a smaller one than the first
pub size_least : (version : Version) → greatest_size One ≤ greatest_size version
size_least One = omega arith
size_least Two = omega arith
size_least Three = omega arith

-- a tree of the greatest height covers the greatest size
pub size_covered : (version : Version) → greatest_size version ≡ block_size * block_words ^ greatest_height version
size_covered One = refl
size_covered Two = refl
size_covered Three = refl

-- a magic number is that of its version
pub version_of_magic : (version : Version) → version_at (magic version) ≡ version
version_of_magic One = refl
version_of_magic Two = refl
version_of_magic Three = refl

-- the kind, the root word and the size have a meaning in each version, and no word past those of an inode has one
pub fields_least : (version : Version) → attribute_field ≤ inode_fields version
fields_least One = omega arith
fields_least Two = omega arith
fields_least Three = omega arith

pub fields_most : (version : Version) → inode_fields version ≤ inode_words
fields_most One = omega arith
fields_most Two = omega arith
fields_most Three = omega arith
