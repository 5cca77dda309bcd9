-- The limits of calls: names, paths, sizes, and what one call writes.
use Rattle.std.specs.Prelude.{ℕ, Bool, true, false}
use Rattle.bp_limits.specs.declared.TheConstants.{MAX_SIZE, MAX_NAME, MAX_PATH, MAX_WRITE, MAX_BATCH}
use Rattle.bp_limits.specs.declared.version.Version.{Version}
use Rattle.bp_limits.specs.declared.version.Version.TheVariants.{One, Two, Three}

-- images of this version can have a snapshot
abbrev pub allows_snapshot : Version → Bool
allows_snapshot One = false
allows_snapshot Two = true
allows_snapshot Three = true

-- inodes of images of this version have attributes, which are words of the caller's own
abbrev pub allows_attributes : Version → Bool
allows_attributes One = false
allows_attributes Two = false
allows_attributes Three = true

-- The maximum length of a name and of a path, in bytes.
abbrev pub max_name : ℕ
max_name = MAX_NAME

abbrev pub max_path : ℕ
max_path = MAX_PATH

-- The maximum size of a file, a directory and the inode file, in bytes: what a tree of the maximum height covers.
abbrev pub max_size : ℕ
max_size = MAX_SIZE

abbrev pub greatest_size : Version → ℕ
greatest_size One = 549755813888
greatest_size Two = max_size
greatest_size Three = max_size

-- The maximum number of bytes that one call writes: in any version, and by version.
abbrev pub max_write : ℕ
max_write = MAX_WRITE

abbrev pub greatest_write : Version → ℕ
greatest_write One = 65536
greatest_write Two = max_write
greatest_write Three = max_write

-- The maximum number of bytes of all pieces of a batch together.
abbrev pub max_batch : ℕ
max_batch = MAX_BATCH
