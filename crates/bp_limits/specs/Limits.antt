-- The limits of the format, of scripts and of the programs. CallLimits has those of calls.
use Rattle.std.specs.Prelude.{ℕ, ◌+◌, ◌==◌, if◌then◌else◌}
use Rattle.bp_limits.specs.declared.TheConstants.{BLOCK_SIZE, BLOCK_WORDS, MIN_BLOCKS, MAX_BLOCKS, MAX_FILE_BLOCKS, SUPER_MAGIC, SUPER_BLOCKS, SUPER_ROOT, SUPER_SIZE, SUPER_SNAPSHOT_ROOT, SUPER_SNAPSHOT_SIZE, SUPER_SPARE_ROOT, SUPER_SPARE_SIZE, INODE_SIZE, INODE_WORDS, ROOT_FIELD, SIZE_FIELD, ATTRIBUTE_FIELD, ATTRIBUTES, BLOCK_INODES, ROOT_INO, FIRST_INODE, FILE_KIND, DIRECTORY_KIND, ENTRY_SIZE, ENTRY_WORDS, BLOCK_ENTRIES, MAX_HEIGHT, MAX_READ, MAX_PIECES, CALL_ROOM, MAX_LINE, MAX_TEXT, MAX_INPUT, LOG_EVENTS, MAX_MASK, MAX_TURNS}
use Rattle.bp_limits.specs.declared.version.Version.{Version}
use Rattle.bp_limits.specs.declared.version.Version.TheVariants.{One, Two, Three}

-- ---- words and blocks

-- The size of a block, in bytes and in words.
abbrev pub block_size : ℕ
block_size = BLOCK_SIZE

abbrev pub block_words : ℕ
block_words = BLOCK_WORDS

-- The minimum and the maximum number of blocks of an image.
abbrev pub min_blocks : ℕ
min_blocks = MIN_BLOCKS

abbrev pub max_blocks : ℕ
max_blocks = MAX_BLOCKS

-- The maximum number of blocks of an image that the program reads from FILE.
abbrev pub max_file_blocks : ℕ
max_file_blocks = MAX_FILE_BLOCKS

-- ---- the superblock

-- The magic number of a version, which is word 0 of its images: the bytes `BPFSRS01`, `BPFSRS02` and `BPFSRS3A`.
abbrev pub magic : Version → ℕ
magic One = 0x3130535253465042
magic Two = 0x3230535253465042
magic Three = 0x4133535253465042

-- The version of an image with this word 0: version 1 for each word that is not the magic number of a later version.
abbrev pub version_at : ℕ → Version
version_at word = if word == magic Two then Two else if word == magic Three then Three else One

-- The word of the superblock with the magic number, and those with the number of blocks, the root word and the size of
-- the inode file.
abbrev pub super_magic : ℕ
super_magic = SUPER_MAGIC

abbrev pub super_blocks : ℕ
super_blocks = SUPER_BLOCKS

abbrev pub super_root : ℕ
super_root = SUPER_ROOT

abbrev pub super_size : ℕ
super_size = SUPER_SIZE

-- The words of the superblock that have, from version 2 on, the root word and the size of a second inode file.
abbrev pub super_snapshot_root : ℕ
super_snapshot_root = SUPER_SNAPSHOT_ROOT

abbrev pub super_snapshot_size : ℕ
super_snapshot_size = SUPER_SNAPSHOT_SIZE

-- The words of the superblock that are reserved in version 3 for the root word and the size of another inode file.
abbrev pub super_spare_root : ℕ
super_spare_root = SUPER_SPARE_ROOT

abbrev pub super_spare_size : ℕ
super_spare_size = SUPER_SPARE_SIZE

-- ---- inodes and directories

-- The size of an inode, in bytes and in words.
abbrev pub inode_size : ℕ
inode_size = INODE_SIZE

abbrev pub inode_words : ℕ
inode_words = INODE_WORDS

-- The words of an inode that are the root word and the size of its tree.
abbrev pub root_field : ℕ
root_field = ROOT_FIELD

abbrev pub size_field : ℕ
size_field = SIZE_FIELD

-- The first of the words of an inode that are its attributes, in version 3, and the number of these words.
abbrev pub attribute_field : ℕ
attribute_field = ATTRIBUTE_FIELD

abbrev pub attributes : ℕ
attributes = ATTRIBUTES

-- The number of words of an inode that have a meaning, by version: the kind, the root word and the size, and in version
-- 3 the attributes.
abbrev pub inode_fields : Version → ℕ
inode_fields One = attribute_field
inode_fields Two = attribute_field
inode_fields Three = attribute_field + attributes

-- The number of inodes in a block.
abbrev pub block_inodes : ℕ
block_inodes = BLOCK_INODES

-- The number of the root directory's inode.
abbrev pub root_ino : ℕ
root_ino = ROOT_INO

-- The first word of the root directory's inode in a new image.
abbrev pub first_inode : ℕ
first_inode = FIRST_INODE

-- The first word of a file's inode, and of a directory's.
abbrev pub file_kind : ℕ
file_kind = FILE_KIND

abbrev pub directory_kind : ℕ
directory_kind = DIRECTORY_KIND

-- The size of a directory entry, in bytes and in words, and the number of entries in a block.
abbrev pub entry_size : ℕ
entry_size = ENTRY_SIZE

abbrev pub entry_words : ℕ
entry_words = ENTRY_WORDS

abbrev pub block_entries : ℕ
block_entries = BLOCK_ENTRIES

-- ---- trees

-- The maximum height of a tree, in images of any version and by version.
abbrev pub max_height : ℕ
max_height = MAX_HEIGHT

abbrev pub greatest_height : Version → ℕ
greatest_height One = 3
greatest_height Two = max_height
greatest_height Three = max_height

-- ---- calls

-- The maximum number of bytes that one call reads.
abbrev pub max_read : ℕ
max_read = MAX_READ

-- The maximum number of pieces of one batch.
abbrev pub max_pieces : ℕ
max_pieces = MAX_PIECES

-- The number of free log entries below which a call drains first.
abbrev pub call_room : ℕ
call_room = CALL_ROOM

-- ---- scripts and programs

-- The maximum length of a script line, without its newline, and of a reply, with it.
abbrev pub max_line : ℕ
max_line = MAX_LINE

abbrev pub max_text : ℕ
max_text = MAX_TEXT

-- The maximum number of bytes of a script.
abbrev pub max_input : ℕ
max_input = MAX_INPUT

-- The number of events that the log of a program's region can hold.
abbrev pub log_events : ℕ
log_events = LOG_EVENTS

-- The maximum number of positions of the mask that a script line spells out.
abbrev pub max_mask : ℕ
max_mask = MAX_MASK

-- The maximum number of operations of `play`.
abbrev pub max_turns : ℕ
max_turns = MAX_TURNS
