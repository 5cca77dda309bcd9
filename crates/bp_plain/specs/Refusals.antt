-- The number and the word by which replies name each refusal.
use Rattle.std.specs.Prelude.{ℕ, List, codes}
use Rattle.bp_plain.specs.Calls.{Refusal}
use Rattle.bp_plain.specs.Calls.Refusal.{bad_path, not_found, not_dir, is_dir, exists, not_empty, into_self, is_root, too_long, too_big, no_space, no_memory, no_snap, has_snap, old_version, past_end}

abbrev pub refusal_number : Refusal → ℕ
refusal_number bad_path = 1
refusal_number not_found = 2
refusal_number not_dir = 3
refusal_number is_dir = 4
refusal_number exists = 5
refusal_number not_empty = 6
refusal_number into_self = 7
refusal_number is_root = 8
refusal_number too_long = 9
refusal_number too_big = 10
refusal_number (no_space need free) = 11
refusal_number no_memory = 12
refusal_number no_snap = 13
refusal_number has_snap = 14
refusal_number old_version = 15
refusal_number past_end = 16

abbrev pub refusal_word : Refusal → List ℕ
refusal_word bad_path = codes "badpath"
refusal_word not_found = codes "notfound"
refusal_word not_dir = codes "notdir"
refusal_word is_dir = codes "isdir"
refusal_word exists = codes "exists"
refusal_word not_empty = codes "notempty"
refusal_word into_self = codes "intoself"
refusal_word is_root = codes "isroot"
refusal_word too_long = codes "toolong"
refusal_word too_big = codes "toobig"
refusal_word (no_space need free) = codes "nospace"
refusal_word no_memory = codes "memory"
refusal_word no_snap = codes "nosnap"
refusal_word has_snap = codes "hassnap"
refusal_word old_version = codes "oldversion"
refusal_word past_end = codes "pastend"
