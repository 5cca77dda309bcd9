-- Hashes of names.
use Rattle.std.specs.Prelude.{ℕ}
use Rattle.std.specs.Hash.FoldHasher.{initial, write, finish}
use Rattle.bp_layout.specs.Paths.{Name}

-- The result of the library's hasher for the bytes of a name.
unfoldable pub hash_of : Name → ℕ
hash_of name = finish (write initial name)
