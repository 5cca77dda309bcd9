-- When two names are the same, as hashing and comparing them require.
use Rattle.std.specs.Prelude.{◌≡◌, true, nat_eq, bytes_eq, IsTrue}
use Rattle.std.specs.Cmp.{IsEquivalence, IsPartialEquivalence, and_equiv, on_equiv, nat_eq_equiv, partial_equiv_from_equiv, unsigned_Decides, first_so, second_so}
use Rattle.std.specs.Cmp.Lexicographic.{nat_list_eq_equiv, bytes_decides}
use Rattle.bp_layout.specs.Hints.{NameIn}
use Rattle.bp_cache.specs.Names.{is_same, hash_writes}

pub same_equiv : IsEquivalence is_same
same_equiv = and_equiv (on_equiv (λ n. n.0) nat_eq_equiv) (on_equiv (λ n. n.1) nat_list_eq_equiv)

pub same_per : IsPartialEquivalence is_same
same_per = partial_equiv_from_equiv same_equiv

pub same_names : (a b : NameIn) → is_same a b ≡ true → a ≡ b
same_names a b e i = (
  (unsigned_Decides a.0 b.0).0 (first_so (nat_eq a.0 b.0) (bytes_eq a.1 b.1) e) i,
  (bytes_decides a.1 b.1).0 (second_so (nat_eq a.0 b.0) (bytes_eq a.1 b.1) e) i,
)

-- equal names have the same hash input
pub same_writes : (a b : NameIn) → IsTrue (is_same a b) → hash_writes a ≡ hash_writes b
same_writes a b e i = hash_writes (same_names a b e i)
