-- What `put` leaves.
use Rattle.std.proofs.Common.{◌≡◌, ℕ, ◌≤◌, true, length, sym, ap, true≢false}
use Rattle.std.specs.Prelude.{Result, Ok, Err, OnOk, OnErr}
use Rattle.std.specs.Result.{is_ok}
use Rattle.lru.specs.LruCache.{LruCache, lru_cache, put_entries, IsValid}
use Rattle.bp_limits.specs.CallLimits.{max_name}
use Rattle.bp_layout.specs.Hints.{NameIn}
use Rattle.bp_cache.specs.Names.{AreShort, is_same, learned, remembered}
use Rattle.bp_cache.proofs.Pairs.{put-learned, short-put}

module _ {T E : Type 0} (before after : LruCache NameIn ℕ) (name : NameIn) (slot : ℕ) where
  pub put-short : (result : Result T E) → AreShort before.entries → length name.1 ≤ max_name →
      OnOk result (after ≡ lru_cache (put_entries is_same before name slot) before.cap) → OnErr result (after ≡ before) → AreShort after.entries
  put-short (Ok old) short low put same = rw put (short-put before name slot short low)
  put-short (Err e) short low put same = rw same short

  pub put-known : (result : Result T E) → IsValid is_same before →
      OnOk result (after ≡ lru_cache (put_entries is_same before name slot) before.cap) → is_ok result ≡ true →
      remembered after.entries after.cap ≡ remembered (learned name slot before.cap before.entries) before.cap
  put-known (Ok old) valid put ok = rw put (ap (λ es. remembered es before.cap) (put-learned before name slot valid))
  put-known (Err e) valid put ok = absurd (true≢false (sym ok))
