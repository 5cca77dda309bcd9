-- What code reads in the vectors of caches.
use Rattle.std.proofs.Common.{◌≡◌, ◌≢◌, ℕ, suc, ◌-◌, ◌<◌, ◌≤◌, ◌∙◌, List, length, get_or, replicate, ap, sym, arith}
use Rattle.std.specs.Global.{Vec}
use Rattle.std.specs.Vec.{with_items}
use Rattle.std.proofs.lemmas.List.{get_or_read, length-replicate, with_items_is}
use Rattle.pm_cores.specs.declared.cores.Cores.TheInside.{Inside}
use Rattle.pm_cores.specs.declared.entry.Entry.TheVariants.{Store}
use Rattle.pm_cores.specs.declared.entry.Owner.{Owner}
use Rattle.pm_cores.specs.Caches.{IsDirtyUnder}
use Rattle.pm_cores.specs.Inside.{caches_of, HoldsCaches, Waits}
use Rattle.pm_cores.specs.Log.{core_barriers, IsStore}
use Rattle.pm_cores.proofs.Backs.{first_in}
use Rattle.pm_cores.proofs.Lists.{get_within}
use Rattle.pm_cores.proofs.Whole.{IsCoreLow, core_low}

-- the store since which a word waits
pub record IsWaiting (inside : Inside) (word first : ℕ) : Type 0 where
  pub is : get_or inside.since.items word 0 ≡ suc first
  pub in_befores : first < length inside.befores.items
  pub early : get_or inside.befores.items first 0 ≤ length inside.log.items

-- the first store of a word's owner that waits
pub record IsFirst (inside : Inside) (word : ℕ) (owner : Owner) (first : ℕ) : Type 0 where
  pub known : owner.core < inside.counts.len
  pub under : IsDirtyUnder (caches_of inside) word owner
  pub low : IsCoreLow inside owner.core first
  pub in_epochs : first < length inside.epochs.items
  pub found : (other : ℕ) × Waits inside.since.items inside.log.items first owner.core other

module _ (inside : Inside) (holds : HoldsCaches inside) where
  -- the number of the store since which a word waits
  pub since_read : (word got : ℕ) → word < inside.words → got ≡ get_or inside.since.items word got → got ≡ get_or inside.since.items word 0
  since_read word got low is = get_or_read inside.since.items word got (omega (arith, low, holds.sound.as_many_since)) is 0

  -- the number of the last store to a word
  pub last_read : (word got : ℕ) → word < inside.words → got ≡ get_or inside.lasts.items word got → got ≡ get_or inside.lasts.items word 0
  last_read word got low is = get_or_read inside.lasts.items word got (omega (arith, low, holds.recorded.as_many_lasts)) is 0

  -- the epoch of a core
  pub epoch_read : (core got : ℕ) → core < inside.counts.len → got ≡ get_or inside.counts.items core got → got ≡ core_barriers core inside.log.items
  epoch_read core got known is = get_or_read inside.counts.items core got (omega (arith, known, inside.counts.ok.0)) is 0 ∙ holds.counts core known

  -- the low of a core
  pub low_read : (core got : ℕ) → core < inside.counts.len → got ≡ get_or inside.lows.items core got → IsCoreLow inside core got
  low_read core got known is =
      rw (get_or_read inside.lows.items core got (omega (arith, known, inside.lows.ok.0, holds.as_many_lows)) is 0) (core_low inside holds core known)

  -- a word to which there is a store has its number
  pub stored_in_since : (place core word : ℕ) → IsStore inside.log.items place core word → word < length inside.since.items
  stored_in_since place core word store = omega (arith, holds.sound.words place core word store, holds.sound.as_many_since)

  -- .. also among those of the last stores
  pub stored_in_lasts : (place core word : ℕ) → IsStore inside.log.items place core word → word < length inside.lasts.items
  stored_in_lasts place core word store = omega (arith, holds.sound.words place core word store, holds.recorded.as_many_lasts)

  -- a number that is not 0 reports a store
  pub waiting_read : (word got : ℕ) → got ≡ get_or inside.since.items word 0 → got ≢ 0 → IsWaiting inside word (got - 1)
  waiting_read word got read some =
      let first_is : got ≡ suc (got - 1) = omega (arith, some) in
      let store = holds.sound.first word (got - 1) (sym read ∙ first_is) in
      let in_log = get_within inside.log.items (got - 1) (Store store.0 word store.1.value) store.1.is in
      record {
        is = sym read ∙ first_is;
        in_befores = omega (arith, in_log, holds.recorded.as_many_befores);
        early = omega (arith, in_log, holds.recorded.within (got - 1) store.0 word store.1);
      }

  -- where the search for a core's first store that waits ends, for the owner of a word
  pub first_read : (word : ℕ) (owner : Owner) (first : ℕ) → owner.core < inside.counts.len → IsDirtyUnder (caches_of inside) word owner →
      IsCoreLow inside owner.core first →
      (first < length inside.log.items → (other : ℕ) × Waits inside.since.items inside.log.items first owner.core other) → IsFirst inside word owner first
  first_read word owner first known under low found =
      let within = first_in inside.counts.len _ _ _ _ inside.room holds.sound word owner under first low.is_low in
      record { known = known; under = under; low = low; in_epochs = omega (arith, within, holds.sound.as_many_epochs); found = found within }

-- a vector of zeros
pub zeroed : (vec : Vec ℕ) (old new : List ℕ) → old ≡ vec.items → new ≡ replicate (length old) 0 → (with_items vec new).items ≡ replicate (length vec.items) 0
zeroed vec old new is zero =
    with_items_is vec new (ap length zero ∙ length-replicate (length old) 0 ∙ ap length is ∙ sym vec.ok.0) ∙ zero ∙ ap (λ xs. replicate (length xs) 0) is
