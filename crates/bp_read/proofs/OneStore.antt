-- A memory after one store.
use Rattle.std.proofs.Common.{◌≡◌, ◌≢◌, ℕ, ◌<◌, [], ◌∷◌, length, ap, arith, get_or-set_same, get_or-set_other}
use Rattle.pm_epochs.specs.declared.event.Event.TheVariants.{Store}
use Rattle.pm_region.specs.Memory.{Memory, current_words, Adds}
use Rattle.pm_region.proofs.MemoryLaws.{base-adds, current_words-adds, length-current_words}
use Rattle.bp_layout.specs.Words.{word}

module _ (old new : Memory) (place value : ℕ) (adds : Adds old new (Store place value ∷ [])) where
  pub stored_here : place < length old.base → word (current_words new) place ≡ value
  stored_here low =
      let inside : place < length (current_words old) = omega (arith, low, length-current_words old) in
      rw (current_words-adds old new _ adds) (get_or-set_same (current_words old) place value 0 inside)

  pub stored_elsewhere : (other : ℕ) → other ≢ place → word (current_words new) other ≡ word (current_words old) other
  stored_elsewhere other apart = rw (current_words-adds old new _ adds) (get_or-set_other (current_words old) place other value 0 apart)

  pub base_stays : length new.base ≡ length old.base
  base_stays = ap length (base-adds old new _ adds)
