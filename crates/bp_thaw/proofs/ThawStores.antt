-- The stores of links, by what the links are.
use Rattle.std.proofs.Common.{◌≡◌, ℕ, List, [], ◌∷◌, ◌++◌, subst}
use Rattle.pm_epochs.specs.declared.event.Event.TheVariants.{Barrier}
use Rattle.pm_epochs.specs.May.{links_of}
use Rattle.pm_region.specs.Memory.{Memory, Adds}

pub stored_links : (mid last : Memory) (links stored : List (ℕ × ℕ)) → stored ≡ links → Adds mid last (Barrier ∷ links_of stored ++ Barrier ∷ []) → Adds mid last (Barrier ∷ links_of links ++ Barrier ∷ [])
stored_links mid last links stored e adds = subst (λ xs. Adds mid last (Barrier ∷ links_of xs ++ Barrier ∷ [])) e adds
