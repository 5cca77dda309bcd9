-- What a settle before a load or a store leaves.
use Rattle.std.proofs.Common.{◌≡◌, ℕ, ◌≤◌, inl, inr, Bool, true, false, cond, eqb, leb, ◌&&◌, Option, Some, None, refl, sym, ◌∙◌, ap, arith}
use Rattle.std.specs.List.{slice_get}
use Rattle.std.specs.Option.{option_map}
use Rattle.std.proofs.lemmas.Bool.{cases_Bool, eq-eqb, le-leb, and_from}
use Rattle.std.proofs.lemmas.Option.{slice_get-map}
use Rattle.pm_cores.specs.declared.entry.Owner.{Owner}
use Rattle.pm_cores.specs.Log.{line_at}
use Rattle.pm_cores.specs.Caches.{Caches, is_up_to, owner_is_up_to, settled, ready_to_load, ready_to_store, IsDirtyUnder}

pub up_to_itself : (owner : Owner) → is_up_to owner owner.core owner.epoch ≡ true
up_to_itself owner = and_from (eqb owner.core owner.core) (leb owner.epoch owner.epoch) (eq-eqb owner.core owner.core refl) (le-leb owner.epoch owner.epoch (omega arith))

under_at : (by owner : Owner) (it : Option (Option Owner)) → option_map (λ other. cond (owner_is_up_to by other) None other) it ≡ Some (Some owner) → (it ≡ Some (Some owner)) × (owner_is_up_to by (Some owner) ≡ false)
under_at by owner None is = cc
under_at by owner (Some None) is = cc
under_at by owner (Some (Some other)) is = elim (cases_Bool (is_up_to by other.core other.epoch)) [
  | inl hit ↦
      let nothing : Some None ≡ Some (Some owner) = sym (ap (λ (b : Bool). Some (cond b None (Some other))) hit) ∙ is in
      cc
  | inr miss ↦
      let same : Some (Some other) ≡ Some (Some owner) = sym (ap (λ (b : Bool). Some (cond b None (Some other))) miss) ∙ is in
      let one : other ≡ owner = cc in
      (same, sym (ap (λ (o : Owner). is_up_to by o.core o.epoch) one) ∙ miss)
]

-- a word that is dirty after a settle was so before, under an owner that did not go
pub settled_under : (caches : Caches) (by : Owner) (other : ℕ) (owner : Owner) → IsDirtyUnder (settled caches by) other owner → IsDirtyUnder caches other owner × (owner_is_up_to by (Some owner) ≡ false)
unfolding settled
settled_under caches by other owner under =
    under_at by owner (slice_get caches.owners other) (sym (slice_get-map (λ its. cond (owner_is_up_to by its) None its) caches.owners other) ∙ under)

pub settled_log : (caches : Caches) (by : Owner) → (settled caches by).log ≡ caches.log
unfolding settled
settled_log caches by = refl

pub settled_cores : (caches : Caches) (by : Owner) → (settled caches by).cores ≡ caches.cores
unfolding settled
settled_cores caches by = refl

pub settled_capacity : (caches : Caches) (by : Owner) → (settled caches by).capacity ≡ caches.capacity
unfolding settled
settled_capacity caches by = refl

pub settled_size : (caches : Caches) (by : Owner) → (settled caches by).words ≡ caches.words
unfolding settled
settled_size caches by = refl

pub record IsSameFrame (one two : Caches) : Type 0 where
  pub log : two.log ≡ one.log
  pub cores : two.cores ≡ one.cores
  pub capacity : two.capacity ≡ one.capacity
  pub size : two.words ≡ one.words

settled_frame : (caches : Caches) (by : Owner) → IsSameFrame caches (settled caches by)
settled_frame caches by = record { log = settled_log caches by; cores = settled_cores caches by; capacity = settled_capacity caches by; size = settled_size caches by }

frame_if : (test : Bool) (caches : Caches) (by : Owner) → IsSameFrame caches (cond test caches (settled caches by))
frame_if true caches by = record { log = refl; cores = refl; capacity = refl; size = refl }
frame_if false caches by = settled_frame caches by

pub load_frame : (caches : Caches) (core : ℕ) (found : Option Owner) → IsSameFrame caches (ready_to_load caches core found)
load_frame caches core None = record { log = refl; cores = refl; capacity = refl; size = refl }
load_frame caches core (Some owner) = frame_if (eqb owner.core core) caches owner

pub store_frame : (caches : Caches) (core epoch : ℕ) (found : Option Owner) → IsSameFrame caches (ready_to_store caches core epoch found)
store_frame caches core epoch None = record { log = refl; cores = refl; capacity = refl; size = refl }
store_frame caches core epoch (Some owner) = frame_if (eqb owner.core core && leb epoch owner.epoch) caches owner

module _ (caches : Caches) (core word : ℕ) where
  abbrev Each : Option Owner → Type 0
  Each found = (other : ℕ) (owner : Owner) → IsDirtyUnder caches other owner → line_at other ≡ line_at word → found ≡ Some owner

  pub gone_by : (by owner : Owner) (other : ℕ) → Each (Some by) → IsDirtyUnder (settled caches by) other owner → line_at other ≡ line_at word → ⊥
  gone_by by owner other each under line =
      let before = settled_under caches by other owner under in
      let same : Some by ≡ Some owner = each other owner before.0 line in
      let one : by ≡ owner = cc in
      let not : true ≡ false = sym (up_to_itself by) ∙ ap (λ (o : Owner). is_up_to by o.core o.epoch) one ∙ before.1 in
      cc
