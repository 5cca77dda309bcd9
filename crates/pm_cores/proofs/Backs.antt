-- Which words may go back, and one that goes.
use Rattle.std.proofs.Common.{◌≡◌, ◌≢◌, ℕ, zero, suc, ◌<◌, ◌≤◌, inl, inr, Bool, true, false, not, eqb, ◌&&◌, ◌||◌, Option, Some, None, List, [], ◌∷◌, length, get_or, set, refl, sym, ◌∙◌, ap, subst, arith}
use Rattle.std.specs.Prelude.{map}
use Rattle.std.specs.List.{slice_get, range_with_len}
use Rattle.std.proofs.lemmas.Bool.{cases_Bool, eqb-true, eq-eqb, and_from, or_right, or_left}
use Rattle.std.proofs.lemmas.Bool.Decides.{eqb_tells}
use Rattle.std.proofs.lemmas.List.{get_or-set_same, get_or-set_other, length-set}
use Rattle.pm_cores.specs.declared.entry.Entry.{Entry}
use Rattle.pm_cores.specs.declared.entry.Entry.TheVariants.{Load, Store, Barrier}
use Rattle.pm_cores.specs.declared.entry.Owner.{Owner}
use Rattle.pm_cores.specs.Log.{epoch_at, IsStore}
use Rattle.pm_cores.specs.Caches.{Caches, entry_is_of, with_back, written_by, written_under, owner_at, IsDirtyUnder, MayLeave, IsNeeded}
use Rattle.pm_cores.specs.Inside.{waits_at, owner_since, owners_of, flags_of, entry_is_back, caches_by, Waits, AreSound, IsLow}
use Rattle.pm_cores.proofs.Lists.{get_within}
use Rattle.pm_cores.proofs.Logs.{epoch_at-le}
use Rattle.pm_cores.proofs.Waiting.{owner_of_waiting, held}
use Rattle.pm_cores.proofs.Clearing.{IsCleared, cleared_sound}
use Rattle.pm_cores.proofs.Views.{under_seen, seen_under, owner_seen, map_range_same, get_map_range, under_waits}

module _ (cores : ℕ) (words : ℕ) (since : List ℕ) (log : List Entry) (epochs : List ℕ) (capacity : ℕ) (sound : AreSound words since log epochs) where
  abbrev caches : Caches
  caches = caches_by cores words since log epochs capacity

  module _ (word : ℕ) (owner : Owner) (under : IsDirtyUnder caches word owner) (first : ℕ) (low : IsLow since log owner.core first) where
    pub first_in : first < length log
    first_in =
        let its = held words since log epochs sound word owner (under_seen since log epochs word owner under) in
        let at = low its.first word its.waits in
        let store = its.waits.store in
        let within = get_within log its.first (Store owner.core word store.value) store.is in
        omega arith

    module _ (found : (other : ℕ) × Waits since log first owner.core other) where
      first_epoch : get_or epochs first 0 ≡ epoch_at log owner.core first
      first_epoch = sound.counted first (Store owner.core found.0 found.1.store.value) found.1.store.is

      pub earliest : (other : ℕ) (its : Owner) → IsDirtyUnder caches other its → its.core ≡ owner.core → get_or epochs first 0 ≤ its.epoch
      earliest other its its_under same =
          let h = held words since log epochs sound other its (under_seen since log epochs other its its_under) in
          let waits = subst (λ c. Waits since log h.first c other) same h.waits in
          let at = low h.first other waits in
          let more = epoch_at-le log owner.core first h.first at in
          let epoch = h.epoch in
          let same_epoch = ap (λ c. epoch_at log c h.first) same in
          let is = first_epoch in
          omega arith

      pub may_go : get_or epochs first 0 ≡ owner.epoch → MayLeave caches word
      may_go same = record { owner = owner; under = under; earliest = λ other its its_under core. let least = earliest other its its_under core in omega arith }

      pub is_needed : get_or epochs first 0 ≢ owner.epoch → (needs : ℕ) → owner_since log epochs (get_or since needs 0) ≡ Some (record { core = owner.core; epoch = get_or epochs first 0 }) →
          ((other : ℕ) → owner_since log epochs (get_or since other 0) ≡ Some (record { core = owner.core; epoch = get_or epochs first 0 }) → needs ≤ other) → IsNeeded caches word needs
      is_needed differ needs its_under lowest =
          let least = earliest word owner under refl in
          record {
            owner = owner;
            under = under;
            first = record { core = owner.core; epoch = get_or epochs first 0 };
            needed = seen_under since log epochs needs (record { core = owner.core; epoch = get_or epochs first 0 }) its_under;
            same_core = refl;
            earlier = omega arith;
            earliest = earliest;
            lowest = λ other other_under. lowest other (under_seen since log epochs other (record { core = owner.core; epoch = get_or epochs first 0 }) other_under);
          }

  -- one word goes back
  module _ (word : ℕ) (within : word < words) (may : MayLeave caches word) where
    abbrev since2 : List ℕ
    since2 = set since word 0

    abbrev gone : ℕ → Bool
    gone other = eqb other word

    in_since : word < length since
    in_since = let size = sound.as_many_since in omega arith

    one_closed : (place core other later its_core : ℕ) → Waits since log place core other → Waits since log later core its_core
        → epoch_at log core place < epoch_at log core later → gone its_core ≡ true → gone other ≡ true
    one_closed place core other later its_word waits its_waits less is =
        let same = eqb-true its_word word is in
        let here : Waits since log later core word = subst (λ n. Waits since log later core n) same its_waits in
        let own = owner_of_waiting words since log epochs sound later core word here in
        let owner_is : Some (record { core = core; epoch = epoch_at log core later }) ≡ Some may.owner = sym own ∙ under_seen since log epochs word may.owner may.under in
        let its : Owner = record { core = core; epoch = epoch_at log core later } in
        let one : its ≡ may.owner = cc in
        let core_is : core ≡ may.owner.core = ap (λ (o : Owner). o.core) one in
        let epoch_is : epoch_at log core later ≡ may.owner.epoch = ap (λ (o : Owner). o.epoch) one in
        let most = may.earliest other (record { core = core; epoch = epoch_at log core place }) (under_waits words since log epochs sound core word place core other waits) core_is in
        absurd (omega arith)

    pub cleared : IsCleared words since log epochs since2 gone
    cleared = record {
      sound = sound;
      since_size = length-set since word 0;
      since_is = λ other. elim (eqb_tells other word) [
        | inl same ↦ rw (same.0, same.1) (get_or-set_same since word 0 0 in_since)
        | inr differ ↦ rw differ.0 (get_or-set_other since word other 0 0 differ.1)
      ];
      closed = one_closed;
    }

    pub written_sound : AreSound words since2 log epochs
    written_sound = cleared_sound words since log epochs since2 gone cleared

    map_set : (f : ℕ → Option Owner) (xs : List ℕ) (i y : ℕ) → map f (set xs i y) ≡ set (map f xs) i (f y)
    map_set f [] i y = refl
    map_set f (x ∷ xs) zero y = refl
    map_set f (x ∷ xs) (suc i) y = ap (λ (os : List (Option Owner)). f x ∷ os) (map_set f xs i y)

    written_flag : (place : ℕ) (entry : Option Entry) → slice_get log place ≡ entry → entry_is_back since2 place entry ≡ (entry_is_back since place entry || entry_is_of may.owner word log place entry)
    written_flag place None is = refl
    written_flag place (Some (Load core at)) is = refl
    written_flag place (Some (Barrier core)) is = refl
    written_flag place (Some (Store core at value)) is = elim (eqb_tells at word) [
      | inl same ↦
          let zero_is : get_or since2 at 0 ≡ 0 = ap (λ n. get_or since2 n 0) same.1 ∙ get_or-set_same since word 0 0 in_since in
          ap (λ n. not (waits_at n place)) zero_is ∙ sym (elim (cases_Bool (waits_at (get_or since at 0) place)) [
            | inl waits ↦
                let store : IsStore log place core at = record { value = value; is = is } in
                let own = owner_of_waiting words since log epochs sound place core at (record { store = store; waits = waits }) in
                let here = ap (λ n. owner_since log epochs (get_or since n 0)) (sym same.1) in
                let owner_is : Some (record { core = core; epoch = epoch_at log core place }) ≡ Some may.owner = sym own ∙ sym here ∙ under_seen since log epochs word may.owner may.under in
                let its : Owner = record { core = core; epoch = epoch_at log core place } in
                let one : its ≡ may.owner = cc in
                let core_is : core ≡ may.owner.core = ap (λ (o : Owner). o.core) one in
                let epoch_is : epoch_at log core place ≡ may.owner.epoch = ap (λ (o : Owner). o.epoch) one in
                or_right (not (waits_at (get_or since at 0) place)) (entry_is_of may.owner word log place (Some (Store core at value)))
                (and_from (eqb at word) (eqb core may.owner.core && eqb (epoch_at log core place) may.owner.epoch) same.0
                (and_from (eqb core may.owner.core) (eqb (epoch_at log core place) may.owner.epoch) (eq-eqb core may.owner.core core_is) (eq-eqb (epoch_at log core place) may.owner.epoch epoch_is)))
            | inr back ↦ or_left (not (waits_at (get_or since at 0) place)) (entry_is_of may.owner word log place (Some (Store core at value))) (ap not back)
          ])
      | inr differ ↦
          let stays : get_or since2 at 0 ≡ get_or since at 0 = get_or-set_other since word at 0 0 differ.1 in
          rw (stays, differ.0) (or_false (not (waits_at (get_or since at 0) place)))
    ]
      where
        or_false : (b : Bool) → b ≡ (b || false)
        or_false true = refl
        or_false false = refl

    written_owner : owner_at caches word ≡ Some may.owner
    written_owner = owner_seen since log epochs word ∙ under_seen since log epochs word may.owner may.under

    by_owner : caches_by cores words since2 log epochs capacity ≡ written_by caches word may.owner
    unfolding written_by
    by_owner =
        let owners_are : owners_of since2 log epochs ≡ set (owners_of since log epochs) word None = map_set (owner_since log epochs) since word 0 in
        let flags_are : flags_of since2 log ≡ map (λ place. get_or (flags_of since log) place false || entry_is_of may.owner word log place (slice_get log place)) (range_with_len 0 (length log)) =
        map_range_same (λ place. entry_is_back since2 place (slice_get log place))
        (λ place. get_or (flags_of since log) place false || entry_is_of may.owner word log place (slice_get log place)) (length log)
        (λ place low. written_flag place (slice_get log place) refl
        ∙ ap (λ b. b || entry_is_of may.owner word log place (slice_get log place)) (sym (get_map_range (λ at. entry_is_back since at (slice_get log at)) (length log) place false low))) in
        rw (owners_are, flags_are) refl

    pub written_seen : caches_by cores words since2 log epochs capacity ≡ with_back caches word
    written_seen = by_owner ∙ sym (ap (written_under caches word) written_owner)
