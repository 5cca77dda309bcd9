-- What a choice says.
use Rattle.std.proofs.Common.{◌≡◌, ℕ, zero, suc, ◌+◌, ◌<◌, ◌≤◌, inl, inr, Bool, true, false, not, cond, eqb, ltb, ◌&&◌, Option, Some, None, List, [], ◌∷◌, ◌++◌, length, get_or, refl, sym, ◌∙◌, ap, subst, arith, length-append, append-nil}
use Rattle.std.specs.List.{slice_get}
use Rattle.std.proofs.lemmas.Bool.{cases_Bool, and_parts, and_cases, eqb-true, eqb-false, ltb-true, ltb-false}
use Rattle.pm_cores.specs.declared.entry.Entry.{Entry}
use Rattle.pm_cores.specs.declared.entry.Entry.TheVariants.{Store}
use Rattle.pm_cores.specs.declared.entry.Owner.{Owner}
use Rattle.pm_cores.specs.Log.{core_barriers, epoch_at}
use Rattle.pm_cores.specs.Choice.{first_epoch, dirty_epoch, flag_in, mask_to}
use Rattle.pm_cores.specs.Inside.{waits_at, owners_of, flags_of, entry_is_back, caches_by, Waits, AreCounted, AreSound, IsLow}
use Rattle.pm_cores.proofs.Lists.{get_within}
use Rattle.pm_cores.proofs.Logs.{epoch_at-le, epoch_at-most}
use Rattle.pm_cores.proofs.Waiting.{held}
use Rattle.pm_cores.proofs.Views.{get_map_range, under_seen, under_waits}

module _ (since : List ℕ) (log : List Entry) (epoch : ℕ) where
  abbrev mask : ℕ → List Bool
  mask place = mask_to 0 epoch log (flags_of since log) place

  mask_next : (place : ℕ) (entry : Entry) → slice_get log place ≡ Some entry → mask (place + 1) ≡ mask place ++ flag_in 0 epoch log (flags_of since log) place (Some entry)
  mask_next place entry is = ap mask add-one-is ∙ ap (λ e. mask place ++ flag_in 0 epoch log (flags_of since log) place e) is
    where
      add-one-is : place + 1 ≡ suc place
      add-one-is = omega arith

  pub mask_none : (place : ℕ) (entry : Entry) → slice_get log place ≡ Some entry → flag_in 0 epoch log (flags_of since log) place (Some entry) ≡ [] → mask (place + 1) ≡ mask place
  mask_none place entry is none = mask_next place entry is ∙ ap (λ (bs : List Bool). mask place ++ bs) none ∙ append-nil (mask place)

  pub mask_store : (epochs : List ℕ) → AreCounted log epochs → (place core word value : ℕ) → slice_get log place ≡ Some (Store core word value) → (counts : Bool) → counts ≡ (eqb core 0 && eqb (get_or epochs place 0) epoch) →
      mask (place + 1) ≡ mask place ++ cond counts (not (waits_at (get_or since word 0) place) ∷ []) []
  mask_store epochs counted place core word value is counts counts_is =
      let low : place < length log = get_within log place (Store core word value) is in
      let flag : get_or (flags_of since log) place false ≡ not (waits_at (get_or since word 0) place) =
      get_map_range (λ at. entry_is_back since at (slice_get log at)) (length log) place false low ∙ ap (entry_is_back since place) is in
      let at : get_or epochs place 0 ≡ epoch_at log core place = counted place (Store core word value) is in
      mask_next place (Store core word value) is
      ∙ ap (λ n. mask place ++ cond (eqb core 0 && eqb n epoch) (get_or (flags_of since log) place false ∷ []) []) (sym at)
      ∙ ap (λ b. mask place ++ cond b (get_or (flags_of since log) place false ∷ []) []) (sym counts_is)
      ∙ ap (λ b. mask place ++ cond counts (b ∷ []) []) flag

pub few_more : (xs : List Bool) (counts flag : Bool) (k : ℕ) → length xs ≤ k → length (xs ++ cond counts (flag ∷ []) []) ≤ k + 1
few_more xs true flag k few = omega (arith, length-append xs (flag ∷ []))
few_more xs false flag k few = omega (arith, length-append xs [])

-- ## The epoch

epoch_step : (core otherwise least : ℕ) (owner : Owner) → least ≤ otherwise → (owner.core ≡ core → least ≤ owner.epoch) → least ≤ cond (eqb owner.core core && ltb owner.epoch otherwise) owner.epoch otherwise
epoch_step core otherwise least owner low each = elim (cases_Bool (eqb owner.core core && ltb owner.epoch otherwise)) [
  | inl hit ↦ let parts = and_parts (eqb owner.core core) (ltb owner.epoch otherwise) hit in rw hit (each (eqb-true owner.core core parts.0))
  | inr miss ↦ rw miss low
]

pub first_epoch_least : (core otherwise least : ℕ) (owners : List (Option Owner)) → least ≤ otherwise → ((word : ℕ) (owner : Owner) → slice_get owners word ≡ Some (Some owner) → owner.core ≡ core → least ≤ owner.epoch) → least ≤ first_epoch core otherwise owners
first_epoch_least core otherwise least [] low each = low
first_epoch_least core otherwise least (None ∷ owners) low each = first_epoch_least core otherwise least owners low (λ word owner under same. each (suc word) owner under same)
first_epoch_least core otherwise least (Some first ∷ owners) low each =
    first_epoch_least core (cond (eqb first.core core && ltb first.epoch otherwise) first.epoch otherwise) least owners
    (epoch_step core otherwise least first low (λ same. each 0 first refl same)) (λ word owner under same. each (suc word) owner under same)

step_most : (core otherwise : ℕ) (owner : Owner) → cond (eqb owner.core core && ltb owner.epoch otherwise) owner.epoch otherwise ≤ otherwise
step_most core otherwise owner = elim (cases_Bool (eqb owner.core core && ltb owner.epoch otherwise)) [
  | inl hit ↦ let parts = and_parts (eqb owner.core core) (ltb owner.epoch otherwise) hit in rw hit (let less = ltb-true owner.epoch otherwise parts.1 in omega arith)
  | inr miss ↦ rw miss (omega arith)
]

step_own : (core otherwise : ℕ) (owner : Owner) → owner.core ≡ core → cond (eqb owner.core core && ltb owner.epoch otherwise) owner.epoch otherwise ≤ owner.epoch
step_own core otherwise owner same = elim (cases_Bool (eqb owner.core core && ltb owner.epoch otherwise)) [
  | inl hit ↦ rw hit (omega arith)
  | inr miss ↦ rw miss (elim (and_cases (eqb owner.core core) (ltb owner.epoch otherwise) miss) [
    | inl differ ↦ absurd (eqb-false owner.core core differ same)
    | inr above ↦ ltb-false owner.epoch otherwise above
  ])
]

pub first_epoch_most : (core otherwise : ℕ) (owners : List (Option Owner)) → first_epoch core otherwise owners ≤ otherwise
first_epoch_most core otherwise [] = omega arith
first_epoch_most core otherwise (None ∷ owners) = first_epoch_most core otherwise owners
first_epoch_most core otherwise (Some first ∷ owners) =
    let rest = first_epoch_most core (cond (eqb first.core core && ltb first.epoch otherwise) first.epoch otherwise) owners in
    let step = step_most core otherwise first in
    omega arith

pub first_epoch_own : (core otherwise : ℕ) (owners : List (Option Owner)) (word : ℕ) (owner : Owner) → slice_get owners word ≡ Some (Some owner) → owner.core ≡ core → first_epoch core otherwise owners ≤ owner.epoch
first_epoch_own core otherwise [] word owner under same = cc
first_epoch_own core otherwise (None ∷ owners) zero owner under same = cc
first_epoch_own core otherwise (None ∷ owners) (suc word) owner under same = first_epoch_own core otherwise owners word owner under same
first_epoch_own core otherwise (Some first ∷ owners) zero owner under same =
    let one : first ≡ owner = cc in
    let here : first.core ≡ core = ap (λ (o : Owner). o.core) one ∙ same in
    let rest = first_epoch_most core (cond (eqb first.core core && ltb first.epoch otherwise) first.epoch otherwise) owners in
    let step = step_own core otherwise first here in
    let epoch = ap (λ (o : Owner). o.epoch) one in
    omega arith
first_epoch_own core otherwise (Some first ∷ owners) (suc word) owner under same = first_epoch_own core (cond (eqb first.core core && ltb first.epoch otherwise) first.epoch otherwise) owners word owner under same

module _ (cores : ℕ) (words : ℕ) (since : List ℕ) (log : List Entry) (epochs : List ℕ) (capacity : ℕ) (sound : AreSound words since log epochs) (core first : ℕ) (low : IsLow since log core first) where
  pub open_epoch_found : (word : ℕ) → Waits since log first core word → get_or epochs first 0 ≡ dirty_epoch core (caches_by cores words since log epochs capacity)
  open_epoch_found word waits =
      let is : get_or epochs first 0 ≡ epoch_at log core first = sound.counted first (Store core word waits.store.value) waits.store.is in
      let most = epoch_at-most log core first in
      let own = first_epoch_own core (core_barriers core log) (owners_of since log epochs) word (record { core = core; epoch = epoch_at log core first }) (under_waits words since log epochs sound core word first core word waits) refl in
      let least = first_epoch_least core (core_barriers core log) (get_or epochs first 0) (owners_of since log epochs) (omega arith)
      (λ other owner under same.
      let its = held words since log epochs sound other owner (under_seen since log epochs other owner under) in
      let late = low its.first other (subst (λ c. Waits since log its.first c other) same its.waits) in
      let more = epoch_at-le log core first its.first late in
      let epoch = its.epoch in
      let same_epoch = ap (λ c. epoch_at log c its.first) same in
      omega arith) in
      omega arith

  pub open_epoch_none : length log ≤ first → core_barriers core log ≡ dirty_epoch core (caches_by cores words since log epochs capacity)
  open_epoch_none past =
      let most = first_epoch_most core (core_barriers core log) (owners_of since log epochs) in
      let least = first_epoch_least core (core_barriers core log) (core_barriers core log) (owners_of since log epochs) (omega arith)
      (λ other owner under same.
      let its = held words since log epochs sound other owner (under_seen since log epochs other owner under) in
      let waits = subst (λ c. Waits since log its.first c other) same its.waits in
      let late = low its.first other waits in
      let within = get_within log its.first (Store core other waits.store.value) waits.store.is in
      absurd (omega arith)) in
      omega arith
