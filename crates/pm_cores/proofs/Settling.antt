-- A settle goes through the log.
use Rattle.std.proofs.Common.{◌≡◌, ◌≢◌, ℕ, suc, ◌+◌, ◌<◌, ◌≤◌, inl, inr, Bool, true, false, cond, eqb, leb, ◌&&◌, Option, Some, None, List, length, get_or, refl, sym, ◌∙◌, ap, subst, arith}
use Rattle.std.proofs.lemmas.Bool.{cases_Bool, cases_eq, cases_lt, and_parts, eqb-true, leb-true, le-leb, eq-eqb, lt-leb, and_from, and_right}
use Rattle.std.proofs.lemmas.Bool.Decides.{eqb_tells}
use Rattle.pm_cores.specs.declared.entry.Entry.{Entry}
use Rattle.pm_cores.specs.declared.entry.Entry.TheVariants.{Store}
use Rattle.pm_cores.specs.declared.entry.Owner.{Owner}
use Rattle.pm_cores.specs.Log.{epoch_at, IsStore}
use Rattle.pm_cores.specs.Caches.{is_up_to, owner_is_up_to}
use Rattle.pm_cores.specs.Inside.{waits_at, owner_since, Waits, AreSound, IsLow}
use Rattle.pm_cores.proofs.Clearing.{IsCleared}
use Rattle.pm_cores.proofs.Lists.{get_within}
use Rattle.pm_cores.proofs.Logs.{epoch_at-le}
use Rattle.pm_cores.proofs.Waiting.{waits_true, first_waits, owner_of_waiting, held}

-- whether a word goes back with an owner's
abbrev pub is_due : Owner → List Entry → List ℕ → ℕ → Bool
is_due owner log epochs number = owner_is_up_to owner (owner_since log epochs number)

-- whether it has gone, where the log was gone through up to a place
abbrev pub has_gone : Owner → List Entry → List ℕ → ℕ → ℕ → Bool
has_gone owner log epochs place number = is_due owner log epochs number && leb number place

pub record IsSettledTo (since : List ℕ) (log : List Entry) (epochs : List ℕ) (owner : Owner) (low place : ℕ) (since2 : List ℕ) : Type 0 where
  pub since_is : (word : ℕ) → get_or since2 word 0 ≡ cond (has_gone owner log epochs place (get_or since word 0)) 0 (get_or since word 0)
  pub passed : (other word : ℕ) → IsStore log other owner.core word → low ≤ other → other < place → get_or epochs other 0 ≤ owner.epoch

up_to_parts : (owner other : Owner) → is_up_to owner other.core other.epoch ≡ true → (other.core ≡ owner.core) × (other.epoch ≤ owner.epoch)
up_to_parts owner other is =
    let parts = and_parts (eqb other.core owner.core) (leb other.epoch owner.epoch) is in
    (eqb-true other.core owner.core parts.0, leb-true other.epoch owner.epoch parts.1)

module _ (words : ℕ) (since : List ℕ) (log : List Entry) (epochs : List ℕ) (sound : AreSound words since log epochs) (owner : Owner) where
  pub record Due (word : ℕ) : Type 0 where
    pub first : ℕ
    pub since_is : get_or since word 0 ≡ suc first
    pub waits : Waits since log first owner.core word
    pub epoch : epoch_at log owner.core first ≤ owner.epoch

  due_by : (word : ℕ) (by : Option Owner) → owner_since log epochs (get_or since word 0) ≡ by → owner_is_up_to owner by ≡ true → Due word
  due_by word None is up = cc
  due_by word (Some other) is up =
      let parts = up_to_parts owner other up in
      let its = held words since log epochs sound word other is in
      let epoch : epoch_at log owner.core its.first ≤ owner.epoch = let same = ap (λ c. epoch_at log c its.first) parts.0 in let at = its.epoch in let most = parts.1 in omega arith in
      record { first = its.first; since_is = its.since_is; waits = subst (λ c. Waits since log its.first c word) parts.0 its.waits; epoch = epoch }

  pub due : (word : ℕ) → is_due owner log epochs (get_or since word 0) ≡ true → Due word
  due word is = due_by word (owner_since log epochs (get_or since word 0)) refl is

  pub waiting_due : (place word : ℕ) → Waits since log place owner.core word → epoch_at log owner.core place ≤ owner.epoch → is_due owner log epochs (get_or since word 0) ≡ true
  waiting_due place word waits low =
      ap (owner_is_up_to owner) (owner_of_waiting words since log epochs sound place owner.core word waits)
      ∙ and_from (eqb owner.core owner.core) (leb (epoch_at log owner.core place) owner.epoch) (eq-eqb owner.core owner.core refl) (le-leb (epoch_at log owner.core place) owner.epoch low)

  epoch_is : (place word : ℕ) → IsStore log place owner.core word → get_or epochs place 0 ≡ epoch_at log owner.core place
  epoch_is place word store = sound.counted place (Store owner.core word store.value) store.is

  gone_next : (place word : ℕ) → (get_or since word 0 ≡ suc place → is_due owner log epochs (get_or since word 0) ≡ false) → has_gone owner log epochs (place + 1) (get_or since word 0) ≡ has_gone owner log epochs place (get_or since word 0)
  gone_next place word not_now = elim (cases_eq (get_or since word 0) (suc place)) [
    | inl here ↦ let never = not_now here in rw never refl
    | inr differ ↦
        let same : leb (get_or since word 0) (place + 1) ≡ leb (get_or since word 0) place = later (get_or since word 0) place differ in
        ap (λ b. is_due owner log epochs (get_or since word 0) && b) same
  ]
    where
      later : (number place : ℕ) → number ≢ suc place → leb number (place + 1) ≡ leb number place
      later number place differ = elim (cases_lt place number) [
        | inl above ↦ lt-leb number (place + 1) (omega arith) ∙ sym (lt-leb number place above)
        | inr within ↦ le-leb number (place + 1) (omega arith) ∙ sym (le-leb number place within)
      ]

  gone_low : (low : ℕ) → IsLow since log owner.core low → (word : ℕ) → has_gone owner log epochs low (get_or since word 0) ≡ false
  gone_low low is_low word = elim (cases_Bool (is_due owner log epochs (get_or since word 0))) [
    | inl hit ↦
        let its = due word hit in
        let at = is_low its.first word its.waits in
        let above : low < get_or since word 0 = let e = its.since_is in omega arith in
        and_right (is_due owner log epochs (get_or since word 0)) (leb (get_or since word 0) low) (lt-leb (get_or since word 0) low above)
    | inr miss ↦ rw miss refl
  ]

  pub settled_start : (low : ℕ) → IsLow since log owner.core low → IsSettledTo since log epochs owner low low since
  settled_start low is_low = record {
    since_is = λ word. ap (λ b. cond b 0 (get_or since word 0)) (sym (gone_low low is_low word));
    passed = λ other word store high less. absurd (omega arith);
  }

  module _ (low place : ℕ) (since2 : List ℕ) (so_far : IsSettledTo since log epochs owner low place since2) where
    -- at the place stands no store of the core
    pub settled_skip : ((word : ℕ) → IsStore log place owner.core word → ⊥) → IsSettledTo since log epochs owner low (place + 1) since2
    settled_skip none =
        let same : (word : ℕ) → has_gone owner log epochs (place + 1) (get_or since word 0) ≡ has_gone owner log epochs place (get_or since word 0) =
        λ word. gone_next place word (λ here. elim (cases_Bool (is_due owner log epochs (get_or since word 0))) [
          | inl hit ↦
              let its = due word hit in
              let at : its.first ≡ place = let e : suc its.first ≡ suc place = sym its.since_is ∙ here in omega arith in
              absurd (none word (subst (λ n. IsStore log n owner.core word) at its.waits.store))
          | inr miss ↦ miss
        ]) in
        record {
          since_is = λ word. so_far.since_is word ∙ ap (λ b. cond b 0 (get_or since word 0)) (sym (same word));
          passed = λ other word store high less. elim (cases_eq other place) [
            | inl here ↦ absurd (none word (subst (λ n. IsStore log n owner.core word) here store))
            | inr differ ↦ so_far.passed other word store high (omega arith)
          ];
        }

    -- there stands one, of an epoch that goes
    pub settled_here : (here : ℕ) → IsStore log place owner.core here → get_or epochs place 0 ≤ owner.epoch → (since3 : List ℕ) →
        ((other : ℕ) → get_or since3 other 0 ≡ cond (eqb other here && eqb (get_or since2 other 0) (place + 1)) 0 (get_or since2 other 0)) →
        IsSettledTo since log epochs owner low (place + 1) since3
    settled_here here store low_epoch since3 since3_is = record {
      since_is = both;
      passed = λ other word its high less. elim (cases_eq other place) [
        | inl same ↦ rw same low_epoch
        | inr differ ↦ so_far.passed other word its high (omega arith)
      ];
    }
      where
        stays : (word : ℕ) → get_or since word 0 ≢ suc place → get_or since2 word 0 ≢ place + 1
        stays word differ = elim (cases_Bool (has_gone owner log epochs place (get_or since word 0))) [
          | inl hit ↦ λ e. let is : get_or since2 word 0 ≡ 0 = so_far.since_is word ∙ ap (λ b. cond b 0 (get_or since word 0)) hit in omega arith
          | inr miss ↦ λ e. let is : get_or since2 word 0 ≡ get_or since word 0 = so_far.since_is word ∙ ap (λ b. cond b 0 (get_or since word 0)) miss in differ (omega arith)
        ]

        -- nothing is written at this word
        unwritten : (word : ℕ) → eqb word here && eqb (get_or since2 word 0) (place + 1) ≡ false → (get_or since word 0 ≡ suc place → is_due owner log epochs (get_or since word 0) ≡ false) →
            get_or since3 word 0 ≡ cond (has_gone owner log epochs (place + 1) (get_or since word 0)) 0 (get_or since word 0)
        unwritten word not_written not_now =
            let same = gone_next place word not_now in
            since3_is word ∙ ap (λ b. cond b 0 (get_or since2 word 0)) not_written ∙ so_far.since_is word ∙ ap (λ b. cond b 0 (get_or since word 0)) (sym same)

        both : (word : ℕ) →
            get_or since3 word 0 ≡ cond (has_gone owner log epochs (place + 1) (get_or since word 0)) 0 (get_or since word 0)
        both word = elim (eqb_tells word here) [
          | inl hit ↦ elim (cases_eq (get_or since word 0) (suc place)) [
            | inl now ↦
                let waits = first_waits since log word place owner.core now (subst (λ n. IsStore log place owner.core n) (sym hit.1) store) in
                let goes = waiting_due place word waits (let e = epoch_is place here store in omega arith) in
                let not_before : has_gone owner log epochs place (get_or since word 0) ≡ false = and_right (is_due owner log epochs (get_or since word 0)) (leb (get_or since word 0) place) (lt-leb (get_or since word 0) place (omega arith)) in
                let gone : has_gone owner log epochs (place + 1) (get_or since word 0) ≡ true = and_from (is_due owner log epochs (get_or since word 0)) (leb (get_or since word 0) (place + 1)) goes (le-leb (get_or since word 0) (place + 1) (omega arith)) in
                let number : get_or since2 word 0 ≡ get_or since word 0 = so_far.since_is word ∙ ap (λ b. cond b 0 (get_or since word 0)) not_before in
                let test : eqb word here && eqb (get_or since2 word 0) (place + 1) ≡ true = and_from (eqb word here) (eqb (get_or since2 word 0) (place + 1)) hit.0 (eq-eqb (get_or since2 word 0) (place + 1) (omega arith)) in
                since3_is word ∙ ap (λ b. cond b 0 (get_or since2 word 0)) test ∙ ap (λ b. cond b 0 (get_or since word 0)) (sym gone)
            | inr differ ↦
                unwritten word (and_right (eqb word here) (eqb (get_or since2 word 0) (place + 1)) (elim (eqb_tells (get_or since2 word 0) (place + 1)) [ inl same ↦ absurd (stays word differ same.1) | inr miss ↦ miss.0 ]))
                (λ now. absurd (differ now))
          ]
          | inr miss ↦
              unwritten word (ap (λ b. b && eqb (get_or since2 word 0) (place + 1)) miss.0)
              (λ now. elim (cases_Bool (is_due owner log epochs (get_or since word 0))) [
                | inl hit ↦
                    let its = due word hit in
                    let at : its.first ≡ place = let e : suc its.first ≡ suc place = sym its.since_is ∙ now in omega arith in
                    let its_store = subst (λ n. IsStore log n owner.core word) at its.waits.store in
                    let same : Some (Store owner.core word its_store.value) ≡ Some (Store owner.core here store.value) = sym its_store.is ∙ store.is in
                    let word_is : word ≡ here = cc in
                    absurd (miss.1 word_is)
                | inr not_due ↦ not_due
              ])
        ]

    -- none of the core's stores before the place waits now
    pub settled_low : IsLow since log owner.core low → IsLow since2 log owner.core place
    settled_low is_low = λ other word waits. elim (cases_lt other place) [
      | inl early ↦
          let from = waits_true (get_or since2 word 0) other waits.waits in
          elim (cases_Bool (has_gone owner log epochs place (get_or since word 0))) [
            | inl hit ↦
                let number : get_or since2 word 0 ≡ 0 = so_far.since_is word ∙ ap (λ b. cond b 0 (get_or since word 0)) hit in
                let e = from.is in
                absurd (omega arith)
            | inr miss ↦
                let number : get_or since2 word 0 ≡ get_or since word 0 = so_far.since_is word ∙ ap (λ b. cond b 0 (get_or since word 0)) miss in
                let before : Waits since log other owner.core word = record { store = waits.store; waits = sym (ap (λ n. waits_at n other) number) ∙ waits.waits } in
                let high = is_low other word before in
                let epoch = so_far.passed other word waits.store high early in
                let goes = waiting_due other word before (let e = epoch_is other word waits.store in omega arith) in
                let is : get_or since word 0 ≡ suc from.first = sym number ∙ from.is in
                let within : get_or since word 0 ≤ place = let l = from.low in omega arith in
                let gone = and_from (is_due owner log epochs (get_or since word 0)) (leb (get_or since word 0) place) goes (le-leb (get_or since word 0) place within) in
                let not : true ≡ false = sym gone ∙ miss in
                cc
          ]
      | inr late ↦ late
    ]

    -- where all that goes stands before the place, all of it has gone
    module _ (all : (word : ℕ) → is_due owner log epochs (get_or since word 0) ≡ true → get_or since word 0 ≤ place) where
      gone_all : (word : ℕ) → has_gone owner log epochs place (get_or since word 0) ≡ is_due owner log epochs (get_or since word 0)
      gone_all word = elim (cases_Bool (is_due owner log epochs (get_or since word 0))) [
        | inl hit ↦ and_from (is_due owner log epochs (get_or since word 0)) (leb (get_or since word 0) place) hit (le-leb (get_or since word 0) place (all word hit)) ∙ sym hit
        | inr miss ↦ rw miss refl
      ]

      pub settled_since : (word : ℕ) → get_or since2 word 0 ≡ cond (is_due owner log epochs (get_or since word 0)) 0 (get_or since word 0)
      settled_since word = so_far.since_is word ∙ ap (λ b. cond b 0 (get_or since word 0)) (gone_all word)

  -- all that goes stands in the log
  pub all_in_log : (word : ℕ) → is_due owner log epochs (get_or since word 0) ≡ true → get_or since word 0 ≤ length log
  all_in_log word is =
      let its = due word is in
      let store = its.waits.store in
      let low = get_within log its.first (Store owner.core word store.value) store.is in
      let e = its.since_is in
      omega arith

  -- and before a store of the core of a later epoch
  pub all_before : (place word : ℕ) → IsStore log place owner.core word → owner.epoch < get_or epochs place 0 → (other : ℕ) → is_due owner log epochs (get_or since other 0) ≡ true → get_or since other 0 ≤ place
  all_before place word store late other is =
      let its = due other is in
      let e = its.since_is in
      let epoch = epoch_is place word store in
      let most = its.epoch in
      elim (cases_lt its.first place) [
        | inl early ↦ omega arith
        | inr following ↦ let more = epoch_at-le log owner.core place its.first following in absurd (omega arith)
      ]

  -- what goes with an owner takes all of its core's earlier epochs along
  settle_closed : (place core word other its_word : ℕ) → Waits since log place core word → Waits since log other core its_word
      → epoch_at log core place < epoch_at log core other → is_due owner log epochs (get_or since its_word 0) ≡ true
      → is_due owner log epochs (get_or since word 0) ≡ true
  settle_closed place core word other its_word waits its_waits less its_due =
      let own = owner_of_waiting words since log epochs sound other core its_word its_waits in
      let its : Owner = record { core = core; epoch = epoch_at log core other } in
      let parts = up_to_parts owner its (sym (ap (owner_is_up_to owner) own) ∙ its_due) in
      let here = subst (λ c. Waits since log place c word) parts.0 waits in
      waiting_due place word here (let same = ap (λ c. epoch_at log c place) parts.0 in let most = parts.1 in omega arith)

  pub settle_cleared : (since2 : List ℕ) → length since2 ≡ length since →
      ((word : ℕ) → get_or since2 word 0 ≡ cond (is_due owner log epochs (get_or since word 0)) 0 (get_or since word 0)) →
      IsCleared words since log epochs since2 (λ word. is_due owner log epochs (get_or since word 0))
  settle_cleared since2 size is = record { sound = sound; since_size = size; since_is = is; closed = settle_closed }
