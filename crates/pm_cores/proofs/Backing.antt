-- A settle is a list of writes back, by epoch, then by word.
use Rattle.std.proofs.Common.{◌≡◌, ℕ, zero, suc, ◌+◌, ◌<◌, ◌≤◌, drop-cons, inl, inr, Bool, true, false, cond, eqb, leb, ◌&&◌, ◌⊎◌, Option, Some, None, List, [], ◌∷◌, ◌++◌, length, get_or, set, drop, refl, sym, ◌∙◌, ap, subst, arith}
use Rattle.std.specs.Prelude.{map}
use Rattle.std.proofs.lemmas.Bool.{cases_Bool, cases_eq, cases_lt, eqb-true, leb-true, eq-eqb, ne_eqb, le-leb, lt-leb, and_parts, and_from, and_right}
use Rattle.std.proofs.lemmas.List.{get_or-set_same, get_or-set_other, length-set}
use Rattle.pm_cores.specs.declared.entry.Entry.{Entry}
use Rattle.pm_cores.specs.declared.entry.Owner.{Owner}
use Rattle.pm_cores.specs.Caches.{Caches, owner_is_up_to, with_back, settled, MayLeave}
use Rattle.pm_cores.specs.Order.{is_under, words_under, words_up_to, BacksTo}
use Rattle.pm_cores.specs.Inside.{owner_since, owners_of, caches_by, AreSound}
use Rattle.pm_cores.proofs.Lists.{index_past}
use Rattle.pm_cores.proofs.Settling.{is_due}
use Rattle.pm_cores.proofs.Views.{owner_seen, length-owners, under_seen, seen_under, settled_seen}
use Rattle.pm_cores.proofs.Backs.{written_sound, written_seen}

backs_append : (old mid new : Caches) (one two : List ℕ) → BacksTo old one mid → BacksTo mid two new → BacksTo old (one ++ two) new
backs_append old mid new [] two first second = subst (λ (s : Caches). BacksTo s two new) (sym first) second
backs_append old mid new (word ∷ one) two first second = (first.0, backs_append (with_back old word) mid new one two first.1 second)

drop_all : {A : Type 0} (xs : List A) (n : ℕ) → length xs ≤ n → drop n xs ≡ []
drop_all [] zero high = refl
drop_all [] (suc n) high = refl
drop_all (x ∷ xs) zero high = absurd (omega arith)
drop_all (x ∷ xs) (suc n) high = drop_all xs n (omega arith)

drop_set : (f : ℕ → Option Owner) (xs : List ℕ) (i y : ℕ) → drop (suc i) (map f (set xs i y)) ≡ drop (suc i) (map f xs)
drop_set f [] i y = refl
drop_set f (x ∷ xs) zero y = refl
drop_set f (x ∷ xs) (suc i) y = drop_set f xs i y

-- the words are stated by the test alone
words_same : (core epoch place : ℕ) (one two : List (Option Owner)) → length one ≡ length two → ((k : ℕ) → is_under core epoch (get_or one k None) ≡ is_under core epoch (get_or two k None)) → words_under core epoch one place ≡ words_under core epoch two place
words_same core epoch place [] [] size same = refl
words_same core epoch place [] (owner ∷ two) size same = absurd (omega arith)
words_same core epoch place (owner ∷ one) [] size same = absurd (omega arith)
words_same core epoch place (first ∷ one) (second ∷ two) size same =
    let here : is_under core epoch first ≡ is_under core epoch second = same 0 in
    let rest : words_under core epoch one (place + 1) ≡ words_under core epoch two (place + 1) = words_same core epoch (place + 1) one two (omega arith) (λ k. same (suc k)) in
    rw (here, rest) refl

under_parts : (core epoch : ℕ) (it : Option Owner) → is_under core epoch it ≡ true → (owner : Owner) × (it ≡ Some owner) × (owner.core ≡ core) × (owner.epoch ≡ epoch)
under_parts core epoch None is = cc
under_parts core epoch (Some owner) is =
    let parts = and_parts (eqb owner.core core) (eqb owner.epoch epoch) is in
    (owner, refl, eqb-true owner.core core parts.0, eqb-true owner.epoch epoch parts.1)

module _ (cores : ℕ) (words : ℕ) (log : List Entry) (epochs : List ℕ) (capacity : ℕ) (core : ℕ) where
  abbrev at : List ℕ → Caches
  at since = caches_by cores words since log epochs capacity

  abbrev owned : List ℕ → ℕ → Option Owner
  owned since word = owner_since log epochs (get_or since word 0)

  -- the words that a test reports have gone back, in this order
  record Went (since : List ℕ) (goes : ℕ → Bool) (order : List ℕ) : Type 0 where
    since2 : List ℕ
    size : length since2 ≡ length since
    sound : AreSound words since2 log epochs
    is : (word : ℕ) → get_or since2 word 0 ≡ cond (goes word) 0 (get_or since word 0)
    backs : BacksTo (at since) order (at since2)

  went_same : (since : List ℕ) (goes goes2 : ℕ → Bool) (order order2 : List ℕ) → ((word : ℕ) → goes word ≡ goes2 word) → order ≡ order2 → Went since goes order → Went since goes2 order2
  went_same since goes goes2 order order2 same order_is went = record {
    since2 = went.since2;
    size = went.size;
    sound = went.sound;
    is = λ word. went.is word ∙ ap (λ b. cond b 0 (get_or since word 0)) (same word);
    backs = subst (λ (ws : List ℕ). BacksTo (at since) ws (at went.since2)) order_is went.backs;
  }

  -- ## One epoch

  abbrev goes_from : ℕ → List ℕ → ℕ → ℕ → Bool
  goes_from epoch since place word = leb place word && is_under core epoch (owned since word)

  abbrev order_from : ℕ → List ℕ → ℕ → List ℕ
  order_from epoch since place = words_under core epoch (drop place (owners_of since log epochs)) place

  abbrev IsLeast : ℕ → List ℕ → Type 0
  IsLeast epoch since = (word : ℕ) (its : Owner) → owned since word ≡ Some its → its.core ≡ core → epoch ≤ its.epoch

  next_drop : (since : List ℕ) (place : ℕ) → place < length since → drop place (owners_of since log epochs) ≡ owned since place ∷ drop (suc place) (owners_of since log epochs)
  next_drop since place low =
      let owners = owners_of since log epochs in
      drop-cons owners place None (let size = length-owners since log epochs in omega arith)
      ∙ ap (λ (o : Option Owner). o ∷ drop (suc place) owners) (owner_seen since log epochs place)

  sweep : (epoch left place : ℕ) (since : List ℕ) → place + left ≡ words → AreSound words since log epochs → IsLeast epoch since → Went since (goes_from epoch since place) (order_from epoch since place)
  sweep epoch zero place since sum sound least = record {
    since2 = since;
    size = refl;
    sound = sound;
    is = λ word. elim (cases_Bool (leb place word)) [
      | inl past ↦
          let high : length since ≤ word = let low = leb-true place word past in let size = sound.as_many_since in omega arith in
          let nothing = index_past since word high in
          rw (past, nothing) refl
      | inr before ↦ rw before refl
    ];
    backs =
        let ends : drop place (owners_of since log epochs) ≡ [] = drop_all (owners_of since log epochs) place (let size = length-owners since log epochs in let many = sound.as_many_since in omega arith) in
        rw ends refl;
  }
  sweep epoch (suc left) place since sum sound least = elim (cases_Bool (is_under core epoch (owned since place))) [
    | inr not ↦
        let rest = sweep epoch left (suc place) since (omega arith) sound least in
        went_same since (goes_from epoch since (suc place)) (goes_from epoch since place) (order_from epoch since (suc place)) (order_from epoch since place) (λ word. later word not) (sym (skip not)) rest
    | inl goes ↦
        let its = under_parts core epoch (owned since place) goes in
        let owner : Owner = its.0 in
        let may : MayLeave (at since) place = record {
          owner = owner;
          under = seen_under since log epochs place owner its.1;
          earliest = λ other theirs under same.
              let low = least other theirs (under_seen since log epochs other theirs under) (same ∙ its.2) in
              let epoch_is = its.3 in
              omega arith;
        } in
        let since2 : List ℕ = set since place 0 in
        let sound2 : AreSound words since2 log epochs = written_sound cores words since log epochs capacity sound place low may in
        let seen : at since2 ≡ with_back (at since) place = written_seen cores words since log epochs capacity sound place low may in
        let least2 : (word : ℕ) (theirs : Owner) → owned since2 word ≡ Some theirs → theirs.core ≡ core → epoch ≤ theirs.epoch = λ word theirs by same. elim (cases_eq word place) [
          | inl here ↦
              let nothing : None ≡ Some theirs = sym (ap (owner_since log epochs) (ap (λ n. get_or since2 n 0) here ∙ get_or-set_same since place 0 0 in_since)) ∙ by in
              cc
          | inr differ ↦ least word theirs (sym (ap (owner_since log epochs) (get_or-set_other since place word 0 0 differ)) ∙ by) same
        ] in
        let rest = sweep epoch left (suc place) since2 (omega arith) sound2 least2 in
        let order_is : order_from epoch since2 (suc place) ≡ order_from epoch since (suc place) = ap (λ (os : List (Option Owner)). words_under core epoch os (suc place)) (drop_set (owner_since log epochs) since place 0) in
        record {
          since2 = rest.since2;
          size = rest.size ∙ length-set since place 0;
          sound = rest.sound;
          is = λ word. rest.is word ∙ joined word goes;
          backs = subst (λ (ws : List ℕ). BacksTo (at since) ws (at rest.since2)) (sym (take_in goes)) (
            may,
            subst (λ (s : Caches). BacksTo s (order_from epoch since (suc place)) (at rest.since2)) seen
                (subst (λ (ws : List ℕ). BacksTo (at since2) ws (at rest.since2)) order_is rest.backs),
          );
        }
  ]
    where
      low : place < words
      low = omega arith

      in_since : place < length since
      in_since = let size = sound.as_many_since in omega arith

      later : (word : ℕ) → is_under core epoch (owned since place) ≡ false → goes_from epoch since (suc place) word ≡ goes_from epoch since place word
      later word not = elim (cases_eq word place) [
        | inl here ↦ rw here (and_right (leb (suc place) place) (is_under core epoch (owned since place)) not ∙ sym (and_right (leb place place) (is_under core epoch (owned since place)) not))
        | inr differ ↦ ap (λ b. b && is_under core epoch (owned since word)) (elim (cases_lt word place) [
          | inl early ↦ lt-leb (suc place) word (omega arith) ∙ sym (lt-leb place word early)
          | inr late ↦ le-leb (suc place) word (omega arith) ∙ sym (le-leb place word late)
        ])
      ]

      next_place : suc place ≡ place + 1
      next_place = omega arith

      skip : is_under core epoch (owned since place) ≡ false → order_from epoch since place ≡ order_from epoch since (suc place)
      skip not =
          ap (λ (os : List (Option Owner)). words_under core epoch os place) (next_drop since place in_since)
          ∙ ap (λ b. cond b (place ∷ words_under core epoch (drop (suc place) (owners_of since log epochs)) (place + 1)) (words_under core epoch (drop (suc place) (owners_of since log epochs)) (place + 1))) not
          ∙ ap (words_under core epoch (drop (suc place) (owners_of since log epochs))) (sym next_place)

      take_in : is_under core epoch (owned since place) ≡ true → order_from epoch since place ≡ place ∷ order_from epoch since (suc place)
      take_in goes =
          ap (λ (os : List (Option Owner)). words_under core epoch os place) (next_drop since place in_since)
          ∙ ap (λ b. cond b (place ∷ words_under core epoch (drop (suc place) (owners_of since log epochs)) (place + 1)) (words_under core epoch (drop (suc place) (owners_of since log epochs)) (place + 1))) goes
          ∙ ap (λ n. place ∷ words_under core epoch (drop (suc place) (owners_of since log epochs)) n) (sym next_place)

      joined : (word : ℕ) → is_under core epoch (owned since place) ≡ true → cond (goes_from epoch (set since place 0) (suc place) word) 0 (get_or (set since place 0) word 0) ≡ cond (goes_from epoch since place word) 0 (get_or since word 0)
      joined word goes = elim (cases_eq word place) [
        | inl here ↦
            let test : goes_from epoch since place place ≡ true = and_from (leb place place) (is_under core epoch (owned since place)) (le-leb place place (omega arith)) goes in
            let past : leb (suc place) place ≡ false = lt-leb (suc place) place (omega arith) in
            rw (here, test, past) (get_or-set_same since place 0 0 in_since)
        | inr differ ↦
            let same : get_or (set since place 0) word 0 ≡ get_or since word 0 = get_or-set_other since place word 0 0 differ in
            rw same (ap (λ b. cond (b && is_under core epoch (owned since word)) 0 (get_or since word 0)) (elim (cases_lt word place) [
              | inl early ↦ lt-leb (suc place) word (omega arith) ∙ sym (lt-leb place word early)
              | inr late ↦ le-leb (suc place) word (omega arith) ∙ sym (le-leb place word late)
            ]))
      ]

  -- ## All epochs up to one

  abbrev up_to : ℕ → Owner
  up_to epoch = record { core = core; epoch = epoch }

  module _ (since : List ℕ) (sound : AreSound words since log epochs) where
    all_up_to : (epoch : ℕ) → Went since (λ word. is_due (up_to epoch) log epochs (get_or since word 0)) (words_up_to core epoch (owners_of since log epochs))
    all_up_to zero =
        went_same since (goes_from 0 since 0) (λ word. is_due (up_to 0) log epochs (get_or since word 0)) (order_from 0 since 0) (words_up_to core 0 (owners_of since log epochs))
        (λ word. first_is word (owned since word)) refl (sweep 0 words 0 since (omega arith) sound (λ word its by same. omega arith))
      where
        first_is : (word : ℕ) (it : Option Owner) → (leb 0 word && is_under core 0 it) ≡ owner_is_up_to (up_to 0) it
        first_is word None = rw (le-leb 0 word (omega arith)) refl
        first_is word (Some owner) = elim (cases_eq owner.epoch 0) [
          | inl same ↦ rw (le-leb 0 word (omega arith), eq-eqb owner.epoch 0 same, le-leb owner.epoch 0 (omega arith)) refl
          | inr differ ↦ rw (le-leb 0 word (omega arith), ne_eqb owner.epoch 0 differ, lt-leb owner.epoch 0 (omega arith)) refl
        ]
    all_up_to (suc epoch) =
        let so_far = all_up_to epoch in
        let more = sweep (suc epoch) words 0 so_far.since2 (omega arith) so_far.sound (λ word its by same. least so_far word its by same) in
        record {
          since2 = more.since2;
          size = more.size ∙ so_far.size;
          sound = more.sound;
          is = λ word. more.is word ∙ joined so_far word (cases_Bool (is_due (up_to epoch) log epochs (get_or since word 0)));
          backs = backs_append (at since) (at so_far.since2) (at more.since2) (words_up_to core epoch (owners_of since log epochs)) (words_under core (suc epoch) (owners_of since log epochs) 0) so_far.backs
              (subst (λ (ws : List ℕ). BacksTo (at so_far.since2) ws (at more.since2)) (order_is so_far) more.backs);
        }
      where
        least : (so_far : Went since (λ word. is_due (up_to epoch) log epochs (get_or since word 0)) (words_up_to core epoch (owners_of since log epochs))) → (word : ℕ) (its : Owner) → owned so_far.since2 word ≡ Some its → its.core ≡ core → suc epoch ≤ its.epoch
        least so_far word its by same = elim (cases_Bool (is_due (up_to epoch) log epochs (get_or since word 0))) [
          | inl hit ↦
              let gone : get_or so_far.since2 word 0 ≡ 0 = so_far.is word ∙ ap (λ b. cond b 0 (get_or since word 0)) hit in
              let nothing : None ≡ Some its = sym (ap (owner_since log epochs) gone) ∙ by in
              cc
          | inr miss ↦
              let stays : get_or so_far.since2 word 0 ≡ get_or since word 0 = so_far.is word ∙ ap (λ b. cond b 0 (get_or since word 0)) miss in
              let test : owner_is_up_to (up_to epoch) (Some its) ≡ false = sym (ap (owner_is_up_to (up_to epoch)) (sym (ap (owner_since log epochs) stays) ∙ by)) ∙ miss in
              elim (cases_lt epoch its.epoch) [
                | inl late ↦ omega arith
                | inr early ↦
                    let not : true ≡ false = sym (and_from (eqb its.core core) (leb its.epoch epoch) (eq-eqb its.core core same) (le-leb its.epoch epoch early)) ∙ test in
                    cc
              ]
        ]

        -- of the next epoch are those that were so before
        next_is : (it : Option Owner) → owner_is_up_to (up_to epoch) it ≡ true → is_under core (suc epoch) it ≡ false
        next_is None up = refl
        next_is (Some owner) up =
            let parts = and_parts (eqb owner.core core) (leb owner.epoch epoch) up in
            let most = leb-true owner.epoch epoch parts.1 in
            and_right (eqb owner.core core) (eqb owner.epoch (suc epoch)) (ne_eqb owner.epoch (suc epoch) (λ e. omega arith))

        same_test : (so_far : Went since (λ word. is_due (up_to epoch) log epochs (get_or since word 0)) (words_up_to core epoch (owners_of since log epochs))) → (word : ℕ) → is_under core (suc epoch) (owned so_far.since2 word) ≡ is_under core (suc epoch) (owned since word)
        same_test so_far word = elim (cases_Bool (is_due (up_to epoch) log epochs (get_or since word 0))) [
          | inl hit ↦
              let gone : get_or so_far.since2 word 0 ≡ 0 = so_far.is word ∙ ap (λ b. cond b 0 (get_or since word 0)) hit in
              ap (λ n. is_under core (suc epoch) (owner_since log epochs n)) gone ∙ sym (next_is (owned since word) hit)
          | inr miss ↦
              let stays : get_or so_far.since2 word 0 ≡ get_or since word 0 = so_far.is word ∙ ap (λ b. cond b 0 (get_or since word 0)) miss in
              ap (λ n. is_under core (suc epoch) (owner_since log epochs n)) stays
        ]

        order_is : (so_far : Went since (λ word. is_due (up_to epoch) log epochs (get_or since word 0)) (words_up_to core epoch (owners_of since log epochs))) → order_from (suc epoch) so_far.since2 0 ≡ words_under core (suc epoch) (owners_of since log epochs) 0
        order_is so_far = words_same core (suc epoch) 0 (owners_of so_far.since2 log epochs) (owners_of since log epochs)
            (length-owners so_far.since2 log epochs ∙ so_far.size ∙ sym (length-owners since log epochs))
            (λ word. ap (is_under core (suc epoch)) (owner_seen so_far.since2 log epochs word) ∙ same_test so_far word ∙ sym (ap (is_under core (suc epoch)) (owner_seen since log epochs word)))

        split : (it : Option Owner) → owner_is_up_to (up_to epoch) it ≡ false → is_under core (suc epoch) it ≡ owner_is_up_to (up_to (suc epoch)) it
        split None not = refl
        split (Some owner) not = elim (cases_Bool (eqb owner.core core)) [
          | inr other ↦ rw other refl
          | inl own ↦
              elim (cases_lt epoch owner.epoch) [
                | inr early ↦
                    let both : true ≡ false = sym (and_from (eqb owner.core core) (leb owner.epoch epoch) own (le-leb owner.epoch epoch early)) ∙ not in
                    cc
                | inl late ↦ elim (cases_eq owner.epoch (suc epoch)) [
                  | inl same ↦ rw (eq-eqb owner.epoch (suc epoch) same, le-leb owner.epoch (suc epoch) (omega arith)) refl
                  | inr differ ↦ rw (ne_eqb owner.epoch (suc epoch) differ, lt-leb owner.epoch (suc epoch) (omega arith)) refl
                ]
              ]
        ]

        also : (it : Option Owner) → owner_is_up_to (up_to epoch) it ≡ true → owner_is_up_to (up_to (suc epoch)) it ≡ true
        also None up = cc
        also (Some owner) up =
            let parts = and_parts (eqb owner.core core) (leb owner.epoch epoch) up in
            let most = leb-true owner.epoch epoch parts.1 in
            and_from (eqb owner.core core) (leb owner.epoch (suc epoch)) parts.0 (le-leb owner.epoch (suc epoch) (omega arith))

        joined : (so_far : Went since (λ word. is_due (up_to epoch) log epochs (get_or since word 0)) (words_up_to core epoch (owners_of since log epochs))) → (word : ℕ) →
            (is_due (up_to epoch) log epochs (get_or since word 0) ≡ true) ⊎ (is_due (up_to epoch) log epochs (get_or since word 0) ≡ false) →
            cond (goes_from (suc epoch) so_far.since2 0 word) 0 (get_or so_far.since2 word 0) ≡ cond (is_due (up_to (suc epoch)) log epochs (get_or since word 0)) 0 (get_or since word 0)
        joined so_far word (inl hit) =
            let gone : get_or so_far.since2 word 0 ≡ 0 = so_far.is word ∙ ap (λ b. cond b 0 (get_or since word 0)) hit in
            let test : is_due (up_to (suc epoch)) log epochs (get_or since word 0) ≡ true = also (owned since word) hit in
            rw (gone, test, le-leb 0 word (omega arith)) refl
        joined so_far word (inr miss) =
            let stays : get_or so_far.since2 word 0 ≡ get_or since word 0 = so_far.is word ∙ ap (λ b. cond b 0 (get_or since word 0)) miss in
            rw (stays, le-leb 0 word (omega arith)) (ap (λ b. cond b 0 (get_or since word 0)) (split (owned since word) miss))

pub settled_by_backs : (cores : ℕ) (words : ℕ) (since : List ℕ) (log : List Entry) (epochs : List ℕ) (capacity : ℕ) → AreSound words since log epochs → (owner : Owner) →
    BacksTo (caches_by cores words since log epochs capacity) (words_up_to owner.core owner.epoch (owners_of since log epochs)) (settled (caches_by cores words since log epochs capacity) owner)
settled_by_backs cores words since log epochs capacity sound owner =
    let went = all_up_to cores words log epochs capacity owner.core since sound owner.epoch in
    subst (λ (s : Caches). BacksTo (caches_by cores words since log epochs capacity) (words_up_to owner.core owner.epoch (owners_of since log epochs)) s)
    (settled_seen cores words since log epochs capacity sound went.since2 went.size owner (λ word. went.is word ∙ ap (λ b. cond b 0 (get_or since word 0)) (same (owner_since log epochs (get_or since word 0))))) went.backs
  where
    same : (it : Option Owner) → owner_is_up_to (record { core = owner.core; epoch = owner.epoch }) it ≡ owner_is_up_to owner it
    same None = refl
    same (Some other) = refl
