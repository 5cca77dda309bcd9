-- What is seen of the caches that code holds.
use Rattle.std.proofs.Common.{◌≡◌, ◌≢◌, drop-cons, add-one, replicate, ℕ, zero, suc, ◌+◌, ◌*◌, ◌-◌, ◌<◌, ◌≤◌, inl, inr, Bool, true, false, not, cond, eqb, ◌||◌, Option, Some, None, List, [], ◌∷◌, ◌++◌, length, get_or, set, take, drop, refl, sym, ◌∙◌, ap, arith, length-append}
use Rattle.std.specs.Prelude.{map, is_some, IfSome}
use Rattle.std.specs.List.{slice_get, range_with_len}
use Rattle.std.proofs.lemmas.Bool.{cases_Bool, cases_eq, cases_lt, ne_eqb, lt-leb, or_right, or_left}
use Rattle.std.proofs.lemmas.Option.{slice_get-get_or, get_or_from_slice_get}
use Rattle.std.proofs.lemmas.List.{ext_get_or, get_or-set_same, get_or-set_other, length-set, length-map}
use Rattle.std.proofs.lemmas.List.FromFn.{get_or-map-range_with_len, map-range_with_len_more}
use Rattle.pm_cores.specs.declared.entry.Entry.{Entry}
use Rattle.pm_cores.specs.declared.entry.Entry.TheVariants.{Load, Store, Barrier}
use Rattle.pm_cores.specs.declared.entry.Owner.{Owner}
use Rattle.pm_cores.specs.Log.{core_of, core_barriers, epoch_at, line_at, IsStore}
use Rattle.pm_cores.specs.Caches.{Caches, is_up_to, owner_is_up_to, entry_is_up_to, first_owner, caches_over, settled, logged, stored}
use Rattle.pm_cores.specs.Inside.{waits_at, owner_since, entry_is_back, flags_of, owners_of, caches_by, Waits, AreSound}
use Rattle.pm_cores.proofs.Lists.{get_within, get_before, get_pushed_new, index_before, index_past}
use Rattle.pm_cores.proofs.Logs.{IsNoStore, epoch_at-most, epoch_at-end}
use Rattle.pm_cores.proofs.Storing.{CanStore, new_waits, stored_sound}
use Rattle.pm_cores.proofs.Waiting.{first_waits, owner_of_waiting, held}
use Rattle.pm_cores.proofs.Settling.{is_due}

-- ## Lists made of functions

map_range_at : {X : Type 0} (f g : ℕ → X) (a n : ℕ) → ((i : ℕ) → a ≤ i → i < a + n → f i ≡ g i) → map f (range_with_len a n) ≡ map g (range_with_len a n)
map_range_at f g a zero same = refl
map_range_at f g a (suc n) same =
    let here : f a ≡ g a = same a (omega arith) (omega arith) in
    let rest : map f (range_with_len (a + 1) n) ≡ map g (range_with_len (a + 1) n) = map_range_at f g (a + 1) n (λ i low high. same i (omega arith) (omega arith)) in
    rw (here, rest) refl

pub map_range_same : {X : Type 0} (f g : ℕ → X) (n : ℕ) → ((i : ℕ) → i < n → f i ≡ g i) → map f (range_with_len 0 n) ≡ map g (range_with_len 0 n)
map_range_same f g n same = map_range_at f g 0 n (λ i low high. same i (omega arith))

pub get_map_range : {X : Type 0} (f : ℕ → X) (n i : ℕ) (d : X) → i < n → get_or (map f (range_with_len 0 n)) i d ≡ f i
get_map_range f n i d low = get_or-map-range_with_len f 0 n i i d low (omega arith)

pub map_same : {X : Type 0} (f g : ℕ → X) (xs : List ℕ) → ((i : ℕ) → i < length xs → f (get_or xs i 0) ≡ g (get_or xs i 0)) → map f xs ≡ map g xs
map_same f g [] same = refl
map_same f g (x ∷ xs) same =
    let here : f x ≡ g x = same 0 (omega arith) in
    let rest : map f xs ≡ map g xs = map_same f g xs (λ i low. same (suc i) (omega arith)) in
    rw (here, rest) refl

get_map : {X : Type 0} (f : ℕ → X) (xs : List ℕ) (i : ℕ) → get_or (map f xs) i (f 0) ≡ f (get_or xs i 0)
get_map f [] i = refl
get_map f (x ∷ xs) zero = refl
get_map f (x ∷ xs) (suc i) = get_map f xs i

-- ## Owners

pub owner_seen : (since : List ℕ) (log : List Entry) (epochs : List ℕ) (word : ℕ) → get_or (owners_of since log epochs) word None ≡ owner_since log epochs (get_or since word 0)
owner_seen since log epochs word = get_map (owner_since log epochs) since word

pub length-owners : (since : List ℕ) (log : List Entry) (epochs : List ℕ) → length (owners_of since log epochs) ≡ length since
length-owners since log epochs = length-map since (owner_since log epochs)

pub under_seen : (since : List ℕ) (log : List Entry) (epochs : List ℕ) (word : ℕ) (owner : Owner) → slice_get (owners_of since log epochs) word ≡ Some (Some owner) → owner_since log epochs (get_or since word 0) ≡ Some owner
under_seen since log epochs word owner is = sym (owner_seen since log epochs word) ∙ get_or_from_slice_get (owners_of since log epochs) word (Some owner) None is

pub seen_under : (since : List ℕ) (log : List Entry) (epochs : List ℕ) (word : ℕ) (owner : Owner) → owner_since log epochs (get_or since word 0) ≡ Some owner → slice_get (owners_of since log epochs) word ≡ Some (Some owner)
seen_under since log epochs word owner is = elim (cases_lt word (length since)) [
  | inl low ↦
      slice_get-get_or (owners_of since log epochs) word None (let size = length-owners since log epochs in omega arith)
      ∙ ap (λ (o : Option Owner). Some o) (owner_seen since log epochs word ∙ is)
  | inr high ↦
      let nothing : None ≡ Some owner = sym (ap (owner_since log epochs) (index_past since word high)) ∙ is in
      cc
]

pub first_owner_at : (owners : List (Option Owner)) (owner : Owner) → first_owner owners ≡ Some owner → (k : ℕ) × (slice_get owners k ≡ Some (Some owner))
first_owner_at [] owner is = cc
first_owner_at (None ∷ owners) owner is = let at = first_owner_at owners owner is in (suc at.0, at.1)
first_owner_at (Some one ∷ owners) owner is = (0, ap (λ (o : Option Owner). Some o) is)

pub first_owner_some : (owners : List (Option Owner)) (k : ℕ) (owner : Owner) → slice_get owners k ≡ Some (Some owner) → (first : Owner) × (first_owner owners ≡ Some first)
first_owner_some [] k owner is = cc
first_owner_some (None ∷ owners) zero owner is = cc
first_owner_some (None ∷ owners) (suc k) owner is = first_owner_some owners k owner is
first_owner_some (Some one ∷ owners) k owner is = (one, refl)

pub get_taken : {A : Type 0} (xs : List A) (n k : ℕ) → k < n → slice_get (take n xs) k ≡ slice_get xs k
get_taken [] zero k low = refl
get_taken [] (suc n) k low = refl
get_taken (x ∷ xs) zero k low = absurd (omega arith)
get_taken (x ∷ xs) (suc n) zero low = refl
get_taken (x ∷ xs) (suc n) (suc k) low = get_taken xs n k (omega arith)

pub got_taken : {A : Type 0} (xs : List A) (n k : ℕ) (x : A) → slice_get (take n xs) k ≡ Some x → (k < n) × (slice_get xs k ≡ Some x)
got_taken [] zero k x is = cc
got_taken [] (suc n) k x is = cc
got_taken (y ∷ xs) zero k x is = cc
got_taken (y ∷ xs) (suc n) zero x is = (omega arith, is)
got_taken (y ∷ xs) (suc n) (suc k) x is = let rest = got_taken xs n k x is in ((let low = rest.0 in omega arith), rest.1)

pub get_dropped : {A : Type 0} (xs : List A) (n k : ℕ) → slice_get (drop n xs) k ≡ slice_get xs (n + k)
get_dropped [] zero k = refl
get_dropped [] (suc n) k = refl
get_dropped (x ∷ xs) zero k = let e : 0 + k ≡ k = omega arith in rw e refl
get_dropped (x ∷ xs) (suc n) k = let e : suc n + k ≡ suc (n + k) = omega arith in rw e (get_dropped xs n k)

module _ (words : ℕ) (since : List ℕ) (log : List Entry) (epochs : List ℕ) (sound : AreSound words since log epochs) where
  abbrev owners : List (Option Owner)
  owners = owners_of since log epochs

  abbrev line : ℕ → List (Option Owner)
  line word = take 8 (drop (8 * line_at word) owners)

  pub one_owner : (word other : ℕ) (owner its : Owner) → owner_since log epochs (get_or since word 0) ≡ Some owner → owner_since log epochs (get_or since other 0) ≡ Some its → line_at word ≡ line_at other → owner ≡ its
  one_owner word other owner its by its_by same =
      let one = held words since log epochs sound word owner by in
      let two = held words since log epochs sound other its its_by in
      let both = sound.one one.first owner.core word two.first its.core other one.waits two.waits same in
      let epoch : owner.epoch ≡ its.epoch = sym one.epoch ∙ both.1 ∙ two.epoch in
      let core : owner.core ≡ its.core = both.0 in
      cc

  -- where the line's owner stands
  pub line_owner_at : (word : ℕ) (owner : Owner) → first_owner (line word) ≡ Some owner → (other : ℕ) × (line_at other ≡ line_at word) × (owner_since log epochs (get_or since other 0) ≡ Some owner)
  line_owner_at word owner is =
      let at = first_owner_at (line word) owner is in
      let taken = got_taken (drop (8 * line_at word) owners) 8 at.0 (Some owner) at.1 in
      let low = taken.0 in
      let here : line_at (8 * line_at word + at.0) ≡ line_at word = omega arith in
      (8 * line_at word + at.0, here, under_seen since log epochs (8 * line_at word + at.0) owner (sym (get_dropped owners (8 * line_at word) at.0) ∙ taken.1))

  pub line_owner_each : (word other : ℕ) (owner : Owner) → slice_get owners other ≡ Some (Some owner) → line_at other ≡ line_at word → first_owner (line word) ≡ Some owner
  line_owner_each word other owner under same =
      let rest : ℕ = other - 8 * line_at word in
      let low : rest < 8 = omega arith in
      let sum : 8 * line_at word + rest ≡ other = omega arith in
      let here : slice_get (line word) rest ≡ Some (Some owner) = get_taken (drop (8 * line_at word) owners) 8 rest low ∙ get_dropped owners (8 * line_at word) rest ∙ ap (slice_get owners) sum ∙ under in
      let first = first_owner_some (line word) rest owner here in
      let at = line_owner_at word first.0 first.1 in
      let one = one_owner at.0 other first.0 owner at.2 (under_seen since log epochs other owner under) (at.1 ∙ sym same) in
      first.1 ∙ ap (λ (o : Owner). Some o) one

  pub line_owner_epoch : (word : ℕ) (owner : Owner) → owner_since log epochs (get_or since word 0) ≡ Some owner → (place : ℕ) × IsStore log place owner.core word × (epoch_at log owner.core place ≡ owner.epoch)
  line_owner_epoch word owner by =
      let its = held words since log epochs sound word owner by in
      (its.first, its.waits.store, its.epoch)

-- ## Dirty words

pub dirty_seen : (words : ℕ) (since : List ℕ) (log : List Entry) (epochs : List ℕ) → AreSound words since log epochs → (word : ℕ) → is_some (get_or (owners_of since log epochs) word None) ≡ not (eqb (get_or since word 0) 0)
dirty_seen words since log epochs sound word = ap is_some (owner_seen since log epochs word) ∙ at (get_or since word 0) refl
  where
    at : (number : ℕ) → get_or since word 0 ≡ number → is_some (owner_since log epochs (get_or since word 0)) ≡ not (eqb (get_or since word 0) 0)
    at zero is = rw is refl
    at (suc first) is =
        let store = sound.first word first is in
        let here = first_waits since log word first store.0 is store.1 in
        let owner = owner_of_waiting words since log epochs sound first store.0 word here in
        let test : eqb (get_or since word 0) 0 ≡ false = ne_eqb (get_or since word 0) 0 (λ nothing. omega arith) in
        ap is_some owner ∙ sym (ap not test)

-- ## An entry more

pub owners_pushed : (since : List ℕ) (log : List Entry) (epochs : List ℕ) (entry : Entry) (epoch : ℕ) → length epochs ≡ length log → ((word first : ℕ) → get_or since word 0 ≡ suc first → first < length log) → owners_of since (log ++ entry ∷ []) (epochs ++ epoch ∷ []) ≡ owners_of since log epochs
owners_pushed since log epochs entry epoch size low = map_same (owner_since (log ++ entry ∷ []) (epochs ++ epoch ∷ [])) (owner_since log epochs) since (λ word within. at word (get_or since word 0) refl)
  where
    at : (word number : ℕ) → get_or since word 0 ≡ number → owner_since (log ++ entry ∷ []) (epochs ++ epoch ∷ []) (get_or since word 0) ≡ owner_since log epochs (get_or since word 0)
    at word zero is = rw is refl
    at word (suc first) is =
        let early = low word first is in
        let early_epoch : first < length epochs = omega arith in
        rw (is, get_before log entry first early, index_before epochs epoch first early_epoch) refl

pub flags_pushed : (since since2 : List ℕ) (log : List Entry) (entry : Entry) (flag : Bool) →
    ((place : ℕ) → place < length log → entry_is_back since2 place (slice_get log place) ≡ entry_is_back since place (slice_get log place)) →
    entry_is_back since2 (length log) (Some entry) ≡ flag → flags_of since2 (log ++ entry ∷ []) ≡ flags_of since log ++ flag ∷ []
flags_pushed since since2 log entry flag same last =
    let new : ℕ → Bool = λ place. entry_is_back since2 place (slice_get (log ++ entry ∷ []) place) in
    let old : ℕ → Bool = λ place. entry_is_back since place (slice_get log place) in
    let size : length (log ++ entry ∷ []) ≡ length log + 1 = omega (arith, length-append log (entry ∷ [])) in
    let prefix : map new (range_with_len 0 (length log)) ≡ map old (range_with_len 0 (length log)) =
    map_range_same new old (length log) (λ place low. ap (entry_is_back since2 place) (get_before log entry place low) ∙ same place low) in
    let here : new (length log) ≡ flag = ap (entry_is_back since2 (length log)) (get_pushed_new log entry) ∙ last in
    ap (λ n. map new (range_with_len 0 n)) size
    ∙ map-range_with_len_more new 0 (length log) (length log) (omega arith)
    ∙ ap (λ (bs : List Bool). bs ++ new (length log) ∷ []) prefix
    ∙ ap (λ b. flags_of since log ++ b ∷ []) here

not_back : (since : List ℕ) (place : ℕ) (entry : Entry) → IsNoStore entry → entry_is_back since place (Some entry) ≡ false
not_back since place (Load core word) none = refl
not_back since place (Store core word value) none = absurd (none core word value refl)
not_back since place (Barrier core) none = refl

pub pushed_seen : (cores : ℕ) (words : ℕ) (since : List ℕ) (log : List Entry) (epochs : List ℕ) (capacity : ℕ) (entry : Entry) (epoch : ℕ) → AreSound words since log epochs → IsNoStore entry →
    caches_by cores words since (log ++ entry ∷ []) (epochs ++ epoch ∷ []) capacity ≡ logged (caches_by cores words since log epochs capacity) entry
pushed_seen cores words since log epochs capacity entry epoch sound none =
    let owners_are = owners_pushed since log epochs entry epoch sound.as_many_epochs (λ word first is. let store = sound.first word first is in get_within log first (Store store.0 word store.1.value) store.1.is) in
    let flags_are = flags_pushed since since log entry false (λ place low. refl) (not_back since (length log) entry none) in
    rw (owners_are, flags_are) refl

-- ## Words written back

module _ (cores : ℕ) (words : ℕ) (since : List ℕ) (log : List Entry) (epochs : List ℕ) (capacity : ℕ) (sound : AreSound words since log epochs) (since2 : List ℕ)
    (since_size : length since2 ≡ length since) where
  abbrev before : Caches
  before = caches_by cores words since log epochs capacity

  module _ (owner : Owner)
      (since_is : (word : ℕ) → get_or since2 word 0 ≡ cond (is_due owner log epochs (get_or since word 0)) 0 (get_or since word 0)) where
    settled_owner : (number : ℕ) → owner_since log epochs (cond (is_due owner log epochs number) 0 number) ≡ cond (owner_is_up_to owner (owner_since log epochs number)) None (owner_since log epochs number)
    settled_owner number = elim (cases_Bool (is_due owner log epochs number)) [
      | inl hit ↦ rw hit refl
      | inr miss ↦ rw miss refl
    ]

    settled_owners_are : owners_of since2 log epochs ≡ (settled before owner).owners
    unfolding settled
    settled_owners_are =
        let f : Option Owner → Option Owner = λ other. cond (owner_is_up_to owner other) None other in
        ext_get_or None (owners_of since2 log epochs) (map f (owners_of since log epochs))
        (length-owners since2 log epochs ∙ since_size ∙ sym (length-owners since log epochs) ∙ sym (length-map (owners_of since log epochs) f))
        (λ word low. owner_seen since2 log epochs word ∙ ap (owner_since log epochs) (since_is word) ∙ settled_owner (get_or since word 0)
        ∙ sym (ap f (owner_seen since log epochs word)) ∙ sym (get_map_owner f word refl))
      where
        get_map_any : (f : Option Owner → Option Owner) (xs : List (Option Owner)) (word : ℕ) → f None ≡ None → get_or (map f xs) word None ≡ f (get_or xs word None)
        get_map_any f [] word none = sym none
        get_map_any f (x ∷ xs) zero none = refl
        get_map_any f (x ∷ xs) (suc word) none = get_map_any f xs word none

        get_map_owner : (f : Option Owner → Option Owner) (word : ℕ) → f None ≡ None → get_or (map f (owners_of since log epochs)) word None ≡ f (get_or (owners_of since log epochs) word None)
        get_map_owner f word none = get_map_any f (owners_of since log epochs) word none

    settled_flag : (place : ℕ) (entry : Option Entry) → slice_get log place ≡ entry → entry_is_back since2 place entry ≡ (entry_is_back since place entry || entry_is_up_to owner log place entry)
    settled_flag place None is = refl
    settled_flag place (Some (Load core word)) is = refl
    settled_flag place (Some (Barrier core)) is = refl
    settled_flag place (Some (Store core word value)) is = elim (cases_Bool (is_due owner log epochs (get_or since word 0))) [
      | inl hit ↦
          let gone : get_or since2 word 0 ≡ 0 = since_is word ∙ ap (λ b. cond b 0 (get_or since word 0)) hit in
          ap (λ n. not (waits_at n place)) gone ∙ sym (elim (cases_Bool (waits_at (get_or since word 0) place)) [
            | inl waits ↦
                let store : IsStore log place core word = record { value = value; is = is } in
                let own = owner_of_waiting words since log epochs sound place core word (record { store = store; waits = waits }) in
                let up : is_up_to owner core (epoch_at log core place) ≡ true = sym (ap (owner_is_up_to owner) own) ∙ hit in
                or_right (not (waits_at (get_or since word 0) place)) (is_up_to owner core (epoch_at log core place)) up
            | inr back ↦ or_left (not (waits_at (get_or since word 0) place)) (is_up_to owner core (epoch_at log core place)) (ap not back)
          ])
      | inr miss ↦
          let stays : get_or since2 word 0 ≡ get_or since word 0 = since_is word ∙ ap (λ b. cond b 0 (get_or since word 0)) miss in
          ap (λ n. not (waits_at n place)) stays ∙ elim (cases_Bool (waits_at (get_or since word 0) place)) [
            | inl waits ↦
                let store : IsStore log place core word = record { value = value; is = is } in
                let own = owner_of_waiting words since log epochs sound place core word (record { store = store; waits = waits }) in
                let up : is_up_to owner core (epoch_at log core place) ≡ false = sym (ap (owner_is_up_to owner) own) ∙ miss in
                rw (waits, up) refl
            | inr back ↦ rw back refl
          ]
    ]

    settled_back_is : flags_of since2 log ≡ (settled before owner).back
    unfolding settled
    settled_back_is =
        map_range_same (λ place. entry_is_back since2 place (slice_get log place))
        (λ place. get_or (flags_of since log) place false || entry_is_up_to owner log place (slice_get log place)) (length log)
        (λ place low. settled_flag place (slice_get log place) refl
        ∙ ap (λ b. b || entry_is_up_to owner log place (slice_get log place)) (sym (get_map_range (λ at. entry_is_back since at (slice_get log at)) (length log) place false low)))

    pub settled_seen : caches_by cores words since2 log epochs capacity ≡ settled before owner
    unfolding settled
    settled_seen = rw (settled_owners_are, settled_back_is) refl

-- ## What a caller knows of the words of a line

module _ (words : ℕ) (since : List ℕ) (log : List Entry) (epochs : List ℕ) (sound : AreSound words since log epochs) (core word : ℕ) where
  pub under_waits : (place its_core its_word : ℕ) → Waits since log place its_core its_word → slice_get (owners_of since log epochs) its_word ≡ Some (Some (record { core = its_core; epoch = epoch_at log its_core place }))
  under_waits place its_core its_word waits =
      let owner : Owner = record { core = its_core; epoch = epoch_at log its_core place } in
      seen_under since log epochs its_word owner (owner_of_waiting words since log epochs sound place its_core its_word waits)

  pub ready_to_load : ((other : ℕ) (owner : Owner) → slice_get (owners_of since log epochs) other ≡ Some (Some owner) → line_at other ≡ line_at word → owner.core ≡ core) →
      (its_core at : ℕ) → Load core word ≡ Load its_core at → (place other_core other : ℕ) → Waits since log place other_core other → line_at at ≡ line_at other → its_core ≡ other_core
  ready_to_load ready its_core at same place other_core other waits line =
      let core_is : core ≡ its_core = cc in
      let word_is : word ≡ at = cc in
      let owner : Owner = record { core = other_core; epoch = epoch_at log other_core place } in
      let one : other_core ≡ core = ready other owner (under_waits place other_core other waits) (sym line ∙ ap line_at (sym word_is)) in
      sym core_is ∙ sym one

  pub ready_to_store : ((other : ℕ) (owner : Owner) → slice_get (owners_of since log epochs) other ≡ Some (Some owner) → line_at other ≡ line_at word → owner ≡ record { core = core; epoch = core_barriers core log }) →
      (place its_core its_word : ℕ) → Waits since log place its_core its_word → line_at its_word ≡ line_at word → (its_core ≡ core) × (epoch_at log its_core place ≡ core_barriers core log)
  ready_to_store ready place its_core its_word waits line =
      let owner : Owner = record { core = its_core; epoch = epoch_at log its_core place } in
      let same = ready its_word owner (under_waits place its_core its_word waits) line in
      (ap (λ (o : Owner). o.core) same, ap (λ (o : Owner). o.epoch) same)

pub line_owner_known : (words : ℕ) (since : List ℕ) (log : List Entry) (epochs : List ℕ) → AreSound words since log epochs → (cores : ℕ) → ((place : ℕ) (entry : Entry) → slice_get log place ≡ Some entry → core_of entry < cores) →
    (word : ℕ) (found : Option Owner) → found ≡ first_owner (take 8 (drop (8 * line_at word) (owners_of since log epochs))) → IfSome found (λ owner. owner.core < cores)
line_owner_known words since log epochs sound cores known word None is = tt
line_owner_known words since log epochs sound cores known word (Some owner) is =
    let at = line_owner_at words since log epochs sound word owner (sym is) in
    let store = line_owner_epoch words since log epochs sound at.0 owner at.2 in
    known store.0 (Store owner.core at.0 store.1.value) store.1.is

pub line_owner_most : (words : ℕ) (since : List ℕ) (log : List Entry) (epochs : List ℕ) → AreSound words since log epochs →
    (word : ℕ) (found : Option Owner) → found ≡ first_owner (take 8 (drop (8 * line_at word) (owners_of since log epochs))) → IfSome found (λ owner. owner.epoch ≤ core_barriers owner.core log)
line_owner_most words since log epochs sound word None is = tt
line_owner_most words since log epochs sound word (Some owner) is =
    let at = line_owner_at words since log epochs sound word owner (sym is) in
    let store = line_owner_epoch words since log epochs sound at.0 owner at.2 in
    let most = epoch_at-most log owner.core store.0 in
    let epoch = store.2 in
    omega arith

pub since_within : (words : ℕ) (since : List ℕ) (log : List Entry) (epochs : List ℕ) → AreSound words since log epochs → (word : ℕ) → get_or since word 0 ≤ length log
since_within words since log epochs sound word = at (get_or since word 0) refl
  where
    at : (number : ℕ) → get_or since word 0 ≡ number → get_or since word 0 ≤ length log
    at zero is = omega arith
    at (suc first) is =
        let store = sound.first word first is in
        let low = get_within log first (Store store.0 word store.1.value) store.1.is in
        omega arith

pub whole_line : (word size lines : ℕ) → size ≡ 8 * lines → word < size → 8 * line_at word + 8 ≤ size
whole_line word size lines is low = omega arith

-- a line is gone through: what stands first in what is left of it
first_owner_cons : (first : Option Owner) (owners : List (Option Owner)) → is_some first ≡ true → first_owner (first ∷ owners) ≡ first
first_owner_cons None owners is = cc
first_owner_cons (Some owner) owners is = refl

first_owner_none : (first : Option Owner) (owners : List (Option Owner)) → is_some first ≡ false → first_owner (first ∷ owners) ≡ first_owner owners
first_owner_none None owners is = refl
first_owner_none (Some owner) owners is = cc

taken_at : (owners : List (Option Owner)) (n i : ℕ) → i < length owners → take (suc n) (drop i owners) ≡ get_or owners i None ∷ take n (drop (i + 1) owners)
taken_at owners n i low = rw (drop-cons owners i None low, add-one) refl

pub first_owner_step : (owners : List (Option Owner)) (left n i : ℕ) (found : Option Owner) → left ≡ suc n → i < length owners → found ≡ get_or owners i None → is_some found ≡ true → first_owner (take left (drop i owners)) ≡ found
first_owner_step owners left n i found left_is low is some =
    ap (λ m. first_owner (take m (drop i owners))) left_is ∙ ap first_owner (taken_at owners n i low)
    ∙ ap (λ o. first_owner (o ∷ take n (drop (i + 1) owners))) (sym is) ∙ first_owner_cons found (take n (drop (i + 1) owners)) some

pub first_owner_skip : (owners : List (Option Owner)) (left n i : ℕ) (found : Option Owner) → left ≡ suc n → i < length owners → found ≡ get_or owners i None → is_some found ≡ false → first_owner (take left (drop i owners)) ≡ first_owner (take n (drop (i + 1) owners))
first_owner_skip owners left n i found left_is low is none =
    ap (λ m. first_owner (take m (drop i owners))) left_is ∙ ap first_owner (taken_at owners n i low)
    ∙ ap (λ o. first_owner (o ∷ take n (drop (i + 1) owners))) (sym is) ∙ first_owner_none found (take n (drop (i + 1) owners)) none

-- ## A store more

pub stored_seen : (cores words : ℕ) (since : List ℕ) (log : List Entry) (epochs : List ℕ) (capacity : ℕ) (since2 : List ℕ) (core word epoch value : ℕ)
    (can : CanStore words since log epochs since2 core word epoch) →
    caches_by cores words since2 (log ++ Store core word value ∷ []) (epochs ++ epoch ∷ []) capacity ≡ stored (caches_by cores words since log epochs capacity) core word value
stored_seen cores words since log epochs capacity since2 core word epoch value can = rw (owners_are, flags_are) refl
  where
    open can use {sound, waiting}

    sound2 : AreSound words since2 (log ++ Store core word value ∷ []) (epochs ++ epoch ∷ [])
    sound2 = stored_sound words since log epochs since2 core word epoch value can

    fresh : waits_at (get_or since2 word 0) (length log) ≡ true
    fresh = new_waits words since log epochs since2 core word epoch value can

    flag_at : (place : ℕ) → place < length log → (entry : Option Entry) → slice_get log place ≡ entry → entry_is_back since2 place entry ≡ entry_is_back since place entry
    flag_at place early None is = refl
    flag_at place early (Some (Load its_core at)) is = refl
    flag_at place early (Some (Barrier its_core)) is = refl
    flag_at place early (Some (Store its_core at its)) is = ap not (number_at (get_or since at 0) refl)
      where
        number_at : (number : ℕ) → get_or since at 0 ≡ number → waits_at (get_or since2 at 0) place ≡ waits_at (get_or since at 0) place
        number_at (suc first) number_is = rw (waiting.same at first number_is, number_is) refl
        number_at zero number_is = elim (cases_eq at word) [
          | inl same ↦
              let here : get_or since2 at 0 ≡ suc (length log) = ap (λ n. get_or since2 n 0) same ∙ waiting.here (sym (ap (λ n. get_or since n 0) same) ∙ number_is) in
              rw (here, number_is) (lt-leb (length log) place early)
          | inr differ ↦ ap (λ n. waits_at n place) (waiting.others at differ)
        ]

    flags_are : flags_of since2 (log ++ Store core word value ∷ []) ≡ flags_of since log ++ false ∷ []
    flags_are = flags_pushed since since2 log (Store core word value) false (λ place early. flag_at place early (slice_get log place) refl) (ap not fresh)

    new_owner : owner_since (log ++ Store core word value ∷ []) (epochs ++ epoch ∷ []) (get_or since2 word 0) ≡ Some (record { core = core; epoch = core_barriers core log })
    new_owner =
        let store : IsStore (log ++ Store core word value ∷ []) (length log) core word = record { value = value; is = get_pushed_new log (Store core word value) } in
        owner_of_waiting words since2 (log ++ Store core word value ∷ []) (epochs ++ epoch ∷ []) sound2 (length log) core word (record { store = store; waits = fresh })
        ∙ ap (λ (n : ℕ). Some (record { core = core; epoch = n })) (epoch_at-end log (Store core word value) core)

    first_low : (at first : ℕ) → get_or since at 0 ≡ suc first → first < length log
    first_low at first is = let store = sound.first at first is in get_within log first (Store store.0 at store.1.value) store.1.is

    owners_are : owners_of since2 (log ++ Store core word value ∷ []) (epochs ++ epoch ∷ []) ≡ set (owners_of since log epochs) word (Some (record { core = core; epoch = core_barriers core log }))
    owners_are =
        let new : Option Owner = Some (record { core = core; epoch = core_barriers core log }) in
        let old = owners_of since log epochs in
        let size = length-owners since2 (log ++ Store core word value ∷ []) (epochs ++ epoch ∷ []) in
        let old_size = length-owners since log epochs in
        ext_get_or None (owners_of since2 (log ++ Store core word value ∷ []) (epochs ++ epoch ∷ [])) (set old word new)
        (size ∙ waiting.size ∙ sym old_size ∙ sym (length-set old word new))
        (λ at within. elim (cases_eq at word) [
          | inl same ↦
              let in_old : word < length old = let many = sound.as_many_since in omega arith in
              owner_seen since2 (log ++ Store core word value ∷ []) (epochs ++ epoch ∷ []) at ∙ ap (λ n. owner_since (log ++ Store core word value ∷ []) (epochs ++ epoch ∷ []) (get_or since2 n 0)) same ∙ new_owner
              ∙ sym (ap (λ n. get_or (set old word new) n None) same ∙ get_or-set_same old word new None in_old)
          | inr differ ↦
              owner_seen since2 (log ++ Store core word value ∷ []) (epochs ++ epoch ∷ []) at ∙ ap (owner_since (log ++ Store core word value ∷ []) (epochs ++ epoch ∷ [])) (waiting.others at differ)
              ∙ sym (owner_seen since (log ++ Store core word value ∷ []) (epochs ++ epoch ∷ []) at)
              ∙ ap (λ (os : List (Option Owner)). get_or os at None) (owners_pushed since log epochs (Store core word value) epoch sound.as_many_epochs first_low)
              ∙ sym (get_or-set_other old word at new None differ)
        ])

pub begun_seen : (cores words capacity : ℕ) → caches_by cores words (replicate words 0) [] [] capacity ≡ caches_over cores words capacity
begun_seen cores words capacity = rw (none_owned words) refl
  where
    none_owned : (n : ℕ) → map (owner_since [] []) (replicate n 0) ≡ replicate n None
    none_owned zero = refl
    none_owned (suc n) = ap (λ (os : List (Option Owner)). None ∷ os) (none_owned n)
