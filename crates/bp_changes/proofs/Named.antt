-- How many names inodes have after a change of one entry.
use Rattle.std.proofs.Common.{◌≡◌, ◌≢◌, ◌⊎◌, ℕ, ◌+◌, ◌<◌, ◌≤◌, List, [], ◌∷◌, length, filter, Bool, true, false, not, ◌&&◌, ◌==◌, set, inl, inr}
use Rattle.std.proofs.Common.{refl, sym, ◌∙◌, ap, subst, arith, true≢false, get_or-set_same, get_or-set_other}
use Rattle.std.proofs.lemmas.Bool.{cases_eq, eqb-true, eqb-false}
use Rattle.std.proofs.lemmas.List.{length-set}
use Rattle.std.specs.List.{slice_index}
use Rattle.bp_layout.specs.Words.{Image}
use Rattle.bp_layout.specs.Directory.{EntryNames, ino_at}
use Rattle.bp_layout.specs.Members.{AreApart, Has}
use Rattle.bp_layout.specs.Names.{AreCounts, HasNames, IsNamed}
use Rattle.bp_layout.specs.Reached.{IsReached}
use Rattle.bp_layout.specs.Reached.IsReached.{named}
use Rattle.bp_layout.specs.WellFormed.{IsWellFormed}
use Rattle.bp_layout.proofs.MemberLaws.{apart-filter, apart-more, apart-within, each-as, each-has, each-of, filter-has, has-filter}
use Rattle.bp_changes.specs.Effects.{AddsNames, CanMoveEntry, CanUnlink, CarriesEntry, IsAtOrBelow, IsNewEntry, IsOldEntry, LinksName, MovesEntry, RemovesEntry, RespellsEntry}
use Rattle.bp_changes.specs.SameMeaning.{SameMeaning}
use Rattle.bp_changes.proofs.SameMeaning as meaning
use Rattle.bp_changes.proofs.KeepsDirectories as directories
use Rattle.bp_changes.specs.KeepsDirectories.{KeepsDirectories}
use Rattle.bp_changes.proofs.SameEntries.{SameInos, names_back, names_on, reached_back, reached_on}
use Rattle.bp_changes.proofs.AddsNames.{adds_takes}
use Rattle.bp_changes.proofs.EntryAdded as added
use Rattle.bp_changes.proofs.EntryAdded.{TakesName}
use Rattle.bp_changes.proofs.GainsEntry.{GainsEntry, adds_gain, links_gain}
use Rattle.bp_changes.proofs.LinksName.{links_takes}
use Rattle.bp_changes.proofs.Unlink as unlink
use Rattle.bp_changes.proofs.Carry as carry
use Rattle.bp_changes.proofs.Move as move
use Rattle.bp_changes.proofs.Move.Entry.{is_target, is_old}
use Rattle.bp_changes.proofs.Respell as respell
use Rattle.bp_changes.proofs.MoveReach.{carried_on, moved_on}

-- ---- entries

abbrev same_entry : ℕ × ℕ → ℕ × ℕ → Bool
same_entry e x = (e.0 == x.0) && (e.1 == x.1)

abbrev is_other : ℕ × ℕ → ℕ × ℕ → Bool
is_other x e = not (same_entry e x)

equal_self : (n : ℕ) → (n == n) ≡ true
equal_self n = go (n == n) refl
  where
    go : (b : Bool) → (n == n) ≡ b → (n == n) ≡ true
    go true e = e
    go false e = absurd (eqb-false n n e refl)

entry_cases : (e x : ℕ × ℕ) → ((e ≡ x) × (is_other x e ≡ false)) ⊎ ((e ≢ x) × (is_other x e ≡ true))
entry_cases e x = go (e.0 == x.0) refl (e.1 == x.1) refl
  where
    apart : same_entry e x ≡ false → (e ≢ x) × (is_other x e ≡ true)
    apart f = (
      λ same.
          let self : same_entry x x ≡ true = rw (equal_self x.0, equal_self x.1) refl in
          true≢false (sym self ∙ ap (λ y. same_entry y x) (sym same) ∙ f),
      ap not f,
    )

    go : (a : Bool) → (e.0 == x.0) ≡ a → (b : Bool) → (e.1 == x.1) ≡ b → ((e ≡ x) × (is_other x e ≡ false)) ⊎ ((e ≢ x) × (is_other x e ≡ true))
    go true f true g = inl ((λ i. (eqb-true e.0 x.0 f i, eqb-true e.1 x.1 g i)), rw (f, g) refl)
    go true f false g = inr (apart (rw (f, g) refl))
    go false f b g = inr (apart (rw f refl))

pub none_named : (image : Image) (j : ℕ) → ((e : ℕ × ℕ) → IsNamed image j e → ⊥) → HasNames image j 0
none_named image j none = record {
  entries = [];
  are = record { once = tt; name = tt; all = λ i s n. none (i, s) n };
  number = refl;
}

module _ (old new : Image) (j count : ℕ) (has : HasNames old j count) where
  -- the same entries name it
  pub names_same : ((e : ℕ × ℕ) → IsNamed new j e → IsNamed old j e) → ((e : ℕ × ℕ) → IsNamed old j e → IsNamed new j e) → HasNames new j count
  names_same back on = record {
    entries = has.entries;
    are = record {
      once = has.are.once;
      name = each-as (IsNamed old j) (IsNamed new j) on has.entries has.are.name;
      all = λ i s n. has.are.all i s (back (i, s) n);
    };
    number = has.number;
  }

  -- one more does
  pub names_more : (x : ℕ × ℕ) → (IsNamed old j x → ⊥) → IsNamed new j x → ((e : ℕ × ℕ) → IsNamed new j e → (e ≡ x) ⊎ IsNamed old j e) → ((e : ℕ × ℕ) → IsNamed old j e → IsNamed new j e) →
      HasNames new j (count + 1)
  names_more x fresh here back on = record {
    entries = x ∷ has.entries;
    are = record {
      once = apart-more x has.entries (λ there. fresh (each-has (IsNamed old j) has.entries x has.are.name there)) has.are.once;
      name = (here, each-as (IsNamed old j) (IsNamed new j) on has.entries has.are.name);
      all = λ i s n. go i s (back (i, s) n);
    };
    number = omega (arith, has.number);
  }
    where
      go : (i s : ℕ) → ((i, s) ≡ x) ⊎ IsNamed old j (i, s) → Has (x ∷ has.entries) (i, s)
      go i s (inl same) = inl (sym same)
      go i s (inr was) = inr (has.are.all i s was)

  -- the entries but one of them
  module _ (x : ℕ × ℕ) (was : IsNamed old j x) where
    abbrev left : List (ℕ × ℕ)
    left = filter (is_other x) has.entries

    passes : (e : ℕ × ℕ) → e ≢ x → ((e ≡ x) × (is_other x e ≡ false)) ⊎ ((e ≢ x) × (is_other x e ≡ true)) → is_other x e ≡ true
    passes e other (inl same) = absurd (other same.0)
    passes e other (inr apart) = apart.1

    differs : (e : ℕ × ℕ) → is_other x e ≡ true → ((e ≡ x) × (is_other x e ≡ false)) ⊎ ((e ≢ x) × (is_other x e ≡ true)) → e ≢ x
    differs e pass (inl same) = absurd (true≢false (sym pass ∙ same.1))
    differs e pass (inr apart) = apart.0

    in_left : (e : ℕ × ℕ) → Has left e → IsNamed old j e × (e ≢ x)
    in_left e there =
        let at = filter-has (is_other x) has.entries e there in
        (each-has (IsNamed old j) has.entries e has.are.name at.0, differs e at.1 (entry_cases e x))

    left_has : (e : ℕ × ℕ) → IsNamed old j e → e ≢ x → Has left e
    left_has e n other = has-filter (is_other x) has.entries e (has.are.all e.0 e.1 n) (passes e other (entry_cases e x))

    left_once : AreApart left
    left_once = apart-filter (is_other x) has.entries has.are.once

    inside : (e : ℕ × ℕ) → Has (x ∷ left) e → Has has.entries e
    inside e (inl same) = subst (Has has.entries) same (has.are.all x.0 x.1 was)
    inside e (inr there) = (filter-has (is_other x) has.entries e there).0

    covers : (e : ℕ × ℕ) → Has has.entries e → Has (x ∷ left) e
    covers e there = go (entry_cases e x)
      where
        go : ((e ≡ x) × (is_other x e ≡ false)) ⊎ ((e ≢ x) × (is_other x e ≡ true)) → Has (x ∷ left) e
        go (inl same) = inl (sym same.0)
        go (inr apart) = inr (has-filter (is_other x) has.entries e there apart.1)

    left_number : length left + 1 ≡ count
    left_number =
        let least : length (x ∷ left) ≤ length has.entries = apart-within (x ∷ left) has.entries (apart-more x left (λ there. (in_left x there).1 refl) left_once) inside in
        let most : length has.entries ≤ length (x ∷ left) = apart-within has.entries (x ∷ left) has.are.once covers in
        omega (arith, has.number, least, most)

    -- one fewer names it
    pub names_less : (rest : ℕ) → count ≡ rest + 1 → ((e : ℕ × ℕ) → IsNamed new j e → IsNamed old j e × (e ≢ x)) → ((e : ℕ × ℕ) → IsNamed old j e → e ≢ x → IsNamed new j e) → HasNames new j rest
    names_less rest is back on = record {
      entries = left;
      are = record {
        once = left_once;
        name = each-of (IsNamed new j) left (λ e there. let before = in_left e there in on e before.0 before.1);
        all = λ i s n. let before = back (i, s) n in left_has (i, s) before.0 before.1;
      };
      number = omega (arith, left_number, is);
    }

    -- another one does in its place
    pub names_moved : (y : ℕ × ℕ) → (IsNamed old j y → ⊥) → IsNamed new j y → ((e : ℕ × ℕ) → IsNamed new j e → (e ≡ y) ⊎ (IsNamed old j e × (e ≢ x))) →
        ((e : ℕ × ℕ) → IsNamed old j e → e ≢ x → IsNamed new j e) → HasNames new j count
    names_moved y fresh here back on = record {
      entries = y ∷ left;
      are = record {
        once = apart-more y left (λ there. fresh (in_left y there).0) left_once;
        name = (here, each-of (IsNamed new j) left (λ e there. let before = in_left e there in on e before.0 before.1));
        all = λ i s n. go i s (back (i, s) n);
      };
      number = omega (arith, left_number);
    }
      where
        go : (i s : ℕ) → ((i, s) ≡ y) ⊎ (IsNamed old j (i, s) × ((i, s) ≢ x)) → Has (y ∷ left) (i, s)
        go i s (inl same) = inl (sym same)
        go i s (inr before) = inr (left_has (i, s) before.0 before.1)

-- ---- counts

-- one inode gets another count, and all others have the entries that they had
pub counts_set : (old new : Image) (counts : List ℕ) (j value : ℕ) → AreCounts old counts → HasNames new j value →
    ((k : ℕ) → k ≢ j → (e : ℕ × ℕ) → IsNamed new k e → IsNamed old k e) → ((k : ℕ) → k ≢ j → (e : ℕ × ℕ) → IsNamed old k e → IsNamed new k e) → AreCounts new (set counts j value)
counts_set old new counts j value are has back on = record { each = λ k low. at k (rw (length-set counts j value) at low) (cases_eq k j) }
  where
    at : (k : ℕ) → k < length counts → (k ≡ j) ⊎ (k ≡ j → ⊥) → HasNames new k (slice_index (set counts j value) k)
    at k low (inl same) =
        let here : slice_index (set counts j value) j ≡ value = get_or-set_same counts j value 0 (subst (λ n. n < length counts) same low) in
        subst (λ n. HasNames new n (slice_index (set counts j value) n)) (sym same) (subst (HasNames new j) (sym here) has)
    at k low (inr other) =
        let stays : slice_index (set counts j value) k ≡ slice_index counts k = get_or-set_other counts j k value 0 other in
        subst (HasNames new k) (sym stays) (names_same old new k (slice_index counts k) (are.each k low) (back k other) (on k other))

pub counts_same : (old new : Image) (counts : List ℕ) → AreCounts old counts →
    ((k : ℕ) (e : ℕ × ℕ) → IsNamed new k e → IsNamed old k e) → ((k : ℕ) (e : ℕ × ℕ) → IsNamed old k e → IsNamed new k e) → AreCounts new counts
counts_same old new counts are back on = record { each = λ k low. names_same old new k (slice_index counts k) (are.each k low) (back k) (on k) }

-- ---- a name more

module _ (old new : Image) (wf : IsWellFormed old) (i s j : ℕ) (gains : GainsEntry old new i s j) (takes : TakesName old new j)
    (counts : List ℕ) (are : AreCounts old counts) where
  -- the new entry names the inode, and each other entry names what it did
  gained_back : (k : ℕ) (e : ℕ × ℕ) → IsNamed new k e → ((k ≡ j) × (e ≡ (i, s))) ⊎ IsNamed old k e
  gained_back k e n = go (added.entry_cases old new wf i s j gains takes e.0 e.1 k n.reached n.names)
    where
      go : IsNewEntry i s j e.0 e.1 k ⊎ (IsReached old e.0 × EntryNames old e.0 e.1 k) → ((k ≡ j) × (e ≡ (i, s))) ⊎ IsNamed old k e
      go (inl fresh) = inl (fresh.inode, λ l. (fresh.directory l, fresh.slot l))
      go (inr before) = inr (record { reached = before.0; names = before.1 })

  -- no entry goes
  gained_on : (k : ℕ) (e : ℕ × ℕ) → IsNamed old k e → IsNamed new k e
  gained_on k e n = record { reached = added.reached_stays old new wf i s j gains takes e.0 n.reached; names = gains.stay e.0 e.1 k n.reached n.names }

  -- the inode that the new entry names has one name more
  gained_counts : (count : ℕ) → HasNames old j count → AreCounts new (set counts j (count + 1))
  gained_counts count has = counts_set old new counts j (count + 1) are
      (names_more old new j count has (i, s) (λ n. gains.new_name s j n.names (sym (gains.same_names i s j n.reached n.names)))
      (record { reached = added.reached_stays old new wf i s j gains takes i gains.reached; names = gains.entry })
      (λ e n. own e (gained_back j e n)) (gained_on j))
      (λ k other e n. elim (gained_back k e n) [ inl fresh ↦ absurd (other fresh.0) | inr before ↦ before ]) (λ k other. gained_on k)
    where
      own : (e : ℕ × ℕ) → ((j ≡ j) × (e ≡ (i, s))) ⊎ IsNamed old j e → (e ≡ (i, s)) ⊎ IsNamed old j e
      own e (inl fresh) = inl fresh.1
      own e (inr before) = inr before

-- which is a file that had one
module _ (old new : Image) (wf : IsWellFormed old) (i s j : ℕ) (adds : LinksName old new i s j)
    (counts : List ℕ) (are : AreCounts old counts) (low : j < length counts) where
  pub linked_counts : AreCounts new (set counts j (slice_index counts j + 1))
  linked_counts =
      gained_counts old new wf i s j (links_gain old new i s j adds) (links_takes old new wf i s j adds) counts are
      (slice_index counts j) (are.each j low)

-- or had none
module _ (old new : Image) (wf : IsWellFormed old) (i s j : ℕ) (adds : AddsNames old new i s j) (counts : List ℕ) (are : AreCounts old counts) where
  pub added_counts : AreCounts new (set counts j 1)
  added_counts =
      gained_counts old new wf i s j (adds_gain old new i s j adds) (adds_takes old new i s j adds) counts are
      0 (none_named old j (λ e n. adds.fresh (named e.1 n.reached n.names)))

-- ---- a name goes

module _ (old new : Image) (wf : IsWellFormed old) (i s j : ℕ) (can : CanUnlink old i s j) (removes : RemovesEntry old new i s) (counts : List ℕ) (are : AreCounts old counts) (low : j < length counts) where
  -- each entry names what it did, and it is not the one that was emptied
  removed_back : (k : ℕ) (e : ℕ × ℕ) → IsNamed new k e → IsNamed old k e × (e ≢ (i, s))
  removed_back k e n = (record { reached = was; names = kept.before }, λ same. kept.other (ap (λ x. x.0) same) (ap (λ x. x.1) same))
    where
      was : IsReached old e.0
      was = unlink.reached_back old new wf i s j can removes e.0 n.reached

      kept : unlink.IsKept old new wf i s j can removes e.0 e.1 k
      kept = unlink.names_back old new wf i s j can removes e.0 e.1 k was n.names

  -- all others stay
  removed_on : (k : ℕ) (e : ℕ × ℕ) → IsNamed old k e → e ≢ (i, s) → IsNamed new k e
  removed_on k e n other = record {
    reached = unlink.reached_stays old new wf i s j can removes e.0 n.reached (λ same. can.alone e.1 k (subst (λ u. EntryNames old u e.1 k) same n.names));
    names = unlink.names_stay old new wf i s j can removes e.0 e.1 k n.reached n.names (λ f g. other (λ l. (f l, g l)));
  }

  pub removed_counts : (rest : ℕ) → slice_index counts j ≡ rest + 1 → AreCounts new (set counts j rest)
  removed_counts rest is = counts_set old new counts j rest are
      (names_less old new j (slice_index counts j) (are.each j low) (i, s) (record { reached = can.reached; names = can.entry }) rest is (removed_back j) (removed_on j))
      (λ k other e n. (removed_back k e n).0) (λ k other e n. removed_on k e n (λ same. other (one_inode k e n same)))
    where
      one_inode : (k : ℕ) (e : ℕ × ℕ) → IsNamed old k e → e ≡ (i, s) → k ≡ j
      one_inode k e n same = sym n.names.ino ∙ ap (λ x. ino_at old x.0 x.1) same ∙ can.entry.ino

-- ---- a name moves

-- to an entry that named nothing, which an entry after the last is too
module _ (old new : Image) (wf : IsWellFormed old) (i s k r j : ℕ) (carries : CarriesEntry old new i s k r j) (outside : IsAtOrBelow old j k → ⊥) (counts : List ℕ) (are : AreCounts old counts) where
  carried_back : (l : ℕ) (e : ℕ × ℕ) → IsNamed new l e → ((l ≡ j) × (e ≡ (k, r))) ⊎ (IsNamed old l e × (e ≢ (i, s)))
  carried_back l e n = go (carries.back e.0 e.1 l was n.names)
    where
      was : IsReached old e.0
      was = carry.reached_back old new wf i s k r j carries e.0 n.reached

      go : IsNewEntry k r j e.0 e.1 l ⊎ IsOldEntry old i s e.0 e.1 l → ((l ≡ j) × (e ≡ (k, r))) ⊎ (IsNamed old l e × (e ≢ (i, s)))
      go (inl fresh) = inl (fresh.inode, λ a. (fresh.directory a, fresh.slot a))
      go (inr before) = inr (record { reached = was; names = before.before }, λ same. before.other (ap (λ x. x.0) same) (ap (λ x. x.1) same))

  carried_names : (l : ℕ) (e : ℕ × ℕ) → IsNamed old l e → e ≢ (i, s) → IsNamed new l e
  carried_names l e n other = record {
    reached = carried_on old new i s k r j carries outside e.0 n.reached;
    names = carries.stay e.0 e.1 l n.reached n.names (λ f g. other (λ a. (f a, g a)));
  }

  pub carried_counts : AreCounts new counts
  carried_counts = record { each = λ l low. at l low (cases_eq l j) }
    where
      source : IsNamed old j (i, s)
      source = record { reached = carries.reached; names = carries.names }

      empty : IsNamed old j (k, r) → ⊥
      empty n = go (entry_cases (k, r) (i, s))
        where
          go : ((◌≡◌ {A = ℕ × ℕ} (k, r) (i, s)) × (is_other (i, s) (k, r) ≡ false)) ⊎ (((◌≡◌ {A = ℕ × ℕ} (k, r) (i, s)) → ⊥) × (is_other (i, s) (k, r) ≡ true)) → ⊥
          go (inl same) =
              carries.entry.not_empty (sym carries.entry.ino ∙ ap (λ (x : ℕ × ℕ). ino_at new x.0 x.1) same.0 ∙ carries.emptied)
          go (inr apart) = carries.new_name r j n.names (sym (carries.same_names k r j n.reached n.names (λ f g. apart.0 (λ a. (f a, g a)))))

      own : (e : ℕ × ℕ) → ((j ≡ j) × (e ≡ (k, r))) ⊎ (IsNamed old j e × (e ≢ (i, s))) → (e ≡ (k, r)) ⊎ (IsNamed old j e × (e ≢ (i, s)))
      own e (inl fresh) = inl fresh.1
      own e (inr before) = inr before

      mine : j < length counts → HasNames new j (slice_index counts j)
      mine low =
          names_moved old new j (slice_index counts j) (are.each j low) (i, s) source (k, r) empty
          (record { reached = carried_on old new i s k r j carries outside k carries.target; names = carries.entry })
          (λ e n. own e (carried_back j e n)) (carried_names j)

      at : (l : ℕ) → l < length counts → (l ≡ j) ⊎ (l ≡ j → ⊥) → HasNames new l (slice_index counts l)
      at l low (inl same) = subst (λ n. HasNames new n (slice_index counts n)) (sym same) (mine (subst (λ n. n < length counts) same low))
      at l low (inr other) =
          names_same old new l (slice_index counts l) (are.each l low)
          (λ e n. elim (carried_back l e n) [ inl fresh ↦ absurd (other fresh.0) | inr before ↦ before.0 ])
          (λ e n. carried_names l e n (λ same. other (sym n.names.ino ∙ ap (λ (x : ℕ × ℕ). ino_at old x.0 x.1) same ∙ carries.names.ino)))

-- to an entry that was empty, or that named a file or an empty directory
module _ (old new : Image) (wf : IsWellFormed old) (i s k r j : ℕ) (can : CanMoveEntry old i s k r j) (moves : MovesEntry old new i s k r j) (outside : IsAtOrBelow old j k → ⊥)
    (differ : ino_at old k r ≢ j) (counts : List ℕ) (are : AreCounts old counts) where
  abbrev gone : ℕ
  gone = ino_at old k r

  moved_back : (l : ℕ) (e : ℕ × ℕ) → IsNamed new l e → ((l ≡ j) × (e ≡ (k, r))) ⊎ (IsNamed old l e × ((e ≢ (i, s)) × (e ≢ (k, r))))
  moved_back l e n = go (move.entry_of old new wf i s k r j can moves e.0 e.1 l was n.names)
    where
      was : IsReached old e.0
      was = move.reached_back old new wf i s k r j can moves e.0 n.reached

      go : move.Entry old new wf i s k r j can moves e.0 e.1 l → ((l ≡ j) × (e ≡ (k, r))) ⊎ (IsNamed old l e × ((e ≢ (i, s)) × (e ≢ (k, r))))
      go (is_target f g h) = inl (h, λ a. (f a, g a))
      go (is_old before one two) =
          inr (record { reached = was; names = before }, (λ same. one (ap (λ x. x.0) same) (ap (λ x. x.1) same), λ same. two (ap (λ x. x.0) same) (ap (λ x. x.1) same)))

  moved_names : (l : ℕ) (e : ℕ × ℕ) → IsNamed old l e → e ≢ (i, s) → e ≢ (k, r) → IsNamed new l e
  moved_names l e n one two = record {
    reached = moved_on old new wf i s k r j can moves outside e.0 n.reached
        (λ some same. can.alone e.1 l (λ none. some (same ∙ none)) (subst (λ u. EntryNames old u e.1 l) same n.names));
    names = move.names_stay old new wf i s k r j can moves e.0 e.1 l n.reached n.names (λ f g. one (λ a. (f a, g a))) (λ f g. two (λ a. (f a, g a)));
  }

  at_source : (l : ℕ) (e : ℕ × ℕ) → IsNamed old l e → e ≡ (i, s) → l ≡ j
  at_source l e n same = sym n.names.ino ∙ ap (λ (x : ℕ × ℕ). ino_at old x.0 x.1) same ∙ can.entry.ino

  at_target : (l : ℕ) (e : ℕ × ℕ) → IsNamed old l e → e ≡ (k, r) → l ≡ gone
  at_target l e n same = sym n.names.ino ∙ ap (λ (x : ℕ × ℕ). ino_at old x.0 x.1) same

  mine : j < length counts → HasNames new j (slice_index counts j)
  mine low =
      names_moved old new j (slice_index counts j) (are.each j low) (i, s) (record { reached = can.reached; names = can.entry }) (k, r)
      (λ n. differ (sym (at_target j (k, r) n refl)))
      (record {
        reached = moved_on old new wf i s k r j can moves outside k can.target
            (λ some same. can.alone r k (λ none. some (same ∙ none)) (subst (λ u. EntryNames old u r k) same (record { directory = can.directory; in_size = can.in_size; ino = sym same; not_empty = λ null. some null })));
        names = move.new_entry old new wf i s k r j can moves;
      })
      (λ e n. own e (moved_back j e n)) (λ e n other. moved_names j e n other (λ same. differ (sym (at_target j e n same))))
    where
      own : (e : ℕ × ℕ) → ((j ≡ j) × (e ≡ (k, r))) ⊎ (IsNamed old j e × ((e ≢ (i, s)) × (e ≢ (k, r)))) → (e ≡ (k, r)) ⊎ (IsNamed old j e × (e ≢ (i, s)))
      own e (inl fresh) = inl fresh.1
      own e (inr before) = inr (before.0, before.1.0)

  others : (l : ℕ) → l < length counts → l ≢ j → (IsNamed old l (k, r) → ⊥) → HasNames new l (slice_index counts l)
  others l low other apart =
      names_same old new l (slice_index counts l) (are.each l low)
      (λ e n. elim (moved_back l e n) [ inl fresh ↦ absurd (other fresh.0) | inr before ↦ before.0 ])
      (λ e n. moved_names l e n (λ same. other (at_source l e n same)) (λ same. apart (subst (IsNamed old l) same n)))

  -- what it named has a name less
  pub replaced_counts : gone ≢ 0 → gone < length counts → (rest : ℕ) → slice_index counts gone ≡ rest + 1 → AreCounts new (set counts gone rest)
  replaced_counts some small rest is = record { each = λ l low. at l (rw (length-set counts gone rest) at low) (cases_eq l gone) (cases_eq l j) }
    where
      target : IsNamed old gone (k, r)
      target = record { reached = can.target; names = record { directory = can.directory; in_size = can.in_size; ino = refl; not_empty = some } }

      fewer : HasNames new gone rest
      fewer =
          names_less old new gone (slice_index counts gone) (are.each gone small) (k, r) target rest is
          (λ e n. elim (moved_back gone e n) [ inl fresh ↦ absurd (differ fresh.0) | inr before ↦ (before.0, before.1.1) ])
          (λ e n other. moved_names gone e n (λ same. differ (at_source gone e n same)) other)

      at : (l : ℕ) → l < length counts → (l ≡ gone) ⊎ (l ≡ gone → ⊥) → (l ≡ j) ⊎ (l ≡ j → ⊥) → HasNames new l (slice_index (set counts gone rest) l)
      at l low (inl same) also =
          let here : slice_index (set counts gone rest) gone ≡ rest = get_or-set_same counts gone rest 0 small in
          subst (λ n. HasNames new n (slice_index (set counts gone rest) n)) (sym same) (subst (HasNames new gone) (sym here) fewer)
      at l low (inr apart) (inl same) =
          let stays : slice_index (set counts gone rest) l ≡ slice_index counts l = get_or-set_other counts gone l rest 0 apart in
          subst (HasNames new l) (sym stays) (subst (λ n. HasNames new n (slice_index counts n)) (sym same) (mine (subst (λ n. n < length counts) same low)))
      at l low (inr apart) (inr other) =
          let stays : slice_index (set counts gone rest) l ≡ slice_index counts l = get_or-set_other counts gone l rest 0 apart in
          subst (HasNames new l) (sym stays) (others l low other (λ n. apart (at_target l (k, r) n refl)))

-- ---- no name changes

-- each entry has the inode number that it had
inos_counts : (old new : Image) → SameInos old new → (counts : List ℕ) → AreCounts old counts → AreCounts new counts
inos_counts old new same counts are = counts_same old new counts are
    (λ k e n. let was : IsReached old e.0 = reached_back old new same e.0 n.reached in
    record { reached = was; names = names_back old new same e.0 e.1 k was n.names })
    (λ k e n. record { reached = reached_on old new same e.0 n.reached; names = names_on old new same e.0 e.1 k n.reached n.names })

-- where an entry is spelled again
pub respelled_counts : (old new : Image) (wf : IsWellFormed old) (i s j : ℕ) (spells : RespellsEntry old new i s j) (counts : List ℕ) → AreCounts old counts → AreCounts new counts
respelled_counts old new wf i s j spells = inos_counts old new (respell.same_inos old new wf i s j spells)

-- nor where the image means the same, as after a preparation
pub meaning_counts : (old new : Image) (wf : IsWellFormed old) (same : SameMeaning old new) (counts : List ℕ) → AreCounts old counts → AreCounts new counts
meaning_counts old new wf same = inos_counts old new (meaning.same_inos old new same)

-- nor where the bytes of files do
pub changed_counts : (old new : Image) (wf : IsWellFormed old) (keeps : KeepsDirectories old new) (counts : List ℕ) → AreCounts old counts → AreCounts new counts
changed_counts old new wf keeps = inos_counts old new (directories.same_inos old new wf keeps)
