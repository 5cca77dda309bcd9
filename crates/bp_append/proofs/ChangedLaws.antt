-- The links that change a word, and the epoch that they make.
use Rattle.std.proofs.Common.{◌≡◌, ℕ, ◌<◌, ◌≤◌, ◌==◌, List, [], ◌∷◌, ◌++◌, length, Bool, true, false, set, get_or, refl, sym, ◌∙◌, ap, subst, arith, eqb-true}
use Rattle.std.proofs.lemmas.List.{append_assoc, append-nil, set-get_or}
use Rattle.bp_layout.specs.Words.{Image}
use Rattle.bp_layout.specs.Stores.{after_stores}
use Rattle.pm_epochs.specs.declared.event.Event.{Event}
use Rattle.pm_epochs.specs.declared.event.Event.TheVariants.{Barrier}
use Rattle.pm_epochs.specs.Crash.{Likeness, IsQuiet, IsPartialEquivalence}
use Rattle.pm_epochs.specs.Log.{words_after, IsClosed, IsPiece}
use Rattle.pm_epochs.specs.May.{StoresMay, EachMay, AnyOf, links_of}
use Rattle.pm_epochs.proofs.CrashLaws.{quiet-barrier, IsClosed-barrier}
use Rattle.pm_epochs.proofs.MayLaws.{quiet_may, quiet_prepared, StoresMay-append}
use Rattle.pm_epochs.proofs.PieceLaws.{IsPiece-append, IsPiece-more, IsPiece-none, IsPiece-links_of, IsPiece-barrier}
use Rattle.bp_append.specs.Grown.{changed, epoch_of_links}

-- ---- the links that change a word

-- a link that stands already changes nothing
stays : (image : Image) (place value : ℕ) → (get_or image place 0 == value) ≡ true → set image place value ≡ image
stays image place value is = subst (λ v. set image place v ≡ image) (eqb-true (get_or image place 0) value is) (set-get_or image place 0)

-- what holds of the others after a link that stands already, and of that link with those after one that does not
by_link : (P : List (ℕ × ℕ) → Type 0) (image : Image) (link : ℕ × ℕ) (links : List (ℕ × ℕ)) →
    ((get_or image link.0 0 == link.1) ≡ true → P (changed image links)) → P (link ∷ changed (set image link.0 link.1) links) → P (changed image (link ∷ links))
by_link P image link links stands stored = go (get_or image link.0 0 == link.1) refl
  where
    go : (b : Bool) → (get_or image link.0 0 == link.1) ≡ b → P (changed image (link ∷ links))
    go true is = rw is (stands is)
    go false is = rw is stored

-- so the others make the same image
pub after_changed : (image : Image) (links : List (ℕ × ℕ)) → after_stores image (changed image links) ≡ after_stores image links
after_changed image [] = refl
after_changed image (link ∷ links) =
    by_link (λ rest. after_stores image rest ≡ after_stores image (link ∷ links)) image link links
    (λ is. after_changed image links ∙ ap (λ i. after_stores i links) (sym (stays image link.0 link.1 is))) (after_changed (set image link.0 link.1) links)

-- they are some of all
pub any_changed : (Same : Likeness) (base words : List ℕ) (image : Image) (links : List (ℕ × ℕ)) → AnyOf Same base words links →
    AnyOf Same base words (changed image links)
any_changed Same base words image [] any = any
any_changed Same base words image (link ∷ links) any =
    let next = set image link.0 link.1 in
    by_link (AnyOf Same base words) image link links (λ is. any_changed Same base words image links any.0)
    (any_changed Same base words next links any.0, any_changed Same base (set words link.0 link.1) next links any.1)

pub may_changed : (May : ℕ → ℕ → Type 0) (image : Image) (links : List (ℕ × ℕ)) → StoresMay May (links_of links) → StoresMay May (links_of (changed image links))
may_changed May image [] may = may
may_changed May image (link ∷ links) may =
    by_link (λ rest. StoresMay May (links_of rest)) image link links (λ is. may_changed May image links may.1)
    (may.0, may_changed May (set image link.0 link.1) links may.1)

pub few_changed : (image : Image) (links : List (ℕ × ℕ)) → length (changed image links) ≤ length links
few_changed image [] = omega arith
few_changed image (link ∷ links) =
    let without = few_changed image links in
    let past_end = few_changed (set image link.0 link.1) links in
    by_link (λ rest. length rest ≤ length (link ∷ links)) image link links (λ is. omega (arith, without)) (omega (arith, past_end))

-- the others of links in a row, once the first ones are stored
abbrev Splits : Image → List (ℕ × ℕ) → List (ℕ × ℕ) → Type 0
Splits image xs ys = changed image (xs ++ ys) ≡ changed image xs ++ changed (after_stores image xs) ys

pub changed_append : (image : Image) (xs ys : List (ℕ × ℕ)) → Splits image xs ys
changed_append image [] ys = refl
changed_append image (link ∷ links) ys =
    go (get_or image link.0 0 == link.1) refl (changed_append image links ys) (changed_append (set image link.0 link.1) links ys)
  where
    go : (b : Bool) → (get_or image link.0 0 == link.1) ≡ b → Splits image links ys → Splits (set image link.0 link.1) links ys →
        Splits image (link ∷ links) ys
    go true is without past_end = rw is (without ∙ ap (λ i. changed image links ++ changed (after_stores i links) ys) (sym (stays image link.0 link.1 is)))
    go false is without past_end = rw is (ap (λ rest. link ∷ rest) past_end)

-- ---- the words after links

pub after_links : (words : Image) (links : List (ℕ × ℕ)) → words_after words (links_of links) ≡ after_stores words links
after_links words [] = refl
after_links words (link ∷ links) = after_links (set words link.0 link.1) links

after_barrier : (words : Image) (links : List (ℕ × ℕ)) → words_after words (links_of links ++ Barrier ∷ []) ≡ after_stores words links
after_barrier words [] = refl
after_barrier words (link ∷ links) = after_barrier (set words link.0 link.1) links

pub after_epoch : (words : Image) (links : List (ℕ × ℕ)) → words_after words (epoch_of_links links) ≡ after_stores words links
after_epoch words [] = refl
after_epoch words (link ∷ links) = after_barrier (set words link.0 link.1) links

-- ---- the epoch

pub some_epoch : (links : List (ℕ × ℕ)) → 0 < length links → epoch_of_links links ≡ links_of links ++ Barrier ∷ []
some_epoch [] some = absurd (omega (arith, some))
some_epoch (link ∷ links) some = refl

pub no_epoch : (links : List (ℕ × ℕ)) → length links ≤ 0 → epoch_of_links links ≡ links_of links
no_epoch [] none = refl
no_epoch (link ∷ links) none = absurd (omega (arith, none))

-- stores that nobody sees, a barrier, and such an epoch over the words after them
pub quiet_epochs : (Same : Likeness) → IsPartialEquivalence Same → (May : ℕ → ℕ → Type 0) (base : List ℕ) (events : List Event) (links : List (ℕ × ℕ)) →
    ((image : List ℕ) → EachMay May base image → Same base image) → StoresMay May events → AnyOf Same (words_after base events) (words_after base events) links → IsQuiet Same base ((events ++ Barrier ∷ []) ++ epoch_of_links links)
quiet_epochs Same equivalence May base events [] unseen may any =
    subst (IsQuiet Same base) (sym (append-nil (events ++ Barrier ∷ []))) (quiet-barrier Same base events (quiet_may Same equivalence May base events unseen may))
quiet_epochs Same equivalence May base events (link ∷ links) unseen may any = quiet_prepared Same equivalence May base events (link ∷ links) unseen may any

pub closed_epochs : (events : List Event) (links : List (ℕ × ℕ)) → IsClosed ((events ++ Barrier ∷ []) ++ epoch_of_links links)
closed_epochs events [] = subst IsClosed (sym (append-nil (events ++ Barrier ∷ []))) (IsClosed-barrier events [] tt)
closed_epochs events (link ∷ links) =
    subst IsClosed (append_assoc (events ++ Barrier ∷ []) (links_of (link ∷ links)) (Barrier ∷ [])) (IsClosed-barrier ((events ++ Barrier ∷ []) ++ links_of (link ∷ links)) [] tt)

pub piece_epoch : (links : List (ℕ × ℕ)) → IsPiece 1 (length links) (epoch_of_links links)
piece_epoch [] = IsPiece-more 0 0 1 0 [] (omega arith) (omega arith) IsPiece-none
piece_epoch (link ∷ links) =
    let part = IsPiece-append 0 (length (link ∷ links)) 1 0 (links_of (link ∷ links)) (Barrier ∷ []) (IsPiece-links_of (link ∷ links)) IsPiece-barrier in
    IsPiece-more _ _ 1 (length (link ∷ links)) (epoch_of_links (link ∷ links)) (omega arith) (omega arith) part

pub may_epoch : (May : ℕ → ℕ → Type 0) (links : List (ℕ × ℕ)) → StoresMay May (links_of links) → StoresMay May (epoch_of_links links)
may_epoch May [] may = tt
may_epoch May (link ∷ links) may = StoresMay-append May (links_of (link ∷ links)) (Barrier ∷ []) may tt
