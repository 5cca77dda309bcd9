-- What is quiet: stores of values that may stand at their words, and stores of which a crash may keep any.
use Rattle.std.proofs.Common.{◌≡◌, ℕ, zero, suc, ◌<◌, ◌≤◌, ◌⊎◌, inl, inr, Bool, true, false, List, [], ◌∷◌, ◌++◌, length, take, set, get_or, refl, sym, ◌∙◌, subst, get_or-set_same, get_or-set_other}
use Rattle.std.proofs.lemmas.List.{length-set, set_past}
use Rattle.std.proofs.lemmas.Bool.{cases_eq, cases_lt}
use Rattle.pm_epochs.specs.declared.event.Event.{Event}
use Rattle.pm_epochs.specs.declared.event.Event.TheVariants.{Store, Barrier, CallEnd}
use Rattle.pm_epochs.specs.Log.{words_after}
use Rattle.pm_epochs.specs.Replay.{stores_of}
use Rattle.pm_epochs.specs.Crash.{Likeness, IsPartialEquivalence, IsQuiet}
use Rattle.pm_epochs.specs.May.{StoresMay, EachMay, links_of, AnyOf}
use Rattle.pm_epochs.proofs.CrashLaws.{quiet_from, quiet-append, quiet-barrier, IsClosed-barrier, words_after-append}

-- ## Stores of values that may stand at their words

pub StoresMay-weaker : (May Other : ℕ → ℕ → Type 0) → ((word value : ℕ) → May word value → Other word value) → (events : List Event) → StoresMay May events → StoresMay Other events
StoresMay-weaker May Other weaker [] may = tt
StoresMay-weaker May Other weaker (Store word value ∷ events) may = (weaker word value may.0, StoresMay-weaker May Other weaker events may.1)
StoresMay-weaker May Other weaker (Barrier ∷ events) may = StoresMay-weaker May Other weaker events may
StoresMay-weaker May Other weaker (CallEnd ∷ events) may = StoresMay-weaker May Other weaker events may

module _ (May : ℕ → ℕ → Type 0) where
  pub StoresMay-append : (first rest : List Event) → StoresMay May first → StoresMay May rest → StoresMay May (first ++ rest)
  StoresMay-append [] rest may more = more
  StoresMay-append (Store word value ∷ first) rest may more = (may.0, StoresMay-append first rest may.1 more)
  StoresMay-append (Barrier ∷ first) rest may more = StoresMay-append first rest may more
  StoresMay-append (CallEnd ∷ first) rest may more = StoresMay-append first rest may more

  pub StoresMay-take : (count : ℕ) (events : List Event) → StoresMay May events → StoresMay May (take count events)
  StoresMay-take zero events may = tt
  StoresMay-take (suc count) [] may = tt
  StoresMay-take (suc count) (Store word value ∷ events) may = (may.0, StoresMay-take count events may.1)
  StoresMay-take (suc count) (Barrier ∷ events) may = StoresMay-take count events may
  StoresMay-take (suc count) (CallEnd ∷ events) may = StoresMay-take count events may

  -- what a crash keeps of them is of them
  pub StoresMay-stores_of : (events : List Event) (epoch : ℕ) (mask : List Bool) → StoresMay May events → StoresMay May (stores_of epoch mask events)
  StoresMay-stores_of [] epoch mask may = tt
  StoresMay-stores_of (Store word value ∷ events) zero [] may = tt
  StoresMay-stores_of (Store word value ∷ events) zero (true ∷ mask) may = (may.0, StoresMay-stores_of events zero mask may.1)
  StoresMay-stores_of (Store word value ∷ events) zero (false ∷ mask) may = StoresMay-stores_of events zero mask may.1
  StoresMay-stores_of (Store word value ∷ events) (suc epoch) mask may = (may.0, StoresMay-stores_of events (suc epoch) mask may.1)
  StoresMay-stores_of (Barrier ∷ events) zero mask may = tt
  StoresMay-stores_of (Barrier ∷ events) (suc epoch) mask may = StoresMay-stores_of events epoch mask may
  StoresMay-stores_of (CallEnd ∷ events) epoch mask may = StoresMay-stores_of events epoch mask may

  pub EachMay-none : (words : List ℕ) → EachMay May words words
  EachMay-none words = record { size = refl; each = λ word. inl refl }

  abbrev MayHave : List ℕ → List ℕ → ℕ → Type 0
  MayHave old new word = (get_or new word 0 ≡ get_or old word 0) ⊎ May word (get_or new word 0)

  EachMay-set : (old new : List ℕ) (place value : ℕ) → May place value → EachMay May old new → EachMay May old (set new place value)
  EachMay-set old new place value may all = record { size = length-set new place value ∙ all.size; each = λ word. at_word word (cases_eq word place) }
    where
      stored : ((place < length new) ⊎ (length new ≤ place)) → MayHave old (set new place value) place
      stored (inl inside) = rw (get_or-set_same new place value 0 inside) (inr may)
      stored (inr past) = rw (set_past new place value past) (all.each place)

      at_word : (word : ℕ) → ((word ≡ place) ⊎ (word ≡ place → ⊥)) → MayHave old (set new place value) word
      at_word word (inl here) = subst (λ w. MayHave old (set new place value) w) (sym here) (stored (cases_lt place (length new)))
      at_word word (inr other) = rw (get_or-set_other new place word value 0 other) (all.each word)

  EachMay-words_after : (old new : List ℕ) (events : List Event) → StoresMay May events → EachMay May old new → EachMay May old (words_after new events)
  EachMay-words_after old new [] may all = all
  EachMay-words_after old new (Store word value ∷ events) may all = EachMay-words_after old (set new word value) events may.1 (EachMay-set old new word value may.0 all)
  EachMay-words_after old new (Barrier ∷ events) may all = EachMay-words_after old new events may all
  EachMay-words_after old new (CallEnd ∷ events) may all = EachMay-words_after old new events may all

  pub EachMay-stored : (words : List ℕ) (events : List Event) → StoresMay May events → EachMay May words (words_after words events)
  EachMay-stored words events may = EachMay-words_after words words events may (EachMay-none words)

  -- a word at which nothing may be stored is as before
  pub same_where_none : (old new : List ℕ) → EachMay May old new → (word : ℕ) → ((value : ℕ) → May word value → ⊥) → get_or new word 0 ≡ get_or old word 0
  same_where_none old new all word none = elim (all.each word) [
    | inl same ↦ same
    | inr may ↦ absurd (none (get_or new word 0) may)
  ]

-- stores of such values, in any epochs, where nobody sees the difference
pub quiet_may : (Same : Likeness) → IsPartialEquivalence Same → (May : ℕ → ℕ → Type 0) (base : List ℕ) (events : List Event) →
    ((image : List ℕ) → EachMay May base image → Same base image) → StoresMay May events → IsQuiet Same base events
quiet_may Same equivalence May base events unseen may = quiet_from Same base events (λ epoch mask.
    equivalence.symmetric _ _ (unseen _ (EachMay-stored May base (stores_of epoch mask events) (StoresMay-stores_of May events epoch mask may))))

-- ## Links of one epoch, of which a crash may keep any

any_links : (Same : Likeness) (base words : List ℕ) (links : List (ℕ × ℕ)) (epoch : ℕ) (mask : List Bool) → AnyOf Same base words links →
    Same base (words_after words (stores_of epoch mask (links_of links ++ Barrier ∷ [])))
any_links Same base words [] zero mask any = any
any_links Same base words [] (suc epoch) mask any = any
any_links Same base words (link ∷ links) zero [] any = none links any.0
  where
    none : (links : List (ℕ × ℕ)) → AnyOf Same base words links → Same base words
    none [] any = any
    none (link ∷ links) any = none links any.0
any_links Same base words (link ∷ links) zero (true ∷ mask) any = any_links Same base (set words link.0 link.1) links zero mask any.1
any_links Same base words (link ∷ links) zero (false ∷ mask) any = any_links Same base words links zero mask any.0
any_links Same base words (link ∷ links) (suc epoch) mask any = any_links Same base (set words link.0 link.1) links (suc epoch) mask any.1

pub quiet_links : (Same : Likeness) → IsPartialEquivalence Same → (base : List ℕ) (links : List (ℕ × ℕ)) → AnyOf Same base base links → IsQuiet Same base (links_of links ++ Barrier ∷ [])
quiet_links Same equivalence base links any = quiet_from Same base (links_of links ++ Barrier ∷ []) (λ epoch mask.
    equivalence.symmetric _ _ (any_links Same base base links epoch mask any))

-- Stores that nobody sees, a barrier, links over the words after all of them, a barrier.
pub quiet_prepared : (Same : Likeness) → IsPartialEquivalence Same → (May : ℕ → ℕ → Type 0) (base : List ℕ) (events : List Event) (links : List (ℕ × ℕ)) →
    ((image : List ℕ) → EachMay May base image → Same base image) → StoresMay May events →
    AnyOf Same (words_after base events) (words_after base events) links → IsQuiet Same base ((events ++ Barrier ∷ []) ++ (links_of links ++ Barrier ∷ []))
quiet_prepared Same equivalence May base events links unseen may any =
    let words : words_after base (events ++ Barrier ∷ []) ≡ words_after base events = words_after-append base events (Barrier ∷ []) in
    quiet-append Same equivalence.transitive base (events ++ Barrier ∷ []) (links_of links ++ Barrier ∷ []) (IsClosed-barrier events [] tt)
    (quiet-barrier Same base events (quiet_may Same equivalence May base events unseen may))
    (rw words (quiet_links Same equivalence (words_after base events) links any))
