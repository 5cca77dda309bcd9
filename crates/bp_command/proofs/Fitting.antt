-- What a walk over the words of a command keeps: each row has values, which its argument takes.
use Rattle.std.proofs.Common.{◌≡◌, ◌⊎◌, ◌∙◌, ◌<◌, ◌&&◌, ℕ, zero, suc, Bool, true, false, cond, refl, sym, subst, arith, List, [], ◌∷◌, ◌++◌, length, inl, inr, length-append}
use Rattle.std.specs.Prelude.{Option, Some, None, find, fold, is_some, slice_get, nat_lt}
use Rattle.std.specs.Option.{option_map_or}
use Rattle.std.specs.Str.{bytes_eq, chars}
use Rattle.std.proofs.lemmas.Bool.{lt-ltb}
use Rattle.std.proofs.lemmas.Slice.Eq.{bytes_eq-Decides}
use Rattle.clap.specs.Facts.{unwrap_or_range}
use Rattle.clap.specs.Faults.{action_fault, option_fault, react_fault, set_fault, settle_fault, step_fault, turn_fault, use_fault, values_fault, walk_fault, word_fault}
use Rattle.clap.specs.Faults.{bundle_fault, bundle_step_fault, flag_word_fault, flags_fault, long_fault, other_fault, positional_fault, short_fault, stray_fault}
use Rattle.clap.specs.Kinds.{Kinds, or_else, range_kinds}
use Rattle.clap.specs.Simple.{Shape}
use Rattle.clap.specs.Walk.{Held, Names, Outcome, Row, Rule, Step, Text, Waiting, Walk}
use Rattle.clap.specs.Walk.{action_of, arg_by_id, arg_by_index, arg_by_long, arg_by_short, is_pending, most_values, reading_by, takes_several, takes_values}
use Rattle.clap.specs.Walk.{at_row, default_rows, has_row, more_values, pushed, reacted, settled, settled_rows, used, used_as, used_by_id, values_or_missing, with_default, with_values, without}
use Rattle.clap.specs.Walk.{bundle, bundle_met, bundle_step, long_met, long_or_other, plain_word, short_met, short_or_plain, walked, walked_from, word_met}
use Rattle.clap.specs.Walk.{after_flag, after_step, attached_value, flag_met, option_met, option_word, subcommand_met, subcommand_or_other, to_positional}
use Rattle.clap.specs.Walk.Outcome.{done, waits, plain, refused}
use Rattle.clap.specs.Walk.Step.{next, trailing, subcommand, value}
use Rattle.clap.specs.Walk.Waiting.{idle, option, positional}
use Rattle.clap.specs.Lexer.{long_of, short_of}
use Rattle.clap.specs.declared.builder.action.ArgAction.TheVariants.{Set, Help}
use Rattle.clap.specs.declared.error.kind.ErrorKind.TheVariants as kind
use Rattle.clap.specs.declared.parser.matches.ValueSource.{ValueSource}
use Rattle.clap.specs.declared.parser.matches.ValueSource.TheVariants.{CommandLine, DefaultValue}
use Rattle.bp_command.proofs.Chains.{Each, both_empty, found_is, joined}

-- a row has values, which its argument takes
pub record Fits (a : Rule) (r : Row) : Type 0 where
  pub some : 0 < length r.values
  pub reading : r.reading ≡ reading_by a
  pub pass : values_fault a r.values ≡ []

values-append : (a : Rule) (xs ys : List Text) → values_fault a xs ≡ [] → values_fault a ys ≡ [] → values_fault a (xs ++ ys) ≡ []
values-append a [] ys first second = second
values-append a (x ∷ xs) ys first second = let parts = both_empty _ _ first in joined _ _ parts.0 (values-append a xs ys parts.1 second)

module _ (s : Shape) where
  -- its arguments
  abbrev known : List Rule
  known = s.rules

  -- whether an argument may be given again
  abbrev again : Bool
  again = s.args_override_self

  -- a row of one of the arguments fits it
  abbrev pub RowFits : Row → Type 0
  RowFits r = (a : Rule) → arg_by_id known r.id ≡ Some a → Fits a r

  abbrev pub AllFit : List Row → Type 0
  AllFit rows = Each RowFits rows

  -- where a step finds no fault, each row fits after it as before
  abbrev Keeps : Kinds → Held → Held → Type 0
  Keeps faults before after = faults ≡ [] → AllFit before.rows → AllFit after.rows

  -- an argument has an id of its own, and takes a value or asks for help
  pub record IsUsable (a : Rule) : Type 0 where
    pub own : arg_by_id known a.id ≡ Some a
    pub serves : ((action_of a ≡ Set) × (0 < (unwrap_or_range a.range).start_inclusive)) ⊎ (action_of a ≡ Help)
    pub defaults : values_fault a a.defaults ≡ []

  fit-append : (xs ys : List Row) → AllFit xs → AllFit ys → AllFit (xs ++ ys)
  fit-append [] ys first second = second
  fit-append (x ∷ xs) ys first second = (first.0, fit-append xs ys first.1 second)

  module _ (id : Text) (change : Row → List Row) (missing : List Row) (none : AllFit missing)
      (each : (r : Row) → bytes_eq r.id id ≡ true → RowFits r → AllFit (change r)) where
    fit_at : (rows : List Row) → AllFit rows → AllFit (at_row id change missing rows)
    fit_at [] fit = none
    fit_at (r ∷ rows) fit = go (fit_at rows fit.1) (bytes_eq r.id id) refl
      where
        go : AllFit (at_row id change missing rows) → (b : Bool) → bytes_eq r.id id ≡ b → AllFit (cond b (change r ++ rows) (r ∷ at_row id change missing rows))
        go rest true e = fit-append (change r) rows (each r e fit.0) fit.1
        go rest false e = (fit.0, rest)

  fit-without : (id : Text) (rows : List Row) → AllFit rows → AllFit (without id rows)
  fit-without id rows fit = fit_at id (λ _. []) [] tt (λ r e h. tt) rows fit

  module _ (a : Rule) (usable : IsUsable a) where
    -- a row with its first values
    abbrev row : ValueSource → Text → List Text → Row
    row source v vs = record { id = a.id; values = v ∷ vs; count = None; source = Some source; reading = reading_by a }

    fit-with_values : (source : ValueSource) (v : Text) (vs : List Text) (rows : List Row) → values_fault a (v ∷ vs) ≡ [] → AllFit rows →
        AllFit (with_values a.id (reading_by a) source (v ∷ vs) rows)
    fit-with_values source v vs rows pass fit = fit_at a.id (more_values source (v ∷ vs)) _ (new, tt) more rows fit
      where
        same : (b : Rule) → arg_by_id known a.id ≡ Some b → a ≡ b
        same b e = let both : Some a ≡ Some b = sym usable.own ∙ e in cc

        new : (b : Rule) → arg_by_id known a.id ≡ Some b → Fits b (row source v vs)
        new b e = subst (λ (x : Rule). Fits x (row source v vs)) (same b e) (record { some = omega arith; reading = refl; pass = pass })

        more : (r : Row) → bytes_eq r.id a.id ≡ true → RowFits r → AllFit (more_values source (v ∷ vs) r)
        more r e fits = (
          λ b is.
              let id : r.id ≡ a.id = (bytes_eq-Decides r.id a.id).0 e in
              let old : Fits b r = fits b is in
              let own : a ≡ b = same b (subst (λ (i : Text). arg_by_id known i ≡ Some b) id is) in
              record {
                some = omega (arith, length-append r.values (v ∷ vs), old.some);
                reading = old.reading;
                pass = values-append b r.values (v ∷ vs) old.pass (subst (λ (x : Rule). values_fault x (v ∷ vs) ≡ []) own pass);
              },
          tt,
        )

    fit-used : (values : List Text) (rows : List Row) → use_fault again a values rows ≡ [] → AllFit rows → AllFit (used a values rows)
    fit-used values rows fault fit = go usable.serves
      where
        set : (vs : List Text) → 0 < (unwrap_or_range a.range).start_inclusive → action_of a ≡ Set → use_fault again a vs rows ≡ [] → AllFit (used a vs rows)
        set [] some is none =
            let low : nat_lt 0 (unwrap_or_range a.range).start_inclusive ≡ true = lt-ltb 0 (unwrap_or_range a.range).start_inclusive some in
            let range : range_kinds (unwrap_or_range a.range).start_inclusive (most_values a) 0 ≡ [] = (both_empty _ _ none).0 in
            absurd (let never : kind.InvalidValue ∷ [] ≡ [] = rw low at range in cc)
        set (v ∷ vs) some is none =
            let parts = both_empty _ _ none in
            let faults : set_fault again a (v ∷ vs) rows ≡ [] = subst (λ x. action_fault x again a (v ∷ vs) rows ≡ []) is parts.1 in
            subst (λ x. AllFit (used_as x a.id (reading_by a) (v ∷ vs) rows)) (sym is)
            (fit-with_values CommandLine v vs (without a.id rows) (both_empty _ _ faults).1 (fit-without a.id rows fit))

        go : ((action_of a ≡ Set) × (0 < (unwrap_or_range a.range).start_inclusive)) ⊎ (action_of a ≡ Help) → AllFit (used a values rows)
        go (inl is) = set values is.1 is.0 fault
        go (inr is) = subst (λ x. AllFit (used_as x a.id (reading_by a) (values_or_missing a values) rows)) (sym is) fit

    fit-default : (rows : List Row) → AllFit rows → AllFit (with_default rows a)
    fit-default rows fit = go (has_row a.id rows)
      where
        new : (values : List Text) → values_fault a values ≡ [] → AllFit (default_rows a.id (reading_by a) values rows)
        new [] none = fit
        new (v ∷ vs) none = fit-with_values DefaultValue v vs rows none fit

        go : (b : Bool) → AllFit (cond b rows (default_rows a.id (reading_by a) a.defaults rows))
        go true = fit
        go false = new a.defaults usable.defaults

  pub fit-defaults : (rules : List Rule) (rows : List Row) → Each IsUsable rules → AllFit rows → AllFit (fold with_default rows rules)
  fit-defaults [] rows each fit = fit
  fit-defaults (a ∷ rules) rows each fit = fit-defaults rules (with_default rows a) each.1 (fit-default a each.0 rows fit)

  module _ (usable : Each IsUsable known) where
    found : (test : Rule → Bool) (a : Rule) → find test known ≡ Some a → IsUsable a
    found test a is = (found_is IsUsable test known a usable is).0

    -- what is found wrong with the values of an argument that is pending
    abbrev pending_faults : Held → Text × List Text → Option Rule → Kinds
    pending_faults h p o = option_map_or (λ a. use_fault again a p.1 h.rows) o []

    pub fit-settled : (h : Held) → Keeps (settle_fault known again h) h (settled known h)
    fit-settled h fault fit = go h.pending fault
      where
        at : (p : Text × List Text) (o : Option Rule) → arg_by_id known p.0 ≡ o → pending_faults h p o ≡ [] → AllFit (used_by_id o p.1 h.rows)
        at p None is none = fit
        at p (Some a) is none = fit-used a (found _ a is) p.1 h.rows none fit

        go : (pending : Option (Text × List Text)) → option_map_or (λ p. pending_faults h p (arg_by_id known p.0)) pending [] ≡ [] →
            AllFit (settled_rows known pending h.rows)
        go None none = fit
        go (Some p) none = at p (arg_by_id known p.0) refl none

    fit-reacted : (a : Rule) (values : List Text) (h : Held) → IsUsable a → Keeps (react_fault known again a values h) h (reacted known a values h)
    fit-reacted a values h is fault fit =
        let parts = both_empty _ _ fault in
        fit-used a is values (settled known h).rows parts.1 (fit-settled h parts.0 fit)

    fit-option_met : (a : Rule) (v : Option Text) (h : Held) → IsUsable a → Keeps (option_fault known again a v h) h (option_met known a v h).0
    fit-option_met a (Some v) h is fault fit = fit-reacted a (v ∷ []) h is fault fit
    fit-option_met a None h is fault fit = fit-settled h fault fit

    -- an argument that was found, if one was, is usable
    abbrev MayUse : Option Rule → Type 0
    MayUse o = (a : Rule) → o ≡ Some a → IsUsable a

    -- a flag takes no value
    abbrev flag_fault : Rule → Held → Option Text → Kinds
    flag_fault a h v = cond (is_some v) (kind.TooManyValues ∷ []) (react_fault known again a [] h)

    fit-long_met : (o : Option Rule) (v : Option Text) (h : Held) → MayUse o → Keeps (long_fault known again o v h) h (long_met known o v h).0
    fit-long_met None v h is fault fit = fit
    fit-long_met (Some a) v h is fault fit = go (takes_values a) fault
      where
        flag : (v : Option Text) → flag_fault a h v ≡ [] → AllFit (flag_met known a v h).0.rows
        flag (Some v) none = fit
        flag None none = fit-reacted a [] h (is a refl) none fit

        go : (b : Bool) → cond b (option_fault known again a v h) (flag_fault a h v) ≡ [] →
            AllFit (cond b (option_met known a v h) (flag_met known a v h)).0.rows
        go true none = fit-option_met a v h (is a refl) none fit
        go false none = flag v none

    fit-short_met : (o : Option Rule) (rest : Text) (h : Held) (goes_on : Held → Kinds) (then : Held → Held × Outcome) → MayUse o →
        ((g : Held) → Keeps (goes_on g) g (then g).0) → Keeps (short_fault known again o rest h goes_on) h (short_met known o rest h then).0
    fit-short_met None rest h goes_on then is later fault fit = fit
    fit-short_met (Some a) rest h goes_on then is later fault fit = go (takes_values a) fault
      where
        go : (b : Bool) → cond b (option_fault known again a (attached_value rest) h) (or_else (react_fault known again a [] h) (goes_on (reacted known a [] h))) ≡ [] →
            AllFit (cond b (option_met known a (attached_value rest) h) (then (reacted known a [] h))).0.rows
        go true none = fit-option_met a (attached_value rest) h (is a refl) none fit
        go false none = let parts = both_empty _ _ none in later (reacted known a [] h) parts.1 (fit-reacted a [] h (is a refl) parts.0 fit)

    fit-bundle_step : (o : Option ℕ) (flags : Text) (skip : ℕ) (so_far : Outcome) (h : Held) (goes_on : Text → ℕ → Held → Kinds)
        (then : Text → ℕ → Outcome → Held → Held × Outcome) → ((f : Text) (n : ℕ) (x : Outcome) (g : Held) → Keeps (goes_on f n g) g (then f n x g).0) →
        Keeps (bundle_step_fault known again o flags skip h goes_on) h (bundle_step known o flags skip so_far h then).0
    fit-bundle_step None flags skip so_far h goes_on then later fault fit = fit
    fit-bundle_step (Some x) flags zero so_far h goes_on then later fault fit =
        fit-short_met (arg_by_short known x) _ h _ _ (λ a is. found _ a is) (λ g none held. later _ 0 done g none held) fault fit
    fit-bundle_step (Some x) flags (suc skip) so_far h goes_on then later fault fit = later _ skip so_far h fault fit

    fit-bundle_met : (k : ℕ) (flags : Text) (skip : ℕ) (so_far : Outcome) (h : Held) →
        Keeps (flags_fault known again k flags skip h) h (bundle_met known k flags skip so_far h).0
    unfolding flags_fault bundle_met
    fit-bundle_met zero flags skip so_far h fault fit = fit
    fit-bundle_met (suc k) flags skip so_far h fault fit =
        fit-bundle_step (slice_get (chars flags) 0) flags skip so_far h (flags_fault known again k) (bundle_met known k)
        (λ f n x g none held. fit-bundle_met k f n x g none held) fault fit

    fit-plain_word : (waiting : Waiting) (word : Text) (h : Held) → AllFit h.rows → AllFit (plain_word known waiting word h).0.rows
    fit-plain_word idle word h fit = fit
    fit-plain_word positional word h fit = fit
    fit-plain_word (option id) word h fit = go (arg_by_id known id)
      where
        go : (o : Option Rule) → AllFit (option_word o id word h).0.rows
        go None = fit
        go (Some a) = fit

    fit-after_flag : (waiting : Waiting) (word : Text) (h : Held) (outcome : Outcome) → AllFit h.rows → AllFit (after_flag known waiting word h outcome).0.rows
    fit-after_flag waiting word h done fit = fit
    fit-after_flag waiting word h (waits id) fit = fit
    fit-after_flag waiting word h plain fit = fit-plain_word waiting word h fit
    fit-after_flag waiting word h refused fit = fit-plain_word waiting word h fit

    fit-long_or_other : (waiting : Waiting) (word : Text) (o : Option (Text × Option Text)) (h : Held) →
        Keeps (flag_word_fault known again o word h) h (long_or_other known waiting word o h).0
    fit-long_or_other waiting word (Some p) h fault fit =
        let met = long_met known (arg_by_long known p.0) p.1 h in
        fit-after_flag waiting word met.0 met.1 (fit-long_met (arg_by_long known p.0) p.1 h (λ a is. found _ a is) fault fit)
    fit-long_or_other waiting word None h fault fit = go (short_of word) fault
      where
        go : (o : Option Text) → option_map_or (λ flags. bundle_fault known again flags h) o [] ≡ [] → AllFit (short_or_plain known waiting word o h).0.rows
        go None none = fit-plain_word waiting word h fit
        go (Some flags) none =
            let met = bundle known flags h in
            fit-after_flag waiting word met.0 met.1 (fit-bundle_met (length flags) flags h.skip plain (record h { skip = 0 }) none fit)

    fit-word_met : (names : Names) (is_trailing : Bool) (waiting : Waiting) (position : ℕ) (word : Text) (h : Held) →
        Keeps (word_fault s names is_trailing waiting word h) h (word_met known names is_trailing waiting position word h).0
    fit-word_met names true waiting position word h fault fit = fit
    fit-word_met names false waiting position word h fault fit = go (subcommand_met names waiting word) fault
      where
        other : (b : Bool) → cond b [] (flag_word_fault known again (long_of word) word h) ≡ [] →
            AllFit (cond b (h, trailing position) (long_or_other known waiting word (long_of word) h)).0.rows
        other true none = fit
        other false none = fit-long_or_other waiting word (long_of word) h none fit

        go : (o : Option Text) → other_fault s o word h ≡ [] → AllFit (subcommand_or_other known o waiting position word h).0.rows
        go (Some name) none = fit
        go None none = other (bytes_eq word (45 ∷ 45 ∷ [])) none

    fit-after_step : (word : Text) (w : Walk) (h : Held) (step : Step) → Keeps (step_fault s w.position h step) h (after_step known word w h step).held
    fit-after_step word w h (next waiting) fault fit = fit
    fit-after_step word w h (trailing position) fault fit = fit
    fit-after_step word w h (subcommand name) fault fit = fit
    fit-after_step word w h value fault fit = go (arg_by_index known w.position) fault
      where
        held : (a : Rule) (b : Bool) → cond b [] (settle_fault known again h) ≡ [] → AllFit (pushed a.id word (cond b h (settled known h))).rows
        held a true none = fit
        held a false none = fit-settled h none fit

        go : (o : Option Rule) → option_map_or (λ a. positional_fault known again a h) o (stray_fault s) ≡ [] →
            AllFit (to_positional known o word w h).held.rows
        go None none = fit
        go (Some a) none = held a (is_pending a h.pending && takes_several a) none

    -- what a word makes of a walk, and what is found wrong with it
    abbrev met : Names → Walk → Text → Held × Step
    met names w word = word_met known names w.is_trailing w.waiting w.position word w.held

    abbrev faults : Names → Walk → Text → Kinds
    faults names w word =
        or_else (word_fault s names w.is_trailing w.waiting word w.held) (step_fault s w.position (met names w word).0 (met names w word).1)

    fit-walked : (names : Names) (w : Walk) (word : Text) → Keeps (turn_fault s names w word) w.held (walked known names w word).held
    unfolding walked
    fit-walked names w word fault fit = go w.stopped fault
      where
        go : (o : Option (Text × List Text)) → cond (is_some o) [] (faults names w word) ≡ [] → AllFit (walked_from known names o w word).held.rows
        go (Some p) none = fit
        go None none =
            let parts = both_empty _ _ none in
            let after = met names w word in
            fit-after_step word w after.0 after.1 parts.1 (fit-word_met names w.is_trailing w.waiting w.position word w.held parts.0 fit)

    pub fit-walk : (names : Names) (words : List Text) (w : Walk) → Keeps (walk_fault s names w words) w.held (fold (walked known names) w words).held
    unfolding walk_fault
    fit-walk names [] w fault fit = fit
    fit-walk names (word ∷ rest) w fault fit =
        let parts = both_empty _ _ fault in
        fit-walk names rest (walked known names w word) parts.1 (fit-walked names w word parts.0 fit)
