-- The events of a row, among those of a log, and a log whose end is unwound row by row.
use Rattle.std.proofs.Common.{◌≡◌, ℕ, zero, suc, ◌+◌, ◌-◌, ◌<◌, ◌≤◌, List, [], ◌∷◌, ◌++◌, length, take, drop, get_or, refl, sym, ◌∙◌, ap, arith, subst}
use Rattle.std.specs.List.{range_with_len}
use Rattle.std.proofs.lemmas.List.{drop-drop, drop_all, drop_at, drop-take, length-drop, length-take-le, take-append-drop, take-append-le, take-take, take_at}
use Rattle.pm_epochs.specs.declared.event.Event.{Event}
use Rattle.pm_epochs.specs.declared.event.Event.TheVariants.{Store, Barrier, CallEnd}
use Rattle.pm_epochs.proofs.MayLaws.{StoresMay-take}
use Rattle.pm_region.specs.Memory.{AreWithin, stores_from}
use Rattle.pm_raw.specs.Entries.{no_word, signal_of, events_of}
use Rattle.pm_raw.specs.Unwound.{base_from, erased, erased_event, events_from}
use Rattle.pm_raw.proofs.EntryLaws.{events_of-append, events_of-drop, events_of-take, row_signal, row_stores}
use Rattle.pm_raw.proofs.KindLaws.{erased-events, within-kinds}
use Rattle.pm_raw.proofs.UnwoundLaws.{base-append, events-append, length-base}

within-drop : (count n : ℕ) (events : List Event) → AreWithin count events → AreWithin count (drop n events)
within-drop count zero events within = within
within-drop count (suc n) [] within = tt
within-drop count (suc n) (Store word value ∷ events) within = within-drop count n events within.1
within-drop count (suc n) (Barrier ∷ events) within = within-drop count n events within
within-drop count (suc n) (CallEnd ∷ events) within = within-drop count n events within

within-part : (count from n : ℕ) (events : List Event) → AreWithin count events → AreWithin count (take n (drop from events))
within-part count from n events within = StoresMay-take (λ word value. word < count) n (drop from events) (within-drop count from events within)

-- stores to words in a row that are there
stores-fit : (count first : ℕ) (values : List ℕ) → 0 < length values → AreWithin count (stores_from first values) → first + length values ≤ count
stores-fit count first [] some within = absurd (omega (arith, some))
stores-fit count first (value ∷ []) some within = omega (arith, within.0)
stores-fit count first (value ∷ next ∷ values) some within = let rest = stores-fit count (first + 1) (next ∷ values) (omega arith) within.1 in omega (arith, rest)

-- the events from `from` on and before `end` are in a row, from the word `first` on: one alone where it is no store
pub record IsRow (words : List ℕ) (first from end : ℕ) : Type 0 where
  pub up : from + (end - from) ≡ end
  pub fits : from + (end - from) ≤ length words
  pub are : take (end - from) (drop from words) ≡ range_with_len first (end - from)
  pub some : 0 < end - from
  pub low : first ≤ no_word
  pub signal : first ≡ no_word → end - from ≡ 1
  pub stores : first < no_word → first + (end - from) ≤ no_word

-- so are the last ones before `end`, where a search has found as many
pub row-before : (words : List ℕ) (first len end : ℕ) → 0 < len → len ≤ end → end ≤ length words → first ≤ no_word
    → take len (drop (end - len) words) ≡ range_with_len first len → (first ≡ no_word → len ≡ 1) → (first < no_word → first + len ≤ no_word)
    → IsRow words first (end - len) end
row-before words first len end some fits inside low row signal stores =
    let many : end - (end - len) ≡ len = omega (arith, fits) in
    record {
      up = omega (arith, fits);
      fits = omega (arith, fits, inside);
      are = ap (λ n. take n (drop (end - len) words)) many ∙ row ∙ sym (ap (range_with_len first) many);
      some = omega (arith, many, some);
      low = low;
      signal = λ is. many ∙ signal is;
      stores = λ less. omega (arith, many, stores less);
    }

-- as many entries from one on, whose words are in a row
module _ (words saved : List ℕ) (counted : length saved ≡ length words) (from n first : ℕ) (fits : from + n ≤ length words) (row : take n (drop from words) ≡ range_with_len first n) where
  abbrev undos : List Event
  undos = events_of words saved

  abbrev olds : List ℕ
  olds = take n (drop from saved)

  pub row-long : length (take n (drop from saved)) ≡ n
  row-long = length-take-le n (drop from saved) (omega (arith, length-drop from saved, counted, fits))

  row-events : take n (drop from undos) ≡ events_of (range_with_len first n) olds
  row-events =
      ap (take n) (sym (events_of-drop from words saved counted))
      ∙ sym (events_of-take n (drop from words) (drop from saved))
      ∙ ap (λ ws. events_of ws olds) row

  same-events : take n (drop from undos) ≡ events_of (range_with_len first (length olds)) olds
  same-events = row-events ∙ ap (λ k. events_of (range_with_len first k) olds) (sym row-long)

  pub row-stored : first + n ≤ no_word → take n (drop from (events_of words saved)) ≡ stores_from first (take n (drop from saved))
  row-stored low = same-events ∙ row_stores first olds (omega (arith, low, row-long))

  pub row-signalled : first ≡ no_word → n ≡ 1 → take n (drop from (events_of words saved)) ≡ signal_of (get_or (take n (drop from saved)) 0 0) ∷ []
  row-signalled is one = same-events ∙ row_signal first olds is (row-long ∙ one)

  -- the words of its stores are there
  pub row-fits : (count : ℕ) → first + n ≤ no_word → 0 < n → AreWithin count (events_of words saved) → first + length (take n (drop from saved)) ≤ count
  row-fits count low some within =
      stores-fit count first olds (omega (arith, row-long, some)) (subst (AreWithin count) (row-stored low) (within-part count from n undos within))

  -- with other numbers
  pub row-patched : (news : List ℕ) → length news ≡ n → first + n ≤ no_word
      → events_of words (take from saved ++ (news ++ drop n (drop from saved))) ≡ take from (events_of words saved) ++ (stores_from first news ++ drop (from + n) (events_of words saved))
  row-patched news many low =
      let prefix = take from words in
      let rest = drop n (drop from words) in
      let old_prefix = take from saved in
      let old_rest = drop n (drop from saved) in
      let long_prefix : length old_prefix ≡ length prefix = length-take-le from saved (omega (arith, counted, fits)) ∙ sym (length-take-le from words (omega (arith, fits))) in
      let long_row : length (take n (drop from words)) ≡ n = length-take-le n (drop from words) (omega (arith, length-drop from words, fits)) in
      let whole : words ≡ prefix ++ (take n (drop from words) ++ rest) =
      sym (ap (λ ws. prefix ++ ws) (take-append-drop n (drop from words)) ∙ take-append-drop from words) in
      ap (λ ws. events_of ws (old_prefix ++ (news ++ old_rest))) whole
      ∙ events_of-append prefix (take n (drop from words) ++ rest) old_prefix (news ++ old_rest) long_prefix
      ∙ ap (λ es. es ++ events_of (take n (drop from words) ++ rest) (news ++ old_rest)) (events_of-take from words saved)
      ∙ ap (λ es. take from undos ++ es) (
      events_of-append (take n (drop from words)) rest news old_rest (many ∙ sym long_row)
      ∙ ap (λ ws. events_of ws news ++ events_of rest old_rest) (row ∙ ap (range_with_len first) (sym many))
      ∙ ap (λ es. es ++ events_of rest old_rest) (row_stores first news (omega (arith, low, many)))
      ∙ ap (λ es. stores_from first news ++ es) (
      events_of-drop n (drop from words) (drop from saved) (omega (arith, length-drop from words, length-drop from saved, counted))
      ∙ ap (drop n) (events_of-drop from words saved counted)
      ∙ drop-drop n from undos))

-- a log is what stands before a row, the row and what stands after it
pub row-split : (from n end : ℕ) (events : List Event) → from + n ≡ end → take from events ++ (take n (drop from events) ++ drop end events) ≡ events
row-split from n end events is =
    ap (λ k. take from events ++ (take n (drop from events) ++ drop k events)) (sym is)
    ∙ sym (ap (λ es. take from events ++ (take n (drop from events) ++ es)) (drop-drop n from events))
    ∙ ap (λ es. take from events ++ es) (take-append-drop n (drop from events))
    ∙ take-append-drop from events

rest-split : (from n end : ℕ) (events : List Event) → from + n ≡ end → take n (drop from events) ++ drop end events ≡ drop from events
rest-split from n end events is =
    ap (λ k. take n (drop from events) ++ drop k events) (sym is)
    ∙ sym (ap (λ es. take n (drop from events) ++ es) (drop-drop n from events))
    ∙ take-append-drop n (drop from events)

-- ## A log whose end is unwound

erased-append : (first rest : List Event) → erased (first ++ rest) ≡ erased first ++ erased rest
erased-append [] rest = refl
erased-append (event ∷ first) rest = ap (λ es. erased_event event ∷ es) (erased-append first rest)

module _ (now words : List ℕ) (undos log : List Event) (end : ℕ) (fits : end ≤ length undos) (words_are : words ≡ base_from now (drop end undos)) (log_is : log ≡ take end undos ++ events_from now (drop end undos)) where
  abbrev rest : List Event
  rest = events_from now (drop end undos)

  -- its stores go to words that are there
  pub within-unwound : AreWithin (length now) undos → AreWithin (length words) log
  within-unwound within =
      let same : erased undos ≡ erased log =
      ap erased (sym (take-append-drop end undos)) ∙ erased-append (take end undos) (drop end undos)
      ∙ ap (λ es. erased (take end undos) ++ es) (sym (erased-events now (drop end undos)))
      ∙ sym (erased-append (take end undos) rest) ∙ ap erased (sym log_is) in
      let long : length now ≡ length words = sym (ap length words_are ∙ length-base now (drop end undos)) in
      subst (λ n. AreWithin n log) long (within-kinds (length now) undos log same within)

  -- one more row of it
  module _ (from : ℕ) (low : from ≤ end) where
    abbrev n : ℕ
    n = end - from

    abbrev row : List Event
    row = take n (drop from undos)

    prefix-same : take from log ≡ take from undos
    prefix-same =
        ap (take from) log_is
        ∙ take-append-le from (take end undos) rest (omega (arith, length-take-le end undos fits, low))
        ∙ take-take from end undos low

    row-same : take (end - from) (drop from log) ≡ row
    row-same =
        let up : from + n ≡ end = omega (arith, low) in
        sym (drop-take from n log)
        ∙ ap (λ k. drop from (take k log)) up
        ∙ ap (λ es. drop from (take end es)) log_is
        ∙ ap (drop from) (take_at (take end undos) rest end (length-take-le end undos fits))
        ∙ ap (λ k. drop from (take k undos)) (sym up)
        ∙ drop-take from n undos

    rest-same : drop end log ≡ rest
    rest-same = ap (drop end) log_is ∙ drop_at (take end undos) rest end (length-take-le end undos fits)

    together : row ++ drop end undos ≡ drop from undos
    together = rest-split from n end undos (omega (arith, low))

    pub words-unwound : (next : List ℕ) → next ≡ base_from words (take (end - from) (drop from log)) → next ≡ base_from now (drop from undos)
    words-unwound next next_is =
        next_is
        ∙ ap (base_from words) row-same
        ∙ ap (λ ws. base_from ws row) words_are
        ∙ sym (base-append now row (drop end undos))
        ∙ ap (base_from now) together

    pub log-unwound : (next : List Event) → next ≡ take from log ++ (events_from words (take (end - from) (drop from log)) ++ drop end log) → next ≡ take from undos ++ events_from now (drop from undos)
    log-unwound next next_is =
        next_is
        ∙ ap (λ es. es ++ (events_from words (take n (drop from log)) ++ drop end log)) prefix-same
        ∙ ap (λ es. take from undos ++ (events_from words es ++ drop end log)) row-same
        ∙ ap (λ es. take from undos ++ (events_from words row ++ es)) rest-same
        ∙ ap (λ ws. take from undos ++ (events_from ws row ++ rest)) words_are
        ∙ ap (λ es. take from undos ++ es) (sym (events-append now row (drop end undos)) ∙ ap (events_from now) together)

-- nothing is unwound yet
pub words-whole : (now : List ℕ) (undos : List Event) (end : ℕ) → length undos ≤ end → now ≡ base_from now (drop end undos)
words-whole now undos end all = sym (ap (base_from now) (drop_all end undos all))

pub log-whole : (now : List ℕ) (undos : List Event) (end : ℕ) → length undos ≤ end → undos ≡ take end undos ++ events_from now (drop end undos)
log-whole now undos end all =
    sym (take-append-drop end undos)
    ∙ ap (λ es. take end undos ++ es) (drop_all end undos all ∙ sym (ap (events_from now) (drop_all end undos all)))
