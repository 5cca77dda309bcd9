-- Logs by pieces: stores to words in a row, and signals.
use Rattle.std.proofs.Common.{◌≡◌, ℕ, zero, suc, ◌+◌, ◌<◌, ◌≤◌, min, Bool, true, false, inl, inr, List, [], ◌∷◌, ◌++◌, length, take, drop, get_or, set, refl, sym, ◌∙◌, ap, arith, true≢false}
use Rattle.std.proofs.lemmas.Bool.Decides.{leb_tells}
use Rattle.std.proofs.lemmas.List.{drop_all, drop_more, length-append, length-drop}
use Rattle.pm_epochs.specs.declared.event.Event.{Event}
use Rattle.pm_epochs.specs.declared.event.Event.TheVariants.{Store, Barrier, CallEnd}
use Rattle.pm_epochs.specs.Log.{epoch_stores, words_after}
use Rattle.pm_epochs.proofs.CrashLaws.{words_after-append}
use Rattle.pm_epochs.specs.Replay.{call_ends_of, stores_of}
use Rattle.pm_region.specs.Memory.{stores_from}
use Rattle.pm_region.proofs.MemoryLaws.{length-stores_from}
use Rattle.pm_raw.specs.Pieces.{all_kept, keeps}

-- ## What is kept

pub epoch_stores-run : (word : ℕ) (values : List ℕ) (rest : List Event) → epoch_stores 0 (stores_from word values ++ rest) ≡ length values + epoch_stores 0 rest
epoch_stores-run word [] rest = omega arith
epoch_stores-run word (value ∷ values) rest = let more = epoch_stores-run (word + 1) values rest in omega arith

pub keeps_short : (n : ℕ) (mask : List Bool) → length mask < n → keeps n mask ≡ false
keeps_short zero mask short = absurd (omega arith)
keeps_short (suc n) [] short = refl
keeps_short (suc n) (true ∷ mask) short = keeps_short n mask (omega arith)
keeps_short (suc n) (false ∷ mask) short = refl

pub keeps_long : (n : ℕ) (mask : List Bool) → n ≤ length mask → keeps n mask ≡ all_kept (take n mask)
keeps_long zero mask fits = refl
keeps_long (suc n) [] fits = absurd (omega arith)
keeps_long (suc n) (true ∷ mask) fits = keeps_long n mask (omega arith)
keeps_long (suc n) (false ∷ mask) fits = refl

keeps-fits : (n : ℕ) (mask : List Bool) → keeps n mask ≡ true → n ≤ length mask
keeps-fits zero mask kept = omega arith
keeps-fits (suc n) [] kept = absurd (true≢false (sym kept))
keeps-fits (suc n) (true ∷ mask) kept = let rest = keeps-fits n mask kept in omega arith
keeps-fits (suc n) (false ∷ mask) kept = absurd (true≢false (sym kept))

call_ends_of-kept : (mask : List Bool) (word : ℕ) (values : List ℕ) (rest : List Event) → keeps (length values) mask ≡ true → call_ends_of 0 mask (stores_from word values ++ rest) ≡ call_ends_of 0 (drop (length values) mask) rest
call_ends_of-kept mask word [] rest all = refl
call_ends_of-kept [] word (value ∷ values) rest all = absurd (true≢false (sym all))
call_ends_of-kept (true ∷ mask) word (value ∷ values) rest all = call_ends_of-kept mask (word + 1) values rest all
call_ends_of-kept (false ∷ mask) word (value ∷ values) rest all = absurd (true≢false (sym all))

call_ends_of-lost : (mask : List Bool) (word : ℕ) (values : List ℕ) (rest : List Event) → keeps (length values) mask ≡ false → call_ends_of 0 mask (stores_from word values ++ rest) ≡ 0
call_ends_of-lost mask word [] rest lost = absurd (true≢false lost)
call_ends_of-lost [] word (value ∷ values) rest lost = refl
call_ends_of-lost (true ∷ mask) word (value ∷ values) rest lost = call_ends_of-lost mask (word + 1) values rest lost
call_ends_of-lost (false ∷ mask) word (value ∷ values) rest lost = refl

-- a mask that has ended keeps none
pub stores_of-none : (events : List Event) → stores_of 0 [] events ≡ []
stores_of-none [] = refl
stores_of-none (Store word value ∷ events) = refl
stores_of-none (Barrier ∷ events) = refl
stores_of-none (CallEnd ∷ events) = stores_of-none events

pub stores_of-run : (mask : List Bool) (word : ℕ) (values : List ℕ) (rest : List Event) → stores_of 0 mask (stores_from word values ++ rest) ≡ stores_of 0 mask (stores_from word values) ++ stores_of 0 (drop (length values) mask) rest
stores_of-run mask word [] rest = refl
stores_of-run [] word (value ∷ values) rest = sym (stores_of-none rest)
stores_of-run (true ∷ mask) word (value ∷ values) rest = ap (λ es. Store word value ∷ es) (stores_of-run mask (word + 1) values rest)
stores_of-run (false ∷ mask) word (value ∷ values) rest = stores_of-run mask (word + 1) values rest

-- a log that begins with stores to words in a row
module _ (events rest : List Event) (word : ℕ) (values : List ℕ) (are : events ≡ stores_from word values ++ rest) where
  pub run-length : length events ≡ length values + length rest
  run-length = ap length are ∙ length-append (stores_from word values) rest ∙ ap (λ n. n + length rest) (length-stores_from word values)

  pub run-counted : epoch_stores 0 events ≡ length values + epoch_stores 0 rest
  run-counted = ap (epoch_stores 0) are ∙ epoch_stores-run word values rest

  pub run-kept : (mask left : List Bool) → keeps (length values) mask ≡ true → left ≡ drop (length values) mask → call_ends_of 0 mask events ≡ call_ends_of 0 left rest
  run-kept mask left kept left_is = ap (call_ends_of 0 mask) are ∙ call_ends_of-kept mask word values rest kept ∙ ap (λ m. call_ends_of 0 m rest) (sym left_is)

  pub run-lost : (mask : List Bool) → keeps (length values) mask ≡ false → call_ends_of 0 mask events ≡ 0
  run-lost mask lost = ap (call_ends_of 0 mask) are ∙ call_ends_of-lost mask word values rest lost

  pub run-within : (mask : List Bool) → keeps (length values) mask ≡ true → length values ≤ length mask
  run-within mask kept = keeps-fits (length values) mask kept

  -- what a mask keeps of them is done
  pub run-done : (words next : List ℕ) (mask left : List Bool) → next ≡ words_after words (stores_of 0 mask (stores_from word values)) → left ≡ drop (min (length values) (length mask)) mask
      → words_after next (stores_of 0 left rest) ≡ words_after words (stores_of 0 mask events)
  run-done words next mask left next_is left_is =
      ap (λ m. words_after next (stores_of 0 m rest)) (left_is ∙ drop-min mask (length values))
      ∙ ap (λ ws. words_after ws (stores_of 0 (drop (length values) mask) rest)) next_is
      ∙ sym (words_after-append words (stores_of 0 mask (stores_from word values)) (stores_of 0 (drop (length values) mask) rest))
      ∙ ap (words_after words) (sym (stores_of-run mask word values rest) ∙ ap (stores_of 0 mask) (sym are))
    where
      drop-min : (mask : List Bool) (n : ℕ) → drop (min n (length mask)) mask ≡ drop n mask
      drop-min mask n = elim (leb_tells n (length mask)) [
        | inl fits ↦ let is : min n (length mask) ≡ n = omega (arith, fits.1) in ap (λ k. drop k mask) is
        | inr past ↦ let is : min n (length mask) ≡ length mask = omega (arith, past.1) in
            ap (λ k. drop k mask) is ∙ drop_all (length mask) mask (omega arith) ∙ sym (drop_all n mask (omega (arith, past.1)))
      ]

-- a log that begins with a signal
pub call_ends_of-barrier : (mask : List Bool) (events rest : List Event) → events ≡ Barrier ∷ rest → call_ends_of 0 mask events ≡ call_ends_of 0 [] rest
call_ends_of-barrier mask events rest are = ap (call_ends_of 0 mask) are ∙ go mask
  where
    go : (mask : List Bool) → call_ends_of 0 mask (Barrier ∷ rest) ≡ call_ends_of 0 [] rest
    go [] = refl
    go (true ∷ mask) = refl
    go (false ∷ mask) = refl

pub call_ends_of-call_end : (mask : List Bool) (events rest : List Event) → events ≡ CallEnd ∷ rest → call_ends_of 0 mask events ≡ suc (call_ends_of 0 mask rest)
call_ends_of-call_end mask events rest are = ap (call_ends_of 0 mask) are ∙ go mask
  where
    go : (mask : List Bool) → call_ends_of 0 mask (CallEnd ∷ rest) ≡ suc (call_ends_of 0 mask rest)
    go [] = refl
    go (true ∷ mask) = refl
    go (false ∷ mask) = refl

pub stores_of-barrier : (words : List ℕ) (mask : List Bool) (events rest : List Event) → events ≡ Barrier ∷ rest → words_after words (stores_of 0 mask events) ≡ words
stores_of-barrier words mask events rest are = ap (λ es. words_after words (stores_of 0 mask es)) are ∙ go mask
  where
    go : (mask : List Bool) → words_after words (stores_of 0 mask (Barrier ∷ rest)) ≡ words
    go [] = refl
    go (true ∷ mask) = refl
    go (false ∷ mask) = refl

pub stores_of-call_end : (mask : List Bool) (events rest : List Event) → events ≡ CallEnd ∷ rest → stores_of 0 mask events ≡ stores_of 0 mask rest
stores_of-call_end mask events rest are = ap (stores_of 0 mask) are ∙ go mask
  where
    go : (mask : List Bool) → stores_of 0 mask (CallEnd ∷ rest) ≡ stores_of 0 mask rest
    go [] = refl
    go (true ∷ mask) = refl
    go (false ∷ mask) = refl

-- nothing more is kept of a log, or by a mask, that has ended
pub stores_of-ended : (words : List ℕ) (mask : List Bool) (events : List Event) → min (length events) (length mask) ≡ 0 → words_after words (stores_of 0 mask events) ≡ words
stores_of-ended words mask [] none = refl
stores_of-ended words [] (event ∷ events) none = ap (words_after words) (stores_of-none (event ∷ events))
stores_of-ended words (keep ∷ mask) (event ∷ events) none = absurd (omega (arith, none))

-- one store more that the mask keeps or not
pub kept-step : (words next values : List ℕ) (mask : List Bool) (word i : ℕ) → i < length mask → i < length values → (get_or mask i false ≡ true → next ≡ set words (word + i) (get_or values i 0)) → (get_or mask i false ≡ false → next ≡ words)
    → words_after next (stores_of 0 (drop (i + 1) mask) (stores_from (word + (i + 1)) (drop (i + 1) values))) ≡ words_after words (stores_of 0 (drop i mask) (stores_from (word + i) (drop i values)))
kept-step words next values mask word i low inside kept lost =
    let there : word + (i + 1) ≡ (word + i) + 1 = omega arith in
    ap (λ w. words_after next (stores_of 0 (drop (i + 1) mask) (stores_from w (drop (i + 1) values)))) there
    ∙ go (get_or mask i false) kept lost
    ∙ sym (ap (λ m. words_after words (stores_of 0 m (stores_from (word + i) (drop i values)))) (drop_more mask i false low))
  where
    go : (keep : Bool) → (keep ≡ true → next ≡ set words (word + i) (get_or values i 0)) → (keep ≡ false → next ≡ words)
        → words_after next (stores_of 0 (drop (i + 1) mask) (stores_from ((word + i) + 1) (drop (i + 1) values))) ≡ words_after words (stores_of 0 (keep ∷ drop (i + 1) mask) (stores_from (word + i) (drop i values)))
    go true kept lost =
        ap (λ ws. words_after ws (stores_of 0 (drop (i + 1) mask) (stores_from ((word + i) + 1) (drop (i + 1) values)))) (kept refl)
        ∙ sym (ap (λ vs. words_after words (stores_of 0 (true ∷ drop (i + 1) mask) (stores_from (word + i) vs))) (drop_more values i 0 inside))
    go false kept lost =
        ap (λ ws. words_after ws (stores_of 0 (drop (i + 1) mask) (stores_from ((word + i) + 1) (drop (i + 1) values)))) (lost refl)
        ∙ sym (ap (λ vs. words_after words (stores_of 0 (false ∷ drop (i + 1) mask) (stores_from (word + i) vs))) (drop_more values i 0 inside))

pub kept-end : (words values : List ℕ) (mask : List Bool) (word i : ℕ) → min (length values) (length mask) ≤ i → words_after words (stores_of 0 (drop i mask) (stores_from word (drop i values))) ≡ words
kept-end words values mask word i end =
    stores_of-ended words (drop i mask) (stores_from word (drop i values))
    (omega (arith, length-stores_from word (drop i values), length-drop i values, length-drop i mask, end))
