-- Caches of which some vectors changed.
use Rattle.std.proofs.Common.{◌≡◌, ℕ, ◌<◌, ◌≤◌, ◌∙◌, inl, inr, Bool, [], ◌∷◌, ◌++◌, length, get_or, refl, ap, sym, arith}
use Rattle.std.specs.Global.{Vec}
use Rattle.std.specs.Vec.{with_item}
use Rattle.std.proofs.lemmas.List.{length-append}
use Rattle.pm_cores.specs.declared.cores.Cores.TheInside.{Inside}
use Rattle.pm_cores.specs.declared.entry.Entry.{Entry}
use Rattle.pm_cores.specs.declared.entry.Entry.TheVariants.{Load}
use Rattle.pm_cores.specs.Inside.{AreSound, AreRecorded, HoldsCaches, IsLow, Waits}
use Rattle.pm_cores.specs.Log.{core_barriers, core_of, line_at}
use Rattle.pm_cores.proofs.Clearing.{IsCleared, cleared_sound, still}
use Rattle.pm_cores.proofs.Lists.{set_either}
use Rattle.pm_cores.proofs.Logs.{IsNoStore, core_barriers-append}
use Rattle.pm_cores.proofs.Pushing.{known_pushed, low_pushed, pushed_sound}
use Rattle.pm_cores.proofs.Report.{pushed_recorded}

-- a core's low: none of its stores before it waits
pub record IsCoreLow (inside : Inside) (core low : ℕ) : Type 0 where
  pub is_low : IsLow inside.since.items inside.log.items core low
  pub high : low ≤ length inside.log.items

-- a log that grew by an entry, with its epoch and the number of the store before it
pub record IsGrown (inside : Inside) (entry : Entry) (epoch before : ℕ) (log2 : Vec Entry) (epochs2 befores2 : Vec ℕ) : Type 0 where
  pub log : (log2.items ≡ inside.log.items ++ entry ∷ []) × (inside.log.cap ≤ log2.cap)
  pub epochs : (epochs2.items ≡ inside.epochs.items ++ epoch ∷ []) × (inside.epochs.cap ≤ epochs2.cap)
  pub befores : (befores2.items ≡ inside.befores.items ++ before ∷ []) × (inside.befores.cap ≤ befores2.cap)
  pub known : core_of entry < inside.counts.len
  pub room : length inside.log.items < inside.room

module _ (inside : Inside) (holds : HoldsCaches inside) where
  -- other words wait, and the cores have other lows
  with_waiting : (since lows : Vec ℕ) → AreSound inside.words since.items inside.log.items inside.epochs.items → lows.len ≡ inside.lows.len →
      ((core : ℕ) → core < inside.counts.len → IsCoreLow (record inside { since = since }) core (get_or lows.items core 0)) →
      HoldsCaches (record inside { since = since; lows = lows })
  with_waiting since lows sound many low = record {
    sound = sound;
    recorded = holds.recorded;
    lows = λ core known. (low core known).is_low;
    low_heights = λ core known. (low core known).high;
    counts = holds.counts;
    known_cores = holds.known_cores;
    as_many_lows = many ∙ holds.as_many_lows;
    some_core = holds.some_core;
    fits = holds.fits;
    few = holds.few;
    whole_lines = holds.whole_lines;
    log_reserved = holds.log_reserved;
    epochs_reserved = holds.epochs_reserved;
    befores_reserved = holds.befores_reserved;
  }

  -- what holds of the low of a core
  pub core_low : (core : ℕ) → core < inside.counts.len → IsCoreLow inside core (get_or inside.lows.items core 0)
  core_low core known = record { is_low = holds.lows core known; high = holds.low_heights core known }

  -- a core's low is set
  pub with_low : (core low : ℕ) → core < inside.counts.len → IsCoreLow inside core low → HoldsCaches (record inside { lows = with_item inside.lows core low })
  with_low core low known is_low =
      with_waiting inside.since (with_item inside.lows core low) holds.sound refl (λ its its_known.
      elim (set_either inside.lows.items core low its (omega (arith, known, inside.lows.ok.0, holds.as_many_lows))) [
        | inl same ↦ rw (same.1, same.0) is_low
        | inr differ ↦ rw differ.1 (core_low its its_known)
      ])

  -- words go back: what is stated of the others stays
  pub with_since : (since : Vec ℕ) (gone : ℕ → Bool) → IsCleared inside.words inside.since.items inside.log.items inside.epochs.items since.items gone →
      HoldsCaches (record inside { since = since })
  with_since since gone back =
      with_waiting since inside.lows (cleared_sound _ _ _ _ _ _ back) refl
      (λ core known. record {
        is_low = λ place word waits. holds.lows core known place word (still _ _ _ _ _ _ back place core word waits);
        high = holds.low_heights core known;
      })

module _ (inside : Inside) (holds : HoldsCaches inside) (entry : Entry) (epoch before : ℕ) (log : Vec Entry) (epochs befores : Vec ℕ)
    (grown : IsGrown inside entry epoch before log epochs befores) where
  -- the log grew, and the rest is right of it
  pub with_entry : (since lasts counts : Vec ℕ) → AreSound inside.words since.items (inside.log.items ++ entry ∷ []) (inside.epochs.items ++ epoch ∷ []) →
      AreRecorded inside.words lasts.items (inside.log.items ++ entry ∷ []) (inside.befores.items ++ before ∷ []) →
      ((core low : ℕ) → IsCoreLow inside core low → IsLow since.items (inside.log.items ++ entry ∷ []) core low) → counts.len ≡ inside.counts.len →
      ((core : ℕ) → core < inside.counts.len → get_or counts.items core 0 ≡ core_barriers core (inside.log.items ++ entry ∷ [])) →
      HoldsCaches (record inside { since = since; lasts = lasts; log = log; epochs = epochs; befores = befores; counts = counts })
  with_entry since lasts counts sound recorded lows many counted =
      let longer = length-append inside.log.items (entry ∷ []) in
      let known : (core : ℕ) → core < counts.len → core < inside.counts.len = λ core low. omega (arith, low, many) in
      record {
        sound = rw (grown.log.0, grown.epochs.0) sound;
        recorded = rw (grown.log.0, grown.befores.0) recorded;
        lows = λ core low. rw grown.log.0 (lows core (get_or inside.lows.items core 0) (core_low inside holds core (known core low)));
        low_heights = λ core low. rw grown.log.0 (omega (arith, holds.low_heights core (known core low), longer));
        counts = λ core low. rw grown.log.0 (counted core (known core low));
        known_cores = rw (grown.log.0, many) (known_pushed inside.log.items entry inside.counts.len holds.known_cores grown.known);
        as_many_lows = holds.as_many_lows ∙ sym many;
        some_core = omega (arith, holds.some_core, many);
        fits = omega (arith, grown.room, log.ok.0, ap length grown.log.0, longer);
        few = holds.few;
        whole_lines = holds.whole_lines;
        log_reserved = omega (arith, holds.log_reserved, grown.log.1);
        epochs_reserved = omega (arith, holds.epochs_reserved, grown.epochs.1);
        befores_reserved = omega (arith, holds.befores_reserved, grown.befores.1);
      }

  -- an entry that is no barrier leaves the epochs
  pub counts_stay : ((core : ℕ) → core_barriers core (entry ∷ []) ≡ 0) → (core : ℕ) → core < inside.counts.len →
      get_or inside.counts.items core 0 ≡ core_barriers core (inside.log.items ++ entry ∷ [])
  counts_stay none core low = omega (arith, holds.counts core low, core_barriers-append core inside.log.items (entry ∷ []), none core)

  -- the entry is no store: so the words wait as before
  pub with_other_entry : IsNoStore entry → ((core word : ℕ) → entry ≡ Load core word → (place its_core its_word : ℕ) →
      Waits inside.since.items inside.log.items place its_core its_word → line_at word ≡ line_at its_word → core ≡ its_core) →
      epoch ≡ core_barriers (core_of entry) inside.log.items → before ≡ 0 → (counts : Vec ℕ) → counts.len ≡ inside.counts.len →
      ((core : ℕ) → core < inside.counts.len → get_or counts.items core 0 ≡ core_barriers core (inside.log.items ++ entry ∷ [])) →
      HoldsCaches (record inside { log = log; epochs = epochs; befores = befores; counts = counts })
  with_other_entry none ready epoch_is no_before counts =
      with_entry inside.since inside.lasts counts
      (pushed_sound _ _ _ _ entry epoch holds.sound epoch_is none ready)
      (rw no_before (pushed_recorded _ _ _ _ holds.recorded entry none))
      (λ core low at. low_pushed _ _ _ _ entry epoch holds.sound epoch_is none ready core low at.is_low)
