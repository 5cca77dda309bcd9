-- What a crash in the middle of a format leaves, epoch by epoch.
use Rattle.std.proofs.Common.{◌≡◌, ◌≢◌, ◌⊎◌, ℕ, zero, suc, ◌*◌, ◌≤◌, List, [], ◌∷◌, ◌++◌, Bool, true, false, length, set, refl, sym, ◌∙◌, ap, subst, arith, inl, inr, get_or-set_same}
use Rattle.pm_epochs.specs.declared.event.Event.{Event}
use Rattle.pm_epochs.specs.declared.event.Event.TheVariants.{Store, Barrier}
use Rattle.pm_epochs.specs.Log.{IsClosed, words_after}
use Rattle.pm_epochs.specs.May.{AnyAt, StoresMay}
use Rattle.pm_epochs.specs.Replay.{IsReplay, stores_of}
use Rattle.pm_epochs.proofs.CrashLaws.{joined_replays}
use Rattle.pm_epochs.proofs.Cuts.{kept_stores_right}
use Rattle.pm_epochs.proofs.MayLaws.{EachMay-stored, StoresMay-stores_of, same_where_none}
use Rattle.bp_layout.specs.Words.{Image, word}
use Rattle.bp_layout.specs.Format.{empty_words}
use Rattle.bp_limits.specs.Limits.{magic, max_blocks, super_magic}
use Rattle.bp_limits.specs.declared.version.Version.{Version}
use Rattle.bp_limits.specs.declared.version.Version.TheVariants.{One, Two, Three}
use Rattle.bp_plain.specs.PlainTree.{empty_tree}
use Rattle.bp_plain.specs.Stands.{Stands}
use Rattle.bp_plain.proofs.FormatStands.{format_stands}
use Rattle.bp_fs.specs.SuperEvents.{stores_epoch}
use Rattle.bp_mount.specs.Laid.{IsLeftByFormat, format_events}
use Rattle.bp_mount.specs.Laid.IsLeftByFormat.{untouched, no_magic, empty}

-- a replay of some events keeps stores of some epochs and a mask
replayed : (base : List ℕ) (events : List Event) (image : List ℕ) (found : IsReplay base events image) → words_after base (stores_of found.cut.epoch found.cut.mask events) ≡ image
replayed base events image found = ap (words_after base) (sym (kept_stores_right events found.cut found.right)) ∙ found.words

-- one store in an epoch of its own was done or not
one_store : (base : List ℕ) (place value epoch : ℕ) (mask : List Bool) →
    (words_after base (stores_of epoch mask (Store place value ∷ Barrier ∷ [])) ≡ base) ⊎ (words_after base (stores_of epoch mask (Store place value ∷ Barrier ∷ [])) ≡ set base place value)
one_store base place value zero [] = inl refl
one_store base place value zero (true ∷ mask) = inr refl
one_store base place value zero (false ∷ mask) = inl refl
one_store base place value (suc epoch) mask = inr refl

-- a word at which the events store nothing stays
word_stays : (base : List ℕ) (events : List Event) (place : ℕ) → StoresMay (AnyAt (λ p. p ≢ place)) events → (image : List ℕ) → IsReplay base events image → word image place ≡ word base place
word_stays base events place may image found =
    subst (λ w. word w place ≡ word base place) (replayed base events image found)
    (same_where_none (AnyAt (λ p. p ≢ place)) base (words_after base (stores_of found.cut.epoch found.cut.mask events))
    (EachMay-stored (AnyAt (λ p. p ≢ place)) base (stores_of found.cut.epoch found.cut.mask events) (StoresMay-stores_of (AnyAt (λ p. p ≢ place)) events found.cut.epoch found.cut.mask may)) place (λ value other. other refl))

module _ (base : Image) (version : Version) (blocks : ℕ) (whole : length base ≡ 512 * blocks) (least : 8 ≤ blocks) (most : blocks ≤ max_blocks) where
  abbrev clearing_magic : List Event
  clearing_magic = stores_epoch ((super_magic, 0) ∷ [])

  abbrev filling : List Event
  filling = stores_epoch (empty_words version blocks)

  abbrev setting_magic : List Event
  setting_magic = stores_epoch ((super_magic, magic version) ∷ [])

  cleared : word (set base 0 0) 0 ≡ 0
  cleared = get_or-set_same base 0 0 0 (omega (arith, whole, least))

  filling_apart : StoresMay (AnyAt (λ p. p ≢ 0)) filling
  filling_apart = go version
    where
      go : (version : Version) → StoresMay (AnyAt (λ p. p ≢ 0)) (stores_epoch (empty_words version blocks))
      go One = (λ e. omega (arith, e), (λ e. omega (arith, e), (λ e. omega (arith, e), (λ e. omega (arith, e), (λ e. omega (arith, e), (λ e. omega (arith, e), tt))))))
      go Two = (λ e. omega (arith, e), (λ e. omega (arith, e), (λ e. omega (arith, e), (λ e. omega (arith, e), (λ e. omega (arith, e), (λ e. omega (arith, e), (λ e. omega (arith, e), (λ e. omega (arith, e), tt))))))))
      go Three = (
        λ e. omega (arith, e),
        (
          λ e. omega (arith, e),
          (
            λ e. omega (arith, e),
            (
              λ e. omega (arith, e),
              (
                λ e. omega (arith, e),
                (
                  λ e. omega (arith, e),
                  (
                    λ e. omega (arith, e),
                    (λ e. omega (arith, e), (λ e. omega (arith, e), (λ e. omega (arith, e), (λ e. omega (arith, e), (λ e. omega (arith, e), (λ e. omega (arith, e), tt)))))),
                  ),
                ),
              ),
            ),
          ),
        ),
      )

  filling_closed : IsClosed filling
  filling_closed = go version
    where
      go : (version : Version) → IsClosed (stores_epoch (empty_words version blocks))
      go One = (omega arith, (omega arith, (omega arith, (omega arith, (omega arith, (omega arith, tt))))))
      go Two = (omega arith, (omega arith, (omega arith, (omega arith, (omega arith, (omega arith, (omega arith, (omega arith, tt))))))))
      go Three = (omega arith, (omega arith, (omega arith, (omega arith, (omega arith, (omega arith, (omega arith, (omega arith, (omega arith, (omega arith, (omega arith, (omega arith, (omega arith, tt)))))))))))))

  filled : word (words_after (set base 0 0) filling) 0 ≡ 0
  filled =
      same_where_none (AnyAt (λ p. p ≢ 0)) (set base 0 0) (words_after (set base 0 0) filling)
      (EachMay-stored (AnyAt (λ p. p ≢ 0)) (set base 0 0) filling filling_apart) 0 (λ value other. other refl) ∙ cleared

  stands_made : Stands (set (words_after (set base 0 0) filling) 0 (magic version)) (empty_tree version)
  stands_made = go version
    where
      go : (version : Version) → Stands (set (words_after (set base 0 0) (stores_epoch (empty_words version blocks))) 0 (magic version)) (empty_tree version)
      go One = format_stands base One blocks whole least most
      go Two = format_stands base Two blocks whole least most
      go Three = format_stands base Three blocks whole least most

  pub left_by_format : (image : List ℕ) → IsReplay base (format_events version blocks) image → IsLeftByFormat version base image
  left_by_format image found = elim (joined_replays base clearing_magic (filling ++ setting_magic) (omega arith, tt) image found) [
    | inl early ↦ at_first early
    | inr late ↦ elim (joined_replays (set base 0 0) filling setting_magic filling_closed image late) [
      | inl middle ↦ no_magic (word_stays (set base 0 0) filling 0 filling_apart image middle ∙ cleared)
      | inr end ↦ at_last end
    ]
  ]
    where
      at_first : IsReplay base clearing_magic image → IsLeftByFormat version base image
      at_first early = elim (one_store base 0 0 early.cut.epoch early.cut.mask) [
        | inl same ↦ untouched (sym (replayed base clearing_magic image early) ∙ same)
        | inr done ↦ no_magic (ap (λ w. word w 0) (sym (replayed base clearing_magic image early) ∙ done) ∙ cleared)
      ]

      at_last : IsReplay (words_after (set base 0 0) filling) setting_magic image → IsLeftByFormat version base image
      at_last end = elim (one_store (words_after (set base 0 0) filling) 0 (magic version) end.cut.epoch end.cut.mask) [
        | inl same ↦ no_magic (ap (λ w. word w 0) (sym (replayed (words_after (set base 0 0) filling) setting_magic image end) ∙ same) ∙ filled)
        | inr done ↦ empty (subst (λ w. Stands w (empty_tree version)) (sym (sym (replayed (words_after (set base 0 0) filling) setting_magic image end) ∙ done)) stands_made)
      ]
