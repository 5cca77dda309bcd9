-- After the stores that begin a transaction, the image seen inside has the files of the outside as its files and as its
-- snapshot.
use Rattle.std.proofs.Common.{◌≡◌, ◌≢◌, ℕ, ◌≤◌, Bool, true, ◌&&◌, nat_lt, length, set, sym, ◌∙◌, ap, arith, get_or-set_same, get_or-set_other}
use Rattle.std.proofs.lemmas.Bool.{lt-ltb}
use Rattle.std.proofs.lemmas.List.{length-set}
use Rattle.pm_epochs.specs.Log.{words_after}
use Rattle.bp_limits.specs.CallLimits.{allows_snapshot}
use Rattle.bp_limits.specs.Limits.{magic, version_at}
use Rattle.bp_limits.specs.declared.version.Version.TheVariants.{Three}
use Rattle.bp_layout.specs.Same.{Same}
use Rattle.bp_layout.specs.Trees.{has_snapshot, snapshot_of}
use Rattle.bp_layout.specs.WellFormed.{IsWellFormed}
use Rattle.bp_layout.specs.Words.{Image, word}
use Rattle.bp_layout.proofs.SameLaws.{same_transitive}
use Rattle.bp_roles.specs.Roles.{magic_of}
use Rattle.bp_roles.specs.Seen.{seen_words}
use Rattle.bp_roles.specs.Transaction.{BeginsInside, begin_events, inside, outside, outside_place}
use Rattle.bp_roles.proofs.SeenLaws.{length-seen}
use Rattle.bp_roles.proofs.Bridge.{SameButSlots, inside-past, inside-count, inside-magic, inside-three, inside-word, kept_is_outside, same_but_slots}
use Rattle.bp_roles.proofs.Durable.{outside_magic}

slots_back : (old new : Image) → SameButSlots old new → SameButSlots new old
slots_back old new alike = record {
  size = sym alike.size;
  magic = sym alike.magic;
  count = sym alike.count;
  root = sym alike.root;
  bytes = sym alike.bytes;
  past = λ i high. sym (alike.past i high);
}

module _ (is_b : Bool) (image after : Image) (wide : 8 ≤ length image) (marked : word image 0 ≡ magic_of (outside is_b)) (wf : IsWellFormed (seen_words (outside is_b) image))
    (begun : seen_words (outside is_b) after ≡ words_after (seen_words (outside is_b) image) (begin_events (seen_words (outside is_b) image))) where
  abbrev old : Image
  old = seen_words (outside is_b) image

  size : length after ≡ length image
  size =
      sym (length-seen (outside is_b) after) ∙ ap length begun ∙ length-set (set old 6 (word old 2)) 7 (word old 3)
      ∙ length-set old 6 (word old 2) ∙ length-seen (outside is_b) image

  after_wide : 8 ≤ length after
  after_wide = omega (arith, size, wide)

  at : (i : ℕ) → i ≢ 6 → i ≢ 7 → word (seen_words (outside is_b) after) i ≡ word old i
  at i six seven =
      ap (λ ws. word ws i) begun
      ∙ get_or-set_other (set old 6 (word old 2)) 7 i (word old 3) 0 seven
      ∙ get_or-set_other old 6 i (word old 2) 0 six

  at_six : word (seen_words (outside is_b) after) 6 ≡ word old 2
  at_six =
      ap (λ ws. word ws 6) begun
      ∙ get_or-set_other (set old 6 (word old 2)) 7 6 (word old 3) 0 (λ e. omega (arith, e))
      ∙ get_or-set_same old 6 (word old 2) 0 (omega (arith, length-seen (outside is_b) image, wide))

  at_seven : word (seen_words (outside is_b) after) 7 ≡ word old 3
  at_seven =
      ap (λ ws. word ws 7) begun
      ∙ get_or-set_same (set old 6 (word old 2)) 7 (word old 3) 0
      (omega (arith, length-set old 6 (word old 2), length-seen (outside is_b) image, wide))

  inside_root : word (seen_words (inside is_b) after) 2 ≡ word (seen_words (outside is_b) after) 6
  unfolding outside_place
  inside_root = inside-word is_b after 2 after_wide

  inside_size : word (seen_words (inside is_b) after) 3 ≡ word (seen_words (outside is_b) after) 7
  unfolding outside_place
  inside_size = inside-word is_b after 3 after_wide

  files : SameButSlots old (seen_words (inside is_b) after)
  files = record {
    size = length-seen (inside is_b) after ∙ size ∙ sym (length-seen (outside is_b) image);
    magic = inside-magic is_b after after_wide ∙ at 0 (λ e. omega (arith, e)) (λ e. omega (arith, e));
    count = inside-count is_b after after_wide ∙ at 1 (λ e. omega (arith, e)) (λ e. omega (arith, e));
    root = inside_root ∙ at_six;
    bytes = inside_size ∙ at_seven;
    past = λ i high. inside-past is_b after i after_wide high ∙ at i (λ e. omega (arith, e, high)) (λ e. omega (arith, e, high));
  }

  outside_alike : SameButSlots old (seen_words (outside is_b) after)
  outside_alike = record {
    size = length-seen (outside is_b) after ∙ size ∙ sym (length-seen (outside is_b) image);
    magic = at 0 (λ e. omega (arith, e)) (λ e. omega (arith, e));
    count = at 1 (λ e. omega (arith, e)) (λ e. omega (arith, e));
    root = at 2 (λ e. omega (arith, e)) (λ e. omega (arith, e));
    bytes = at 3 (λ e. omega (arith, e)) (λ e. omega (arith, e));
    past = λ i high. at i (λ e. omega (arith, e, high)) (λ e. omega (arith, e, high));
  }

  still : Same old (seen_words (outside is_b) after)
  still = same_but_slots old (seen_words (outside is_b) after) wf outside_alike

  kept : Same old (snapshot_of (seen_words (inside is_b) after))
  kept = same_transitive _ _ _ still
      (same_but_slots (seen_words (outside is_b) after) (snapshot_of (seen_words (inside is_b) after)) still.new_well_formed
      (slots_back (snapshot_of (seen_words (inside is_b) after)) (seen_words (outside is_b) after) (kept_is_outside is_b after after_wide)))

  magic_is : word (seen_words (inside is_b) after) 0 ≡ magic Three
  magic_is = inside-magic is_b after after_wide ∙ at 0 (λ e. omega (arith, e)) (λ e. omega (arith, e)) ∙ outside_magic is_b image wide marked

  size_is : word (seen_words (inside is_b) after) 5 ≡ word old 3
  size_is = inside-three is_b after after_wide ∙ at 3 (λ e. omega (arith, e)) (λ e. omega (arith, e))

  some : (n : ℕ) → 4096 ≤ n → nat_lt 0 n ≡ true
  some n low = lt-ltb 0 n (omega (arith, low))

  there : has_snapshot (seen_words (inside is_b) after) ≡ true
  there = (λ i. allows_snapshot (version_at (magic_is i)) && nat_lt 0 (size_is i)) ∙ some (word old 3) wf.some_inodes

  pub begins_inside : BeginsInside old (seen_words (inside is_b) after)
  begins_inside = record {
    files = same_but_slots old (seen_words (inside is_b) after) wf files;
    snapshot = kept;
    there = there;
  }
