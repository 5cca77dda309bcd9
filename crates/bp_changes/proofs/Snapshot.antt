-- The second tree of an image stays as it is where no store goes to its blocks, nor to its words of the superblock.
use Rattle.std.proofs.Common.{◌≡◌, ◌≢◌, ◌⊎◌, ℕ, ◌+◌, ◌*◌, ◌/◌, ◌%◌, ◌<◌, ◌≤◌, Bool, true, false, ◌&&◌, nat_lt, length, refl, sym, ◌∙◌, subst, arith, inl, inr, true≢false}
use Rattle.std.proofs.lemmas.Bool.{cases_eq, cases_lt}
use Rattle.bp_limits.specs.Limits.{version_at}
use Rattle.bp_limits.specs.CallLimits.{allows_snapshot}
use Rattle.bp_layout.specs.Words.{Image, word}
use Rattle.bp_layout.specs.Reached.{IsLiveBlock}
use Rattle.bp_layout.specs.Same.{Same}
use Rattle.bp_layout.specs.Trees.{AreInSnapshot, has_snapshot, snapshot_of}
use Rattle.bp_layout.specs.WellFormed.{IsWellFormed}
use Rattle.bp_layout.proofs.TreeImages.{length-snapshot, snapshot-root, snapshot-size, snapshot-word}
use Rattle.bp_changes.specs.Harmless.{IsHarmless, Agrees}
use Rattle.bp_changes.proofs.Frame.{has_block-back, has_block-on, meaning-same, same-by_agreement}
use Rattle.bp_changes.proofs.ReachedOn.{reached_on}
use Rattle.bp_changes.proofs.SameMeaning.{reached-back}
use Rattle.bp_changes.proofs.Separation.{free-harmless}
use Rattle.bp_changes.proofs.Stores.{harmless_here}

-- the words of the superblock except for those of the first tree, and the words of blocks of the snapshot
pub record Keeps (old new : Image) (in_snapshot : ℕ → Bool) : Type 0 where
  pub whole : length new ≡ length old
  pub superblock : (place : ℕ) → place < 512 → place ≢ 2 → place ≢ 3 → word new place ≡ word old place
  pub blocks : (place : ℕ) → in_snapshot (place / 512) ≡ true → word new place ≡ word old place

module _ (old new : Image) (in_snapshot : ℕ → Bool) (long : 4 ≤ length old) (snapshot_blocks : AreInSnapshot old in_snapshot) (keeps : Keeps old new in_snapshot) where
  pub has_snapshot-same : has_snapshot new ≡ has_snapshot old
  has_snapshot-same =
      λ i. allows_snapshot (version_at (keeps.superblock 0 (omega arith) (λ e. omega (arith, e)) (λ e. omega (arith, e)) i))
      && nat_lt 0 (keeps.superblock 5 (omega arith) (λ e. omega (arith, e)) (λ e. omega (arith, e)) i)

  -- what each word of the snapshot's image becomes
  low_word : (place : ℕ) → place < 512 → word (snapshot_of new) place ≡ word (snapshot_of old) place
  low_word place low = go (cases_eq place 2) (cases_eq place 3)
    where
      long_new : 4 ≤ length new
      long_new = rw keeps.whole long

      go : (place ≡ 2) ⊎ (place ≡ 2 → ⊥) → (place ≡ 3) ⊎ (place ≡ 3 → ⊥) → word (snapshot_of new) place ≡ word (snapshot_of old) place
      go (inl e) f =
          subst (λ p. word (snapshot_of new) p ≡ word (snapshot_of old) p) (sym e)
          (snapshot-root new long_new ∙ keeps.superblock 4 (omega arith) (λ e. omega (arith, e)) (λ e. omega (arith, e)) ∙ sym (snapshot-root old long))
      go (inr e) (inl f) =
          subst (λ p. word (snapshot_of new) p ≡ word (snapshot_of old) p) (sym f)
          (snapshot-size new long_new ∙ keeps.superblock 5 (omega arith) (λ e. omega (arith, e)) (λ e. omega (arith, e)) ∙ sym (snapshot-size old long))
      go (inr e) (inr f) = snapshot-word new place e f ∙ keeps.superblock place low e f ∙ sym (snapshot-word old place e f)

  module _ (there : has_snapshot old ≡ true) (wf : IsWellFormed (snapshot_of old)) where
    harmless : (place : ℕ) → IsHarmless (snapshot_of old) place (word (snapshot_of new) place)
    harmless place = go (cases_lt place 512)
      where
        at_same : word (snapshot_of new) place ≡ word (snapshot_of old) place → IsHarmless (snapshot_of old) place (word (snapshot_of new) place)
        at_same e = subst (IsHarmless (snapshot_of old) place) (sym e) (harmless_here (snapshot_of old) place)

        in_block : 512 ≤ place → (b : Bool) → in_snapshot (place / 512) ≡ b → IsHarmless (snapshot_of old) place (word (snapshot_of new) place)
        in_block high true e =
            at_same (snapshot-word new place (λ h. omega (arith, h, high)) (λ h. omega (arith, h, high)) ∙ keeps.blocks place e
            ∙ sym (snapshot-word old place (λ h. omega (arith, h, high)) (λ h. omega (arith, h, high))))
        in_block high false e =
            let split : 512 * (place / 512) + place % 512 ≡ place = omega arith in
            subst (λ p. IsHarmless (snapshot_of old) p (word (snapshot_of new) place)) split
            (free-harmless (snapshot_of old) wf (place / 512) (place % 512) (word (snapshot_of new) place) (omega (arith, high)) (omega arith)
            (λ live. true≢false (sym (snapshot_blocks.all (place / 512) (record { there = there; live = live })) ∙ e)))

        go : (place < 512) ⊎ (512 ≤ place) → IsHarmless (snapshot_of old) place (word (snapshot_of new) place)
        go (inl low) = at_same (low_word place low)
        go (inr high) = in_block high (in_snapshot (place / 512)) refl

    pub agrees : Agrees (snapshot_of old) (snapshot_of new)
    agrees = record { whole = length-snapshot new ∙ keeps.whole ∙ sym (length-snapshot old); each = harmless }

    -- the snapshot means what it meant
    pub snapshot_same : Same (snapshot_of old) (snapshot_of new)
    snapshot_same = same-by_agreement (snapshot_of old) (snapshot_of new) wf agrees

    -- and has the blocks that it had
    pub live_back : (b : ℕ) → IsLiveBlock (snapshot_of new) b → IsLiveBlock (snapshot_of old) b
    live_back b live =
        let was = reached-back (snapshot_of old) (snapshot_of new) wf (meaning-same (snapshot_of old) (snapshot_of new) wf agrees) live.tree live.reached in
        record { tree = live.tree; reached = was; has = has_block-back (snapshot_of old) (snapshot_of new) wf agrees live.tree b was live.has }

    pub live_on : (b : ℕ) → IsLiveBlock (snapshot_of old) b → IsLiveBlock (snapshot_of new) b
    live_on b live = record {
      tree = live.tree;
      reached = reached_on (snapshot_of old) (snapshot_of new) (meaning-same (snapshot_of old) (snapshot_of new) wf agrees) live.tree live.reached;
      has = has_block-on (snapshot_of old) (snapshot_of new) wf agrees live.tree b live.reached live.has;
    }

  -- so the set of its blocks stays
  pub snapshot_stays : (has_snapshot old ≡ true → IsWellFormed (snapshot_of old)) → AreInSnapshot new in_snapshot
  snapshot_stays wf = record {
    are = λ b is. let was = snapshot_blocks.are b is in
        record { there = has_snapshot-same ∙ was.there; live = live_on was.there (wf was.there) b was.live };
    all = λ b now.
        let there : has_snapshot old ≡ true = sym has_snapshot-same ∙ now.there in
        snapshot_blocks.all b (record { there = there; live = live_back there (wf there) b now.live });
  }
