-- A snapshot is made: two words of the superblock that nobody reads get the words that describe the inode file. It goes
-- once the second of them is 0.
use Rattle.std.proofs.Common.{◌≡◌, ◌≢◌, ℕ, ◌<◌, ◌≤◌, length, set, Bool, true, false, ◌&&◌, nat_lt, None, Some, refl, sym, ◌∙◌, ap, subst, arith, get_or-set_same, get_or-set_other}
use Rattle.std.proofs.lemmas.List.{length-set, set-get_or}
use Rattle.std.proofs.lemmas.Bool.{lt-ltb}
use Rattle.bp_layout.specs.Words.{Image, word}
use Rattle.bp_layout.specs.Inode.{StandsAt}
use Rattle.bp_layout.specs.Same.{Same}
use Rattle.bp_layout.specs.Trees.{has_snapshot, snapshot_of}
use Rattle.bp_layout.specs.WellFormed.{IsWellFormed}
use Rattle.bp_changes.specs.Harmless.{IsHarmless, Agrees}
use Rattle.bp_changes.proofs.Frame.{same-by_agreement}
use Rattle.bp_changes.proofs.Stores.{agrees-store, harmless_here}
use Rattle.bp_plain.specs.PlainTree.{FileTree, PathMap}
use Rattle.bp_plain.specs.Stands.{Shows, Stands}
use Rattle.bp_layout.specs.Formatted.{version_of}
use Rattle.bp_limits.specs.Limits.{super_snapshot_size, version_at}
use Rattle.bp_limits.specs.CallLimits.{allows_snapshot}

-- no live word stands in the superblock after the four words of the first tree
pub idle-harmless : (image : Image) (place value : ℕ) → 4 ≤ place → place < 512 → IsHarmless image place value
idle-harmless image place value low high =
    let none : (t d k : ℕ) → StandsAt image t d k place → ⊥ = λ t d k stands. let present = stands.present in let at = stands.at in omega (arith, present, at, high) in
    record {
      superblock = λ h. absurd (omega (arith, h, low));
      pointers = λ t d k reached live stands. absurd (none t d k stands);
      inodes = λ i f reached few read stands. absurd (none _ _ _ stands);
      inos = λ i s reached kind in_size stands. absurd (none _ _ _ stands);
      names = λ i s j f reached names few stands. absurd (none _ _ _ stands);
      bytes = λ i o reached kind below stands. absurd (none _ _ _ stands);
    }

same_shows : (old new : Image) → Same old new → (map : PathMap) → Shows old map → Shows new map
same_shows old new same map shows = record {
  well_formed = same.new_well_formed;
  shows = λ path. shows.shows path ∙ sym (same.shows path);
  one = λ p q. shows.one p q ∙ sym (same.one p q);
}

agrees_self : (image : Image) → Agrees image image
agrees_self image = record { whole = refl; each = λ place. harmless_here image place }

module _ (old : Image) (long : 6 ≤ length old) (wf : IsWellFormed old) where
  abbrev snapped : Image
  snapped = set (set old 4 (word old 2)) 5 (word old 3)

  snapped_agrees : Agrees old snapped
  snapped_agrees = agrees-store old (set old 4 (word old 2)) 5 (word old 3) (idle-harmless old 5 (word old 3) (omega arith) (omega arith))
      (agrees-store old old 4 (word old 2) (idle-harmless old 4 (word old 2) (omega arith) (omega arith)) (agrees_self old))

  -- the first tree means what it meant
  pub snapped_same : Same old snapped
  snapped_same = same-by_agreement old snapped wf snapped_agrees

  at : (place : ℕ) → place ≢ 4 → place ≢ 5 → word snapped place ≡ word old place
  at place four five = get_or-set_other (set old 4 (word old 2)) 5 place (word old 3) 0 five ∙ get_or-set_other old 4 place (word old 2) 0 four

  at_four : word snapped 4 ≡ word old 2
  at_four = get_or-set_other (set old 4 (word old 2)) 5 4 (word old 3) 0 (λ e. omega (arith, e)) ∙ get_or-set_same old 4 (word old 2) 0 (omega (arith, long))

  at_five : word snapped 5 ≡ word old 3
  at_five = get_or-set_same (set old 4 (word old 2)) 5 (word old 3) 0 (rw (length-set old 4 (word old 2)) (omega (arith, long)))

  -- and the second tree is the first
  pub snapshot_is : snapshot_of snapped ≡ snapped
  snapshot_is =
      let two : word snapped 4 ≡ word snapped 2 = at_four ∙ sym (at 2 (λ e. omega (arith, e)) (λ e. omega (arith, e))) in
      let three : word snapped 5 ≡ word snapped 3 = at_five ∙ sym (at 3 (λ e. omega (arith, e)) (λ e. omega (arith, e))) in
      ap (λ w. set (set snapped 2 w) 3 (word snapped 5)) two ∙ ap (λ xs. set xs 3 (word snapped 5)) (set-get_or snapped 2 0) ∙ ap (λ w. set snapped 3 w) three ∙ set-get_or snapped 3 0

  -- in a version that has snapshots the tree has as its snapshot what it is now
  pub snap_stands : allows_snapshot (version_of old) ≡ true → (tree : FileTree) → Stands old tree → Stands snapped (record tree { snap = Some tree.now })
  snap_stands allowed tree stands = record {
    version = stands.version ∙ sym version_stays;
    now = same_shows old snapped snapped_same tree.now stands.now;
    snap = (there, subst (λ image. Shows image tree.now) (sym snapshot_is) (same_shows old snapped snapped_same tree.now stands.now));
  }
    where
      version_stays : version_of snapped ≡ version_of old
      version_stays = ap version_at (at 0 (λ e. omega (arith, e)) (λ e. omega (arith, e)))

      some : (n : ℕ) → 4096 ≤ n → nat_lt 0 n ≡ true
      some n low = lt-ltb 0 n (omega (arith, low))

      there : has_snapshot snapped ≡ true
      there = (λ i. (ap allows_snapshot version_stays ∙ allowed) i && nat_lt 0 (at_five i)) ∙ some (word old 3) wf.some_inodes

module _ (old : Image) (long : 6 ≤ length old) (wf : IsWellFormed old) where
  abbrev unsnapped : Image
  unsnapped = set old super_snapshot_size 0

  -- the first tree means what it meant
  pub unsnapped_same : Same old unsnapped
  unsnapped_same = same-by_agreement old unsnapped wf (agrees-store old old 5 0 (idle-harmless old 5 0 (omega arith) (omega arith)) (agrees_self old))

  -- the tree has no snapshot any more
  pub unsnap_stands : (tree : FileTree) → Stands old tree → Stands unsnapped (record tree { snap = None })
  unsnap_stands tree stands = record {
    version = stands.version ∙ sym version_stays;
    now = same_shows old unsnapped unsnapped_same tree.now stands.now;
    snap = ap (λ w. allows_snapshot (version_of unsnapped) && nat_lt 0 w) (get_or-set_same old 5 0 0 (omega (arith, long))) ∙ none (allows_snapshot (version_of unsnapped));
  }
    where
      version_stays : version_of unsnapped ≡ version_of old
      version_stays = ap version_at (get_or-set_other old 5 0 0 0 (λ e. omega (arith, e)))

      none : (b : Bool) → (b && nat_lt 0 0) ≡ false
      none true = refl
      none false = refl
