-- A call that is performed leaves the version and the snapshot as they are, at every moment of a crash: so what holds of
-- the first tree holds of both.
use Rattle.std.proofs.Common.{◌≡◌, ◌≢◌, ◌⊎◌, ℕ, ◌/◌, ◌<◌, ◌≤◌, List, ◌++◌, length, Bool, true, false, Option, None, Some, refl, sym, ◌∙◌, ap, subst, arith, inl, inr}
use Rattle.pm_epochs.specs.declared.event.Event.{Event}
use Rattle.pm_epochs.specs.Crash.{IsPartialEquivalence, IsQuiet, commit}
use Rattle.pm_epochs.specs.May.{AnyAt, EachMay}
use Rattle.pm_epochs.proofs.MayLaws.{EachMay-stored, quiet_may}
use Rattle.pm_region.specs.Memory.{Memory, current_words}
use Rattle.pm_region.specs.Safe.{AddsCommit}
use Rattle.pm_region.proofs.MemoryLaws.{current_words-adds}
use Rattle.bp_layout.specs.Members.{Has}
use Rattle.bp_layout.specs.Need.{Change, cover}
use Rattle.bp_layout.specs.Reached.{IsFreeBlock}
use Rattle.bp_layout.specs.Same.{Same}
use Rattle.bp_layout.specs.Trees.{AreInSnapshot, snapshot_of}
use Rattle.bp_layout.specs.Whole.{IsFileSystem, SameFiles, SameSnapshot}
use Rattle.bp_layout.specs.WordPaths.{address}
use Rattle.bp_layout.specs.Words.{Image, word}
use Rattle.bp_layout.proofs.MemberLaws.{each-has}
use Rattle.bp_layout.proofs.SameLaws.{same_symmetric, same_transitive}
use Rattle.bp_changes.proofs.Snapshot.{Keeps, snapshot_stays, has_snapshot-same, snapshot_same}
use Rattle.bp_layout.specs.Thaw.{full_need}
use Rattle.bp_changes.specs.Performs.{IsOpen, Performs, most_stores}
use Rattle.bp_changes.specs.Performs.IsOpen.{in_taken, in_live, at_root, at_size}
use Rattle.bp_changes.proofs.PerformsLaws.{all_open}
use Rattle.bp_layout.specs.Formatted.{version_of}
use Rattle.bp_plain.specs.Plain.{with_now}
use Rattle.bp_plain.specs.PlainTree.{FileTree, PathMap}
use Rattle.bp_plain.specs.Stands.{Shows, ShowsSnapshot, Stands}
use Rattle.bp_limits.specs.Limits.{version_at}

-- ---- the second tree of two images

same_snapshot_symmetric : (old new : Image) → SameSnapshot old new → SameSnapshot new old
same_snapshot_symmetric old new same = record {
  there = sym same.there;
  same = λ there. same_symmetric (snapshot_of old) (snapshot_of new) (same.same (sym same.there ∙ there));
}

same_snapshot_transitive : (one two three : Image) → SameSnapshot one two → SameSnapshot two three → SameSnapshot one three
same_snapshot_transitive one two three a b = record {
  there = b.there ∙ a.there;
  same = λ there. same_transitive (snapshot_of one) (snapshot_of two) (snapshot_of three) (a.same there) (b.same (a.there ∙ there));
}

snapshot_equivalence : IsPartialEquivalence SameSnapshot
snapshot_equivalence = record { symmetric = same_snapshot_symmetric; transitive = same_snapshot_transitive }

whole : (old new : Image) → Same old new → SameSnapshot old new → SameFiles old new
whole old new first second = record { first = first; second = second }

pub whole_equivalence : IsPartialEquivalence SameFiles
whole_equivalence = record {
  symmetric = λ a b same. record { first = same_symmetric a b same.first; second = same_snapshot_symmetric a b same.second };
  transitive = λ a b c one two. record {
    first = same_transitive a b c one.first two.first;
    second = same_snapshot_transitive a b c one.second two.second;
  };
}

-- ---- the tree that an image shows

shows_same : (old new : Image) → Same old new → (map : PathMap) → Shows old map → Shows new map
shows_same old new same map shows = record {
  well_formed = same.new_well_formed;
  shows = λ path. shows.shows path ∙ sym (same.shows path);
  one = λ p q. shows.one p q ∙ sym (same.one p q);
}

snapshot_shows : (old new : Image) → SameSnapshot old new → (snap : Option PathMap) → ShowsSnapshot old snap → ShowsSnapshot new snap
snapshot_shows old new same None none = same.there ∙ none
snapshot_shows old new same (Some map) shows = (same.there ∙ shows.0, shows_same (snapshot_of old) (snapshot_of new) (same.same shows.0) map shows.1)

-- ---- stores at open words

module _ (old : Image) (in_snapshot : ℕ → Bool) (taken : List ℕ) (free : (b : ℕ) → Has taken b → IsFreeBlock old in_snapshot b) (long : 4 ≤ length old) (fs : IsFileSystem old) (snapshot_blocks : AreInSnapshot old in_snapshot) where
  clash : (b : Bool) → b ≡ true → b ≡ false → ⊥
  clash b one two = absurd (cc)

  first_is_loose : in_snapshot 0 ≡ true → ⊥
  first_is_loose is = (snapshot_blocks.are 0 is).live.has.not_null refl

  low_closed : (place : ℕ) → place < 512 → place ≢ 2 → place ≢ 3 → IsOpen old in_snapshot taken place → ⊥
  low_closed place low a b (in_taken has) = let some : 1 ≤ place / 512 = (free (place / 512) has).low in omega (arith, low, some)
  low_closed place low a b (in_live live loose) = live.has.not_null (omega (arith, low))
  low_closed place low a b (at_root e) = a e
  low_closed place low a b (at_size e) = b e

  kept_closed : (place : ℕ) → in_snapshot (place / 512) ≡ true → IsOpen old in_snapshot taken place → ⊥
  kept_closed place is (in_taken has) = clash (in_snapshot (place / 512)) is (free (place / 512) has).loose
  kept_closed place is (in_live live loose) = clash (in_snapshot (place / 512)) is loose
  kept_closed place is (at_root e) = first_is_loose (subst (λ b. in_snapshot b ≡ true) (omega (arith, e)) is)
  kept_closed place is (at_size e) = first_is_loose (subst (λ b. in_snapshot b ≡ true) (omega (arith, e)) is)

  pub keeps : (image : Image) → EachMay (AnyAt (IsOpen old in_snapshot taken)) old image → Keeps old image in_snapshot
  keeps image each = record {
    whole = each.size;
    superblock = λ place low a b. go place (low_closed place low a b) (each.each place);
    blocks = λ place is. go place (kept_closed place is) (each.each place);
  }
    where
      go : (place : ℕ) → (IsOpen old in_snapshot taken place → ⊥) → (word image place ≡ word old place) ⊎ IsOpen old in_snapshot taken place → word image place ≡ word old place
      go place closed (inl same) = same
      go place closed (inr open_word) = absurd (closed open_word)

  rest_stays : (image : Image) → EachMay (AnyAt (IsOpen old in_snapshot taken)) old image → SameSnapshot old image
  rest_stays image each =
      let kept_words : Keeps old image in_snapshot = keeps image each in
      record {
        there = has_snapshot-same old image in_snapshot long snapshot_blocks kept_words;
        same = λ there. snapshot_same old image in_snapshot long snapshot_blocks kept_words there (fs.second there);
      }

-- ---- calls

module _ (in_snapshot : ℕ → Bool) (old new : Memory) (change : Change) (Effect : Image → Image → Type 0) (done : Performs in_snapshot old new change Effect)
    (long : 4 ≤ length (current_words old)) (fs : IsFileSystem (current_words old)) (snapshot_blocks : AreInSnapshot (current_words old) in_snapshot) where
  abbrev events : List Event
  events = done.commit.prepared ++ commit (address (current_words new) (cover (current_words old) change)) done.value

  pub free_taken : (b : ℕ) → Has done.taken b → IsFreeBlock (current_words old) in_snapshot b
  free_taken b has = each-has (IsFreeBlock (current_words old) in_snapshot) done.taken b done.takes.free has

  rest_quiet : IsQuiet SameSnapshot (current_words old) done.commit.prepared
  rest_quiet = quiet_may SameSnapshot snapshot_equivalence (AnyAt (IsOpen (current_words old) in_snapshot done.taken)) (current_words old) done.commit.prepared
      (rest_stays (current_words old) in_snapshot done.taken free_taken long fs snapshot_blocks) done.takes.only

  -- quiet for both trees up to its one store
  pub whole_commit : AddsCommit SameFiles (address (current_words new) (cover (current_words old) change)) done.value 10 (most_stores (full_need (current_words old) in_snapshot change)) old new
  whole_commit = record {
    prepared = done.commit.prepared;
    adds = done.commit.adds;
    quiet = record { each = λ cut right. whole _ _ (done.commit.quiet.each cut right) (rest_quiet.each cut right) };
    piece = done.commit.piece;
  }

  after : EachMay (AnyAt (IsOpen (current_words old) in_snapshot done.taken)) (current_words old) (current_words new)
  after = rw (current_words-adds old new events done.commit.adds)
      (EachMay-stored (AnyAt (IsOpen (current_words old) in_snapshot done.taken)) (current_words old) events (all_open in_snapshot old new change Effect done))

  -- and the snapshot is the one that it was
  pub whole_rest : SameSnapshot (current_words old) (current_words new)
  whole_rest = rest_stays (current_words old) in_snapshot done.taken free_taken long fs snapshot_blocks (current_words new) after

  kept_words : Keeps (current_words old) (current_words new) in_snapshot
  kept_words = keeps (current_words old) in_snapshot done.taken free_taken long fs snapshot_blocks (current_words new) after

  -- in the version that it was
  pub whole_version : version_of (current_words new) ≡ version_of (current_words old)
  whole_version = ap version_at (kept_words.superblock 0 (omega arith) (λ e. omega (arith, e)) (λ e. omega (arith, e)))

  pub whole_file_system : IsFileSystem (current_words new)
  whole_file_system = record {
    first = done.well_formed;
    second = λ there. (whole_rest.same (sym whole_rest.there ∙ there)).new_well_formed;
  }

  pub whole_snapshot : AreInSnapshot (current_words new) in_snapshot
  whole_snapshot = snapshot_stays (current_words old) (current_words new) in_snapshot long snapshot_blocks kept_words fs.second

  -- so a tree of which the call changes no more than what it has now
  pub whole_stands : (tree : FileTree) (now : PathMap) → Stands (current_words old) tree → Shows (current_words new) now → Stands (current_words new) (with_now tree now)
  whole_stands tree now stands shows = record {
    version = stands.version ∙ sym whole_version;
    now = shows;
    snap = snapshot_shows (current_words old) (current_words new) whole_rest tree.snap stands.snap;
  }
