-- A name in an empty entry, and then the inode number: what stands once the name is there, whichever inode the entry will name.
use Rattle.std.proofs.Common.{◌≡◌, ◌≢◌, ℕ, Bool, false, ◌+◌, ◌-◌, ◌*◌, ◌/◌, ◌<◌, ◌≤◌, [], suc, None, Some, unwrap_or, ap₂, set, refl, sym, ◌∙◌, ap, subst, arith}
use Rattle.bp_calls.specs.Entered.{IsReadyEntry}
use Rattle.bp_layout.specs.Need.{cover, need, Change}
use Rattle.bp_layout.specs.Need.Change.{enters as gains}
use Rattle.bp_layout.specs.Need.Entrant.{linked}
use Rattle.bp_layout.specs.WordPaths.{address, tree_path}
use Rattle.bp_changes.specs.Performs.{IsOpen, PerformsWithin}
use Rattle.bp_calls.specs.Growth.{stores_after_growth}
use Rattle.bp_changes.proofs.PerformsLaws.{within_stores, within_more}
use Rattle.bp_calls.proofs.NeedLaws.{cover_in_slot, need_in_slot}
use Rattle.bp_calls.proofs.OpenPlaces.{content_open, each_weaker, stands_stored, root_word_stays, content_address}
use Rattle.bp_changes.proofs.ContentStore.{root_stays}
use Rattle.bp_layout.specs.Directory.{empty_slot, entry_count, ino_at, slot_named}
use Rattle.bp_layout.specs.Paths.{Name}
use Rattle.bp_layout.specs.Inode.{kind_of, size_of, ContentStandsAt, root_of, inode_count}
use Rattle.bp_calls.specs.Spare.{IsSpare}
use Rattle.bp_calls.specs.Steps.{name_need, LacksName}
use Rattle.bp_read.specs.Written.{HasNameAt}
use Rattle.bp_read.specs.Within.{IsWithin}
use Rattle.bp_layout.specs.Reached.{IsReached}
use Rattle.bp_layout.proofs.Reached.{reached-in_file}
use Rattle.bp_layout.specs.Reached.IsReached.{inode_file}
use Rattle.bp_layout.specs.WellFormed.{IsWellFormed}
use Rattle.bp_layout.specs.Words.{Image, height_of}
use Rattle.pm_epochs.specs.Crash.{commit}
use Rattle.pm_epochs.specs.May.{AnyAt, EachMay}
use Rattle.pm_region.specs.Memory.{Memory, current_words, Adds}
use Rattle.pm_region.specs.Safe.{AddsMay}
use Rattle.pm_region.proofs.MayLaws.{each_after}
use Rattle.pm_region.proofs.MemoryLaws.{current_words-adds}
use Rattle.bp_calls.proofs.AfterLaws.{prepared_well_formed, prepared_same, kind_after, size_after, reached_after, slot_named_after}
use Rattle.bp_calls.proofs.Refusals.{found_empty}
use Rattle.bp_calls.proofs.ReadBack.{name_read}
use Rattle.bp_calls.proofs.Spares.{no_inode_file, row_stands, spare_entry}
use Rattle.bp_calls.proofs.Trees.{SameTrees, spare_trees, word_kept, stands_kept}

-- nobody reads the word, and it is in a live block that is not in the snapshot
abbrev pub IsHidden : (ℕ → Bool) → Image → ℕ → Type 0
IsHidden in_snapshot image p = IsSpare image p × IsOpen image in_snapshot [] p

-- stores to the words of an empty entry that spell its name
pub name_hidden : {in_snapshot : ℕ → Bool} (image : Image) → IsWellFormed image → (i s entry : ℕ) → IsReached image i → kind_of image i ≡ 2 → empty_slot image i ≡ Some s → ContentStandsAt image i (32 * s + 0) entry →
    in_snapshot (entry / 512) ≡ false → (p v : ℕ) → AnyAt (IsWithin (entry + 1) 31) p v → AnyAt (IsHidden in_snapshot image) p v
name_hidden {in_snapshot = in_snapshot} image wf i s entry reached directory found entry_at loose p v inside =
    let low : entry + 1 ≤ p = inside.low in
    let high : p < entry + 1 + 31 = inside.high in
    let f : ℕ = p - entry in
    let there : s < entry_count image i = (found_empty image i s found).0 in
    let stands : ContentStandsAt image i (32 * s + f) p = row_stands image i (32 * s + 0) f (32 * s + f) entry p (omega arith) (omega arith) (omega arith) entry_at in
    let block : entry / 512 ≡ p / 512 = omega (arith, low, high, entry_at.at) in
    (spare_entry image wf i s f p reached directory there (found_empty image i s found).1 (omega arith) (omega arith) stands, content_open image [] i (32 * s + f) p reached (omega (arith, there)) stands (subst (λ b. in_snapshot b ≡ false) block loose))

module _ {in_snapshot : ℕ → Bool} (first third last : Memory) (i s j entry more : ℕ) (name : Name) (lacks : LacksName (current_words first) i name)
    (found : empty_slot (current_words first) i ≡ Some s) (entry_at : ContentStandsAt (current_words first) i (32 * s + 0) entry) (loose : in_snapshot (entry / 512) ≡ false)
    (stored : AddsMay (AnyAt (IsHidden in_snapshot (current_words first))) 0 more first third) (named : HasNameAt (current_words third) entry name)
    (commits : Adds third last (commit entry j)) where
  abbrev image : Image
  image = current_words first

  abbrev mid : Image
  mid = current_words third

  in_size : s < entry_count image i
  in_size = (found_empty image i s found).0

  empty : ino_at image i s ≡ 0
  empty = (found_empty image i s found).1

  wf : IsWellFormed image
  wf = lacks.well_formed

  reached : IsReached image i
  reached = lacks.reached

  not_file : i ≢ 0
  not_file = no_inode_file image i 2 lacks.directory (omega arith)

  word_stands : (f : ℕ) → f < 32 → ContentStandsAt image i (32 * s + f) (entry + f)
  word_stands f few = row_stands image i (32 * s + 0) f (32 * s + f) entry (entry + f) (omega arith) refl (omega (arith, few)) entry_at

  trees_of : (other : Image) → EachMay (AnyAt (IsHidden in_snapshot image)) image other → SameTrees image other
  trees_of other all = spare_trees image other wf (each_weaker (IsHidden in_snapshot image) (IsSpare image) image other (λ p both. both.0) all)

  pub slot_trees : SameTrees image mid
  slot_trees = trees_of mid (each_after (AnyAt (IsHidden in_snapshot image)) 0 more first third stored)

  pub slot_mid : IsWellFormed mid
  slot_mid = prepared_well_formed image mid wf slot_trees.prepared

  mid_reached : IsReached mid i
  mid_reached = reached_after image mid wf slot_trees.prepared i reached

  pub slot_ready : IsReadyEntry mid i s name
  slot_ready = record {
    reached = mid_reached;
    directory = kind_after image mid wf slot_trees.prepared i reached ∙ lacks.directory;
    slot = rw (size_after image mid wf slot_trees.prepared i reached) in_size;
    empty = slot_trees.prepared.meaning.ino i s reached lacks.directory in_size ∙ empty;
    spelled = name_read mid (root_of mid i) s entry name lacks.form.short named
        (λ f some few. word_kept image mid slot_trees i (32 * s + f) (entry + f) reached (omega (arith, in_size, few)) (word_stands f few));
  }

  pub slot_missing : slot_named mid i name ≡ None
  slot_missing = slot_named_after image mid wf slot_trees.prepared i name reached lacks.directory ∙ lacks.missing

  pub slot_entry : ContentStandsAt mid i (32 * s + 0) entry
  slot_entry = stands_kept image mid slot_trees i (32 * s + 0) entry reached (omega (arith, in_size)) entry_at

  pub slot_committed : current_words last ≡ set mid entry j
  slot_committed = current_words-adds third last (commit entry j) commits

  pub slot_is : s ≡ unwrap_or (empty_slot image i) (entry_count image i)
  slot_is = sym (ap (λ o. unwrap_or o (entry_count image i)) found)

  -- ---- the cover

  abbrev after : Image
  after = set mid entry j

  below : 8 * (32 * s + 0) < size_of image i
  below = omega (arith, in_size)

  mid_below : 8 * (32 * s + 0) < size_of mid i
  mid_below = let stays : size_of mid i ≡ size_of image i = size_after image mid wf slot_trees.prepared i reached in omega (arith, below, stays)

  in_file : i < inode_count image
  in_file = reached-in_file image wf i reached

  mid_in_file : i < inode_count mid
  mid_in_file = reached-in_file mid slot_mid i mid_reached

  root_after : root_of after i ≡ root_of image i
  root_after = root_stays mid slot_mid i (32 * s + 0) entry j mid_reached not_file mid_below slot_entry i mid_in_file ∙ slot_trees.root i reached (omega (arith, below))

  top_after : root_of after 0 ≡ root_of image 0
  top_after = root_word_stays mid slot_mid i (32 * s + 0) entry j mid_reached mid_below slot_entry ∙ slot_trees.root 0 inode_file (omega (arith, in_file))

  -- what the commit makes is known, and that the directory is still reached
  module _ (change : Change) (Effect : Image → Image → Type 0) (few : more ≤ 39) (needs : need image change ≡ name_need image i) (covers : cover image change ≡ cover image (gains i linked)) (well_formed : IsWellFormed after) (still : IsReached after i) where
    covered_after : address after (cover image change) ≡ entry
    covered_after =
        ap (address after) (covers ∙ cover_in_slot image i wf reached lacks.directory s found ∙ ap₂ (λ h k. tree_path (height_of h) i (suc (height_of k)) (32 * s + 0)) (sym top_after) (sym root_after))
        ∙ content_address after well_formed i (32 * s + 0) entry still
        (stands_stored mid slot_mid i (32 * s + 0) entry j mid_reached mid_below slot_entry
        (root_stays mid slot_mid i (32 * s + 0) entry j mid_reached not_file mid_below slot_entry i mid_in_file))

    in_two : Effect image (current_words last) → PerformsWithin in_snapshot (name_need image i) 2 (more + 1) first last change Effect
    in_two effect =
        subst (λ n. PerformsWithin in_snapshot n 2 (more + 1) first last change Effect) needs
        (within_stores in_snapshot first last change Effect (AnyAt (IsHidden in_snapshot image)) more third entry j [] (λ other all. prepared_same image other wf (trees_of other all).prepared) stored commits tt tt tt
        (λ p v both. both.1) (sym (subst (λ w. address w (cover image change) ≡ entry) (sym slot_committed) covered_after)) (sym (needs ∙ need_in_slot image i wf reached lacks.directory s found))
        (content_open image [] i (32 * s + 0) entry reached (omega (arith, in_size)) entry_at loose) (subst IsWellFormed (sym slot_committed) well_formed) effect)

    pub slot_within : Effect image (current_words last) → PerformsWithin in_snapshot (name_need image i) 5 (stores_after_growth (name_need image i)) first last change Effect
    slot_within effect =
        within_more in_snapshot (name_need image i) 2 (more + 1) first last change Effect (in_two effect) 5 (stores_after_growth (name_need image i)) (omega arith) (enough (name_need image i))
      where
        enough : (needed : ℕ) → more + 1 ≤ stores_after_growth needed
        enough needed = omega (arith, few)
