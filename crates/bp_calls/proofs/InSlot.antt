-- A new inode, a name in an empty entry, and then the inode number.
use Rattle.std.proofs.Common.{◌≡◌, ◌≢◌, ℕ, Bool, false, ◌+◌, ◌-◌, ◌*◌, ◌/◌, ◌%◌, ◌<◌, ◌≤◌, List, [], None, Some, set, refl, sym, ◌∙◌, ap, subst, arith}
use Rattle.bp_limits.specs.Limits.{inode_fields}
use Rattle.bp_limits.proofs.Versions.{fields_most}
use Rattle.bp_layout.specs.Formatted.{version_of}
use Rattle.bp_calls.specs.Entered.{IsNewInode, IsReadyEntry}
use Rattle.bp_calls.specs.Created.{CountsName, EntersName}
use Rattle.bp_layout.specs.Need.Change.{enters as gains}
use Rattle.bp_layout.specs.Need.Entrant.{taken}
use Rattle.bp_changes.proofs.AddsNames.{reached_stays}
use Rattle.bp_changes.specs.Performs.{IsOpen, PerformsWithin}
use Rattle.bp_calls.specs.Growth.{stores_after_growth}
use Rattle.bp_layout.specs.Free.{IsFreeInode}
use Rattle.bp_calls.proofs.OpenPlaces.{content_open}
use Rattle.bp_calls.proofs.EnteredOver.{adds_over, enters_well_formed, enters_over}
use Rattle.bp_layout.specs.Directory.{empty_slot, entry_count, slot_named}
use Rattle.bp_layout.specs.Paths.{Name}
use Rattle.bp_layout.specs.Inode.{ContentStandsAt, root_of, inode_count}
use Rattle.bp_changes.specs.Sets.{AreExact}
use Rattle.bp_calls.specs.Spare.{IsSpare}
use Rattle.bp_calls.specs.Steps.{CanName, HasLooseWord, name_need}
use Rattle.bp_read.specs.Written.{HasNameAt}
use Rattle.bp_read.specs.Filled.{FillsInode}
use Rattle.bp_read.specs.Within.{IsWithin}
use Rattle.bp_free.specs.Set.{Set, without}
use Rattle.bp_layout.specs.Fields.{kind_word}
use Rattle.bp_layout.specs.Reached.{IsReached}
use Rattle.bp_layout.specs.Reached.IsReached.{inode_file}
use Rattle.bp_layout.specs.Tree.{node}
use Rattle.bp_layout.specs.WellFormed.{IsWellFormed}
use Rattle.bp_layout.specs.Words.{Image, height_of}
use Rattle.bp_layout.specs.declared.fields.Kind.{Kind}
use Rattle.pm_epochs.specs.Crash.{commit}
use Rattle.pm_epochs.specs.May.{AnyAt}
use Rattle.pm_region.specs.Memory.{Memory, current_words, Adds}
use Rattle.pm_region.specs.Safe.{AddsMay}
use Rattle.pm_region.proofs.MayLaws.{may_twice, may_weaker}
use Rattle.bp_calls.proofs.EnteredLaws.{Enters, entered}
use Rattle.bp_calls.proofs.Refusals.{found_empty}
use Rattle.bp_calls.proofs.ReadBack.{inode_stays, new_inode}
use Rattle.bp_calls.proofs.SetLaws.{exact_prepared, exact_entered}
use Rattle.bp_calls.proofs.Spares.{no_inode_file, row_stands, one_content, spare_inode}
use Rattle.bp_calls.proofs.Trees.{SameTrees}
use Rattle.bp_changes.proofs.Named.{added_counts}
use Rattle.bp_calls.proofs.SlotStores.{IsHidden, name_hidden, slot_committed, slot_entry, slot_is, slot_mid, slot_missing, slot_ready, slot_trees, slot_within}

-- the row of an inode's words
pub inode_row : (image : Image) (j at : ℕ) → ContentStandsAt image 0 (8 * j) at → ContentStandsAt image 0 (8 * j + 0) at
inode_row image j at stands = let same : 8 * j ≡ 8 * j + 0 = omega arith in subst (λ k. ContentStandsAt image 0 k at) same stands

-- stores to an inode that nobody reaches
pub inode_spare : (image : Image) → IsWellFormed image → (j at : ℕ) → IsFreeInode image j → ContentStandsAt image 0 (8 * j + 0) at → (p v : ℕ) → AnyAt (IsWithin at (inode_fields (version_of image))) p v → AnyAt (IsSpare image) p v
inode_spare image wf j at free stands p v inside =
    let low : at ≤ p = inside.low in
    let fields = fields_most (version_of image) in
    let high : p < at + 8 = omega (arith, inside.high, fields) in
    let f : ℕ = p - at in
    spare_inode image wf j f p free (omega arith) (row_stands image 0 (8 * j + 0) f (8 * j + f) at p (omega arith) (omega arith) (omega arith) stands)

-- where the file has its words: nobody reads them, and they are in a live block that is not in the snapshot
pub inode_inside : {in_snapshot : ℕ → Bool} (image : Image) → IsWellFormed image → (j at : ℕ) (took : List ℕ) → IsFreeInode image j → ContentStandsAt image 0 (8 * j + 0) at → in_snapshot (at / 512) ≡ false → (p v : ℕ) → AnyAt (IsWithin at (inode_fields (version_of image))) p v →
    AnyAt (λ q. IsSpare image q × IsOpen image in_snapshot took q) p v
inode_inside {in_snapshot = in_snapshot} image wf j at took free stands loose p v inside =
    let low : at ≤ p = inside.low in
    let fields = fields_most (version_of image) in
    let high : p < at + 8 = omega (arith, inside.high, fields) in
    let f : ℕ = p - at in
    let block : at / 512 ≡ p / 512 = omega (arith, low, high, stands.at) in
    let in_file : j < inode_count image = free.high in (
      inode_spare image wf j at free stands p v inside,
      content_open image took 0 (8 * j + f) p inode_file (omega (arith, in_file)) (row_stands image 0 (8 * j + 0) f (8 * j + f) at p (omega arith) (omega arith) (omega arith) stands)
          (subst (λ b. in_snapshot b ≡ false) block loose),
    )

-- an entry of a tree that was read from an inode
pub entry_stands : (image : Image) (i s entry root : ℕ) → root ≡ root_of image i → entry ≡ 512 * node image root (height_of root) ((32 * s + 0) / 512) + (32 * s + 0) % 512 →
    node image root (height_of root) ((32 * s + 0) / 512) ≢ 0 → ContentStandsAt image i (32 * s + 0) entry
entry_stands image i s entry root same at present =
    let leaf : node image root (height_of root) ((32 * s + 0) / 512) ≡ node image (root_of image i) (height_of (root_of image i)) ((32 * s + 0) / 512) = ap (λ r. node image r (height_of r) ((32 * s + 0) / 512)) same in
    record { present = λ null. present (leaf ∙ null); at = ap (λ b. 512 * b + (32 * s + 0) % 512) (sym leaf) ∙ sym at }

module _ (in_snapshot : ℕ → Bool) (first second third last : Memory) (i s j entry : ℕ) (name : Name) (kind : Kind) (can : CanName (current_words first) i j name)
    (found : empty_slot (current_words first) i ≡ Some s) (entry_at : ContentStandsAt (current_words first) i (32 * s + 0) entry) (loose_entry : HasLooseWord (current_words first) in_snapshot i (32 * s + 0)) (loose_inode : HasLooseWord (current_words first) in_snapshot 0 (8 * j + 0)) (filled : FillsInode first second j (kind_word kind))
    (spells : AddsMay (AnyAt (IsWithin (entry + 1) 31)) 0 31 second third) (named : HasNameAt (current_words third) entry name)
    (commits : Adds third last (commit entry j)) where
  abbrev image : Image
  image = current_words first

  abbrev mid : Image
  mid = current_words third

  abbrev at : ℕ
  at = filled.place

  inode_at : ContentStandsAt image 0 (8 * j + 0) at
  inode_at = inode_row image j at filled.stands

  loose : in_snapshot (entry / 512) ≡ false
  loose = loose_entry entry entry_at

  in_size : s < entry_count image i
  in_size = (found_empty image i s found).0

  wf : IsWellFormed image
  wf = can.lacks.well_formed

  reached : IsReached image i
  reached = can.lacks.reached

  abbrev fields : ℕ
  fields = inode_fields (version_of image)

  all_hidden : AddsMay (AnyAt (IsHidden in_snapshot image)) 0 (fields + 31) first third
  all_hidden = may_twice (AnyAt (IsHidden in_snapshot image)) 0 fields first 0 31 second third
      (may_weaker (AnyAt (IsWithin at fields)) (AnyAt (IsHidden in_snapshot image)) 0 fields first second (inode_inside image wf j at [] can.free inode_at (loose_inode at inode_at)) filled.stores)
      (may_weaker (AnyAt (IsWithin (entry + 1) 31)) (AnyAt (IsHidden in_snapshot image)) 0 31 second third (name_hidden image wf i s entry reached can.lacks.directory found entry_at loose) spells)

  trees : SameTrees image mid
  trees = slot_trees first third last i s j entry (fields + 31) name can.lacks found entry_at loose all_hidden named commits

  mid_well_formed : IsWellFormed mid
  mid_well_formed = slot_mid first third last i s j entry (fields + 31) name can.lacks found entry_at loose all_hidden named commits

  ready : IsReadyEntry mid i s name
  ready = slot_ready first third last i s j entry (fields + 31) name can.lacks found entry_at loose all_hidden named commits

  missing : slot_named mid i name ≡ None
  missing = slot_missing first third last i s j entry (fields + 31) name can.lacks found entry_at loose all_hidden named commits

  mid_entry : ContentStandsAt mid i (32 * s + 0) entry
  mid_entry = slot_entry first third last i s j entry (fields + 31) name can.lacks found entry_at loose all_hidden named commits

  committed : current_words last ≡ set mid entry j
  committed = slot_committed first third last i s j entry (fields + 31) name can.lacks found entry_at loose all_hidden named commits

  -- no word of the inode is one of the entry
  apart : (p : ℕ) → at ≤ p → p < at + 8 → IsWithin (entry + 1) 31 p → ⊥
  apart p above below inside =
      let low : entry + 1 ≤ p = inside.low in
      let high : p < entry + 1 + 31 = inside.high in
      let f : ℕ = p - at in
      let g : ℕ = p - entry in
      let in_file : j < inode_count image = can.free.high in
      let same = one_content image wf i (32 * s + g) 0 (8 * j + f) p reached inode_file (omega (arith, in_size)) (omega (arith, in_file))
      (row_stands image i (32 * s + 0) g (32 * s + g) entry p (omega arith) (omega arith) (omega arith) entry_at)
      (row_stands image 0 (8 * j + 0) f (8 * j + f) at p (omega arith) (omega arith) (omega arith) inode_at) in
      no_inode_file image i 2 can.lacks.directory (omega arith) same.0

  fresh : IsNewInode mid j (kind_word kind)
  fresh = new_inode image mid wf trees j at kind can.free inode_at (inode_stays (version_of image) second third at (entry + 1) 31 31 (kind_word kind) spells apart filled.inode)

  enters : Enters mid (set mid entry j) i s j name (kind_word kind)
  enters = entered mid mid_well_formed i s j entry name ready can.lacks.form missing mid_entry (kind_word kind) fresh

  effect : EntersName i name kind image (current_words last)
  effect =
      subst (λ w. EntersName i name kind image w) (sym committed)
      (enters_over image mid (set mid entry j) wf trees.prepared.meaning i s j name kind can.free (slot_is first third last i s j entry (fields + 31) name can.lacks found entry_at loose all_hidden named commits) enters)

  few : fields + 31 ≤ 39
  few = let most = fields_most (version_of image) in omega (arith, most)

  pub slot_performs : PerformsWithin in_snapshot (name_need image i) 5 (stores_after_growth (name_need image i)) first last (gains i (taken j)) (EntersName i name kind)
  slot_performs =
      slot_within first third last i s j entry (fields + 31) name can.lacks found entry_at loose all_hidden named commits (gains i (taken j)) (EntersName i name kind) few refl refl
      (enters_well_formed mid (set mid entry j) mid_well_formed i s j (kind_word kind) name enters) (reached_stays mid (set mid entry j) mid_well_formed i s j enters.adds i ready.reached) effect

  pub slot_exact : (held : ℕ → Bool) (blocks inodes : Set) → AreExact image held blocks inodes → AreExact (current_words last) held blocks (without inodes j)
  slot_exact held blocks inodes exact =
      subst (λ w. AreExact w held blocks (without inodes j)) (sym committed)
      (exact_entered mid mid_well_formed i s j entry name ready can.lacks.form missing mid_entry blocks inodes (exact_prepared image mid wf trees.prepared blocks inodes exact) (kind_word kind) fresh)

  pub slot_counts : CountsName image (current_words last) j
  slot_counts = subst (λ w. CountsName image w j) (sym committed)
      (λ counts are. added_counts image (set mid entry j) wf i s j (adds_over image mid (set mid entry j) wf trees.prepared.meaning i s j enters.adds) counts are)
