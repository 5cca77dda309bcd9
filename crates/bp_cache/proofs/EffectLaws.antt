-- What each change of an image does to the names that a cache of directories knows.
use Rattle.std.proofs.Common.{◌≡◌, ◌≢◌, ◌⊎◌, ℕ, ◌<◌, sym, ◌∙◌, ap₂, subst, subst₂, inl, inr}
use Rattle.std.proofs.lemmas.Bool.{cases_eq}
use Rattle.bp_layout.specs.Directory.{EntryNames, entry_count, ino_at, name_at}
use Rattle.bp_layout.specs.Inode.{IsDirectory, root_of}
use Rattle.bp_layout.specs.Reached.{IsReached}
use Rattle.bp_layout.specs.Reached.IsReached.{inode_file, root_directory, named}
use Rattle.bp_layout.specs.WellFormed.{IsWellFormed}
use Rattle.bp_layout.specs.Words.{Image}
use Rattle.bp_layout.proofs.BesideTrees as beside
use Rattle.bp_layout.proofs.BesideTrees.{SameTrees}
use Rattle.bp_layout.proofs.HintLaws.{IsEntryFor, entry_of_slot, slot_of_entry}
use Rattle.bp_layout.proofs.View.{SameDirectories}
use Rattle.bp_changes.specs.Effects.{AddsNames, CanMoveEntry, CanUnlink, CarriesEntry, ChangesFile, IsAtOrBelow, LinksName, MovesEntry, RemovesEntry, RespellsEntry}
use Rattle.bp_changes.specs.KeepsEntries.{KeepsEntries, NoSlot, OneSlot, TwoSlots, WasEntry}
use Rattle.bp_changes.specs.KeepsSlots.{KeepsSlots, KeepsOther, KeepsOthers}
use Rattle.bp_changes.specs.SameMeaning.{SameMeaning}
use Rattle.bp_changes.proofs.AddsNames as adding
use Rattle.bp_changes.proofs.ChangesFile as file
use Rattle.bp_changes.proofs.EntriesLaws.{adds_keeps_entries, carries_keeps_entries, directories_keep_entries, keeps_more, links_keeps_entries, moves_keeps_entries, removes_keeps_entries, respells_keeps_entries}
use Rattle.bp_changes.proofs.LinksName as linking
use Rattle.bp_changes.proofs.Move as move
use Rattle.bp_changes.proofs.MoveReach.{carried_on, respelled_on}
use Rattle.bp_changes.proofs.Respell as respell
use Rattle.bp_changes.proofs.SameMeaning as meaning
use Rattle.bp_changes.proofs.SlotLaws.{adds_keeps, carries_keeps, links_keeps, moves_keeps, removes_keeps, respells_keeps}
use Rattle.bp_cache.specs.declared.index.Index.{Index}
use Rattle.bp_cache.proofs.ChangeLaws.{indexed_kept, keeps_same}
use Rattle.bp_cache.specs.Cache.{IsCacheOf, IsHeldOf, IsIndexIn}
use Rattle.bp_cache.specs.Changes.{KeepsAllNames, KeepsNamed, NameEnters, NameLeaves, NameMoves, NameReplaces, NameStands, WasNamed, name_in_directory}
use Rattle.bp_cache.specs.declared.cache.DirectoryCache.{DirectoryCache}
use Rattle.bp_cache.specs.declared.held.Held.{Held}
use Rattle.bp_cache.specs.declared.held.Held.TheVariants.{Indexed, Lost, Unindexed}
use Rattle.bp_cache.specs.declared.name_at.NameAt.{NameAt}

-- ---- a name and its slot

-- this is the name in slot s of directory i
pub record IsNameAt (image : Image) (i s : ℕ) (at : NameAt) : Type 0 where
  pub dir : at.dir ≡ i
  pub slot : at.slot ≡ s
  pub spelled : name_at image i s ≡ at.name.now

module _ (image : Image) (i s : ℕ) (at : NameAt) (is : IsNameAt image i s at) where
  name_is : name_in_directory at ≡ (i, name_at image i s)
  name_is = ap₂ (λ d n. (d, n)) is.dir (sym is.spelled)

  -- it stands there where the entry names an inode
  stands_at : (j : ℕ) → IsReached image i → EntryNames image i s j → NameStands image at
  stands_at j reached n = record {
    reached = subst (IsReached image) (sym is.dir) reached;
    directory = subst (λ d. IsDirectory image d) (sym is.dir) n.directory;
    in_size = subst₂ (λ d r. r < entry_count image d) (sym is.dir) (sym is.slot) n.in_size;
    named = record {
      live = λ none. n.not_empty (sym n.ino ∙ sym (ap₂ (λ d r. ino_at image d r) is.dir is.slot) ∙ none);
      spelled = ap₂ (λ d r. name_at image d r) is.dir is.slot ∙ is.spelled;
    };
  }

  empty_at : (new : Image) → ino_at new i s ≡ 0 → ino_at new at.dir at.slot ≡ 0
  empty_at new none = ap₂ (λ d r. ino_at new d r) is.dir is.slot ∙ none

  -- what a change keeps except for slot s of directory i and its name, it keeps except for these
  named_at : (old new : Image) → KeepsNamed old new (OneSlot i s) → KeepsNamed old new (OneSlot at.dir at.slot)
  named_at old new keeps = subst₂ (λ d r. KeepsNamed old new (OneSlot d r)) (sym is.dir) (sym is.slot) keeps

  other_at : (old new : Image) → KeepsOther old new (i, name_at image i s) → KeepsOther old new (name_in_directory at)
  other_at old new keeps = subst (KeepsOther old new) (sym name_is) keeps

-- the same of two names, each of an image of its own
module _ (old new first second : Image) (i s k r : ℕ) (from to : NameAt) (is : IsNameAt first i s from) (there : IsNameAt second k r to) where
  named_both : KeepsNamed old new (TwoSlots i s k r) → KeepsNamed old new (TwoSlots from.dir from.slot to.dir to.slot)
  named_both keeps =
      subst₂ (λ d e. KeepsNamed old new (TwoSlots d from.slot e to.slot)) (sym is.dir) (sym there.dir)
      (subst₂ (λ x y. KeepsNamed old new (TwoSlots i x k y)) (sym is.slot) (sym there.slot) keeps)

  others_both : KeepsOthers old new (i, name_at first i s) (k, name_at second k r) → KeepsOthers old new (name_in_directory from) (name_in_directory to)
  others_both keeps = subst₂ (λ a b. KeepsOthers old new a b) (sym (name_is first i s from is)) (sym (name_is second k r to there)) keeps

-- ---- entries that are the same keep their names

named_same : (old new : Image) (i slot : ℕ) → WasEntry old new i slot → WasNamed old new i slot
named_same old new i slot was = record {
  reached = was.reached;
  directory = was.directory;
  in_size = was.in_size;
  keeps = keeps_same old (root_of old i) new (root_of new i) slot was.same.ino (λ some. was.same.name (λ none. some (sym was.same.ino ∙ none)));
}

pub keeps_named : (old new : Image) (Touched : ℕ → ℕ → Type 0) → KeepsEntries old new Touched → KeepsNamed old new Touched
keeps_named old new Touched keeps i slot reached now low apart = named_same old new i slot (keeps i slot reached now low apart)

-- ---- a name comes

-- of an inode that had none
pub adds_enter : (old new : Image) → IsWellFormed old → (i s j : ℕ) → AddsNames old new i s j → (at : NameAt) → IsNameAt new i s at → NameEnters old new at
adds_enter old new wf i s j adds at is = record {
  entries = named_at new i s at is old new (keeps_named old new (OneSlot i s) (adds_keeps_entries old new wf i s j adds));
  stands = stands_at new i s at is j (adding.reached_stays old new wf i s j adds i adds.reached) adds.entry;
  slots = adds_keeps old new wf i s j adds;
}

-- and one more of a file
pub links_enter : (old new : Image) → IsWellFormed old → (i s j : ℕ) → LinksName old new i s j → (at : NameAt) → IsNameAt new i s at → NameEnters old new at
links_enter old new wf i s j links at is = record {
  entries = named_at new i s at is old new (keeps_named old new (OneSlot i s) (links_keeps_entries old new wf i s j links));
  stands = stands_at new i s at is j (linking.reached_stays old new wf i s j links i links.reached) links.entry;
  slots = links_keeps old new wf i s j links;
}

-- ---- a name goes

pub removes_leave : (old new : Image) → IsWellFormed old → (i s j : ℕ) → CanUnlink old i s j → RemovesEntry old new i s → (at : NameAt) →
    IsNameAt old i s at → NameLeaves old new at
removes_leave old new wf i s j can removes at is = record {
  entries = named_at old i s at is old new (keeps_named old new (OneSlot i s) (removes_keeps_entries old new wf i s j can removes));
  stood = stands_at old i s at is j can.reached can.entry;
  empty = empty_at old i s at is new removes.ino;
  slots = other_at old i s at is old new (removes_keeps old new wf i s j can removes);
}

-- ---- a name goes, and another stays or comes

-- Onto an entry that names an inode: it has its name still, and names the inode that moves. Only the other one is touched.
module _ (old new : Image) (wf : IsWellFormed old) (i s k r j : ℕ) (can : CanMoveEntry old i s k r j) (moves : MovesEntry old new i s k r j)
    (some : ino_at old k r ≢ 0) where
  target_named : WasNamed old new k r
  target_named = record {
    reached = can.target;
    directory = can.directory;
    in_size = can.in_size;
    keeps = record {
      live = λ _. some;
      empty = λ none. absurd (can.entry.not_empty (sym moves.entered ∙ none));
      name = λ _. move.name_of_target old new wf i s k r j can moves;
    };
  }

  source_touched : KeepsNamed old new (OneSlot i s)
  source_touched u x reached now low apart = go (cases_eq u k) (cases_eq x r)
    where
      neither : ((u ≡ k) → (x ≡ r) → ⊥) → TwoSlots i s k r u x → ⊥
      neither other (inl here) = apart here
      neither other (inr there) = other there.0 there.1

      beside_target : ((u ≡ k) → (x ≡ r) → ⊥) → WasNamed old new u x
      beside_target other = named_same old new u x (moves_keeps_entries old new wf i s k r j can moves u x reached now low (neither other))

      go : (u ≡ k) ⊎ (u ≡ k → ⊥) → (x ≡ r) ⊎ (x ≡ r → ⊥) → WasNamed old new u x
      go (inl e) (inl f) = subst₂ (λ d y. WasNamed old new d y) (sym e) (sym f) target_named
      go (inl e) (inr f) = beside_target (λ a b. f b)
      go (inr e) f = beside_target (λ a b. e a)

  pub moves_replace : (IsAtOrBelow old j k → ⊥) → (from to : NameAt) → IsNameAt old i s from → IsNameAt old k r to → NameReplaces old new from to
  moves_replace outside from to is there = record {
    entries = named_at old i s from is old new source_touched;
    stood = stands_at old i s from is j can.reached can.entry;
    empty = empty_at old i s from is new moves.emptied;
    slots = others_both old new old old i s k r from to is there (moves_keeps old new wf i s k r j can moves outside);
  }

-- the same entry under another name
pub respells_move : (old new : Image) → IsWellFormed old → (i s j : ℕ) → RespellsEntry old new i s j → (from to : NameAt) →
    IsNameAt old i s from → IsNameAt new i s to → NameMoves old new from to
respells_move old new wf i s j spells from to is there = record {
  entries = named_both old new old new i s i s from to is there (keeps_named old new (TwoSlots i s i s)
      (keeps_more old new (OneSlot i s) (TwoSlots i s i s) (respells_keeps_entries old new wf i s j spells) (λ u x here. inl here)));
  stood = stands_at old i s from is j spells.reached spells.names;
  stands = stands_at new i s to there j (respelled_on old new wf i s j spells i spells.reached)
      (respell.names_stay old new wf i s j spells i s j spells.reached spells.names);
  here = λ _. is.slot ∙ sym there.slot;
  empty = λ apart. absurd (apart (is.dir ∙ sym there.dir));
  slots = others_both old new old new i s i s from to is there (λ name slot other also of. respells_keeps old new wf i s j spells name slot other of);
}

-- an entry of another directory
pub carries_move : (old new : Image) → IsWellFormed old → (i s k r j : ℕ) → CarriesEntry old new i s k r j → (IsAtOrBelow old j k → ⊥) → i ≢ k →
    (from to : NameAt) → IsNameAt old i s from → IsNameAt new k r to → NameMoves old new from to
carries_move old new wf i s k r j carries outside apart from to is there = record {
  entries = named_both old new old new i s k r from to is there
      (keeps_named old new (TwoSlots i s k r) (carries_keeps_entries old new wf i s k r j carries));
  stood = stands_at old i s from is j carries.reached carries.names;
  stands = stands_at new k r to there j (carried_on old new i s k r j carries outside k carries.target) carries.entry;
  here = λ same. absurd (apart (sym is.dir ∙ same ∙ there.dir));
  empty = λ _. empty_at old i s from is new carries.emptied;
  slots = others_both old new old new i s k r from to is there
      (λ name slot other also of. carries_keeps old new wf i s k r j carries outside name slot other of);
}

-- ---- no name comes or goes

module _ (old new : Image) (same : SameDirectories old new) where
  names_on : (i s j : ℕ) → IsReached old i → EntryNames old i s j → EntryNames new i s j
  names_on i s j reached n = record {
    directory = same.kind i reached ∙ n.directory;
    in_size = subst (λ z. s < z) (sym (same.count i reached n.directory)) n.in_size;
    ino = same.ino i s reached n.directory n.in_size ∙ n.ino;
    not_empty = n.not_empty;
  }

  reached_on : (t : ℕ) → IsReached old t → IsReached new t
  reached_on _ inode_file = inode_file
  reached_on _ root_directory = root_directory
  reached_on _ (named {i} {j} slot r n) = named slot (reached_on i r) (names_on i slot j r n)

  pub directories_keep_all : IsWellFormed new → KeepsAllNames old new
  directories_keep_all wf = record { entries = keeps_named old new NoSlot (directories_keep_entries old new same); slots = stays }
    where
      stays : KeepsSlots old new
      stays name slot of =
          let was : IsEntryFor old name slot = entry_of_slot old name slot of in
          let j : ℕ = ino_at old name.0 slot in
          slot_of_entry new name.0 slot j name.1 wf (reached_on name.0 of.reached) (names_on name.0 slot j of.reached was.entry)
          (same.name name.0 slot j of.reached was.entry ∙ was.spelled)

-- where the bytes of a file change
pub file_keeps_all : (old new : Image) → IsWellFormed old → (x : ℕ) → ChangesFile old new x → KeepsAllNames old new
file_keeps_all old new wf x changes = directories_keep_all old new (file.directories-same old new x wf changes) (file.well_formed-same old new x wf changes)

-- where the image means the same
pub meaning_keeps_all : (old new : Image) → IsWellFormed old → SameMeaning old new → KeepsAllNames old new
meaning_keeps_all old new wf same = directories_keep_all old new (meaning.view-same old new wf same).directories (meaning.well_formed-same old new wf same)

-- and where words of the superblock change in which no tree stands
pub same_trees_keep_all : (old new : Image) (same : SameTrees old new) → IsWellFormed new → KeepsAllNames old new
same_trees_keep_all old new same = directories_keep_all old new (beside.directories-same old new same)

-- ---- a cache

-- what was remembered of the first image is right of the second, where no name comes or goes
pub cache_kept : (old new : Image) (cache : DirectoryCache) → KeepsAllNames old new → IsCacheOf old cache → IsCacheOf new cache
cache_kept old new cache keeps right = record {
  names = λ name slot is. keeps.slots name slot (right.names name slot is);
  directories = λ i held holds. stays i held (right.directories i held holds);
}
  where
    index_stays : (i : ℕ) (index : Index) → IsIndexIn old i index → IsIndexIn new i index
    index_stays i index before reached directory = record {
      each = λ slot low.
          let was : WasNamed old new i slot = keeps.entries i slot reached directory low (λ never. never) in
          indexed_kept old (root_of old i) new (root_of new i) slot index was.keeps ((before was.reached was.directory).each slot was.in_size);
    }

    stays : (i : ℕ) (held : Held) → IsHeldOf old i held → IsHeldOf new i held
    stays i Lost _ = tt
    stays i (Indexed index) before = index_stays i index before
    stays i Unindexed _ = tt
