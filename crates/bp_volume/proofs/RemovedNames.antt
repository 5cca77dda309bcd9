-- What a removal and a rename do to the names that the cache of a volume knows.
use Rattle.std.proofs.Common.{◌≡◌, ℕ, refl, sym, ◌∙◌, ap, ap₂, subst, Option, None, Some}
use Rattle.std.specs.Prelude.{unwrap_or}
use Rattle.std.specs.Option.{option_map}
use Rattle.bp_cache.specs.Changes.{NameLeaves}
use Rattle.bp_cache.specs.declared.name_at.NameAt.{NameAt}
use Rattle.bp_cache.proofs.EffectLaws.{IsNameAt, carries_move, moves_replace, removes_leave, respells_move}
use Rattle.bp_calls.proofs.AfterLaws.{directories_over, empty_slot_over, slot_named_over}
use Rattle.bp_calls.proofs.LeavingThawed.{leaving_on}
use Rattle.bp_changes.specs.Effects.{CanUnlink, RemovesEntry}
use Rattle.bp_changes.specs.SameMeaning.{SameMeaning}
use Rattle.bp_changes.specs.Thawed.{AfterThaw}
use Rattle.bp_changes.proofs.SameMeaning.{well_formed-same}
use Rattle.bp_layout.specs.Directory.{ino_at, name_at, slot_named}
use Rattle.bp_layout.specs.Paths.{Name}
use Rattle.bp_layout.specs.Inode.{IsDirectory}
use Rattle.bp_layout.specs.Reached.{IsReached}
use Rattle.bp_layout.specs.WellFormed.{IsWellFormed}
use Rattle.bp_layout.specs.Words.{Image}
use Rattle.bp_layout.proofs.HintLaws.{IsEntryFor, entry_of_slot}
use Rattle.bp_path.specs.declared.steps.FoundEntry.{FoundEntry}
use Rattle.bp_rename.specs.CanRename.{CanRename, moved_inode}
use Rattle.bp_rename.specs.RenamesEntry.{RenamesEntry, new_slot}
use Rattle.bp_rename.specs.RenamesEntry.RenamesEntry.{onto, within, across}
use Rattle.bp_rename.specs.declared.moves.Move.{Move}
use Rattle.bp_rename.proofs.OntoLaws.{onto_can, spelled}
use Rattle.bp_volume.specs.Renaming.{IsMoveOf, IsNewName, MovesName}
use Rattle.bp_volume.specs.declared.rename.Ends.{Ends}
use Rattle.bp_volume.specs.declared.lookup.NamedEntry.{NamedEntry}
use Rattle.bp_volume.proofs.ThawedLaws.{rename_on}

-- this is the name by which the entry was found, in its slot
pub record IsNameOf (entry : NamedEntry) (at : NameAt) : Type 0 where
  pub dir : at.dir ≡ entry.dir
  pub name : at.name.now ≡ entry.name.now
  pub slot : at.slot ≡ entry.slot

-- the entry in the slot that a name has in its directory is spelled so
slot_spelled : (image : Image) (i s : ℕ) (name : Name) → IsReached image i → IsDirectory image i → slot_named image i name ≡ Some s → name_at image i s ≡ name
slot_spelled image i s name reached directory named =
    let was : IsEntryFor image (i, name) s = entry_of_slot image (i, name) s (record { reached = reached; directory = directory; named = named }) in
    was.spelled

found_at : (image : Image) (entry : NamedEntry) (at : NameAt) → IsNameOf entry at → IsReached image entry.dir → IsDirectory image entry.dir → slot_named image entry.dir entry.name.now ≡ Some entry.slot →
    IsNameAt image entry.dir entry.slot at
found_at image entry at is reached directory named = record {
  dir = is.dir;
  slot = is.slot;
  spelled = slot_spelled image entry.dir entry.slot entry.name.now reached directory named ∙ sym is.name;
}

-- ---- a name goes

pub name_leaves : (old new : Image) → IsWellFormed old → (entry : NamedEntry) (at : NameAt) → IsNameOf entry at → CanUnlink old entry.dir entry.slot (ino_at old entry.dir entry.slot) →
    slot_named old entry.dir entry.name.now ≡ Some entry.slot → (after : AfterThaw (λ image later. RemovesEntry image later entry.dir entry.slot) old new) → NameLeaves after.middle new at
name_leaves old new wf entry at is can named after =
    let same : SameMeaning old after.middle = after.thawed.meaning in
    let may : CanUnlink after.middle entry.dir entry.slot (ino_at after.middle entry.dir entry.slot) = leaving_on old after.middle wf same entry.dir entry.slot can in
    removes_leave after.middle new (well_formed-same old after.middle wf same) entry.dir entry.slot (ino_at after.middle entry.dir entry.slot) may after.effect at
    (found_at after.middle entry at is may.reached may.entry.directory (slot_named_over old after.middle wf same entry.dir entry.name.now can.reached can.entry.directory ∙ named))

-- ---- a name moves

module _ (old new : Image) (ends : Ends) (named : slot_named old ends.source.dir ends.source.name.now ≡ Some ends.source.slot) (move : Move) (is : IsMoveOf ends move) (can : CanRename old move)
    (from : NameAt) (source : IsNameOf ends.source from) (to : NameAt) (target : IsNewName old ends to) where
  reached : IsReached old ends.source.dir
  reached = subst (IsReached old) is.from_dir can.source

  directory : IsDirectory old ends.source.dir
  directory = subst (λ d. IsDirectory old d) is.from_dir can.entry.directory

  stood : IsNameAt old move.from_dir move.from_slot from
  stood =
      subst (λ d. IsNameAt old d move.from_slot from) (sym is.from_dir)
      (subst (λ s. IsNameAt old ends.source.dir s from) (sym is.from_slot) (found_at old ends.source from source reached directory named))

  dir : to.dir ≡ move.to_dir
  dir = target.dir ∙ sym is.to_dir

  name : move.name.now ≡ to.name.now
  name = is.name ∙ sym target.name

  slots : (there : Option FoundEntry) → ends.target.there ≡ there → move.to_slot ≡ option_map (λ entry. entry.slot) there
  slots there at = is.to_slot ∙ ap (option_map (λ (entry : FoundEntry). entry.slot)) at

  moves_by : (there : Option FoundEntry) → ends.target.there ≡ there → RenamesEntry move old new → MovesName old new from to there
  moves_by (Some entry) at (onto r has moves) =
      let both : ◌≡◌ {A = Option ℕ} (Some entry.slot) (Some r) = sym (slots (Some entry) at) ∙ has in
      let same : entry.slot ≡ r = cc in
      let there : IsEntryFor old (move.to_dir, move.name.now) r = entry_of_slot old (move.to_dir, move.name.now) r (record { reached = can.target; directory = can.directory; named = can.slot ∙ has }) in
      moves_replace old new can.well_formed move.from_dir move.from_slot move.to_dir r (moved_inode old move) (onto_can old move r can has) moves there.entry.not_empty can.outside
      from to stood (record { dir = dir; slot = target.there entry at ∙ same; spelled = spelled old move r can has ∙ name })
  moves_by None at (onto r has moves) = let clash : ◌≡◌ {A = Option ℕ} None (Some r) = sym (slots None at) ∙ has in absurd (cc)
  moves_by (Some entry) at (within none same spells now) = let clash : ◌≡◌ {A = Option ℕ} None (Some entry.slot) = sym none ∙ slots (Some entry) at in absurd (cc)
  moves_by None at (within none same spells now) =
      respells_move old new can.well_formed move.from_dir move.from_slot (moved_inode old move) spells
      from to stood (record {
        dir = dir ∙ sym same;
        slot = target.within at (sym is.to_dir ∙ sym same ∙ is.from_dir) ∙ sym is.from_slot;
        spelled = now ∙ name;
      })
  moves_by (Some entry) at (across none other carries now) = let clash : ◌≡◌ {A = Option ℕ} None (Some entry.slot) = sym none ∙ slots (Some entry) at in absurd (cc)
  moves_by None at (across none other carries now) =
      carries_move old new can.well_formed move.from_dir move.from_slot move.to_dir (new_slot old move.to_dir) (moved_inode old move) carries can.outside other
      from to stood (record {
        dir = dir;
        slot = target.across at (λ e. other (is.from_dir ∙ sym e ∙ sym is.to_dir)) ∙ ap (new_slot old) (sym is.to_dir);
        spelled = now ∙ name;
      })

  name_moves : RenamesEntry move old new → MovesName old new from to ends.target.there
  name_moves = moves_by ends.target.there refl

-- so after a thaw
module _ (old new : Image) (ends : Ends) (named : slot_named old ends.source.dir ends.source.name.now ≡ Some ends.source.slot) (move : Move) (is : IsMoveOf ends move) (can : CanRename old move)
    (from : NameAt) (source : IsNameOf ends.source from) (to : NameAt) (target : IsNewName old ends to) (after : AfterThaw (RenamesEntry move) old new) where
  abbrev same : SameMeaning old after.middle
  same = after.thawed.meaning

  named_thawed : slot_named after.middle ends.source.dir ends.source.name.now ≡ Some ends.source.slot
  named_thawed =
      slot_named_over old after.middle can.well_formed same ends.source.dir ends.source.name.now (subst (IsReached old) is.from_dir can.source) (subst (λ d. IsDirectory old d) is.from_dir can.entry.directory) ∙ named

  -- a directory that the name comes to gives it the slot that it would have given it before
  slot_thawed : new_slot after.middle ends.target.dir ≡ new_slot old ends.target.dir
  slot_thawed =
      let reached : IsReached old ends.target.dir = subst (IsReached old) is.to_dir can.target in
      let directory : IsDirectory old ends.target.dir = subst (λ d. IsDirectory old d) is.to_dir can.directory in
      ap₂ unwrap_or (empty_slot_over old after.middle can.well_formed same ends.target.dir reached directory) ((directories_over old after.middle can.well_formed same).count ends.target.dir reached directory)

  target_thawed : IsNewName after.middle ends to
  target_thawed = record {
    dir = target.dir;
    name = target.name;
    there = target.there;
    within = target.within;
    across = λ none apart. target.across none apart ∙ sym slot_thawed;
  }

  pub name_moves_thawed : MovesName after.middle new from to ends.target.there
  name_moves_thawed =
      name_moves after.middle new ends named_thawed move is (rename_on old after.middle can.well_formed same move can) from source to target_thawed after.effect
