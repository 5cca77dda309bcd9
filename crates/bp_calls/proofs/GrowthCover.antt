-- The cover and the need of a new name with a growth of the inode file: those of the name on the longer file, and the growth.
use Rattle.std.proofs.Common.{◌≡◌, ℕ, suc, ◌+◌, ◌*◌, List, length, flat_map, Option, None, Some, refl, sym, ◌∙◌, ap, ap₂, suc-ne-zero, arith}
use Rattle.std.proofs.lemmas.List.{append-nil, length-map}
use Rattle.bp_layout.specs.Words.{Image, height_of}
use Rattle.bp_layout.specs.Tree.{node}
use Rattle.bp_layout.specs.Inode.{kind_of, root_of, size_of}
use Rattle.bp_layout.specs.Directory.{empty_slot}
use Rattle.bp_layout.specs.Need.{new_entry, prepared_for, cover, need, prep_count}
use Rattle.bp_layout.specs.Need.Change.{enters}
use Rattle.bp_layout.specs.Need.Entrant.{grown, linked}
use Rattle.bp_layout.specs.Nodes.{height_with, nodes_for}
use Rattle.bp_layout.specs.Reached.{IsReached}
use Rattle.bp_layout.specs.WellFormed.{IsWellFormed}
use Rattle.bp_layout.specs.WordPaths.{inode_path, tree_path}
use Rattle.bp_limits.specs.Limits.{block_size, entry_size}
use Rattle.bp_calls.specs.Growth.{AddsInodes, growth_need}
use Rattle.bp_calls.proofs.GrowthLaws.{longer_empty_slot, longer_kind, longer_node, longer_reached, longer_size, longer_well_formed}
use Rattle.bp_calls.proofs.GrowthNodes.{nodes_same}
use Rattle.bp_calls.proofs.GrowthNeed.{growing_copies, growing_size, growing_slot}
use Rattle.bp_calls.proofs.NeedLaws.{cover_past_end, cover_in_slot, none_copied}

module _ (old new : Image) (taken : List ℕ) (wf : IsWellFormed old) (adds : AddsInodes old new taken) (n : ℕ) (reached : IsReached old (suc n)) (kind : kind_of old (suc n) ≡ 2) where
  abbrev i : ℕ
  i = suc n

  wf_new : IsWellFormed new
  wf_new = longer_well_formed old new taken wf adds

  reached_new : IsReached new i
  reached_new = longer_reached old new taken wf adds i reached

  kind_new : kind_of new i ≡ 2
  kind_new = longer_kind old new taken wf adds i reached kind

  root_same : root_of new i ≡ root_of old i
  root_same = adds.roots i reached (suc-ne-zero n)

  size_same : size_of new i ≡ size_of old i
  size_same = longer_size old new taken wf adds i reached (suc-ne-zero n)

  slot_same : empty_slot new i ≡ empty_slot old i
  slot_same = longer_empty_slot old new taken wf adds i reached kind

  -- ---- the cover

  high : height_of (root_of new 0) ≡ height_with (root_of old 0) (size_of old 0) (size_of old 0 + block_size)
  high = adds.height ∙ ap (height_with (root_of old 0) (size_of old 0)) adds.size

  slot_cover : (s : ℕ) → empty_slot old i ≡ Some s → cover old (enters i grown) ≡ cover new (enters i linked)
  slot_cover s found =
      growing_slot old wf n reached kind s found
      ∙ ap₂ (λ h r. tree_path h i (suc (height_of r)) (32 * s + 0)) (sym high) (sym root_same)
      ∙ sym (cover_in_slot new i wf_new reached_new kind_new s (slot_same ∙ found))

  size_cover : empty_slot old i ≡ None → cover old (enters i grown) ≡ cover new (enters i linked)
  size_cover none = growing_size old wf n reached kind none ∙ ap (λ h. inode_path h i 2) (sym high) ∙ sym (cover_past_end new i wf_new reached_new kind_new (slot_same ∙ none))

  pub longer_cover : cover old (enters i grown) ≡ cover new (enters i linked)
  longer_cover = go (empty_slot old i) refl
    where
      go : (found : Option ℕ) → empty_slot old i ≡ found → cover old (enters i grown) ≡ cover new (enters i linked)
      go (Some s) found = slot_cover s found
      go None none = size_cover none

  -- ---- the entry needs what it needed

  entry_same : (found : Option ℕ) → length (flat_map (prepared_for new) (new_entry new i found)) ≡ length (flat_map (prepared_for old) (new_entry old i found))
  entry_same (Some s) = refl
  entry_same None =
      counted new ∙ ap₂ (λ r s. length (nodes_for new r s s (s + entry_size))) root_same size_same
      ∙ ap length (nodes_same old new (root_of old i) (size_of old i) (λ d k live. ap (λ r. node new r d k) (sym root_same) ∙ longer_node old new taken wf adds i d k reached (suc-ne-zero n) live) (size_of old i) (size_of old i + entry_size))
      ∙ sym (counted old)
    where
      counted : (image : Image) → length (flat_map (prepared_for image) (new_entry image i None)) ≡ length (nodes_for image (root_of image i) (size_of image i) (size_of image i) (size_of image i + entry_size))
      counted image =
          ap length (append-nil (prepared_for image (record { tree = i; from = size_of image i; to = size_of image i + entry_size })))
          ∙ length-map (nodes_for image (root_of image i) (size_of image i) (size_of image i) (size_of image i + entry_size)) _

  pub longer_prep : prep_count new (enters i linked) ≡ prep_count old (enters i grown)
  longer_prep = ap (λ f. length (flat_map (prepared_for new) (new_entry new i f))) slot_same ∙ entry_same (empty_slot old i)

  pub longer_need : need old (enters i grown) ≡ growth_need old + need new (enters i linked)
  longer_need = omega (arith, longer_prep, growing_copies old wf n reached kind, none_copied new i wf_new reached_new kind_new)
