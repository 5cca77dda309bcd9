-- The ways to the words near which a name comes into a directory, and what is not in the snapshot once they are thawed.
use Rattle.std.proofs.Common.{◌≡◌, ◌≢◌, ℕ, Bool, false, zero, suc, ◌+◌, ◌-◌, ◌*◌, ◌/◌, ◌<◌, List, [], ◌∷◌, ◌++◌, length, flat_map, Option, None, Some, refl, sym, ◌∙◌, ap, ap₂, subst, arith, inl, inr}
use Rattle.std.proofs.lemmas.List.{append-nil}
use Rattle.bp_append.specs.Prepared.{HasLooseEnd}
use Rattle.bp_append.proofs.EndWays.{loose_end}
use Rattle.bp_layout.specs.Directory.{empty_slot, entry_count}
use Rattle.bp_layout.specs.Inode.{inode_count, kind_of, root_of, size_of}
use Rattle.bp_layout.specs.Members.{Has}
use Rattle.bp_layout.specs.Need.{Beyond, Entrant, entered_at, is_there_after, new_entry}
use Rattle.bp_layout.specs.Need.Change.{enters, leaves}
use Rattle.bp_layout.specs.Need.Entrant.{grown, linked, taken}
use Rattle.bp_layout.specs.Reached.{IsReached}
use Rattle.bp_layout.specs.Reached.IsReached.{inode_file}
use Rattle.bp_layout.specs.Thaw.{cover_now, end_path_now, end_targets, heights_now, is_there_now, root_path_now, targets, thawed}
use Rattle.bp_layout.specs.Tree.{node}
use Rattle.bp_layout.specs.WellFormed.{IsWellFormed}
use Rattle.bp_layout.specs.WordPaths.{WordPath, digits, inode_path, tree_path}
use Rattle.bp_layout.specs.Words.{Image, height_of}
use Rattle.bp_layout.proofs.MemberLaws.{has-after, has-prefix}
use Rattle.bp_layout.proofs.ThawLaws.{loose-on}
use Rattle.bp_layout.proofs.TreeLaws.{live_above, live_content}
use Rattle.bp_thaw.specs.Prefixes.{IsWayIn}
use Rattle.bp_read.proofs.ExistingPaths.{AllThere, content_path-there, cover_of-one}
use Rattle.bp_read.proofs.LooseWays.{loose_inode_word, loose_word}
use Rattle.bp_calls.specs.Steps.{HasLooseEntry, HasLooseWord}
use Rattle.bp_calls.proofs.Refusals.{found_empty}
use Rattle.bp_calls.proofs.TargetPaths.{content_way, end_way, inode_path-now, inode_way, or_none, root_way, there_as}

-- the ways of the entry alone, by the slot that is empty
abbrev pub entry_ways : Image → ℕ → Option ℕ → List WordPath
entry_ways image i None = inode_path (heights_now image 0) i 2 ∷ root_path_now image i ∷ end_path_now image i ∷ []
entry_ways image i (Some s) = tree_path (heights_now image 0) i (suc (heights_now image i)) (32 * s + 0) ∷ []

-- and those of what it names
abbrev pub entrant_ways : Image → Entrant → List WordPath
entrant_ways image (taken j) = inode_path (heights_now image 0) j 0 ∷ []
entrant_ways image grown = root_path_now image 0 ∷ end_path_now image 0 ∷ []
entrant_ways image linked = []

-- the path of a root word, as it is made
pub root_path_at : (image : Image) (t : ℕ) → t ≢ 0 → inode_path (heights_now image 0) t 1 ≡ root_path_now image t
root_path_at image zero some = absurd (some refl)
root_path_at image (suc i) some = sym (append-nil (inode_path (heights_now image 0) (suc i) 1))

-- and that of the first word of an inode
pub row_path_at : (image : Image) (j root offset : ℕ) → root ≡ root_of image 0 → offset ≡ 64 * j → digits (suc (height_of root)) (offset / 8) ≡ inode_path (heights_now image 0) j 0
row_path_at image j root offset is at = ap₂ (λ r n. digits (suc (height_of r)) n) is (omega (arith, at))

-- an inode that is taken is one of the file's
abbrev pub IsEntrant : Image → Entrant → Type 0
IsEntrant image (taken j) = j < inode_count image
IsEntrant image grown = Unit {0}
IsEntrant image linked = Unit {0}

module _ (image : Image) (wf : IsWellFormed image) (i : ℕ) (reached : IsReached image i) (kind : kind_of image i ≡ 2) where
  slot_whole : (s : ℕ) → empty_slot image i ≡ Some s → AllThere (is_there_now image) [] (tree_path (heights_now image 0) i (suc (heights_now image i)) (32 * s + 0))
  slot_whole s found =
      let low : s < entry_count image i = (found_empty image i s found).0 in
      there_as (is_there_after image (leaves i s)) (is_there_now image) (λ path there. or_none (is_there_now image path) there) [] (tree_path (heights_now image 0) i (suc (heights_now image i)) (32 * s + 0))
      (content_path-there image (leaves i s) wf refl i (32 * s + 0) reached refl (wf.full_directories i reached kind) (omega (arith, low)))

  entered_whole : (found : Option ℕ) → empty_slot image i ≡ found → AllThere (is_there_now image) [] (entered_at (heights_now image) i found)
  entered_whole None is = inode_path-now image wf i 2 reached (omega arith)
  entered_whole (Some s) is = slot_whole s is

  entered_cover : (e : Entrant) → cover_now image (enters i e) ≡ entered_at (heights_now image) i (empty_slot image i)
  entered_cover e = cover_of-one (is_there_now image) (entered_at (heights_now image) i (empty_slot image i)) (entered_whole (empty_slot image i) refl)

  ways_with : (found : Option ℕ) (more : List Beyond) (last : List WordPath) →
      entered_at (heights_now image) i found ∷ flat_map (end_targets image) (new_entry image i found ++ more) ++ last ≡ entry_ways image i found ++ (flat_map (end_targets image) more ++ last)
  ways_with None more last = refl
  ways_with (Some s) more last = refl

  pub enter_targets : (e : Entrant) → targets image (enters i e) ≡ entry_ways image i (empty_slot image i) ++ entrant_ways image e
  enter_targets (taken j) = ap (λ (p : WordPath). p ∷ flat_map (end_targets image) (new_entry image i (empty_slot image i) ++ []) ++ inode_path (heights_now image 0) j 0 ∷ []) (entered_cover (taken j)) ∙ ways_with (empty_slot image i) [] (inode_path (heights_now image 0) j 0 ∷ [])
  enter_targets grown =
      ap (λ (p : WordPath). p ∷ flat_map (end_targets image) (new_entry image i (empty_slot image i) ++ record { tree = 0; from = size_of image 0; to = size_of image 0 + 4096 } ∷ []) ++ []) (entered_cover grown)
      ∙ ways_with (empty_slot image i) (record { tree = 0; from = size_of image 0; to = size_of image 0 + 4096 } ∷ []) []
  enter_targets linked = ap (λ (p : WordPath). p ∷ flat_map (end_targets image) (new_entry image i (empty_slot image i) ++ []) ++ []) (entered_cover linked) ∙ ways_with (empty_slot image i) [] []

  -- those of the entry are stated by a name more of a file
  pub more_targets : (e : Entrant) → targets image (enters i linked) ++ entrant_ways image e ≡ targets image (enters i e)
  more_targets e = ap (λ (ps : List WordPath). ps ++ entrant_ways image e) (enter_targets linked ∙ append-nil (entry_ways image i (empty_slot image i))) ∙ sym (enter_targets e)

  -- ---- each is a way

  entry_are : (found : Option ℕ) → empty_slot image i ≡ found → (path : WordPath) → Has (entry_ways image i found) path → IsWayIn image path
  entry_are None is path (inl e) = subst (IsWayIn image) e (inode_way image wf i 2 reached (omega arith))
  entry_are None is path (inr (inl e)) = subst (IsWayIn image) e (root_way image wf i reached)
  entry_are None is path (inr (inr (inl e))) = subst (IsWayIn image) e (end_way image wf i reached)
  entry_are None is path (inr (inr (inr never))) = absurd never
  entry_are (Some s) is path (inl e) =
      let low : s < entry_count image i = (found_empty image i s is).0 in
      subst (IsWayIn image) e (content_way image wf i (32 * s + 0) reached (omega (arith, low)))
  entry_are (Some s) is path (inr never) = absurd never

  entrant_are : (e : Entrant) → IsEntrant image e → (path : WordPath) → Has (entrant_ways image e) path → IsWayIn image path
  entrant_are (taken j) inside path (inl e) = subst (IsWayIn image) e (content_way image wf 0 (8 * j + 0) inode_file (omega (arith, inside)))
  entrant_are (taken j) inside path (inr never) = absurd never
  entrant_are grown inside path (inl e) = subst (IsWayIn image) e (root_way image wf 0 inode_file)
  entrant_are grown inside path (inr (inl e)) = subst (IsWayIn image) e (end_way image wf 0 inode_file)
  entrant_are grown inside path (inr (inr never)) = absurd never
  entrant_are linked inside path never = absurd never

  either_are : (prefix rest : List WordPath) → ((path : WordPath) → Has prefix path → IsWayIn image path) → ((path : WordPath) → Has rest path → IsWayIn image path) → (path : WordPath) → Has (prefix ++ rest) path → IsWayIn image path
  either_are [] rest one two path has = two path has
  either_are (p ∷ prefix) rest one two path (inl e) = one path (inl e)
  either_are (p ∷ prefix) rest one two path (inr later) = either_are prefix rest (λ q has. one q (inr has)) two path later

  pub enter_ways : (e : Entrant) → IsEntrant image e → (path : WordPath) → Has (targets image (enters i e)) path → IsWayIn image path
  enter_ways e inside path has =
      either_are (entry_ways image i (empty_slot image i)) (entrant_ways image e) (entry_are (empty_slot image i) refl) (entrant_are e inside) path (subst (λ (ps : List WordPath). Has ps path) (enter_targets e) has)

  -- ---- what is not in the snapshot where nothing is left to thaw

  module _ (in_snapshot : ℕ → Bool) (e : Entrant) (clear : thawed image in_snapshot (enters i e) ≡ []) where
    among : (path : WordPath) → Has (entry_ways image i (empty_slot image i) ++ entrant_ways image e) path → Has (targets image (enters i e)) path
    among path has = subst (λ (ps : List WordPath). Has ps path) (sym (enter_targets e)) has

    in_entry : (found : Option ℕ) → empty_slot image i ≡ found → (path : WordPath) → Has (entry_ways image i found) path → Has (targets image (enters i e)) path
    in_entry found is path has =
        among path (has-prefix (entry_ways image i (empty_slot image i)) (entrant_ways image e) path (subst (λ (o : Option ℕ). Has (entry_ways image i o) path) (sym is) has))

    in_entrant : (path : WordPath) → Has (entrant_ways image e) path → Has (targets image (enters i e)) path
    in_entrant path has = among path (has-after (entry_ways image i (empty_slot image i)) (entrant_ways image e) path has)

    slot_loose : (s : ℕ) → empty_slot image i ≡ Some s → HasLooseWord image in_snapshot i (32 * s + 0)
    slot_loose s found place stands =
        let low : s < entry_count image i = (found_empty image i s found).0 in
        let way : WordPath = tree_path (heights_now image 0) i (suc (heights_now image i)) (32 * s + 0) in
        let has : Has (targets image (enters i e)) way = in_entry (Some s) found way (inl refl) in
        let leaf : node image (root_of image i) (height_of (root_of image i)) ((32 * s + 0) / 512) ≡ place / 512 = omega (arith, stands.at) in
        subst (λ b. in_snapshot b ≡ false) leaf
        (loose_word image wf in_snapshot i (heights_now image i) (32 * s + 0) reached
        (live_above _ _ (height_of (root_of image i)) (32 * s + 0) (live_content (root_of image i) (size_of image i) (32 * s + 0) (omega (arith, low)))) stands.present
        (loose-on image in_snapshot (targets image (enters i e)) clear way has (length way - 1)))

    past_end_loose : empty_slot image i ≡ None → HasLooseEnd image in_snapshot i
    past_end_loose none =
        loose_end image wf in_snapshot i reached
        (loose-on image in_snapshot (targets image (enters i e)) clear (end_path_now image i) (in_entry None none (end_path_now image i) (inr (inr (inl refl)))) (length (root_path_now image i) - 1))

    pub entry_loose : HasLooseEntry image in_snapshot i
    entry_loose = record { slot = slot_loose; past_end = past_end_loose }

    pub inode_loose : (j : ℕ) → e ≡ taken j → j < inode_count image → HasLooseWord image in_snapshot 0 (8 * j + 0)
    inode_loose j is inside place stands =
        let way : WordPath = inode_path (heights_now image 0) j 0 in
        let has : Has (targets image (enters i e)) way = in_entrant way (subst (λ (o : Entrant). Has (entrant_ways image o) way) (sym is) (inl refl)) in
        let leaf : node image (root_of image 0) (height_of (root_of image 0)) ((8 * j + 0) / 512) ≡ place / 512 = omega (arith, stands.at) in
        subst (λ b. in_snapshot b ≡ false) leaf (loose_inode_word image wf in_snapshot j 0 inside (omega arith) (loose-on image in_snapshot (targets image (enters i e)) clear way has (length way - 1)))

    pub file_loose : e ≡ grown → HasLooseEnd image in_snapshot 0
    file_loose is =
        loose_end image wf in_snapshot 0 inode_file
        (loose-on image in_snapshot (targets image (enters i e)) clear (end_path_now image 0)
        (in_entrant (end_path_now image 0) (subst (λ (o : Entrant). Has (entrant_ways image o) (end_path_now image 0)) (sym is) (inr (inl refl)))) (length (root_path_now image 0) - 1))
