-- Calls that read the snapshot: what a call that reads the first tree answers of the image in which the second tree is the
-- first, they answer of the image itself.
use Rattle.std.proofs.Common.{◌≡◌, ℕ, ◌≤◌, List, length, set, Bool, true, false, true≢false, Option, None, Some, refl, sym, ◌∙◌, ap, subst, arith}
use Rattle.std.specs.FinMap.{get}
use Rattle.std.specs.Prelude.{◌&&◌, is_none, nat_lt, not}
use Rattle.std.proofs.lemmas.List.{set-get_or}
use Rattle.bp_layout.specs.Trees.{has_snapshot, snapshot_of}
use Rattle.bp_layout.specs.Whole.{IsFileSystem}
use Rattle.bp_layout.specs.Words.{Image, word}
use Rattle.bp_layout.proofs.TreeImages.{snapshot-root, snapshot-size, snapshot-version, snapshot-word}
use Rattle.bp_limits.specs.CallLimits.{allows_snapshot}
use Rattle.bp_plain.specs.Calls.{Answer, Call, Refusal}
use Rattle.bp_plain.specs.Calls.Answer.{names, refused}
use Rattle.bp_plain.specs.Calls.Call.{list, read, snap_list, snap_read, snap_stat, stat}
use Rattle.bp_plain.specs.Calls.Refusal.{no_memory, no_snap}
use Rattle.bp_plain.specs.Plain.{answer, answer_or, changes, dir_refusal, file_refusal, is_changing, listing, on_path, on_snap, path_named, plain, read_answer, refusal, snap_nodes, stat_answer, walk}
use Rattle.bp_plain.specs.PlainTree.{FileTree, PathMap}
use Rattle.bp_plain.specs.Stands.{ShowsSnapshot, Stands}
use Rattle.bp_fs.specs.FileCall.{has_changed, is_refused}
use Rattle.bp_fs.specs.Step.{StepFor}
use Rattle.bp_fs.specs.Step.StepFor.{no_room, no_listing, no_snap_listing, unchanged, changed}
use Rattle.bp_volume.specs.Queries.{Answers}
use Rattle.bp_volume.proofs.SafeLaws.{long_words}
use Rattle.bp_volume.proofs.SnapLaws.{tree_has_none, tree_has_one}
use Rattle.bp_volume.proofs.StepLaws.{refused_steps}

-- ---- what a call that changes nothing is reported

abbrev is_listing : Call → Bool
is_listing (list text) = true
is_listing (snap_list text) = true
is_listing _ = false

-- the answer of the plain tree, or want of memory to a listing
data IsReported (tree : FileTree) (call : Call) (answer : Answer) : Type 0 where
  plainly_reported : answer ≡ (plain tree call).0 → IsReported tree call answer
  for_memory : answer ≡ refused no_memory → is_listing call ≡ true → refusal tree call ≡ None → IsReported tree call answer

recorded_by : {image new : Image} {tree : FileTree} {call : Call} {answer : Answer} → StepFor image tree call answer new → is_changing tree call ≡ false → IsReported tree call answer
recorded_by (no_room changing need few) still = absurd (true≢false (sym changing ∙ still))
recorded_by (no_listing none) still = for_memory refl refl none
recorded_by (no_snap_listing none) still = for_memory refl refl none
recorded_by (unchanged same) still = plainly_reported refl
recorded_by (changed changing fits stands) still = absurd (true≢false (sym changing ∙ still))

never : (o : Option Refusal) → (is_none o && false) ≡ false
never None = refl
never (Some why) = refl

-- ---- the tree that the snapshot shows

-- the snapshot of a tree as what it has now
abbrev second_tree : FileTree → PathMap → FileTree
second_tree tree map = record { version = tree.version; now = map; snap = Some map }

module _ (image : Image) (is : IsFileSystem image) where
  abbrev second : Image
  second = snapshot_of image

  long : 6 ≤ length image
  long = long_words image is

  -- in it the second tree is the first, too
  second_again : snapshot_of second ≡ second
  second_again =
      let root : word second 4 ≡ word second 2 = snapshot-word image 4 (λ e. omega (arith, e)) (λ e. omega (arith, e)) ∙ sym (snapshot-root image (omega (arith, long))) in
      let size : word second 5 ≡ word second 3 = snapshot-word image 5 (λ e. omega (arith, e)) (λ e. omega (arith, e)) ∙ sym (snapshot-size image (omega (arith, long))) in
      ap (λ w. set (set second 2 w) 3 (word second 5)) root ∙ ap (λ xs. set xs 3 (word second 5)) (set-get_or second 2 0) ∙ ap (λ w. set second 3 w) size ∙ set-get_or second 3 0

  second_there : has_snapshot second ≡ has_snapshot image
  second_there = λ i. allows_snapshot (snapshot-version image i) && nat_lt 0 (snapshot-word image 5 (λ e. omega (arith, e)) (λ e. omega (arith, e)) i)

  second_stands : (tree : FileTree) (map : PathMap) → Stands image tree → tree.snap ≡ Some map → Stands second (second_tree tree map)
  second_stands tree map stands snap_is =
      let shows : ShowsSnapshot image (Some map) = subst (ShowsSnapshot image) snap_is stands.snap in
      record {
        version = stands.version ∙ sym (snapshot-version image);
        now = shows.1;
        snap = (second_there ∙ shows.0, rw second_again shows.1);
      }

  -- ---- calls

  module _ (there : has_snapshot image ≡ true) where
    -- where a call on the snapshot asks what another one asks of the tree that it shows
    asks_second : (call of_snap : Call) (reported : Answer) →
        ((tree : FileTree) → changes tree call ≡ false) → ((tree : FileTree) → changes tree of_snap ≡ false) →
        ((tree : FileTree) (map : PathMap) → tree.snap ≡ Some map → refusal tree of_snap ≡ refusal (second_tree tree map) call) →
        ((tree : FileTree) (map : PathMap) → tree.snap ≡ Some map → answer tree of_snap ≡ answer (second_tree tree map) call) →
        (is_listing call ≡ true → (tree : FileTree) → refusal tree of_snap ≡ None → StepFor image tree of_snap (refused no_memory) image) →
        Answers second call reported → Answers image of_snap reported
    asks_second call of_snap reported still snap_still same_refusal same_answer listing reports tree stands =
        let one = tree_has_one image tree stands there in
        let shown : FileTree = second_tree tree one.0 in
        go shown (same_refusal tree one.0 one.1) (same_answer tree one.0 one.1)
        (recorded_by (reports shown (second_stands tree one.0 stands one.1)).1 (ap (λ b. is_none (refusal shown call) && b) (still shown) ∙ never (refusal shown call)))
      where
        snap_unchanging : is_changing tree of_snap ≡ false
        snap_unchanging = ap (λ b. is_none (refusal tree of_snap) && b) (snap_still tree) ∙ never (refusal tree of_snap)

        same_plain : (shown : FileTree) → refusal tree of_snap ≡ refusal shown call → answer tree of_snap ≡ answer shown call → (plain tree of_snap).0 ≡ (plain shown call).0
        same_plain shown refuses asks = ap (λ o. (answer_or tree of_snap o).0) refuses ∙ both (refusal shown call)
          where
            both : (o : Option Refusal) → (answer_or tree of_snap o).0 ≡ (answer_or shown call o).0
            both None = asks
            both (Some why) = refl

        go : (shown : FileTree) → refusal tree of_snap ≡ refusal shown call → answer tree of_snap ≡ answer shown call → IsReported shown call reported →
            (has_changed tree of_snap reported ≡ false) × StepFor image tree of_snap reported image
        go shown refuses asks (plainly_reported e) =
            (ap (λ b. b && not (is_refused reported)) snap_unchanging, subst (λ a. StepFor image tree of_snap a image) (same_plain shown refuses asks ∙ sym e) (unchanged snap_unchanging))
        go shown refuses asks (for_memory e is_list none) =
            (ap (λ b. b && not (is_refused reported)) snap_unchanging, subst (λ a. StepFor image tree of_snap a image) (sym e) (listing is_list tree (refuses ∙ none)))

    pub second_stat : (text : List ℕ) (reported : Answer) → Answers second (stat text) reported → Answers image (snap_stat text) reported
    second_stat text reported = asks_second (stat text) (snap_stat text) reported (λ tree. refl) (λ tree. refl)
        (λ tree map is. ap (λ o. on_path text (λ p. on_snap o (λ nodes. walk nodes p))) is)
        (λ tree map is. ap (λ o. stat_answer (snap_nodes o) (path_named text) (get (snap_nodes o) (path_named text))) is)
        (λ wrong tree none. absurd (true≢false (sym wrong)))

    pub second_list : (text : List ℕ) (reported : Answer) → Answers second (list text) reported → Answers image (snap_list text) reported
    second_list text reported = asks_second (list text) (snap_list text) reported (λ tree. refl) (λ tree. refl)
        (λ tree map is. ap (λ o. on_path text (λ p. on_snap o (λ nodes. dir_refusal nodes p))) is)
        (λ tree map is. ap (λ o. names (listing (snap_nodes o) (path_named text))) is)
        (λ is_list tree none. no_snap_listing none)

    pub second_read : (text : List ℕ) (offset len : ℕ) (reported : Answer) → Answers second (read text offset len) reported → Answers image (snap_read text offset len) reported
    second_read text offset len reported = asks_second (read text offset len) (snap_read text offset len) reported (λ tree. refl) (λ tree. refl)
        (λ tree map is. ap (λ o. on_path text (λ p. on_snap o (λ nodes. file_refusal nodes p))) is)
        (λ tree map is. ap (λ o. read_answer (snap_nodes o) text offset len) is)
        (λ wrong tree none. absurd (true≢false (sym wrong)))

-- ---- where there is no snapshot

module _ (image : Image) (none : has_snapshot image ≡ false) (text : List ℕ) (why : Refusal) (refuses : on_path text (λ path. Some no_snap) ≡ Some why) where
  pub no_stat : Answers image (snap_stat text) (refused why)
  no_stat tree stands =
      refused_steps image tree (snap_stat text) why (ap (λ o. on_path text (λ p. on_snap o (λ nodes. walk nodes p))) (tree_has_none image tree stands none) ∙ refuses)

  pub no_list : Answers image (snap_list text) (refused why)
  no_list tree stands =
      refused_steps image tree (snap_list text) why (ap (λ o. on_path text (λ p. on_snap o (λ nodes. dir_refusal nodes p))) (tree_has_none image tree stands none) ∙ refuses)

  pub no_read : (offset len : ℕ) → Answers image (snap_read text offset len) (refused why)
  no_read offset len tree stands =
      refused_steps image tree (snap_read text offset len) why (ap (λ o. on_path text (λ p. on_snap o (λ nodes. file_refusal nodes p))) (tree_has_none image tree stands none) ∙ refuses)
