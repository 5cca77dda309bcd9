-- Steps of calls, from their refusals.
use Rattle.std.proofs.Common.{◌≡◌, ℕ, ◌<◌, List, [], ◌∷◌, true, false, refl, ◌∙◌, ap, subst, Option, None, Some}
use Rattle.std.specs.Prelude.{not, ◌&&◌, is_none}
use Rattle.bp_layout.specs.Words.{Image}
use Rattle.bp_layout.specs.Paths.{Path, parse}
use Rattle.bp_plain.specs.PlainTree.{FileTree}
use Rattle.bp_plain.specs.Calls.{Call, Refusal, Answer}
use Rattle.bp_plain.specs.Calls.Call.{list, read}
use Rattle.bp_plain.specs.Calls.Refusal.{not_dir, is_dir, no_memory, no_space}
use Rattle.bp_plain.specs.Calls.Answer.{refused}
use Rattle.bp_plain.specs.Plain.{plain, is_changing, refusal, walk, changes, answer, answer_or, on_parsed, on_path, first, when, is_dir_at}
use Rattle.bp_fs.specs.Step.{StepFor, HasNeed}
use Rattle.bp_fs.specs.Step.StepFor.{unchanged, no_listing, no_room}
use Rattle.bp_fs.specs.FileCall.{has_changed, is_refused}

module _ (image : Image) (tree : FileTree) where
  -- a call that is refused
  pub refused_steps : (call : Call) (why : Refusal) → refusal tree call ≡ Some why → (has_changed tree call (refused why) ≡ false) × StepFor image tree call (refused why) image
  refused_steps call why is =
      let still : is_changing tree call ≡ false = ap (λ o. is_none o && changes tree call) is in
      let reported : (plain tree call).0 ≡ refused why = ap (λ o. (answer_or tree call o).0) is in
      (ap (λ b. b && not (is_refused (refused why))) still, subst (λ a. StepFor image tree call a image) reported (unchanged still))

  -- a call that asks
  pub answer_steps : (call : Call) (reported : Answer) → refusal tree call ≡ None → changes tree call ≡ false → answer tree call ≡ reported → (has_changed tree call reported ≡ false) × StepFor image tree call reported image
  answer_steps call reported none still is =
      let same : is_changing tree call ≡ false = ap (λ o. is_none o && changes tree call) none ∙ still in
      let says : (plain tree call).0 ≡ reported = ap (λ o. (answer_or tree call o).0) none ∙ is in
      (ap (λ b. b && not (is_refused reported)) same, subst (λ a. StepFor image tree call a image) says (unchanged same))

  -- a listing for which there is no memory
  pub memory_steps : (text : List ℕ) → refusal tree (list text) ≡ None → (has_changed tree (list text) (refused no_memory) ≡ false) × StepFor image tree (list text) (refused no_memory) image
  memory_steps text none = (ap (λ o. is_none o && false && not (is_refused (refused no_memory))) none, no_listing none)

  -- a call for which there is no space
  pub no_space_steps : (call : Call) (needed free : ℕ) → is_changing tree call ≡ true → HasNeed image call needed free → free < needed →
      (has_changed tree call (refused (no_space needed free)) ≡ false) × StepFor image tree call (refused (no_space needed free)) image
  no_space_steps call needed free changing need short = (ap (λ b. b && false) changing, no_room changing need short)

-- ---- refusals by the path

module _ (tree : FileTree) (text : List ℕ) where
  -- the refusal of the walk comes before others
  walk_first : (others : Path → List (Option Refusal)) (why : Refusal) → on_path text (walk tree.now.nodes) ≡ Some why → on_path text (λ p. first (walk tree.now.nodes p ∷ others p)) ≡ Some why
  walk_first others why stops = go (parse text) refl
    where
      go : (o : Option Path) → parse text ≡ o → on_path text (λ p. first (walk tree.now.nodes p ∷ others p)) ≡ Some why
      go None at = rw at (rw at at stops)
      go (Some path) at = rw at (rw (rw at at stops) refl)

  -- so does that of a listing, and then that of a file
  pub refusal-list_stopped : (why : Refusal) → on_path text (walk tree.now.nodes) ≡ Some why → refusal tree (list text) ≡ Some why
  refusal-list_stopped why stops = walk_first (λ p. when (not (is_dir_at tree.now.nodes p)) not_dir ∷ []) why stops

  pub refusal-list_walked : (path : Path) → parse text ≡ Some path → walk tree.now.nodes path ≡ None → refusal tree (list text) ≡ first (when (not (is_dir_at tree.now.nodes path)) not_dir ∷ [])
  refusal-list_walked path parsed walked =
      ap (λ o. on_parsed o (λ p. first (walk tree.now.nodes p ∷ when (not (is_dir_at tree.now.nodes p)) not_dir ∷ []))) parsed
      ∙ ap (λ o. first (o ∷ when (not (is_dir_at tree.now.nodes path)) not_dir ∷ [])) walked

  -- that of a directory, after the walk of a read
  pub refusal-read_walked : (offset len : ℕ) (path : Path) → parse text ≡ Some path → walk tree.now.nodes path ≡ None → refusal tree (read text offset len) ≡ first (when (is_dir_at tree.now.nodes path) is_dir ∷ [])
  refusal-read_walked offset len path parsed walked =
      ap (λ o. on_parsed o (λ p. first (walk tree.now.nodes p ∷ when (is_dir_at tree.now.nodes p) is_dir ∷ []))) parsed
      ∙ ap (λ o. first (o ∷ when (is_dir_at tree.now.nodes path) is_dir ∷ [])) walked
