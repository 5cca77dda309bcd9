-- Calls on the attributes of what a path finds: why they are refused, what they answer, and what they make of the plain
-- tree.
use Rattle.std.proofs.Common.{◌≡◌, ◌⊎◌, ℕ, zero, suc, ◌<◌, ◌==◌, List, [], ◌∷◌, Bool, true, false, not, Option, None, Some, refl, sym, ◌∙◌, ap, subst, inl, inr, arith}
use Rattle.std.specs.Prelude.{slice_index, unwrap_or, if◌then◌else◌}
use Rattle.bp_calls.proofs.AttributeWords.{none_setting}
use Rattle.bp_changes.specs.Effects.{SetsAttribute}
use Rattle.bp_changes.specs.Thawed.{AfterThaw}
use Rattle.bp_changes.proofs.SetsAttribute as setting
use Rattle.bp_cache.specs.Changes.{KeepsAllNames}
use Rattle.bp_layout.specs.Formatted.{version_of}
use Rattle.bp_layout.specs.Inode.{attributes_of, kind_of, root_of, size_of}
use Rattle.bp_layout.specs.Inode as inode
use Rattle.bp_layout.specs.Lookup.{lookup}
use Rattle.bp_layout.specs.Need.{Change, need}
use Rattle.bp_layout.specs.Need.Change.{sets}
use Rattle.bp_layout.specs.Paths.{Attributes, Path, parse}
use Rattle.bp_layout.specs.Paths.Node.{dir, file}
use Rattle.bp_layout.specs.Reached.{IsReached}
use Rattle.bp_layout.specs.Tree.{content}
use Rattle.bp_layout.specs.WellFormed.{IsWellFormed}
use Rattle.bp_layout.specs.Words.{Image}
use Rattle.bp_limits.specs.CallLimits.{allows_attributes}
use Rattle.bp_limits.specs.declared.version.Version.{Version}
use Rattle.bp_limits.specs.declared.version.Version.TheVariants.{One, Two}
use Rattle.bp_plain.specs.Calls.{Refusal}
use Rattle.bp_plain.specs.Calls.Answer.{attribute_of, refused}
use Rattle.bp_plain.specs.Calls.Call.{attribute, set_attribute}
use Rattle.bp_plain.specs.Calls.Refusal.{old_version}
use Rattle.bp_plain.specs.Plain.{attribute_refusal, attributes_at, attributes_in, first, on_parsed, on_path, path_named, tree_after, walk, when, with_attribute}
use Rattle.bp_plain.specs.PlainTree.{FileTree}
use Rattle.bp_plain.specs.Stands.{Shows, Stands}
use Rattle.bp_plain.proofs.PathLaws.{first_one}
use Rattle.bp_stands.proofs.AttributeStands.{attributes_shows}
use Rattle.bp_fs.specs.Step.{IsChange, PathFinds}
use Rattle.bp_fs.specs.Step.IsChange.{by_set_attribute}
use Rattle.bp_volume.specs.Queries.{Answers, RefusesWalk, StopsAtAttributes}
use Rattle.bp_volume.proofs.CacheLaws.{files_keep_all}
use Rattle.bp_volume.proofs.ChangeLaws.{MakesChange}
use Rattle.bp_volume.proofs.FewBlocks.{IsFew}
use Rattle.bp_volume.proofs.StepLaws.{answer_steps, refused_steps}
use Rattle.bp_volume.proofs.WalkLaws.{node_at, walk-found}

-- ---- refusals

-- versions 1 and 2 allow no attributes
pub earlier_allow_none : (version : Version) → (version ≡ One) ⊎ (version ≡ Two) → allows_attributes version ≡ false
earlier_allow_none version (inl one) = ap allows_attributes one
earlier_allow_none version (inr two) = ap allows_attributes two

module _ (image : Image) (text : List ℕ) where
  -- the refusal of a call at a path, from whether the version allows attributes
  refusal_at : (allows : Bool) → allows_attributes (version_of image) ≡ allows → (path : Path) → parse text ≡ Some path → (tree : FileTree) → Stands image tree →
      on_path text (attribute_refusal tree) ≡ first (when (not allows) old_version ∷ walk tree.now.nodes path ∷ [])
  refusal_at allows is path parsed tree stands =
      ap (λ o. on_parsed o (attribute_refusal tree)) parsed
      ∙ ap (λ b. first (when (not b) old_version ∷ walk tree.now.nodes path ∷ [])) (ap allows_attributes stands.version ∙ is)

  pub version_stops : (path : Path) → parse text ≡ Some path → allows_attributes (version_of image) ≡ false → StopsAtAttributes image text old_version
  version_stops path parsed none tree stands = refusal_at false none path parsed tree stands

  pub walk_stops : (path : Path) (why : Refusal) → parse text ≡ Some path → allows_attributes (version_of image) ≡ true → RefusesWalk image path why → StopsAtAttributes image text why
  walk_stops path why parsed allowed stops tree stands = refusal_at true allowed path parsed tree stands ∙ first_one (walk tree.now.nodes path) ∙ stops tree stands

  pub attribute_stops : (number : ℕ) (why : Refusal) → StopsAtAttributes image text why → Answers image (attribute text number) (refused why)
  attribute_stops number why stops tree stands = refused_steps image tree (attribute text number) why (stops tree stands)

  pub set_attribute_stops : (number value : ℕ) (why : Refusal) → StopsAtAttributes image text why → Answers image (set_attribute text number value) (refused why)
  set_attribute_stops number value why stops tree stands = refused_steps image tree (set_attribute text number value) why (stops tree stands)

-- ---- an inode that the path finds

module _ (image : Image) (text : List ℕ) (i : ℕ) (at : PathFinds image text i) where
  path_is : path_named text ≡ at.path
  path_is = ap (λ (o : Option Path). unwrap_or o []) at.parsed

  -- the text spells no other path
  same_inode : (k : ℕ) → PathFinds image text k → k ≡ i
  same_inode k other =
      let paths : ◌≡◌ {A = Option Path} (Some other.path) (Some at.path) = sym other.parsed ∙ at.parsed in
      let same : other.path ≡ at.path = cc in
      let found : ◌≡◌ {A = Option ℕ} (Some k) (Some i) = sym other.inode ∙ ap (lookup image) same ∙ at.inode in
      cc

  node_attributes : (is_file : Bool) → attributes_in (Some (if is_file then file (attributes_of image i) (content image (root_of image i) (size_of image i)) else dir (attributes_of image i))) ≡ attributes_of image i
  node_attributes true = refl
  node_attributes false = refl

  attributes_there : (tree : FileTree) → Stands image tree → attributes_at tree.now.nodes at.path ≡ attributes_of image i
  attributes_there tree stands = ap attributes_in (node_at image tree stands at.path i at.inode) ∙ node_attributes (kind_of image i == 1)

  attribute_there : (number : ℕ) → number < 3 → slice_index (attributes_of image i) number ≡ inode.attribute image i number
  attribute_there zero few = refl
  attribute_there (suc zero) few = refl
  attribute_there (suc (suc zero)) few = refl
  attribute_there (suc (suc (suc number))) few = absurd (omega (arith, few))

  module _ (version : allows_attributes (version_of image) ≡ true) where
    none_refused : (tree : FileTree) → Stands image tree → on_path text (attribute_refusal tree) ≡ None
    none_refused tree stands = refusal_at image text true version at.path at.parsed tree stands ∙ first_one (walk tree.now.nodes at.path) ∙ walk-found image tree stands at.path i at.inode

    pub attribute_reports : (number reported : ℕ) → number < 3 → reported ≡ inode.attribute image i number → Answers image (attribute text number) (attribute_of reported)
    attribute_reports number reported few says tree stands =
        answer_steps image tree (attribute text number) (attribute_of reported) (none_refused tree stands) refl
        (ap (λ p. attribute_of (slice_index (attributes_at tree.now.nodes p) number)) path_is
        ∙ ap (λ (attributes : Attributes). attribute_of (slice_index attributes number)) (attributes_there tree stands)
        ∙ ap attribute_of (attribute_there number few ∙ sym says))

    set_alike : (number value : ℕ) (other : Change) → IsChange image (set_attribute text number value) other → other ≡ sets i number
    set_alike number value _ (by_set_attribute {i = k} finds) = ap (λ j. sets j number) (same_inode k finds)

    pub set_makes : (number value : ℕ) → MakesChange image (set_attribute text number value) (sets i number)
    set_makes number value = record {
      is = by_set_attribute at;
      alike = set_alike number value;
      allowed = none_refused;
      changing = λ tree stands. refl;
      says = λ tree. refl;
      stays = λ tree. refl;
    }

-- ---- what the change makes, after a thaw

module _ (old new : Image) (wf : IsWellFormed old) (i number value : ℕ) (after : AfterThaw (λ image later. SetsAttribute image later i number value) old new) where
  sets_after : SetsAttribute old new i number value
  sets_after = setting.sets_over old after.middle new i number value wf after.thawed.meaning after.thawed.sizes after.effect

  pub set_keeps : KeepsAllNames old new
  set_keeps = files_keep_all old new wf (setting.keeps old new i number value wf sets_after)

  pub set_shows : (text : List ℕ) → PathFinds old text i → (tree : FileTree) → Stands old tree → Shows new (tree_after tree (set_attribute text number value)).now
  set_shows text at tree stands =
      subst (λ p. Shows new (with_attribute tree.now p number value)) (sym (path_is old text i at))
      (attributes_shows old new i number value wf sets_after at.path at.inode tree.now stands.now)

-- it needs no block, besides those that are thawed before it
pub few_set : (image : Image) → IsWellFormed image → (i number : ℕ) → IsReached image i → number < 3 → IsFew (need image (sets i number))
few_set image wf i number reached few = omega (arith, none_setting image wf i number reached few)
