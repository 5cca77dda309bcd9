-- Steps of a call that gives a file one more name.
use Rattle.std.proofs.Common.{◌≡◌, ℕ, ◌==◌, List, [], ◌∷◌, ◌++◌, refl, sym, ◌∙◌, ap, subst, Option, None, Some, true≢false}
use Rattle.std.specs.Prelude.{unwrap_or, is_err, Result, Ok, Err, MatchResult, OnErr}
use Rattle.bp_calls.specs.OnTrees.{SharesName}
use Rattle.bp_layout.specs.Paths.{Name, Path, parse}
use Rattle.bp_layout.specs.Inode.{kind_of}
use Rattle.bp_layout.specs.Need.{Change}
use Rattle.bp_layout.specs.Need.Change.{enters}
use Rattle.bp_layout.specs.Need.Entrant.{linked}
use Rattle.bp_layout.specs.Words.{Image}
use Rattle.bp_plain.proofs.PathLaws.{first_one}
use Rattle.bp_plain.specs.Calls.{Refusal}
use Rattle.bp_plain.specs.Calls.Call.{link}
use Rattle.bp_plain.specs.Calls.Refusal.{bad_path, is_dir}
use Rattle.bp_plain.specs.Plain.{file_refusal, first, is_dir_at, new_refusal, on_parsed, on_path, parent_of, path_named, refusal, tree_after, when, with_name}
use Rattle.bp_plain.specs.PlainTree.{FileTree}
use Rattle.bp_plain.specs.Seen.{refusal_of}
use Rattle.bp_plain.specs.Stands.{Shows, Stands}
use Rattle.bp_plain.specs.declared.errors.FsError.{FsError}
use Rattle.bp_plain.specs.declared.errors.FsError.TheVariants.{BadPath}
use Rattle.bp_fs.specs.Step.{FindsNew, IsChange, PathFinds}
use Rattle.bp_fs.specs.Step.IsChange.{by_link}
use Rattle.bp_volume.specs.Queries.{Refuses, StopsAtFile, StopsAtNew, refusal_of_file, refusal_of_new}
use Rattle.bp_volume.proofs.ChangeLaws.{MakesChange}
use Rattle.bp_volume.proofs.CreateLaws.{goes, same_directory, text_path}
use Rattle.bp_volume.proofs.WalkLaws.{dir_at, walk-found}

-- the refusals of two paths, in order
abbrev of_both : FileTree → Path → Path → Option Refusal
of_both tree p q = first (file_refusal tree.now.nodes p ∷ new_refusal tree.now.nodes q ∷ [])

module _ (image : Image) (from to : List ℕ) where
  -- the second text is no path, whether the first is one or not
  pub no_target : parse to ≡ None → Refuses image (link from to) bad_path
  no_target none tree stands = go (parse from)
    where
      go : (o : Option Path) → on_parsed o (λ p. on_path to (of_both tree p)) ≡ Some bad_path
      go None = refl
      go (Some p) = ap (λ u. on_parsed u (of_both tree p)) none

  -- as the error of a parser reports it
  pub text_stops : {T E : Type 0} (inner : Result T E) (error : FsError) → MatchResult inner (λ x. ◌≡◌ {A = Result T FsError} (Err error) (Ok x)) (λ _. error ≡ BadPath) → OnErr inner (parse to ≡ None) → Refuses image (link from to) (refusal_of error)
  text_stops (Ok x) error maps none = absurd (true≢false (ap is_err maps))
  text_stops (Err fault) error maps none = subst (λ e. Refuses image (link from to) (refusal_of e)) (sym maps) (no_target none)

  -- it is one, and no file stands at the first
  pub no_source : (q : Path) → parse to ≡ Some q → (why : Refusal) → StopsAtFile image from why → Refuses image (link from to) why
  no_source q parsed why stops tree stands = go (parse from) (stops tree stands)
    where
      go : (o : Option Path) → on_parsed o (refusal_of_file tree) ≡ Some why → on_parsed o (λ p. on_path to (of_both tree p)) ≡ Some why
      go None e = e
      go (Some p) e = ap (λ u. on_parsed u (of_both tree p)) parsed ∙ ap (λ o. first (o ∷ new_refusal tree.now.nodes q ∷ [])) e

-- ---- a file that the first path finds

module _ (image : Image) (from to : List ℕ) (j : ℕ) (at : PathFinds image from j) (kind : kind_of image j ≡ 1) where
  there : (tree : FileTree) → Stands image tree → file_refusal tree.now.nodes at.path ≡ None
  there tree stands =
      ap (λ o. first (o ∷ when (is_dir_at tree.now.nodes at.path) is_dir ∷ [])) (walk-found image tree stands at.path j at.inode)
      ∙ ap (λ b. first (when b is_dir ∷ [])) (dir_at image tree stands at.path j at.inode ∙ ap (λ k. k == 2) kind)

  -- the call is refused as a new name is
  as_new : (tree : FileTree) → Stands image tree → refusal tree (link from to) ≡ on_path to (refusal_of_new tree)
  as_new tree stands = ap (λ o. on_parsed o (λ p. on_path to (of_both tree p))) at.parsed ∙ go (parse to)
    where
      go : (o : Option Path) → on_parsed o (of_both tree at.path) ≡ on_parsed o (refusal_of_new tree)
      go None = refl
      go (Some q) = ap (λ r. first (r ∷ new_refusal tree.now.nodes q ∷ [])) (there tree stands) ∙ first_one (new_refusal tree.now.nodes q)

  pub no_name : (why : Refusal) → StopsAtNew image to why → Refuses image (link from to) why
  no_name why stops tree stands = as_new tree stands ∙ stops tree stands

  module _ (i : ℕ) (name : Name) (names : FindsNew image to i name) where
    alike : (change : Change) → IsChange image (link from to) change → change ≡ enters i linked
    alike _ (by_link {name = other} {i = k} finds new) = ap (λ d. enters d linked) (same_directory image to i name names k other new)

    -- the name is what the call makes
    pub linking_makes : MakesChange image (link from to) (enters i linked)
    linking_makes = record {
      is = by_link at names;
      alike = alike;
      allowed = λ tree stands. as_new tree stands ∙ goes image to i name names tree stands;
      changing = λ tree stands. refl;
      says = λ tree. refl;
      stays = λ tree. refl;
    }

    from_is : path_named from ≡ at.path
    from_is = ap (λ (o : Option Path). unwrap_or o []) at.parsed

    -- a file that has the name too shows the tree of the call
    pub linking_shows : (after : Image) → SharesName i name j image after → (tree : FileTree) → Stands image tree → Shows after (tree_after tree (link from to)).now
    linking_shows after shares tree stands =
        subst (λ p. Shows after (with_name tree.now (path_named from) p)) (sym (text_path image to i name names))
        (subst (λ p. Shows after (with_name tree.now p (parent_of names.path ++ name ∷ []))) (sym from_is)
        (shares tree.now at.path (parent_of names.path) stands.now at.inode names.new.parent))
