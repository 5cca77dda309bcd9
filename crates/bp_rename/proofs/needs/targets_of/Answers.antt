use Rattle.std.proofs.Common.{◌≡◌, ℕ, List, [], ◌∷◌, ◌++◌, map, sym, ◌∙◌, ap}
use Rattle.arrayvec.specs.ArrayVec.{ArrayVec}
use Rattle.bp_calls.proofs.NothingInSnapshot.{shape_self}
use Rattle.bp_layout.specs.Need.{Change}
use Rattle.bp_layout.specs.Thaw.{cover_now, targets}
use Rattle.bp_thaw.specs.Thaws.{paths_in}
use Rattle.pm_region.specs.Memory.{current_words}
use Rattle.bp_rename.specs.CanRename.{change_of}
use Rattle.bp_rename.proofs.Renames.{across_change, onto_change, within_change}
use Rattle.bp_rename.proofs.needs.targets_of.Given.{Over}
use Rattle.bp_rename.proofs.needs.targets_of.Goals.{After-push}
use Rattle.bp_rename.proofs.needs.targets_of.Goals as goal

-- the first is the cover of the change that the rename is
covered : (g : Over) (c : After-push g) (change : Change) → change_of c.args.to_move.now ≡ change
    → paths_in c.push.new.self ≡ cover_now (current_words (g.R.Region.memory c.args.region.now)) change ∷ []
covered g c change is =
    let image = current_words (g.R.Region.memory c.args.region.now) in
    ap (λ (xs : List (ArrayVec ℕ)). map (λ path. path.items) xs)
    (c.push.ensures.items ∙ ap (λ (xs : List (ArrayVec ℕ)). xs ++ c.cover.result ∷ []) c.new-targets.ensures)
    ∙ ap (λ (p : List ℕ). p ∷ []) (c.cover.ensures ∙ c.requires.planned.cover ∙ ap (cover_now image) is)

pub cover-requires-clause-touched : goal.cover-requires-clause-touched
cover-requires-clause-touched g c = c.requires.planned.shape

pub cover-requires-clause-in_range : goal.cover-requires-clause-in_range
cover-requires-clause-in_range g c =
    let image = current_words (g.R.Region.memory c.args.region.now) in
    c.requires.planned.inside image (shape_self image c.requires.can.well_formed)

pub push_new-requires-clause-slot : goal.push_new-requires-clause-slot
push_new-requires-clause-slot g c = c.requires.empty c.in-None-2.is c.if-to_move.false

pub push_new-requires-clause-cover : goal.push_new-requires-clause-cover
push_new-requires-clause-cover g c =
    covered g (goal.at.push_new-requires-clause-cover g c).After-push _ (across_change c.args.to_move.now c.in-None-2.is c.if-to_move.false)

pub returns-in-Some : goal.returns-in-Some
returns-in-Some g c =
    let onto = onto_change c.args.to_move.now _ c.in-Some.is in
    covered g (goal.at.returns-in-Some g c).After-push _ onto ∙ ap (targets (current_words (g.R.Region.memory c.args.region.now))) (sym onto)

pub returns-in-None : goal.returns-in-None
returns-in-None g c =
    let within = within_change c.args.to_move.now c.in-None.is c.if-to_move.true in
    covered g (goal.at.returns-in-None g c).After-push _ within ∙ ap (targets (current_words (g.R.Region.memory c.args.region.now))) (sym within)

pub returns-in-None-2 : goal.returns-in-None-2
returns-in-None-2 g c =
    let across = across_change c.args.to_move.now c.in-None-2.is c.if-to_move.false in
    c.push_new.ensures ∙ ap (targets (current_words (g.R.Region.memory c.args.region.now))) (sym across)
