use Rattle.std.proofs.Common.{ap, subst, sym, ◌∙◌, ℕ, List}
use Rattle.pm_region.specs.Memory.{Memory}
use Rattle.bp_session.specs.Files.{Holds}
use Rattle.bp_shell.specs.Opening.{HasSized, start}
use Rattle.bp_shell.proofs.OpeningLaws.{is_held, is_sized, stays_equal}
use Rattle.bp_shell.proofs.image_file.load_file.Goals as goal

pub returns-clause-image : goal.returns-clause-image
returns-clause-image g c =
    let filled = ap (λ (m : Memory). m.base) c.adopt_all.ensures ∙ c.finish.ensures in
    let known = (g.F.Files.view c.args.files.now).contents c.args.name.now in
    subst (λ (base : List ℕ). HasSized known base) (sym filled)
    (is_sized _ _ _ _ _ _ c.in_ok-count.ensures.found (stays_equal _ _ (c.find_image.ensures.kept c.args.name.now)) c.load.ensures.reads c.in_ok-load.ensures.image c.in_ok-load.ensures.whole c.in_ok-load.ensures.words)

pub returns-clause-holds : goal.returns-clause-holds
returns-clause-holds g c =
    let filled = ap (λ (m : Memory). m.base) c.adopt_all.ensures ∙ c.finish.ensures in
    subst (λ (base : List ℕ). Holds (g.F.Files.view c.load.new.files) c.args.name.now base) (sym filled)
    (is_held _ _ _ _ _ _ c.in_ok-count.ensures.found (stays_equal _ _ (c.find_image.ensures.kept c.args.name.now)) c.load.ensures.reads c.in_ok-load.ensures.image c.in_ok-load.ensures.whole c.in_ok-load.ensures.words)

pub returns-clause-starts : goal.returns-clause-starts
returns-clause-starts g c =
    c.adopt_all.ensures ∙ ap (λ (m : Memory). record m { base = c.finish.result }) c.in-Ok.ensures
    ∙ ap (λ (base : List ℕ). (start base).system) (sym (ap (λ (m : Memory). m.base) c.adopt_all.ensures))
