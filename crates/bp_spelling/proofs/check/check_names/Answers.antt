use Rattle.std.proofs.Common.{ℕ, take, sym, ◌∙◌, ap, subst}
use Rattle.std.proofs.lemmas.List.Sorted.{IsPermutation-map, IsPermutation-refl}
use Rattle.pm_region.specs.Memory.{current_words}
use Rattle.bp_spelling.specs.Names.{AreWrong}
use Rattle.bp_spelling.specs.Names.AreWrong.{form}
use Rattle.bp_spelling.specs.declared.fault.NameFault.TheVariants.{Form}
use Rattle.bp_spelling.specs.Hashes.{place_of, places_of}
use Rattle.bp_spelling.specs.declared.table.TableError.{TableError}
use Rattle.bp_spelling.specs.Tables.{IsTableError}
use Rattle.bp_spelling.proofs.TableLaws.{double_of}
use Rattle.bp_spelling.proofs.Deciding.{no_doubles, doubles}
use Rattle.bp_spelling.proofs.check.check_names.Goals as goal

pub returns-in-Err-clause-err : goal.returns-in-Err-clause-err
returns-in-Err-clause-err g c =
    let wrong = c.in-Err.ensures.err in
    subst (λ (p : ℕ). AreWrong (current_words (g.R.Region.memory c.args.region.now)) c.args.tree.root c.args.tree.size (Form p)) (sym wrong.there) (form wrong.used wrong.wrong)

pub returns-in-Ok-try_table-clause-ok : goal.returns-in-Ok-try_table-clause-ok
returns-in-Ok-try_table-clause-ok g c =
    let places = places_of (take c.in-Ok.count c.gather.new.entries) in
    no_doubles (current_words (g.R.Region.memory c.args.region.now)) c.args.tree.root c.args.tree.size c.requires.sound c.requires.full c.in-Ok.ensures.forms places places
    c.in-Ok.ensures.places (IsPermutation-refl places) c.in-Ok-try_table.ensures.ok

pub returns-in-Err-Repeated-clause-err : goal.returns-in-Err-Repeated-clause-err
returns-in-Err-Repeated-clause-err g c =
    let image = current_words (g.R.Region.memory c.args.region.now) in
    let places = places_of (take c.in-Ok.count c.gather.new.entries) in
    doubles image c.args.tree.root c.args.tree.size c.requires.sound c.requires.full c.in-Ok.ensures.forms places places c.in-Ok.ensures.places (IsPermutation-refl places) c.in-Err-Repeated.place
    (double_of image places c.in-Err-Repeated.place (subst (λ (stop : TableError). IsTableError image places stop) c.in-Err-Repeated.field-0-is c.in-Err-Repeated.ensures.err))

pub returns-in-Some-clause-err : goal.returns-in-Some-clause-err
returns-in-Some-clause-err g c =
    doubles (current_words (g.R.Region.memory c.args.region.now)) c.args.tree.root c.args.tree.size c.requires.sound c.requires.full c.in-Ok.ensures.forms (places_of (take c.in-Ok.count c.try_table.new.entries)) (places_of c.find_double.new.entries)
    (ap places_of c.try_table.ensures.same ∙ c.in-Ok.ensures.places) (IsPermutation-map place_of _ _ c.find_double.ensures.same) c.in-Some.place c.in-Some.ensures.double

pub returns-in-None-clause-ok : goal.returns-in-None-clause-ok
returns-in-None-clause-ok g c =
    no_doubles (current_words (g.R.Region.memory c.args.region.now)) c.args.tree.root c.args.tree.size c.requires.sound c.requires.full c.in-Ok.ensures.forms (places_of (take c.in-Ok.count c.try_table.new.entries)) (places_of c.find_double.new.entries)
    (ap places_of c.try_table.ensures.same ∙ c.in-Ok.ensures.places) (IsPermutation-map place_of _ _ c.find_double.ensures.same) c.in-None.ensures.double
