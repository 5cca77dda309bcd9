use Rattle.std.proofs.Common.{sym, ◌∙◌, ap, subst}
use Rattle.bp_plain.specs.Numbered.{NumberedFiles, map_of}
use Rattle.bp_plain.proofs.KeptMaps.{AreKept, keeps, root_kept}
use Rattle.bp_plain.proofs.MapLaws.{root_map}
use Rattle.bp_plain.proofs.trees.maps.FileMap.root_alone.Goals as goal

pub invariant_of-result : goal.invariant_of-result
invariant_of-result c = keeps _ (subst (λ (files : NumberedFiles). AreKept files 0) (sym c.in_ok-files.ensures) root_kept)

pub returns : goal.returns
returns c = ap map_of c.in_ok-files.ensures ∙ root_map
