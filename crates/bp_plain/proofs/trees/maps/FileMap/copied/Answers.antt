use Rattle.std.proofs.Common.{sym, ◌∙◌, ap, subst}
use Rattle.bp_plain.specs.Numbered.{NumberedFiles, map_of}
use Rattle.bp_plain.proofs.KeptMaps.{AreKept, kept_files, keeps}
use Rattle.bp_plain.proofs.Numbers.{changed-nothing}
use Rattle.bp_plain.proofs.trees.maps.FileMap.copied.Goals as goal

pub invariant_of-result : goal.invariant_of-result
invariant_of-result c =
    keeps _ (subst (λ (files : NumberedFiles). AreKept files c.self.inside.next) (sym (c.in_ok-files.ensures ∙ changed-nothing c.self.inside.files)) (kept_files c.self.inside c.self.invariant))

pub returns : goal.returns
returns c = ap map_of (c.in_ok-files.ensures ∙ changed-nothing c.self.inside.files) ∙ c.self.view_is
