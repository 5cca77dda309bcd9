-- `Same` is an equivalence of well-formed images.
use Rattle.std.proofs.Common.{refl, sym, ◌∙◌}
use Rattle.bp_layout.specs.Words.{Image}
use Rattle.bp_layout.specs.WellFormed.{IsWellFormed}
use Rattle.bp_layout.specs.Same.{Same}

pub same_self : (image : Image) → IsWellFormed image → Same image image
same_self image wf = record { old_well_formed = wf; new_well_formed = wf; version = refl; shows = λ path. refl; one = λ p q. refl }

-- for the laws on crashes, which have the replay first
pub same_symmetric : (first second : Image) → Same first second → Same second first
same_symmetric first second same = record { old_well_formed = same.new_well_formed; new_well_formed = same.old_well_formed; version = sym same.version; shows = λ path. sym (same.shows path); one = λ p q. sym (same.one p q) }

pub same_transitive : (first second third : Image) → Same first second → Same second third → Same first third
same_transitive first second third one two = record { old_well_formed = one.old_well_formed; new_well_formed = two.new_well_formed; version = two.version ∙ one.version; shows = λ path. two.shows path ∙ one.shows path; one = λ p q. two.one p q ∙ one.one p q }
