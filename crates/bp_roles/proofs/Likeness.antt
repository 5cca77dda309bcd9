-- To represent the same files is a partial equivalence of images.
use Rattle.std.proofs.Common.{sym, ◌∙◌}
use Rattle.pm_epochs.specs.Crash.{IsPartialEquivalence}
use Rattle.bp_layout.specs.Trees.{snapshot_of}
use Rattle.bp_layout.specs.Whole.{SameFiles}
use Rattle.bp_layout.specs.Words.{Image}
use Rattle.bp_layout.proofs.SameLaws.{same_symmetric, same_transitive}
use Rattle.bp_roles.specs.Mounted.{SameDurable, by_roles}

files_symmetric : (one two : Image) → SameFiles one two → SameFiles two one
files_symmetric one two same = record {
  first = same_symmetric one two same.first;
  second = record {
    there = sym same.second.there;
    same = λ there. same_symmetric (snapshot_of one) (snapshot_of two) (same.second.same (sym same.second.there ∙ there));
  };
}

files_transitive : (one two three : Image) → SameFiles one two → SameFiles two three → SameFiles one three
files_transitive one two three a b = record {
  first = same_transitive one two three a.first b.first;
  second = record {
    there = b.second.there ∙ a.second.there;
    same = λ there. same_transitive (snapshot_of one) (snapshot_of two) (snapshot_of three) (a.second.same there) (b.second.same (a.second.there ∙ there));
  };
}

pub durable_symmetric : (one two : Image) → SameDurable one two → SameDurable two one
durable_symmetric one two same = files_symmetric (by_roles one) (by_roles two) same

pub durable_transitive : (one two three : Image) → SameDurable one two → SameDurable two three → SameDurable one three
durable_transitive one two three a b = files_transitive (by_roles one) (by_roles two) (by_roles three) a b

pub durable_equivalence : IsPartialEquivalence SameDurable
durable_equivalence = record { symmetric = durable_symmetric; transitive = durable_transitive }
