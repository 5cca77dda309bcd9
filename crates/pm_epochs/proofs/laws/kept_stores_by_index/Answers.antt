use Rattle.pm_epochs.proofs.KeptIndices.{kept_at_indices}
use Rattle.pm_epochs.proofs.laws.kept_stores_by_index.Goals as goal

pub returns : goal.returns
returns c = kept_at_indices
