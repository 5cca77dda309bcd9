use Rattle.std.proofs.Common.{rules}
use Rattle.bpfs_c.specs.Serves.Looked.{looked}
use Rattle.bpfs_c.proofs.listing.bpfs_listed.Goals as goal

pub returns : goal.returns
returns c = looked c.in-Some.mounted.value (search rules) (search rules) (search rules)
