use Rattle.std.proofs.Common.{◌≡◌, suc}
use Rattle.bp_layout.specs.Inode.{size_of}
use Rattle.bp_append.proofs.GrowsFile.{grown_size, grown_performs}
use Rattle.bp_append.proofs.laws.grown_files_are_performed.Goals as goal

pub returns : goal.returns
returns c = λ in_snapshot old middle new free rest path n size place grows.
    grown_performs in_snapshot old middle new free rest path n size place grows (λ image after. size_of after (suc n) ≡ size) (grown_size in_snapshot old middle new free rest path n size place grows)
