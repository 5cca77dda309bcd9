use Rattle.std.proofs.Common.{rules, refl, subst}
use Rattle.bpfs_c.specs.Serves.Looked.{looked}
use Rattle.bpfs_c.specs.Sums.{HasBlockCounts}
use Rattle.bpfs_c.specs.declared.mounted.Mounted.{Mounted}
use Rattle.bpfs_c.proofs.space.bpfs_space.Goals as goal

pub returns : goal.returns
returns c =
    let space = c.space-space in
    looked c.in-Some.mounted.value (search rules) (search rules) (
      refl,
      subst (λ (m : Mounted). HasBlockCounts m.volume (record { free = space.result.free; live = space.result.live })) c.deref.ensures (space.ensures.free, space.ensures.live),
    )
