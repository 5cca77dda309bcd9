use Rattle.std.proofs.Common.{rules, refl, subst}
use Rattle.bpfs_c.specs.Infos.{HasInfo}
use Rattle.bpfs_c.specs.Serves.Looked.{looked}
use Rattle.bpfs_c.specs.declared.mounted.Mounted.{Mounted}
use Rattle.bpfs_c.proofs.info.bpfs_info.Goals as goal

pub returns : goal.returns
returns c =
    looked c.in-Some.mounted.value (search rules) (search rules) (
      refl,
      subst (λ (m : Mounted). HasInfo m.volume c.about_volume.result) c.deref.ensures c.about_volume.ensures,
    )
