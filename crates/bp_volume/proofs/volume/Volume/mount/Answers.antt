use Rattle.std.proofs.Common.{ap, arith, length, Bool, ℕ}
use Rattle.std.proofs.lemmas.List.{length-replicate}
use Rattle.bp_volume.proofs.MountLaws.{mount_safe, mounted_fresh, mounted_roles, mounted_size, mounted_sized, mounted_wide}
use Rattle.bp_volume.proofs.volume.Volume.mount.Goals as goal

pub scanned-requires-clause-wide : goal.scanned-requires-clause-wide
scanned-requires-clause-wide g c = mounted_wide c.by_magic.result (g.R.Region.memory c.args.region) c.requires.sized c.requires.fresh c.by_magic.ensures

pub scanned-requires-clause-roles : goal.scanned-requires-clause-roles
scanned-requires-clause-roles g c = mounted_roles c.by_magic.result (g.R.Region.memory c.args.region) c.requires.sized c.requires.fresh c.by_magic.ensures

pub scanned-requires-clause-sized : goal.scanned-requires-clause-sized
scanned-requires-clause-sized g c = mounted_sized c.by_magic.result (g.R.Region.memory c.args.region) c.requires.sized c.requires.fresh c.by_magic.ensures

pub scanned-requires-clause-fresh : goal.scanned-requires-clause-fresh
scanned-requires-clause-fresh g c = mounted_fresh c.by_magic.result (g.R.Region.memory c.args.region) c.requires.sized c.requires.fresh c.by_magic.ensures

pub scanned-requires-clause-blocks : goal.scanned-requires-clause-blocks
scanned-requires-clause-blocks g c =
    omega (arith, mounted_size c.by_magic.result (g.R.Region.memory c.args.region) c.requires.sized c.requires.fresh c.by_magic.ensures, c.words.ensures.count, ap length c.in-Ok.ensures.blocks, length-replicate {A = Bool})

pub scanned-requires-clause-inodes : goal.scanned-requires-clause-inodes
scanned-requires-clause-inodes g c =
    omega (arith, mounted_size c.by_magic.result (g.R.Region.memory c.args.region) c.requires.sized c.requires.fresh c.by_magic.ensures, c.words.ensures.count, ap length c.in-Ok.ensures.inodes, length-replicate {A = Bool})

pub scanned-requires-clause-counts : goal.scanned-requires-clause-counts
scanned-requires-clause-counts g c =
    omega (arith, mounted_size c.by_magic.result (g.R.Region.memory c.args.region) c.requires.sized c.requires.fresh c.by_magic.ensures, c.words.ensures.count, ap length c.in-Ok.ensures.counts, length-replicate {A = ℕ})

pub scanned-requires-clause-snapshot_blocks : goal.scanned-requires-clause-snapshot_blocks
scanned-requires-clause-snapshot_blocks g c =
    omega (arith, mounted_size c.by_magic.result (g.R.Region.memory c.args.region) c.requires.sized c.requires.fresh c.by_magic.ensures, c.words.ensures.count, ap length c.in-Ok.ensures.snapshot_blocks, length-replicate {A = Bool})

pub scanned-requires-clause-pending : goal.scanned-requires-clause-pending
scanned-requires-clause-pending g c = omega (arith, mounted_size c.by_magic.result (g.R.Region.memory c.args.region) c.requires.sized c.requires.fresh c.by_magic.ensures, c.words.ensures.count, c.in-Ok.ensures.pending)

pub scanned-requires-clause-right : goal.scanned-requires-clause-right
scanned-requires-clause-right g c = c.in-Ok.ensures.right _

pub returns-in-Ok-scanned-clause-safe : goal.returns-in-Ok-scanned-clause-safe
returns-in-Ok-scanned-clause-safe g c =
    mount_safe c.by_magic.result (g.R.Region.memory c.args.region) c.requires.sized c.requires.fresh c.by_magic.ensures c.in-Ok-scanned.volume c.in-Ok-scanned.ensures.same c.in-Ok-scanned.ensures.well_formed
