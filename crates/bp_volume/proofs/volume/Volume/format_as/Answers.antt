use Rattle.std.proofs.Common.{◌≤◌, ◌∙◌, Bool, ℕ, ap, arith, length, sym, subst}
use Rattle.std.proofs.lemmas.List.{length-replicate}
use Rattle.bp_limits.specs.Limits.{call_room}
use Rattle.bp_roles.specs.Seen.{MemoryByRoles}
use Rattle.bp_mount.proofs.LaidLaws.{drained_format, length_laid}
use Rattle.bp_volume.proofs.MountLaws.{format_capacity, format_empty, format_fresh, format_roles, format_safe, format_size, format_well_formed, format_wide}
use Rattle.bp_volume.proofs.volume.Volume.format_as.Goals as goal

pub new-view-requires : goal.new-view-requires
new-view-requires g c =
    omega (arith, (length_laid (g.R.Region.memory c.args.region) (g.R.Region.memory c.lay_out.new.region) _ (g.R.Region.memory c.drain.new.self) c.lay_out.ensures.stores c.drain.ensures), c.requires.sized.whole, c.requires.sized.at_least)

pub of_file_system-requires-clause-wide : goal.of_file_system-requires-clause-wide
of_file_system-requires-clause-wide g c =
    format_wide (g.R.Region.memory c.args.region) c.args.version c.requires.sized (g.R.Region.memory c.drain.new.self) (c.drain.ensures ∙ drained_format c.args.version (g.R.Region.memory c.args.region) _ c.requires.fresh c.lay_out.ensures.stores) (length_laid (g.R.Region.memory c.args.region) (g.R.Region.memory c.lay_out.new.region) _ (g.R.Region.memory c.drain.new.self) c.lay_out.ensures.stores c.drain.ensures) c.new-view.result c.new-view.ensures

pub of_file_system-requires-clause-roles : goal.of_file_system-requires-clause-roles
of_file_system-requires-clause-roles g c =
    format_roles (g.R.Region.memory c.args.region) c.args.version c.requires.sized (g.R.Region.memory c.drain.new.self) (c.drain.ensures ∙ drained_format c.args.version (g.R.Region.memory c.args.region) _ c.requires.fresh c.lay_out.ensures.stores) (length_laid (g.R.Region.memory c.args.region) (g.R.Region.memory c.lay_out.new.region) _ (g.R.Region.memory c.drain.new.self) c.lay_out.ensures.stores c.drain.ensures) c.new-view.result c.new-view.ensures

pub of_file_system-requires-clause-well_formed : goal.of_file_system-requires-clause-well_formed
of_file_system-requires-clause-well_formed g c =
    format_well_formed (g.R.Region.memory c.args.region) c.args.version c.requires.sized (g.R.Region.memory c.drain.new.self) (c.drain.ensures ∙ drained_format c.args.version (g.R.Region.memory c.args.region) _ c.requires.fresh c.lay_out.ensures.stores) (length_laid (g.R.Region.memory c.args.region) (g.R.Region.memory c.lay_out.new.region) _ (g.R.Region.memory c.drain.new.self) c.lay_out.ensures.stores c.drain.ensures) c.new-view.result c.new-view.ensures

pub of_file_system-requires-clause-fresh : goal.of_file_system-requires-clause-fresh
of_file_system-requires-clause-fresh g c =
    format_fresh (g.R.Region.memory c.args.region) c.args.version c.requires.sized (g.R.Region.memory c.drain.new.self) (c.drain.ensures ∙ drained_format c.args.version (g.R.Region.memory c.args.region) _ c.requires.fresh c.lay_out.ensures.stores) (length_laid (g.R.Region.memory c.args.region) (g.R.Region.memory c.lay_out.new.region) _ (g.R.Region.memory c.drain.new.self) c.lay_out.ensures.stores c.drain.ensures) c.new-view.result c.new-view.ensures

pub of_file_system-requires-clause-roomy : goal.of_file_system-requires-clause-roomy
of_file_system-requires-clause-roomy g c =
    subst (λ n. call_room ≤ n) (sym (format_capacity (g.R.Region.memory c.args.region) c.args.version c.requires.sized (g.R.Region.memory c.drain.new.self) (c.drain.ensures ∙ drained_format c.args.version (g.R.Region.memory c.args.region) _ c.requires.fresh c.lay_out.ensures.stores) (length_laid (g.R.Region.memory c.args.region) (g.R.Region.memory c.lay_out.new.region) _ (g.R.Region.memory c.drain.new.self) c.lay_out.ensures.stores c.drain.ensures) c.new-view.result c.new-view.ensures)) c.requires.roomy

pub of_file_system-requires-clause-blocks : goal.of_file_system-requires-clause-blocks
of_file_system-requires-clause-blocks g c =
    let size = format_size (g.R.Region.memory c.args.region) c.args.version c.requires.sized (g.R.Region.memory c.drain.new.self) (c.drain.ensures ∙ drained_format c.args.version (g.R.Region.memory c.args.region) _ c.requires.fresh c.lay_out.ensures.stores) (length_laid (g.R.Region.memory c.args.region) (g.R.Region.memory c.lay_out.new.region) _ (g.R.Region.memory c.drain.new.self) c.lay_out.ensures.stores c.drain.ensures) c.new-view.result c.new-view.ensures in
    omega (arith, size, c.words.ensures.count, ap length c.in-Ok.ensures.blocks, length-replicate {A = Bool})

pub of_file_system-requires-clause-inodes : goal.of_file_system-requires-clause-inodes
of_file_system-requires-clause-inodes g c =
    let size = format_size (g.R.Region.memory c.args.region) c.args.version c.requires.sized (g.R.Region.memory c.drain.new.self) (c.drain.ensures ∙ drained_format c.args.version (g.R.Region.memory c.args.region) _ c.requires.fresh c.lay_out.ensures.stores) (length_laid (g.R.Region.memory c.args.region) (g.R.Region.memory c.lay_out.new.region) _ (g.R.Region.memory c.drain.new.self) c.lay_out.ensures.stores c.drain.ensures) c.new-view.result c.new-view.ensures in
    omega (arith, size, c.words.ensures.count, ap length c.in-Ok.ensures.inodes, length-replicate {A = Bool})

pub of_file_system-requires-clause-counts : goal.of_file_system-requires-clause-counts
of_file_system-requires-clause-counts g c =
    let size = format_size (g.R.Region.memory c.args.region) c.args.version c.requires.sized (g.R.Region.memory c.drain.new.self) (c.drain.ensures ∙ drained_format c.args.version (g.R.Region.memory c.args.region) _ c.requires.fresh c.lay_out.ensures.stores) (length_laid (g.R.Region.memory c.args.region) (g.R.Region.memory c.lay_out.new.region) _ (g.R.Region.memory c.drain.new.self) c.lay_out.ensures.stores c.drain.ensures) c.new-view.result c.new-view.ensures in
    omega (arith, size, c.words.ensures.count, ap length c.in-Ok.ensures.counts, length-replicate {A = ℕ})

pub of_file_system-requires-clause-snapshot_blocks : goal.of_file_system-requires-clause-snapshot_blocks
of_file_system-requires-clause-snapshot_blocks g c =
    let size = format_size (g.R.Region.memory c.args.region) c.args.version c.requires.sized (g.R.Region.memory c.drain.new.self) (c.drain.ensures ∙ drained_format c.args.version (g.R.Region.memory c.args.region) _ c.requires.fresh c.lay_out.ensures.stores) (length_laid (g.R.Region.memory c.args.region) (g.R.Region.memory c.lay_out.new.region) _ (g.R.Region.memory c.drain.new.self) c.lay_out.ensures.stores c.drain.ensures) c.new-view.result c.new-view.ensures in
    omega (arith, size, c.words.ensures.count, ap length c.in-Ok.ensures.snapshot_blocks, length-replicate {A = Bool})

pub of_file_system-requires-clause-pending : goal.of_file_system-requires-clause-pending
of_file_system-requires-clause-pending g c =
    let size = format_size (g.R.Region.memory c.args.region) c.args.version c.requires.sized (g.R.Region.memory c.drain.new.self) (c.drain.ensures ∙ drained_format c.args.version (g.R.Region.memory c.args.region) _ c.requires.fresh c.lay_out.ensures.stores) (length_laid (g.R.Region.memory c.args.region) (g.R.Region.memory c.lay_out.new.region) _ (g.R.Region.memory c.drain.new.self) c.lay_out.ensures.stores c.drain.ensures) c.new-view.result c.new-view.ensures in
    omega (arith, size, c.words.ensures.count, c.in-Ok.ensures.pending)

pub of_file_system-requires-clause-right : goal.of_file_system-requires-clause-right
of_file_system-requires-clause-right g c = c.in-Ok.ensures.right _

pub returns-clause-made : goal.returns-clause-made
returns-clause-made g c = c.of_file_system.ensures ∙ ap (λ (it : MemoryByRoles). it.memory) c.new-view.ensures ∙ (c.drain.ensures ∙ drained_format c.args.version (g.R.Region.memory c.args.region) _ c.requires.fresh c.lay_out.ensures.stores)

pub returns-clause-empty : goal.returns-clause-empty
returns-clause-empty g c =
    format_empty (g.R.Region.memory c.args.region) c.args.version c.requires.sized (g.R.Region.memory c.drain.new.self) (c.drain.ensures ∙ drained_format c.args.version (g.R.Region.memory c.args.region) _ c.requires.fresh c.lay_out.ensures.stores) (length_laid (g.R.Region.memory c.args.region) (g.R.Region.memory c.lay_out.new.region) _ (g.R.Region.memory c.drain.new.self) c.lay_out.ensures.stores c.drain.ensures) c.of_file_system.result (c.of_file_system.ensures ∙ ap (λ (it : MemoryByRoles). it.memory) c.new-view.ensures)

pub returns-clause-safe : goal.returns-clause-safe
returns-clause-safe g c =
    format_safe (g.R.Region.memory c.args.region) c.args.version c.requires.sized (g.R.Region.memory c.drain.new.self) (c.drain.ensures ∙ drained_format c.args.version (g.R.Region.memory c.args.region) _ c.requires.fresh c.lay_out.ensures.stores) (length_laid (g.R.Region.memory c.args.region) (g.R.Region.memory c.lay_out.new.region) _ (g.R.Region.memory c.drain.new.self) c.lay_out.ensures.stores c.drain.ensures) c.of_file_system.result (c.of_file_system.ensures ∙ ap (λ (it : MemoryByRoles). it.memory) c.new-view.ensures)
