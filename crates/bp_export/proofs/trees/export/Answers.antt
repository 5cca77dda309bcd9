use Rattle.std.proofs.Common.{[], sym, ◌∙◌, true≢false, arith}
use Rattle.std.specs.Prelude.{Err, Ok}
use Rattle.std.proofs.lemmas.Result.{err_from_is_err_and}
use Rattle.bp_layout.specs.Reached.IsReached.{root_directory}
use Rattle.bp_plain.specs.Export.{HasShortPaths, export_calls}
use Rattle.bp_plain.specs.PlainTree.{FileTree}
use Rattle.bp_plain.specs.Stands.{Stands}
use Rattle.bp_plain.proofs.Existence.{stands_for, tree_of}
use Rattle.bp_replies.specs.Gathering.{waiting}
use Rattle.pm_region.specs.Memory.{current_words}
use Rattle.bp_export.proofs.DepthLaws.{deep_where_long, short_if_none}
use Rattle.bp_export.proofs.EndLaws.{ends_deep, ends_handed, ends_unhanded, ends_walk}
use Rattle.bp_export.proofs.GoingLaws.{goes_nowhere}
use Rattle.bp_export.proofs.Places.{root_place, stands_at_root}
use Rattle.bp_export.proofs.TreeLaws.{can_export, fits_root, root_fails, root_then}
use Rattle.bp_export.specs.Walking.{CanExport, WalkStandsAt, inside}
use Rattle.bp_export.proofs.trees.export.Goals as goal

pub has_long_path-requires-clause-well_formed : goal.has_long_path-requires-clause-well_formed
has_long_path-requires-clause-well_formed g c = c.requires.file_system.first

pub has_long_path-requires-clause-reached : goal.has_long_path-requires-clause-reached
has_long_path-requires-clause-reached g c = root_directory

pub has_long_path-requires-clause-directory : goal.has_long_path-requires-clause-directory
has_long_path-requires-clause-directory g c = c.requires.file_system.first.root_kind

pub returns-then-has_long_path : goal.returns-then-has_long_path
returns-then-has_long_path g c tree stands =
    ends_deep (Unit {0}) tree (g.K.Sink.view c.args.out.now)
    ((deep_where_long _ tree stands c.has_long_path.result c.has_long_path.ensures).0 c.if-has_long_path.true)

pub returns-in_err-work : goal.returns-in_err-work
returns-in_err-work g c tree stands =
    let p = err_from_is_err_and c.from_residual.result c.from_residual.ensures.1 in
    let short : HasShortPaths tree = short_if_none _ tree stands (λ has. true≢false (sym (c.has_long_path.ensures.1 has) ∙ c.if-has_long_path.false)) in
    rw p.1
    (ends_walk (Unit {0}) tree (g.K.Sink.view c.args.out.now) short (Unit {0}) p.0 [] (g.K.Sink.view c.args.out.now)
    (goes_nowhere (Unit {0}) p.0 p.2 (export_calls tree) [] (g.K.Sink.view c.args.out.now)))

-- ---- the attributes of the root

pub export_attributes-requires-clause-inode : goal.export_attributes-requires-clause-inode
export_attributes-requires-clause-inode g c =
    record { well_formed = c.requires.file_system.first; reached = root_directory; some = omega arith; known = c.has_attributes-attributes.ensures }

pub export_attributes-requires-clause-short : goal.export_attributes-requires-clause-short
export_attributes-requires-clause-short g c =
    let image = current_words (g.R.Region.memory c.args.region.now) in
    let tree : FileTree = tree_of image c.requires.file_system.first c.requires.file_system.second in
    let stands : Stands image tree = stands_for image c.requires.file_system.first c.requires.file_system.second in
    let short : HasShortPaths tree = short_if_none image tree stands (λ has. true≢false (sym (c.has_long_path.ensures.1 has) ∙ c.if-has_long_path.false)) in
    fits_root image tree stands short c.args.counts.now c.in_ok-work.work.firsts c.in_ok-work.ensures.firsts

pub returns-in_err-export_attributes : goal.returns-in_err-export_attributes
returns-in_err-export_attributes g c tree stands =
    let p = err_from_is_err_and c.from_residual-in_err-export_attributes.result c.from_residual-in_err-export_attributes.ensures.1 in
    let image = current_words (g.R.Region.memory c.args.region.now) in
    let short : HasShortPaths tree = short_if_none image tree stands (λ has. true≢false (sym (c.has_long_path.ensures.1 has) ∙ c.if-has_long_path.false)) in
    rw p.1
    (ends_walk (Unit {0}) tree (g.K.Sink.view c.args.out.now) short (Unit {0}) p.0 (waiting c.export_attributes.new.replies) (g.K.Sink.view c.export_attributes.new.out)
    (root_fails image tree stands short c.args.counts.now c.in_ok-work.work.firsts c.in_ok-work.ensures.firsts (waiting c.in_ok-work.work.replies) c.in_ok-work.ensures.waits (Unit {0}) (Unit {0}) _ p.0 p.2 _ _ _ c.in_err-export_attributes.ensures))

-- ---- the lines below the root

pub export_below-requires-clause-well_formed : goal.export_below-requires-clause-well_formed
export_below-requires-clause-well_formed g c = c.requires.file_system.first

pub export_below-requires-clause-directory : goal.export_below-requires-clause-directory
export_below-requires-clause-directory g c = c.requires.file_system.first.root_kind

pub export_below-requires-clause-counts : goal.export_below-requires-clause-counts
export_below-requires-clause-counts g c = c.requires.counts

pub export_below-requires-clause-inodes : goal.export_below-requires-clause-inodes
export_below-requires-clause-inodes g c = c.requires.inodes

pub export_below-requires-clause-attributes : goal.export_below-requires-clause-attributes
export_below-requires-clause-attributes g c = c.in_ok-work.ensures.attributes ∙ c.has_attributes-attributes.ensures

pub export_below-requires-clause-stands : goal.export_below-requires-clause-stands
export_below-requires-clause-stands g c =
    let image = current_words (g.R.Region.memory c.args.region.now) in
    let tree : FileTree = tree_of image c.requires.file_system.first c.requires.file_system.second in
    let stands : Stands image tree = stands_for image c.requires.file_system.first c.requires.file_system.second in
    let short : HasShortPaths tree = short_if_none image tree stands (λ has. true≢false (sym (c.has_long_path.ensures.1 has) ∙ c.if-has_long_path.false)) in
    let can : CanExport image tree.now = can_export image tree stands short in
    (root_place image tree.now can, rw c.in_ok-work.ensures.path (stands_at_root image tree.now can c.args.counts.now c.in_ok-work.work.firsts c.in_ok-work.ensures.firsts))

pub returns-in_err-export_below : goal.returns-in_err-export_below
returns-in_err-export_below g c tree stands =
    let p = err_from_is_err_and c.from_residual-in_err-export_below.result c.from_residual-in_err-export_below.ensures.1 in
    let image = current_words (g.R.Region.memory c.args.region.now) in
    let short : HasShortPaths tree = short_if_none image tree stands (λ has. true≢false (sym (c.has_long_path.ensures.1 has) ∙ c.if-has_long_path.false)) in
    let can : CanExport image tree.now = can_export image tree stands short in
    let there : WalkStandsAt image c.args.counts.now inside 1 c.in_ok-work.work.path.items c.in_ok-work.work.firsts (root_place image tree.now can) =
    rw c.in_ok-work.ensures.path (stands_at_root image tree.now can c.args.counts.now c.in_ok-work.work.firsts c.in_ok-work.ensures.firsts) in
    rw (p.1, p.2)
    (ends_walk (Unit {0}) tree (g.K.Sink.view c.args.out.now) short (Unit {0}) c.in_err-export_below.field-0.0 (waiting c.export_below.new.work.replies) (g.K.Sink.view c.export_below.new.out)
    (root_then image tree stands short c.args.counts.now c.in_ok-work.work.firsts c.in_ok-work.ensures.firsts (waiting c.in_ok-work.work.replies) c.in_ok-work.ensures.waits {T = Unit {0}} _ (Err c.in_err-export_below.field-0.0) (waiting c.export_attributes.new.replies) (waiting c.export_below.new.work.replies) (g.K.Sink.view c.args.out.now) (g.K.Sink.view c.export_attributes.new.out) (g.K.Sink.view c.export_below.new.out) c.in_ok-export_attributes.ensures (c.in_err-export_below.ensures.tours (root_place image tree.now can) there).goes))

pub returns-in_err-hand_over : goal.returns-in_err-hand_over
returns-in_err-hand_over g c tree stands =
    let p = err_from_is_err_and c.from_residual-in_err-hand_over.result c.from_residual-in_err-hand_over.ensures.1 in
    let image = current_words (g.R.Region.memory c.args.region.now) in
    let short : HasShortPaths tree = short_if_none image tree stands (λ has. true≢false (sym (c.has_long_path.ensures.1 has) ∙ c.if-has_long_path.false)) in
    let can : CanExport image tree.now = can_export image tree stands short in
    let there : WalkStandsAt image c.args.counts.now inside 1 c.in_ok-work.work.path.items c.in_ok-work.work.firsts (root_place image tree.now can) =
    rw c.in_ok-work.ensures.path (stands_at_root image tree.now can c.args.counts.now c.in_ok-work.work.firsts c.in_ok-work.ensures.firsts) in
    rw p.1
    (ends_unhanded (Unit {0}) tree (g.K.Sink.view c.args.out.now) short c.in_ok-export_below.field-0 p.0 p.2 (waiting c.export_below.new.work.replies) (g.K.Sink.view c.export_below.new.out) (g.K.Sink.view c.hand_over.new.out)
    (root_then image tree stands short c.args.counts.now c.in_ok-work.work.firsts c.in_ok-work.ensures.firsts (waiting c.in_ok-work.work.replies) c.in_ok-work.ensures.waits {T = Unit {0}} _ (Ok c.in_ok-export_below.field-0) (waiting c.export_attributes.new.replies) (waiting c.export_below.new.work.replies) (g.K.Sink.view c.args.out.now) (g.K.Sink.view c.export_attributes.new.out) (g.K.Sink.view c.export_below.new.out) c.in_ok-export_attributes.ensures (c.in_ok-export_below.ensures.tours (root_place image tree.now can) there).goes)
    c.in_err-hand_over.ensures.some c.in_err-hand_over.ensures.cause.failed)

pub returns : goal.returns
returns g c tree stands =
    let image = current_words (g.R.Region.memory c.args.region.now) in
    let short : HasShortPaths tree = short_if_none image tree stands (λ has. true≢false (sym (c.has_long_path.ensures.1 has) ∙ c.if-has_long_path.false)) in
    let can : CanExport image tree.now = can_export image tree stands short in
    let there : WalkStandsAt image c.args.counts.now inside 1 c.in_ok-work.work.path.items c.in_ok-work.work.firsts (root_place image tree.now can) =
    rw c.in_ok-work.ensures.path (stands_at_root image tree.now can c.args.counts.now c.in_ok-work.work.firsts c.in_ok-work.ensures.firsts) in
    ends_handed (Unit {0}) tree (g.K.Sink.view c.args.out.now) short c.in_ok-export_below.field-0 (tt {0}) (waiting c.export_below.new.work.replies) (g.K.Sink.view c.export_below.new.out) (g.K.Sink.view c.hand_over.new.out)
    (root_then image tree stands short c.args.counts.now c.in_ok-work.work.firsts c.in_ok-work.ensures.firsts (waiting c.in_ok-work.work.replies) c.in_ok-work.ensures.waits {T = Unit {0}} _ (Ok c.in_ok-export_below.field-0) (waiting c.export_attributes.new.replies) (waiting c.export_below.new.work.replies) (g.K.Sink.view c.args.out.now) (g.K.Sink.view c.export_attributes.new.out) (g.K.Sink.view c.export_below.new.out) c.in_ok-export_attributes.ensures (c.in_ok-export_below.ensures.tours (root_place image tree.now can) there).goes)
    c.in_ok-hand_over.ensures.all c.in_ok-hand_over.ensures.cause.same
