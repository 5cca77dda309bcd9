use Rattle.std.proofs.Common.{rules, Some, ap, sym, ◌∙◌}
use Rattle.bpfs_c.specs.Serves.Asks.{asked}
use Rattle.bp_volume.specs.Seen.{read_answer_of}
use Rattle.bpfs_c.proofs.Report.{read_reported}
use Rattle.bpfs_c.proofs.Keeping.{read_keeps}
use Rattle.bpfs_c.proofs.queries.bpfs_read.Goals as goal

pub returns : goal.returns
returns c =
    let held = c.in-Some.mounted.value in
    asked held (read_answer_of c.look_read.result c.look_read.new.into) (search rules) (search rules)
    (search rules ∙ ap (λ kept. Some (record held { listing = kept })) (sym (read_keeps held.listing c.look_read.result c.look_read.new.into)))
    (read_reported c.look_read.result c.args.into.now c.look_read.new.into c.args.count.now _ _
    (search rules) c.look_read.ensures.fits c.look_read.ensures.rest c.look_read.ensures.unread)
