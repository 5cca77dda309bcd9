use Rattle.std.proofs.Common.{rules, Some, ap, sym, ◌∙◌}
use Rattle.bpfs_c.specs.Serves.Asks.{asked}
use Rattle.bp_volume.specs.Seen.{links_answer}
use Rattle.bpfs_c.proofs.Keeping.{links_keeps}
use Rattle.bpfs_c.proofs.queries.bpfs_links.Goals as goal

pub returns : goal.returns
returns c =
    let held = c.in-Some.mounted.value in
    asked held (links_answer c.look_links.result) (search rules) (search rules)
    (search rules ∙ ap (λ kept. Some (record held { listing = kept })) (sym (links_keeps held.listing c.look_links.result)))
    (search rules)
