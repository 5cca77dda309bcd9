use Rattle.std.proofs.Common.{rules, Some, ap, sym, ◌∙◌}
use Rattle.bpfs_c.specs.Serves.Asks.{asked}
use Rattle.bp_volume.specs.Seen.{attribute_answer}
use Rattle.bpfs_c.proofs.Keeping.{attribute_keeps}
use Rattle.bpfs_c.proofs.attributes.bpfs_attribute.Goals as goal

pub returns-clause-fit : goal.returns-clause-fit
returns-clause-fit c fit =
    let held = c.in-Some.mounted.value in
    asked held (attribute_answer c.look_attribute.result) (search rules) (search rules)
    (search rules ∙ ap (λ kept. Some (record held { listing = kept })) (sym (attribute_keeps held.listing c.look_attribute.result)))
    (search rules)
