use Rattle.std.proofs.Common.{◌≡◌, arith, codes, refl}
use Rattle.std.proofs.lemmas.Slice.Eq.{text_from_reads}
use Rattle.bp_script.proofs.lines.bare_call.Goals as goal

pub returns-in-upgrade : goal.returns-in-upgrade
returns-in-upgrade c =
    let same : c.args.verb.now ≡ codes "upgrade" = text_from_reads c.args.verb.now (codes "upgrade") (omega arith) (omega arith) in
    rw same refl

pub returns-in-snap : goal.returns-in-snap
returns-in-snap c =
    let same : c.args.verb.now ≡ codes "snap" = text_from_reads c.args.verb.now (codes "snap") (omega arith) (omega arith) in
    rw same refl

pub returns-in-unsnap : goal.returns-in-unsnap
returns-in-unsnap c =
    let same : c.args.verb.now ≡ codes "unsnap" = text_from_reads c.args.verb.now (codes "unsnap") (omega arith) (omega arith) in
    rw same refl
