use Rattle.std.proofs.Common.{◌≡◌, arith, codes, refl}
use Rattle.std.proofs.lemmas.Slice.Eq.{text_from_reads}
use Rattle.bp_script.proofs.verbs.pair_verb.Goals as goal

pub returns-in-truncate : goal.returns-in-truncate
returns-in-truncate c =
    let same : c.args.verb.now ≡ codes "truncate" = text_from_reads c.args.verb.now (codes "truncate") (omega arith) (omega arith) in
    λ path last. rw same refl

pub returns-in-rename : goal.returns-in-rename
returns-in-rename c =
    let same : c.args.verb.now ≡ codes "rename" = text_from_reads c.args.verb.now (codes "rename") (omega arith) (omega arith) in
    λ path last. rw same refl
