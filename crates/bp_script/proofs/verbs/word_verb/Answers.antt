use Rattle.std.proofs.Common.{◌≡◌, arith, codes, refl}
use Rattle.std.proofs.lemmas.Slice.Eq.{text_from_reads}
use Rattle.bp_script.proofs.verbs.word_verb.Goals as goal

pub returns-in-create : goal.returns-in-create
returns-in-create c =
    let same : c.args.verb.now ≡ codes "create" = text_from_reads c.args.verb.now (codes "create") (omega arith) (omega arith) in
    λ word. rw same refl

pub returns-in-unlink : goal.returns-in-unlink
returns-in-unlink c =
    let same : c.args.verb.now ≡ codes "unlink" = text_from_reads c.args.verb.now (codes "unlink") (omega arith) (omega arith) in
    λ word. rw same refl

pub returns-in-links : goal.returns-in-links
returns-in-links c =
    let same : c.args.verb.now ≡ codes "links" = text_from_reads c.args.verb.now (codes "links") (omega arith) (omega arith) in
    λ word. rw same refl

pub returns-in-slist : goal.returns-in-slist
returns-in-slist c =
    let same : c.args.verb.now ≡ codes "slist" = text_from_reads c.args.verb.now (codes "slist") (omega arith) (omega arith) in
    λ word. rw same refl

pub returns-in-sstat : goal.returns-in-sstat
returns-in-sstat c =
    let same : c.args.verb.now ≡ codes "sstat" = text_from_reads c.args.verb.now (codes "sstat") (omega arith) (omega arith) in
    λ word. rw same refl

pub returns-in-upgrade : goal.returns-in-upgrade
returns-in-upgrade c =
    let same : c.args.verb.now ≡ codes "upgrade" = text_from_reads c.args.verb.now (codes "upgrade") (omega arith) (omega arith) in
    λ word. rw same refl
