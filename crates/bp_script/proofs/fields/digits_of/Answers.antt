use Rattle.std.proofs.Common.{◌≡◌, arith, codes, refl}
use Rattle.std.proofs.lemmas.Slice.Eq.{text_from_reads}
use Rattle.hex.specs.Hex.{decode_pairs}
use Rattle.bp_script.proofs.fields.digits_of.Goals as goal

pub returns-in-45-clause-bytes : goal.returns-in-45-clause-bytes
unfolding decode_pairs
returns-in-45-clause-bytes c =
    let same : c.args.word.now ≡ codes "-" = text_from_reads c.args.word.now (codes "-") (omega arith) (omega arith) in
    rw same refl
