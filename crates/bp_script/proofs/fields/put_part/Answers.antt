use Rattle.std.proofs.Common.{arith, rules, ap, length}
use Rattle.percent_encoding.specs.Iter.{decoded_bytes}
use Rattle.percent_encoding.proofs.PercentLemmas.{length-percent_decode}
use Rattle.bp_script.proofs.fields.put_part.Goals as goal

pub loop-byte-init : goal.loop-byte-init
loop-byte-init c = record {
  items = search rules;
  later = omega arith;
  within = omega (arith, c.requires.within);
  len = omega (
    arith,
    (length-percent_decode c.args.part.now).0,
    ap length c.percent_decode-byte-items.ensures.bytes,
    ap (λ it. length (decoded_bytes it)) c.into_iter-byte-iterator.ensures.into_iter_gives,
  );
  room = omega arith;
}

pub put_byte-requires : goal.put_byte-requires
put_byte-requires c = omega (arith, ap length c.in-Some.ensures.steps, c.requires)
