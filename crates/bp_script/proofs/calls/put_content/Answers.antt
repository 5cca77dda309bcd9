use Rattle.std.proofs.Common.{◌≡◌, ◌*◌, ◌<◌, ℕ, List, [], ◌∷◌, length, arith}
use Rattle.hex.specs.Hex.{lower_digits}
use Rattle.hex.proofs.HexLemmas.{length-encode_with}
use Rattle.bp_script.specs.Texts.{digits_or_dash}
use Rattle.bp_script.proofs.calls.put_content.Goals as goal

-- the digits of some bytes are twice as many
digits_long : (bytes : List ℕ) → 0 < length bytes → length (digits_or_dash bytes) ≡ 2 * length bytes
digits_long [] some = absurd (omega (arith, some))
digits_long (b ∷ bytes) some = length-encode_with lower_digits (b ∷ bytes)

pub put_digits-requires : goal.put_digits-requires
put_digits-requires c = omega (arith, c.requires, digits_long c.args.bytes.now (grind (arith, c.if-is_empty.ensures, c.if-is_empty.false)))

pub returns-else-is_empty-clause-end : goal.returns-else-is_empty-clause-end
returns-else-is_empty-clause-end c = omega (arith, c.put_digits.ensures.end, digits_long c.args.bytes.now (grind (arith, c.if-is_empty.ensures, c.if-is_empty.false)))
