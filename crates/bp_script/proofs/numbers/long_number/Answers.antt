use Rattle.std.proofs.Common.{◌≡◌, ◌∙◌, get_or, refl, sym, ap, arith}
use Rattle.std.specs.Str.Parse.{digits_value}
use Rattle.std.proofs.lemmas.Int.Digits.{digits_value_more}
use Rattle.std.proofs.lemmas.List.{take_all}
use Rattle.std.proofs.lemmas.List.Folds.{list_all_more}
use Rattle.std.specs.Char.{is_ascii_digit}
use Rattle.std.specs.List.{list_all}
use Rattle.bp_script.proofs.NumberWords.{digit_is, number_is, number_too_large}
use Rattle.bp_script.proofs.numbers.long_number.Goals as goal

pub returns-in_err-checked_mul : goal.returns-in_err-checked_mul
returns-in_err-checked_mul c =
    c.from_residual.ensures ∙ sym (number_too_large c.args.word.now c.loop-byte.byte-index (omega arith) (omega (arith, c.loop-byte.invariant.value, c.in_err-checked_mul.ensures)))

pub returns-in_err-value : goal.returns-in_err-value
returns-in_err-value c =
    let byte = get_or c.args.word.now c.loop-byte.byte-index 0 in
    let digit = digit_is byte (c.type_inv.word c.loop-byte.byte-index).fits (sym c.is_ascii_digit.ensures.value ∙ c.if-not-is_ascii_digit.false) in
    c.from_residual-in_err-value.ensures
    ∙ sym (number_too_large c.args.word.now c.loop-byte.byte-index (omega arith) (omega (arith, digit, c.loop-byte.invariant.value, c.in_ok-checked_mul.ensures.1, c.in_err-value.ensures)))

pub loop-byte-preserved : goal.loop-byte-preserved
loop-byte-preserved c =
    let word = c.args.word.now in
    let i = c.loop-byte.byte-index in
    let is = sym c.is_ascii_digit.ensures.value ∙ c.if-not-is_ascii_digit.false in
    let digit = digit_is (get_or word i 0) (c.type_inv.word i).fits is in record {
      value = omega (arith, digit, digits_value_more 10 word i (omega arith), c.loop-byte.invariant.value, c.in_ok-checked_mul.ensures.1, c.in_ok-value.ensures.1);
      fits = omega (arith, c.in_ok-value.ensures.0, c.in_ok-value.ensures.1);
      digits = list_all_more is_ascii_digit word i 0 (omega arith) ∙ rw (c.loop-byte.invariant.digits, is) refl;
    }

pub returns : goal.returns
returns c =
    let word = c.args.word.now in
    let all = take_all c.loop-byte.byte-index word (omega arith) in
    let value : c.loop-byte.value ≡ digits_value 10 word = c.loop-byte.invariant.value ∙ ap (digits_value 10) all in
    let digits = ap (list_all is_ascii_digit) (sym all) ∙ c.loop-byte.invariant.digits in
    rw value (sym (number_is word (omega arith) (omega arith) digits (omega (arith, value, c.loop-byte.invariant.fits))))
