use Rattle.std.proofs.Common.{◌≡◌, ◌∙◌, get_or, take, refl, sym, ap, arith}
use Rattle.std.specs.Str.Parse.{digits_value}
use Rattle.std.proofs.lemmas.Int.Digits.{digits_value_more}
use Rattle.std.proofs.lemmas.List.{length-take, take_all}
use Rattle.std.proofs.lemmas.List.Folds.{list_all_more}
use Rattle.std.specs.Char.{is_ascii_digit}
use Rattle.std.specs.List.{list_all}
use Rattle.bp_script.proofs.NumberWords.{all_fit, bytes_of_prefix, digit_is, few_fit, is_digit, number_is}
use Rattle.bp_script.proofs.numbers.short_number.Goals as goal

pub overflow_mul-value : goal.overflow_mul-value
overflow_mul-value c =
    let word = c.args.word.now in
    let i = c.loop-byte.byte-index in
    let fits = few_fit (take i word) (bytes_of_prefix word i (λ k. (c.type_inv.word k).fits)) c.loop-byte.invariant.digits (omega (arith, length-take i word)) in
    record { fits = omega (arith, fits, c.loop-byte.invariant.value) }

pub overflow_add-value : goal.overflow_add-value
overflow_add-value c =
    let word = c.args.word.now in
    let i = c.loop-byte.byte-index in
    let fits = few_fit (take i word) (bytes_of_prefix word i (λ k. (c.type_inv.word k).fits)) c.loop-byte.invariant.digits (omega (arith, length-take i word)) in
    let digit = is_digit (get_or word i 0) (sym c.is_ascii_digit.ensures.value ∙ c.if-not-is_ascii_digit.false) in
    record { fits = omega (arith, fits, digit, c.loop-byte.invariant.value) }

pub loop-byte-preserved : goal.loop-byte-preserved
loop-byte-preserved c =
    let word = c.args.word.now in
    let i = c.loop-byte.byte-index in
    let is = sym c.is_ascii_digit.ensures.value ∙ c.if-not-is_ascii_digit.false in
    let digit = digit_is (get_or word i 0) (c.type_inv.word i).fits is in record {
      value = omega (arith, digit, digits_value_more 10 word i (omega arith), c.loop-byte.invariant.value);
      digits = list_all_more is_ascii_digit word i 0 (omega arith) ∙ rw (c.loop-byte.invariant.digits, is) refl;
    }

pub returns : goal.returns
returns c =
    let word = c.args.word.now in
    let all = take_all c.loop-byte.byte-index word (omega arith) in
    let value : c.loop-byte.value ≡ digits_value 10 word = c.loop-byte.invariant.value ∙ ap (digits_value 10) all in
    let digits = ap (list_all is_ascii_digit) (sym all) ∙ c.loop-byte.invariant.digits in
    rw value (sym (number_is word c.requires.some (omega arith) digits (all_fit word (λ k. (c.type_inv.word k).fits) digits (omega arith))))
