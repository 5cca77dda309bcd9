use Rattle.std.proofs.Common.{◌≡◌, None, Some, sym, ◌∙◌}
use Rattle.clap.specs.Words.{found_of}
use Rattle.std.specs.Str.Parse.{ParsesUnsigned, ExplainsUnsignedError, HasUnsignedDigitsIfOk, digits_value, without_leading_plus}
use Rattle.bp_command.proofs.Numbers.{gives_number, reads_number}
use Rattle.bp_command.proofs.arguments.number_of.Goals as goal

pub unreachable-requires : goal.unreachable-requires
unreachable-requires c =
    let read = reads_number _ (λ bs r. ParsesUnsigned 64 10 bs r × ExplainsUnsignedError 10 bs r × HasUnsignedDigitsIfOk bs r) (λ u x g. g.0) c.args.option.now c.requires.0 c.requires.1 (found_of c.args.values.now) c.get_one.result c.get_one.ensures.value c.requires.2 in
    let never : None ≡ Some (digits_value 10 (without_leading_plus c.requires.2.digits)) = sym c.in-None.is ∙ read in
    cc

pub returns : goal.returns
returns c = λ least most number.
    gives_number _ (λ bs r. ParsesUnsigned 64 10 bs r × ExplainsUnsignedError 10 bs r × HasUnsignedDigitsIfOk bs r) (λ u x g. g.0) c.args.option.now least most (found_of c.args.values.now) c.get_one.result c.in-Some.number
    c.get_one.ensures.value c.in-Some.is number
