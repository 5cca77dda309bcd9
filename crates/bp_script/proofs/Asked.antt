-- A line whose call a volume carries out can be asked for.
use Rattle.std.proofs.Common.{Result, Ok, arith}
use Rattle.std.proofs.lemmas.List.{length-map}
use Rattle.bp_plain.specs.Seen.{piece_in}
use Rattle.bp_plain.specs.declared.calls.Call.TheVariants as given
use Rattle.bp_script.specs.Commands.{IsServedCommand}
use Rattle.bp_script.specs.Lines.{CanBeAsked, HasItsParts, line_asks}
use Rattle.bp_script.specs.declared.lines.Line.{Line}
use Rattle.bp_script.specs.declared.lines.Line.TheVariants as asks
use Rattle.bp_script.specs.declared.lines.Syntax.{Syntax}

pub can_be_asked : (asked : Result Line Syntax) → IsServedCommand (line_asks asked) → HasItsParts asked → CanBeAsked asked
can_be_asked (Ok (asks.Call (given.Batch text pieces))) served parts =
    let len = length-map pieces.now (piece_in text.now) in (omega (arith, len, served.0), omega (arith, len, served.1), parts)
can_be_asked (Ok (asks.Call (given.Read path offset len))) served parts = served
can_be_asked (Ok (asks.Call (given.SnapRead path offset len))) served parts = served
can_be_asked (Ok (asks.Call (given.Attribute path number))) served parts = served
can_be_asked (Ok (asks.Call (given.SetAttribute path number value))) served parts = served
can_be_asked asked served parts = tt
