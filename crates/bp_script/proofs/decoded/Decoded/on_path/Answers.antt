use Rattle.std.proofs.Common.{◌∙◌, ap, arith, refl}
use Rattle.bp_script.specs.Lines.{path_row}
use Rattle.bp_script.proofs.Rows.{decoded-path}
use Rattle.bp_script.proofs.decoded.Decoded.on_path.Goals as goal

pub returns : goal.returns
returns c = (
  (refl, λ _. tt, omega arith),
  record {
    keeps_room = tt;
    meaning = c.path_line.ensures ∙ ap (path_row c.args.verb) c.path_of.ensures.path ∙ decoded-path c.args.verb c.args.path.now;
  },
)
