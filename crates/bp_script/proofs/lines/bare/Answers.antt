use Rattle.std.proofs.Common.{rules, ◌≡◌, ◌∙◌}
use Rattle.bp_script.specs.Commands.{bare_call, bare_command}
use Rattle.bp_script.proofs.lines.bare.Goals as goal

pub returns-in_default : goal.returns-in_default
returns-in_default c =
    let other : bare_call c.args.verb.now ≡ bare_command c.args.verb.now = elim c.in_default.branch [
      | goal.in_default-via-then-verb-lt3 w ↦ search rules
      | goal.in_default-via-else-verb-lt3+then-verb-lt4+in-108+in-111+in_default-1 w ↦ search rules
      | goal.in_default-via-else-verb-lt3+then-verb-lt4+in-108+in_default-1 w ↦ search rules
      | goal.in_default-via-else-verb-lt3+then-verb-lt4+in_default-1 w ↦ search rules
      | goal.in_default-via-else-verb-lt3+else-verb-lt4+then-verb-lt5+in-115+in-121+in-110+in_default-1 w ↦ search rules
      | goal.in_default-via-else-verb-lt3+else-verb-lt4+then-verb-lt5+in-115+in-121+in_default-1 w ↦ search rules
      | goal.in_default-via-else-verb-lt3+else-verb-lt4+then-verb-lt5+in-115+in_default-1 w ↦ search rules
      | goal.in_default-via-else-verb-lt3+else-verb-lt4+then-verb-lt5+in_default-1 w ↦ search rules
      | goal.in_default-via-else-verb-lt3+else-verb-lt4+else-verb-lt5+then-verb-lt6+in-115+in-112+in-97+in-99+in_default-1 w ↦ search rules
      | goal.in_default-via-else-verb-lt3+else-verb-lt4+else-verb-lt5+then-verb-lt6+in-115+in-112+in-97+in_default-1 w ↦ search rules
      | goal.in_default-via-else-verb-lt3+else-verb-lt4+else-verb-lt5+then-verb-lt6+in-115+in-112+in_default-1 w ↦ search rules
      | goal.in_default-via-else-verb-lt3+else-verb-lt4+else-verb-lt5+then-verb-lt6+in-115+in_default-1 w ↦ search rules
      | goal.in_default-via-else-verb-lt3+else-verb-lt4+else-verb-lt5+then-verb-lt6+in_default-1 w ↦ search rules
      | goal.in_default-via-else-verb-lt3+else-verb-lt4+else-verb-lt5+else-verb-lt6 w ↦ search rules
    ] in
    c.bare_call.ensures ∙ other
