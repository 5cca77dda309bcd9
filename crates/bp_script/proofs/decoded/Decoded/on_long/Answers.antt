use Rattle.std.proofs.Common.{rules, ◌≡◌, ◌∙◌, Option, ap, ap₂, arith, codes, refl, sym, ℕ}
use Rattle.std.proofs.lemmas.Slice.Eq.{text_from_reads}
use Rattle.bp_script.specs.Commands.{attribute_number, decoded, long_command, number_spelled, path_bytes, set_attribute_command}
use Rattle.bp_script.proofs.Rows.{decoded-set_attribute}
use Rattle.bp_script.proofs.decoded.Decoded.on_long.Goals as goal

pub returns-in-setattr : goal.returns-in-setattr
returns-in-setattr c =
    let first = c.args.first.now in
    let second = c.args.second.now in
    let third = c.args.third.now in
    let verb : c.args.verb.now ≡ codes "setattr" = text_from_reads c.args.verb.now (codes "setattr") (omega arith) (omega arith) in (
      (refl, λ _. tt, omega arith),
      record {
        keeps_room = tt;
        meaning = c.set_attribute.ensures
            ∙ ap (λ path. set_attribute_command path c.attribute_number.result c.number-in-setattr.result) c.path_of-in-setattr.ensures.path
            ∙ ap₂ (λ (number value : Option ℕ). set_attribute_command (path_bytes first) number value) c.attribute_number.ensures c.number-in-setattr.ensures
            ∙ decoded-set_attribute first (attribute_number (number_spelled second)) (number_spelled third)
            ∙ ap (λ word. decoded (long_command word first second third)) (sym verb);
      },
    )

pub returns-in_default : goal.returns-in_default
returns-in_default c =
    elim c.in_default.branch [
      | goal.in_default-via-then-verb-lt4 w ↦ search rules
      | goal.in_default-via-else-verb-lt4+then-verb-lt5+in-114+in-101+in-97+in_default-1 w ↦ search rules
      | goal.in_default-via-else-verb-lt4+then-verb-lt5+in-114+in-101+in_default-1 w ↦ search rules
      | goal.in_default-via-else-verb-lt4+then-verb-lt5+in-114+in_default-1 w ↦ search rules
      | goal.in_default-via-else-verb-lt4+then-verb-lt5+in_default-1 w ↦ search rules
      | goal.in_default-via-else-verb-lt4+else-verb-lt5+then-verb-lt6+in-119+in-114+in-105+in-116+in_default-1 w ↦ search rules
      | goal.in_default-via-else-verb-lt4+else-verb-lt5+then-verb-lt6+in-119+in-114+in-105+in_default-1 w ↦ search rules
      | goal.in_default-via-else-verb-lt4+else-verb-lt5+then-verb-lt6+in-119+in-114+in_default-1 w ↦ search rules
      | goal.in_default-via-else-verb-lt4+else-verb-lt5+then-verb-lt6+in-119+in_default-1 w ↦ search rules
      | goal.in_default-via-else-verb-lt4+else-verb-lt5+then-verb-lt6+in-99+in-114+in-97+in-115+in_default-1 w ↦ search rules
      | goal.in_default-via-else-verb-lt4+else-verb-lt5+then-verb-lt6+in-99+in-114+in-97+in_default-1 w ↦ search rules
      | goal.in_default-via-else-verb-lt4+else-verb-lt5+then-verb-lt6+in-99+in-114+in_default-1 w ↦ search rules
      | goal.in_default-via-else-verb-lt4+else-verb-lt5+then-verb-lt6+in-99+in_default-1 w ↦ search rules
      | goal.in_default-via-else-verb-lt4+else-verb-lt5+then-verb-lt6+in-115+in-114+in-101+in-97+in_default-1 w ↦ search rules
      | goal.in_default-via-else-verb-lt4+else-verb-lt5+then-verb-lt6+in-115+in-114+in-101+in_default-1 w ↦ search rules
      | goal.in_default-via-else-verb-lt4+else-verb-lt5+then-verb-lt6+in-115+in-114+in_default-1 w ↦ search rules
      | goal.in_default-via-else-verb-lt4+else-verb-lt5+then-verb-lt6+in-115+in_default-1 w ↦ search rules
      | goal.in_default-via-else-verb-lt4+else-verb-lt5+then-verb-lt6+in_default-1 w ↦ search rules
      | goal.in_default-via-else-verb-lt4+else-verb-lt5+else-verb-lt6+then-verb-lt7 w ↦ search rules
      | goal.in_default-via-else-verb-lt4+else-verb-lt5+else-verb-lt6+else-verb-lt7+then-verb-lt8+in-115+in-101+in-116+in-97+in-116-verb-22+in-116-verb-23+in_default-1 w ↦ search rules
      | goal.in_default-via-else-verb-lt4+else-verb-lt5+else-verb-lt6+else-verb-lt7+then-verb-lt8+in-115+in-101+in-116+in-97+in-116-verb-22+in_default-1 w ↦ search rules
      | goal.in_default-via-else-verb-lt4+else-verb-lt5+else-verb-lt6+else-verb-lt7+then-verb-lt8+in-115+in-101+in-116+in-97+in_default-1 w ↦ search rules
      | goal.in_default-via-else-verb-lt4+else-verb-lt5+else-verb-lt6+else-verb-lt7+then-verb-lt8+in-115+in-101+in-116+in_default-1 w ↦ search rules
      | goal.in_default-via-else-verb-lt4+else-verb-lt5+else-verb-lt6+else-verb-lt7+then-verb-lt8+in-115+in-101+in_default-1 w ↦ search rules
      | goal.in_default-via-else-verb-lt4+else-verb-lt5+else-verb-lt6+else-verb-lt7+then-verb-lt8+in-115+in_default-1 w ↦ search rules
      | goal.in_default-via-else-verb-lt4+else-verb-lt5+else-verb-lt6+else-verb-lt7+then-verb-lt8+in_default-1 w ↦ search rules
      | goal.in_default-via-else-verb-lt4+else-verb-lt5+else-verb-lt6+else-verb-lt7+else-verb-lt8 w ↦ search rules
    ]
