use Rattle.std.proofs.Common.{◌≡◌, ◌+◌, sym, ◌∙◌, arith}
use Rattle.pm_region.specs.Memory.{current_words}
use Rattle.bp_layout.specs.Words.{word}
use Rattle.bp_spelling.proofs.NameOrder.{cmp_less, cmp_greater, cmp_equal, cmp_start}
use Rattle.bp_spelling.proofs.doubles.compare_names.Goals as goal

pub returns-then-count-other : goal.returns-then-count-other
returns-then-count-other g c =
    let image = current_words (g.R.Region.memory c.args.region.now) in
    sym (cmp_less image c.args.a c.args.b 0 (omega arith) (omega (arith, c.word_at-count.ensures, c.word_at-other.ensures, c.if-count-other.true))) ∙ cmp_start image c.args.a c.args.b

pub returns-then-other-count : goal.returns-then-other-count
returns-then-other-count g c =
    let image = current_words (g.R.Region.memory c.args.region.now) in
    sym (cmp_greater image c.args.a c.args.b 0 (omega arith) (omega (arith, c.word_at-count.ensures, c.word_at-other.ensures, c.if-other-count.true))) ∙ cmp_start image c.args.a c.args.b

pub returns : goal.returns
returns g c =
    let image = current_words (g.R.Region.memory c.args.region.now) in
    let same : word image (c.args.a + 1) ≡ word image (c.args.b + 1) = omega (arith, c.word_at-count.ensures, c.word_at-other.ensures, c.if-count-other.false, c.if-other-count.false) in
    c.compare_bytes.ensures ∙ sym (cmp_equal image c.args.a c.args.b 0 (omega arith) same) ∙ cmp_start image c.args.a c.args.b
