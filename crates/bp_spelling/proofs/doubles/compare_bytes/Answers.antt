use Rattle.std.proofs.Common.{◌≡◌, ◌+◌, ◌-◌, ◌*◌, ◌%◌, ◌^◌, ◌≤◌, min, sym, ◌∙◌, arith}
use Rattle.std.specs.Ordering.{nat_cmp}
use Rattle.pm_region.specs.Memory.{current_words}
use Rattle.bp_layout.specs.Words.{word}
use Rattle.bp_spelling.proofs.NameOrder.{part_equal, part_differs, cmp_end}
use Rattle.bp_spelling.proofs.doubles.compare_bytes.Goals as goal

pub returns-in_default : goal.returns-in_default
returns-in_default g c =
    let image = current_words (g.R.Region.memory c.args.region.now) in
    let k = c.loop-part.part in
    let some : 1 ≤ k = omega (arith, c.loop-part.auto) in
    let order : c.compare_words.result ≡ nat_cmp (word image (c.args.a + 1 + k) % 256 ^ min 8 (c.args.count - 8 * (k - 1))) (word image (c.args.b + 1 + k) % 256 ^ min 8 (c.args.count - 8 * (k - 1))) =
    rw (c.word_at-x.ensures, c.word_at-y.ensures, c.saturating_sub.ensures) at c.compare_words.ensures in
    sym (part_differs image c.args.a c.args.b k c.args.count some c.loop-part-test.true c.requires.first c.requires.second c.compare_words.result c.in_default.not-Equal order)
    ∙ c.loop-part.invariant

pub loop-part-preserved : goal.loop-part-preserved
loop-part-preserved g c =
    let image = current_words (g.R.Region.memory c.args.region.now) in
    let k = c.loop-part.part in
    let some : 1 ≤ k = omega (arith, c.loop-part.auto) in
    let order : c.compare_words.result ≡ nat_cmp (word image (c.args.a + 1 + k) % 256 ^ min 8 (c.args.count - 8 * (k - 1))) (word image (c.args.b + 1 + k) % 256 ^ min 8 (c.args.count - 8 * (k - 1))) =
    rw (c.word_at-x.ensures, c.word_at-y.ensures, c.saturating_sub.ensures) at c.compare_words.ensures in
    sym (part_equal image c.args.a c.args.b k c.args.count some c.loop-part-test.true c.requires.first c.requires.second (sym c.in-Equal.is ∙ order)) ∙ c.loop-part.invariant

pub returns : goal.returns
returns g c =
    sym (cmp_end (current_words (g.R.Region.memory c.args.region.now)) c.args.a c.args.b c.loop-part.part (omega (arith, c.loop-part.auto, c.loop-part-test.false))) ∙ c.loop-part.invariant
