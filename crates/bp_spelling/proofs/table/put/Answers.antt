use Rattle.std.proofs.Common.{◌<◌, List, length, set, sym, ◌∙◌, subst, arith}
use Rattle.pm_region.specs.Memory.{current_words}
use Rattle.bp_spelling.specs.Hashes.{spelled_key}
use Rattle.bp_spelling.specs.declared.entry.Spelled.{Spelled}
use Rattle.bp_spelling.specs.declared.table.Clash.TheVariants.{Double}
use Rattle.bp_spelling.specs.Tables.{cell_at, Puts, IsClash}
use Rattle.bp_spelling.specs.Tables.IsClash.{double, full}
use Rattle.bp_spelling.proofs.NameOrder.{equal_key, key_equal}
use Rattle.bp_spelling.proofs.TableLaws.{passes_more, puts}
use Rattle.bp_spelling.proofs.table.put.Goals as goal

pub returns-then-table-cell-eq0-clause-ok : goal.returns-then-table-cell-eq0-clause-ok
returns-then-table-cell-eq0-clause-ok g c =
    let image = current_words (g.R.Region.memory c.args.region.now) in
    let low : c.loop-cell.cell < length c.loop-cell.table = omega arith in
    subst (λ (t : List Spelled). Puts image t (set c.loop-cell.table c.loop-cell.cell c.args.entry) c.args.entry) c.loop-cell.invariant.same
    (puts image c.loop-cell.table c.args.entry c.loop-cell.cell low c.loop-cell.invariant.passes c.if-table-cell-eq0.true c.requires.some)

pub returns-in-Equal-clause-err : goal.returns-in-Equal-clause-err
returns-in-Equal-clause-err g c =
    let image = current_words (g.R.Region.memory c.args.region.now) in
    subst (λ (t : List Spelled). IsClash image t c.args.entry Double) c.loop-cell.invariant.same
    (double c.loop-cell.cell c.if-table-cell-eq0.false
    (equal_key (spelled_key image (cell_at c.loop-cell.table c.loop-cell.cell)) (spelled_key image c.args.entry) (sym c.compare_entries.ensures ∙ c.in-Equal.is)))

pub loop-cell-preserved : goal.loop-cell-preserved
loop-cell-preserved g c =
    let image = current_words (g.R.Region.memory c.args.region.now) in
    record {
      same = c.loop-cell.invariant.same;
      passes = passes_more image c.loop-cell.table c.args.entry c.loop-cell.cell c.loop-cell.invariant.passes c.if-table-cell-eq0.false (λ same.
          c.in_default.not-Equal (c.compare_entries.ensures ∙ key_equal (spelled_key image (cell_at c.loop-cell.table c.loop-cell.cell)) (spelled_key image c.args.entry) same));
    }

pub returns-clause-err : goal.returns-clause-err
returns-clause-err g c = full
