use Rattle.std.proofs.Common.{◌∙◌, subst, arith}
use Rattle.pm_region.specs.Memory.{current_words}
use Rattle.bp_spelling.specs.declared.table.Clash.{Clash}
use Rattle.bp_spelling.specs.Hashes.{place_of}
use Rattle.bp_spelling.specs.Tables.{cell_at, IsClash}
use Rattle.bp_spelling.specs.Tables.IsTableError.{repeated, unreported}
use Rattle.bp_spelling.proofs.TableLaws.{held_apart, held_double, held_more}
use Rattle.bp_spelling.proofs.table.check_by_table.Goals as goal

pub returns-in-Err-Double-clause-err : goal.returns-in-Err-Double-clause-err
returns-in-Err-Double-clause-err g c =
    let image = current_words (g.R.Region.memory c.args.region.now) in
    let entries = c.args.entries.now in
    let index = c.loop-entry.entry-index in
    rw c.place.ensures.place (repeated (place_of (cell_at entries index)) (held_double image entries index (omega (arith, c.loop-entry-test.true)) c.loop-entry.table c.loop-entry.invariant.held
    (subst (λ (clash : Clash). IsClash image c.loop-entry.table (cell_at entries index) clash) c.in-Err-Double.field-0-is c.in-Err-Double.ensures.err)))

pub returns-in-Err-Full-clause-err : goal.returns-in-Err-Full-clause-err
returns-in-Err-Full-clause-err g c = unreported

pub loop-entry-preserved : goal.loop-entry-preserved
loop-entry-preserved g c = record {
  held = held_more (current_words (g.R.Region.memory c.args.region.now)) c.args.entries.now c.requires.present c.loop-entry.entry-index (omega (arith, c.loop-entry-test.true))
      c.loop-entry.table c.put.new.table c.loop-entry.invariant.held c.in-Ok.ensures.ok;
  room = c.put.ensures.room ∙ c.loop-entry.invariant.room;
}

pub returns-clause-ok : goal.returns-clause-ok
returns-clause-ok g c =
    held_apart (current_words (g.R.Region.memory c.args.region.now)) c.args.entries.now c.requires.spelled c.loop-entry.entry-index (omega (arith, c.loop-entry-test.false)) c.loop-entry.table c.loop-entry.invariant.held
