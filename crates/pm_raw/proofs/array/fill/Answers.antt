use Rattle.std.proofs.Common.{◌∙◌, sym, ap, arith, length, [], ◌∷◌, ◌++◌}
use Rattle.std.proofs.lemmas.List.{length-replicate, replicate_more}
use Rattle.pm_raw.specs.declared.cells.Cells.{Cells}
use Rattle.pm_raw.proofs.array.fill.Goals as goal

pub push-requires : goal.push-requires
push-requires g c =
    let loop = c.loop-i.invariant in (
      c.requires.at ∙ sym loop.at,
      sym (ap length loop.items ∙ length-replicate c.loop-i.i c.args.value),
      omega (arith, loop.count, c.requires.count, c.loop-i-test.true),
    )

pub loop-i-preserved : goal.loop-i-preserved
loop-i-preserved g c =
    let loop = c.loop-i.invariant in
    record {
      at = ap (λ (cells : Cells g.row.T.Denot). cells.at) c.push.ensures ∙ loop.at;
      items = ap (λ (cells : Cells g.row.T.Denot). cells.items) c.push.ensures ∙ ap (λ items. items ++ c.args.value ∷ []) loop.items ∙ replicate_more c.loop-i.i c.args.value;
      count = ap (λ (cells : Cells g.row.T.Denot). cells.count) c.push.ensures ∙ loop.count;
    }
