use Rattle.std.proofs.Common.{◌+◌, ◌*◌, get_or, sym, ◌∙◌, arith}
use Rattle.pm_region.specs.Memory.{current_words}
use Rattle.bp_layout.specs.Words.{byte_of}
use Rattle.bp_append.proofs.LaidLaws.{laid-given}
use Rattle.bp_append.proofs.lay.lay_run.Goals as goal

pub returns : goal.returns
returns g c =
    let words = c.laid_run-words.result in
    record {
      values = words;
      long = omega (arith, c.laid_run-words.type_inv);
      adds = c.store_words.ensures;
      laid = λ k low i few.
          c.laid_run-words.ensures k i low few
          ∙ sym (laid-given c.args.layer.now.low c.args.layer.now.from c.args.layer.now.bytes.now (byte_of (get_or (current_words (g.R.Region.memory c.args.region.now)) (c.args.place + k) 0) i) (c.args.start + 8 * k + i) (omega (arith, c.requires.past_end)));
    }
