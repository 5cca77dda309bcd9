use Rattle.std.proofs.Common.{arith, ◌∙◌, ◌/◌, length}
use Rattle.bp_layout.specs.Bytes.{image_bytes}
use Rattle.bp_shell.proofs.OpeningLaws.{reports_next}
use Rattle.bp_shell.proofs.image_file.load_run.Goals as goal

pub returns-in-Ok-clause-loaded : goal.returns-in-Ok-clause-loaded
returns-in-Ok-clause-loaded g c =
    let here = c.requires.loaded in
    record {
      image = λ name is.
          reports_next _ (image_bytes c.args.filling.now.words) (image_bytes c.push_run.new.filling.words) c.read_blocks.new.into c.args.first (length c.args.into.now / 4096) (here.image name is)
          (c.in-Ok.ensures.blocks name is) c.push_run.ensures.bytes;
      words = c.push_run.ensures.words;
      long = omega (arith, c.push_run.ensures.long, here.long, c.requires.whole);
      size = c.push_run.ensures.size ∙ here.size;
    }
