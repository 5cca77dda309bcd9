use Rattle.std.proofs.Common.{◌-◌, ◌∙◌, min, length, ap}
use Rattle.bp_layout.specs.Inode.{root_of, size_of}
use Rattle.bp_layout.specs.Words.{Image}
use Rattle.bp_read.specs.Bytes.{content_part}
use Rattle.pm_region.specs.Memory.{current_words}
use Rattle.bp_calls.proofs.AskedLaws.{read_part}
use Rattle.bp_calls.proofs.queries.read.Goals as goal

pub returns-clause-bytes : goal.returns-clause-bytes
returns-clause-bytes g c =
    let image : Image = current_words (g.R.Region.memory c.args.region.now) in
    c.read.ensures.bytes
    ∙ ap (λ root. content_part image root c.args.offset c.read.result) c.tree_of.ensures.root
    ∙ read_part image (root_of image c.args.ino) (size_of image c.args.ino) c.args.offset (length c.args.into.now) c.read.result
    (c.read.ensures.count ∙ ap (λ size. min (length c.args.into.now) (size - c.args.offset)) c.tree_of.ensures.size)
