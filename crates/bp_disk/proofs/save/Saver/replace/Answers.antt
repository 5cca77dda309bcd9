use Rattle.bp_disk.proofs.CopyLaws.{on_ok_then}
use Rattle.bp_disk.specs.Calls.{number_of}
use Rattle.bp_disk.proofs.save.Saver.replace.Goals as goal

pub returns : goal.returns
returns g c = record {
  right = on_ok_then c.try_replace-done.result c.or_lose.result _ _ _ c.or_lose.ensures.same c.try_replace-done.ensures.right
      (c.or_lose.ensures.kept (number_of c.args.file.now));
}
