use Rattle.std.proofs.Common.{◌+◌, ◌-◌, length, take, refl, ◌∙◌, ap, subst}
use Rattle.bp_calls.specs.TouchedAcross.{IsRunAcross}
use Rattle.bp_calls.proofs.AcrossCalls.{sized_word}
use Rattle.pm_region.specs.Memory.{current_words}
use Rattle.bp_calls.proofs.writes.across.plan_write.Goals as goal

pub returns : goal.returns
returns g c =
    let image = current_words (g.R.Region.memory c.args.region.now) in
    let end = c.args.offset + length c.args.bytes.now in
    record {
      inode = refl;
      from = refl;
      bytes_are = refl;
      root = c.requires.root;
      size = c.requires.size;
      sized = sized_word image c.args.ino end c.size_path.result c.size_path.ensures;
      run = subst (λ bs. IsRunAcross image c.args.ino c.args.offset end bs c.run_across.result) (c.split_at.ensures.front ∙ ap (λ s. take (s - c.args.offset) c.args.bytes.now) c.requires.size) c.run_across.ensures;
    }
