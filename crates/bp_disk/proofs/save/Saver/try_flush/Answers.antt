use Rattle.std.proofs.Common.{rules, ◌≡◌}
use Rattle.bp_disk.specs.declared.save.Way.TheVariants.{Clean, Beside}
use Rattle.bp_disk.proofs.SaveLaws.{flushed_beside}
use Rattle.bp_disk.proofs.save.Saver.try_flush.Goals as goal

pub returns-in-Beside : goal.returns-in-Beside
returns-in-Beside g c = record {
  right = λ right.
      let way : c.take_place.new.self.way ≡ Beside c.in-Beside.second = search rules in
      let clean : c.let_wait.new.self.way ≡ Clean = search rules in
      flushed_beside c.args.file.now c.replace-first.result c.replace-first.new.dest c.take_place.new.self.way c.let_wait.new.self.way
      c.in-Beside.second c.let_wait.new.self.waiting (g.S.System.calls c.take_place.new.system) (g.S.System.calls c.let_wait.new.system)
      way (c.in_ok-take_place.ensures.placed (c.in_ok-write_all.ensures.right right).by_way) c.let_wait.ensures.changes
      (search rules) (search rules) clean c.let_wait.ensures.apart;
}
