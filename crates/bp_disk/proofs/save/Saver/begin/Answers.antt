use Rattle.bp_disk.proofs.SaveLaws.{begun}
use Rattle.bp_disk.specs.Calls.{number_of}
use Rattle.bp_disk.proofs.save.Saver.begin.Goals as goal

pub returns-in_ok-self-in-Clean : goal.returns-in_ok-self-in-Clean
returns-in_ok-self-in-Clean g c = record {
  right = λ right.
      begun (number_of c.args.file.now) c.args.self.now.way c.args.self.now.waiting c.take_waiting-waiting.new.self.waiting
      c.take_waiting-waiting.result (g.S.System.calls c.args.system.now) (g.S.System.calls c.take_waiting-waiting.new.system)
      (g.S.System.calls c.way_to.new.system) c.in_ok-self-in-Clean.field-0 c.in-Clean.is c.take_waiting-waiting.ensures.none right
      c.take_waiting-waiting.ensures.changes (c.take_waiting-waiting.ensures.other (number_of c.args.file.now))
      c.take_waiting-waiting.ensures.named c.in_ok-self-in-Clean.ensures;
}
