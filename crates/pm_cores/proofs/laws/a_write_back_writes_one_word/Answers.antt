use Rattle.std.proofs.Common.{refl}
use Rattle.pm_cores.proofs.Over.{entry_over, written_over}
use Rattle.pm_cores.proofs.laws.a_write_back_writes_one_word.Goals as goal

pub returns : goal.returns
returns c = record {
  start = λ cores words capacity base. refl;
  entry = entry_over;
  back = written_over;
}
