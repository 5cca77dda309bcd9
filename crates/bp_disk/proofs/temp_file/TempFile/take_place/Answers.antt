use Rattle.std.proofs.Common.{rules}
use Rattle.bp_disk.proofs.CopyLaws.{changes_then, on_err, place_taken}
use Rattle.bp_disk.proofs.temp_file.TempFile.take_place.Goals as goal

pub returns-clause-taken : goal.returns-clause-taken
returns-clause-taken g c = λ named. place_taken _ _ (g.S.System.calls c.flush.new.self) _ c.in_ok-flush.ensures.done named c.in_ok-exchange.ensures.taken

pub returns-in_err-exchange-clause-failed : goal.returns-in_err-exchange-clause-failed
returns-in_err-exchange-clause-failed g c = on_err c.from_residual-in_err-exchange.result _
    (changes_then _ _ (g.S.System.calls c.flush.new.self) _ (search rules) (c.in_err-exchange.ensures.failed _))
