use Rattle.std.proofs.Common.{refl, ◌≡◌, ℕ, List, inl, inr}
use Rattle.bp_command.specs.Programs.{Asks, Program, program_of}
use Rattle.bp_command.specs.Programs.Program.{formats, runs, checks, plays, exports}
use Rattle.bp_session.specs.Outside.{Outside}
use Rattle.bp_shell.specs.Ending.{ReadOutcome}
use Rattle.bp_shell.specs.Running.{ProgramOutcome}
use Rattle.bp_shell.specs.declared.status.Status.TheVariants as status
use Rattle.bp_shell.specs.declared.stop.Stop.TheVariants as stop
use Rattle.bp_shell.proofs.EndingLaws.{memory_reason, read_stopped}
use Rattle.bp_shell.proofs.ExportingLaws.{export_memory}
use Rattle.bp_shell.proofs.FilesLaws.{leaves_as_are}
use Rattle.bp_shell.proofs.GuaranteeLaws.{guaranteed, memory_is_not_done, usage_is_not_done}
use Rattle.bp_shell.proofs.OpeningLaws.{if_memory}
use Rattle.bp_shell.proofs.ProgramLaws.{format_memory, run_memory}
use Rattle.bp_shell.proofs.programs.run.Goals as goal

-- want of memory before FILE is read
unread : (Reports : List ℕ → Type 0) (outside : Outside) → ReadOutcome Reports status.Memory outside outside
unread Reports outside =
    read_stopped Reports outside outside (record { left = refl; file = refl }) refl refl stop.Memory status.Memory (memory_reason outside.file) (λ e. absurd (if_memory _ refl e)) (λ _. refl) (refl, (refl, refl))

-- .. and before the words are read
without_memory : (program : Program) (outside : Outside) → ProgramOutcome program status.Memory outside outside
without_memory (formats name blocks version) outside = format_memory version blocks outside outside refl refl refl refl refl refl
without_memory (runs name) outside = run_memory outside outside (record { left = refl; file = refl }) refl refl refl refl refl
without_memory (checks name) outside = unread _ outside
without_memory (plays name seed count) outside = unread _ outside
without_memory (exports name) outside = export_memory outside

-- ---- words that ask in the plain way

pub returns-in-Ok-clause-plain : goal.returns-in-Ok-clause-plain
returns-in-Ok-clause-plain g c = λ program asks.
    let same : program_of c.in-Ok.program ≡ program = c.plain_words_are_taken.ensures.requested _ program _ asks c.in-Ok.ensures.asks in
    rw same at c.run_program.ensures.outcome

pub returns-in-Err-Usage-clause-plain : goal.returns-in-Err-Usage-clause-plain
returns-in-Err-Usage-clause-plain g c = λ program asks.
    let right = rw c.in-Err-Usage.field-0-is at c.in-Err-Usage.ensures.usage in
    absurd (right.0 (c.plain_words_are_taken.ensures.taken _ program asks))

pub returns-clause-plain : goal.returns-clause-plain
returns-clause-plain g c = λ program asks. without_memory program _

-- ---- the guarantee

pub returns-in-Ok-clause-guarantee : goal.returns-in-Ok-clause-guarantee
returns-in-Ok-clause-guarantee g c = λ called name are some plain done.
    let asks : Asks _ (runs name) = record { called = called; are = inl are; proper = record { some = some; plain = plain } } in
    let same : program_of c.in-Ok.program ≡ runs name = c.plain_words_are_taken.ensures.requested _ (runs name) _ asks c.in-Ok.ensures.asks in
    let outcome = rw same at c.run_program.ensures.outcome in
    guaranteed _ _ (outcome.whole done)

pub returns-in-Err-Usage-clause-guarantee : goal.returns-in-Err-Usage-clause-guarantee
returns-in-Err-Usage-clause-guarantee g c = λ called name are some plain done. absurd (usage_is_not_done done)

pub returns-clause-guarantee : goal.returns-clause-guarantee
returns-clause-guarantee g c = λ called name are some plain done. absurd (memory_is_not_done done)

-- ---- all others

pub returns-in-Ok-clause-others : goal.returns-in-Ok-clause-others
returns-in-Ok-clause-others g c = λ other. inl (record { program = program_of c.in-Ok.program; asked = c.in-Ok.ensures.asks; outcome = c.run_program.ensures.outcome })

pub returns-in-Err-Usage-clause-others : goal.returns-in-Err-Usage-clause-others
returns-in-Err-Usage-clause-others g c = λ other. absurd (other refl)

pub returns-clause-others : goal.returns-clause-others
returns-clause-others g c = λ other. inr (refl, refl, refl, refl)

-- ---- what is left of the files

pub returns-in-Ok-clause-files : goal.returns-in-Ok-clause-files
returns-in-Ok-clause-files g c = λ program asks.
    let same : program_of c.in-Ok.program ≡ program = c.words_ask_for_one_program.ensures _ program _ asks c.in-Ok.ensures.asks in
    rw same at c.run_program.ensures.files

pub returns-in-Err-Usage-clause-files : goal.returns-in-Err-Usage-clause-files
returns-in-Err-Usage-clause-files g c = λ program asks.
    let right = rw c.in-Err-Usage.field-0-is at c.in-Err-Usage.ensures.usage in
    absurd (right.0 asks.taken)

pub returns-clause-files : goal.returns-clause-files
returns-clause-files g c = λ program asks. leaves_as_are program _
