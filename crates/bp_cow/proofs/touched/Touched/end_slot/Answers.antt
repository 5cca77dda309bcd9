use Rattle.std.proofs.Common.{◌-◌, ◌/◌, ◌%◌, ◌<◌, ℕ, List, length, sym, ◌∙◌, ap, subst, arith}
use Rattle.std.specs.Prelude.{◌==◌, if◌then◌else◌, slice_index_or}
use Rattle.std.specs.List.{slice_index}
use Rattle.bp_cow.specs.Touched.{IsRun, run_end, run_path, word_paths}
use Rattle.bp_cow.specs.declared.touched.Run.{Run}
use Rattle.bp_cow.proofs.RunLaws.{length-run_path}
use Rattle.bp_cow.proofs.RunsLaws.{end-at, end-past, ends-count, has-item}
use Rattle.bp_cow.proofs.touched.Touched.end_slot.Goals as goal

pub end_word-requires : goal.end_word-requires
end_word-requires c =
    let run = c.index-self-i.result in
    subst IsRun c.index-self-i.is (c.requires.touched.runs run (has-item c.args.self.now.runs.now (c.args.i / 2) run (omega (arith, c.if-i-of_runs.true)) c.index-self-i.is))

pub slot-requires-clause-run : goal.slot-requires-clause-run
slot-requires-clause-run c =
    let run = c.index-self-i.result in
    subst IsRun c.index-self-i.is (c.requires.touched.runs run (has-item c.args.self.now.runs.now (c.args.i / 2) run (omega (arith, c.if-i-of_runs.true)) c.index-self-i.is))

pub slot-requires-clause-depth : goal.slot-requires-clause-depth
slot-requires-clause-depth c =
    let touched = c.args.self.now in
    let run = c.index-self-i.result in
    let number : ℕ = if c.args.i % 2 == 0 then run.offset / 8 else (run_end run - 1) / 8 in
    let low : c.args.depth < length (run_path run number) = subst (λ p. c.args.depth < length p) (end-at touched.runs.now (word_paths touched) c.args.i run c.if-i-of_runs.true c.index-self-i.is) c.requires.depth in
    subst (λ (r : Run). c.args.depth < length (run_path r c.end_word.result)) c.index-self-i.is (omega (arith, low, length-run_path run number, length-run_path run c.end_word.result))

pub returns-then-i-of_runs : goal.returns-then-i-of_runs
returns-then-i-of_runs c =
    let touched = c.args.self.now in
    let run = c.index-self-i.result in
    c.slot.ensures ∙ ap (λ k. slice_index (run_path (slice_index_or touched.runs.now (c.args.i / 2) run) k) c.args.depth) c.end_word.ensures
    ∙ ap (λ (r : Run). slice_index (run_path r (if c.args.i % 2 == 0 then r.offset / 8 else (run_end r - 1) / 8)) c.args.depth) (sym c.index-self-i.is)
    ∙ ap (λ (p : List ℕ). slice_index p c.args.depth) (sym (end-at touched.runs.now (word_paths touched) c.args.i run c.if-i-of_runs.true c.index-self-i.is))

pub path_slot-requires-clause-word : goal.path_slot-requires-clause-word
path_slot-requires-clause-word c = omega (arith, c.requires.i, c.if-i-of_runs.false, ends-count c.args.self.now.runs.now (length c.args.self.now.words.now))

pub path_slot-requires-clause-depth : goal.path_slot-requires-clause-depth
path_slot-requires-clause-depth c =
    subst (λ p. c.args.depth < length p) (end-past c.args.self.now.runs.now (word_paths c.args.self.now) c.args.i c.if-i-of_runs.false) c.requires.depth

pub returns : goal.returns
returns c = c.path_slot.ensures ∙ ap (λ (p : List ℕ). slice_index p c.args.depth) (sym (end-past c.args.self.now.runs.now (word_paths c.args.self.now) c.args.i c.if-i-of_runs.false))
