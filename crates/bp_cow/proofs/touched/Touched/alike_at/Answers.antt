use Rattle.std.proofs.Common.{◌≡◌, ℕ, ◌-◌, ◌/◌, ◌%◌, ◌≤◌, refl, sym, ◌∙◌, ap, subst, arith, inl, inr}
use Rattle.std.specs.Prelude.{◌↔◌, ◌==◌, if◌then◌else◌, slice_index_or}
use Rattle.std.proofs.lemmas.Bool.{cases_lt}
use Rattle.bp_layout.specs.WordPaths.{WordPath}
use Rattle.bp_changes.specs.Trail.{trail_of}
use Rattle.bp_cow.specs.Cover.{end_path, BothBegin}
use Rattle.bp_cow.specs.Touched.{IsRun, run_end, run_path, word_paths}
use Rattle.bp_cow.specs.declared.touched.Run.{Run}
use Rattle.bp_cow.proofs.AlikeEnds.{begin-least, begin-slots, begin-through, next-alike}
use Rattle.bp_cow.proofs.RunsLaws.{end-at, has-item}
use Rattle.bp_cow.proofs.touched.Touched.alike_at.Goals as goal

pub alike-requires : goal.alike-requires
alike-requires c =
    let run = c.index-self-i.result in
    subst IsRun c.index-self-i.is (c.requires.touched.runs run (has-item c.args.self.now.runs.now (c.args.i / 2) run (omega (arith, c.if-i-of_runs.true)) c.index-self-i.is))

pub returns-then-i-eq1 : goal.returns-then-i-eq1
returns-then-i-eq1 c n =
    let touched = c.args.self.now in
    let run = c.index-self-i.result in
    let i = c.args.i in
    let odd : i % 2 ≡ 1 = c.if-i-eq1.true in
    let even : (i - 1) % 2 ≡ 0 = omega (arith, odd) in
    let half : i / 2 ≡ (i - 1) / 2 = omega (arith, odd) in
    let last : end_path touched i ≡ run_path run ((run_end run - 1) / 8) =
    end-at touched.runs.now (word_paths touched) i run c.if-i-of_runs.true c.index-self-i.is ∙ ap (λ k. run_path run (if k == 0 then run.offset / 8 else (run_end run - 1) / 8)) odd in
    let first : end_path touched (i - 1) ≡ run_path run (run.offset / 8) =
    end-at touched.runs.now (word_paths touched) (i - 1) run (omega (arith, c.if-i-of_runs.true)) (subst (λ k. run ≡ slice_index_or touched.runs.now k run) half c.index-self-i.is)
    ∙ ap (λ k. run_path run (if k == 0 then run.offset / 8 else (run_end run - 1) / 8)) even in
    let own : (m : ℕ) → (m ≤ c.alike.result) ↔ BothBegin (run_path run (run.offset / 8)) (run_path run ((run_end run - 1) / 8)) m =
    subst (λ (r : Run). (m : ℕ) → (m ≤ c.alike.result) ↔ BothBegin (run_path r (r.offset / 8)) (run_path r ((run_end r - 1) / 8)) m) (sym c.index-self-i.is) c.alike.ensures in
    subst (λ (p : WordPath). (n ≤ c.min.result) ↔ (n ≤ c.args.most) × BothBegin p (end_path touched 0) n) (sym last)
    (begin-through (end_path touched 0) (run_path run (run.offset / 8)) (run_path run ((run_end run - 1) / 8)) c.args.most c.alike.result
    (subst (λ (p : WordPath). BothBegin p (end_path touched 0) c.args.most) first c.requires.before) own c.min.result
    (omega (arith, c.min.ensures), omega (arith, c.min.ensures)) (λ m most mine. omega (arith, c.min.ensures, most, mine)) n)

pub alike_with-requires-clause-run : goal.alike_with-requires-clause-run
alike_with-requires-clause-run c =
    let run = c.index-self-i.result in
    subst IsRun c.index-self-i.is (c.requires.touched.runs run (has-item c.args.self.now.runs.now (c.args.i / 2) run (omega (arith, c.if-i-of_runs.true)) c.index-self-i.is))

pub alike_with-requires-clause-other : goal.alike_with-requires-clause-other
alike_with-requires-clause-other c =
    let first = c.index-self-0.result in
    subst IsRun c.index-self-0.is (c.requires.touched.runs first (has-item c.args.self.now.runs.now 0 first (omega (arith, c.if-i-of_runs.true)) c.index-self-0.is))

pub returns-in-Some : goal.returns-in-Some
returns-in-Some c n =
    let touched = c.args.self.now in
    let i = c.args.i in
    let run = c.index-self-i.result in
    let first = c.index-self-0.result in
    let alike = c.in-Some.alike in
    let even : i % 2 ≡ 0 = omega (arith, c.if-i-eq1.false) in
    let path : end_path touched i ≡ run_path run (run.offset / 8) =
    end-at touched.runs.now (word_paths touched) i run c.if-i-of_runs.true c.index-self-i.is ∙ ap (λ k. run_path run (if k == 0 then run.offset / 8 else (run_end run - 1) / 8)) even in
    let start : end_path touched 0 ≡ run_path first (first.offset / 8) = end-at touched.runs.now (word_paths touched) 0 first (omega (arith, c.if-i-of_runs.true)) c.index-self-0.is in
    let own : (n ≤ alike) ↔ BothBegin (run_path run (run.offset / 8)) (run_path first (first.offset / 8)) n =
    subst (λ (r : Run). (n ≤ alike) ↔ BothBegin (run_path r (r.offset / 8)) (run_path first (first.offset / 8)) n) (sym c.index-self-i.is)
    (subst (λ (r : Run). (n ≤ alike) ↔ BothBegin (run_path (slice_index_or touched.runs.now (i / 2) run) ((slice_index_or touched.runs.now (i / 2) run).offset / 8)) (run_path r (r.offset / 8)) n) (sym c.index-self-0.is) (c.in-Some.ensures n)) in
    subst (λ (p : WordPath). (n ≤ c.min-in-Some.result) ↔ (n ≤ c.args.most) × BothBegin p (end_path touched 0) n) (sym path)
    (subst (λ (p : WordPath). (n ≤ c.min-in-Some.result) ↔ (n ≤ c.args.most) × BothBegin (run_path run (run.offset / 8)) p n) (sym start)
    (begin-least (run_path run (run.offset / 8)) (run_path first (first.offset / 8)) c.args.most alike c.min-in-Some.result n own c.min-in-Some.ensures))

pub loop-depth-init : goal.loop-depth-init
loop-depth-init c = refl

pub returns-then-end_slot : goal.returns-then-end_slot
returns-then-end_slot c n =
    begin-slots (end_path c.args.self.now c.args.i) (end_path c.args.self.now 0) c.args.most c.loop-depth.depth c.requires.before.there
    (omega (arith, c.loop-depth-test.true, c.min-end.ensures)) (omega (arith, c.loop-depth-test.true, c.min-end.ensures, c.end_len.ensures)) c.loop-depth.invariant
    (inr (λ same. c.if-end_slot.true (c.end_slot.ensures ∙ same ∙ sym c.end_slot-in-loop-depth.ensures))) n

pub loop-depth-preserved : goal.loop-depth-preserved
loop-depth-preserved c =
    next-alike (end_path c.args.self.now c.args.i) (end_path c.args.self.now 0) c.loop-depth.depth c.loop-depth.invariant (sym c.end_slot.ensures ∙ c.if-end_slot.false ∙ c.end_slot-in-loop-depth.ensures)

pub returns : goal.returns
returns c n =
    let end : c.loop-depth.depth ≡ c.min-end.result = omega (arith, c.loop-depth-test.false, c.loop-depth.auto.depth-end) in
    begin-slots (end_path c.args.self.now c.args.i) (end_path c.args.self.now 0) c.args.most c.min-end.result c.requires.before.there
    (omega (arith, c.min-end.ensures)) (omega (arith, c.min-end.ensures, c.end_len.ensures))
    (subst (λ d. trail_of (end_path c.args.self.now c.args.i) d ≡ trail_of (end_path c.args.self.now 0) d) end c.loop-depth.invariant)
    (inl (elim (cases_lt c.args.most c.end_len.result) [
      | inl less ↦ inl (omega (arith, c.min-end.ensures, less))
      | inr more ↦ inr (omega (arith, c.min-end.ensures, more, c.end_len.ensures))
    ])) n
