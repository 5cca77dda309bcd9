use Rattle.std.proofs.Common.{arith, refl, rules, lit<, ap, subst, sym, ◌∙◌, ◌≡◌, ◌*◌, ◌/◌, ℕ, List, length, length-take, take}
use Rattle.pm_raw.specs.Part.{Part}
use Rattle.bp_layout.specs.Bytes.{image_bytes}
use Rattle.bp_session.specs.Files.{AreWordsOf64Bits}
use Rattle.bp_shell.proofs.OpeningLaws.{loaded_before, loaded_then, no_words, reads_none, reads_then, reports_all}
use Rattle.bp_shell.proofs.image_file.load.Goals as goal

pub loop-first-init : goal.loop-first-init
loop-first-init g c =
    let none = ap (λ (part : Part). part.words) c.requires.size in
    record {
      within = omega arith;
      loaded = record {
        image = λ name is. reports_all _ _ (λ bytes. ap image_bytes none ∙ no_words);
        words = subst (λ (l : List ℕ). AreWordsOf64Bits l) (sym none) (λ place. lit< tt);
        long = ap length none;
        size = ap (λ (part : Part). part.size) c.requires.size ∙ ap (λ n. 512 * n) c.requires.count;
      };
      reads = reads_none _;
      faults = refl;
    }

pub load_run-requires-clause-loaded : goal.load_run-requires-clause-loaded
load_run-requires-clause-loaded g c = loaded_then _ _ _ _ c.loop-first.invariant.reads c.loop-first.invariant.loaded

pub loop-first-preserved : goal.loop-first-preserved
loop-first-preserved g c =
    let here = c.loop-first.invariant in
    let run = c.min-run.result in
    let count : length (take (4096 * run) c.loop-first.bytes) / 4096 ≡ run = omega (arith, length-take (4096 * run) c.loop-first.bytes) in
    record {
      within = omega arith;
      loaded = loaded_before _ _ _ _ here.reads (rw count at c.in_ok-load_run.ensures.loaded);
      reads = reads_then _ _ _ here.reads c.load_run.ensures.reads;
      faults = search rules;
    }
