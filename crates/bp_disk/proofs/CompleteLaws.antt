-- The second file is completed run by run.
use Rattle.std.proofs.Common.{◌≡◌, inl, inr, ℕ, ◌*◌, ◌/◌, ◌<◌, ◌≤◌, min, Bool, List, length, refl, sym, ◌∙◌, ap, arith}
use Rattle.std.proofs.lemmas.Bool.{cases_lt}
use Rattle.bp_disk.specs.Calls.{Call}
use Rattle.bp_disk.specs.Disk.{Bytes, byte_of, ChangesOnly, Copies, IsCopied}
use Rattle.bp_disk.specs.Held.{state_of, IsNextRun, HasNone, Notes}
use Rattle.bp_disk.specs.Second.{completed, CompletesTo, CompletesStates, IsCompletedTo}
use Rattle.bp_disk.specs.declared.held_blocks.Held.{Held}
use Rattle.bp_disk.specs.declared.held_blocks.Held.TheVariants.{Same, Lacking, Written, Zeros}
use Rattle.bp_disk.specs.declared.held_blocks.Run.{Run}

-- The block of a byte of a run.
block_low : (n at : ℕ) → 4096 * n ≤ at → n ≤ at / 4096
block_low n at h = omega arith

block_high : (n at : ℕ) → at < 4096 * n → at / 4096 < n
block_high n at h = omega arith

completes_run : (blocks now : List Held) (kept first second done : ℕ) (run : Run) (was : Bytes) (a b c : List Call)
    → ((i : ℕ) → done ≤ i → state_of now i ≡ state_of blocks i) → IsNextRun now done Lacking run
    → ((at : ℕ) → byte_of was b first at ≡ byte_of was a first at)
    → CompletesTo done blocks kept first second was a b
    → Copies first second (4096 * run.first) (min (4096 * run.next) kept) was b c
    → CompletesTo run.next blocks kept first second was a c
completes_run blocks now kept first second done run was a b c same next firsts one copies = record {
  lacking = λ at below high lacks.
      elim (cases_lt at (4096 * run.first)) as (λ w. byte_of was c second at ≡ byte_of was a first at) [
        | inl lt ↦ copies.before at lt ∙
            (elim (cases_lt at (4096 * done)) as (λ w. byte_of was b second at ≡ byte_of was a first at) [
              | inl before ↦ one.lacking at below before lacks
              | inr beyond ↦ absurd (next.skipped (at / 4096) (block_low done at beyond) (block_high run.first at lt)
                  (same (at / 4096) (block_low done at beyond) ∙ lacks))
            ])
        | inr ge ↦ copies.within at ge (omega arith) ∙ firsts at
      ];
  others = λ at apart.
      elim (cases_lt at (4096 * run.first)) as (λ w. byte_of was c second at ≡ byte_of was a second at) [
        | inl lt ↦ copies.before at lt ∙ one.others at apart
        | inr ge ↦
            elim (cases_lt at (min (4096 * run.next) kept)) as (λ w. byte_of was c second at ≡ byte_of was a second at) [
              | inl lt ↦ absurd (apart (sym (same (at / 4096) (block_low done at (omega (arith, next.later)))) ∙
                  next.each (at / 4096) (block_low run.first at ge) (block_high run.next at (omega arith))))
              | inr past ↦ copies.after at past ∙ one.others at apart
            ]
      ];
  later = λ at ge. copies.after at (omega arith) ∙ one.later at (omega (arith, next.later, next.some));
  past = λ at ge. copies.after at (omega arith) ∙ one.past at ge;
}

-- One more run is completed.
pub completed_run : (has_holes : Bool) (blocks now : List Held) (kept first second done : ℕ) (run : Run) (a b c : List Call)
    → CompletesStates done blocks now → IsNextRun now done Lacking run
    → ChangesOnly second a b → ChangesOnly second b c
    → IsCompletedTo done has_holes blocks kept first second a b
    → IsCopied has_holes first second (4096 * run.first) (min (4096 * run.next) kept) b c
    → IsCompletedTo run.next has_holes blocks kept first second a c
completed_run has_holes blocks now kept first second done run a b c states next one two upto copied = λ was told apart holes.
    let before : CompletesTo done blocks kept first second was a b = upto was (two.honest was told) apart holes in
    completes_run blocks now kept first second done run was a b c states.later next
    (λ at. one.bytes was first at apart) before
    (copied was told apart (λ yes at ge lt.
    before.later at (omega (arith, next.later)) ∙
    holes yes at (omega arith) (omega (arith, next.recorded))
    (sym (states.later (at / 4096) (block_low done at (omega (arith, next.later)))) ∙
    next.each (at / 4096) (block_low run.first at ge) (block_high run.next at (omega arith)))))

-- No block is lacking any more, from one on.
pub completed_all : (has_holes : Bool) (blocks now : List Held) (kept first second done : ℕ) (a b : List Call)
    → done ≤ 65536 → CompletesStates done blocks now → HasNone now done 65536 Lacking
    → IsCompletedTo done has_holes blocks kept first second a b
    → IsCompletedTo 65536 has_holes blocks kept first second a b
completed_all has_holes blocks now kept first second done a b low states none upto = λ was told apart holes.
    let before : CompletesTo done blocks kept first second was a b = upto was told apart holes in record {
      lacking = λ at below high lacks.
          elim (cases_lt at (4096 * done)) as (λ w. byte_of was b second at ≡ byte_of was a first at) [
            | inl lt ↦ before.lacking at below lt lacks
            | inr ge ↦ absurd (none (at / 4096) (block_low done at ge) (block_high 65536 at high)
                (states.later (at / 4096) (block_low done at ge) ∙ lacks))
          ];
      others = before.others;
      later = λ at ge. before.later at (omega arith);
      past = before.past;
    }

completed_other : (held : Held) → ¬ (held ≡ Lacking) → completed held ≡ held
completed_other Same apart = refl
completed_other Lacking apart = absurd (apart refl)
completed_other Written apart = refl
completed_other Zeros apart = refl

-- The states after one more run.
pub states_run : (blocks now after : List Held) (done : ℕ) (run : Run) (recorded : run.next ≤ length now)
    → CompletesStates done blocks now → IsNextRun now done Lacking run → Notes run.first run.next Same now after
    → CompletesStates run.next blocks after
states_run blocks now after done run recorded states next notes = record {
  done = λ i high.
      elim (cases_lt i run.first) as (λ w. state_of after i ≡ completed (state_of blocks i)) [
        | inl lt ↦ notes.before i lt ∙
            (elim (cases_lt i done) as (λ w. state_of now i ≡ completed (state_of blocks i)) [
              | inl before ↦ states.done i before
              | inr beyond ↦ states.later i beyond ∙
                  sym (completed_other (state_of blocks i) (λ e. next.skipped i beyond lt (states.later i beyond ∙ e)))
            ])
        | inr ge ↦ notes.within i (omega arith) ge high ∙
            ap completed (sym (sym (states.later i (omega (arith, next.later))) ∙ next.each i ge high))
      ];
  later = λ i ge. notes.after i ge ∙ states.later i (omega (arith, next.later, next.some));
}

-- The states are completed if no block is lacking any more.
pub states_all : (blocks now : List Held) (done : ℕ) → done ≤ 65536 → CompletesStates done blocks now → HasNone now done 65536 Lacking
    → CompletesStates 65536 blocks now
states_all blocks now done low states none = record {
  done = λ i high.
      elim (cases_lt i done) as (λ w. state_of now i ≡ completed (state_of blocks i)) [
        | inl lt ↦ states.done i lt
        | inr ge ↦ states.later i ge ∙
            sym (completed_other (state_of blocks i) (λ e. none i ge high (states.later i ge ∙ e)))
      ];
  later = λ i ge. states.later i (omega arith);
}
