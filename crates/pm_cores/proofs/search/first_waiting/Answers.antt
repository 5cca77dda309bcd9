use Rattle.std.proofs.Common.{◌≡◌, ◌∙◌, inl, inr, ap, sym, subst, arith, get_or, true, false}
use Rattle.std.proofs.lemmas.Bool.{cases_eq}
use Rattle.pm_cores.specs.Log.{IsStore}
use Rattle.pm_cores.specs.Inside.{waits_at}
use Rattle.pm_cores.proofs.Reading.{store_read, no_store_load, no_store_barrier, no_store_other, same_word}
use Rattle.pm_cores.proofs.search.first_waiting.Goals as goal
use Rattle.pm_cores.proofs.search.first_waiting.Goals.{in-Load, in-Store+else-other-core, else-other-core-via-then-other-core+else-waits, else-other-core-via-else-other-core, in-Barrier}

pub offset_bounds-since-word : goal.offset_bounds-since-word
offset_bounds-since-word c =
    let low = c.requires.words c.loop-k.k c.in-Store.other c.in-Store.word (store_read c.args.log.now c.loop-k.k c.in-Store.other c.in-Store.word c.in-Store.value c.loop-k-test.true c.in-Store.is) in
    let fits = c.type_inv.since in
    omega arith

pub bounds-since-word : goal.bounds-since-word
bounds-since-word c = c.requires.words c.loop-k.k c.in-Store.other c.in-Store.word (store_read c.args.log.now c.loop-k.k c.in-Store.other c.in-Store.word c.in-Store.value c.loop-k-test.true c.in-Store.is)

pub returns-then-waits-clause-found : goal.returns-then-waits-clause-found
returns-then-waits-clause-found c = λ low.
    let store = store_read c.args.log.now c.loop-k.k c.in-Store.other c.in-Store.word c.in-Store.value c.loop-k-test.true c.in-Store.is in
    (c.in-Store.word, record { store = subst (λ n. IsStore c.args.log.now c.loop-k.k n c.in-Store.word) c.if-other-core.true store; waits = sym c.waits.ensures ∙ c.if-waits.true })

pub loop-k-preserved : goal.loop-k-preserved
loop-k-preserved c = λ place word waits.
    let before = c.loop-k.invariant place word waits in
    let log = c.args.log.now in
    elim (cases_eq place c.loop-k.k) [
      | inl here ↦
          let store = subst (λ n. IsStore log n c.args.core word) here waits.store in
          let waiting = subst (λ n. waits_at (get_or c.args.since.now word 0) n ≡ true) here waits.waits in
          elim c.match-log-k.branch [
            | in-Load w ↦ absurd (no_store_load log c.loop-k.k w.in-Load.core w.in-Load.word w.in-Load.is c.args.core word store)
            | in-Store+else-other-core w ↦ elim w.else-other-core.branch [
              | else-other-core-via-then-other-core+else-waits v ↦
                  let word_is = same_word log c.loop-k.k c.args.core w.in-Store.other word w.in-Store.word w.in-Store.value w.in-Store.is store in
                  let not : true ≡ false = sym waiting ∙ ap (λ n. waits_at (get_or c.args.since.now n 0) c.loop-k.k) word_is ∙ sym v.waits.ensures ∙ v.if-waits.false in
                  cc
              | else-other-core-via-else-other-core v ↦ absurd (no_store_other log c.loop-k.k w.in-Store.other w.in-Store.word w.in-Store.value c.args.core w.in-Store.is v.if-other-core.false word store)
            ]
            | in-Barrier w ↦ absurd (no_store_barrier log c.loop-k.k w.in-Barrier.core w.in-Barrier.is c.args.core word store)
          ]
      | inr differ ↦ omega arith
    ]
