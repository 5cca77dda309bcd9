use Rattle.std.proofs.Common.{subst, arith, length}
use Rattle.pm_cores.specs.Log.{IsStore}
use Rattle.pm_cores.proofs.Reading.{store_read, no_store_load, no_store_barrier, no_store_other}
use Rattle.pm_cores.proofs.Settling.{settled_start, settled_skip, settled_here, settled_low, settled_since, all_in_log, all_before}
use Rattle.pm_cores.proofs.search.settle_words.Goals as goal
use Rattle.pm_cores.proofs.search.settle_words.Goals.{in-Load, in-Store+then-core-owner+else-owner-epochs, in-Store+else-core-owner, in-Barrier}

pub loop-k-init : goal.loop-k-init
loop-k-init c = settled_start (length c.args.since.now) c.args.since.now c.args.log.now c.args.epochs.now c.requires.sound c.args.owner c.args.low c.requires.low

pub returns-then-owner-epochs-clause-since : goal.returns-then-owner-epochs-clause-since
returns-then-owner-epochs-clause-since c =
    let log = c.args.log.now in
    let store = subst (λ n. IsStore log c.loop-k.k n c.in-Store.word) c.if-core-owner.true (store_read log c.loop-k.k c.in-Store.core c.in-Store.word c.in-Store.value c.loop-k-test.true c.in-Store.is) in
    settled_since (length c.args.since.now) c.args.since.now log c.args.epochs.now c.requires.sound c.args.owner c.args.low c.loop-k.k c.loop-k.since c.loop-k.invariant
    (all_before (length c.args.since.now) c.args.since.now log c.args.epochs.now c.requires.sound c.args.owner c.loop-k.k c.in-Store.word store c.if-owner-epochs.true)

pub returns-then-owner-epochs-clause-low : goal.returns-then-owner-epochs-clause-low
returns-then-owner-epochs-clause-low c = settled_low (length c.args.since.now) c.args.since.now c.args.log.now c.args.epochs.now c.requires.sound c.args.owner c.args.low c.loop-k.k c.loop-k.since c.loop-k.invariant c.requires.low

pub clean_waiting-requires-clause-in_since : goal.clean_waiting-requires-clause-in_since
clean_waiting-requires-clause-in_since c =
    let low = c.requires.sound.words c.loop-k.k c.in-Store.core c.in-Store.word (store_read c.args.log.now c.loop-k.k c.in-Store.core c.in-Store.word c.in-Store.value c.loop-k-test.true c.in-Store.is) in
    let size = c.loop-k.auto.since in
    omega arith

pub loop-k-preserved : goal.loop-k-preserved
loop-k-preserved c =
    let log = c.args.log.now in
    let skip = settled_skip (length c.args.since.now) c.args.since.now log c.args.epochs.now c.requires.sound c.args.owner c.args.low c.loop-k.k c.loop-k.since c.loop-k.invariant in
    elim c.match-log-k.branch [
      | in-Load w ↦ rw w.since-is (skip (no_store_load log c.loop-k.k w.in-Load.core w.in-Load.word w.in-Load.is c.args.owner.core))
      | in-Store+then-core-owner+else-owner-epochs w ↦
          let store = subst (λ n. IsStore log c.loop-k.k n w.in-Store.word) w.if-core-owner.true (store_read log c.loop-k.k w.in-Store.core w.in-Store.word w.in-Store.value c.loop-k-test.true w.in-Store.is) in
          rw w.since-is (settled_here (length c.args.since.now) c.args.since.now log c.args.epochs.now c.requires.sound c.args.owner c.args.low c.loop-k.k c.loop-k.since c.loop-k.invariant
          w.in-Store.word store w.if-owner-epochs.false w.clean_waiting.new.since w.clean_waiting.ensures)
      | in-Store+else-core-owner w ↦ rw w.since-is (skip (no_store_other log c.loop-k.k w.in-Store.core w.in-Store.word w.in-Store.value c.args.owner.core w.in-Store.is w.if-core-owner.false))
      | in-Barrier w ↦ rw w.since-is (skip (no_store_barrier log c.loop-k.k w.in-Barrier.core w.in-Barrier.is c.args.owner.core))
    ]

pub returns-clause-since : goal.returns-clause-since
returns-clause-since c =
    let log = c.args.log.now in
    settled_since (length c.args.since.now) c.args.since.now log c.args.epochs.now c.requires.sound c.args.owner c.args.low c.loop-k.k c.loop-k.since c.loop-k.invariant
    (λ word is. let low = all_in_log (length c.args.since.now) c.args.since.now log c.args.epochs.now c.requires.sound c.args.owner word is in let t = c.loop-k-test.false in omega arith)

pub returns-clause-low : goal.returns-clause-low
returns-clause-low c =
    λ place word waits.
    let low = settled_low (length c.args.since.now) c.args.since.now c.args.log.now c.args.epochs.now c.requires.sound c.args.owner c.args.low c.loop-k.k c.loop-k.since c.loop-k.invariant c.requires.low place word waits in
    let t = c.loop-k-test.false in
    omega arith
