use Rattle.std.proofs.Common.{ℕ, subst, arith, length}
use Rattle.std.proofs.lemmas.Option.{get_or_from_slice_get}
use Rattle.pm_cores.specs.declared.entry.Entry.TheVariants.{Load, Store}
use Rattle.pm_cores.specs.Log.{IsStore}
use Rattle.pm_cores.proofs.Lowest.{IsLowestTo, lowest_start, lowest_skip, lowest_step, lowest_end, lowest_before}
use Rattle.pm_cores.proofs.Reading.{store_read, no_store_load, no_store_barrier, no_store_other}
use Rattle.pm_cores.proofs.Lists.{get_within}
use Rattle.pm_cores.proofs.search.lowest_word.Goals as goal
use Rattle.pm_cores.proofs.search.lowest_word.Goals.{in-Load, in-Store+then-core-owner+else-owner-epochs, in-Store+else-core-owner, in-Barrier}

pub loop-k-init : goal.loop-k-init
loop-k-init c =
    let sound = c.requires.sound in
    let found = c.requires.found in
    let at = get_or_from_slice_get c.args.log.now c.args.first (Store c.args.owner.core found.0 found.1.store.value) (Load 0 0) found.1.store.is in
    let is = c.stored_word-lowest.ensures c.args.owner.core found.0 found.1.store.value at in
    rw is (lowest_start (length c.args.since.now) c.args.since.now c.args.log.now c.args.epochs.now sound c.args.owner c.args.first c.requires.low found c.requires.epoch found.0 found.1.store)

pub returns-then-owner-epochs-clause-lowest : goal.returns-then-owner-epochs-clause-lowest
returns-then-owner-epochs-clause-lowest c =
    let sound = c.requires.sound in
    let log = c.args.log.now in
    let store = subst (λ n. IsStore log c.loop-k.k n c.in-Store.word) c.if-core-owner.true (store_read log c.loop-k.k c.in-Store.core c.in-Store.word c.in-Store.value c.loop-k-test.true c.in-Store.is) in
    lowest_before (length c.args.since.now) c.args.since.now log c.args.epochs.now sound c.args.owner c.args.first c.requires.low c.requires.found c.requires.epoch c.loop-k.k c.loop-k.lowest c.in-Store.word c.loop-k.invariant store c.if-owner-epochs.true

pub offset_bounds-since-word : goal.offset_bounds-since-word
offset_bounds-since-word c =
    let low = c.requires.sound.words c.loop-k.k c.in-Store.core c.in-Store.word (store_read c.args.log.now c.loop-k.k c.in-Store.core c.in-Store.word c.in-Store.value c.loop-k-test.true c.in-Store.is) in
    let size = c.requires.sound.as_many_since in
    let fits = c.type_inv.since in
    omega arith

pub bounds-since-word : goal.bounds-since-word
bounds-since-word c =
    let sound = c.requires.sound in
    let low = sound.words c.loop-k.k c.in-Store.core c.in-Store.word (store_read c.args.log.now c.loop-k.k c.in-Store.core c.in-Store.word c.in-Store.value c.loop-k-test.true c.in-Store.is) in
    let size = sound.as_many_since in
    omega arith

pub loop-k-preserved : goal.loop-k-preserved
loop-k-preserved c =
    let sound = c.requires.sound in
    let log = c.args.log.now in
    let skip = λ (none : (word : ℕ) → IsStore log c.loop-k.k c.args.owner.core word → ⊥).
    lowest_skip (length c.args.since.now) c.args.since.now log c.args.epochs.now sound c.args.owner c.args.first c.requires.low c.requires.found c.requires.epoch c.loop-k.k c.loop-k.lowest c.loop-k.invariant (λ word store waits. absurd (none word store)) in
    elim c.match-log-k.branch [
      | in-Load w ↦ rw w.lowest-is (skip (no_store_load log c.loop-k.k w.in-Load.core w.in-Load.word w.in-Load.is c.args.owner.core))
      | in-Store+then-core-owner+else-owner-epochs w ↦
          let store = subst (λ n. IsStore log c.loop-k.k n w.in-Store.word) w.if-core-owner.true (store_read log c.loop-k.k w.in-Store.core w.in-Store.word w.in-Store.value c.loop-k-test.true w.in-Store.is) in
          rw (w.lowest-is, w.lower_of-lowest.ensures)
          (lowest_step (length c.args.since.now) c.args.since.now log c.args.epochs.now sound c.args.owner c.args.first c.requires.low c.requires.found c.requires.epoch c.loop-k.k c.loop-k.lowest w.in-Store.word c.loop-k.invariant store w.if-owner-epochs.false w.waits.result w.waits.ensures)
      | in-Store+else-core-owner w ↦ rw w.lowest-is (skip (no_store_other log c.loop-k.k w.in-Store.core w.in-Store.word w.in-Store.value c.args.owner.core w.in-Store.is w.if-core-owner.false))
      | in-Barrier w ↦ rw w.lowest-is (skip (no_store_barrier log c.loop-k.k w.in-Barrier.core w.in-Barrier.is c.args.owner.core))
    ]

pub returns-clause-lowest : goal.returns-clause-lowest
returns-clause-lowest c =
    let sound = c.requires.sound in
    let log = c.args.log.now in
    let t = c.loop-k-test.false in
    let found = c.requires.found in
    λ word by. lowest_end (length c.args.since.now) c.args.since.now log c.args.epochs.now sound c.args.owner c.args.first c.requires.low found c.requires.epoch c.loop-k.lowest (subst (λ n. IsLowestTo c.args.since.now log c.args.epochs.now c.args.owner n c.loop-k.lowest) (let low = get_within log c.args.first (Store c.args.owner.core found.0 found.1.store.value) found.1.store.is in omega arith) c.loop-k.invariant) word by
