use Rattle.std.proofs.Common.{subst, arith}
use Rattle.pm_cores.proofs.Cleaning.{IsCleanTo, clean_start, clean_skip, clean_here, clean_end}
use Rattle.pm_cores.proofs.Reading.{store_read, no_store_load, no_store_barrier}
use Rattle.pm_cores.proofs.search.clean_words.Goals as goal
use Rattle.pm_cores.proofs.search.clean_words.Goals.{in-Load, in-Store, in-Barrier}

pub loop-k-init : goal.loop-k-init
loop-k-init c = clean_start c.args.since.now c.args.log.now c.requires.first

pub clean_word-requires : goal.clean_word-requires
clean_word-requires c =
    let low = c.requires.words c.loop-k.k c.in-Store.core c.in-Store.word (store_read c.args.log.now c.loop-k.k c.in-Store.core c.in-Store.word c.in-Store.value c.loop-k-test.true c.in-Store.is) in
    let size = c.loop-k.invariant.size in
    omega arith

pub loop-k-preserved : goal.loop-k-preserved
loop-k-preserved c =
    let log = c.args.log.now in
    elim c.match-log-k.branch [
      | in-Load w ↦ rw w.since-is (clean_skip c.args.since.now log c.loop-k.k c.loop-k.since c.loop-k.invariant (no_store_load log c.loop-k.k w.in-Load.core w.in-Load.word w.in-Load.is))
      | in-Store w ↦
          let store = store_read log c.loop-k.k w.in-Store.core w.in-Store.word w.in-Store.value c.loop-k-test.true w.in-Store.is in
          let low = c.requires.words c.loop-k.k w.in-Store.core w.in-Store.word store in
          let size = c.loop-k.invariant.size in
          rw (w.since-is, w.clean_word.ensures) (clean_here c.args.since.now log c.loop-k.k c.loop-k.since w.in-Store.core w.in-Store.word c.loop-k.invariant store (omega arith))
      | in-Barrier w ↦ rw w.since-is (clean_skip c.args.since.now log c.loop-k.k c.loop-k.since c.loop-k.invariant (no_store_barrier log c.loop-k.k w.in-Barrier.core w.in-Barrier.is))
    ]

pub returns : goal.returns
returns c =
    let t = c.loop-k-test.false in
    clean_end c.args.since.now c.args.log.now c.loop-k.since (subst (λ n. IsCleanTo c.args.since.now c.args.log.now n c.loop-k.since) (omega arith) c.loop-k.invariant)
