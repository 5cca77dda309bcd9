use Rattle.std.proofs.Common.{◌∙◌, Bool, List, ap, sym, arith, length, refl}
use Rattle.pm_epochs.specs.Replay.{Chosen}
use Rattle.pm_cores.specs.declared.entry.Entry.TheVariants.{Load, Store, Barrier}
use Rattle.pm_cores.specs.Choice.{mask_to}
use Rattle.pm_cores.specs.Inside.{flags_of}
use Rattle.pm_cores.proofs.Reading.{entry_read, store_read}
use Rattle.pm_cores.proofs.Flags.{mask_none, mask_store, few_more}
use Rattle.pm_cores.proofs.search.push_flags.Goals as goal
use Rattle.pm_cores.proofs.search.push_flags.Goals.{in-Load, in-Store, in-Barrier}

pub offset_bounds-since-word : goal.offset_bounds-since-word
offset_bounds-since-word c =
    let low = c.requires.words c.loop-k.k c.in-Store.core c.in-Store.word (store_read c.args.log.now c.loop-k.k c.in-Store.core c.in-Store.word c.in-Store.value c.loop-k-test.true c.in-Store.is) in
    let fits = c.type_inv.since in
    omega arith

pub bounds-since-word : goal.bounds-since-word
bounds-since-word c = c.requires.words c.loop-k.k c.in-Store.core c.in-Store.word (store_read c.args.log.now c.loop-k.k c.in-Store.core c.in-Store.word c.in-Store.value c.loop-k-test.true c.in-Store.is)

pub push_flag-requires : goal.push_flag-requires
push_flag-requires c =
    let so_far = c.loop-k.invariant.so_far in
    let few = c.loop-k.invariant.few in
    let test = c.loop-k-test.true in
    let room = c.requires.room in
    let mask_is = ap (λ (it : Chosen). length it.cut.mask) so_far in
    let room_is = ap (λ (it : Chosen). it.room) so_far in
    omega arith

pub loop-k-preserved : goal.loop-k-preserved
loop-k-preserved c =
    let log = c.args.log.now in
    let since = c.args.since.now in
    let k = c.loop-k.k in
    let with = λ (mask : List Bool). let it : Chosen = record { cut = record c.args.choice.now.cut { mask = mask }; room = c.args.choice.now.room } in it in
    let few = c.loop-k.invariant.few in
    elim c.match-log-k.branch [
      | in-Load w ↦
          let same = mask_none since log c.args.epoch k (Load w.in-Load.core w.in-Load.word) (entry_read log k (Load w.in-Load.core w.in-Load.word) c.loop-k-test.true w.in-Load.is) refl in
          record { so_far = w.choice-is ∙ c.loop-k.invariant.so_far ∙ ap with (sym same); few = rw same (omega arith) }
      | in-Store w ↦
          let next = mask_store since log c.args.epoch c.args.epochs.now c.requires.counted k w.in-Store.core w.in-Store.word w.in-Store.value (entry_read log k (Store w.in-Store.core w.in-Store.word w.in-Store.value) c.loop-k-test.true w.in-Store.is) w.is_counted-counts.result w.is_counted-counts.ensures in
          record {
            so_far = w.choice-is ∙ rw (w.push_flag.ensures, c.loop-k.invariant.so_far) (ap with (sym next));
            few = rw next (few_more (mask_to 0 c.args.epoch log (flags_of since log) k) w.is_counted-counts.result _ k few);
          }
      | in-Barrier w ↦
          let same = mask_none since log c.args.epoch k (Barrier w.in-Barrier.core) (entry_read log k (Barrier w.in-Barrier.core) c.loop-k-test.true w.in-Barrier.is) refl in
          record { so_far = w.choice-is ∙ c.loop-k.invariant.so_far ∙ ap with (sym same); few = rw same (omega arith) }
    ]
