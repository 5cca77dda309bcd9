use Rattle.std.proofs.Common.{◌≡◌, ◌∙◌, ap, arith, sym, inl, inr}
use Rattle.bp_roles.specs.declared.roles.Roles.{Roles}
use Rattle.bp_shell.specs.Stops.{stop_by}
use Rattle.bp_shell.specs.declared.stop.Stop.TheVariants.{Refused}
use Rattle.bp_shell.proofs.OpeningLaws.{no_refusal, stop_kinds, stop_refused}
use Rattle.bp_shell.proofs.SeeingLaws.{length-by_roles, length-seen_now, seen-mounted, sized-seen}
use Rattle.bp_shell.proofs.scan.scan_with.Goals as goal
use Rattle.bp_mount.specs.Faults.{stored_fault}

pub scan_whole-requires-clause-sized : goal.scan_whole-requires-clause-sized
scan_whole-requires-clause-sized c = sized-seen c.args.region.now c.requires.seen c.requires.sized

pub scan_whole-requires-clause-blocks : goal.scan_whole-requires-clause-blocks
scan_whole-requires-clause-blocks c = omega (arith, c.requires.blocks, length-seen_now c.args.region.now c.requires.seen)

pub scan_whole-requires-clause-inodes : goal.scan_whole-requires-clause-inodes
scan_whole-requires-clause-inodes c = omega (arith, c.requires.inodes, length-seen_now c.args.region.now c.requires.seen)

pub scan_whole-requires-clause-snapshot_blocks : goal.scan_whole-requires-clause-snapshot_blocks
scan_whole-requires-clause-snapshot_blocks c = omega (arith, c.requires.snapshot_blocks, length-seen_now c.args.region.now c.requires.seen)

pub scan_whole-requires-clause-pending : goal.scan_whole-requires-clause-pending
scan_whole-requires-clause-pending c = omega (arith, c.requires.pending, length-seen_now c.args.region.now c.requires.seen)

pub scan_whole-requires-clause-counts : goal.scan_whole-requires-clause-counts
scan_whole-requires-clause-counts c = omega (arith, c.requires.counts, length-seen_now c.args.region.now c.requires.seen)

pub returns-in-Err-clause-refused : goal.returns-in-Err-clause-refused
returns-in-Err-clause-refused c = λ known notice has e.
    let region = c.args.region.now in
    let stored = stored_fault c.roles.result c.in-Err.fault in
    let reported : stop_by stored ≡ Refused notice = ap stop_by (sym c.stored_fault.ensures) ∙ sym c.stop_of.ensures ∙ e in
    elim c.in-Err.ensures.fault [
      | inl memory ↦ absurd (no_refusal notice (rw memory at reported))
      | inr why ↦
          stop_refused stored region.memory.base known notice
          (record {
            shown = c.in-Err.fault;
            applies = rw (seen-mounted region c.requires.seen) at why;
            stored = ap (λ (roles : Roles). stored_fault roles c.in-Err.fault) (c.roles.ensures ∙ c.requires.seen.roles);
          })
          (record { has = has; sized = c.requires.sized }) reported
    ]

pub returns-in-Err-clause-kinds : goal.returns-in-Err-clause-kinds
returns-in-Err-clause-kinds c = rw c.stop_of.ensures (stop_kinds c.stored_fault.result)

pub returns-in-Ok-clause-found : goal.returns-in-Ok-clause-found
returns-in-Ok-clause-found c =
    let same = seen-mounted c.args.region.now c.requires.seen in
    record {
      whole = rw same at c.in-Ok.ensures.well_formed;
      snapshot_blocks = rw same at c.in-Ok.ensures.snapshot_blocks;
      free = rw same at c.in-Ok.ensures.blocks;
      block_room = omega (arith, c.in-Ok.ensures.block_room, c.requires.blocks, length-by_roles c.args.region.now.memory.base);
      named = rw same at c.in-Ok.ensures.counts;
      inode_room = omega (arith, c.in-Ok.ensures.count_room, c.requires.counts, length-by_roles c.args.region.now.memory.base);
      held = rw same at c.in-Ok.ensures.totals;
    }
