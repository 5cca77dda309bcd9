use Rattle.std.proofs.Common.{◌-◌, length}
use Rattle.std.specs.Prelude.{Ok}
use Rattle.bp_replies.specs.Gathering.{waiting}
use Rattle.pm_region.specs.Memory.{current_words}
use Rattle.bp_export.specs.Held.{IsBack}
use Rattle.bp_export.specs.Walking.{Place, Tours, WalkStandsAt, inside, up_to}
use Rattle.bp_export.proofs.trees.+export_below.Given as goal

-- how many bytes are left for a path
abbrev pub decreases-export_below : goal.decreases-export_below
decreases-export_below g l = 4096 - length l.work.now.path.items

-- the entries so far are reported
abbrev pub invariant-loop-k : goal.invariant-loop-k
invariant-loop-k g l = record {
  back : IsBack l.fn.work l.work;
  tours : (place : Place) → WalkStandsAt (current_words (g.R.Region.memory l.region)) l.counts inside l.ino l.fn.work.path.items l.fn.work.firsts place
      → Tours {T = Unit {0}} (current_words (g.R.Region.memory l.region)) l.counts (up_to l.k) place (Ok tt) l.work.firsts (waiting l.fn.work.replies) (waiting l.work.replies)
      (g.K.Sink.view l.fn.out) (g.K.Sink.view l.out);
}
