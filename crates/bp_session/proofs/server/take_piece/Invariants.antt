use Rattle.std.proofs.Common.{◌≡◌, ◌≤◌, ◌-◌, take}
use Rattle.bp_session.specs.Serving.{moment, with_dirty}
use Rattle.bp_replies.specs.Gathering.{waiting}
use Rattle.bp_session.proofs.AheadLaws.{Waits}
use Rattle.bp_session.proofs.server.take_piece.Given as goal

-- the prefix of the piece was served, and the last replies wait
abbrev pub invariant-loop-end : goal.invariant-loop-end
invariant-loop-end g l =
    record {
      inside : l.at ≤ l.count;
      piece : l.work.piece.items ≡ l.fn.work.piece.items;
      waits : Waits g.V.FileSystem.behaviour (with_dirty l.fn.dirty (moment (g.V.FileSystem.state l.fn.system) (g.F.Files.view l.fn.files) (g.K.Sink.view l.fn.out))) l.most
          l.fn.work.buffers.line.items (take l.at l.fn.work.piece.items) l.work.buffers.line.items (waiting l.work.buffers.replies)
          (with_dirty l.dirty (moment (g.V.FileSystem.state l.system) (g.F.Files.view l.files) (g.K.Sink.view l.out)));
    }

abbrev pub decreases-loop-end : goal.decreases-loop-end
decreases-loop-end g l = l.count - l.at
