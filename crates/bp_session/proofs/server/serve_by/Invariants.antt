use Rattle.std.proofs.Common.{[], ◌-◌, ◌≡◌, ◌≤◌, ℕ, List, length}
use Rattle.std.specs.Io.KnownBytes.{Consumes}
use Rattle.std.specs.Prelude.{None}
use Rattle.bp_session.specs.Serving.{PieceOutcome, moment, with_dirty}
use Rattle.bp_session.proofs.server.serve_by.Given as goal

-- What was read so far was served.
abbrev pub invariant-loop-count : goal.invariant-loop-count
invariant-loop-count g l =
    record {
      served : (input : List ℕ) × Consumes (g.S.Source.view l.fn.src).left (g.S.Source.view l.src).left input × (length input ≡ l.taken)
          × PieceOutcome g.V.FileSystem.behaviour None l.most [] input l.work.buffers.line.items
          (with_dirty l.fn.dirty (moment (g.V.FileSystem.state l.fn.system) (g.F.Files.view l.fn.files) (g.K.Sink.view l.fn.out)))
          (with_dirty l.dirty (moment (g.V.FileSystem.state l.system) (g.F.Files.view l.files) (g.K.Sink.view l.out)));
      source : (g.S.Source.view l.src).faults ≡ (g.S.Source.view l.fn.src).faults;
      taken : l.taken ≤ 1073741824;
    }

abbrev pub decreases-loop-count : goal.decreases-loop-count
decreases-loop-count g l = 1073741824 - l.taken
