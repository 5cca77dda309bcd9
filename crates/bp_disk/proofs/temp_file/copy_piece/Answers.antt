use Rattle.std.proofs.Common.{◌≡◌, length, rules}
use Rattle.bp_disk.specs.Calls.{number_of}
use Rattle.bp_disk.specs.Held.{IsZeros}
use Rattle.bp_disk.proofs.CopyLaws.{hole_copied}
use Rattle.bp_disk.proofs.temp_file.copy_piece.Goals as goal

pub returns-then-is_zeros-clause-copied : goal.returns-then-is_zeros-clause-copied
returns-then-is_zeros-clause-copied g c = λ was honest other has.
    let zeros : IsZeros c.read.new.into = c.is_zeros.ensures.0 (search rules) in
    let size : length c.read.new.into ≡ length c.args.piece.now = search rules in
    hole_copied was (number_of c.args.from.now) (number_of c.args.to.now) c.args.at (length c.args.piece.now) c.read.new.into
    (g.S.System.calls c.args.system.now) (g.S.System.calls c.read.new.self) c.in_ok-read.ensures.done size zeros honest
    (has c.if-has_hole.true)
