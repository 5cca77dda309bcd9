use Rattle.std.proofs.Common.{◌∙◌, arith, length}
use Rattle.pm_cores.proofs.Views.{line_owner_known, line_owner_most, line_owner_each, since_within, whole_line}
use Rattle.pm_cores.proofs.cores.Cores.owner_of_line.Goals as goal

pub line_owner-requires-clause-in_log : goal.line_owner-requires-clause-in_log
line_owner-requires-clause-in_log c =
    λ other. rw (c.deref.ensures.value, c.deref-2.ensures.value) (since_within _ _ _ _ c.self.invariant.sound other)

pub line_owner-requires-clause-whole : goal.line_owner-requires-clause-whole
line_owner-requires-clause-whole c =
    let lines = c.self.invariant.whole_lines in
    let size = c.self.invariant.sound.as_many_since in
    let low = rw (← c.self.view_is) at c.requires in
    rw c.deref.ensures.value (whole_line c.args.i (length c.self.inside.since.items) lines.0 (omega (arith, size, lines.1)) (omega (arith, low, size)))

pub returns : goal.returns
returns c =
    let sound = c.self.invariant.sound in
    let is = rw (c.deref.ensures.value, c.deref-2.ensures.value, c.deref-3.ensures.value) at c.line_owner.ensures in
    rw (← c.self.view_is)
    (record {
      line = is;
      core = line_owner_known _ _ _ _ sound c.self.inside.counts.len c.self.invariant.known_cores c.args.i _ is;
      epoch = line_owner_most _ _ _ _ sound c.args.i _ is;
      each = λ other owner under same. is ∙ line_owner_each _ _ _ _ sound c.args.i other owner under same;
    })
