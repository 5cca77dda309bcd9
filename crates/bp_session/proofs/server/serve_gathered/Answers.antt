use Rattle.std.proofs.Common.{◌≡◌, ◌∙◌, ap, arith, length, min, rules, subst₂, sym, take}
use Rattle.std.proofs.lemmas.List.{length-take, take_min}
use Rattle.bp_limits.specs.Limits.{max_file_blocks}
use Rattle.bp_replies.specs.Room.{gathered_size}
use Rattle.bp_session.specs.Ends.{cause_of}
use Rattle.bp_session.specs.Serving.{Moment, ServeOutcome, moment, with_dirty}
use Rattle.bp_session.proofs.DirtyLaws.{lent_back}
use Rattle.bp_session.proofs.server.serve_gathered.Goals as goal

pub returns-clause-outcome : goal.returns-clause-outcome
returns-clause-outcome g c =
    let count = c.args.dirty.now.count in
    let flags = c.args.dirty.now.flags in
    let new = c.serve_by.new in
    let begun : Moment g.V.FileSystem.State = moment (g.V.FileSystem.state c.args.system.now) (g.F.Files.view c.args.files.now) (g.K.Sink.view c.args.out.now) in
    let ended : Moment g.V.FileSystem.State = moment (g.V.FileSystem.state new.system) (g.F.Files.view new.files) (g.K.Sink.view new.out) in
    let size : length flags ≡ max_file_blocks = search rules in
    let lent : c.min-count.result ≡ min count (length flags) = omega (arith, size, c.min-count.ensures) in
    let same : length new.dirty ≡ c.min-count.result = omega (arith, lent, c.serve_by.auto.dirty, length-take c.min-count.result flags) in
    subst₂ (λ old now. ServeOutcome g.V.FileSystem.behaviour (cause_of c.serve_by.result) gathered_size (g.S.Source.view c.args.src.now) (g.S.Source.view new.src) (with_dirty old begun) (with_dirty now ended))
    (ap (λ n. take n flags) lent ∙ take_min count flags) (sym (lent_back count c.min-count.result flags new.dirty lent same)) c.serve_by.ensures.outcome
