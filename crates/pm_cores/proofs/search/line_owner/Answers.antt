use Rattle.std.proofs.Common.{◌≡◌, ◌+◌, ◌*◌, ◌-◌, ◌∙◌, ℕ, sym, arith, get_or, None}
use Rattle.pm_cores.specs.Log.{line_at}
use Rattle.pm_cores.specs.Inside.{owners_of}
use Rattle.pm_cores.proofs.Views.{first_owner_step, first_owner_skip, owner_seen, length-owners}
use Rattle.pm_cores.proofs.search.line_owner.Goals as goal

pub returns-then-is_some : goal.returns-then-is_some
returns-then-is_some c =
    let owners = owners_of c.args.since.now c.args.log.now c.args.epochs.now in
    let found : c.owner_at-owner.result ≡ get_or owners c.loop-i.i None = c.owner_at-owner.ensures ∙ sym (owner_seen c.args.since.now c.args.log.now c.args.epochs.now c.loop-i.i) in
    let n : ℕ = 8 * line_at c.args.word + 7 - c.loop-i.i in
    let test = c.loop-i-test.true in
    let whole = c.requires.whole in
    let size = length-owners c.args.since.now c.args.log.now c.args.epochs.now in
    sym (first_owner_step owners (8 * line_at c.args.word + 8 - c.loop-i.i) n c.loop-i.i c.owner_at-owner.result (omega arith) (omega arith) found (sym c.is_some.ensures ∙ c.if-is_some.true))
    ∙ c.loop-i.invariant

pub loop-i-preserved : goal.loop-i-preserved
loop-i-preserved c =
    let owners = owners_of c.args.since.now c.args.log.now c.args.epochs.now in
    let found : c.owner_at-owner.result ≡ get_or owners c.loop-i.i None = c.owner_at-owner.ensures ∙ sym (owner_seen c.args.since.now c.args.log.now c.args.epochs.now c.loop-i.i) in
    let n : ℕ = 8 * line_at c.args.word + 8 - (c.loop-i.i + 1) in
    let test = c.loop-i-test.true in
    let whole = c.requires.whole in
    let size = length-owners c.args.since.now c.args.log.now c.args.epochs.now in
    sym (first_owner_skip owners (8 * line_at c.args.word + 8 - c.loop-i.i) n c.loop-i.i c.owner_at-owner.result (omega arith) (omega arith) found (sym c.is_some.ensures ∙ c.if-is_some.false))
    ∙ c.loop-i.invariant
