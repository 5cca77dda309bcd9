use Rattle.std.proofs.Common.{◌≡◌, ◌<◌, get_or, length, arith, subst, sym}
use Rattle.std.proofs.lemmas.List.{get_or_read}
use Rattle.std.specs.Prelude.{eqb}
use Rattle.bp_free.specs.Words.{HoldRoom, set_in, ComplementsWord, ReportsEmpty}
use Rattle.bp_free.proofs.Words.{room_seen}
use Rattle.bp_free.proofs.Complement.{turned_holds, turned_seen, turned_reports}
use Rattle.bp_free.proofs.bits.Bits.complement_word.Goals as goal

pub overflow_mul-word : goal.overflow_mul-word
overflow_mul-word c =
    let room = room_seen _ _ _ c.self.view_is in
    omega (arith, room, c.requires.in_range, c.self.invariant.fits)

pub overflow_sub-self-inside : goal.overflow_sub-self-inside
overflow_sub-self-inside c =
    let room = room_seen _ _ _ c.self.view_is in
    omega (arith, room, c.requires.in_range)

pub get-requires : goal.get-requires
get-requires c =
    let room = room_seen _ _ _ c.other.view_is in
    omega (arith, room, c.requires.room, c.requires.in_range, c.other.invariant.long)

pub set-requires : goal.set-requires
set-requires c =
    let room = room_seen _ _ _ c.self.view_is in
    omega (arith, room, c.requires.in_range, c.self.invariant.long)

pub invariant_of-self : goal.invariant_of-self
invariant_of-self c =
    let room = room_seen _ _ _ c.self.view_is in
    subst (λ words. HoldRoom words c.self.inside.room) (sym c.set.ensures)
    (turned_holds c.self.inside.words c.self.inside.room c.args.word c.get.result c.min-count.result c.turned_over-bits.result c.self.invariant
    (omega (arith, room, c.requires.in_range)) c.min-count.ensures c.turned_over-bits.ensures)

pub returns-clause-numbers : goal.returns-clause-numbers
returns-clause-numbers c =
    let room = room_seen _ _ _ c.self.view_is in
    let room_other = room_seen _ _ _ c.other.view_is in
    let at : c.args.word < length c.other.inside.words =
    omega (arith, room_other, c.requires.room, c.requires.in_range, c.other.invariant.long) in
    let read : c.get.result ≡ get_or c.other.inside.words c.args.word 0 = get_or_read _ c.args.word _ at c.get.ensures 0 in
    subst (λ words. ComplementsWord c.args.other.now c.args.self.now (set_in words c.self.inside.room) c.args.word) (sym c.set.ensures)
    (turned_seen c.self.inside.words c.other.inside.words c.self.inside.room c.other.inside.room c.args.word c.get.result c.min-count.result c.turned_over-bits.result
    c.args.self.now c.args.other.now c.self.invariant c.self.view_is c.other.invariant c.other.view_is
    (omega (arith, room, c.requires.in_range)) read c.min-count.ensures c.turned_over-bits.ensures)

pub returns-clause-empty : goal.returns-clause-empty
returns-clause-empty c =
    let room = room_seen _ _ _ c.self.view_is in
    subst (λ words. ReportsEmpty (set_in words c.self.inside.room) c.args.word (eqb c.turned_over-bits.result 0)) (sym c.set.ensures)
    (turned_reports c.self.inside.words c.self.inside.room c.args.word c.get.result c.min-count.result c.turned_over-bits.result c.self.invariant
    (omega (arith, room, c.requires.in_range)) (omega arith) c.min-count.ensures c.turned_over-bits.ensures)
