use Rattle.std.proofs.Common.{◌≡◌, ◌<◌, ◌*◌, ◌+◌, get_or, length, arith, subst, sym, ◌∙◌}
use Rattle.std.proofs.lemmas.List.{get_or_read}
use Rattle.bp_free.specs.Words.{IsEmptyWord, IsLeastInWord}
use Rattle.bp_free.proofs.Words.{room_seen, word_seen, empty_word, least_in_word, alone_reports_at}
use Rattle.bp_free.proofs.bits.Bits.first_in_word.Goals as goal

pub get-bits-requires : goal.get-bits-requires
get-bits-requires g c =
    let low = word_seen _ _ _ (64 * c.args.word) c.self.invariant c.self.view_is c.requires in
    omega (arith, low)

pub returns-in_err-bit-clause-least : goal.returns-in_err-bit-clause-least
returns-in_err-bit-clause-least g c =
    let low = word_seen _ _ _ (64 * c.args.word) c.self.invariant c.self.view_is c.requires in
    let bound : c.args.word < length c.self.inside.words = omega (arith, low) in
    let value : c.get-bits.result ≡ get_or c.self.inside.words c.args.word 0 = get_or_read _ c.args.word _ bound c.get-bits.ensures 0 in
    rw c.from_residual.ensures
    (subst (λ s. IsEmptyWord s c.args.word) c.self.view_is
    (empty_word c.self.inside.words c.self.inside.room c.args.word c.self.invariant (sym value ∙ c.in_err-bit.ensures)))

least_at : goal.returns-clause-least
least_at g c =
    let low = word_seen _ _ _ (64 * c.args.word) c.self.invariant c.self.view_is c.requires in
    let bound : c.args.word < length c.self.inside.words = omega (arith, low) in
    let value : c.get-bits.result ≡ get_or c.self.inside.words c.args.word 0 = get_or_read _ c.args.word _ bound c.get-bits.ensures 0 in
    subst (λ s. IsLeastInWord s c.args.word (64 * c.args.word + c.in_ok-bit.bit)) c.self.view_is
    (least_in_word c.self.inside.words c.self.inside.room c.args.word c.get-bits.result c.in_ok-bit.bit c.self.invariant value c.in_ok-bit.ensures)

pub overflow_mul-result : goal.overflow_mul-result
overflow_mul-result g c =
    let room = room_seen _ _ _ c.self.view_is in
    omega (arith, room, c.requires, c.self.invariant.fits)

pub overflow_add-result : goal.overflow_add-result
overflow_add-result g c =
    let least = least_at g c in
    let room = room_seen _ _ _ c.self.view_is in
    omega (arith, room, least.low, c.self.invariant.fits)

pub returns-clause-least : goal.returns-clause-least
returns-clause-least g c = least_at g c

pub returns-clause-alone : goal.returns-clause-alone
returns-clause-alone g c =
    alone_reports_at _ _ _ c.args.word c.in_ok-bit.bit c.get-bits.result c.self.invariant c.self.view_is (least_at g c).low c.in_ok-bit.ensures.low c.get-bits.ensures
