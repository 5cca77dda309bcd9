use Rattle.std.proofs.Common.{◌≡◌, ℕ, ◌+◌, ◌*◌, ◌≤◌, length, get_or, slice_range, nat_eq, refl, ap, subst, arith}
use Rattle.pm_region.specs.Memory.{current_words}
use Rattle.bp_layout.proofs.LoadedWords.{length-loaded, loaded_word}
use Rattle.bp_cow.specs.Copies.{HoldsPrefix}
use Rattle.bp_cow.proofs.CopyLaws.{prefix_none, prefix_more, prefix_room, prefix_long, stored_words, filled}
use Rattle.bp_cow.proofs.copies.store_pieces.Goals as goal

pub loop-piece-init : goal.loop-piece-init
loop-piece-init g c = record { most = omega arith; prefix = prefix_none c.args.to (λ slot. get_or c.args.words.now slot 0) (g.R.Region.memory c.args.region.now) }

pub set_words-requires-clause-in_range : goal.set_words-requires-clause-in_range
set_words-requires-clause-in_range g c =
    omega (
      arith,
      c.requires.to.inside,
      c.requires.few,
      c.loop-piece-test.true,
      c.next_group-count.ensures.most,
      length-loaded c.args.words.now _ (8 * c.loop-piece.piece) (8 * c.next_group-count.result) refl (omega (arith, c.requires.few, c.loop-piece-test.true, c.next_group-count.ensures.most)),
      prefix_long c.args.to _ (8 * c.loop-piece.piece) (g.R.Region.memory c.args.region.now) (g.R.Region.memory c.loop-piece.region) c.loop-piece.invariant.prefix,
    )

pub set_words-requires-clause-room : goal.set_words-requires-clause-room
set_words-requires-clause-room g c =
    omega (
      arith,
      c.requires.to.room,
      c.requires.few,
      c.loop-piece-test.true,
      c.next_group-count.ensures.most,
      length-loaded c.args.words.now _ (8 * c.loop-piece.piece) (8 * c.next_group-count.result) refl (omega (arith, c.requires.few, c.loop-piece-test.true, c.next_group-count.ensures.most)),
      prefix_room c.args.to _ (8 * c.loop-piece.piece) (g.R.Region.memory c.args.region.now) (g.R.Region.memory c.loop-piece.region) c.loop-piece.invariant.prefix,
    )

pub loop-piece-preserved : goal.loop-piece-preserved
loop-piece-preserved g c =
    let value : ℕ → ℕ = λ slot. get_or c.args.words.now slot 0 in
    let old = g.R.Region.memory c.args.region.now in
    let middle = g.R.Region.memory c.loop-piece.region in
    let new = g.R.Region.memory c.set_words.new.region in
    let prefix = c.loop-piece.invariant.prefix in
    let count : ℕ = 8 * c.loop-piece.piece in
    let more : ℕ = 8 * c.next_group-count.result in
    let fits : count + more ≤ 512 = omega (arith, c.requires.few, c.loop-piece-test.true, c.next_group-count.ensures.most) in
    let next : count + more ≡ 8 * (c.loop-piece.piece + c.next_group-count.result) = omega arith in
    let start : count ≡ 0 → c.loop-piece.piece ≡ 0 = λ none. omega (arith, none) in
    let inside : 512 * c.args.to + 512 ≤ length (current_words middle) = omega (arith, c.requires.to.inside, prefix_long c.args.to value count old middle prefix) in
    record {
      most = omega (arith, c.loop-piece-test.true, c.next_group-count.ensures.most);
      prefix = subst (λ n. HoldsPrefix c.args.to value n old new) next
          (prefix_more c.args.to count more value old middle prefix fits (omega (arith, c.next_group-count.ensures.some)) inside
          (slice_range c.args.words.now count (count + more)) (length-loaded c.args.words.now _ count more refl (omega (arith, fits)))
          (λ i few. loaded_word c.args.words.now _ count more refl i few)
          (nat_eq c.loop-piece.piece 0) new (λ none. ap (λ p. nat_eq p 0) (start none)) c.set_words.ensures);
    }

pub returns-clause-fills : goal.returns-clause-fills
returns-clause-fills g c =
    let old = g.R.Region.memory c.args.region.now in
    let new = g.R.Region.memory c.loop-piece.region in
    let end : 8 * c.loop-piece.piece ≡ 8 * c.args.pieces = omega (arith, c.loop-piece-test.false, c.loop-piece.invariant.most) in
    filled c.args.to _ (8 * c.args.pieces) old new (subst (λ n. HoldsPrefix c.args.to (λ slot. get_or c.args.words.now slot 0) n old new) end c.loop-piece.invariant.prefix) (omega (arith, c.requires.some)) (omega (arith, c.requires.few))

pub returns-clause-words : goal.returns-clause-words
returns-clause-words g c slot low =
    let old = g.R.Region.memory c.args.region.now in
    let new = g.R.Region.memory c.loop-piece.region in
    let end : 8 * c.loop-piece.piece ≡ 8 * c.args.pieces = omega (arith, c.loop-piece-test.false, c.loop-piece.invariant.most) in
    stored_words c.args.to _ (8 * c.args.pieces) old new (subst (λ n. HoldsPrefix c.args.to (λ slot. get_or c.args.words.now slot 0) n old new) end c.loop-piece.invariant.prefix) c.requires.to.not_null slot low
