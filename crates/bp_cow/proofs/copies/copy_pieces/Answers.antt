use Rattle.std.proofs.Common.{◌≡◌, ◌⊎◌, ℕ, ◌+◌, ◌*◌, ◌<◌, ◌≤◌, length, slice_range, nat_eq, refl, ◌∙◌, ap, subst, arith, inl, inr}
use Rattle.std.proofs.lemmas.Bool.{cases_lt}
use Rattle.bp_layout.specs.Words.{word}
use Rattle.pm_region.specs.Memory.{current_words}
use Rattle.bp_layout.proofs.LoadedWords.{length-loaded, loaded_word}
use Rattle.bp_cow.specs.Copies.{HoldsPrefix}
use Rattle.bp_cow.proofs.CopyLaws.{prefix_none, prefix_more, prefix_room, prefix_long, stored_words, filled}
use Rattle.bp_cow.proofs.copies.copy_pieces.Goals as goal

pub loop-piece-init : goal.loop-piece-init
loop-piece-init g c =
    let old = g.R.Region.memory c.args.region.now in
    record { most = omega arith; prefix = prefix_none c.args.to (λ slot. word (current_words old) (512 * c.args.from + slot)) old }

pub copy_some-requires-clause-from_after_head : goal.copy_some-requires-clause-from_after_head
copy_some-requires-clause-from_after_head g c = omega (arith, c.requires.present)

pub copy_some-requires-clause-to_after_head : goal.copy_some-requires-clause-to_after_head
copy_some-requires-clause-to_after_head g c = omega (arith, c.requires.to.not_null)

pub copy_some-requires-clause-from : goal.copy_some-requires-clause-from
copy_some-requires-clause-from g c =
    omega (arith, c.requires.from, c.requires.few, c.loop-piece-test.true, c.next_pieces-count.ensures.most, prefix_long c.args.to _ (8 * c.loop-piece.piece) (g.R.Region.memory c.args.region.now) (g.R.Region.memory c.loop-piece.region) c.loop-piece.invariant.prefix)

pub copy_some-requires-clause-to : goal.copy_some-requires-clause-to
copy_some-requires-clause-to g c =
    omega (arith, c.requires.to.inside, c.requires.few, c.loop-piece-test.true, c.next_pieces-count.ensures.most, prefix_long c.args.to _ (8 * c.loop-piece.piece) (g.R.Region.memory c.args.region.now) (g.R.Region.memory c.loop-piece.region) c.loop-piece.invariant.prefix)

pub copy_some-requires-clause-room : goal.copy_some-requires-clause-room
copy_some-requires-clause-room g c =
    omega (arith, c.requires.to.room, c.requires.few, c.loop-piece-test.true, c.next_pieces-count.ensures.most, prefix_room c.args.to _ (8 * c.loop-piece.piece) (g.R.Region.memory c.args.region.now) (g.R.Region.memory c.loop-piece.region) c.loop-piece.invariant.prefix)

-- no word that is still to be copied was stored to, whichever block it is in
still : (from to count i : ℕ) → count + i < 512 → (512 * from + count + i < 512 * to) ⊎ (512 * to + count ≤ 512 * from + count + i)
still from to count i few = go (cases_lt from to)
  where
    go : (from < to) ⊎ (to ≤ from) → (512 * from + count + i < 512 * to) ⊎ (512 * to + count ≤ 512 * from + count + i)
    go (inl before) = inl (omega (arith, before, few))
    go (inr beyond) = inr (omega (arith, beyond))

pub loop-piece-preserved : goal.loop-piece-preserved
loop-piece-preserved g c =
    let old = g.R.Region.memory c.args.region.now in
    let middle = g.R.Region.memory c.loop-piece.region in
    let new = g.R.Region.memory c.copy_some.new.region in
    let value : ℕ → ℕ = λ slot. word (current_words old) (512 * c.args.from + slot) in
    let prefix = c.loop-piece.invariant.prefix in
    let count : ℕ = 8 * c.loop-piece.piece in
    let place : ℕ = 512 * c.args.from + count in
    let more : ℕ = 8 * c.next_pieces-count.result in
    let fits : count + more ≤ 512 = omega (arith, c.requires.few, c.loop-piece-test.true, c.next_pieces-count.ensures.most) in
    let next : count + more ≡ 8 * (c.loop-piece.piece + c.next_pieces-count.result) = omega arith in
    let start : count ≡ 0 → c.loop-piece.piece ≡ 0 = λ none. omega (arith, none) in
    let long = prefix_long c.args.to value count old middle prefix in
    let inside : 512 * c.args.to + 512 ≤ length (current_words middle) = omega (arith, c.requires.to.inside, long) in
    let source : place + more ≤ length (current_words middle) = omega (arith, c.requires.from, fits, long) in
    record {
      most = omega (arith, c.loop-piece-test.true, c.next_pieces-count.ensures.most);
      prefix = subst (λ n. HoldsPrefix c.args.to value n old new) next
          (prefix_more c.args.to count more value old middle prefix fits (omega (arith, c.next_pieces-count.ensures.some)) inside
          (slice_range (current_words middle) place (place + more)) (length-loaded (current_words middle) _ place more refl source)
          (λ i few.
          let there : place + i ≡ 512 * c.args.from + (count + i) = omega arith in
          loaded_word (current_words middle) _ place more refl i few ∙ prefix.others (place + i) (still c.args.from c.args.to count i (omega (arith, fits, few))) ∙ ap (word (current_words old)) there)
          (nat_eq c.loop-piece.piece 0) new (λ none. ap (λ p. nat_eq p 0) (start none)) c.copy_some.ensures);
    }

pub returns-clause-fills : goal.returns-clause-fills
returns-clause-fills g c =
    let old = g.R.Region.memory c.args.region.now in
    let new = g.R.Region.memory c.loop-piece.region in
    let end : 8 * c.loop-piece.piece ≡ 8 * c.args.pieces = omega (arith, c.loop-piece-test.false, c.loop-piece.invariant.most) in
    filled c.args.to _ (8 * c.args.pieces) old new (subst (λ n. HoldsPrefix c.args.to (λ slot. word (current_words old) (512 * c.args.from + slot)) n old new) end c.loop-piece.invariant.prefix)
    (omega (arith, c.requires.some)) (omega (arith, c.requires.few))

pub returns-clause-copied : goal.returns-clause-copied
returns-clause-copied g c slot low =
    let old = g.R.Region.memory c.args.region.now in
    let new = g.R.Region.memory c.loop-piece.region in
    let end : 8 * c.loop-piece.piece ≡ 8 * c.args.pieces = omega (arith, c.loop-piece-test.false, c.loop-piece.invariant.most) in
    stored_words c.args.to _ (8 * c.args.pieces) old new (subst (λ n. HoldsPrefix c.args.to (λ slot. word (current_words old) (512 * c.args.from + slot)) n old new) end c.loop-piece.invariant.prefix) c.requires.to.not_null slot low
