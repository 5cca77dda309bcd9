use Rattle.std.proofs.Common.{◌≡◌, ℕ, zero, suc, ◌+◌, ◌*◌, length, get_or, arith}
use Rattle.std.proofs.lemmas.List.{get_or-replicate}
use Rattle.bp_layout.specs.Words.{Image, slot_word}
use Rattle.bp_read.proofs.RegionWords.{length_now}
use Rattle.bp_cow.proofs.copies.read_block.Goals as goal

slot_there : (image : Image) (block slot : ℕ) → (block ≡ 0 → ⊥) → get_or image (512 * block + slot) 0 ≡ slot_word image block slot
slot_there image zero slot some = absurd (some (omega arith))
slot_there image (suc b) slot some = omega arith

pub returns-then-from-eq0 : goal.returns-then-from-eq0
returns-then-from-eq0 g c = λ slot low. rw (c.fill.ensures.after (λ y same. same), c.if-from-eq0.true) (get_or-replicate (length c.args.words.now) slot 0 0 (omega (arith, low)))

pub overflow_mul-from : goal.overflow_mul-from
overflow_mul-from g c = omega (arith, c.requires, length_now (g.R.Region.memory c.args.region.now), c.words-words.ensures, c.words-words.type_inv)

pub load_words-requires-clause-in_range : goal.load_words-requires-clause-in_range
load_words-requires-clause-in_range g c = omega (arith, c.requires, length_now (g.R.Region.memory c.args.region.now))
