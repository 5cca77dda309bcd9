use Rattle.std.proofs.Common.{ℕ, ◌+◌, ◌*◌, ◌<◌, ◌≤◌, List, length, get_or, refl, arith}
use Rattle.pm_region.specs.Memory.{Memory, Adds, current_words, stores_from}
use Rattle.pm_region.proofs.MemoryLaws.{length-current_words}
use Rattle.bp_cow.specs.Copies.{HoldsPrefix}
use Rattle.bp_cow.proofs.CopyLaws.{prefix_whole, stored_words, filled}
use Rattle.bp_cow.proofs.copies.store_prefix.Goals as goal

pub store_words-requires-clause-after_head : goal.store_words-requires-clause-after_head
store_words-requires-clause-after_head g c = omega (arith, c.requires.to.not_null)

pub store_words-requires-clause-in_range : goal.store_words-requires-clause-in_range
store_words-requires-clause-in_range g c = omega (arith, c.requires.to.inside, c.requires.few, length-current_words (g.R.Region.memory c.args.region.now))

pub store_words-requires-clause-room : goal.store_words-requires-clause-room
store_words-requires-clause-room g c = omega (arith, c.requires.to.room, c.requires.few)

stored : (block : ℕ) (words : List ℕ) (old new : Memory) → 0 < length words → length words ≤ 512 → 512 * block + 512 ≤ length (current_words old) → Adds old new (stores_from (512 * block) words) →
    HoldsPrefix block (λ slot. get_or words slot 0) (length words) old new
stored block words old new some few inside adds = prefix_whole block (λ slot. get_or words slot 0) old new words some few inside (λ i low. refl) adds

pub returns-clause-fills : goal.returns-clause-fills
returns-clause-fills g c =
    let old = g.R.Region.memory c.args.region.now in
    let new = g.R.Region.memory c.store_words.new.self in
    filled c.args.to _ (length c.args.words.now) old new (stored c.args.to c.args.words.now old new c.requires.some c.requires.few (omega (arith, c.requires.to.inside)) c.store_words.ensures) c.requires.some c.requires.few

pub returns-clause-words : goal.returns-clause-words
returns-clause-words g c slot low =
    let old = g.R.Region.memory c.args.region.now in
    let new = g.R.Region.memory c.store_words.new.self in
    stored_words c.args.to _ (length c.args.words.now) old new (stored c.args.to c.args.words.now old new c.requires.some c.requires.few (omega (arith, c.requires.to.inside)) c.store_words.ensures) c.requires.to.not_null slot low
