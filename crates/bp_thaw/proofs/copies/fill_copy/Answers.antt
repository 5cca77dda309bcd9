use Rattle.std.proofs.Common.{◌≡◌, ℕ, ◌+◌, ◌*◌, ◌≤◌, List, length, get_or, ◌∙◌, ap, subst, arith, refl}
use Rattle.std.specs.List.{slice_index}
use Rattle.pm_region.specs.Memory.{Memory, Adds, current_words, stores_from}
use Rattle.bp_layout.specs.Words.{block_of, word}
use Rattle.bp_layout.proofs.LoadedWords.{loaded_word}
use Rattle.bp_read.proofs.RegionWords.{length_now}
use Rattle.bp_cow.specs.Copies.{HoldsPrefix}
use Rattle.bp_cow.proofs.CopyLaws.{filled, prefix_whole}
use Rattle.bp_thaw.specs.Copies.{copy_at, turned_to, turned_word}
use Rattle.bp_thaw.proofs.copies.fill_copy.Goals as goal

pub load-requires : goal.load-requires
load-requires g c = omega (arith, c.requires.place, length_now (g.R.Region.memory c.args.region.now))

pub overflow_cast-block : goal.overflow_cast-block
overflow_cast-block g c =
    omega (arith, c.block_of-block.ensures, ap block_of c.load.ensures, c.requires.block, length_now (g.R.Region.memory c.args.region.now), c.words-words.ensures, c.words-words.type_inv)

pub load_words-requires-clause-after_head : goal.load_words-requires-clause-after_head
load_words-requires-clause-after_head g c = omega (arith, c.block_of-block.ensures, ap block_of c.load.ensures, c.requires.present)

pub load_words-requires-clause-in_range : goal.load_words-requires-clause-in_range
load_words-requires-clause-in_range g c = omega (arith, c.block_of-block.ensures, ap block_of c.load.ensures, c.requires.block, length_now (g.R.Region.memory c.args.region.now))

pub store_words-requires-clause-after_head : goal.store_words-requires-clause-after_head
store_words-requires-clause-after_head g c = omega (arith, c.requires.copy.not_null)

pub store_words-requires-clause-in_range : goal.store_words-requires-clause-in_range
store_words-requires-clause-in_range g c = omega (arith, c.requires.copy.inside, length_now (g.R.Region.memory c.args.region.now), c.turn_words.array_long)

stored : (block : ℕ) (words : List ℕ) (old new : Memory) → length words ≡ 512 → 512 * block + 512 ≤ length (current_words old) → Adds old new (stores_from (512 * block) words) →
    HoldsPrefix block (λ slot. get_or words slot 0) 512 old new
stored block words old new long inside adds =
    subst (λ n. HoldsPrefix block (λ slot. get_or words slot 0) n old new) long
    (prefix_whole block (λ slot. get_or words slot 0) old new words (omega (arith, long)) (omega (arith, long)) inside (λ i few. refl) adds)

pub returns-clause-fills : goal.returns-clause-fills
returns-clause-fills g c =
    let old = g.R.Region.memory c.args.region.now in
    let new = g.R.Region.memory c.store_words.new.self in
    filled c.args.copy _ 512 old new (stored c.args.copy c.turn_words.new.words old new (omega (arith, c.turn_words.array_long)) (omega (arith, c.requires.copy.inside)) c.store_words.ensures) (omega arith) (omega arith)

pub returns-clause-words : goal.returns-clause-words
returns-clause-words g c slot low =
    let image = current_words (g.R.Region.memory c.args.region.now) in
    let block : c.block_of-block.result ≡ block_of (word image c.args.place) = c.block_of-block.ensures ∙ ap block_of c.load.ensures in
    let loaded = ap (λ ws. slice_index ws slot) c.copy_from_slice.ensures.after ∙ loaded_word image c.load_words.result.now (512 * c.block_of-block.result) 512 c.load_words.ensures slot low in
    let old = g.R.Region.memory c.args.region.now in
    let new = g.R.Region.memory c.store_words.new.self in
    (stored c.args.copy c.turn_words.new.words old new (omega (arith, c.turn_words.array_long)) (omega (arith, c.requires.copy.inside)) c.store_words.ensures).words slot low
    ∙ c.turn_words.ensures slot low
    ∙ ap (turned_to (copy_at c.args.copies.now.items (512 * c.block_of-block.result + slot))) loaded
    ∙ ap (λ b. turned_word image c.args.copies.now.items (512 * b + slot)) block
