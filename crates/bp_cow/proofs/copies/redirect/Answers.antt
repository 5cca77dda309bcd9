use Rattle.std.proofs.Common.{◌≡◌, ◌⊎◌, ℕ, ◌+◌, ◌*◌, ◌/◌, ◌%◌, set, ◌∙◌, ap, arith, inl, inr, refl}
use Rattle.bp_layout.specs.Words.{word}
use Rattle.pm_region.specs.Memory.{current_words}
use Rattle.pm_region.proofs.MemoryLaws.{current_words-adds, length-current_words}
use Rattle.bp_changes.specs.Performs.{InBlock}
use Rattle.bp_cow.proofs.AddsLaws.{into_store, into_wider, room_into}
use Rattle.bp_cow.proofs.copies.redirect.Goals as goal

pub load_past_head-pointer-requires-clause-in_range : goal.load_past_head-pointer-requires-clause-in_range
load_past_head-pointer-requires-clause-in_range g c = omega (arith, c.requires.place, length-current_words (g.R.Region.memory c.args.region.now))

pub copy_block-requires-clause-to : goal.copy_block-requires-clause-to
copy_block-requires-clause-to g c =
    let was = c.take_in_place_of-copy.ensures.taken.was in
    record { inside = c.requires.free_high c.take_in_place_of-copy.result was; not_null = c.requires.free_low c.take_in_place_of-copy.result was; room = omega (arith, c.requires.room) }

pub store_past_head-requires-clause-in_range : goal.store_past_head-requires-clause-in_range
store_past_head-requires-clause-in_range g c = omega (arith, c.requires.place, length-current_words (g.R.Region.memory c.args.region.now), c.copy_block.ensures.fills.base)

pub store_past_head-requires-clause-room : goal.store_past_head-requires-clause-room
store_past_head-requires-clause-room g c =
    omega (arith, c.requires.room, room_into (InBlock c.take_in_place_of-copy.result) c.take_in_place_of-copy.result 512 (g.R.Region.memory c.args.region.now) (g.R.Region.memory c.copy_block.new.region) c.copy_block.ensures.fills.stores)

pub returns-clause-stores : goal.returns-clause-stores
returns-clause-stores g c =
    let start = g.R.Region.memory c.args.region.now in
    let middle = g.R.Region.memory c.copy_block.new.region in
    let new = g.R.Region.memory c.store_past_head.new.self in
    let Inside : ℕ → Type 0 = λ word. (word / 512 ≡ c.take_in_place_of-copy.result) ⊎ (word ≡ c.args.place) in
    into_store Inside c.take_in_place_of-copy.result 512 start middle new c.args.place _
    (into_wider (InBlock c.take_in_place_of-copy.result) Inside c.take_in_place_of-copy.result 512 start middle (λ word one. inl one) c.copy_block.ensures.fills.stores)
    (inr refl) c.store_past_head.ensures

pub returns-clause-words : goal.returns-clause-words
returns-clause-words g c =
    let start = g.R.Region.memory c.args.region.now in
    let middle = g.R.Region.memory c.copy_block.new.region in
    let new = g.R.Region.memory c.store_past_head.new.self in
    let value : c.pointer_word.result + c.load_past_head-pointer.result % 4096 ≡ 4096 * c.take_in_place_of-copy.result + word (current_words start) c.args.place % 4096 =
    omega (arith, c.pointer_word.ensures) ∙ ap (λ w. 4096 * c.take_in_place_of-copy.result + w % 4096) c.load_past_head-pointer.ensures in
    record {
      mid = current_words middle;
      equal = c.copy_block.ensures.fills.equal;
      copied = λ slot low counted. rw (c.block_of-block.ensures, c.load_past_head-pointer.ensures) at c.copy_block.ensures.copied slot low counted;
      turned = current_words-adds middle new _ c.store_past_head.ensures ∙ ap (λ v. set (current_words middle) c.args.place v) value;
    }
