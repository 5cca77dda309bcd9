use Rattle.std.proofs.Common.{◌≡◌, ℕ, suc, ◌+◌, ◌*◌, List, sym, ◌∙◌, ap, subst₂, arith}
use Rattle.bp_layout.specs.Words.{height_of, block_of}
use Rattle.bp_layout.specs.Tree.{span}
use Rattle.bp_layout.proofs.TreeLaws.{span-is}
use Rattle.pm_region.specs.Memory.{Memory}
use Rattle.bp_append.specs.Filled.{FillsFrom}
use Rattle.bp_append.proofs.RiseOnce.{enough_once, head_low, store_room_once, raise_fill_can, raise_done}
use Rattle.bp_append.proofs.raise.raise_once.Goals as goal

pub alloc_lowest-block-requires : goal.alloc_lowest-block-requires
alloc_lowest-block-requires g c = enough_once c.args.root c.requires.can

pub store_past_head-requires-clause-after_head : goal.store_past_head-requires-clause-after_head
store_past_head-requires-clause-after_head g c = omega (arith, (head_low c.args.root c.alloc_lowest-block.result c.requires.can c.alloc_lowest-block.ensures.first).0)

pub store_past_head-requires-clause-in_range : goal.store_past_head-requires-clause-in_range
store_past_head-requires-clause-in_range g c = omega (arith, (head_low c.args.root c.alloc_lowest-block.result c.requires.can c.alloc_lowest-block.ensures.first).1)

pub store_past_head-requires-clause-room : goal.store_past_head-requires-clause-room
store_past_head-requires-clause-room g c = store_room_once c.args.root c.requires.can

pub overflow_add-node : goal.overflow_add-node
overflow_add-node g c = omega (arith, c.requires.height)

pub span-requires : goal.span-requires
span-requires g c = omega (arith, c.requires.height, c.requires.can.most)

pub fill-requires : goal.fill-requires
fill-requires g c =
    let value : c.pointer_word-below.result ≡ 4096 * block_of c.args.root = c.pointer_word-below.ensures ∙ ap (λ b. 4096 * b) c.block_of.ensures in
    let low : c.span.result ≡ span (height_of c.args.root) = c.span.ensures ∙ sym (span-is c.args.height) ∙ ap span c.requires.height in
    let next : c.args.height + 1 ≡ suc (height_of c.args.root) = omega (arith, c.requires.height) in
    record {
      can = rw (low, next)
          (raise_fill_can (g.R.Region.memory c.store_past_head.new.self) c.args.root c.alloc_lowest-block.result c.requires.can c.alloc_lowest-block.ensures.first
          (rw value at c.store_past_head.ensures));
    }

pub overflow_add-top : goal.overflow_add-top
overflow_add-top g c = omega (arith, c.requires.height)

pub word-requires-clause-height : goal.word-requires-clause-height
word-requires-clause-height g c = omega (arith, c.requires.height, c.requires.can.most)

-- what was filled, where it was
fills_at : {old new : Memory} {free_old free_new : List ℕ} {block level start at from to above low : ℕ} {bytes : ℕ → ℕ} →
    FillsFrom old new free_old free_new block level start at from to bytes → level ≡ above → at ≡ low →
    FillsFrom old new free_old free_new block above start low from to bytes
fills_at {old} {new} {free_old} {free_new} {block} {level} {start} {at} {from} {to} {bytes = bytes} fills e f =
    subst₂ (λ l o. FillsFrom old new free_old free_new block l start o from to bytes) e f fills

pub returns-clause-rises : goal.returns-clause-rises
returns-clause-rises g c =
    let value : c.pointer_word-below.result ≡ 4096 * block_of c.args.root = c.pointer_word-below.ensures ∙ ap (λ b. 4096 * b) c.block_of.ensures in
    let low : c.span.result ≡ span (height_of c.args.root) = c.span.ensures ∙ sym (span-is c.args.height) ∙ ap span c.requires.height in
    let next : c.args.height + 1 ≡ suc (height_of c.args.root) = omega (arith, c.requires.height) in
    let top : c.word.result ≡ 4096 * c.alloc_lowest-block.result + suc (height_of c.args.root) = omega (arith, c.word.ensures, next) in
    let fills = fills_at c.fill.ensures.fills next low in
    rw top
    (raise_done (g.R.Region.memory c.store_past_head.new.self) c.args.root c.alloc_lowest-block.result c.requires.can c.alloc_lowest-block.ensures.first
    (rw value at c.store_past_head.ensures) c.args.bytes.now fills)

pub returns-clause-tall : goal.returns-clause-tall
returns-clause-tall g c = omega (arith, c.word.ensures, c.requires.height, c.requires.can.most)
