use Rattle.std.proofs.Common.{◌≡◌, suc, ◌*◌, ◌/◌, ◌^◌, ◌<◌, ℕ, Bool, true, false, List, ◌++◌, length, sym, ◌∙◌, ap, ap₂, subst, arith}
use Rattle.bp_layout.specs.Tree.{span}
use Rattle.bp_layout.specs.Words.{height_of}
use Rattle.bp_layout.proofs.TreeLaws.{span-is}
use Rattle.bp_read.proofs.Digits.{length-digits}
use Rattle.bp_calls.proofs.TargetPaths.{end_below_root}
use Rattle.bp_calls.proofs.targets.end_path.Goals as goal

pub unreachable-requires : goal.unreachable-requires
unreachable-requires c =
    let root = ap (λ (p : List ℕ). length p) c.copy_of-path.ensures in
    let below = ap (λ (p : List ℕ). length p) (c.as_slice.ensures.value ∙ c.word_path-within.ensures) ∙ length-digits (suc (height_of c.args.tree.root)) (c.args.tree.size / 8) in
    let low = c.requires.low (omega arith) in
    let never : ◌≡◌ {A = Bool} false true = c.in-Err.ensures.variant.1 (omega (arith, root, below, low, c.requires.short)) in
    absurd (cc)

pub returns : goal.returns
returns c = λ image t leads root size.
    let wide : c.span.result ≡ span (height_of c.args.tree.root) = c.span.ensures ∙ ap (λ h. 4096 * 512 ^ h) c.height.ensures ∙ sym (span-is (height_of c.args.tree.root)) in
    let below : c.args.tree.size < span (height_of c.args.tree.root) = subst (λ s. c.args.tree.size < s) wide c.if-span-tree.false in
    c.in-Ok.ensures.ok
    ∙ ap₂ (λ (p q : List ℕ). p ++ q) (c.copy_of-path.ensures ∙ leads) (c.as_slice.ensures.value ∙ c.word_path-within.ensures)
    ∙ end_below_root image t c.args.tree.root c.args.tree.size root size c.if-tree-eq0.false below
