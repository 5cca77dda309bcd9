-- A chain of new blocks over an old root, before and after a subtree was hung below it.
use Rattle.std.proofs.Common.{◌≡◌, ◌≢◌, ℕ, suc, ◌≤◌, List, [], ◌∷◌, refl, sym, ◌∙◌, subst, arith, inl, inr}
use Rattle.bp_limits.specs.Limits.{greatest_height, max_height}
use Rattle.bp_limits.proofs.Versions.{height_most}
use Rattle.bp_layout.specs.Formatted.{version_of}
use Rattle.bp_layout.specs.Words.{Image, block_of, height_of}
use Rattle.bp_layout.specs.Tree.{HasBlock, IsSound}
use Rattle.bp_changes.specs.SameContent.{ReadsAs}
use Rattle.bp_layout.specs.Members.{Each}
use Rattle.bp_changes.specs.Links.{raised, raised_by, IsChain}
use Rattle.bp_changes.proofs.Roots.{CanRaise, raised_reads, raised_block, reads_self, reads_on}

pub chain_reads : (ByWords : Type 0) (image : Image) (size root : ℕ) (blocks : List ℕ) → IsSound image root size → IsChain image root blocks →
    ((b : ℕ) → HasBlock image root size b → Each (λ c. c ≢ b) blocks) → ReadsAs ByWords image size root (raised_by root blocks)
chain_reads ByWords image size root [] sound chain fresh = reads_self ByWords image size root sound (λ some. omega (arith, chain.low))
chain_reads ByWords image size root (block ∷ blocks) sound chain fresh =
    let most : greatest_height (version_of image) ≤ max_height = height_most (version_of image) in
    let height : height_of (raised root block) ≡ suc (height_of root) = omega (arith, chain.low, most) in
    let named : block_of (raised root block) ≡ block = omega (arith, chain.low, most) in
    let can : CanRaise image size root (raised root block) = record {
      sound = sound;
      taller = height;
      low = omega (arith, chain.low);
      bits = omega (arith, chain.low, most);
      in_range = rw named chain.in_range.0;
      not_null = rw named chain.not_null.0;
      free = rw named chain.free.0;
      fresh = rw named (λ has. (fresh block has).0 refl);
      slot = rw named chain.down.0;
    } in
    let one : ReadsAs ByWords image size root (raised root block) = raised_reads ByWords image size root (raised root block) can in
    let rest : IsChain image (raised root block) blocks = record {
      low = omega (arith, chain.low, height);
      in_range = chain.in_range.1;
      not_null = chain.not_null.1;
      free = chain.free.1;
      apart = chain.apart.1;
      down = chain.down.1;
    } in
    reads_on ByWords image size root (raised root block) (raised_by (raised root block) blocks) one
    (chain_reads ByWords image size (raised root block) blocks one.sound rest
    (λ b has. elim (raised_block ByWords image size root (raised root block) can b has) [
      | inl top ↦ subst (λ x. Each (λ c. c ≢ x) blocks) (sym (top ∙ named)) chain.apart.0
      | inr old ↦ (fresh b old).1
    ]))
