use Rattle.std.proofs.Common.{◌≡◌, ℕ, suc, ◌+◌, ◌<◌, ◌≤◌, sym, ◌∙◌, ap, subst, arith, refl}
use Rattle.std.proofs.lemmas.Result.{err_from_is_err_and}
use Rattle.bp_limits.specs.Limits.{greatest_height}
use Rattle.bp_layout.specs.Formatted.{version_of}
use Rattle.bp_layout.specs.Words.{block_count, block_of, height_of}
use Rattle.bp_layout.specs.Tree.{covered}
use Rattle.bp_layout.proofs.TreeLaws.{tree_word-zero}
use Rattle.pm_region.specs.Memory.{current_words}
use Rattle.bp_walk.specs.Walk.FailsTree.{capacity}
use Rattle.bp_layout.specs.Fields.{IsRootWord}
use Rattle.bp_walk.specs.Pointed.{RefusesPointed}
use Rattle.bp_walk.specs.Walk.{WalksBelow}
use Rattle.bp_walk.proofs.Below.{leaf, null}
use Rattle.bp_walk.proofs.Pointers.{unformed_root, refused_root, claimed_root_fails, on_ok_then, if_err_then}
use Rattle.bp_walk.proofs.TakenLaws.{clash}
use Rattle.bp_walk.proofs.WholeTree.{RootsTree, root_live, root_passes, claimed_tree}
use Rattle.bp_walk.proofs.walk.take_tree.Goals.{After-claim_pointed, In-Ok, then-root-eq0-via-then-root-eq0, then-root-eq0-via-else-root-eq0+then-block-eq0}
use Rattle.bp_walk.proofs.walk.take_tree.Given as given
use Rattle.bp_walk.proofs.walk.take_tree.Goals as goal

-- the root word has the form that the version of the image asks for
form : (g : given.Over) (c : goal.In-Ok g) → IsRootWord (greatest_height (version_of (current_words (g.R.Region.memory c.args.region.now)))) c.args.tree.root
form g c =
    let top = c.greatest_height-top.ensures.height ∙ ap greatest_height c.version-version.ensures in
    subst (λ t. IsRootWord t c.args.tree.root) top (c.in-Ok.ensures.form.0 refl)

-- the root word's block is claimed
roots : (g : given.Over) (c : goal.After-claim_pointed g) → RootsTree (current_words (g.R.Region.memory c.args.region.now)) c.args.at c.args.tree.root c.args.tree.size
roots g c =
    let next : suc (height_of c.args.tree.root) ≡ c.in-Ok.root.height + 1 = omega (arith, c.in-Ok.ensures.height) in
    let span : c.covered_bytes.result ≡ covered (suc (height_of c.args.tree.root)) = c.covered_bytes.ensures ∙ ap covered (sym next) in
    record { rooted = c.requires.root; fits = omega (arith, span, c.if-tree-covered_bytes.false); some = omega (arith, c.if-tree-eq0.false) }

pub returns-in_default-clause-err : goal.returns-in_default-clause-err
returns-in_default-clause-err g c =
    let some : 0 < c.args.tree.size = omega (arith, c.if-tree-eq0.false) in
    let image = current_words (g.R.Region.memory c.args.region.now) in
    let root = c.args.tree.root in
    let read = c.greatest_height-top.ensures.height ∙ ap greatest_height c.version-version.ensures in
    let top : greatest_height (version_of image) ≡ c.greatest_height-top.result = sym read in
    rw c.root_fault.ensures.place (unformed_root some (λ form. clash (c.in_default.ensures.form.1 (subst (λ t. IsRootWord t root) top form)) refl)
    (λ high. c.root_fault.ensures.high (subst (λ t. t < height_of root) top high)) (λ low. c.root_fault.ensures.low (subst (λ t. height_of root ≤ t) top low)))

pub returns-then-tree-covered_bytes-clause-err : goal.returns-then-tree-covered_bytes-clause-err
returns-then-tree-covered_bytes-clause-err g c =
    let next : suc (height_of c.args.tree.root) ≡ c.in-Ok.root.height + 1 = omega (arith, c.in-Ok.ensures.height) in
    let span : c.covered_bytes.result ≡ covered (suc (height_of c.args.tree.root)) = c.covered_bytes.ensures ∙ ap covered (sym next) in
    capacity (omega (arith, span, c.if-tree-covered_bytes.true))

pub returns-in_err-block-clause-err : goal.returns-in_err-block-clause-err
returns-in_err-block-clause-err g c =
    let p = err_from_is_err_and c.from_residual.result c.from_residual.ensures.1 in
    let tree = roots g (goal.at.returns-in_err-block-clause-err g c).After-claim_pointed in
    let check = c.in_err-block.field-0.0.check in
    let refused : RefusesPointed (block_of c.args.tree.root) c.args.holes c.args.blocks.now check =
    subst (λ (x : ℕ). RefusesPointed x c.args.holes c.args.blocks.now check) c.in-Ok.ensures.block c.in_err-block.ensures.err in
    rw (p.1, p.2, c.in_err-block.ensures.place) (refused_root tree.some c.requires.room tree.fits refused)

pub take_below-requires-clause-live : goal.take_below-requires-clause-live
take_below-requires-clause-live g c = root_live c.args.tree.root c.args.tree.size (omega (arith, c.if-tree-eq0.false))

pub take_below-requires-clause-passes : goal.take_below-requires-clause-passes
take_below-requires-clause-passes g c =
    let image = current_words (g.R.Region.memory c.args.region.now) in
    let named : block_of c.args.tree.root ≡ c.in_ok-block.block = sym c.in-Ok.ensures.block ∙ sym c.in_ok-block.ensures.named in
    let in_range : c.in_ok-block.block < block_count image = subst (λ x. c.in_ok-block.block < x) c.requires.room c.in_ok-block.ensures.ok.in_range in
    let formed = form g (goal.at.take_below-requires-clause-passes g c).In-Ok in
    root_passes image c.args.tree.root formed (subst (λ x. x < block_count image) (sym named) in_range)

pub take_below-requires-clause-block : goal.take_below-requires-clause-block
take_below-requires-clause-block g c =
    let named : block_of c.args.tree.root ≡ c.in_ok-block.block = sym c.in-Ok.ensures.block ∙ sym c.in_ok-block.ensures.named in
    ap block_of (tree_word-zero (current_words (g.R.Region.memory c.args.region.now)) c.args.tree.root 0) ∙ named

pub returns-then-root-eq0-clause-ok : goal.returns-then-root-eq0-clause-ok
returns-then-root-eq0-clause-ok g c =
    let image = current_words (g.R.Region.memory c.args.region.now) in
    let root = c.args.tree.root in
    let size = c.args.tree.size in
    let path = goal.at.returns-then-root-eq0-clause-ok g c in
    let set = c.claim_pointed.new.blocks in
    let named : block_of root ≡ c.in_ok-block.block = sym c.in-Ok.ensures.block ∙ sym c.in_ok-block.ensures.named in
    let at_root = ap block_of (tree_word-zero image root 0) ∙ named in
    let walks : WalksBelow image 0 root size c.args.holes 0 0 512 set set = elim c.then-root-eq0.branch [
      | then-root-eq0-via-then-root-eq0 w ↦ leaf image 0 root size c.args.holes 0 0 set (omega (arith, c.in-Ok.ensures.height, w.if-root-eq0.true))
      | then-root-eq0-via-else-root-eq0+then-block-eq0 w ↦ null image 0 root size c.args.holes 0 0 set (at_root ∙ w.if-block-eq0.true)
    ] in
    claimed_tree (roots g path.After-claim_pointed) (form g path.In-Ok) c.requires.room named c.in_ok-block.ensures.ok walks

pub returns-clause-ok : goal.returns-clause-ok
returns-clause-ok g c =
    let path = goal.at.returns-clause-ok g c in
    let named : block_of c.args.tree.root ≡ c.in_ok-block.block = sym c.in-Ok.ensures.block ∙ sym c.in_ok-block.ensures.named in
    let tree = roots g path.After-claim_pointed in
    let formed = form g path.In-Ok in
    on_ok_then c.take_below.result (λ walks. claimed_tree tree formed c.requires.room named c.in_ok-block.ensures.ok walks) c.take_below.ensures.ok

pub returns-clause-err : goal.returns-clause-err
returns-clause-err g c =
    let some : 0 < c.args.tree.size = omega (arith, c.if-tree-eq0.false) in
    let named : block_of c.args.tree.root ≡ c.in_ok-block.block = sym c.in-Ok.ensures.block ∙ sym c.in_ok-block.ensures.named in
    let claims = c.in_ok-block.ensures.ok in
    if_err_then c.take_below.result (λ f fails. claimed_root_fails some c.requires.room named claims c.if-block-eq0.false fails) c.take_below.ensures.err

pub covered_bytes-requires-clause-most : goal.covered_bytes-requires-clause-most
covered_bytes-requires-clause-most g c = omega (arith, (c.in-Ok.ensures.form.0 refl).0, c.in-Ok.ensures.height, c.greatest_height-top.ensures.most)

pub take_below-requires-clause-low : goal.take_below-requires-clause-low
take_below-requires-clause-low g c = omega (arith, (c.in-Ok.ensures.form.0 refl).0, c.greatest_height-top.ensures.most)
