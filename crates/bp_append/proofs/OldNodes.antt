-- The nodes that a tree had stand where they stood, below the new nodes over its root.
use Rattle.std.proofs.Common.{◌≡◌, ℕ, suc, ◌+◌, ◌*◌, ◌≤◌, List, [], ◌∷◌, length, refl, sym, ◌∙◌, ap, subst, arith, inl, inr}
use Rattle.bp_layout.specs.Words.{Image, block_of, height_of, slot_word}
use Rattle.bp_layout.specs.Tree.{node, covered, IsLivePointer}
use Rattle.bp_layout.specs.Members.{Has}
use Rattle.bp_layout.proofs.TreeLaws.{covered-suc}
use Rattle.bp_changes.specs.Links.{LeadDown, raised, raised_by}
use Rattle.bp_changes.proofs.Raising.{Raises, node-raised}

-- each of the new nodes leads to the one below it
pub node-raised_by : (image : Image) (root : ℕ) (chain : List ℕ) (size : ℕ) → size ≤ covered (suc (height_of root)) → height_of root + length chain ≤ 7 → LeadDown image root chain →
    (d k : ℕ) → IsLivePointer root size d k → node image (raised_by root chain) (length chain + d) k ≡ node image root d k
node-raised_by image root [] size fits low down d k live = let here : 0 + d ≡ d = omega arith in ap (λ e. node image root e k) here
node-raised_by image root (b ∷ chain) size fits low down d k live =
    let tall : height_of (raised root b) ≡ suc (height_of root) = omega (arith, low) in
    let named : block_of (raised root b) ≡ b = omega (arith, low) in
    let up : Raises image image root (raised root b) size = record { taller = tall; slot = ap (λ x. slot_word image x 0) named ∙ down.0; keeps = record { kept = λ e l is. refl }; fits = fits } in
    let lifted : IsLivePointer (raised root b) size (suc d) k = record { level = live.level; height = omega (arith, live.height, tall); live = live.live } in
    let wide : covered (suc (suc (height_of root))) ≡ 512 * covered (suc (height_of root)) = covered-suc (suc (height_of root)) in
    let more : size ≤ covered (suc (height_of (raised root b))) = subst (λ h. size ≤ covered (suc h)) (sym tall) (omega (arith, fits, wide)) in
    let rest : node image (raised_by (raised root b) chain) (length chain + suc d) k ≡ node image (raised root b) (suc d) k =
    node-raised_by image (raised root b) chain size more (omega (arith, low, tall)) down.1 (suc d) k lifted in
    let deep : suc (length chain) + d ≡ length chain + suc d = omega arith in
    ap (λ e. node image (raised_by (raised root b) chain) e k) deep ∙ rest ∙ node-raised image image root (raised root b) size up d k live

-- they do so where their first slots stay
pub lead_kept : (old new : Image) (root : ℕ) (chain : List ℕ) → ((b : ℕ) → Has chain b → slot_word new b 0 ≡ slot_word old b 0) → LeadDown old root chain → LeadDown new root chain
lead_kept old new root [] same down = tt
lead_kept old new root (b ∷ chain) same down = (same b (inl refl) ∙ down.0, lead_kept old new (raised root b) chain (λ c m. same c (inr m)) down.1)
