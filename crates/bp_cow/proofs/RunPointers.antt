-- The leaves of a run are those of a tree of the image: the pointers on its ways count, and no word of a leaf is one.
use Rattle.std.proofs.Common.{◌≡◌, ◌⊎◌, ℕ, suc, ◌+◌, ◌*◌, ◌/◌, ◌%◌, ◌<◌, ◌≤◌, List, ◌∷◌, ◌++◌, length, take, sym, ◌∙◌, ap, subst, arith, zero-mul}
use Rattle.std.proofs.Math.Seq.{take-length}
use Rattle.bp_layout.specs.WordPaths.{digits}
use Rattle.bp_layout.specs.Words.{Image, word, height_of}
use Rattle.bp_layout.specs.Tree.{IsLivePointer, covered}
use Rattle.bp_layout.specs.Inode.{root_of}
use Rattle.bp_changes.specs.Trail.{Trail, trail_of}
use Rattle.bp_changes.specs.Forest.{along, root_trail, tree_trail, IsForest, IsTreePointer}
use Rattle.bp_changes.proofs.ForestLaws.{pointers, short, same_pointer, same_trail, HasFewDigits}
use Rattle.bp_changes.proofs.FreeSets.{pointer_prefixes}
use Rattle.bp_changes.proofs.PathTrails.{length-trail_of}
use Rattle.bp_cow.specs.declared.touched.Run.{Run}
use Rattle.bp_cow.specs.Touched.{IsRun, run_path, run_way, run_end, run_leaves, run_live}
use Rattle.bp_cow.specs.Counting.{IsTreeWord}
use Rattle.bp_cow.specs.CanCommit.{IsRunIn}
use Rattle.bp_cow.proofs.Distinct.{same-take}
use Rattle.bp_cow.proofs.RunPrefixes.{end-run_way}
use Rattle.bp_cow.proofs.LiveLaws.{run-counts}

module _ (old : Image) (bound : ℕ → ℕ) (forest : IsForest old bound) (run : Run) (is : IsRun run) (at : IsRunIn old bound run) where
  abbrev t : ℕ
  t = suc at.inode

  leaf-low : (j : ℕ) → j < run_leaves run → (run.offset / 4096 + j) * covered 1 < bound t
  leaf-low j low =
      let below : run_end run ≤ bound t = at.below in
      let some : 0 < length run.bytes.now = is.some in
      let size : covered 1 ≡ 4096 = omega arith in
      rw size (omega (arith, below, some, low))

  leaf-live : (j : ℕ) → j < run_leaves run → IsLivePointer (root_of old t) (bound t) run.height (run.offset / 4096 + j)
  leaf-live j low = record { level = 0; height = omega (arith, at.height); live = leaf-low j low }

  leaf-trail : (j : ℕ) → trail_of (run_way run j) (length (run_way run j)) ≡ tree_trail (height_of (word old 2)) t run.height (run.offset / 4096 + j)
  leaf-trail j = end-run_way run j ∙ ap (λ b. along b run.height (run.offset / 4096 + j)) at.root

  leaf-pointer : (j : ℕ) → j < run_leaves run → IsTreePointer old bound (trail_of (run_way run j) (length (run_way run j)))
  leaf-pointer j low = record { tree = t; depth = run.height; index = run.offset / 4096 + j; reached = at.reached; live = leaf-live j low; named = sym (leaf-trail j) }

  pub leaf-prefixes : (j d : ℕ) → j < run_leaves run → d ≤ length (run_way run j) → IsTreePointer old bound (trail_of (run_way run j) d)
  leaf-prefixes j d low short = pointer_prefixes old bound forest (run_way run j) (length (run_way run j)) d short (leaf-pointer j low)

  -- the words that count
  pub leaf-counts : (j depth slot : ℕ) → j < run_leaves run → slot < 512 → IsTreePointer old bound (slot ∷ trail_of (run_way run j) depth) ⊎ IsTreeWord old bound (slot ∷ trail_of (run_way run j) depth) →
      slot < run_live run j depth
  leaf-counts j depth slot low small any =
      let below : run_end run ≤ bound t = at.below in
      let some : 0 < length run.bytes.now = is.some in
      run-counts old bound forest run at j (omega (arith, below, some, low)) depth slot small any

  -- no word of a leaf is a pointer
  pub leaf-plain : (j slot : ℕ) → j < run_leaves run → IsTreePointer old bound (slot ∷ trail_of (run_way run j) (length (run_way run j))) → ⊥
  leaf-plain j slot low one =
      let few : slot < 512 = (pointers old bound forest).slots slot _ one in
      let n : ℕ = run.offset / 4096 + j in
      let k : ℕ = 512 * n + slot in
      let up : k / 512 ≡ n = omega (arith, few) in
      let last : k % 512 ≡ slot = omega (arith, few) in
      let deep : one.depth ≤ height_of (root_of old one.tree) = omega (arith, one.live.height) in
      let trail : tree_trail (height_of (word old 2)) t (suc run.height) k ≡ slot ∷ trail_of (run_way run j) (length (run_way run j)) =
      cons last (ap (along (root_trail (height_of (word old 2)) t) run.height) up ∙ sym (leaf-trail j)) in
      let all : (one.tree ≡ t) × (one.depth ≡ suc run.height) × (one.index ≡ k) =
      same_trail old bound forest one.tree one.depth one.index t (suc run.height) k one.reached at.reached
      (short old bound forest one.tree one.depth one.index one.reached one.live) (subst (HasFewDigits run.height) (sym up) (short old bound forest t run.height n at.reached (leaf-live j low)))
      (omega (arith, deep)) (omega (arith, at.height)) (λ _ f _. absurd (omega (arith, deep, f))) (λ z _. absurd (omega (arith, z))) (one.named ∙ sym trail) in
      let height : height_of (root_of old one.tree) ≡ height_of (root_of old t) = ap (λ (x : ℕ). height_of (root_of old x)) all.0 in
      omega (arith, deep, all.1, height, at.height)
    where
      cons : {s u : ℕ} {p q : Trail} → s ≡ u → p ≡ q → s ∷ p ≡ u ∷ q
      cons e f = cc

-- ---- two runs

same-list : (p q : List ℕ) → trail_of p (length p) ≡ trail_of q (length q) → p ≡ q
same-list p q same =
    let size : length p ≡ length q = sym (length-trail_of p (length p)) ∙ ap (λ (x : Trail). length x) same ∙ length-trail_of q (length q) in
    sym (take-length p) ∙ same-take p q (length p) (omega arith) (omega (arith, size)) (same ∙ ap (trail_of q) (sym size)) ∙ ap (λ n. take n q) size ∙ take-length q

module _ (old : Image) (bound : ℕ → ℕ) (forest : IsForest old bound) (one two : Run) (first : IsRun one) (second : IsRun two) (at : IsRunIn old bound one) (also : IsRunIn old bound two) where
  -- their leaves are one only in one tree
  pub same-leaf : (j l : ℕ) → j < run_leaves one → l < run_leaves two → trail_of (run_way one j) (length (run_way one j)) ≡ trail_of (run_way two l) (length (run_way two l)) →
      (one.root.items ≡ two.root.items) × (one.offset / 4096 + j ≡ two.offset / 4096 + l)
  same-leaf j l low small same =
      let all = same_pointer old bound forest (suc at.inode) one.height (one.offset / 4096 + j) (suc also.inode) two.height (two.offset / 4096 + l) at.reached also.reached
      (leaf-live old bound forest one first at j low) (leaf-live old bound forest two second also l small)
      (sym (leaf-trail old bound forest one first at j) ∙ same ∙ leaf-trail old bound forest two second also l) in
      (same-list one.root.items two.root.items (at.root ∙ ap (root_trail (height_of (word old 2))) all.0 ∙ sym also.root), all.2)

  top-live : (run : Run) → IsRun run → (t : ℕ) → run_end run ≤ bound t → IsLivePointer (root_of old t) (bound t) 0 0
  top-live run is t below =
      let some : 0 < length run.bytes.now = is.some in
      let inside : 0 < bound t = omega (arith, some, below) in
      record { level = height_of (root_of old t); height = omega arith; live = rw zero-mul inside }

  -- a word of one tree has one path
  pub same-path : one.root.items ≡ two.root.items → (k : ℕ) → run_path one k ≡ run_path two k
  same-path roots k = ap (λ (p : List ℕ). p ++ digits (suc one.height) k) roots ∙ ap (λ h. two.root.items ++ digits (suc h) k) heights
    where
      trails : tree_trail (height_of (word old 2)) (suc at.inode) 0 0 ≡ tree_trail (height_of (word old 2)) (suc also.inode) 0 0
      trails = sym at.root ∙ ap (λ (p : List ℕ). trail_of p (length p)) roots ∙ also.root

      heights : one.height ≡ two.height
      heights =
          let all = same_pointer old bound forest (suc at.inode) 0 0 (suc also.inode) 0 0 at.reached also.reached (top-live one first (suc at.inode) at.below) (top-live two second (suc also.inode) also.below) trails in
          at.height ∙ ap (λ (t : ℕ). height_of (root_of old t)) all.0 ∙ sym also.height
