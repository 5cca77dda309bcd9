-- Where the whole path of one of the touched words exists, the cover is all with which they begin.
use Rattle.std.proofs.Common.{◌≡◌, ℕ, zero, suc, ◌*◌, ◌<◌, ◌≤◌, [], ◌∷◌, ◌++◌, List, length, take, Bool, true, refl, sym, ◌∙◌, ap, arith, append_assoc}
use Rattle.std.proofs.lemmas.List.{append-nil}
use Rattle.bp_layout.specs.Inode.{kind_of, root_of, size_of}
use Rattle.bp_layout.specs.Members.{Has}
use Rattle.bp_layout.specs.Need.{common_all, cover_of, is_there_after}
use Rattle.bp_layout.specs.Need.Change.{leaves}
use Rattle.bp_layout.specs.Reached.{IsReached}
use Rattle.bp_layout.specs.Tree.{IsFull}
use Rattle.bp_layout.specs.WellFormed.{IsWellFormed}
use Rattle.bp_layout.specs.WordPaths.{WordPath, is_pointed, tree_path}
use Rattle.bp_layout.specs.Words.{Image, height_of}
use Rattle.bp_read.proofs.ExistingPaths.{AllThere, content_path-there, existing-all}
use Rattle.bp_cow.proofs.CommonPaths.{Begins, all-begin}
use Rattle.bp_cow.proofs.RunThere.{word_agrees}

-- ---- each prefix of a path

pub all-each : (there : WordPath → Bool) (here path : WordPath) → AllThere there here path → (d : ℕ) → d < length path → there (here ++ take d path) ≡ true
all-each there here [] all d low = absurd (omega (arith, low))
all-each there here (slot ∷ path) all zero low = ap there (append-nil here) ∙ all.0
all-each there here (slot ∷ path) all (suc d) low =
    ap there (sym (append_assoc here (slot ∷ []) (take d path))) ∙ all-each there (here ++ slot ∷ []) path all.1 d (omega (arith, low))

pub each-all : (there : WordPath → Bool) (here path : WordPath) → ((d : ℕ) → d < length path → there (here ++ take d path) ≡ true) → AllThere there here path
each-all there here [] each = tt
each-all there here (slot ∷ path) each = (
  ap there (sym (append-nil here)) ∙ each 0 (omega arith),
  each-all there (here ++ slot ∷ []) path (λ d low. ap there (append_assoc here (slot ∷ []) (take d path)) ∙ each (suc d) (omega (arith, low))),
)

take-begins : (prefix path : WordPath) (d : ℕ) → Begins prefix path → d ≤ length prefix → take d prefix ≡ take d path
take-begins [] path zero is low = refl
take-begins [] path (suc d) is low = absurd (omega (arith, low))
take-begins (x ∷ prefix) path zero is low = refl
take-begins (x ∷ prefix) [] (suc d) is low = absurd (omega (arith, is.long))
take-begins (x ∷ prefix) (y ∷ path) (suc d) is low =
    let whole : y ∷ take (length prefix) path ≡ x ∷ prefix = is.same in
    let first : y ≡ x = cc in
    let rest : take (length prefix) path ≡ prefix = cc in
    let deeper : take d prefix ≡ take d path = take-begins prefix path d (record { long = omega (arith, is.long); same = rest }) (omega (arith, low)) in
    cc

-- the cover of paths one of which is all there
pub cover-whole : (there : WordPath → Bool) (paths : List WordPath) (path : WordPath) → Has paths path → AllThere there [] path → cover_of there paths ≡ common_all paths
cover-whole there paths path has all =
    let begins : Begins (common_all paths) path = all-begin paths path has in
    existing-all there [] (common_all paths)
    (each-all there [] (common_all paths) (λ d low. ap there (take-begins (common_all paths) path d begins (omega (arith, low))) ∙ all-each there [] path all d (omega (arith, low, begins.long))))

-- ---- the path of a content word of a directory

module _ (image : Image) (wf : IsWellFormed image) (n k : ℕ) (reached : IsReached image (suc n)) (full : IsFull image (root_of image (suc n)) (size_of image (suc n))) (below : 8 * k < size_of image (suc n)) where
  abbrev path : WordPath
  path = tree_path (height_of (root_of image 0)) (suc n) (suc (height_of (root_of image (suc n)))) k

  -- no change of a name that leaves makes a node
  all : AllThere (is_there_after image (leaves (suc n) 0)) [] (tree_path (height_of (root_of image 0)) (suc n) (suc (height_of (root_of image (suc n)))) k)
  all = content_path-there image (leaves (suc n) 0) wf refl (suc n) k reached refl full below

  pointed-upto : (m d : ℕ) → d < m → d < length (tree_path (height_of (root_of image 0)) (suc n) (suc (height_of (root_of image (suc n)))) k) →
      is_pointed image (take d (tree_path (height_of (root_of image 0)) (suc n) (suc (height_of (root_of image (suc n)))) k)) ≡ true
  pointed-upto zero d small low = absurd (omega (arith, small))
  pointed-upto (suc m) d small low =
      sym (word_agrees image wf n reached (leaves (suc n) 0) refl refl (λ t. refl) k below d low (λ e less. pointed-upto m e (omega (arith, less, small)) (omega (arith, less, low))))
      ∙ all-each (is_there_after image (leaves (suc n) 0)) [] (tree_path (height_of (root_of image 0)) (suc n) (suc (height_of (root_of image (suc n)))) k) all d low

  pub pointed-all : AllThere (is_pointed image) [] (tree_path (height_of (root_of image 0)) (suc n) (suc (height_of (root_of image (suc n)))) k)
  pointed-all =
      each-all (is_pointed image) [] (tree_path (height_of (root_of image 0)) (suc n) (suc (height_of (root_of image (suc n)))) k)
      (λ d low. pointed-upto (suc d) d (omega arith) low)

pub pointed-directory : (image : Image) → IsWellFormed image → (t k : ℕ) → IsReached image t → kind_of image t ≡ 2 → 8 * k < size_of image t →
    AllThere (is_pointed image) [] (tree_path (height_of (root_of image 0)) t (suc (height_of (root_of image t))) k)
pointed-directory image wf zero k reached directory below = absurd (omega (arith, directory))
pointed-directory image wf (suc n) k reached directory below = pointed-all image wf n k reached (wf.full_directories (suc n) reached directory) below
