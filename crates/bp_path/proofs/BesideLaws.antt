-- A text is stated by its parts, and the names before the last one by all names.
use Rattle.std.proofs.Common.{◌≡◌, ℕ, Bool, true, false, ◌==◌, List, [], ◌∷◌, ◌++◌, refl, sym, ◌∙◌, ap}
use Rattle.std.proofs.lemmas.Bool.{eqb-true}
use Rattle.bp_layout.specs.Paths.{onto_first, parts, Name, Path}
use Rattle.bp_layout.proofs.Parts.{parts-some}
use Rattle.bp_path.specs.Names.{AreBeside, path_parts}

-- the text with these parts round each `/`
abbrev glued : List (List ℕ) → List ℕ
glued [] = []
glued (part ∷ []) = part
glued (part ∷ next ∷ rest) = part ++ 47 ∷ glued (next ∷ rest)

glued-slash : (ps : List (List ℕ)) → (ps ≡ [] → ⊥) → glued ([] ∷ ps) ≡ 47 ∷ glued ps
glued-slash [] some = absurd (some refl)
glued-slash (p ∷ ps) some = refl

glued-onto : (b : ℕ) (ps : List (List ℕ)) → (ps ≡ [] → ⊥) → glued (onto_first b ps) ≡ b ∷ glued ps
glued-onto b [] some = absurd (some refl)
glued-onto b (p ∷ []) some = refl
glued-onto b (p ∷ next ∷ rest) some = refl

glued-parts : (text : List ℕ) → glued (parts text) ≡ text
glued-parts [] = refl
glued-parts (b ∷ text) = go (glued-parts text) (b == 47) refl
  where
    go : glued (parts text) ≡ text → (t : Bool) → (b == 47) ≡ t → glued (parts (b ∷ text)) ≡ b ∷ text
    go same true at = rw at (glued-slash (parts text) (parts-some text) ∙ ap (λ t. 47 ∷ t) same ∙ ap (λ c. c ∷ text) (sym (eqb-true b 47 at)))
    go same false at = rw at (glued-onto b (parts text) (parts-some text) ∙ ap (λ t. b ∷ t) same)

glued-path : (text : List ℕ) → glued (path_parts text) ≡ text
glued-path [] = refl
glued-path (b ∷ text) = glued-parts (b ∷ text)

-- texts of the same names are the same
same_text : (one other : List ℕ) → path_parts one ≡ path_parts other → one ≡ other
same_text one other same = sym (glued-path one) ∙ ap glued same ∙ glued-path other

-- ---- the names before the last

abbrev before_last : Path → Path
before_last [] = []
before_last (name ∷ []) = []
before_last (name ∷ next ∷ names) = name ∷ before_last (next ∷ names)

before_last-is : (prefix : Path) (last : Name) → before_last (prefix ++ last ∷ []) ≡ prefix
before_last-is [] last = refl
before_last-is (name ∷ []) last = refl
before_last-is (name ∷ next ∷ prefix) last = ap (λ names. name ∷ names) (before_last-is (next ∷ prefix) last)

-- paths that lead to names in one directory have one text before their last names
pub same_prefix : (one other : Path) (text other_text : List ℕ) (last other_last : Name) → one ≡ path_parts text ++ last ∷ [] → other ≡ path_parts other_text ++ other_last ∷ [] →
    AreBeside one other → text ≡ other_text
same_prefix one other text other_text last other_last one_is other_is beside =
    let here : path_parts text ≡ beside.parent = sym (before_last-is (path_parts text) last) ∙ ap before_last (sym one_is ∙ beside.one_is) ∙ before_last-is beside.parent beside.one_last in
    let there : path_parts other_text ≡ beside.parent =
    sym (before_last-is (path_parts other_text) other_last) ∙ ap before_last (sym other_is ∙ beside.other_is) ∙ before_last-is beside.parent beside.other_last in
    same_text text other_text (here ∙ sym there)
