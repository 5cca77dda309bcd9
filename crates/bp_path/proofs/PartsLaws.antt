-- The names of a path's text, from its first to its last.
use Rattle.std.proofs.Common.{◌≡◌, ◌≢◌, ℕ, zero, suc, ◌+◌, ◌-◌, ◌<◌, ◌≤◌, Bool, true, false, ◌&&◌, ◌==◌, List, [], ◌∷◌, ◌++◌, length, take, drop, slice_index, position, None, Some, refl, sym, ◌∙◌, ap, arith}
use Rattle.std.specs.List.{list_all}
use Rattle.std.proofs.lemmas.List.Folds.{list_all-append}
use Rattle.std.proofs.lemmas.List.{get_or-drop, length-drop}
use Rattle.std.proofs.Math.Bool.{and-true}
use Rattle.bp_layout.specs.Paths.{is_name, parts}
use Rattle.bp_layout.proofs.Parts.{split_at, first_part, only_part, parts-append, parts-one}
use Rattle.bp_path.specs.Names.{path_parts}

pub and_parts : (a b : Bool) → (a && b) ≡ true → (a ≡ true) × (b ≡ true)
and_parts true b both = (refl, both)
and_parts false b both = absurd (cc)

-- after a `/` there is a name, so the text there is not empty
pub names_after : (text : List ℕ) → list_all is_name (parts text) ≡ true → path_parts text ≡ parts text
names_after [] all = absurd (cc)
names_after (b ∷ text) all = refl

pub names_first : (text : List ℕ) (end : ℕ) → list_all is_name (path_parts text) ≡ true → position (λ b. b == 47) text ≡ Some end →
    (path_parts text ≡ take end text ∷ path_parts (drop (end + 1) text)) × (list_all is_name (path_parts (drop (end + 1) text)) ≡ true)
names_first [] end all found = absurd (cc)
names_first (b ∷ text) end all found =
    let split : parts (b ∷ text) ≡ take end (b ∷ text) ∷ parts (drop (end + 1) (b ∷ text)) = first_part (b ∷ text) end found in
    let both : (is_name (take end (b ∷ text)) && list_all is_name (parts (drop (end + 1) (b ∷ text)))) ≡ true = ap (list_all is_name) (sym split) ∙ all in
    let rest : list_all is_name (parts (drop (end + 1) (b ∷ text))) ≡ true = (and_parts _ _ both).1 in
    let same : path_parts (drop (end + 1) (b ∷ text)) ≡ parts (drop (end + 1) (b ∷ text)) = names_after (drop (end + 1) (b ∷ text)) rest in
    (split ∙ ap (λ ps. take end (b ∷ text) ∷ ps) (sym same), ap (list_all is_name) same ∙ rest)

pub names_only : (text : List ℕ) → 0 < length text → position (λ b. b == 47) text ≡ None → path_parts text ≡ text ∷ []
names_only [] some none = absurd (omega (arith, some))
names_only (b ∷ text) some none = only_part (b ∷ text) none

-- the names of a text by its last `/`
pub names_last : (text : List ℕ) (start : ℕ) → start ≤ length text → parts (drop start text) ≡ drop start text ∷ [] →
    (0 < start → slice_index text (start - 1) ≡ 47) → 0 < length text → list_all is_name (path_parts text) ≡ true →
    (path_parts text ≡ path_parts (take (start - 1) text) ++ drop start text ∷ []) × (list_all is_name (path_parts (take (start - 1) text)) ≡ true)
names_last [] start within last slash some all = absurd (omega (arith, some))
names_last (b ∷ text) zero within last slash some all = (last, refl)
names_last (b ∷ text) (suc end) within last slash some all =
    let next : end + 1 ≡ suc end = omega arith in
    let here : suc end - 1 ≡ end = omega arith in
    let at : slice_index (b ∷ text) end ≡ 47 = ap (slice_index (b ∷ text)) (sym here) ∙ slash (omega arith) in
    let split : parts (b ∷ text) ≡ parts (take end (b ∷ text)) ++ parts (drop (end + 1) (b ∷ text)) =
    ap parts (split_at (b ∷ text) end (omega (arith, within)) at) ∙ parts-append (take end (b ∷ text)) (drop (end + 1) (b ∷ text)) in
    let tail : parts (drop (end + 1) (b ∷ text)) ≡ drop (suc end) (b ∷ text) ∷ [] = ap (λ k. parts (drop k (b ∷ text))) next ∙ last in
    let both : (list_all is_name (parts (take end (b ∷ text))) && list_all is_name (parts (drop (end + 1) (b ∷ text)))) ≡ true =
    sym (list_all-append is_name (parts (take end (b ∷ text))) (parts (drop (end + 1) (b ∷ text)))) ∙ ap (list_all is_name) (sym split) ∙ all in
    let prefix : list_all is_name (parts (take end (b ∷ text))) ≡ true = (and_parts _ _ both).0 in
    let same : path_parts (take end (b ∷ text)) ≡ parts (take end (b ∷ text)) = names_after (take end (b ∷ text)) prefix in
    rw here (split ∙ ap (λ ps. parts (take end (b ∷ text)) ++ ps) tail ∙ ap (λ ps. ps ++ drop (suc end) (b ∷ text) ∷ []) (sym same), ap (list_all is_name) same ∙ prefix)

-- the parts of a text that begins after a `/`, or begins a text
pub parts_one_more : (text : List ℕ) (start : ℕ) → ((k : ℕ) → start ≤ k → k < length text → slice_index text k ≢ 47) → parts (drop start text) ≡ drop start text ∷ []
parts_one_more text start none = parts-one (drop start text) (λ k h. rw (get_or-drop start text k 0) (none (start + k) (omega arith) (omega (arith, h, length-drop start text))))

-- ---- the test of all names, part by part

pub not_all : (text : List ℕ) (end : ℕ) → position (λ b. b == 47) text ≡ Some end → is_name (take end text) ≡ false → list_all is_name (parts text) ≡ false
not_all text end found no_name = ap (list_all is_name) (first_part text end found) ∙ ap (λ t. t && list_all is_name (parts (drop (end + 1) text))) no_name

pub all_after : (text : List ℕ) (end : ℕ) → position (λ b. b == 47) text ≡ Some end → is_name (take end text) ≡ true →
    list_all is_name (parts text) ≡ list_all is_name (parts (drop (end + 1) text))
all_after text end found name = ap (list_all is_name) (first_part text end found) ∙ ap (λ t. t && list_all is_name (parts (drop (end + 1) text))) name

pub all_one : (text : List ℕ) → position (λ b. b == 47) text ≡ None → list_all is_name (parts text) ≡ is_name text
all_one text none = ap (list_all is_name) (only_part text none) ∙ and-true (is_name text)

pub no_text : (text : List ℕ) → length text ≡ 0 → path_parts text ≡ []
no_text [] none = refl
no_text (b ∷ text) none = absurd (omega (arith, none))
