-- Paths in a program against those of the definitions, and the entries of a copy with a change, put in one by one.
use Rattle.std.proofs.Common.{◌≡◌, ℕ, ◌+◌, ◌<◌, ◌&&◌, Bool, true, false, List, [], ◌∷◌, ◌++◌, length, take, get_or, is_some, map, Option, None, Some, refl, sym, ◌∙◌, ap, ap₂, append_assoc}
use Rattle.std.proofs.lemmas.List.{take_more, map-append}
use Rattle.std.specs.Cmp.Lexicographic.{pointwise}
use Rattle.std.specs.List.{filter_map}
use Rattle.std.specs.Global.{Vec}
use Rattle.std.specs.FinMap.{empty, from_entries}
use Rattle.arrayvec.specs.ArrayVec.{ArrayVec}
use Rattle.bp_layout.specs.Paths.{same_path, rest_below, Path}
use Rattle.bp_plain.specs.declared.trees.entries.Change.{Change}
use Rattle.bp_plain.specs.declared.trees.entries.Node.{Node as Kept}
use Rattle.bp_plain.specs.Changed.{changed, with_entry}
use Rattle.bp_plain.specs.Numbered.{Numbered, NumberedFiles}
use Rattle.bp_plain.specs.PlainTree.{path_cmp}
use Rattle.bp_plain.specs.SeenTree.{entry_kept, names_of}
use Rattle.bp_plain.proofs.PathLaws.{same_name}

-- ---- paths

pub same_seen : (path other : List (ArrayVec ℕ)) → pointwise same_name path other ≡ same_path (names_of path) (names_of other)
same_seen [] [] = refl
same_seen [] (y ∷ other) = refl
same_seen (x ∷ path) [] = refl
same_seen (x ∷ path) (y ∷ other) = ap (λ b. same_name x y && b) (same_seen path other)

pub below_seen : (above path : List (ArrayVec ℕ)) → pointwise same_name above (take (length above) path) ≡ is_some (rest_below (names_of above) (names_of path))
below_seen [] path = refl
below_seen (a ∷ above) [] = refl
below_seen (a ∷ above) (x ∷ path) = go (same_name a x) refl (below_seen above path)
  where
    go : (b : Bool) → same_name a x ≡ b → pointwise same_name above (take (length above) path) ≡ is_some (rest_below (names_of above) (names_of path)) →
        pointwise same_name (a ∷ above) (take (length (a ∷ above)) (x ∷ path)) ≡ is_some (rest_below (names_of (a ∷ above)) (names_of (x ∷ path)))
    go true at rest = rw at rest
    go false at rest = rw at refl

-- a further name of a path
pub name_added : (before after names : List (ArrayVec ℕ)) (i : ℕ) (name copy : ArrayVec ℕ) (old : Path) →
    i < length names → name ≡ get_or names i name → after ≡ before ++ copy ∷ [] → copy.items ≡ name.items →
    names_of before ≡ old ++ names_of (take i names) → names_of after ≡ old ++ names_of (take (i + 1) names)
name_added before after names i name copy old low is more same so_far =
    ap names_of more ∙ map-append (λ name. name.items) before (copy ∷ [])
    ∙ ap₂ (λ path last. path ++ last ∷ []) so_far same
    ∙ append_assoc old (names_of (take i names)) (name.items ∷ [])
    ∙ ap (λ path. old ++ path) (sym (map-append (λ name. name.items) (take i names) (name ∷ [])))
    ∙ ap (λ last. old ++ names_of (take i names ++ last ∷ [])) is
    ∙ ap (λ path. old ++ names_of path) (sym (take_more names i name low))

-- ---- entries

-- the last one first, so that of two at one path the first stays
abbrev pub all_put : Change → List (Path × Numbered) → NumberedFiles → NumberedFiles
all_put change [] files = files
all_put change (entry ∷ es) files = with_entry (changed change entry) (all_put change es files)

pub all_put-last : (change : Change) (es : List (Path × Numbered)) (entry : Path × Numbered) (files : NumberedFiles) → all_put change (es ++ entry ∷ []) files ≡ all_put change es (with_entry (changed change entry) files)
all_put-last change [] entry files = refl
all_put-last change (e ∷ es) entry files = ap (with_entry (changed change e)) (all_put-last change es entry files)

pub all_put-is : (change : Change) (es : List (Path × Numbered)) → all_put change es empty ≡ from_entries {R = path_cmp} (filter_map (changed change) es)
all_put-is change [] = refl
all_put-is change (e ∷ es) = go (changed change e) refl (all_put-is change es)
  where
    go : (found : Option (Path × Numbered)) → changed change e ≡ found → all_put change es empty ≡ from_entries {R = path_cmp} (filter_map (changed change) es) →
        all_put change (e ∷ es) empty ≡ from_entries {R = path_cmp} (filter_map (changed change) (e ∷ es))
    go None at rest = rw at rest
    go (Some entry) at rest = rw (at, rest) refl

-- a further entry from the back
pub put_more : (change : Change) (entry : Vec (ArrayVec ℕ) × Kept) (rest left : List (Vec (ArrayVec ℕ) × Kept)) (before after whole : NumberedFiles) →
    left ≡ rest ++ entry ∷ [] → after ≡ with_entry (changed change (entry_kept entry)) before →
    all_put change (map entry_kept left) before ≡ whole → all_put change (map entry_kept rest) after ≡ whole
put_more change entry rest left before after whole is made so_far =
    ap (all_put change (map entry_kept rest)) made
    ∙ sym (all_put-last change (map entry_kept rest) (entry_kept entry) before)
    ∙ ap (λ es. all_put change es before) (sym (map-append entry_kept rest (entry ∷ [])))
    ∙ ap (λ es. all_put change (map entry_kept es) before) (sym is) ∙ so_far
