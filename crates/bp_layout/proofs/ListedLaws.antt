-- The names of a listing stay where another is added, and what is stated of them in order is stated of their bytes.
use Rattle.std.proofs.Common.{◌≡◌, ℕ, ◌+◌, ◌<◌, ◌≤◌, List, [], ◌∷◌, ◌++◌, length, map, take, drop, Bool, refl, ◌∙◌, ap, ap₂, arith, IsSortedBy}
use Rattle.std.proofs.Math.Seq.{drop-append_seam, take-length}
use Rattle.std.proofs.lemmas.List.{drop-append-le, take-append-le, length-drop, length-map, map-append, get_or-map}
use Rattle.std.proofs.lemmas.List.Elements.{All-tail}
use Rattle.bp_limits.specs.CallLimits.{max_name}
use Rattle.bp_layout.specs.declared.listing.Listed.{Listed}
use Rattle.bp_layout.specs.Listed.{AreWithin, listed_name, listed_names}

name_stays : (bytes more : List ℕ) (entry : Listed) → entry.first + entry.len ≤ length bytes → listed_name (bytes ++ more) entry ≡ listed_name bytes entry
name_stays bytes more entry within =
    let first : entry.first ≤ length bytes = omega (arith, within) in
    let len : entry.len ≤ length (drop entry.first bytes) = omega (arith, within, length-drop entry.first bytes) in
    ap (λ xs. (entry.kind, xs)) (ap (take entry.len) (drop-append-le entry.first bytes more first) ∙ take-append-le entry.len (drop entry.first bytes) more len)

-- a list with other bytes after its own
pub names_kept : (bytes more : List ℕ) (entries : List Listed) → AreWithin bytes entries → listed_names (bytes ++ more) entries ≡ listed_names bytes entries
names_kept bytes more [] within = refl
names_kept bytes more (entry ∷ entries) within =
    ap₂ (λ x xs. x ∷ xs) (name_stays bytes more entry (within 0 entry (omega arith)).0) (names_kept bytes more entries (All-tail (λ x. (x.first + x.len ≤ length bytes) × (x.len ≤ max_name)) entry entries within))

name_added : (bytes name : List ℕ) (entry : Listed) → entry.first ≡ length bytes → entry.len ≡ length name → listed_name (bytes ++ name) entry ≡ (entry.kind, name)
name_added bytes name entry first len =
    ap₂ (λ n k. (entry.kind, take n (drop k (bytes ++ name)))) len first
    ∙ ap (λ xs. (entry.kind, take (length name) xs)) (drop-append_seam bytes name)
    ∙ ap (λ xs. (entry.kind, xs)) (take-length name)

-- a list with a name at its end
pub names_pushed : (bytes name : List ℕ) (entries : List Listed) (entry : Listed) → AreWithin bytes entries → entry.first ≡ length bytes → entry.len ≡ length name →
    listed_names (bytes ++ name) (entries ++ entry ∷ []) ≡ listed_names bytes entries ++ (entry.kind, name) ∷ []
names_pushed bytes name entries entry within first len =
    map-append (listed_name (bytes ++ name)) entries (entry ∷ [])
    ∙ ap₂ (λ xs x. xs ++ x ∷ []) (names_kept bytes name entries within) (name_added bytes name entry first len)

-- what is sorted stays so where each element is stated by another
pub sorted-map : {A B : Type 0} (f : A → B) (before : B → B → Bool) (xs : List A) → IsSortedBy (λ x y. before (f x) (f y)) xs → IsSortedBy before (map f xs)
sorted-map f before [] up k d low high = absurd (omega (arith, high))
sorted-map f before (x ∷ xs) up k d low high =
    let inside : k + 1 < length (x ∷ xs) = omega (arith, high, length-map (x ∷ xs) f) in
    ap₂ before (get_or-map f (x ∷ xs) (k + 1) x d inside) (get_or-map f (x ∷ xs) k x d (omega (arith, inside))) ∙ up k x low inside
