-- The names of entries stay where another is added, and what is stated of them in order is stated of their bytes.
use Rattle.std.proofs.Common.{◌≡◌, ℕ, ◌+◌, ◌≤◌, List, [], ◌∷◌, ◌++◌, length, take, drop, refl, ◌∙◌, ap, ap₂, arith}
use Rattle.std.proofs.Math.Seq.{drop-append_seam, take-length}
use Rattle.std.proofs.lemmas.List.{drop-append-le, length-drop, map-append, take-append-le}
use Rattle.std.proofs.lemmas.List.Elements.{All-tail}
use Rattle.bp_limits.specs.CallLimits.{max_name}
use Rattle.bp_export.specs.Named.{AreRowsWithin, named_row, named_rows}
use Rattle.bp_export.specs.declared.entries.Row.{Row}

name_stays : (bytes more : List ℕ) (row : Row) → row.first + row.len ≤ length bytes → named_row (bytes ++ more) row ≡ named_row bytes row
name_stays bytes more row within =
    let first : row.first ≤ length bytes = omega (arith, within) in
    let len : row.len ≤ length (drop row.first bytes) = omega (arith, within, length-drop row.first bytes) in
    ap (λ xs. (row.inode, xs)) (ap (take row.len) (drop-append-le row.first bytes more first) ∙ take-append-le row.len (drop row.first bytes) more len)

-- rows with other bytes after their own
rows_kept : (bytes more : List ℕ) (rows : List Row) → AreRowsWithin bytes rows → named_rows (bytes ++ more) rows ≡ named_rows bytes rows
rows_kept bytes more [] within = refl
rows_kept bytes more (row ∷ rows) within =
    ap₂ (λ x xs. x ∷ xs) (name_stays bytes more row (within 0 row (omega arith)).0) (rows_kept bytes more rows (All-tail (λ x. (x.first + x.len ≤ length bytes) × (x.len ≤ max_name)) row rows within))

name_added : (bytes name : List ℕ) (row : Row) → row.first ≡ length bytes → row.len ≡ length name → named_row (bytes ++ name) row ≡ (row.inode, name)
name_added bytes name row first len =
    ap₂ (λ n k. (row.inode, take n (drop k (bytes ++ name)))) len first
    ∙ ap (λ xs. (row.inode, take (length name) xs)) (drop-append_seam bytes name)
    ∙ ap (λ xs. (row.inode, xs)) (take-length name)

-- rows with one more after them
pub rows_pushed : (bytes name : List ℕ) (rows : List Row) (row : Row) → AreRowsWithin bytes rows → row.first ≡ length bytes → row.len ≡ length name →
    named_rows (bytes ++ name) (rows ++ row ∷ []) ≡ named_rows bytes rows ++ (row.inode, name) ∷ []
rows_pushed bytes name rows row within first len =
    map-append (named_row (bytes ++ name)) rows (row ∷ [])
    ∙ ap₂ (λ xs x. xs ++ x ∷ []) (rows_kept bytes name rows within) (name_added bytes name row first len)
