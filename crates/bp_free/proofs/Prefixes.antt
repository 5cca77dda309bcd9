-- A list of which only a prefix is stored.
use Rattle.std.proofs.Common.{◌≡◌, ℕ, ◌+◌, ◌-◌, ◌<◌, ◌≤◌, ◌++◌, List, Vec, length, set, replicate, sym, ◌∙◌, ap, arith}
use Rattle.std.proofs.lemmas.List.{set-append_left, length-set, length-append, length-replicate, replicate-append-replicate, append_assoc, with_items_is}
use Rattle.std.specs.Vec.{with_items}
use Rattle.bp_free.specs.Padded.{padded}

-- an entry that is stored is set
pub padded_set : {A : Type 0} → (blank x : A) (stored : List A) (room i : ℕ) → i < length stored → padded blank (set stored i x) room ≡ set (padded blank stored room) i x
padded_set blank x stored room i low =
    ap (λ n. set stored i x ++ replicate (room - n) blank) (length-set stored i x)
    ∙ sym (set-append_left stored (replicate (room - length stored) blank) i x low)

-- blank entries that are stored change nothing
pub padded_more : {A : Type 0} → (blank : A) (stored more : List A) (room : ℕ) → more ≡ stored ++ replicate (length more - length stored) blank → length stored ≤ length more → length more ≤ room →
    padded blank more room ≡ padded blank stored room
padded_more blank stored more room is longer within =
    let rest : length more - length stored + (room - length more) ≡ room - length stored = omega (arith, longer, within) in
    ap (λ xs. xs ++ replicate (room - length more) blank) is
    ∙ append_assoc stored (replicate (length more - length stored) blank) (replicate (room - length more) blank)
    ∙ ap (λ xs. stored ++ xs) (replicate-append-replicate (length more - length stored) (room - length more) blank)
    ∙ ap (λ n. stored ++ replicate n blank) rest

-- where all that is stored is blank, the whole list is
pub padded_blank : {A G : Type 0} → (blank : A) (stored : Vec A G) (old cleared : List A) (room : ℕ) → old ≡ stored.items → cleared ≡ replicate (length old) blank → length stored.items ≤ room →
    padded blank (with_items stored cleared).items room ≡ replicate (length (padded blank stored.items room)) blank
padded_blank blank stored old cleared room was is within =
    let count : length cleared ≡ length stored.items = ap length is ∙ length-replicate (length old) blank ∙ ap length was in
    let items : (with_items stored cleared).items ≡ cleared = with_items_is stored cleared (count ∙ sym stored.ok.0) in
    let all : length (padded blank stored.items room) ≡ length stored.items + (room - length stored.items) =
    length-append stored.items (replicate (room - length stored.items) blank)
    ∙ ap (λ n. length stored.items + n) (length-replicate (room - length stored.items) blank) in
    ap (λ xs. padded blank xs room) items
    ∙ ap (λ n. cleared ++ replicate (room - n) blank) count
    ∙ ap (λ xs. xs ++ replicate (room - length stored.items) blank) (is ∙ ap (λ xs. replicate (length xs) blank) was)
    ∙ replicate-append-replicate (length stored.items) (room - length stored.items) blank
    ∙ ap (λ n. replicate n blank) (sym all)
