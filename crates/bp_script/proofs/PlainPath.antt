-- A path with no escape is what it stands for.
use Rattle.std.proofs.Common.{◌≡◌, ◌≢◌, ℕ, List, [], ◌∷◌, ◌++◌, ◌==◌, map, flat_map, Bool, true, false, None, position, refl, sym, ◌∙◌, ap, true≢false}
use Rattle.std.specs.Prelude.{All}
use Rattle.std.specs.List.{join_by, slice_split}
use Rattle.std.proofs.lemmas.Bool.{eqb-true}
use Rattle.std.proofs.lemmas.List.Elements.{All-from_get_or, All-head, All-tail}
use Rattle.percent_encoding.proofs.PercentLemmas.{percent_decode-nil, percent_decode_not_percent}
use Rattle.bp_script.specs.Commands.{part_bytes, path_bytes, unslashed}
use Rattle.bp_script.proofs.Splitting.{no_place, slice_split-cons}

-- what parts stand for, joined
abbrev joined : List (List ℕ) → List ℕ
joined parts = join_by part_bytes (47 ∷ []) parts

abbrev parts_of : List ℕ → List (List ℕ)
parts_of word = slice_split (λ b. b == 47) word

-- a byte that begins no escape stands for itself
part_of-cons : (b : ℕ) (rest : List ℕ) → b ≢ 37 → (b == 47) ≡ false → part_bytes (b ∷ rest) ≡ b ∷ part_bytes rest
part_of-cons b rest plain inside =
    ap (map unslashed) (percent_decode_not_percent b rest plain) ∙ (rw inside refl)

no_part : part_bytes [] ≡ []
no_part = ap (map unslashed) percent_decode-nil

plain_path : (word : List ℕ) → All (λ b. b ≢ 37) word → path_bytes word ≡ word
plain_path [] all = ap (λ x. x ++ []) no_part
plain_path (b ∷ word) all =
    let parts = slice_split-cons (λ c. c == 47) word in
    go (b == 47) refl parts.0 parts.1 parts.2 (plain_path word (All-tail (λ c. c ≢ 37) b word all))
  where
    go : (slash : Bool) → (b == 47) ≡ slash → (first : List ℕ) (rest : List (List ℕ)) → parts_of word ≡ first ∷ rest → joined (parts_of word) ≡ word
        → joined (parts_of (b ∷ word)) ≡ b ∷ word
    go true at first rest cut whole =
        let whole' : part_bytes first ++ flat_map (λ y. (47 ∷ []) ++ part_bytes y) rest ≡ word = rw cut at whole in
        rw (at, cut, no_part) (ap (λ x. 47 ∷ x) whole' ∙ ap (λ x. x ∷ word) (sym (eqb-true b 47 at)))
    go false at first rest cut whole =
        let whole' : part_bytes first ++ flat_map (λ y. (47 ∷ []) ++ part_bytes y) rest ≡ word = rw cut at whole in
        rw (at, cut) (ap (λ x. x ++ flat_map (λ y. (47 ∷ []) ++ part_bytes y) rest) (part_of-cons b first (All-head (λ c. c ≢ 37) b word all) at) ∙ ap (λ x. b ∷ x) whole')

-- where no byte is a `%`
pub unescaped_path : (word : List ℕ) → position (λ b. b == 37) word ≡ None → path_bytes word ≡ word
unescaped_path word none = plain_path word (All-from_get_or (λ b. b ≢ 37) word 0 (λ k low e. true≢false (sym (ap (λ b. b == 37) e) ∙ no_place (λ b. b == 37) word none k low)))
