-- An inode has at most 16 names to a block: each of its entries has a seat of its own, a sixteenth of a block.
use Rattle.std.proofs.Common.{◌≡◌, ◌≢◌, ℕ, ◌+◌, ◌*◌, ◌/◌, ◌%◌, ◌<◌, ◌≤◌, List, [], ◌∷◌, length, map, refl, subst, arith, inl, inr}
use Rattle.std.specs.List.{range_with_len}
use Rattle.std.proofs.lemmas.List.{length-map}
use Rattle.std.proofs.lemmas.List.FromFn.{length-range_with_len}
use Rattle.bp_layout.specs.Inode.{ContentStandsAt, root_of, size_of}
use Rattle.bp_layout.specs.Members.{AreApart, Each, Has}
use Rattle.bp_layout.specs.Names.{HasNames, IsNamed}
use Rattle.bp_layout.specs.Tree.{node}
use Rattle.bp_layout.specs.WellFormed.{IsWellFormed}
use Rattle.bp_layout.specs.Words.{Image, block_count, height_of}
use Rattle.bp_layout.proofs.MemberLaws.{apart-within, has-range}
use Rattle.bp_calls.proofs.Spares.{one_content}
use Rattle.bp_calls.proofs.Trees.{live_leaf}

module _ (image : Image) (wf : IsWellFormed image) (j : ℕ) where
  abbrev leaf_of : ℕ × ℕ → ℕ
  leaf_of e = node image (root_of image e.0) (height_of (root_of image e.0)) ((32 * e.1 + 0) / 512)

  abbrev place_of : ℕ × ℕ → ℕ
  place_of e = 512 * leaf_of e + (32 * e.1 + 0) % 512

  below : (e : ℕ × ℕ) → IsNamed image j e → 4096 * ((32 * e.1 + 0) / 512) < size_of image e.0
  below e named = let inside : e.1 < size_of image e.0 / 256 = named.names.in_size in omega (arith, inside)

  stands : (e : ℕ × ℕ) → IsNamed image j e → ContentStandsAt image e.0 (32 * e.1 + 0) (place_of e)
  stands e named = record {
    present = wf.full_directories e.0 named.reached named.names.directory (height_of (root_of image e.0)) ((32 * e.1 + 0) / 512) (live_leaf (root_of image e.0) (size_of image e.0) ((32 * e.1 + 0) / 512) (below e named));
    at = refl;
  }

  inside : (e : ℕ × ℕ) → IsNamed image j e → place_of e < length image
  inside e named =
      let low : leaf_of e < block_count image =
      (wf.sound e.0 named.reached).in_range (height_of (root_of image e.0)) ((32 * e.1 + 0) / 512) (live_leaf (root_of image e.0) (size_of image e.0) ((32 * e.1 + 0) / 512) (below e named)) in
      omega (arith, low, wf.formatted.sized.whole)

  one_entry_there : (e f : ℕ × ℕ) → IsNamed image j e → IsNamed image j f → place_of f ≡ place_of e → f ≡ e
  one_entry_there e f one two same =
      let there : ContentStandsAt image f.0 (32 * f.1 + 0) (place_of e) = subst (ContentStandsAt image f.0 (32 * f.1 + 0)) same (stands f two) in
      let is = one_content image wf f.0 (32 * f.1 + 0) e.0 (32 * e.1 + 0) (place_of e) two.reached one.reached (below f two) (below e one) there (stands e one) in
      λ l. (is.0 l, (slots f.1 e.1 is.1) l)
    where
      slots : (s r : ℕ) → 32 * s + 0 ≡ 32 * r + 0 → s ≡ r
      slots s r same = omega (arith, same)

  -- the number of the sixteenth of a block in which an entry is
  abbrev seat_of : ℕ × ℕ → ℕ
  seat_of e = 16 * leaf_of e + e.1 % 16

  seat : (e : ℕ × ℕ) → place_of e ≡ 32 * seat_of e
  seat e = omega arith

  in_seats : (e : ℕ × ℕ) → IsNamed image j e → seat_of e < 16 * block_count image
  in_seats e named = let low = inside e named in omega (arith, low, seat e, wf.formatted.sized.whole)

  same_place : (e f : ℕ × ℕ) → seat_of f ≡ seat_of e → place_of f ≡ place_of e
  same_place e f same = omega (arith, same, seat e, seat f)

  others : (e : ℕ × ℕ) → IsNamed image j e → (entries : List (ℕ × ℕ)) → Each (λ f. f ≢ e) entries → Each (IsNamed image j) entries → Each (λ p. p ≢ seat_of e) (map seat_of entries)
  others e one [] apart named = tt
  others e one (f ∷ entries) apart named = (λ same. apart.0 (one_entry_there e f one named.0 (same_place e f same)), others e one entries apart.1 named.1)

  seats_apart : (entries : List (ℕ × ℕ)) → AreApart entries → Each (IsNamed image j) entries → AreApart (map seat_of entries)
  seats_apart [] apart named = tt
  seats_apart (e ∷ entries) apart named = (others e named.0 entries apart.0 named.1, seats_apart entries apart.1 named.1)

  seats_inside : (entries : List (ℕ × ℕ)) → Each (IsNamed image j) entries → (p : ℕ) → Has (map seat_of entries) p → p < 16 * block_count image
  seats_inside [] named p none = absurd none
  seats_inside (e ∷ entries) named p (inl here) = subst (λ q. q < 16 * block_count image) here (in_seats e named.0)
  seats_inside (e ∷ entries) named p (inr later) = seats_inside entries named.1 p later

  pub few_names : (count : ℕ) → HasNames image j count → count ≤ 16 * block_count image
  few_names count has =
      let seats : List ℕ = map seat_of has.entries in
      let within : length seats ≤ length (range_with_len 0 (16 * block_count image)) =
      apart-within seats (range_with_len 0 (16 * block_count image)) (seats_apart has.entries has.are.once has.are.name)
      (λ p there. has-range 0 (16 * block_count image) p (omega arith) (let low = seats_inside has.entries has.are.name p there in omega (arith, low))) in
      omega (arith, within, has.number, length-map has.entries seat_of, length-range_with_len 0 (16 * block_count image))
