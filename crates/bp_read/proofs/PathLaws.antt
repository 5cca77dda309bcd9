-- What `address` asks of a path holds of the way to a word of a sound tree with no null above it.
use Rattle.std.proofs.Common.{◌≡◌, ◌≢◌, ℕ, zero, suc, ◌+◌, ◌*◌, ◌/◌, ◌%◌, ◌<◌, [], ◌∷◌, ◌++◌, sym, ◌∙◌, ap, subst, arith}
use Rattle.std.specs.List.{All}
use Rattle.std.proofs.lemmas.List.Elements.{All-append, All-cons, All-nil}
use Rattle.bp_layout.specs.Words.{Image, word, block_of, block_count}
use Rattle.bp_layout.specs.Tree.{node, IsLiveWord, IsSound}
use Rattle.bp_layout.specs.WordPaths.{WordPath, digits, address_from, ExistsFrom}
use Rattle.bp_layout.proofs.Addresses.{IsUnderNodes, present_above, word-place_of, address_from-digits}
use Rattle.bp_layout.proofs.TreeLaws.{live_above, live_pointer_word}
use Rattle.bp_read.specs.Paths.{IsInRangeFrom}

pub exists-append : (image : Image) (at : ℕ) (p q : WordPath) → ExistsFrom image at p → ExistsFrom image (address_from image at p) q → ExistsFrom image at (p ++ q)
exists-append image at [] q prefix rest = rest
exists-append image at (slot ∷ p) q prefix rest = (prefix.0, exists-append image (512 * block_of (word image at) + slot) p q prefix.1 rest)

pub in_range-append : (image : Image) (at : ℕ) (p q : WordPath) → IsInRangeFrom image at p → IsInRangeFrom image (address_from image at p) q → IsInRangeFrom image at (p ++ q)
in_range-append image at [] q prefix rest = rest
in_range-append image at (slot ∷ p) q prefix rest = (prefix.0, in_range-append image (512 * block_of (word image at) + slot) p q prefix.1 rest)

pub small_digits : (count index : ℕ) → All (λ slot. slot < 512) (digits count index)
small_digits zero index = All-nil (λ slot. slot < 512)
small_digits (suc count) index =
    let P : ℕ → Type 0 = λ slot. slot < 512 in
    All-append P (digits count (index / 512)) (index % 512 ∷ []) (small_digits count (index / 512)) (All-cons P (index % 512) [] (omega arith) (All-nil P))

under : (image : Image) (root d k : ℕ) → node image root d k ≢ 0 → IsUnderNodes image root d k
under image root zero k present = tt
under image root (suc d) k present = present_above image root d k present

module _ (image : Image) (at root size : ℕ) (here : word image at ≡ root) where
  -- the pointer at the end of the way so far
  pointer_is : (d k : ℕ) → node image root d k ≢ 0 → block_of (word image (address_from image at (digits d k))) ≡ node image root d k
  pointer_is d k present =
      ap (λ p. block_of (word image p)) (address_from-digits image at root here d k (under image root d k present))
      ∙ ap block_of (word-place_of image at root here d k (under image root d k present))

  pub exists-digits : (d k : ℕ) → IsUnderNodes image root d k → ExistsFrom image at (digits d k)
  exists-digits zero k above = tt
  exists-digits (suc d) k above =
      exists-append image at (digits d (k / 512)) (k % 512 ∷ []) (exists-digits d (k / 512) (under image root d (k / 512) above))
      ((λ null. above (sym (pointer_is d (k / 512) above) ∙ null)), tt)

  pub in_range-digits : IsSound image root size → (d k : ℕ) → IsLiveWord root size d k → IsUnderNodes image root d k → IsInRangeFrom image at (digits d k)
  in_range-digits sound zero k live above = tt
  in_range-digits sound (suc d) k live above =
      in_range-append image at (digits d (k / 512)) (k % 512 ∷ [])
      (in_range-digits sound d (k / 512) (live_pointer_word root size d (k / 512) (live_above root size d k live)) (under image root d (k / 512) above))
      (subst (λ b. b < block_count image) (sym (pointer_is d (k / 512) above)) (sound.in_range d (k / 512) (live_above root size d k live)), tt)
