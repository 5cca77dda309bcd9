use Rattle.std.proofs.Common.{◌≡◌, ℕ, ◌*◌, ◌<◌, ◌≤◌, List, length, take, get_or, ◌∙◌, arith}
use Rattle.std.specs.Prelude.{replicate}
use Rattle.std.proofs.lemmas.List.{get_or-replicate, get_or-take, length-replicate, length-take}
use Rattle.bp_read.proofs.RegionWords.{length_now}
use Rattle.bp_cow.proofs.copies.copy_prefix.Goals as goal

-- the words of a null block
abbrev zeros : List ℕ
zeros = replicate 512 0

there : (n slot : ℕ) → n ≤ 512 → slot < n → slot < length (take n zeros)
there n slot few low = omega (arith, few, low, length-take n zeros, length-replicate {A = ℕ} 512 0)

zero_there : (n slot : ℕ) → n ≤ 512 → slot < n → get_or (take n zeros) slot 0 ≡ 0
zero_there n slot few low = get_or-take n zeros slot 0 low ∙ get_or-replicate 512 slot 0 0 (omega (arith, few, low))

pub returns-then-from-eq0-clause-copied : goal.returns-then-from-eq0-clause-copied
returns-then-from-eq0-clause-copied g c slot low =
    let few : 8 * c.args.pieces ≤ 512 = omega (arith, c.requires.few) in
    rw c.if-from-eq0.true (c.store_prefix.ensures.words slot (there (8 * c.args.pieces) slot few low) ∙ zero_there (8 * c.args.pieces) slot few low)

pub overflow_cast-from : goal.overflow_cast-from
overflow_cast-from g c = omega (arith, c.requires.from, length_now (g.R.Region.memory c.args.region.now), c.words-words.ensures, c.words-words.type_inv)
