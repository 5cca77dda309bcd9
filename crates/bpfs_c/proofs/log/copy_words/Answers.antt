use Rattle.std.proofs.Common.{◌≡◌, ◌<◌, ◌+◌, ◌++◌, ◌∙◌, ap, ap₂, arith, inl, inr, length, refl, sym}
use Rattle.std.specs.Prelude.{slice_range}
use Rattle.pm_region.specs.Memory.{current_words}
use Rattle.pm_region.proofs.MemoryLaws.{length-current_words}
use Rattle.bpfs_c.proofs.WordLaws.{slices_join}
use Rattle.bpfs_c.proofs.log.copy_words.Goals as goal
use Rattle.bpfs_c.proofs.log.copy_words.Goals.{then-words-first-via-then-words-first, then-words-first-via-else-words-first+then-words-first-2}

pub returns-then-words-first : goal.returns-then-words-first
returns-then-words-first c =
    let words = current_words c.args.region.now in
    let short : length words < c.args.first + length c.args.into.now = elim c.then-words-first.branch [
      | then-words-first-via-then-words-first w ↦ omega (arith, length-current_words c.args.region.now)
      | then-words-first-via-else-words-first+then-words-first-2 w ↦ omega (arith, length-current_words c.args.region.now)
    ] in
    inr (short, refl, refl)

pub returns : goal.returns
returns c =
    let words = current_words c.args.region.now in
    let first = c.args.first in
    let count = length c.args.into.now in
    let head = length c.split_at_mut-prefix.result.0.now in
    let rest = length c.split_at_mut-prefix.result.1.now in
    let is_head : c.min-head.result ≡ head = sym c.split_at_mut-prefix.ensures.front_len in
    let whole : head + rest ≡ count = omega (arith, c.split_at_mut-prefix.ensures.front_len, c.split_at_mut-prefix.ensures.back_len) in
    let following = ap (λ n. slice_range words (first + n) ((first + n) + rest)) is_head in
    let all : slice_range words first (first + head) ++ slice_range words (first + head) ((first + head) + rest) ≡ slice_range words first (first + count) =
    slices_join words first head rest ∙ ap (λ n. slice_range words first (first + n)) whole in
    inl (omega (arith, length-current_words c.args.region.now), refl, ap₂ (λ left right. left ++ right) c.copy_by_word.ensures (c.copy_run.ensures ∙ following) ∙ all)
