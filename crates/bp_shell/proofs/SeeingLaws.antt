-- A region of the words of FILE, as it is seen.
use Rattle.std.proofs.Common.{◌≡◌, ◌∙◌, ap, arith, length}
use Rattle.bp_limits.specs.Limits.{super_magic}
use Rattle.bp_layout.specs.Formatted.{IsSized}
use Rattle.bp_layout.specs.Words.{Image, word}
use Rattle.bp_roles.specs.Mounted.{by_roles, roles_of}
use Rattle.bp_roles.specs.Seen.{MemoryByRoles, seen, seen_events, seen_words}
use Rattle.bp_roles.proofs.SeenLaws.{length-seen}
use Rattle.bp_shell.specs.Scanning.{IsSeenMounted}
use Rattle.pm_epochs.specs.Log.{words_after}
use Rattle.pm_region.specs.Memory.{current_words}

pub length-by_roles : (image : Image) → length (by_roles image) ≡ length image
length-by_roles image = length-seen (roles_of (word image super_magic)) image

pub seen-mounted : (region : MemoryByRoles) → IsSeenMounted region → current_words (seen region) ≡ by_roles region.memory.base
seen-mounted region is =
    ap (λ events. words_after (seen_words region.roles region.memory.base) (seen_events region.roles events)) is.fresh ∙ ap (λ roles. seen_words roles region.memory.base) is.roles

-- the image that is seen has the size of the one in the region
module _ (region : MemoryByRoles) (is : IsSeenMounted region) where
  pub length-seen_now : length (current_words (seen region)) ≡ length region.memory.base
  length-seen_now = ap length (seen-mounted region is) ∙ length-by_roles region.memory.base

  pub sized-seen : IsSized region.memory.base → IsSized (current_words (seen region))
  sized-seen sized = record {
    whole = omega (arith, length-seen_now, sized.whole);
    at_least = omega (arith, length-seen_now, sized.at_least);
    at_most = omega (arith, length-seen_now, sized.at_most);
  }
