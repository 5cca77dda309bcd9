-- A volume of a region with an empty log: of one that is mounted, and of one that was formatted.
use Rattle.std.proofs.Common.{◌≡◌, ◌≢◌, ◌*◌, ◌/◌, ◌≤◌, [], length, refl, sym, ◌∙◌, ap, subst, arith}
use Rattle.pm_region.specs.Memory.{Memory, current_words}
use Rattle.pm_region.specs.Safe.{IsSafe}
use Rattle.pm_region.proofs.SafeLaws.{safe_empty}
use Rattle.bp_layout.specs.Format.{formatted}
use Rattle.bp_layout.specs.Formatted.{IsSized}
use Rattle.bp_layout.specs.Whole.{IsFileSystem}
use Rattle.bp_layout.specs.Words.{Image, block_count, word}
use Rattle.bp_layout.proofs.Format.{formatted_file_system, formatted_words}
use Rattle.bp_limits.specs.Limits.{magic, super_magic}
use Rattle.bp_limits.specs.declared.version.Version.{Version}
use Rattle.bp_limits.specs.declared.version.Version.TheVariants.{One, Two, Three}
use Rattle.bp_plain.specs.PlainTree.{empty_tree}
use Rattle.bp_plain.specs.Stands.{Stands}
use Rattle.bp_plain.proofs.FormatStands.{format_stands}
use Rattle.bp_roles.specs.Mounted.{SameDurable, by_roles, roles_of, served_words}
use Rattle.bp_roles.specs.Roles.{magic_of}
use Rattle.bp_roles.specs.Seen.{IsWide, MemoryByRoles, seen, seen_events, seen_words}
use Rattle.bp_roles.specs.declared.roles.Roles.TheVariants.{OutsideA, OutsideB}
use Rattle.bp_roles.proofs.AsStored.{seen_as_stored}
use Rattle.bp_roles.proofs.KeptLaws.{roles_other}
use Rattle.bp_roles.proofs.Likeness.{durable_equivalence}
use Rattle.bp_roles.proofs.SeenLaws.{length-seen}
use Rattle.bp_mount.specs.Laid.{formatted_memory}
use Rattle.bp_volume.proofs.SafeLaws.{whole_self}
use Rattle.bp_volume.proofs.ScannedLaws.{words_fresh}

-- what a mount sees as a file system is safe while the log is empty
mounted_safe : (memory volume : Memory) → volume ≡ memory → memory.events ≡ [] → IsFileSystem (by_roles memory.base) → IsSafe SameDurable volume
mounted_safe memory volume same fresh is = subst (IsSafe SameDurable) (sym same) (safe_empty SameDurable durable_equivalence memory fresh (whole_self (by_roles memory.base) is))

sized_same : (image other : Image) → length other ≡ length image → IsSized image → IsSized other
sized_same image other same sized = record {
  whole = same ∙ sized.whole ∙ ap (λ n. 512 * (n / 512)) (sym same);
  at_least = subst (λ n. 8 ≤ n / 512) (sym same) sized.at_least;
  at_most = subst (λ n. n / 512 ≤ 67108864) (sym same) sized.at_most;
}

-- ---- a mount

module _ (it : MemoryByRoles) (memory : Memory) (sized : IsSized memory.base) (fresh : memory.events ≡ []) (made : it ≡ record { roles = roles_of (word (current_words memory) super_magic); memory = memory }) where
  same_memory : it.memory ≡ memory
  same_memory = ap (λ (view : MemoryByRoles). view.memory) made

  same_size : length it.memory.base ≡ length memory.base
  same_size = ap (λ (m : Memory). length m.base) same_memory

  pub mounted_wide : IsWide it.memory
  mounted_wide = omega (arith, same_size, sized.whole, sized.at_least)

  pub mounted_roles : roles_of (word it.memory.base super_magic) ≡ it.roles
  mounted_roles =
      ap (λ (m : Memory). roles_of (word m.base super_magic)) same_memory
      ∙ ap (λ words. roles_of (word words super_magic)) (sym (words_fresh memory fresh))
      ∙ sym (ap (λ (view : MemoryByRoles). view.roles) made)

  pub mounted_fresh : (seen it).events ≡ []
  mounted_fresh = ap (seen_events it.roles) (ap (λ (m : Memory). m.events) same_memory ∙ fresh)

  pub mounted_size : length (seen it).base ≡ length memory.base
  mounted_size = length-seen it.roles it.memory.base ∙ same_size

  pub mounted_sized : IsSized (seen it).base
  mounted_sized = sized_same memory.base (seen it).base mounted_size sized

  mounted_base : (seen it).base ≡ by_roles memory.base
  mounted_base = ap (λ roles. seen_words roles it.memory.base) (sym mounted_roles) ∙ ap (λ (m : Memory). by_roles m.base) same_memory

  pub mount_safe : (volume : Memory) → volume ≡ it.memory → IsFileSystem (seen it).base → IsSafe SameDurable volume
  mount_safe volume same is = mounted_safe memory volume (same ∙ same_memory) fresh (subst IsFileSystem mounted_base is)

-- ---- a format

-- no version's own magic number is the second one of version 3
magic_other : (version : Version) → magic version ≢ magic_of OutsideB
magic_other One same = omega (arith, same)
magic_other Two same = omega (arith, same)
magic_other Three same = omega (arith, same)

module _ (old : Memory) (version : Version) (sized : IsSized old.base) where
  abbrev laid : Image
  laid = formatted old.base version (block_count old.base)

  first_word : word laid super_magic ≢ magic_of OutsideB
  first_word same = magic_other version (sym (formatted_words old.base version (block_count old.base) sized.whole sized.at_least).has_magic ∙ same)

  is_file_system : IsFileSystem laid
  is_file_system = formatted_file_system old.base version (block_count old.base) sized.whole sized.at_least sized.at_most

  module _ (memory : Memory) (made : memory ≡ formatted_memory version old) (size : length memory.base ≡ length old.base) where
    long : 8 ≤ length laid
    long = omega (arith, ap (λ (m : Memory). length m.base) made, size, sized.whole, sized.at_least)

    by_roles_laid : by_roles laid ≡ laid
    by_roles_laid = seen_as_stored laid long first_word

    pub format_empty : (volume : Memory) → volume ≡ memory → Stands (served_words volume) (empty_tree version)
    format_empty volume same =
        subst (λ (m : Memory). Stands (served_words m) (empty_tree version)) (sym (same ∙ made))
        (subst (λ image. Stands image (empty_tree version)) (sym by_roles_laid)
        (format_stands old.base version (block_count old.base) sized.whole sized.at_least sized.at_most))

    pub format_safe : (volume : Memory) → volume ≡ memory → IsSafe SameDurable volume
    format_safe volume same = mounted_safe (formatted_memory version old) volume (same ∙ made) refl (subst IsFileSystem (sym by_roles_laid) is_file_system)

    module _ (it : MemoryByRoles) (view : it ≡ record { roles = OutsideA; memory = memory }) where
      abbrev viewed : MemoryByRoles
      viewed = record { roles = OutsideA; memory = formatted_memory version old }

      view_made : it ≡ viewed
      view_made = view ∙ ap (λ m. record { roles = OutsideA; memory = m }) made

      pub format_size : length (seen it).base ≡ length old.base
      format_size = length-seen it.roles it.memory.base ∙ ap (λ (i : MemoryByRoles). length i.memory.base) view ∙ size

      pub format_wide : IsWide it.memory
      format_wide = omega (arith, ap (λ (i : MemoryByRoles). length i.memory.base) view, size, sized.whole, sized.at_least)

      pub format_roles : roles_of (word it.memory.base super_magic) ≡ it.roles
      format_roles =
          ap (λ (i : MemoryByRoles). roles_of (word i.memory.base super_magic)) view_made
          ∙ roles_other (word laid super_magic) first_word
          ∙ sym (ap (λ (i : MemoryByRoles). i.roles) view)

      pub format_fresh : (seen it).events ≡ []
      format_fresh = ap (λ (i : MemoryByRoles). seen_events i.roles i.memory.events) view_made

      pub format_capacity : (seen it).capacity ≡ old.capacity
      format_capacity = ap (λ (i : MemoryByRoles). i.memory.capacity) view_made

      pub format_well_formed : IsFileSystem (seen it).base
      format_well_formed =
          subst (λ (i : MemoryByRoles). IsFileSystem (seen i).base) (sym view_made)
          (subst (λ roles. IsFileSystem (seen_words roles laid)) (roles_other (word laid super_magic) first_word)
          (subst IsFileSystem (sym by_roles_laid) is_file_system))
