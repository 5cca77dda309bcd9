-- A new name after a growth of the inode file: where the call is performed on the longer file, it is performed with the growth.
use Rattle.std.proofs.Common.{◌≡◌, ℕ, Bool, zero, suc, ◌+◌, ◌≤◌, length, sym, ◌∙◌, ap, arith}
use Rattle.bp_layout.proofs.MemberLaws.{each-has}
use Rattle.bp_layout.specs.Inode.{kind_of}
use Rattle.bp_layout.specs.Need.{cover, need}
use Rattle.bp_layout.specs.Need.Change.{enters}
use Rattle.bp_layout.specs.Need.Entrant.{grown, linked, taken}
use Rattle.bp_layout.specs.Reached.{IsReached, IsFreeBlock}
use Rattle.bp_layout.specs.WellFormed.{IsWellFormed}
use Rattle.bp_layout.specs.WordPaths.{address}
use Rattle.bp_layout.specs.Words.{Image}
use Rattle.bp_changes.specs.Performs.{PerformsThawed, PerformsWithin, most_stores_thawed}
use Rattle.bp_changes.proofs.PerformsLaws.{performs_twice}
use Rattle.pm_region.specs.Memory.{Memory, current_words}
use Rattle.bp_calls.specs.Growth.{GrowsInodes, growth_need, growth_stores, stores_after_growth}
use Rattle.bp_calls.proofs.GrowthCover.{longer_cover, longer_need}
use Rattle.bp_calls.proofs.GrowthLaws.{longer_free, longer_live}
use Rattle.bp_calls.specs.Steps.{name_need}

module _ {in_snapshot : ℕ → Bool} (old mid : Memory) (grows : GrowsInodes in_snapshot old mid) (wf : IsWellFormed (current_words old)) where
  no_inode_file : kind_of (current_words old) 0 ≡ 2 → ⊥
  no_inode_file two = omega (arith, two)

  pub grown_cover : (i : ℕ) → IsReached (current_words old) i → kind_of (current_words old) i ≡ 2 → cover (current_words old) (enters i grown) ≡ cover (current_words mid) (enters i linked)
  grown_cover zero reached kind = absurd (no_inode_file kind)
  grown_cover (suc n) reached kind = longer_cover (current_words old) (current_words mid) grows.taken wf grows.grown n reached kind

  pub grown_need : (i : ℕ) → IsReached (current_words old) i → kind_of (current_words old) i ≡ 2 →
      need (current_words old) (enters i grown) ≡ growth_need (current_words old) + name_need (current_words mid) i
  grown_need zero reached kind = absurd (no_inode_file kind)
  grown_need (suc n) reached kind = longer_need (current_words old) (current_words mid) grows.taken wf grows.grown n reached kind

  -- What is made of the longer file may be stated of the first in other words.
  pub performs_grown : (new : Memory) (i j : ℕ) (Made Effect : Image → Image → Type 0) → IsReached (current_words old) i → kind_of (current_words old) i ≡ 2 →
      PerformsWithin in_snapshot (name_need (current_words mid) i) 5 (stores_after_growth (name_need (current_words mid) i)) mid new (enters i (taken j)) Made →
      (Made (current_words mid) (current_words new) → Effect (current_words old) (current_words new)) → PerformsThawed in_snapshot old new (enters i grown) Effect
  performs_grown new i j Made Effect reached kind done so =
      performs_twice in_snapshot old new (enters i grown) Effect mid (address (current_words new) (cover (current_words mid) (enters i (taken j)))) done.value 3 (growth_stores (length grows.taken))
      5 (stores_after_growth (name_need (current_words mid) i)) grows.taken done.taken grows.adds done.commit done.takes
      (longer_live (current_words old) (current_words mid) grows.taken wf grows.grown)
      (λ b took. longer_free (current_words old) (current_words mid) grows.taken wf grows.grown b (each-has (IsFreeBlock (current_words mid) in_snapshot) done.taken b done.takes.free took))
      (ap (address (current_words new)) (sym (grown_cover i reached kind))) (omega arith)
      (few (length grows.taken) (name_need (current_words mid) i) (need (current_words old) (enters i grown)) needs)
      (counts (length grows.taken) (length done.taken) (name_need (current_words mid) i) (need (current_words old) (enters i grown)) needs done.number)
      done.in_open done.well_formed (so done.effect)
    where
      needs : need (current_words old) (enters i grown) ≡ length grows.taken + name_need (current_words mid) i
      needs = grown_need i reached kind ∙ ap (λ g. g + name_need (current_words mid) i) (sym grows.number)

      few : (made more all : ℕ) → all ≡ made + more → growth_stores made + stores_after_growth more ≤ most_stores_thawed all
      few made more all e = omega (arith, e)

      counts : (made took more all : ℕ) → all ≡ made + more → took ≡ more → made + took ≡ all
      counts made took more all e f = omega (arith, e, f)
