-- What was written is read: a new inode, and a name in an entry; and what one more name makes of the image and its tree.
use Rattle.std.proofs.Common.{◌≡◌, ℕ, ◌+◌, ◌*◌, ◌/◌, ◌%◌, ◌<◌, ◌≤◌, length, get_or, sym, ◌∙◌, ap, subst, arith, lt_of_lt_of_le}
use Rattle.bp_limits.specs.Limits.{inode_fields}
use Rattle.bp_limits.specs.declared.version.Version.{Version}
use Rattle.bp_limits.proofs.Versions.{fields_most}
use Rattle.bp_layout.specs.Formatted.{version_of}
use Rattle.bp_layout.proofs.AttributeLaws.{attributes_none}
use Rattle.bp_changes.proofs.Formatted.{version_stays}
use Rattle.bp_calls.specs.Entered.{IsNewInode}
use Rattle.bp_read.specs.Written.{HasNameAt}
use Rattle.bp_read.specs.Filled.{HasInodeAt}
use Rattle.bp_read.specs.Within.{IsWithin}
use Rattle.bp_read.proofs.InodeWords.{kind_word-of, size_word-of}
use Rattle.bp_layout.specs.Directory.{name_in}
use Rattle.bp_layout.specs.Paths.{Name}
use Rattle.bp_layout.specs.Fields.{kind_word}
use Rattle.bp_layout.specs.Free.{IsFreeInode}
use Rattle.bp_layout.specs.Inode.{ContentStandsAt, inode_word, size_of, inode_count}
use Rattle.bp_limits.specs.CallLimits.{max_name}
use Rattle.bp_layout.specs.Reached.IsReached.{inode_file}
use Rattle.bp_layout.specs.Tree.{byte, content_word}
use Rattle.bp_layout.specs.WellFormed.{IsWellFormed}
use Rattle.bp_layout.specs.Words.{Image, word, byte_of}
use Rattle.bp_layout.specs.declared.fields.Kind.{Kind}
use Rattle.bp_layout.specs.declared.fields.Kind.TheVariants.{File, Dir}
use Rattle.bp_layout.proofs.NameBytes.{map-equal}
use Rattle.pm_epochs.specs.May.{AnyAt}
use Rattle.pm_region.specs.Memory.{Memory, current_words}
use Rattle.pm_region.specs.Safe.{AddsMay}
use Rattle.pm_region.proofs.MayLaws.{may_frame}
use Rattle.bp_calls.proofs.AfterLaws.{free_inode_after}
use Rattle.bp_calls.proofs.Spares.{row_stands}
use Rattle.bp_calls.proofs.Trees.{SameTrees, word_kept}

pub kind_least : (kind : Kind) → 1 ≤ kind_word kind
kind_least File = omega arith
kind_least Dir = omega arith

pub kind_most : (kind : Kind) → kind_word kind ≤ 2
kind_most File = omega arith
kind_most Dir = omega arith

-- a name that stands at a place is read from an entry there
pub name_read : (image : Image) (root slot place : ℕ) (name : Name) → length name ≤ max_name → HasNameAt image place name →
    ((f : ℕ) → 1 ≤ f → f < 32 → content_word image root (32 * slot + f) ≡ word image (place + f)) → name_in image root slot ≡ name
name_read image root slot place name short has words =
    rw (words 1 (omega arith) (omega arith) ∙ has.count) (map-equal (λ o. byte image root (256 * slot + 16 + o)) name one)
  where
    one : (o : ℕ) → o < length name → byte image root (256 * slot + 16 + o) ≡ get_or name o 0
    one o low =
        let number : (256 * slot + 16 + o) / 8 ≡ 32 * slot + (2 + o / 8) = omega arith in
        let column : (256 * slot + 16 + o) % 8 ≡ o % 8 = omega arith in
        let at : place + (2 + o / 8) ≡ place + 2 + o / 8 = omega arith in
        rw (number, column) (ap (λ w. byte_of w (o % 8)) (words (2 + o / 8) (omega arith) (omega (arith, low, short)) ∙ ap (word image) at) ∙ has.bytes o low)

-- an inode stays where it is, beside further stores
pub inode_stays : (version : Version) (old new : Memory) (at start count most kind : ℕ) → AddsMay (AnyAt (IsWithin start count)) 0 most old new → ((p : ℕ) → at ≤ p → p < at + 8 → IsWithin start count p → ⊥) →
    HasInodeAt version (current_words old) at kind → HasInodeAt version (current_words new) at kind
inode_stays version old new at start count most kind stores apart has = record {
  kind_is = may_frame (AnyAt (IsWithin start count)) 0 most old new stores at (λ v inside. apart at (omega arith) (omega arith) inside) ∙ has.kind_is;
  root = may_frame (AnyAt (IsWithin start count)) 0 most old new stores (at + 1) (λ v inside. apart (at + 1) (omega arith) (omega arith) inside) ∙ has.root;
  size = may_frame (AnyAt (IsWithin start count)) 0 most old new stores (at + 2) (λ v inside. apart (at + 2) (omega arith) (omega arith) inside) ∙ has.size;
  attributes = λ f low high.
      let few : f < 8 = lt_of_lt_of_le high (fields_most version) in
      may_frame (AnyAt (IsWithin start count)) 0 most old new stores (at + f) (λ v inside. apart (at + f) (omega arith) (omega (arith, few)) inside) ∙ has.attributes f low high;
}

-- the new inode is read
pub new_inode : (old new : Image) → IsWellFormed old → SameTrees old new → (j at : ℕ) (kind : Kind) → IsFreeInode old j → ContentStandsAt old 0 (8 * j + 0) at → HasInodeAt (version_of old) new at (kind_word kind) → IsNewInode new j (kind_word kind)
new_inode old new wf trees j at kind free stands has = record {
  free = free_inode_after old new wf trees.prepared j free;
  kind_is = kind_word-of new j (omega (arith, free.low)) ∙ word_kept old new trees 0 (8 * j + 0) at inode_file (below 0 (omega arith)) stands ∙ has.kind_is;
  least = kind_least kind;
  most = kind_most kind;
  empty = size_word-of new j (omega (arith, free.low))
      ∙ word_kept old new trees 0 (8 * j + 2) (at + 2) inode_file (below 2 (omega arith)) (row_stands old 0 (8 * j + 0) 2 (8 * j + 2) at (at + 2) (omega arith) (omega arith) (omega arith) stands)
      ∙ has.size;
  attributes = attributes_none new j (λ i f is low high.
      let few : f < 8 = lt_of_lt_of_le (subst (λ v. f < inode_fields v) same_version high) (fields_most (version_of old)) in
      ap (λ t. inode_word new t f) (sym is)
      ∙ word_kept old new trees 0 (8 * j + f) (at + f) inode_file (below f few) (row_stands old 0 (8 * j + 0) f (8 * j + f) at (at + f) (omega arith) (omega arith) (omega (arith, few)) stands)
      ∙ has.attributes f low (subst (λ v. f < inode_fields v) same_version high));
}
  where
    same_version : version_of new ≡ version_of old
    same_version = version_stays old new trees.prepared.meaning.trees.has_magic

    below : (f : ℕ) → f < 8 → 4096 * ((8 * j + f) / 512) < size_of old 0
    below f few = let high : j < inode_count old = free.high in omega (arith, high, few)
