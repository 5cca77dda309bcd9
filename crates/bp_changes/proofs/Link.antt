-- A store of an inode number into an empty entry adds that name to its directory, and changes nothing else. The inode that the
-- entry names was free, or it is a file that has a name.
use Rattle.std.proofs.Common.{◌≡◌, ◌≢◌, ◌⊎◌, ℕ, ◌+◌, ◌*◌, ◌/◌, ◌<◌, ◌≤◌, length, sym, ◌∙◌, ap, ap₂, subst₂, arith, inl, inr}
use Rattle.bp_limits.specs.CallLimits.{max_name}
use Rattle.bp_layout.specs.Words.{Image}
use Rattle.bp_layout.specs.Inode.{attributes_of, kind_of, size_of, inode_count}
use Rattle.bp_layout.specs.Directory.{EntryNames, name_at, ino_at, entry_word, entry_count}
use Rattle.bp_layout.specs.Paths.{IsName}
use Rattle.bp_layout.specs.Reached.{IsReached}
use Rattle.bp_layout.specs.Reached.IsReached.{inode_file}
use Rattle.bp_layout.specs.WellFormed.{IsWellFormed}
use Rattle.bp_changes.specs.Effects.{SetsIno, AddsNames, LinksName, IsNewEntry}
use Rattle.bp_changes.proofs.GainsEntry.{CanTake, GainsEntry, gains_adds, gains_links, takes_inode}
use Rattle.bp_layout.proofs.Reached.{reached-in_file}
use Rattle.bp_changes.proofs.SameShown.{name_by_words, this_or}

-- An empty entry of a directory, whose name is new there: its inode number is what it lacks.
pub record AwaitsIno (old : Image) (i s : ℕ) : Type 0 where
  pub reached : IsReached old i
  pub directory : kind_of old i ≡ 2
  pub in_size : s < entry_count old i
  pub empty : ino_at old i s ≡ 0
  pub name : IsName (name_at old i s)
  pub new_name : (r k : ℕ) → EntryNames old i r k → name_at old i r ≢ name_at old i s

module _ (old new : Image) (wf : IsWellFormed old) (i s j : ℕ) (can : AwaitsIno old i s) (some : j ≢ 0) (adds : SetsIno old new i s j) where
  in_inodes : (t : ℕ) → IsReached old t → t < inode_count old
  in_inodes = reached-in_file old wf

  pub kinds_stay : (t : ℕ) → t < inode_count old → kind_of new t ≡ kind_of old t
  kinds_stay = adds.kind

  attributes_stay : (t : ℕ) → t < inode_count old → attributes_of new t ≡ attributes_of old t
  attributes_stay = adds.attributes

  sizes_stay : (t : ℕ) → t < inode_count old → size_of new t ≡ size_of old t
  sizes_stay = adds.size

  ino_here : ino_at new i s ≡ j
  ino_here = adds.ino

  entry_word_stays : (u r f : ℕ) → IsReached old u → kind_of old u ≡ 2 → r < entry_count old u → f < 32 → ((i ≡ u) → (32 * s + 0 ≡ 32 * r + f) → ⊥) →
      entry_word new u r f ≡ entry_word old u r f
  entry_word_stays = adds.entry

  ino_stays : (u r : ℕ) → IsReached old u → kind_of old u ≡ 2 → r < entry_count old u → ((i ≡ u) → (s ≡ r) → ⊥) → ino_at new u r ≡ ino_at old u r
  ino_stays u r reached kind in_size other = entry_word_stays u r 0 reached kind in_size (omega arith) (λ e same. other e (omega (arith, same)))

  name_stays : (u r : ℕ) → IsReached old u → kind_of old u ≡ 2 → r < entry_count old u → length (name_at old u r) ≤ max_name → name_at new u r ≡ name_at old u r
  name_stays u r reached kind in_size few =
      name_by_words old new u r few (λ f some low. entry_word_stays u r f reached kind in_size low (λ e same. omega (arith, same, some, low)))

  count_stays : (u : ℕ) → u < inode_count old → entry_count new u ≡ entry_count old u
  count_stays u in_file = ap (λ n. n / 256) (sizes_stay u in_file)

  names_cases : (u r k : ℕ) → IsReached old u → EntryNames new u r k → IsNewEntry i s j u r k ⊎ EntryNames old u r k
  names_cases u r k reached n = go (this_or u r i s)
    where
      in_old : r < entry_count old u
      in_old = rw (count_stays u (in_inodes u reached)) at n.in_size

      is_directory : kind_of old u ≡ 2
      is_directory = sym (kinds_stay u (in_inodes u reached)) ∙ n.directory

      other : ((i ≡ u) → (s ≡ r) → ⊥) → EntryNames old u r k
      other apart = record { directory = is_directory; in_size = in_old; ino = sym (ino_stays u r reached is_directory in_old apart) ∙ n.ino; not_empty = n.not_empty }

      go : ((u ≡ i) × (r ≡ s)) ⊎ ((u ≡ i) → (r ≡ s) → ⊥) → IsNewEntry i s j u r k ⊎ EntryNames old u r k
      go (inl at) = inl (record { directory = at.0; slot = at.1; inode = sym n.ino ∙ ap₂ (ino_at new) at.0 at.1 ∙ ino_here })
      go (inr apart) = inr (other (λ x y. apart (sym x) (sym y)))

  new_names : EntryNames new i s j
  new_names = record {
    directory = kinds_stay i (in_inodes i can.reached) ∙ can.directory;
    in_size = rw (count_stays i (in_inodes i can.reached)) can.in_size;
    ino = ino_here;
    not_empty = some;
  }

  names_stay : (u r k : ℕ) → IsReached old u → EntryNames old u r k → EntryNames new u r k
  names_stay u r k reached n = record {
    directory = kinds_stay u (in_inodes u reached) ∙ n.directory;
    in_size = rw (count_stays u (in_inodes u reached)) n.in_size;
    ino = ino_stays u r reached n.directory n.in_size (λ e f. n.not_empty (sym n.ino ∙ subst₂ (λ x y. ino_at old x y ≡ 0) e f can.empty)) ∙ n.ino;
    not_empty = n.not_empty;
  }

  pub name_of_new : name_at new i s ≡ name_at old i s
  name_of_new = name_stays i s can.reached can.directory can.in_size can.name.short

  file_stays : size_of new 0 ≡ size_of old 0
  file_stays = sizes_stay 0 (in_inodes 0 inode_file)

  entry_gains : GainsEntry old new i s j
  entry_gains = record {
    reached = can.reached;
    trees = adds.trees;
    kind = λ u r. kinds_stay u (in_inodes u r);
    attributes = λ u r. attributes_stay u (in_inodes u r);
    file_size = λ u r kind. sizes_stay u (in_inodes u r);
    directory_size = λ u r kind. rw (sizes_stay u (in_inodes u r)) (wf.directory_sizes u r kind);
    slots = λ u r q kind low. inl (rw (count_stays u (in_inodes u q)) at low);
    back = names_cases;
    stay = names_stay;
    entry = new_names;
    same_names = λ u r k q n. name_stays u r q n.directory n.in_size (wf.names u r k q n).short;
    name = rw name_of_new can.name;
    new_name = λ r k n. rw name_of_new (can.new_name r k n);
    bytes = adds.bytes;
  }

  pub entry_adds : CanTake old j → AddsNames old new i s j
  entry_adds free = gains_adds old new i s j entry_gains (takes_inode old new j wf free file_stays (kinds_stay j free.in_file) (attributes_stay j free.in_file) (sizes_stay j free.in_file))

  pub entry_links : IsReached old j → kind_of old j ≡ 1 → LinksName old new i s j
  entry_links there file = gains_links old new i s j entry_gains there file file_stays
