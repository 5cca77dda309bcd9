-- One name more, over what nobody sees.
use Rattle.std.proofs.Common.{◌≡◌, ◌⊎◌, ℕ, zero, suc, ◌<◌, ◌≤◌, sym, ◌∙◌, ap₂, subst, arith, inl, inr, le_trans, unwrap_or}
use Rattle.std.proofs.lemmas.Bool.{cases_lt}
use Rattle.bp_layout.specs.Words.{Image}
use Rattle.bp_layout.specs.Fields.{kind_word}
use Rattle.bp_layout.specs.Directory.{EntryNames, empty_slot, entry_count}
use Rattle.bp_layout.specs.Paths.{Name}
use Rattle.bp_layout.specs.Free.{IsFreeInode}
use Rattle.bp_layout.specs.Inode.{kind_of, size_of, inode_count}
use Rattle.bp_layout.specs.Reached.{IsReached}
use Rattle.bp_layout.specs.WellFormed.{IsWellFormed}
use Rattle.bp_layout.specs.declared.fields.Kind.{Kind}
use Rattle.bp_changes.specs.Effects.{AddsNames, IsNewEntry, LinksName}
use Rattle.bp_changes.specs.SameMeaning.{SameMeaning}
use Rattle.bp_changes.proofs.AddsNames.{linked_well_formed}
use Rattle.bp_changes.proofs.GainsEntry.{GainsEntry, adds_gain, gains_adds, gains_links, links_gain}
use Rattle.bp_changes.proofs.ReachedOn.{names_on, reached_on}
use Rattle.bp_changes.proofs.SameMeaning.{reached-back}
use Rattle.bp_layout.proofs.View.{SameDirectories}
use Rattle.bp_calls.specs.Created.{EntersName, LinksEntry}
use Rattle.bp_calls.proofs.EnteredLaws.{Enters, EntersLink}
use Rattle.bp_calls.proofs.AfterLaws.{directories_over, empty_slot_over}

pub enters_well_formed : (old new : Image) → IsWellFormed old → (i s j kind : ℕ) (name : Name) → Enters old new i s j name kind → IsWellFormed new
enters_well_formed old new wf i s j kind name enters = linked_well_formed old new wf i s j enters.adds

-- ---- the same over what nobody sees

-- The image in the middle means the same as the first. Its inode file may have grown.
module _ (old mid new : Image) (wf : IsWellFormed old) (same : SameMeaning old mid) where
  on : (t : ℕ) → IsReached old t → IsReached mid t
  on = reached_on old mid same

  alike : SameDirectories old mid
  alike = directories_over old mid wf same

  names_before : (u r k : ℕ) → IsReached old u → EntryNames mid u r k → EntryNames old u r k
  names_before u r k reached n =
      let kind : kind_of old u ≡ 2 = sym (same.kind u reached) ∙ n.directory in
      let low : r < entry_count old u = rw (alike.count u reached kind) at n.in_size in
      record { directory = kind; in_size = low; ino = sym (same.ino u r reached kind low) ∙ n.ino; not_empty = n.not_empty }

  file_stays : (u : ℕ) → IsReached old u → kind_of old u ≡ 1 → size_of mid u ≡ size_of old u
  file_stays zero reached kind = absurd (omega (arith, kind))
  file_stays (suc u) reached kind = same.size u reached

  pub gains_over : (i s j : ℕ) → GainsEntry mid new i s j → GainsEntry old new i s j
  gains_over i s j gains = record {
    reached = here;
    trees = record {
      whole = gains.trees.whole ∙ same.trees.whole;
      has_magic = gains.trees.has_magic ∙ same.trees.has_magic;
      counted = gains.trees.counted ∙ same.trees.counted;
      low = λ t r. gains.trees.low t (on t r);
      sound = λ t r. gains.trees.sound t (on t r);
      apart = λ t u b r q. gains.trees.apart t u b (on t r) (on u q);
      full_inode_file = gains.trees.full_inode_file;
      full_directories = λ u r kind. gains.trees.full_directories u (on u r) (same.kind u r ∙ kind);
    };
    kind = λ u r. gains.kind u (on u r) ∙ same.kind u r;
    attributes = λ u r. gains.attributes u (on u r) ∙ same.attributes u r;
    file_size = λ u r kind. gains.file_size u (on u r) (same.kind u r ∙ kind) ∙ file_stays u r kind;
    directory_size = λ u r kind. gains.directory_size u (on u r) (same.kind u r ∙ kind);
    slots = λ u r q kind low. slots u r (alike.count u q kind) (gains.slots u r (on u q) (same.kind u q ∙ kind) low);
    back = λ u r k reached n. back u r k reached (gains.back u r k (on u reached) n);
    stay = λ u r k reached n. gains.stay u r k (on u reached) (names_on old mid same u r k reached n);
    entry = gains.entry;
    same_names = λ u r k reached n. gains.same_names u r k (on u reached) (names_on old mid same u r k reached n) ∙ alike.name u r k reached n;
    name = gains.name;
    new_name = λ r k n clash. gains.new_name r k (names_on old mid same i r k here n) (alike.name i r k here n ∙ clash);
    bytes = λ u o r kind low. gains.bytes u o (on u r) (same.kind u r ∙ kind) (rw (file_stays u r kind) low) ∙ same.bytes u o r kind low;
  }
    where
      here : IsReached old i
      here = reached-back old mid wf same i gains.reached

      slots : (u r : ℕ) → entry_count mid u ≡ entry_count old u → (r < entry_count mid u) ⊎ ((u ≡ i) × (r ≡ s)) → (r < entry_count old u) ⊎ ((u ≡ i) × (r ≡ s))
      slots u r count (inl low) = inl (subst (λ n. r < n) count low)
      slots u r count (inr at) = inr at

      back : (u r k : ℕ) → IsReached old u → IsNewEntry i s j u r k ⊎ EntryNames mid u r k → IsNewEntry i s j u r k ⊎ EntryNames old u r k
      back u r k reached (inl fresh) = inl fresh
      back u r k reached (inr n) = inr (names_before u r k reached n)

  pub adds_over : (i s j : ℕ) → AddsNames mid new i s j → AddsNames old new i s j
  adds_over i s j adds = gains_adds old new i s j (gains_over i s j (adds_gain mid new i s j adds)) (record {
    fresh = λ r. adds.fresh (on j r);
    inode_bytes = le_trans same.inodes adds.inode_bytes;
    inode_blocks = adds.inode_blocks;
    in_file = adds.in_file;
    new_kind = adds.new_kind;
    new_size = adds.new_size;
    new_attributes = adds.new_attributes;
  })

  -- where the inode file did not grow
  pub links_over : (i s j : ℕ) → size_of mid 0 ≡ size_of old 0 → LinksName mid new i s j → LinksName old new i s j
  links_over i s j same_file links =
      gains_links old new i s j (gains_over i s j (links_gain mid new i s j links)) there (sym (same.kind j there) ∙ links.is_file) (links.inode_bytes ∙ same_file)
    where
      there : IsReached old j
      there = reached-back old mid wf same j links.other

  pub enters_over : (i s j : ℕ) (name : Name) (kind : Kind) → IsFreeInode old j → s ≡ unwrap_or (empty_slot old i) (entry_count old i) → Enters mid new i s j name (kind_word kind) →
      EntersName i name kind old new
  enters_over i s j name kind free slot enters = record {
    slot = s;
    inode = j;
    was_free = inl free;
    slot_is = slot;
    adds = adds_over i s j enters.adds;
    name_is = enters.spelled;
    kind_is = enters.kind_is;
  }

  pub links_entry_over : (i s j : ℕ) (name : Name) → s ≡ unwrap_or (empty_slot old i) (entry_count old i) → size_of mid 0 ≡ size_of old 0 → EntersLink mid new i s j name → LinksEntry i name j old new
  links_entry_over i s j name slot same_file links = record { slot = s; slot_is = slot; adds = links_over i s j same_file links.adds; name_is = links.spelled }

  -- so a name that came into the image in the middle came into the first
  pub entered_over : (i : ℕ) (name : Name) (kind : Kind) → kind_of old i ≡ 2 → EntersName i name kind mid new → EntersName i name kind old new
  entered_over i name kind directory enters = record {
    slot = enters.slot;
    inode = enters.inode;
    was_free = was enters.was_free (cases_lt enters.inode (inode_count old));
    slot_is = enters.slot_is ∙ ap₂ (λ o n. unwrap_or o n) (empty_slot_over old mid wf same i here directory) (alike.count i here directory);
    adds = adds_over i enters.slot enters.inode enters.adds;
    name_is = enters.name_is;
    kind_is = enters.kind_is;
  }
    where
      here : IsReached old i
      here = reached-back old mid wf same i enters.adds.reached

      was : IsFreeInode mid enters.inode ⊎ (inode_count mid ≤ enters.inode) → (enters.inode < inode_count old) ⊎ (inode_count old ≤ enters.inode) → IsFreeInode old enters.inode ⊎ (inode_count old ≤ enters.inode)
      was before (inr past_end) = inr past_end
      was (inl free) (inl low) = inl (record { low = free.low; high = low; free = λ reached. free.free (on enters.inode reached) })
      was (inr far) (inl low) = absurd (let more : size_of old 0 ≤ size_of mid 0 = same.inodes in omega (arith, low, far, more))
