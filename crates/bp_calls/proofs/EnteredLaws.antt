-- The inode number comes into a ready entry: the directory gains the name, and no tree changes its blocks.
use Rattle.std.proofs.Common.{◌≡◌, ◌≢◌, ℕ, ◌+◌, ◌*◌, ◌/◌, ◌%◌, ◌<◌, ◌≤◌, length, set, Option, None, Some, refl, sym, ◌∙◌, ap, arith}
use Rattle.std.proofs.lemmas.List.FromFn.{length-map-range_with_len}
use Rattle.bp_layout.specs.Words.{Image, byte_of}
use Rattle.bp_layout.specs.Tree.{byte}
use Rattle.bp_layout.specs.Inode.{kind_of, size_of, ContentStandsAt}
use Rattle.bp_layout.specs.Directory.{EntryNames, word_in, name_in, name_at, slot_named, lookup_in}
use Rattle.bp_layout.specs.Paths.{Name, IsName}
use Rattle.bp_layout.specs.Reached.{IsReached}
use Rattle.bp_layout.specs.Reached.IsReached.{inode_file}
use Rattle.bp_layout.specs.WellFormed.{IsWellFormed}
use Rattle.bp_layout.proofs.Finding.{map-same}
use Rattle.bp_layout.proofs.Reached.{reached-in_file}
use Rattle.bp_layout.proofs.LookupLaws.{Shows, lookup_in-found}
use Rattle.bp_changes.specs.Effects.{AddsNames, KeepsBlocks, LinksName, SetsIno}
use Rattle.bp_changes.proofs.Link.{AwaitsIno, entry_adds, entry_links, name_of_new, kinds_stay}
use Rattle.bp_changes.proofs.LinkInPlace.{store_adds, store_blocks}
use Rattle.bp_calls.specs.Entered.{IsNewInode, IsReadyEntry}

-- The second image has one more name: that of inode j, of this kind, at slot s of directory i.
pub record Enters (old new : Image) (i s j : ℕ) (name : Name) (kind : ℕ) : Type 0 where
  pub adds : AddsNames old new i s j
  pub spelled : name_at new i s ≡ name
  pub kind_is : kind_of new j ≡ kind

-- the same of one more name of file j
pub record EntersLink (old new : Image) (i s j : ℕ) (name : Name) : Type 0 where
  pub adds : LinksName old new i s j
  pub spelled : name_at new i s ≡ name

-- a name that no entry has
pub not_named : (image : Image) → IsWellFormed image → (i : ℕ) (name : Name) → IsReached image i → slot_named image i name ≡ None →
    (r k : ℕ) → EntryNames image i r k → name_at image i r ≢ name
not_named image wf i name reached none r k n same =
    let shows : Shows image i name k = record { slot = r; entry = n; spelled = same } in
    let found : lookup_in image i name ≡ Some k = lookup_in-found image i k name shows (λ q l m e. wf.names_once i q r l k reached m n (e ∙ sym same)) in
    let nothing : lookup_in image i name ≡ None = rw (n.directory, none) refl in
    let clash : ◌≡◌ {A = Option ℕ} None (Some k) = sym nothing ∙ found in
    absurd (cc)

-- a name is the same where the words after the inode number are
pub name_same : (old new : Image) (r q s : ℕ) → length (name_in old r s) ≤ 240 → ((f : ℕ) → 1 ≤ f → f < 32 → word_in new q s f ≡ word_in old r s f) →
    name_in new q s ≡ name_in old r s
name_same old new r q s few same =
    let short : word_in old r s 1 ≤ 240 = (rw length-map-range_with_len at few) in
    let byte_same : (o : ℕ) → o < 240 → byte new q (256 * s + 16 + o) ≡ byte old r (256 * s + 16 + o) =
    λ o low.
    let number : (256 * s + 16 + o) / 8 ≡ 32 * s + (2 + o / 8) = omega arith in
    rw number (ap (λ w. byte_of w ((256 * s + 16 + o) % 8)) (same (2 + o / 8) (omega arith) (omega (arith, low)))) in
    rw (same 1 (omega arith) (omega arith)) (map-same _ _ 0 (word_in old r s 1) (λ o low high. byte_same o (omega (arith, high, short))))

pub directory_inode : (image : Image) (i : ℕ) → kind_of image i ≡ 2 → i ≢ 0
directory_inode image i kind e = let two : kind_of image 0 ≡ 2 = (rw e at kind) in absurd (omega (arith, two))

pub file_inode : (image : Image) (j : ℕ) → kind_of image j ≡ 1 → j ≢ 0
file_inode image j kind e = let one : kind_of image 0 ≡ 1 = (rw e at kind) in absurd (omega (arith, one))

-- ---- the store

module _ (old : Image) (wf : IsWellFormed old) (i s j place : ℕ) (name : Name) (ready : IsReadyEntry old i s name)
    (form : IsName name) (missing : slot_named old i name ≡ None) (stands : ContentStandsAt old i (32 * s + 0) place) where
  ready_awaits : AwaitsIno old i s
  ready_awaits = record {
    reached = ready.reached;
    directory = ready.directory;
    in_size = ready.slot;
    empty = ready.empty;
    name = rw ready.spelled form;
    new_name = λ r k n same. not_named old wf i name ready.reached missing r k n (same ∙ ready.spelled);
  }

  stored : SetsIno old (set old place j) i s j
  stored = store_adds old wf i s j place ready_awaits stands

  pub entered_file : size_of (set old place j) 0 ≡ size_of old 0
  entered_file = stored.size 0 (reached-in_file old wf 0 inode_file)

  pub entered_blocks : KeepsBlocks old (set old place j)
  entered_blocks = store_blocks old wf i s j place ready.reached ready.directory ready.slot stands

  pub entered : (kind : ℕ) → IsNewInode old j kind → Enters old (set old place j) i s j name kind
  entered kind fresh = record {
    adds = entry_adds old (set old place j) wf i s j ready_awaits some stored (record { fresh = fresh.free.free; in_file = fresh.free.high; kind = rw fresh.kind_is (fresh.least, fresh.most); nothing = fresh.empty; attributes = fresh.attributes });
    spelled = name_of_new old (set old place j) wf i s j ready_awaits some stored ∙ ready.spelled;
    kind_is = kinds_stay old (set old place j) wf i s j ready_awaits some stored j fresh.free.high ∙ fresh.kind_is;
  }
    where
      some : j ≢ 0
      some none = let low : 2 ≤ j = fresh.free.low in omega (arith, none, low)

  pub linked : IsReached old j → kind_of old j ≡ 1 → EntersLink old (set old place j) i s j name
  linked there file = record {
    adds = entry_links old (set old place j) wf i s j ready_awaits (file_inode old j file) stored there file;
    spelled = name_of_new old (set old place j) wf i s j ready_awaits (file_inode old j file) stored ∙ ready.spelled;
  }
