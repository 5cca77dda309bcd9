-- What the steps of a thaw ask for, and what they make together.
use Rattle.std.proofs.Common.{◌≡◌, ℕ, ◌+◌, ◌*◌, ◌/◌, ◌<◌, ◌≤◌, List, [], ◌∷◌, ◌++◌, map, length, Bool, true, false, refl, sym, ◌∙◌, ap, subst, arith, inl, inr}
use Rattle.std.proofs.lemmas.List.{length-map, nil_from_length}
use Rattle.pm_epochs.specs.declared.event.Event.TheVariants.{Barrier}
use Rattle.pm_epochs.specs.May.{AnyAt, links_of}
use Rattle.pm_epochs.proofs.CrashLaws.{quiet_none}
use Rattle.pm_epochs.proofs.PieceLaws.{IsPiece-more, IsPiece-none}
use Rattle.pm_region.specs.Memory.{Memory, Adds, current_words, room_in}
use Rattle.pm_region.proofs.MayLaws.{room_after_may}
use Rattle.pm_region.proofs.MemoryLaws.{adds_none}
use Rattle.bp_free.specs.Set.{Set, has, members}
use Rattle.bp_layout.specs.Inode.{size_of}
use Rattle.bp_layout.specs.Members.{AreApart, Has}
use Rattle.bp_layout.specs.Same.{Same}
use Rattle.bp_layout.specs.WordPaths.{WordPath, address}
use Rattle.bp_layout.specs.Words.{Image}
use Rattle.bp_layout.proofs.SameLaws.{same_self}
use Rattle.bp_changes.specs.Trail.{Trail, place_on, word_on}
use Rattle.bp_changes.specs.Forest.{IsTreePointer}
use Rattle.bp_changes.proofs.ForestLaws.{skeleton}
use Rattle.bp_changes.proofs.FreeSets.{wf_forest}
use Rattle.bp_changes.proofs.PerformsLaws.{takes_none}
use Rattle.bp_cow.specs.Committed.{IsCommitted}
use Rattle.bp_cow.specs.Counting.{IsTreeWord}
use Rattle.bp_thaw.specs.Copies.{Copies, blocks_of, is_copied, links_among, places_of}
use Rattle.bp_layout.specs.Thaw.{thawed_on}
use Rattle.bp_thaw.specs.Prefixes.{places_found}
use Rattle.bp_thaw.specs.Steps.{AreInSnapshot, ArePlacesOf, CanFillCopies, FillsCopies, InBlocks, TakesAll}
use Rattle.bp_thaw.specs.Thaws.{CanThaw, Thaws}
use Rattle.bp_thaw.proofs.Clear.{clear, places_are, places_once, trails_in_snapshot, trails_number, trails_of}
use Rattle.bp_thaw.proofs.Found.{found_is}
use Rattle.bp_thaw.proofs.ThawEnd.{copied_loose, copy-place, copy-source, has_words, links_few, loose_same, shape, thaws}
use Rattle.bp_thaw.proofs.MovedBlocks.{shape_stays}

-- the places of links are those of copies
links_places : (image : Image) (every copies : Copies) (pair : ℕ × ℕ) → Has (links_among image every copies) pair → (c : ℕ × ℕ) × Has copies c × (pair.0 ≡ c.0)
links_places image every [] pair has = absurd has
links_places image every (c ∷ copies) pair has = go (is_copied image every (c.0 / 512)) refl (λ later. links_places image every copies pair later)
  where
    go : (x : Bool) → is_copied image every (c.0 / 512) ≡ x → (Has (links_among image every copies) pair → (d : ℕ × ℕ) × Has copies d × (pair.0 ≡ d.0)) → (d : ℕ × ℕ) × Has (c ∷ copies) d × (pair.0 ≡ d.0)
    go true e rest = let found = rest (rw e at has) in (found.0, inr found.1, found.2)
    go false e rest = elim (rw e at has) [
      | inl here ↦ (c, inl refl, ap (λ (x : ℕ × ℕ). x.0) (sym here))
      | inr later ↦ let found = rest later in (found.0, inr found.1, found.2)
    ]

-- ---- nothing is in the snapshot on the ways

module _ (in_snapshot : ℕ → Bool) (paths : List WordPath) (memory : Memory) (blocks : Set) (can : CanThaw in_snapshot paths memory blocks) where
  abbrev image : Image
  image = current_words memory

  stays : IsCommitted image image (IsTreePointer image (size_of image)) (IsTreeWord image (size_of image)) (λ p. ⊥) (word_on image)
  stays = record {
    whole = refl;
    superblock = λ place low other. refl;
    skeleton = skeleton image (size_of image) (wf_forest image can.well_formed) can.well_formed.formatted.sized.whole;
    kept = λ p pointer none. refl;
    bits = λ p pointer. refl;
    fresh = λ p pointer none. absurd none;
    words = λ p slot pointer low none content. refl;
    decide = λ p. inr (λ none. none);
    pointers = λ p none. absurd none;
  }

  pub thaws_nothing : thawed_on image in_snapshot paths ≡ [] → Thaws in_snapshot paths memory memory blocks blocks
  thaws_nothing none = record {
    taken = [];
    adds = record {
      part = record {
        added = [];
        adds = adds_none memory;
        quiet = quiet_none Same image (same_self image can.well_formed);
        closed = tt;
        piece = IsPiece-more 0 0 2 0 [] (omega arith) (omega arith) IsPiece-none;
      };
      takes = takes_none image in_snapshot;
    };
    number = sym (ap length none);
    from = tt;
    shape = shape_stays image image can.well_formed (λ p. ⊥) stays (λ p none. absurd none);
    clear = none;
    live = λ b is. inl is;
    used = λ b none. absurd none;
    stay = λ b is. inl is;
    free = can.free;
  }

-- ---- some are

module _ (in_snapshot : ℕ → Bool) (paths : List WordPath) (first : Memory) (before : Set) (can : CanThaw in_snapshot paths first before) (places : List ℕ)
    (found : places ≡ places_found (current_words first) in_snapshot paths) where
  abbrev thawed : List WordPath
  thawed = thawed_on (current_words first) in_snapshot paths

  -- the places that are found are those of the pointers that are thawed
  found_thawed : places ≡ map (address (current_words first)) thawed
  found_thawed = found ∙ ap (map (address (current_words first))) (found_is (current_words first) can.well_formed in_snapshot paths can.ways)

  number_found : length places ≡ length thawed
  number_found = ap length found_thawed ∙ length-map thawed (address (current_words first))

  -- none is found, so none is thawed
  pub none_found : length places ≡ 0 → thawed_on (current_words first) in_snapshot paths ≡ []
  none_found none = nil_from_length thawed (sym number_found ∙ none)

  -- there is a free block for each
  pub enough : length places ≤ length (members before)
  enough = rw number_found can.enough

-- a block is taken for each pointer that is thawed
pub record IsCopying (in_snapshot : ℕ → Bool) (paths : List WordPath) (first : Memory) (before after : Set) (places : List ℕ) (copies : Copies) : Type 0 where
  pub can : CanThaw in_snapshot paths first before
  pub found : places ≡ places_found (current_words first) in_snapshot paths
  pub of : places_of copies ≡ places
  pub takes : TakesAll before after (blocks_of copies)

module _ (in_snapshot : ℕ → Bool) (paths : List WordPath) (first : Memory) (before after : Set) (places : List ℕ) (copies : Copies)
    (copying : IsCopying in_snapshot paths first before after places copies) where
  open copying use {can, found, of, takes}

  abbrev old : Image
  old = current_words first

  abbrev trails : List Trail
  trails = trails_of (thawed_on old in_snapshot paths)

  is_thawed : places ≡ map (address old) (thawed_on old in_snapshot paths)
  is_thawed = found_thawed in_snapshot paths first before can places found

  are_in_snapshot : AreInSnapshot old in_snapshot (trails_of (thawed_on (current_words first) in_snapshot paths))
  are_in_snapshot = trails_in_snapshot old can.well_formed in_snapshot paths can.ways

  at : places_of copies ≡ map (place_on (current_words first)) (trails_of (thawed_on (current_words first) in_snapshot paths))
  at = of ∙ is_thawed ∙ places_are old can.well_formed in_snapshot paths can.ways

  apart : AreApart (places_of copies)
  apart = subst AreApart (sym (of ∙ is_thawed)) (places_once old can.well_formed in_snapshot paths can.ways)

  number : length copies ≡ length (thawed_on (current_words first) in_snapshot paths)
  number = sym (length-map copies (λ (c : ℕ × ℕ). c.0)) ∙ ap length of ∙ number_found in_snapshot paths first before can places found

  pub can_fill_all : CanFillCopies copies first
  can_fill_all = record {
    places = apart;
    blocks = takes.once;
    inside = λ c here. (copy-place in_snapshot first before after can.well_formed can.free trails are_in_snapshot copies at apart takes c here).0;
    outside = λ c here. (copy-place in_snapshot first before after can.well_formed can.free trails are_in_snapshot copies at apart takes c here).1;
    sources = λ c here. (copy-source in_snapshot first before after can.well_formed can.free trails are_in_snapshot copies at apart takes c here).0;
    present = λ c here. (copy-source in_snapshot first before after can.well_formed can.free trails are_in_snapshot copies at apart takes c here).2;
    apart = λ c here. (copy-source in_snapshot first before after can.well_formed can.free trails are_in_snapshot copies at apart takes c here).1;
    not_null = λ b here. (can.free.free b (takes.were b here)).low;
    in_range = λ b here. (can.free.free b (takes.were b here)).high;
    room = let room = can.room in omega (arith, room, number);
  }

  module _ (mid : Memory) (fills : FillsCopies copies first mid) where
    whole : length (current_words mid) ≡ length (current_words first)
    whole = (has_words in_snapshot first before after can.well_formed can.free trails are_in_snapshot copies at apart takes mid fills).whole

    pub places_mid : ArePlacesOf (current_words mid) copies
    places_mid c here = subst (λ n. c.0 < n) (sym whole) (can_fill_all.inside c here)

    pub links_mid : ArePlacesOf (current_words mid) (links_among (current_words mid) copies copies)
    links_mid pair here = let c = links_places (current_words mid) copies copies pair here in subst (λ n. n < length (current_words mid)) (sym c.2) (places_mid c.0 c.1)

    pub room_mid : length (links_among (current_words mid) copies copies) + 2 ≤ room_in mid
    room_mid =
        let room = can.room in
        omega (arith, room, number, links_few (current_words mid) copies copies, room_after_may (AnyAt (InBlocks (blocks_of copies))) 0 (512 * length copies) first mid fills.part)

    module _ (last : Memory) (adds : Adds mid last (Barrier ∷ links_of (links_among (current_words mid) copies copies) ++ Barrier ∷ [])) where
      pub thaws_all : Thaws in_snapshot paths first last before after
      thaws_all =
          thaws in_snapshot first before after can.well_formed can.free trails are_in_snapshot copies at apart takes mid fills last adds paths (trails_number old can.well_formed in_snapshot paths can.ways)
          (clear old can.well_formed in_snapshot paths can.ways (current_words last) (shape in_snapshot first before after can.well_formed can.free trails are_in_snapshot copies at apart takes mid fills last adds)
          (copied_loose in_snapshot first before after can.well_formed can.free trails are_in_snapshot copies at apart takes mid fills last adds)
          (loose_same in_snapshot first before after can.well_formed can.free trails are_in_snapshot copies at apart takes mid fills last adds))
