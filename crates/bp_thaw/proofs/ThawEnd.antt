-- What the steps of a thaw make together.
use Rattle.std.proofs.Common.{◌≡◌, ◌≢◌, ◌⊎◌, ℕ, suc, ◌+◌, ◌*◌, ◌/◌, ◌<◌, ◌≤◌, List, [], ◌∷◌, ◌++◌, map, length, Bool, true, false, Option, None, Some, refl, sym, ◌∙◌, ap, subst, arith, inl, inr, true≢false, append_assoc, le_of_eq}
use Rattle.std.proofs.lemmas.List.{length-map}
use Rattle.pm_epochs.specs.declared.event.Event.{Event}
use Rattle.pm_epochs.specs.declared.event.Event.TheVariants.{Barrier}
use Rattle.pm_epochs.specs.Log.{StoresTo, words_after}
use Rattle.pm_epochs.specs.May.{AnyAt, AnyOf, EachMay, StoresMay, links_of}
use Rattle.pm_epochs.proofs.MayLaws.{EachMay-stored, StoresMay-append, StoresMay-weaker, quiet_prepared}
use Rattle.pm_epochs.proofs.CrashLaws.{IsClosed-append, IsClosed-barrier, words_after-append}
use Rattle.pm_epochs.proofs.PieceLaws.{IsPiece-append, IsPiece-barrier, IsPiece-links_of, IsPiece-more, StoresTo-prefix}
use Rattle.pm_region.specs.Memory.{Memory, Adds, current_words}
use Rattle.pm_region.proofs.MemoryLaws.{adds_both, current_words-adds}
use Rattle.bp_free.specs.Set.{Set, has}
use Rattle.bp_layout.specs.Free.{AreFreeBlocks}
use Rattle.bp_layout.specs.Inode.{root_of, size_of}
use Rattle.bp_layout.specs.Members.{AreApart, Has}
use Rattle.bp_layout.specs.Reached.{IsFreeBlock, IsLiveBlock, IsReached}
use Rattle.bp_layout.specs.Same.{Same}
use Rattle.bp_layout.specs.Thaw.{thawed_on}
use Rattle.bp_layout.specs.Tree.{HasBlock}
use Rattle.bp_layout.specs.WordPaths.{WordPath}
use Rattle.bp_layout.specs.WellFormed.{IsWellFormed}
use Rattle.bp_layout.specs.Words.{Image, word, block_of, block_count}
use Rattle.bp_layout.proofs.MemberLaws.{each-of, each-as}
use Rattle.bp_layout.proofs.SameLaws.{same_symmetric, same_transitive}
use Rattle.bp_changes.specs.Thawed.{SameShape}
use Rattle.bp_changes.proofs.ReachedOn.{reached_on}
use Rattle.bp_changes.proofs.SameMeaning.{reached-back}
use Rattle.bp_changes.specs.Trail.{Trail, word_on, block_on, place_on, ArePointers, IsPlaced, IsSkeleton, LeadsTo}
use Rattle.bp_changes.specs.Forest.{IsExactSet, IsForest, IsTreePointer}
use Rattle.bp_changes.proofs.ExactSets.{held_led, led_held, unheld_exact}
use Rattle.bp_changes.proofs.ForestLaws.{pointers, skeleton}
use Rattle.bp_changes.proofs.FreeSets.{wf_forest}
use Rattle.bp_changes.proofs.PathTrails.{low-placed}
use Rattle.bp_changes.proofs.Unseen.{same_unseen}
use Rattle.bp_changes.specs.Performs.{AddsTaking, InBlock, IsOpen}
use Rattle.bp_changes.specs.Performs.IsOpen.{in_taken, in_live, at_root}
use Rattle.bp_changes.proofs.PerformsLaws.{same_equivalence}
use Rattle.bp_cow.specs.Committed.{IsCommitted, after_commit}
use Rattle.bp_cow.specs.Counting.{IsTreeWord}
use Rattle.bp_cow.specs.Copies.{pointing_to}
use Rattle.bp_thaw.specs.Linked.{AreThawing, is_turned}
use Rattle.bp_cow.proofs.CommitLaws.{has_led, led_has}
use Rattle.bp_thaw.proofs.Linked.{thawed_words, words_now}
use Rattle.bp_thaw.specs.Copies.{AreMarks, Copies, HasCopies, IsMark, Marks, blocks_of, placed_copies, copy_on, is_copied, links_among, places_of, source_of, turned_word}
use Rattle.bp_thaw.specs.Thaws.{Thaws}
use Rattle.bp_thaw.specs.Steps.{AreInSnapshot, FillsCopies, InBlocks, TakesAll}
use Rattle.bp_thaw.proofs.Marks.{are_copies, block_above, copy_on-has, has-copy_on, placed, places_apart, word-at_place}
use Rattle.bp_thaw.proofs.Filled.{filled_thawing, nothing_stored, outside}
use Rattle.bp_thaw.proofs.MarkAll.{block-marked, copies_marked, mark-from, mark_all, number-marked, once_by, trail-marked}
use Rattle.bp_thaw.proofs.AllStored.{all_are, any_source, any_stored, copies-has, has_copies, linked_thawing, word_mid}
use Rattle.bp_thaw.proofs.MovedBlocks.{same_stays, shape_stays, as_job, empty_job}

bool_clash : (b : Bool) → b ≡ true → b ≡ false → ⊥
bool_clash b one two = absurd (cc)

pair_both : (m n : Trail × ℕ) → m.0 ≡ n.0 → m.1 ≡ n.1 → m ≡ n
pair_both (p, c) (q, d) e f = cc

pub links_few : (image : Image) (all copies : Copies) → length (links_among image all copies) ≤ length copies
links_few image all [] = omega arith
links_few image all (c ∷ copies) = go (is_copied image all (c.0 / 512)) refl (links_few image all copies)
  where
    go : (x : Bool) → is_copied image all (c.0 / 512) ≡ x → length (links_among image all copies) ≤ length copies → length (links_among image all (c ∷ copies)) ≤ suc (length copies)
    go true is rest = rw is (omega (arith, rest))
    go false is rest = rw is (omega (arith, rest))

-- what the stores of the links go to
links_may : (P : ℕ → Type 0) (image : Image) (every copies : Copies) → ((c : ℕ × ℕ) → Has copies c → is_copied image every (c.0 / 512) ≡ false → P c.0) → StoresMay (AnyAt P) (links_of (links_among image every copies))
links_may P image every [] each = tt
links_may P image every (c ∷ copies) each = go (is_copied image every (c.0 / 512)) refl (links_may P image every copies (λ d later none. each d (inr later) none))
  where
    go : (x : Bool) → is_copied image every (c.0 / 512) ≡ x → StoresMay (AnyAt P) (links_of (links_among image every copies)) → StoresMay (AnyAt P) (links_of (links_among image every (c ∷ copies)))
    go true is rest = rw is rest
    go false is rest = rw is (each c (inl refl) is, rest)

module _ (in_snapshot : ℕ → Bool) (first : Memory) (before after : Set) (wf : IsWellFormed (current_words first)) (free : AreFreeBlocks (current_words first) in_snapshot (has before))
    (trails : List Trail) (found : AreInSnapshot (current_words first) in_snapshot trails) (copies : Copies) (at : places_of copies ≡ map (place_on (current_words first)) trails) (apart : AreApart (places_of copies))
    (takes : TakesAll before after (blocks_of copies)) where
  abbrev old : Image
  old = current_words first

  abbrev Pointer : Trail → Type 0
  Pointer = IsTreePointer old (size_of old)

  forest : IsForest old (size_of old)
  forest = wf_forest old wf

  are : ArePointers Pointer
  are = pointers old (size_of old) forest

  bones : IsSkeleton old Pointer
  bones = skeleton old (size_of old) forest wf.formatted.sized.whole

  some : 0 < block_count old
  some = let least = wf.formatted.sized.at_least in omega (arith, least)

  exact : IsExactSet old Pointer in_snapshot (has before)
  exact = unheld_exact old (size_of old) forest in_snapshot (has before) free

  abbrev marks : Marks
  marks = mark_all trails copies

  marked : placed_copies old marks ≡ copies
  marked = copies_marked old trails copies at

  copy-mark : (m : Trail × ℕ) → Has marks m → Has copies (place_on old m.0, m.1)
  copy-mark m here = subst (λ cs. Has cs (place_on old m.0, m.1)) marked (has_copies old marks m here)

  is_mark : (m : Trail × ℕ) → Has marks m → IsMark old Pointer m
  is_mark m here =
      let from = mark-from trails copies m here in
      let is = found.each m.0 from.0 in
      let was : has before m.1 ≡ true = takes.were m.1 from.1 in
      let range = exact.in_range m.1 was in
      record {
        pointer = is.pointer;
        present = is.present;
        not_null = λ null. omega (arith, range.0, null);
        in_range = range.1;
        unled = λ led. bool_clash (has before m.1) was (exact.live m.1 led);
      }

  one_trail : (m n : Trail × ℕ) → Has marks m → Has marks n → m.0 ≡ n.0 → m ≡ n
  one_trail m n a b e =
      let same = once_by (λ (c : ℕ × ℕ). c.0) copies apart (place_on old m.0, m.1) (place_on old n.0, n.1) (copy-mark m a) (copy-mark n b) (ap (place_on old) e) in
      pair_both m n e (ap (λ (c : ℕ × ℕ). c.1) same)

  there : (m : Trail × ℕ) → Has marks m → IsPlaced old Pointer m.0
  there m here = placed old Pointer are bones m.0 (is_mark m here).pointer (is_mark m here).present

  one_block : (m n : Trail × ℕ) → Has marks m → Has marks n → m.1 ≡ n.1 → m ≡ n
  one_block m n a b e =
      let same = once_by (λ (c : ℕ × ℕ). c.1) copies takes.once (place_on old m.0, m.1) (place_on old n.0, n.1) (copy-mark m a) (copy-mark n b) e in
      pair_both m n (places_apart old Pointer are bones m.0 n.0 (there m a) (there n b) (ap (λ (c : ℕ × ℕ). c.0) same)) e

  all : AreMarks old Pointer marks
  all = record { each = is_mark; trails = one_trail; blocks = one_block }

  -- a copy has a mark
  mark_of : (b : ℕ) → Has (blocks_of copies) b → (t : Trail) × Has marks (t, b)
  mark_of b here = block-marked old trails copies at b here

  in_blocks : (m : Trail × ℕ) → Has marks m → Has (blocks_of copies) m.1
  in_blocks m here = (mark-from trails copies m here).1

  -- where a copy's pointer stands, and the block to which it leads
  pub copy-place : (c : ℕ × ℕ) → Has copies c → (c.0 < length (current_words first)) × (InBlocks (blocks_of copies) c.0 → ⊥)
  copy-place c here =
      let which = copies-has old marks c (subst (λ cs. Has cs c) (sym marked) here) in
      let at_is : c.0 ≡ place_on old which.0.0 = ap (λ (x : ℕ × ℕ). x.0) which.2 in
      let is = is_mark which.0 which.1 in (
        subst (λ n. n < length old) (sym at_is) (low-placed old Pointer which.0.0 bones some (there which.0 which.1)),
        λ inside. let mark = mark_of (c.0 / 512) inside in outside old Pointer are bones marks all which.0.0 is.pointer (mark.0, c.0 / 512) mark.1 (ap (λ n. n / 512) (sym at_is)),
      )

  pub copy-source : (c : ℕ × ℕ) → Has copies c → (source_of (current_words first) c < block_count (current_words first)) × (Has (blocks_of copies) (source_of (current_words first) c) → ⊥) × (0 < source_of (current_words first) c)
  copy-source c here =
      let which = copies-has old marks c (subst (λ cs. Has cs c) (sym marked) here) in
      let is = is_mark which.0 which.1 in
      let source : source_of old c ≡ block_on old which.0.0 = ap (source_of old) which.2 ∙ ap block_of (word-at_place old which.0.0 is.present) in (
        subst (λ b. b < block_count old) (sym source) (bones.in_range which.0.0 is.pointer),
        λ inside.
            let mark = mark_of (source_of old c) inside in
            (is_mark (mark.0, source_of old c) mark.1).unled (record { trail = which.0.0; pointer = is.pointer; named = sym source; not_null = λ null. is.present (sym source ∙ null) }),
        omega (arith, source, is.present),
      )

  module _ (mid : Memory) (fills : FillsCopies copies first mid) where
    -- ---- the copies

    changes : EachMay (AnyAt (InBlocks (blocks_of copies))) old (words_after old fills.part.added)
    changes = EachMay-stored (AnyAt (InBlocks (blocks_of copies))) old fills.part.added fills.part.may

    mid_is : current_words mid ≡ words_after old fills.part.added
    mid_is = current_words-adds first mid fills.part.added fills.part.adds

    beside_copies : (image : Image) → EachMay (AnyAt (InBlocks (blocks_of copies))) old image → (place : ℕ) → (Has (blocks_of copies) (place / 512) → ⊥) → word image place ≡ word old place
    beside_copies image each place none = elim (each.each place) [ inl e ↦ e | inr inside ↦ absurd (none inside) ]

    pub has_words : HasCopies old (current_words mid) marks
    has_words = record {
      whole = ap length mid_is ∙ changes.size;
      copied = λ m slot here low.
          let block : source_of old (place_on old m.0, m.1) ≡ block_on old m.0 = ap block_of (word-at_place old m.0 (is_mark m here).present) in
          fills.words (place_on old m.0, m.1) slot (copy-mark m here) low
          ∙ ap (λ b. turned_word old copies (512 * b + slot)) block
          ∙ ap (λ cs. turned_word old cs (512 * block_on old m.0 + slot)) (sym marked);
      others = λ place none.
          ap (λ ws. word ws place) mid_is
          ∙ beside_copies (words_after old fills.part.added) changes place (λ inside. let mark = mark_of (place / 512) inside in none (mark.0, place / 512) mark.1 refl);
    }

    unseen : (image : Image) → EachMay (AnyAt (InBlocks (blocks_of copies))) old image → Same old image
    unseen image each =
        same_symmetric image old (same_unseen old (size_of old) in_snapshot (has before) wf forest (λ t r. le_of_eq refl) exact image each.size
        (λ place used. beside_copies image each place (λ inside. bool_clash (has before (place / 512)) (takes.were (place / 512) inside) used)))

    -- ---- whichever pointers are stored

    committed : (now : Image) (stored : Trail → Bool) → AreThawing old now Pointer (copy_on marks) stored → IsCommitted old now Pointer (IsTreeWord old (size_of old)) (λ p. is_turned (copy_on marks) stored p ≡ true) (word_on old)
    committed now stored thawing = thawed_words old now Pointer (copy_on marks) stored are bones (are_copies old Pointer are bones marks all) thawing (IsTreeWord old (size_of old))

    not_turned : (stored : Trail → Bool) (p : Trail) → copy_on marks p ≡ None → is_turned (copy_on marks) stored p ≡ true → ⊥
    not_turned stored [] none is = true≢false (sym is ∙ rw none refl)
    not_turned stored (slot ∷ p) none is = true≢false (sym is ∙ rw none refl)

    turned-copy : (stored : Trail → Bool) (p : Trail) → is_turned (copy_on marks) stored p ≡ true → (c : ℕ) × (copy_on marks p ≡ Some c)
    turned-copy stored p is = go (copy_on marks p) refl
      where
        go : (x : Option ℕ) → copy_on marks p ≡ x → (c : ℕ) × (copy_on marks p ≡ Some c)
        go None e = absurd (not_turned stored p e is)
        go (Some c) e = (c, e)

    turned-present : (stored : Trail → Bool) (p : Trail) → is_turned (copy_on marks) stored p ≡ true → block_on old p ≢ 0
    turned-present stored p is = let copy = turned-copy stored p is in (is_mark (p, copy.0) (has-copy_on marks p copy.0 copy.1)).present

    same_thawing : (now : Image) (stored : Trail → Bool) → AreThawing old now Pointer (copy_on marks) stored → Same old now
    same_thawing now stored thawing = same_stays old now wf (λ p. is_turned (copy_on marks) stored p ≡ true) (committed now stored thawing) (turned-present stored)

    pub same_mid : (now : Image) (stored : Trail → Bool) → AreThawing old now Pointer (copy_on marks) stored → Same (current_words mid) now
    same_mid now stored thawing =
        same_transitive (current_words mid) old now (same_symmetric old (current_words mid) (subst (Same old) (sym mid_is) (unseen (words_after old fills.part.added) changes))) (same_thawing now stored thawing)

    -- ---- all pointers are stored

    abbrev links : List (ℕ × ℕ)
    links = links_among (current_words mid) copies copies

    open_link : (c : ℕ × ℕ) → Has copies c → is_copied (current_words mid) copies (c.0 / 512) ≡ false → IsOpen old in_snapshot (blocks_of copies) c.0
    open_link c here none = go which.0 which.1 (ap (λ (x : ℕ × ℕ). x.0) which.2)
      where
        which : (m : Trail × ℕ) × Has marks m × (c ≡ (place_on old m.0, m.1))
        which = copies-has old marks c (subst (λ cs. Has cs c) (sym marked) here)

        live : (p : Trail) → Pointer p → block_on old p ≢ 0 → IsLiveBlock old (block_on old p)
        live p pointer present = led_held old (size_of old) forest (block_on old p) (record { trail = p; pointer = pointer; named = refl; not_null = present })

        loose : (slot : ℕ) (p : Trail) → Has trails (slot ∷ p) → c.0 / 512 ≡ block_on old p → (x : Bool) → in_snapshot (block_on old p) ≡ x → in_snapshot (block_on old p) ≡ false
        loose slot p has block false is = is
        loose slot p has block true is =
            let above = trail-marked old trails copies at p (found.above slot p has is) in
            let copy : Has copies (place_on old p, above.0) = copy-mark (p, above.0) above.1 in
            let source : source_of (current_words mid) (place_on old p, above.0) ≡ c.0 / 512 =
            ap block_of (word_mid old (current_words mid) Pointer are bones some marks all has_words (p, above.0) above.1) ∙ sym block in
            absurd (true≢false (sym (any_source (current_words mid) copies (place_on old p, above.0) (c.0 / 512) copy source) ∙ none))

        go : (m : Trail × ℕ) → Has marks m → c.0 ≡ place_on old m.0 → IsOpen old in_snapshot (blocks_of copies) c.0
        go ([], d) mark e = at_root e
        go (slot ∷ p, d) mark e =
            let is = is_mark (slot ∷ p, d) mark in
            let low : slot < 512 = are.slots slot p is.pointer in
            let block : c.0 / 512 ≡ block_on old p = omega (arith, e, low) in
            in_live (subst (IsLiveBlock old) (sym block) (live p (are.above slot p is.pointer) (block_above old slot p is.present)))
            (ap in_snapshot block ∙ loose slot p (mark-from trails copies (slot ∷ p, d) mark).0 block (in_snapshot (block_on old p)) refl)

    module _ (last : Memory) (adds : Adds mid last (Barrier ∷ links_of links ++ Barrier ∷ [])) where
      abbrev new : Image
      new = current_words last

      last_is : new ≡ words_after (current_words mid) (links_of links)
      last_is = current_words-adds mid last (Barrier ∷ links_of links ++ Barrier ∷ []) adds ∙ words_after-append (current_words mid) (links_of links) (Barrier ∷ [])

      thawing : AreThawing old new Pointer (copy_on marks) all_are
      thawing =
          subst (λ (ws : Image). AreThawing old ws Pointer (copy_on marks) all_are)
          (ap (λ cs. words_after (current_words mid) (links_of (links_among (current_words mid) cs cs))) marked ∙ sym last_is)
          (linked_thawing old (current_words mid) Pointer are bones some marks all has_words)

      abbrev turned : Trail → Type 0
      turned p = is_turned (copy_on marks) all_are p ≡ true

      stage : IsCommitted old new Pointer (IsTreeWord old (size_of old)) turned (word_on old)
      stage = committed new all_are thawing

      -- ---- the log

      any : AnyOf Same (words_after old fills.part.added) (words_after old fills.part.added) links
      any =
          subst (λ (ws : Image). AnyOf Same ws ws links) mid_is
          (subst (λ cs. AnyOf Same (current_words mid) (current_words mid) (links_among (current_words mid) cs cs)) marked
          (any_stored old (current_words mid) Pointer are bones some marks all has_words same_mid marks (λ m here. here) (current_words mid) nothing_stored (filled_thawing old Pointer are bones marks all (current_words mid) has_words)))

      abbrev added : List Event
      added = (fills.part.added ++ Barrier ∷ []) ++ (links_of links ++ Barrier ∷ [])

      taking : AddsTaking in_snapshot (blocks_of copies) 2 (513 * length (blocks_of copies)) first last
      taking = record {
        part = record {
          added = added;
          adds = subst (Adds first last) (sym (append_assoc fills.part.added (Barrier ∷ []) (links_of links ++ Barrier ∷ [])))
              (adds_both first mid last fills.part.added (Barrier ∷ links_of links ++ Barrier ∷ []) fills.part.adds adds);
          quiet = quiet_prepared Same same_equivalence (AnyAt (InBlocks (blocks_of copies))) old fills.part.added links unseen fills.part.may any;
          closed = IsClosed-append (fills.part.added ++ Barrier ∷ []) (links_of links ++ Barrier ∷ []) (IsClosed-barrier fills.part.added [] tt) (IsClosed-barrier (links_of links) [] tt);
          piece = IsPiece-more (0 + 1 + (0 + 1)) (512 * length copies + 0 + (length links + 0)) 2 (513 * length (blocks_of copies)) added (omega arith)
              (omega (arith, links_few (current_words mid) copies copies, length-map copies (λ (c : ℕ × ℕ). c.1)))
              (IsPiece-append (0 + 1) (512 * length copies + 0) (0 + 1) (length links + 0) (fills.part.added ++ Barrier ∷ []) (links_of links ++ Barrier ∷ [])
              (IsPiece-append 0 (512 * length copies) 1 0 fills.part.added (Barrier ∷ []) fills.part.piece IsPiece-barrier)
              (IsPiece-append 0 (length links) 1 0 (links_of links) (Barrier ∷ []) (IsPiece-links_of links) IsPiece-barrier));
        };
        takes = record {
          once = takes.once;
          free = each-of (IsFreeBlock old in_snapshot) (blocks_of copies) (λ b here. free.free b (takes.were b here));
          stored = each-as (λ b. StoresTo (InBlock b) fills.part.added) (λ b. StoresTo (InBlock b) added)
              (λ b one. StoresTo-prefix (InBlock b) (fills.part.added ++ Barrier ∷ []) (links_of links ++ Barrier ∷ []) (StoresTo-prefix (InBlock b) fills.part.added (Barrier ∷ []) one)) (blocks_of copies) fills.stored;
          only = StoresMay-append (AnyAt (IsOpen old in_snapshot (blocks_of copies))) (fills.part.added ++ Barrier ∷ []) (links_of links ++ Barrier ∷ [])
              (StoresMay-append (AnyAt (IsOpen old in_snapshot (blocks_of copies))) fills.part.added (Barrier ∷ [])
              (StoresMay-weaker (AnyAt (InBlocks (blocks_of copies))) (AnyAt (IsOpen old in_snapshot (blocks_of copies))) (λ place value inside. in_taken inside) fills.part.added fills.part.may) tt)
              (StoresMay-append (AnyAt (IsOpen old in_snapshot (blocks_of copies))) (links_of links) (Barrier ∷ [])
              (links_may (IsOpen old in_snapshot (blocks_of copies)) (current_words mid) copies copies open_link) tt);
        };
      }

      -- ---- the blocks

      pub shape : SameShape old new
      shape = shape_stays old new wf turned stage (turned-present all_are)

      turned-all : (p : Trail) (c : ℕ) → copy_on marks p ≡ Some c → turned p
      turned-all [] c e = rw e refl
      turned-all (slot ∷ p) c e = go (copy_on marks p) refl (λ d f. turned-all p d f)
        where
          go : (x : Option ℕ) → copy_on marks p ≡ x → ((d : ℕ) → copy_on marks p ≡ Some d → turned p) → turned (slot ∷ p)
          go None f rest = rw (e, f) refl
          go (Some d) f rest = rw (e, f) (rest d f)

      block_pointing : (w c : ℕ) → block_of (pointing_to w c) ≡ c
      block_pointing w c = omega arith

      pub turned-block : (p : Trail) (c : ℕ) → copy_on marks p ≡ Some c → block_on new p ≡ c
      turned-block p c e =
          let now = words_now old new Pointer (copy_on marks) all_are are bones (are_copies old Pointer are bones marks all) thawing p (is_mark (p, c) (has-copy_on marks p c e)).pointer in
          ap block_of (rw (turned-all p c e, e) at now) ∙ block_pointing (word_on old p) c

      pub in_snapshot-block : (p : Trail) → Pointer p → (turned p → ⊥) → block_on new p ≡ block_on old p
      in_snapshot-block p pointer none = ap block_of (stage.kept p pointer none)

      -- a copy is not in the snapshot, and where a block is not in the snapshot it has none
      pub copied_loose : (p : Trail) → Has trails p → in_snapshot (block_on new p) ≡ false
      copied_loose p has =
          let mark = trail-marked old trails copies at p has in
          let copy : copy_on marks p ≡ Some mark.0 = copy_on-has marks (p, mark.0) (λ n there e. one_trail n (p, mark.0) there mark.1 e) mark.1 in
          ap in_snapshot (turned-block p mark.0 copy) ∙ (free.free mark.0 (takes.were mark.0 (in_blocks (p, mark.0) mark.1))).loose

      pub loose_same : (p : Trail) → Pointer p → in_snapshot (block_on old p) ≡ false → block_on new p ≡ block_on old p
      loose_same p pointer loose = in_snapshot-block p pointer (λ is.
          let copy = turned-copy all_are p is in
          let has = (mark-from trails copies (p, copy.0) (has-copy_on marks p copy.0 copy.1)).0 in
          bool_clash (in_snapshot (block_on old p)) (found.each p has).is_in_snapshot loose)

      job : IsCommitted old new Pointer (IsTreeWord old (size_of old)) turned (after_commit old empty_job)
      job = as_job old new wf turned stage (turned-present all_are)

      led_live : (b : ℕ) → LeadsTo new Pointer b → IsLiveBlock new b
      led_live b led =
          let one = led_has old new (size_of old) forest turned empty_job job b led in
          record {
            tree = one.0;
            reached = reached_on old new shape.meaning one.0 one.1;
            has = subst (λ size. HasBlock new (root_of new one.0) size b) (sym (shape.sizes one.0 one.1)) one.2;
          }

      live_led : (b : ℕ) → IsLiveBlock new b → LeadsTo new Pointer b
      live_led b one =
          let reached : IsReached old one.tree = reached-back old new wf shape.meaning one.tree one.reached in
          has_led old new (size_of old) forest turned empty_job job b one.tree reached (subst (λ size. HasBlock new (root_of new one.tree) size b) (shape.sizes one.tree reached) one.has)

      used : (b : ℕ) → Has (blocks_of copies) b → IsLiveBlock new b
      used b here =
          let mark = mark_of b here in
          let is = is_mark (mark.0, b) mark.1 in
          led_live b (record { trail = mark.0; pointer = is.pointer; named = turned-block mark.0 b (copy_on-has marks (mark.0, b) (λ n there e. one_trail n (mark.0, b) there mark.1 e) mark.1); not_null = is.not_null })

      live : (b : ℕ) → IsLiveBlock new b → IsLiveBlock old b ⊎ Has (blocks_of copies) b
      live b one = go (live_led b one)
        where
          go : LeadsTo new Pointer b → IsLiveBlock old b ⊎ Has (blocks_of copies) b
          go led = elim (stage.decide led.trail) [
            | inl is ↦
                let copy = turned-copy all_are led.trail is in
                inr (subst (Has (blocks_of copies)) (sym (turned-block led.trail copy.0 copy.1) ∙ led.named) (in_blocks (led.trail, copy.0) (has-copy_on marks led.trail copy.0 copy.1)))
            | inr none ↦ inl (led_held old (size_of old) forest b (record { trail = led.trail; pointer = led.pointer; named = sym (in_snapshot-block led.trail led.pointer none) ∙ led.named; not_null = led.not_null }))
          ]

      stay : (b : ℕ) → IsLiveBlock old b → IsLiveBlock new b ⊎ (in_snapshot b ≡ true)
      stay b one = go (held_led old (size_of old) forest b one)
        where
          go : LeadsTo old Pointer b → IsLiveBlock new b ⊎ (in_snapshot b ≡ true)
          go led = elim (stage.decide led.trail) [
            | inl is ↦
                let copy = turned-copy all_are led.trail is in
                let has = (mark-from trails copies (led.trail, copy.0) (has-copy_on marks led.trail copy.0 copy.1)).0 in
                inr (ap in_snapshot (sym led.named) ∙ (found.each led.trail has).is_in_snapshot)
            | inr none ↦ inl (led_live b (record { trail = led.trail; pointer = led.pointer; named = in_snapshot-block led.trail led.pointer none ∙ led.named; not_null = led.not_null }))
          ]

      still_free : AreFreeBlocks new in_snapshot (has after)
      still_free = record { free = unheld; all = every }
        where
          not_taken : (b : ℕ) → has after b ≡ true → Has (blocks_of copies) b → ⊥
          not_taken b is here = bool_clash (has after b) is (takes.gone b here)

          unheld : (b : ℕ) → has after b ≡ true → IsFreeBlock new in_snapshot b
          unheld b is =
              let was : has before b ≡ true = sym (takes.others b (not_taken b is)) ∙ is in
              let one = free.free b was in
              record {
                low = one.low;
                high = subst (λ n. b < n / 512) (sym stage.whole) one.high;
                free = λ held. elim (live b held) [ inl before_then ↦ one.free before_then | inr taken ↦ not_taken b is taken ];
                loose = one.loose;
              }

          every : (b : ℕ) → IsFreeBlock new in_snapshot b → has after b ≡ true
          every b one =
              takes.others b (λ taken. one.free (used b taken))
              ∙ free.all b (record {
                low = one.low;
                high = subst (λ n. b < n / 512) stage.whole one.high;
                free = λ held. elim (stay b held) [ inl now ↦ one.free now | inr is ↦ bool_clash (in_snapshot b) is one.loose ];
                loose = one.loose;
              })

      pub thaws : (paths : List WordPath) → length trails ≡ length (thawed_on old in_snapshot paths) → thawed_on new in_snapshot paths ≡ [] → Thaws in_snapshot paths first last before after
      thaws paths number clear = record {
        taken = blocks_of copies;
        adds = taking;
        number = number-marked old trails copies at ∙ number;
        from = each-of (λ b. has before b ≡ true) (blocks_of copies) takes.were;
        shape = shape;
        clear = clear;
        live = live;
        used = used;
        stay = stay;
        free = still_free;
      }
