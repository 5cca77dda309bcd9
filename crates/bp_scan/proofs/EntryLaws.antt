-- The entry at hand.
use Rattle.std.proofs.Common.{◌≡◌, ◌≢◌, ◌⊎◌, ℕ, ◌+◌, ◌*◌, ◌/◌, ◌%◌, ◌^◌, ◌<◌, ◌≤◌, List, true, false, length, set, sym, ◌∙◌, ap, subst, arith, inl, inr}
use Rattle.std.proofs.lemmas.Bool.{cases_eq}
use Rattle.std.proofs.lemmas.List.{length-set}
use Rattle.std.specs.List.{slice_index}
use Rattle.bp_free.specs.Set.{Set, has, without, members}
use Rattle.bp_free.proofs.Members.{has_with_same, has_with_other, count_with, count_without}
use Rattle.bp_layout.specs.Words.{Image, block_count, height_of}
use Rattle.bp_layout.specs.Tree.{node, IsSound, IsFull}
use Rattle.bp_layout.specs.Inode.{kind_of, root_of, size_of, inode_count}
use Rattle.bp_layout.specs.Directory.{EntryNames, ino_at, ino_in}
use Rattle.bp_layout.specs.Checks.{Fails, entry_place}
use Rattle.bp_layout.specs.declared.check.Check.{Check}
use Rattle.bp_layout.specs.declared.check.Check.TheVariants.{InodeTwice, InodeNumber}
use Rattle.bp_spelling.specs.Names.{AreNames, IsUsed}
use Rattle.bp_walk.proofs.TakenLaws.{known, clash, has_less}
use Rattle.bp_scan.specs.Counted.{HasCounted, IsCountable}
use Rattle.bp_scan.specs.Named.{CountsAmong}
use Rattle.bp_scan.specs.Progress.{IsDone, IsEntered, IsUnderWay}
use Rattle.bp_scan.specs.Inodes.{EntersInode, FailsInode}
use Rattle.bp_scan.specs.Reading.{IsReading, IsInside, steps}
use Rattle.bp_scan.specs.Room.{HasScanMemory}
use Rattle.bp_scan.specs.declared.directories.Directory.{Directory}
use Rattle.bp_scan.specs.declared.work.Scan.{Scan}
use Rattle.bp_scan.proofs.Counting.{countable, one_counted}
use Rattle.bp_scan.proofs.Named.{among_few}
use Rattle.bp_scan.proofs.ProgressLaws.{empty_counts, empty_step, entered_more}
use Rattle.bp_scan.proofs.EntryStep.{AddsDirectory, again_counts, again_step, entry_counts, entry_step}
use Rattle.bp_scan.proofs.InodeFaults.{inode_of}
use Rattle.bp_scan.proofs.Inside.{first, inodes_few, inodes_fewer, kind_in, here_sound, here_full, here_found, too_high, not_new, inode_fails, new_not_to_do}

pub along : (P : ℕ → ℕ → Type 0) (a b x y : ℕ) → a ≡ x → b ≡ y → P a b → P x y
along P a b x y e f h = subst (λ (v : ℕ). P x v) f (subst (λ (u : ℕ). P u b) e h)

-- the work with other counts
abbrev pub counting : Scan → List ℕ → Scan
counting work counts = record { blocks = work.blocks; inodes = work.inodes; todo = work.todo; counts = counts; totals = work.totals }

module _ (image : Image) (work : Scan) (directory : Directory) (slot : ℕ) (inside : IsInside image work directory slot) where
  abbrev d : ℕ
  d = directory.inode

  reading : IsReading image work d slot
  reading = inside.at.reading

  pub tree_sound : IsSound image directory.tree.root directory.tree.size
  tree_sound = along (IsSound image) _ _ _ _ inside.root inside.size (here_sound image work d slot reading inside.at.entered inside.at.kind)

  pub tree_full : IsFull image directory.tree.root directory.tree.size
  tree_full = along (IsFull image) _ _ _ _ inside.root inside.size (here_full image work d slot reading inside.at.entered inside.at.kind)

  names : AreNames image (root_of image d) (size_of image d)
  names = along (AreNames image) _ _ _ _ (sym inside.root) (sym inside.size) inside.names

  -- one inode more can be counted
  pub totals_few : IsCountable work.totals
  totals_few =
      let few : inode_count image + 64 ≤ 64 * block_count image = inodes_fewer image work d slot reading in
      countable image work.inodes (inode_count image) work.totals (omega (arith, few, reading.ready.formatted.sized.at_most)) reading.counted

  module _ (live : slot < directory.tree.size / 256) (j : ℕ) (named : j ≡ ino_in image directory.tree.root slot) where
    here : ino_at image d slot ≡ j
    here = ap (λ (x : ℕ). ino_in image x slot) inside.root ∙ sym named

    in_size : slot < size_of image d / 256
    in_size = subst (λ (x : ℕ). slot < x / 256) (sym inside.size) live

    entry_names : j ≢ 0 → EntryNames image d slot j
    entry_names some = record { directory = inside.at.kind; in_size = in_size; ino = here; not_empty = some }

    stands : (p : ℕ) → p ≡ 512 * node image directory.tree.root (height_of directory.tree.root) ((32 * slot + 0) / 512) + (32 * slot + 0) % 512 → entry_place image d slot 0 ≡ p
    stands p at = ap (λ (x : ℕ). 512 * node image x (height_of x) ((32 * slot + 0) / 512) + (32 * slot + 0) % 512) inside.root ∙ sym at

    pub passes_empty : j ≡ 0 → IsInside image work directory (slot + 1)
    passes_empty none = record {
      at = record {
        reading = record {
          ready = reading.ready;
          room = reading.room;
          range = reading.range;
          root_kind = reading.root_kind;
          midway = record { all = reading.midway.all; whole = reading.midway.whole; under_way = empty_step image work.inodes work.todo d slot (here ∙ none) reading.midway.all work.blocks reading.midway.under_way };
          counts = empty_counts image work.inodes work.todo d slot (here ∙ none) work.counts reading.counts;
          counted = reading.counted;
        };
        entered = inside.at.entered;
        kind = inside.at.kind;
        out = inside.at.out;
      };
      root = inside.root;
      size = inside.size;
      names = inside.names;
    }

    -- the number of an inode fits 32 bits
    pub number_fits : j < inode_count image → j < 2 ^ 32
    number_fits low =
        let few : inode_count image + 64 ≤ 64 * block_count image = inodes_fewer image work d slot reading in
        omega (arith, low, few, reading.ready.formatted.sized.at_most)

    module _ (some : j ≢ 0) where
      pub fails_high : (p : ℕ) → p ≡ 512 * node image directory.tree.root (height_of directory.tree.root) ((32 * slot + 0) / 512) + (32 * slot + 0) % 512 → inode_count image ≤ j → Fails image InodeNumber p
      fails_high p at high = too_high image work d slot reading inside.at.entered inside.at.kind slot j p (entry_names some) (stands p at) high

      module _ (low : j < inode_count image) where
        pub in_room : j < length work.inodes
        in_room = let few : inode_count image ≤ length work.inodes = inodes_few image work d slot reading in omega (arith, few, low)

        pub fails_again : (p : ℕ) → p ≡ 512 * node image directory.tree.root (height_of directory.tree.root) ((32 * slot + 0) / 512) + (32 * slot + 0) % 512 → has work.inodes j ≡ false → kind_of image j ≡ 2 → Fails image InodeTwice p
        fails_again p at gone kind = not_new image work d slot reading inside.at.entered inside.at.kind j p (entry_names some) (stands p at) low gone kind

        -- an inode that was entered has a kind
        pub right_kind : has work.inodes j ≡ false → (1 ≤ kind_of image j) × (kind_of image j ≤ 2)
        right_kind gone = kind_in image work d slot reading j (omega (arith, some)) (low, gone)

        pub in_counts : j < length work.counts
        in_counts = omega (arith, in_room, reading.room.inodes, reading.room.counts)

        -- no inode has more names than the image has room for entries
        pub names_few : 32 * slice_index work.counts j ≤ length image
        names_few =
            among_few image (IsEntered image work.inodes) (IsDone image work.inodes work.todo d slot) reading.midway.all work.blocks reading.ready.some_inodes (first image work d slot reading) reading.midway.under_way.scanned
            (λ i s done. entered i done) j (slice_index work.counts j) (reading.counts.each j in_counts)
          where
            entered : (i : ℕ) {s : ℕ} → IsDone image work.inodes work.todo d slot i s → IsEntered image work.inodes i
            entered i (inl done) = done.0
            entered i (inr at) = subst (IsEntered image work.inodes) (sym at.0) inside.at.entered

        -- a file has one more name
        pub passes_again : has work.inodes j ≡ false → kind_of image j ≡ 1 → (later : List ℕ) → later ≡ set work.counts j (slice_index work.counts j + 1) → IsInside image (counting work later) directory (slot + 1)
        passes_again gone file later later_is = record {
          at = record {
            reading = record {
              ready = reading.ready;
              room = record {
                blocks = reading.room.blocks;
                inodes = reading.room.inodes;
                todo = reading.room.todo;
                counts = ap (λ (ns : List ℕ). length ns) later_is ∙ length-set work.counts j (slice_index work.counts j + 1) ∙ reading.room.counts;
              };
              range = reading.range;
              root_kind = reading.root_kind;
              midway = record {
                all = reading.midway.all;
                whole = reading.midway.whole;
                under_way = again_step image reading.midway.all work.blocks work.inodes work.todo d slot j reading.midway.under_way (entry_names some) (low, gone) two file (names.forms slot (used slot j (entry_names some)))
                    (λ r k before n same. names.differ slot r (used slot j (entry_names some)) (used r k n) same);
              };
              counts = subst (CountsAmong image (IsDone image work.inodes work.todo d (slot + 1))) (sym later_is)
                  (again_counts image reading.midway.all work.blocks work.inodes work.todo d slot j reading.midway.under_way (entry_names some) (low, gone) two file (names.forms slot (used slot j (entry_names some)))
                  (λ r k before n same. names.differ slot r (used slot j (entry_names some)) (used r k n) same) work.counts reading.counts);
              counted = reading.counted;
            };
            entered = inside.at.entered;
            kind = inside.at.kind;
            out = inside.at.out;
          };
          root = inside.root;
          size = inside.size;
          names = inside.names;
        }
          where
            no_root : j ≢ 1
            no_root one = let two : kind_of image j ≡ 2 = ap (kind_of image) one ∙ reading.root_kind in omega (arith, two, file)

            two : 2 ≤ j
            two = omega (arith, some, no_root)

            used : (r k : ℕ) → EntryNames image d r k → IsUsed image (root_of image d) (size_of image d) r
            used r k n = record { live = n.in_size; some = λ null. n.not_empty (sym n.ino ∙ null) }

        pub fails_in_inode : has work.inodes j ≡ true → (c : Check) (p : ℕ) → FailsInode image j work.blocks c p → Fails image c p
        fails_in_inode new c p fails =
            inode_fails image work d slot reading j c p (omega (arith, some)) (here_found image work d slot reading inside.at.entered inside.at.kind slot j (entry_names some) low) new fails

        module _ (new : has work.inodes j ≡ true) (rest : Set) (claimed : rest ≡ without work.inodes j) (marked : List ℕ) (first_name : marked ≡ set work.counts j 1) (after : Scan) (room : HasScanMemory image after)
            (enters : EntersInode image j (record { blocks = work.blocks; inodes = rest; todo = work.todo; counts = marked; totals = work.totals }) after) where
          now_is : after.inodes ≡ without work.inodes j
          now_is = enters.inodes ∙ claimed

          todo_low : j < length work.todo
          todo_low = omega (arith, in_room, reading.room.inodes, reading.room.todo)

          later_has : (i : ℕ) → i ≢ j → has after.todo i ≡ has work.todo i
          later_has i other = go (cases_eq (kind_of image j) 2)
            where
              go : (kind_of image j ≡ 2) ⊎ (kind_of image j ≡ 2 → ⊥) → has after.todo i ≡ has work.todo i
              go (inl kind) = ap (λ (s : Set). has s i) (enters.directory kind) ∙ has_with_other work.todo j i other
              go (inr no_directory) = ap (λ (s : Set). has s i) (enters.file no_directory)

          not_to_do : has work.todo j ≡ false
          not_to_do = new_not_to_do image work d slot reading j new

          adds : AddsDirectory image j work.todo after.todo
          adds = record {
            same = later_has;
            directory = λ kind. ap (λ (s : Set). has s j) (enters.directory kind) ∙ has_with_same work.todo j todo_low;
            file = λ there. go there (cases_eq (kind_of image j) 2);
          }
            where
              go : has after.todo j ≡ true → (kind_of image j ≡ 2) ⊎ (kind_of image j ≡ 2 → ⊥) → kind_of image j ≡ 2
              go there (inl kind) = kind
              go there (inr other) = absurd (clash there (ap (λ (s : Set). has s j) (enters.file other) ∙ not_to_do))

          used : (r k : ℕ) → EntryNames image d r k → IsUsed image (root_of image d) (size_of image d) r
          used r k n = record { live = n.in_size; some = λ null. n.not_empty (sym n.ino ∙ null) }

          which : (j ≡ 0) ⊎ (kind_of image j ≡ 2) → enters.holes ≡ false
          which (inl none) = absurd (some none)
          which (inr kind) = enters.full kind

          step : IsUnderWay image reading.midway.all after.blocks (without work.inodes j) after.todo d (slot + 1)
          step = entry_step image reading.midway.all work.blocks after.blocks work.inodes work.todo after.todo d slot j enters.holes reading.midway.under_way reading.ready.some_inodes (first image work d slot reading)
              inside.at.entered (entry_names some) low in_room new (reading.range j new).0 (names.forms slot (used slot j (entry_names some)))
              (λ r k before n same. names.differ slot r (used slot j (entry_names some)) (used r k n) same) (inode_of image j enters.right) which enters.tree adds

          counts_step : CountsAmong image (IsDone image (without work.inodes j) after.todo d (slot + 1)) (set work.counts j 1)
          counts_step = entry_counts image reading.midway.all work.blocks after.blocks work.inodes work.todo after.todo d slot j enters.holes reading.midway.under_way reading.ready.some_inodes (first image work d slot reading)
              inside.at.entered (entry_names some) low in_room new (reading.range j new).0 (names.forms slot (used slot j (entry_names some)))
              (λ r k before n same. names.differ slot r (used slot j (entry_names some)) (used r k n) same) (inode_of image j enters.right) which enters.tree adds work.counts reading.counts

          range : (i : ℕ) → has (without work.inodes j) i ≡ true → (has work.inodes i ≡ true) ⊎ (has work.inodes i ≡ false) → (2 ≤ i) × (i < inode_count image)
          range i still (inl there) = reading.range i there
          range i still (inr gone) = absurd (clash still (has_less work.inodes j i in_room gone))

          other_directory : d ≢ j
          other_directory same = clash new (ap (has work.inodes) (sym same) ∙ inside.at.entered.1)

          pub now_inside : IsInside image after directory (slot + 1)
          now_inside = record {
            at = record {
              reading = record {
                ready = reading.ready;
                room = room;
                range = λ i still. range i (ap (λ (s : Set). has s i) (sym now_is) ∙ still) (known (has work.inodes i));
                root_kind = reading.root_kind;
                midway = record {
                  all = reading.midway.all;
                  whole = reading.midway.whole;
                  under_way = subst (λ (s : Set). IsUnderWay image reading.midway.all after.blocks s after.todo d (slot + 1)) (sym now_is) step;
                };
                counts = subst (CountsAmong image (IsDone image after.inodes after.todo d (slot + 1))) (sym (enters.counts ∙ first_name))
                    (subst (λ (s : Set). CountsAmong image (IsDone image s after.todo d (slot + 1)) (set work.counts j 1)) (sym now_is) counts_step);
                counted = subst (λ (s : Set). HasCounted image s (inode_count image) after.totals) (sym now_is)
                    (one_counted image work.inodes j (inode_count image) work.totals after.totals (omega (arith, some)) low in_room new reading.counted enters.totals);
              };
              entered = subst (λ (s : Set). IsEntered image s d) (sym now_is) (entered_more image work.inodes j d in_room low (inl inside.at.entered));
              kind = inside.at.kind;
              out = later_has d other_directory ∙ inside.at.out;
            };
            root = inside.root;
            size = inside.size;
            names = inside.names;
          }

          -- one inode less, and one directory more at most
          pub now_less : steps after ≤ steps work
          now_less = go (cases_eq (kind_of image j) 2)
            where
              less : length (members after.inodes) + 1 ≡ length (members work.inodes)
              less = ap (λ (s : Set). length (members s) + 1) now_is ∙ count_without work.inodes j in_room new

              go : (kind_of image j ≡ 2) ⊎ (kind_of image j ≡ 2 → ⊥) → steps after ≤ steps work
              go (inl kind) =
                  let more : length (members after.todo) ≡ length (members work.todo) + 1 = ap (λ (s : Set). length (members s)) (enters.directory kind) ∙ count_with work.todo j todo_low not_to_do in
                  omega (arith, less, more)
              go (inr other) =
                  let same : length (members after.todo) ≡ length (members work.todo) = ap (λ (s : Set). length (members s)) (enters.file other) in omega (arith, less, same)
