-- The path of a word exists as a whole where no null stands above the word and the trees on the way keep their heights.
use Rattle.std.proofs.Common.{nat_le, ◌||◌, ◌≡◌, ◌≢◌, ℕ, zero, suc, ◌+◌, ◌-◌, ◌*◌, ◌/◌, ◌%◌, ◌<◌, ◌≤◌, List, [], ◌∷◌, ◌++◌, length, Bool, true, false, refl, sym, ◌∙◌, ap, subst, arith, append_assoc}
use Rattle.std.specs.List.{list_any}
use Rattle.std.proofs.lemmas.Bool.{le-leb, lt-leb, lt-ltb, ne_eqb, or_left}
use Rattle.std.proofs.lemmas.List.{length-append, append-nil}
use Rattle.std.proofs.lemmas.List.Sums.{fold-append}
use Rattle.std.proofs.Math.Seq.{take-append_seam, drop-append_seam}
use Rattle.bp_layout.specs.Words.{Image, height_of}
use Rattle.bp_layout.specs.Tree.{node, covered, span, IsLiveWord, IsLivePointer, IsSound, IsFull}
use Rattle.bp_layout.specs.Inode.{root_of, size_of, inode_count}
use Rattle.bp_layout.specs.Reached.{IsReached}
use Rattle.bp_layout.specs.Reached.IsReached.{inode_file}
use Rattle.bp_layout.specs.WellFormed.{IsWellFormed}
use Rattle.bp_layout.specs.Nodes.{TreeNode, is_present}
use Rattle.bp_layout.specs.WordPaths.{WordPath, digits, inode_path, tree_path}
use Rattle.bp_layout.specs.Need.{Change, height_after, touched, path_number, pointed, same_node, preparation, is_there, is_there_after, existing_from, cover_of, cover, prefixes_of, copies_of, copied, content_path}
use Rattle.bp_layout.proofs.Addresses.{IsUnderNodes, present_above}
use Rattle.bp_layout.proofs.Reached.{reached-in_file}
use Rattle.bp_layout.proofs.TreeLaws.{first_index, live_above, live_pointer_word, live_content}
use Rattle.bp_read.proofs.Digits.{length-digits}

-- ---- the number that digits report

number-append : (ds : List ℕ) (d : ℕ) → path_number (ds ++ d ∷ []) ≡ 512 * path_number ds + d
number-append ds d = fold-append (λ (n : ℕ) (d : ℕ). 512 * n + d) 0 ds (d ∷ [])

-- a live word has as many digits as its depth
pub number-digits : (root size d k : ℕ) → size ≤ covered (suc (height_of root)) → IsLiveWord root size d k → path_number (digits d k) ≡ k
number-digits root size zero k fits live =
    let rank : live.rank ≡ suc (height_of root) = omega (arith, live.height) in
    let top : IsLivePointer root size 0 k = record { level = height_of root; height = omega arith; live = subst (λ r. k * covered r < size) rank live.live } in
    sym (first_index root size k fits top)
number-digits root size (suc d) k fits live =
    let above : path_number (digits d (k / 512)) ≡ k / 512 = number-digits root size d (k / 512) fits (live_pointer_word root size d (k / 512) (live_above root size d k live)) in
    number-append (digits d (k / 512)) (k % 512) ∙ omega (arith, above)

-- ---- a path each proper prefix of which points to a node that is there

-- after a part that exists
abbrev pub AllThere : (WordPath → Bool) → WordPath → WordPath → Type 0
AllThere there here [] = Unit {0}
AllThere there here (slot ∷ path) = (there here ≡ true) × AllThere there (here ++ slot ∷ []) path

pub existing-all : (there : WordPath → Bool) (here path : WordPath) → AllThere there here path → existing_from there here path ≡ here ++ path
existing-all there here [] all = sym (append-nil here)
existing-all there here (slot ∷ path) all = rw all.0 (existing-all there (here ++ slot ∷ []) path all.1 ∙ append_assoc here (slot ∷ []) path)

pub there-append : (there : WordPath → Bool) (here p q : WordPath) → AllThere there here p → AllThere there (here ++ p) q → AllThere there here (p ++ q)
there-append there here [] q prefix rest = subst (λ x. AllThere there x q) (append-nil here) rest
there-append there here (slot ∷ p) q prefix rest =
    (prefix.0, there-append there (here ++ slot ∷ []) p q prefix.1 (subst (λ x. AllThere there x q) (sym (append_assoc here (slot ∷ []) p)) rest))

-- so the cover of one path is the path, and nothing is copied
module _ (there : WordPath → Bool) (path : WordPath) (all : AllThere there [] path) where
  pub cover_of-one : cover_of there (path ∷ []) ≡ path
  cover_of-one = existing-all there [] path all

  pub copies_of-one : copies_of there (path ∷ []) ≡ []
  copies_of-one = ap (λ c. prefixes_of (length c) [] (path ∷ [])) cover_of-one ∙ none
    where
      nothing : length path - length path ≡ 0
      nothing = omega arith

      none : prefixes_of (length path) [] (path ∷ []) ≡ []
      none = rw nothing refl

-- ---- the nodes on the way to a word

-- the node to which a live pointer of a tree points
abbrev pub node_under : Image → ℕ → ℕ → ℕ → ℕ × TreeNode
node_under image t d k = (t, record { level = height_of (root_of image t) - d; index = k })

pub node-there : (image : Image) (change : Change) (t d k : ℕ) → IsLivePointer (root_of image t) (size_of image t) d k → node image (root_of image t) d k ≢ 0 →
    is_there image change (node_under image t d k) ≡ true
node-there image change t d k live present =
    or_left (is_present image (root_of image t) (size_of image t) (record { level = height_of (root_of image t) - d; index = k }) || list_any (same_node (node_under image t d k)) (preparation image change)) _
    (or_left (is_present image (root_of image t) (size_of image t) (record { level = height_of (root_of image t) - d; index = k })) _ is)
  where
    level : live.level ≡ height_of (root_of image t) - d
    level = omega (arith, live.height)

    low : height_of (root_of image t) - d ≤ height_of (root_of image t)
    low = omega arith

    below : k * span (height_of (root_of image t) - d) < size_of image t
    below = subst (λ l. k * span l < size_of image t) level live.live

    depth : height_of (root_of image t) - (height_of (root_of image t) - d) ≡ d
    depth = omega (arith, live.height)

    is : is_present image (root_of image t) (size_of image t) (record { level = height_of (root_of image t) - d; index = k }) ≡ true
    is = rw (le-leb _ _ low, lt-ltb _ _ below, depth, ne_eqb _ _ present) refl

under : (image : Image) (root d k : ℕ) → node image root d k ≢ 0 → IsUnderNodes image root d k
under image root zero k present = tt
under image root (suc d) k present = present_above image root d k present

-- the digits of a word, after a path at which those of each pointer report its node
digits-there : (image : Image) (change : Change) (t : ℕ) (base : WordPath) →
    ((d k : ℕ) → IsLivePointer (root_of image t) (size_of image t) d k → pointed (height_after image change) (base ++ digits d k) ≡ node_under image t d k) →
    (d k : ℕ) → IsLiveWord (root_of image t) (size_of image t) d k → IsUnderNodes image (root_of image t) d k → AllThere (is_there_after image change) base (digits d k)
digits-there image change t base reads zero k live above = tt
digits-there image change t base reads (suc d) k live above =
    let up : IsLivePointer (root_of image t) (size_of image t) d (k / 512) = live_above (root_of image t) (size_of image t) d k live in
    there-append (is_there_after image change) base (digits d (k / 512)) (k % 512 ∷ [])
    (digits-there image change t base reads d (k / 512) (live_pointer_word _ _ d (k / 512) up) (under image (root_of image t) d (k / 512) above))
    (ap (is_there image change) (reads d (k / 512) up) ∙ node-there image change t d (k / 512) up above, tt)

pub reads-inodes : (heights : ℕ → ℕ) (image : Image) → heights 0 ≡ height_of (root_of image 0) → size_of image 0 ≤ covered (suc (height_of (root_of image 0))) →
    (d k : ℕ) → IsLivePointer (root_of image 0) (size_of image 0) d k → pointed heights (digits d k) ≡ node_under image 0 d k
reads-inodes heights image same fits d k live = rw (length-digits, number, same, le-leb _ _ low) refl
  where
    number : path_number (digits d k) ≡ k
    number = number-digits (root_of image 0) (size_of image 0) d k fits (live_pointer_word _ _ d k live)

    low : d ≤ height_of (root_of image 0)
    low = omega (arith, live.height)

-- after the path of its root word
pub reads-tree : (heights : ℕ → ℕ) (image : Image) (t : ℕ) (base : WordPath) → length base ≡ suc (heights 0) → path_number base / 8 ≡ t → heights t ≡ height_of (root_of image t) →
    size_of image t ≤ covered (suc (height_of (root_of image t))) →
    (d k : ℕ) → IsLivePointer (root_of image t) (size_of image t) d k → pointed heights (base ++ digits d k) ≡ node_under image t d k
reads-tree heights image t base whole tree same fits d k live = rw (← whole, long, take-append_seam, drop-append_seam, tree, same, number, depth) refl
  where
    number : path_number (digits d k) ≡ k
    number = number-digits (root_of image t) (size_of image t) d k fits (live_pointer_word _ _ d k live)

    count : length (base ++ digits d k) ≡ length base + d
    count = length-append base (digits d k) ∙ ap (λ n. length base + n) (length-digits d k)

    depth : length (base ++ digits d k) - length base ≡ d
    depth = omega (arith, count)

    long : nat_le (length (base ++ digits d k)) (heights 0) ≡ false
    long = lt-leb _ _ (omega (arith, count, whole))

-- ---- the words of an image

module _ (image : Image) (change : Change) (wf : IsWellFormed image) (low_tree : height_after image change 0 ≡ height_of (root_of image 0)) where
  -- a word of the inode file, at any depth
  pub inodes-there : (d k : ℕ) → IsLiveWord (root_of image 0) (size_of image 0) d k → IsUnderNodes image (root_of image 0) d k → AllThere (is_there_after image change) [] (digits d k)
  inodes-there d k live above =
      let sound : IsSound image (root_of image 0) (size_of image 0) = wf.sound 0 inode_file in
      digits-there image change 0 [] (reads-inodes (height_after image change) image low_tree sound.fits) d k live above

  -- word f of an inode
  pub inode_path-there : (i f : ℕ) → IsReached image i → f < 8 → AllThere (is_there_after image change) [] (inode_path (height_after image change 0) i f)
  inode_path-there i f reached low = rw low_tree (inodes-there (suc (height_of (root_of image 0))) (8 * i + f) live (wf.full_inode_file _ _ up))
    where
      inside : i < inode_count image
      inside = reached-in_file image wf i reached

      live : IsLiveWord (root_of image 0) (size_of image 0) (suc (height_of (root_of image 0))) (8 * i + f)
      live = live_content (root_of image 0) (size_of image 0) (8 * i + f) (omega (arith, inside))

      up : IsLivePointer (root_of image 0) (size_of image 0) (height_of (root_of image 0)) ((8 * i + f) / 512)
      up = live_above _ _ _ _ live

  -- a word of a tree, at any depth, with no null above it
  pub word_path-there : (t d k : ℕ) → IsReached image t → height_after image change t ≡ height_of (root_of image t) →
      IsLiveWord (root_of image t) (size_of image t) d k → IsUnderNodes image (root_of image t) d k →
      AllThere (is_there_after image change) [] (tree_path (height_after image change 0) t d k)
  word_path-there zero d k reached same live above = inodes-there d k live above
  word_path-there (suc i) d k reached same live above =
      there-append (is_there_after image change) [] (inode_path (height_after image change 0) (suc i) 1) (digits d k) (inode_path-there (suc i) 1 reached (omega arith))
      (digits-there image change (suc i) (inode_path (height_after image change 0) (suc i) 1)
      (reads-tree (height_after image change) image (suc i) (inode_path (height_after image change 0) (suc i) 1) (length-digits (suc (height_after image change 0)) (8 * suc i + 1)) tree same sound.fits) d k live above)
    where
      sound : IsSound image (root_of image (suc i)) (size_of image (suc i))
      sound = wf.sound (suc i) reached

      inside : suc i < inode_count image
      inside = reached-in_file image wf (suc i) reached

      inodes : IsSound image (root_of image 0) (size_of image 0)
      inodes = wf.sound 0 inode_file

      word : IsLiveWord (root_of image 0) (size_of image 0) (suc (height_after image change 0)) (8 * suc i + 1)
      word = rw low_tree (live_content (root_of image 0) (size_of image 0) (8 * suc i + 1) (omega (arith, inside)))

      number : path_number (inode_path (height_after image change 0) (suc i) 1) ≡ 8 * suc i + 1
      number = number-digits (root_of image 0) (size_of image 0) (suc (height_after image change 0)) (8 * suc i + 1) inodes.fits word

      tree : path_number (inode_path (height_after image change 0) (suc i) 1) / 8 ≡ suc i
      tree = omega (arith, number)

  -- a content word of a tree without a null
  pub content_path-there : (t k : ℕ) → IsReached image t → height_after image change t ≡ height_of (root_of image t) →
      IsFull image (root_of image t) (size_of image t) → 8 * k < size_of image t →
      AllThere (is_there_after image change) [] (content_path image change t k)
  content_path-there t k reached same full below =
      rw same (word_path-there t (suc (height_of (root_of image t))) k reached same live (full _ _ (live_above _ _ _ _ live)))
    where
      live : IsLiveWord (root_of image t) (size_of image t) (suc (height_of (root_of image t))) k
      live = live_content (root_of image t) (size_of image t) k below

  -- so its path exists
  pub content_path-exists : (t k : ℕ) → IsReached image t → height_after image change t ≡ height_of (root_of image t) →
      IsFull image (root_of image t) (size_of image t) → 8 * k < size_of image t →
      existing_from (is_there_after image change) [] (content_path image change t k) ≡ content_path image change t k
  content_path-exists t k reached same full below =
      existing-all (is_there_after image change) [] (content_path image change t k) (content_path-there t k reached same full below)

-- ---- a change of one word whose path exists copies nothing

module _ (image : Image) (change : Change) (path : WordPath) (one : touched image change ≡ path ∷ []) (all : AllThere (is_there_after image change) [] path) where
  pub cover-one : cover image change ≡ path
  cover-one = ap (cover_of (is_there_after image change)) one ∙ cover_of-one (is_there_after image change) path all

  pub copied-one : copied image change ≡ []
  copied-one = ap (copies_of (is_there_after image change)) one ∙ copies_of-one (is_there_after image change) path all
