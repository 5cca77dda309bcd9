-- A write below the size of a file makes no node, so on the common path of its words a node is there just where a pointer of the image leads to it.
use Rattle.std.proofs.Common.{◌≡◌, ◌≢◌, ◌⊎◌, ℕ, zero, suc, ◌+◌, ◌-◌, ◌*◌, ◌/◌, ◌%◌, ◌<◌, ◌≤◌, List, [], ◌∷◌, ◌++◌, length, take, Bool, true, false, not, ◌==◌, ◌||◌, refl, sym, ◌∙◌, ap, subst, arith, inl, inr}
use Rattle.std.proofs.lemmas.Bool.{cases_eq, cases_lt, eq-eqb, le-leb, lt-ltb}
use Rattle.std.proofs.lemmas.List.{length-append, take-append-le, take-take}
use Rattle.std.proofs.Math.Seq.{take-append-add, take-length}
use Rattle.bp_layout.specs.Inode.{root_of, size_of, inode_count}
use Rattle.bp_layout.specs.Members.{Has}
use Rattle.bp_layout.specs.Need.{Change, preparation, growth, height_after, path_number, is_there, is_there_after, common_all}
use Rattle.bp_layout.specs.Need.Change.{writes}
use Rattle.bp_layout.specs.Reached.{IsReached}
use Rattle.bp_layout.specs.Reached.IsReached.{inode_file}
use Rattle.bp_layout.specs.Tree.{node, span, IsLivePointer, IsLiveWord, IsSound}
use Rattle.bp_layout.specs.WellFormed.{IsWellFormed}
use Rattle.bp_layout.specs.WordPaths.{WordPath, address, address_from, digits, inode_path, is_pointed}
use Rattle.bp_layout.specs.Words.{Image, word, block_of, height_of}
use Rattle.bp_layout.proofs.Addresses.{IsUnderNodes, address_from-append, address_from-digits, word-place_of}
use Rattle.bp_layout.proofs.Reached.{reached-in_file}
use Rattle.bp_layout.proofs.TreeLaws.{live_above, live_content, live_pointer_word}
use Rattle.bp_read.proofs.Digits.{length-digits}
use Rattle.bp_read.proofs.ExistingPaths.{node_under, reads-inodes, reads-tree, number-digits}
use Rattle.bp_cow.specs.Touched.{all_paths, run_end, run_path}
use Rattle.bp_cow.specs.declared.touched.Run.{Run}
use Rattle.bp_cow.specs.declared.touched.Touched.{Touched}
use Rattle.bp_cow.proofs.CommonPaths.{Begins, all-begin}
use Rattle.bp_cow.proofs.RunTouched.{change_copies, change_cover, not_above, run_touched, write_height, write_need}
use Rattle.bp_cow.proofs.CopiesNeed.{has-of-run}
use Rattle.bp_cow.specs.CanCommit.{CanCommit}
use Rattle.bp_cow.specs.Cover.{commit_cover, copied_count}
use Rattle.bp_layout.specs.Need as layout

-- ---- the node that a path's pointer names, as far as the path exists

not_pointed : (block : ℕ) → not (block == 0) ≡ true → block ≢ 0
not_pointed block is e = let test : (block == 0) ≡ true = eq-eqb block 0 e in let none : not (block == 0) ≡ false = ap not test in absurd (cc)

module _ (image : Image) (base : WordPath) (at root : ℕ) (place : address image base ≡ at) (here : word image at ≡ root) where
  names : (d k : ℕ) → IsUnderNodes image root d k → block_of (word image (address image (base ++ digits d k))) ≡ node image root d k
  names d k under =
      ap (λ p. block_of (word image p)) (address_from-append image 2 base (digits d k) ∙ ap (λ p. address_from image p (digits d k)) place ∙ address_from-digits image at root here d k under)
      ∙ ap block_of (word-place_of image at root here d k under)

  under_nodes : (d k : ℕ) → ((e : ℕ) → e < d → is_pointed image (base ++ take e (digits d k)) ≡ true) → IsUnderNodes image root d k
  under_nodes zero k exists = tt
  under_nodes (suc d) k exists = λ null.
      not_pointed (block_of (word image (address image (base ++ digits d (k / 512)))))
      (ap (λ p. is_pointed image (base ++ p)) (sym (prefix d (omega arith) ∙ whole)) ∙ exists d (omega arith))
      (names d (k / 512) (under_nodes d (k / 512) (λ e low. ap (λ p. is_pointed image (base ++ p)) (sym (prefix e (omega (arith, low)))) ∙ exists e (omega (arith, low)))) ∙ null)
    where
      prefix : (e : ℕ) → e ≤ d → take e (digits d (k / 512) ++ k % 512 ∷ []) ≡ take e (digits d (k / 512))
      prefix e low = take-append-le e (digits d (k / 512)) (k % 512 ∷ []) (omega (arith, low, length-digits d (k / 512)))

      whole : take d (digits d (k / 512)) ≡ digits d (k / 512)
      whole = let size = length-digits d (k / 512) in ap (λ n. take n (digits d (k / 512))) (sym size) ∙ take-length (digits d (k / 512))

  pointed_is : (d k : ℕ) → ((e : ℕ) → e < d → is_pointed image (base ++ take e (digits d k)) ≡ true) → is_pointed image (base ++ digits d k) ≡ not (node image root d k == 0)
  pointed_is d k exists = ap (λ b. not (b == 0)) (names d k (under_nodes d k exists))

-- ---- the prefixes of digits

pub record Prefix (root size depth index e : ℕ) : Type 0 where
  pub number : ℕ
  pub same : take e (digits depth index) ≡ digits e number
  pub live : IsLivePointer root size e number

pub prefix_of : (root size depth index e : ℕ) → IsLiveWord root size depth index → e < depth → Prefix root size depth index e
prefix_of root size zero index e live low = absurd (omega (arith, low))
prefix_of root size (suc depth) index e live low = go (cases_eq e depth) (λ less. prefix_of root size depth (index / 512) e (live_pointer_word root size depth (index / 512) (live_above root size depth index live)) less)
  where
    up : IsLivePointer root size depth (index / 512)
    up = live_above root size depth index live

    first : (n : ℕ) → n ≤ depth → take n (digits depth (index / 512) ++ index % 512 ∷ []) ≡ take n (digits depth (index / 512))
    first n less = take-append-le n (digits depth (index / 512)) (index % 512 ∷ []) (omega (arith, less, length-digits depth (index / 512)))

    go : (e ≡ depth) ⊎ (e ≡ depth → ⊥) → (e < depth → Prefix root size depth (index / 512) e) → Prefix root size (suc depth) index e
    go (inl same) deeper = subst (Prefix root size (suc depth) index) (sym same) (record {
      number = index / 512;
      same = first depth (omega arith) ∙ ap (λ n. take n (digits depth (index / 512))) (sym (length-digits depth (index / 512))) ∙ take-length (digits depth (index / 512));
      live = up;
    })
    go (inr other) deeper =
        let rest = deeper (omega (arith, low, other)) in
        record { number = rest.number; same = first e (omega (arith, low)) ∙ rest.same; live = rest.live }

-- ---- a change that makes no node

there_live : (image : Image) (change : Change) → preparation image change ≡ [] → growth image change ≡ [] → (t d k : ℕ) → IsLivePointer (root_of image t) (size_of image t) d k →
    is_there image change (node_under image t d k) ≡ not (node image (root_of image t) d k == 0)
there_live image change none none_grown t d k live = rw (none, none_grown, le-leb _ _ low, lt-ltb _ _ below, depth) (or_false (not (node image (root_of image t) d k == 0)))
  where
    or_false : (b : Bool) → (b || false || false) ≡ b
    or_false true = refl
    or_false false = refl

    level : live.level ≡ height_of (root_of image t) - d
    level = omega (arith, live.height)

    low : height_of (root_of image t) - d ≤ height_of (root_of image t)
    low = omega arith

    below : k * span (height_of (root_of image t) - d) < size_of image t
    below = subst (λ l. k * span l < size_of image t) level live.live

    depth : height_of (root_of image t) - (height_of (root_of image t) - d) ≡ d
    depth = omega (arith, live.height)

-- ---- a word of a file, below its size

module _ (image : Image) (wf : IsWellFormed image) (n : ℕ) (reached : IsReached image (suc n)) (change : Change) (none : preparation image change ≡ []) (none_grown : growth image change ≡ [])
    (heights : (t : ℕ) → height_after image change t ≡ height_of (root_of image t)) (k : ℕ) (below : 8 * k < size_of image (suc n)) where
  abbrev top : ℕ
  top = height_of (root_of image 0)

  abbrev base : WordPath
  base = inode_path (height_of (root_of image 0)) (suc n) 1

  inodes : IsSound image (root_of image 0) (size_of image 0)
  inodes = wf.sound 0 inode_file

  inside : suc n < inode_count image
  inside = reached-in_file image wf (suc n) reached

  record_live : IsLiveWord (root_of image 0) (size_of image 0) (suc (height_of (root_of image 0))) (8 * suc n + 1)
  record_live = live_content (root_of image 0) (size_of image 0) (8 * suc n + 1) (omega (arith, inside))

  record_under : IsUnderNodes image (root_of image 0) (suc (height_of (root_of image 0))) (8 * suc n + 1)
  record_under = wf.full_inode_file _ _ (live_above _ _ _ _ record_live)

  root_here : word image (address image base) ≡ root_of image (suc n)
  root_here =
      ap (word image) (address_from-digits image 2 (word image 2) refl (suc (height_of (word image 2))) (8 * suc n + 1) record_under)
      ∙ word-place_of image 2 (word image 2) refl (suc (height_of (word image 2))) (8 * suc n + 1) record_under

  base_long : length base ≡ suc (height_of (root_of image 0))
  base_long = length-digits (suc (height_of (root_of image 0))) (8 * suc n + 1)

  content_live : IsLiveWord (root_of image (suc n)) (size_of image (suc n)) (suc (height_of (root_of image (suc n)))) k
  content_live = live_content (root_of image (suc n)) (size_of image (suc n)) k below

  number : path_number base ≡ 8 * suc n + 1
  number = number-digits (root_of image 0) (size_of image 0) (suc (height_of (root_of image 0))) (8 * suc n + 1) inodes.fits record_live

  in_inodes : (e j : ℕ) → IsLivePointer (root_of image 0) (size_of image 0) e j → ((f : ℕ) → f < e → is_pointed image (take f (digits e j)) ≡ true) →
      is_there_after image change (digits e j) ≡ is_pointed image (digits e j)
  in_inodes e j live exists =
      ap (is_there image change) (reads-inodes (height_after image change) image (heights 0) inodes.fits e j live)
      ∙ there_live image change none none_grown 0 e j live ∙ sym (pointed_is image [] 2 (word image 2) refl refl e j exists)

  in_tree : (e j : ℕ) → IsLivePointer (root_of image (suc n)) (size_of image (suc n)) e j → ((f : ℕ) → f < e → is_pointed image (base ++ take f (digits e j)) ≡ true) →
      is_there_after image change (base ++ digits e j) ≡ is_pointed image (base ++ digits e j)
  in_tree e j live exists =
      let sound : IsSound image (root_of image (suc n)) (size_of image (suc n)) = wf.sound (suc n) reached in
      ap (is_there image change)
      (reads-tree (height_after image change) image (suc n) base (base_long ∙ ap suc (sym (heights 0))) (omega (arith, number)) (heights (suc n)) sound.fits e j live)
      ∙ there_live image change none none_grown (suc n) e j live ∙ sym (pointed_is image base (address image base) (root_of image (suc n)) refl root_here e j exists)

  pub word_agrees : (d : ℕ) → d < length (base ++ digits (suc (height_of (root_of image (suc n)))) k) →
      ((e : ℕ) → e < d → is_pointed image (take e (base ++ digits (suc (height_of (root_of image (suc n)))) k)) ≡ true) →
      is_there_after image change (take d (base ++ digits (suc (height_of (root_of image (suc n)))) k)) ≡ is_pointed image (take d (base ++ digits (suc (height_of (root_of image (suc n)))) k))
  word_agrees d low exists = go (cases_lt d (length base))
    where
      path : WordPath
      path = base ++ digits (suc (height_of (root_of image (suc n)))) k

      Agrees : WordPath → Type 0
      Agrees p = is_there_after image change p ≡ is_pointed image p

      early : (e : ℕ) → e ≤ length base → take e (base ++ digits (suc (height_of (root_of image (suc n)))) k) ≡ take e base
      early e less = take-append-le e base (digits (suc (height_of (root_of image (suc n)))) k) less

      go : (d < length base) ⊎ (length base ≤ d) → is_there_after image change (take d (base ++ digits (suc (height_of (root_of image (suc n)))) k)) ≡ is_pointed image (take d (base ++ digits (suc (height_of (root_of image (suc n)))) k))
      go (inl less) =
          let prefix = prefix_of (root_of image 0) (size_of image 0) (suc (height_of (root_of image 0))) (8 * suc n + 1) d record_live (omega (arith, less, base_long)) in
          let is : take d (base ++ digits (suc (height_of (root_of image (suc n)))) k) ≡ digits d prefix.number = early d (omega (arith, less)) ∙ prefix.same in
          rw is (in_inodes d prefix.number prefix.live (λ f small.
          ap (is_pointed image) (ap (take f) (sym is) ∙ take-take f d (base ++ digits (suc (height_of (root_of image (suc n)))) k) (omega (arith, small))) ∙ exists f small))
      go (inr past) =
          let deep : d - length base < suc (height_of (root_of image (suc n))) =
          omega (arith, low, past, length-append base (digits (suc (height_of (root_of image (suc n)))) k), length-digits (suc (height_of (root_of image (suc n)))) k) in
          let prefix = prefix_of (root_of image (suc n)) (size_of image (suc n)) (suc (height_of (root_of image (suc n)))) k (d - length base) content_live deep in
          let at : length base + (d - length base) ≡ d = omega (arith, past) in
          let is : take d (base ++ digits (suc (height_of (root_of image (suc n)))) k) ≡ base ++ digits (d - length base) prefix.number =
          ap (λ m. take m (base ++ digits (suc (height_of (root_of image (suc n)))) k)) (sym at) ∙ take-append-add base (digits (suc (height_of (root_of image (suc n)))) k) (d - length base) ∙ ap (λ p. base ++ p) prefix.same in
          rw is (in_tree (d - length base) prefix.number prefix.live (λ f small.
          let part : base ++ take f (digits (d - length base) prefix.number) ≡ take (length base + f) (base ++ digits (suc (height_of (root_of image (suc n)))) k) =
          sym (take-append-add base (digits (d - length base) prefix.number) f) ∙ ap (take (length base + f)) (sym is)
          ∙ take-take (length base + f) d (base ++ digits (suc (height_of (root_of image (suc n)))) k) (omega (arith, small, past)) in
          ap (is_pointed image) part ∙ exists (length base + f) (omega (arith, small, past))))

-- ---- a run alone, below the size

module _ {in_snapshot : ℕ → Bool} (image : Image) (wf : IsWellFormed image) (bound : ℕ → ℕ) (touched : Touched) (free : ℕ → Bool) (can : CanCommit image bound in_snapshot touched free) (run : Run) (n : ℕ) (one : touched.runs.now ≡ run ∷ []) (none : touched.words.now ≡ [])
    (reached : IsReached image (suc n)) (root : run.root.items ≡ inode_path (height_of (root_of image 0)) (suc n) 1) (height : run.height ≡ height_of (root_of image (suc n))) (some : 0 < length run.bytes.now)
    (below : run_end run ≤ size_of image (suc n)) where
  abbrev write : Change
  write = writes (suc n) run.offset (length run.bytes.now)

  abbrev word_path : WordPath
  word_path = inode_path (height_of (root_of image 0)) (suc n) 1 ++ digits (suc (height_of (root_of image (suc n)))) (run.offset / 8)

  begins : Begins (common_all (all_paths touched)) (run_path run (run.offset / 8))
  begins = all-begin (all_paths touched) (run_path run (run.offset / 8)) (has-of-run touched can.shape run (run.offset / 8) (subst (λ runs. Has runs run) (sym one) (inl refl)) (omega arith) (omega (arith, some)))

  path_is : run_path run (run.offset / 8) ≡ word_path
  path_is = ap (λ (p : WordPath). p ++ digits (suc run.height) (run.offset / 8)) root ∙ ap (λ h. inode_path (height_of (root_of image 0)) (suc n) 1 ++ digits (suc h) (run.offset / 8)) height

  prefix : (d : ℕ) → d ≤ length (common_all (all_paths touched)) → take d (common_all (all_paths touched)) ≡ take d word_path
  prefix d low = ap (take d) (sym begins.same) ∙ take-take d (length (common_all (all_paths touched))) (run_path run (run.offset / 8)) low ∙ ap (take d) path_is

  nothing : preparation image write ≡ []
  nothing = rw (not_above (size_of image (suc n)) (run.offset + length run.bytes.now) below) refl

  agree : (d : ℕ) → d < length (common_all (all_paths touched)) → ((e : ℕ) → e < d → is_pointed image (take e (common_all (all_paths touched))) ≡ true) →
      is_there_after image write (take d (common_all (all_paths touched))) ≡ is_pointed image (take d (common_all (all_paths touched)))
  agree d low exists =
      let long : length (common_all (all_paths touched)) ≤ length word_path = subst (λ (p : WordPath). length (common_all (all_paths touched)) ≤ length p) path_is begins.long in
      rw (prefix d (omega (arith, low)))
      (word_agrees image wf n reached write nothing refl (write_height image (suc n) run.offset (length run.bytes.now) below) (run.offset / 8) (omega (arith, below, some)) d (omega (arith, low, long))
      (λ e less. ap (is_pointed image) (sym (prefix e (omega (arith, less, low)))) ∙ exists e less))

  same_paths : all_paths touched ≡ layout.touched image write
  same_paths = run_touched image touched run n one none root height some below

  pub run_cover : commit_cover image touched ≡ layout.cover image write
  run_cover = change_cover image write touched same_paths agree

  pub run_need : copied_count image touched ≡ layout.need image write
  run_need = ap (λ (ps : List WordPath). length ps) (change_copies image write touched same_paths agree) ∙ sym (write_need image (suc n) run.offset (length run.bytes.now) below)
