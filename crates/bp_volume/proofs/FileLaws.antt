-- Calls that change the file at a path: why they are refused, and what they make of the plain tree.
use Rattle.std.proofs.Common.{arith, ◌≡◌, ◌≢◌, ℕ, ◌+◌, ◌≤◌, ◌<◌, ◌==◌, List, [], ◌∷◌, length, refl, sym, ◌∙◌, ap, ap₂, subst, Option, None, Some}
use Rattle.std.specs.Prelude.{not, ◌&&◌, nat_lt, unwrap_or, if◌then◌else◌}
use Rattle.std.proofs.lemmas.Bool.{lt-ltb, le-ltb, eq-eqb, ne_eqb}
use Rattle.std.proofs.lemmas.List.FromFn.{length-map-range_with_len}
use Rattle.bp_calls.specs.OnTrees.{GetsBytes, GetsSize}
use Rattle.bp_layout.specs.Inode.{attributes_of, kind_of, root_of, size_of}
use Rattle.bp_layout.specs.Lookup.{lookup}
use Rattle.bp_layout.specs.Paths.{Path, parse}
use Rattle.bp_layout.specs.Paths.Node.{dir, file}
use Rattle.bp_layout.specs.Formatted.{version_of}
use Rattle.bp_layout.specs.Need.{Change}
use Rattle.bp_layout.specs.Need.Change.{writes, resizes}
use Rattle.bp_layout.specs.Tree.{byte, content}
use Rattle.bp_layout.specs.Words.{Image}
use Rattle.bp_limits.specs.CallLimits.{greatest_size, greatest_write, max_write}
use Rattle.bp_limits.specs.declared.version.Version.{Version}
use Rattle.bp_limits.proofs.Versions.{size_least, write_most}
use Rattle.bp_plain.specs.Calls.{Refusal}
use Rattle.bp_plain.specs.Calls.Answer.{done, refused}
use Rattle.bp_plain.specs.Calls.Call.{write, truncate}
use Rattle.bp_plain.specs.Calls.Refusal.{is_dir, too_long, too_big}
use Rattle.bp_plain.specs.Plain.{refusal, file_refusal, on_path, on_parsed, first, when, is_dir_at, path_named, bytes_in, bytes_at, tree_after, with_content, with_written, resized}
use Rattle.bp_plain.specs.PlainTree.{FileTree}
use Rattle.bp_plain.specs.Stands.{Shows, Stands}
use Rattle.bp_fs.specs.Step.{IsChange, PathFinds}
use Rattle.bp_fs.specs.Step.IsChange.{by_write, by_truncate}
use Rattle.bp_volume.specs.Queries.{Refuses, RefusesFileAt, StopsAtFile, Answers, refusal_of_file}
use Rattle.bp_volume.proofs.ChangeLaws.{MakesChange}
use Rattle.bp_volume.proofs.StepLaws.{refused_steps, answer_steps}
use Rattle.bp_volume.proofs.WalkLaws.{node_at, dir_at, walk-found}

-- ---- the limits of a version

-- the bytes of one write are no more than any version's
pub short_enough : (version : Version) (new : List ℕ) → length new ≤ greatest_write version → length new ≤ max_write
short_enough version new short = omega (arith, write_most version, short)

-- and fewer than the greatest file has
pub short_of_size : (version : Version) (new : List ℕ) → length new ≤ greatest_write version → length new ≤ greatest_size version
short_of_size version new short = omega (arith, write_most version, size_least version, short)

-- ---- refusals by the path

module _ (tree : FileTree) (text : List ℕ) where
  -- a call on a file is refused as any call there, whatever comes after
  file_first : (others : Path → List (Option Refusal)) (why : Refusal) → on_path text (refusal_of_file tree) ≡ Some why → on_path text (λ p. first (file_refusal tree.now.nodes p ∷ others p)) ≡ Some why
  file_first others why stops = go (parse text) stops
    where
      go : (o : Option Path) → on_parsed o (refusal_of_file tree) ≡ Some why → on_parsed o (λ p. first (file_refusal tree.now.nodes p ∷ others p)) ≡ Some why
      go None e = e
      go (Some path) e = ap (λ o. first (o ∷ others path)) e

  -- those of a write after the number of its bytes
  abbrev too_far : ℕ → List ℕ → List (Option Refusal)
  too_far offset new = when (nat_lt 0 (length new) && nat_lt (greatest_size tree.version) (offset + length new)) too_big ∷ []

  refusal-write : (offset : ℕ) (new : List ℕ) → length new ≤ greatest_write tree.version → refusal tree (write text offset new) ≡ on_path text (λ p. first (file_refusal tree.now.nodes p ∷ too_far offset new))
  refusal-write offset new short =
      ap (λ b. on_path text (λ p. first (when b too_long ∷ file_refusal tree.now.nodes p ∷ too_far offset new))) (le-ltb (greatest_write tree.version) (length new) short)

module _ (image : Image) (text : List ℕ) where
  -- more bytes than the version writes at once
  pub write_too_long : (offset : ℕ) (new : List ℕ) (path : Path) → parse text ≡ Some path → greatest_write (version_of image) < length new → Refuses image (write text offset new) too_long
  write_too_long offset new path parsed long tree stands =
      ap (λ o. on_parsed o (λ p. first (when (nat_lt (greatest_write tree.version) (length new)) too_long ∷ file_refusal tree.now.nodes p ∷ too_far tree text offset new))) parsed
      ∙ ap (λ b. first (when b too_long ∷ file_refusal tree.now.nodes path ∷ too_far tree text offset new))
      (lt-ltb (greatest_write tree.version) (length new) (subst (λ v. greatest_write v < length new) (sym stands.version) long))

  pub write_stops : (offset : ℕ) (new : List ℕ) (path : Path) (why : Refusal) → parse text ≡ Some path → length new ≤ greatest_write (version_of image) → RefusesFileAt image path why → Refuses image (write text offset new) why
  write_stops offset new path why parsed short stops tree stands =
      refusal-write tree text offset new (subst (λ v. length new ≤ greatest_write v) (sym stands.version) short)
      ∙ file_first tree text (λ p. too_far tree text offset new) why (ap (λ o. on_parsed o (refusal_of_file tree)) parsed ∙ stops tree stands)

  pub truncate_stops : (size : ℕ) (why : Refusal) → StopsAtFile image text why → Answers image (truncate text size) (refused why)
  truncate_stops size why stops tree stands =
      refused_steps image tree (truncate text size) why (file_first tree text (λ p. when (nat_lt (greatest_size tree.version) size) too_big ∷ []) why (stops tree stands))

-- ---- a file that the path finds

module _ (image : Image) (text : List ℕ) (i : ℕ) (at : PathFinds image text i) (kind : kind_of image i ≡ 1) where
  abbrev had : List ℕ
  had = content image (root_of image i) (size_of image i)

  had_length : length had ≡ size_of image i
  had_length = length-map-range_with_len (byte image (root_of image i)) 0 (size_of image i)

  path_is : path_named text ≡ at.path
  path_is = ap (λ (o : Option Path). unwrap_or o []) at.parsed

  -- the text spells no other path
  pub same_file : (k : ℕ) → PathFinds image text k → k ≡ i
  same_file k other =
      let paths : ◌≡◌ {A = Option Path} (Some other.path) (Some at.path) = sym other.parsed ∙ at.parsed in
      let same : other.path ≡ at.path = cc in
      let found : ◌≡◌ {A = Option ℕ} (Some k) (Some i) = sym other.inode ∙ ap (lookup image) same ∙ at.inode in
      cc

  module _ (tree : FileTree) (stands : Stands image tree) where
    following : (others : Path → List (Option Refusal)) → on_path text (λ p. first (file_refusal tree.now.nodes p ∷ others p)) ≡ first (others at.path)
    following others =
        ap (λ o. on_parsed o (λ p. first (file_refusal tree.now.nodes p ∷ others p))) at.parsed
        ∙ ap (λ o. first (first (o ∷ when (is_dir_at tree.now.nodes at.path) is_dir ∷ []) ∷ others at.path)) (walk-found image tree stands at.path i at.inode)
        ∙ ap (λ b. first (first (when b is_dir ∷ []) ∷ others at.path)) (dir_at image tree stands at.path i at.inode ∙ ap (λ k. k == 2) kind)

    pub has_bytes : length (bytes_at tree.now.nodes (path_named text)) ≡ size_of image i
    has_bytes =
        ap (λ p. length (bytes_at tree.now.nodes p)) path_is
        ∙ ap (λ o. length (bytes_in o)) (node_at image tree stands at.path i at.inode ∙ ap (λ k. Some (if k == 1 then file (attributes_of image i) had else dir (attributes_of image i))) kind)
        ∙ had_length

  -- a write

  module _ (offset : ℕ) (new : List ℕ) where
    pub write_alike : (other : Change) → IsChange image (write text offset new) other → other ≡ writes i offset (length new)
    write_alike _ (by_write {i = k} finds) = ap (λ j. writes j offset (length new)) (same_file k finds)

    module _ (short : length new ≤ greatest_write (version_of image)) where
      write_left : (tree : FileTree) → Stands image tree → refusal tree (write text offset new) ≡ first (when (nat_lt 0 (length new) && nat_lt (greatest_size (version_of image)) (offset + length new)) too_big ∷ [])
      write_left tree stands =
          refusal-write tree text offset new (subst (λ v. length new ≤ greatest_write v) (sym stands.version) short)
          ∙ following tree stands (λ p. too_far tree text offset new)
          ∙ ap (λ v. first (when (nat_lt 0 (length new) && nat_lt (greatest_size v) (offset + length new)) too_big ∷ [])) stands.version

      pub write_too_big : 0 < length new → greatest_size (version_of image) < offset + length new → Answers image (write text offset new) (refused too_big)
      write_too_big some big tree stands =
          refused_steps image tree (write text offset new) too_big
          (write_left tree stands ∙ ap₂ (λ a b. first (when (a && b) too_big ∷ [])) (lt-ltb 0 (length new) some) (lt-ltb (greatest_size (version_of image)) (offset + length new) big))

      -- no bytes change nothing
      pub write_nothing : length new ≤ 0 → Answers image (write text offset new) done
      write_nothing none tree stands =
          answer_steps image tree (write text offset new) done
          (write_left tree stands ∙ ap (λ b. first (when (b && nat_lt (greatest_size (version_of image)) (offset + length new)) too_big ∷ [])) (le-ltb 0 (length new) none)) (le-ltb 0 (length new) none) refl

      pub write_makes : 0 < length new → offset + length new ≤ greatest_size (version_of image) → MakesChange image (write text offset new) (writes i offset (length new))
      write_makes some fits = record {
        is = by_write at;
        alike = write_alike;
        allowed = λ tree stands. write_left tree stands ∙ ap₂ (λ a b. first (when (a && b) too_big ∷ [])) (lt-ltb 0 (length new) some) (le-ltb (greatest_size (version_of image)) (offset + length new) fits);
        changing = λ tree stands. lt-ltb 0 (length new) some;
        says = λ tree. refl;
        stays = λ tree. refl;
      }

    pub write_shows : (after : Image) → GetsBytes i offset new image after → (tree : FileTree) → Stands image tree → Shows after (tree_after tree (write text offset new)).now
    write_shows after gets tree stands = subst (λ p. Shows after (with_written tree.now p offset new)) (sym path_is) (gets tree.now at.path stands.now at.inode)

  -- another size

  module _ (size : ℕ) where
    truncate_left : (tree : FileTree) → Stands image tree → refusal tree (truncate text size) ≡ first (when (nat_lt (greatest_size (version_of image)) size) too_big ∷ [])
    truncate_left tree stands =
        following tree stands (λ p. when (nat_lt (greatest_size tree.version) size) too_big ∷ []) ∙ ap (λ v. first (when (nat_lt (greatest_size v) size) too_big ∷ [])) stands.version

    pub truncate_too_big : greatest_size (version_of image) < size → Answers image (truncate text size) (refused too_big)
    truncate_too_big big tree stands =
        refused_steps image tree (truncate text size) too_big (truncate_left tree stands ∙ ap (λ b. first (when b too_big ∷ [])) (lt-ltb (greatest_size (version_of image)) size big))

    truncate_goes : size ≤ greatest_size (version_of image) → (tree : FileTree) → Stands image tree → refusal tree (truncate text size) ≡ None
    truncate_goes fits tree stands = truncate_left tree stands ∙ ap (λ b. first (when b too_big ∷ [])) (le-ltb (greatest_size (version_of image)) size fits)

    -- the size that it has changes nothing
    pub truncate_nothing : size ≤ greatest_size (version_of image) → size ≡ size_of image i → Answers image (truncate text size) done
    truncate_nothing fits same tree stands =
        answer_steps image tree (truncate text size) done (truncate_goes fits tree stands) (ap not (eq-eqb size (length (bytes_at tree.now.nodes (path_named text))) (same ∙ sym (has_bytes tree stands)))) refl

    truncate_alike : (other : Change) → IsChange image (truncate text size) other → other ≡ resizes i size
    truncate_alike _ (by_truncate {i = k} finds) = ap (λ j. resizes j size) (same_file k finds)

    pub truncate_makes : size ≤ greatest_size (version_of image) → size ≢ size_of image i → MakesChange image (truncate text size) (resizes i size)
    truncate_makes fits other = record {
      is = by_truncate at;
      alike = truncate_alike;
      allowed = truncate_goes fits;
      changing = λ tree stands. ap not (ne_eqb size (length (bytes_at tree.now.nodes (path_named text))) (λ e. other (e ∙ has_bytes tree stands)));
      says = λ tree. refl;
      stays = λ tree. refl;
    }

    pub truncate_shows : (after : Image) → GetsSize i size image after → (tree : FileTree) → Stands image tree → Shows after (tree_after tree (truncate text size)).now
    truncate_shows after gets tree stands = subst (λ p. Shows after (with_content tree.now p (resized (bytes_at tree.now.nodes p) size))) (sym path_is) (gets tree.now at.path stands.now at.inode)
