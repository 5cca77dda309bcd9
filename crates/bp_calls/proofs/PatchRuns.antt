-- The runs of patches: they lie in files, and what a commit of them asks.
use Rattle.std.proofs.Common.{◌≡◌, ℕ, zero, suc, ◌+◌, ◌*◌, ◌<◌, ◌≤◌, List, [], ◌∷◌, ◌++◌, get_or, length, take, Bool, refl, sym, ◌∙◌, ap, subst, inl, inr, arith}
use Rattle.std.proofs.lemmas.List.{map-append, take_more}
use Rattle.bp_limits.specs.Limits.{max_height, max_pieces}
use Rattle.bp_limits.specs.CallLimits.{max_batch}
use Rattle.bp_layout.specs.Free.{AreFreeBlocks}
use Rattle.bp_layout.specs.Inode.{kind_of, root_of, size_of}
use Rattle.bp_layout.specs.Members.{Each, Has}
use Rattle.bp_layout.specs.Reached.{IsReached}
use Rattle.bp_layout.specs.WellFormed.{IsWellFormed}
use Rattle.bp_layout.specs.WordPaths.{inode_path}
use Rattle.bp_layout.specs.Words.{Image, height_of}
use Rattle.bp_changes.specs.Overwrites.{Patch}
use Rattle.bp_cow.specs.declared.touched.Run.{Run}
use Rattle.bp_cow.specs.declared.touched.Touched.{Touched}
use Rattle.bp_cow.specs.CanCommit.{CanCommit, IsTreeIn}
use Rattle.bp_cow.specs.Touched.{IsTouched, leaves_of}
use Rattle.bp_cow.proofs.CallerLaws.{runs_can}
use Rattle.bp_calls.specs.Overwritten.{AreRuns, IsPatchIn, byte_count, patch_seen, patches_seen}
use Rattle.bp_calls.specs.Overwritten.AreRuns.{none, empty, more}
use Rattle.bp_calls.specs.TouchedBelow.{IsRunFor}
use Rattle.bp_calls.specs.declared.batches.Patch.{Patch as GivenPatch}
use Rattle.bp_calls.proofs.RunCommits.{IsRunOf, run_in, run_is}
use Rattle.bp_cow.proofs.CallerLaws.{no_trees}

-- a run in the tree of a file, below its size
pub record IsInFile (image : Image) (run : Run) : Type 0 where
  pub inode : ℕ
  pub reached : IsReached image (suc inode)
  pub is_file : kind_of image (suc inode) ≡ 1
  pub of : IsRunOf image (suc inode) run

module _ (image : Image) where
  in_file : (patch : Patch) (run : Run) → IsPatchIn image patch → 1 ≤ length patch.bytes → length patch.bytes ≤ max_batch → IsRunFor image patch.inode patch.offset patch.bytes run → IsInFile image run
  in_file patch run is some short for_it = go patch.inode refl
    where
      count : length run.bytes.now ≡ length patch.bytes
      count = ap (λ (xs : List ℕ). length xs) for_it.bytes_are

      go : (i : ℕ) → patch.inode ≡ i → IsInFile image run
      go zero e = let one : kind_of image 0 ≡ 1 = subst (λ i. kind_of image i ≡ 1) e is.is_file in absurd (omega (arith, one))
      go (suc n) e = record {
        inode = n;
        reached = subst (IsReached image) e is.reached;
        is_file = subst (λ i. kind_of image i ≡ 1) e is.is_file;
        of = record {
          root = subst (λ i. run.root.items ≡ inode_path (height_of (root_of image 0)) i 1) e for_it.root;
          height = subst (λ i. run.height ≡ height_of (root_of image i)) e for_it.height;
          some = omega (arith, some, count);
          few = omega (arith, short, count);
          below = subst (λ i. run.offset + length run.bytes.now ≤ size_of image i) e (omega (arith, for_it.from, count, is.within));
          counts = subst (λ i. size_of image i ≤ run.size) e (omega (arith, for_it.size));
        };
      }

  pub runs_in : (patches : List Patch) (runs : List Run) → AreRuns image patches runs → Each (IsPatchIn image) patches → byte_count patches ≤ max_batch → (run : Run) → Has runs run → IsInFile image run
  runs_in _ _ none each short run has = absurd has
  runs_in _ _ (empty {patch} {patches} {runs} no_byte rest) each short run has = runs_in patches runs rest each.1 (omega (arith, short)) run has
  runs_in _ _ (more {patch} {patches} {run = first} {runs} some for_it rest) each short run (inl e) = subst (IsInFile image) e (in_file patch first each.0 some (omega (arith, short)) for_it)
  runs_in _ _ (more {patch} {patches} {run = first} {runs} some for_it rest) each short run (inr later) = runs_in patches runs rest each.1 (omega (arith, short)) run later

  -- ---- how many there are

  pub some_run : (patches : List Patch) (runs : List Run) → AreRuns image patches runs → 1 ≤ byte_count patches → (run : Run) × Has runs run
  some_run _ _ none some = absurd (omega (arith, some))
  some_run _ _ (empty {patch} {patches} {runs} no_byte rest) some = some_run patches runs rest (omega (arith, some, no_byte))
  some_run _ _ (more {patch} {patches} {run = first} {runs} here for_it rest) some = (first, inl refl)

  pub runs_few : (patches : List Patch) (runs : List Run) → AreRuns image patches runs → length runs ≤ length patches
  runs_few _ _ none = omega arith
  runs_few _ _ (empty {patch} {patches} {runs} no_byte rest) = omega (arith, runs_few patches runs rest)
  runs_few _ _ (more {patch} {patches} {run = first} {runs} here for_it rest) = omega (arith, runs_few patches runs rest)

  -- one leaf more than the bytes of a run fill, and one more where they begin and end in the midst of one
  pub leaves_few : (patches : List Patch) (runs : List Run) → AreRuns image patches runs → 4096 * leaves_of runs ≤ byte_count patches + 8190 * length patches
  leaves_few _ _ none = omega arith
  leaves_few _ _ (empty {patch} {patches} {runs} no_byte rest) = omega (arith, leaves_few patches runs rest)
  leaves_few _ _ (more {patch} {patches} {run = first} {runs} here for_it rest) =
      let count : length first.bytes.now ≡ length patch.bytes = ap (λ (xs : List ℕ). length xs) for_it.bytes_are in
      omega (arith, leaves_few patches runs rest, count, here)

  leaves_some : (runs : List Run) (run : Run) → Has runs run → 0 < leaves_of runs
  leaves_some [] run has = absurd has
  leaves_some (first ∷ runs) run has = omega arith

-- ---- what a commit asks

module _ (image : Image) (wf : IsWellFormed image) (patches : List Patch) (touched : Touched) (are : AreRuns image patches touched.runs.now) (none : touched.words.now ≡ []) (bare : touched.trees.now ≡ []) (few : length patches ≤ max_pieces) (each : Each (IsPatchIn image) patches)
    (some : 1 ≤ byte_count patches) (short : byte_count patches ≤ max_batch) where
  pub run_at : (run : Run) → Has touched.runs.now run → IsInFile image run
  run_at = runs_in image patches touched.runs.now are each short

  pub no_words : length touched.words.now ≡ 0
  no_words = ap (λ words. length words) none

  pub patches_shape : IsTouched touched
  patches_shape =
      let one = some_run image patches touched.runs.now are some in
      record {
        runs = λ run has. let at = run_at run has in run_is image wf at.inode at.reached run at.of;
        few_runs = omega (arith, few, runs_few image patches touched.runs.now are);
        trees = no_trees (λ tree. tree.height ≤ max_height) bare;
        few = omega (arith, no_words);
        words = λ i here. absurd (omega (arith, here, no_words));
        short = λ i here. absurd (omega (arith, here, no_words));
        slots = λ i d here. absurd (omega (arith, here, no_words));
        some = omega (arith, leaves_some image touched.runs.now one.0 one.1);
      }

  pub patches_can : {in_snapshot : ℕ → Bool} (free : ℕ → Bool) → AreFreeBlocks image in_snapshot free → CanCommit image (size_of image) in_snapshot touched free
  patches_can free exact =
      runs_can image wf touched patches_shape free exact (no_trees (IsTreeIn image (size_of image)) bare) no_words (λ run has. let at = run_at run has in run_in image wf at.inode at.reached run at.of)

-- ---- one patch after the other

-- a patch without a byte has no run
pub runs_pass : (image : Image) (patches : List Patch) (patch : Patch) (runs : List Run) → AreRuns image patches runs → length patch.bytes ≡ 0 → AreRuns image (patches ++ patch ∷ []) runs
runs_pass image _ patch _ none no_byte = empty no_byte none
runs_pass image _ patch _ (empty {patch = before} {patches} {runs} was rest) no_byte = empty was (runs_pass image patches patch runs rest no_byte)
runs_pass image _ patch _ (more {patch = before} {patches} {run} {runs} some for_it rest) no_byte = more some for_it (runs_pass image patches patch runs rest no_byte)

pub runs_more : (image : Image) (patches : List Patch) (patch : Patch) (runs : List Run) (run : Run) → AreRuns image patches runs → 1 ≤ length patch.bytes → IsRunFor image patch.inode patch.offset patch.bytes run →
    AreRuns image (patches ++ patch ∷ []) (runs ++ run ∷ [])
runs_more image _ patch _ run none here is = more here is none
runs_more image _ patch _ run (empty {patch = before} {patches} {runs} was rest) here is = empty was (runs_more image patches patch runs run rest here is)
runs_more image _ patch _ run (more {patch = before} {patches} {run = first} {runs} some for_it rest) here is = more some for_it (runs_more image patches patch runs run rest here is)

-- each of the patches of code lies in its file
pub patch_at : (image : Image) (patches : List GivenPatch) → Each (IsPatchIn image) (patches_seen patches) → (i : ℕ) (other : GivenPatch) → i < length patches → IsPatchIn image (patch_seen (get_or patches i other))
patch_at image [] each i other low = absurd (omega (arith, low))
patch_at image (patch ∷ patches) each zero other low = each.0
patch_at image (patch ∷ patches) each (suc i) other low = patch_at image patches each.1 i other (omega (arith, low))

-- the next one comes after those before it, and so does its run where it has a byte
module _ (image : Image) (patches : List GivenPatch) (i : ℕ) where
  next : (other : GivenPatch) → i < length patches → patches_seen (take (i + 1) patches) ≡ patches_seen (take i patches) ++ patch_seen (get_or patches i other) ∷ []
  next other low = ap patches_seen (take_more patches i other low) ∙ map-append patch_seen (take i patches) (get_or patches i other ∷ [])

  pub next_passes : (other : GivenPatch) (runs : List Run) → i < length patches → AreRuns image (patches_seen (take i patches)) runs → length (get_or patches i other).bytes.now ≡ 0 → AreRuns image (patches_seen (take (i + 1) patches)) runs
  next_passes other runs low are no_byte = subst (λ ps. AreRuns image ps runs) (sym (next other low)) (runs_pass image (patches_seen (take i patches)) (patch_seen (get_or patches i other)) runs are no_byte)

  pub next_run : (other : GivenPatch) (runs after : List Run) (run : Run) → i < length patches → AreRuns image (patches_seen (take i patches)) runs → after ≡ runs ++ run ∷ [] → 1 ≤ length (get_or patches i other).bytes.now →
      IsRunFor image (get_or patches i other).inode (get_or patches i other).offset (get_or patches i other).bytes.now run → AreRuns image (patches_seen (take (i + 1) patches)) after
  next_run other runs after run low are pushed some for_it =
      subst (AreRuns image (patches_seen (take (i + 1) patches))) (sym pushed)
      (subst (λ ps. AreRuns image ps (runs ++ run ∷ [])) (sym (next other low)) (runs_more image (patches_seen (take i patches)) (patch_seen (get_or patches i other)) runs run are some for_it))
