-- The run of a new name.
use Rattle.std.proofs.Common.{◌≡◌, ◌⊎◌, ℕ, ◌+◌, ◌*◌, ◌<◌, ◌≤◌, List, length, take, slice_index, ◌∙◌, ap, arith, inl, inr}
use Rattle.std.proofs.lemmas.Bool.{cases_lt}
use Rattle.std.proofs.lemmas.List.{get_or_past, get_or-take, length-take}
use Rattle.bp_layout.specs.Paths.{Name}
use Rattle.bp_layout.specs.Inode.{root_of, size_of}
use Rattle.bp_layout.specs.WordPaths.{inode_path}
use Rattle.bp_layout.specs.Words.{Image, height_of}
use Rattle.bp_limits.specs.CallLimits.{max_name}
use Rattle.bp_cow.specs.declared.touched.Run.{Run}
use Rattle.bp_rename.specs.Respelled.{IsNameRun, IsRespelled, respelled_length}

small_prefix : (n : ℕ) (xs : List ℕ) → ((i : ℕ) → slice_index xs i < 256) → (at : ℕ) → slice_index (take n xs) at < 256
small_prefix n xs small at = go (cases_lt at n)
  where
    go : (at < n) ⊎ (n ≤ at) → slice_index (take n xs) at < 256
    go (inl low) = rw (get_or-take n xs at 0 low) (small at)
    go (inr past) = let none : slice_index (take n xs) at ≡ 0 = get_or_past (take n xs) at 0 (omega (arith, past, length-take n xs)) in omega (arith, none)

pub is_name_run : {run : Run} → (image : Image) (i slot : ℕ) (name : Name) (bytes : List ℕ) →
    run.root.items ≡ inode_path (height_of (root_of image 0)) i 1 → run.height ≡ height_of (root_of image i) → run.size ≡ size_of image i → run.offset ≡ 256 * slot + 8 →
    run.bytes.now ≡ take (respelled_length name) bytes → length bytes ≡ max_name + 8 → length name ≤ max_name → IsRespelled name bytes → ((at : ℕ) → slice_index bytes at < 256) →
    IsNameRun image i slot name run
is_name_run image i slot name bytes root height size from part whole short are small = record {
  root = root;
  height = height;
  size = size;
  from = from;
  count = ap (λ (xs : List ℕ). length xs) part ∙ length-take (respelled_length name) bytes ∙ omega (arith, whole, short);
  bytes_are = λ at low. ap (λ (xs : List ℕ). slice_index xs at) part ∙ get_or-take (respelled_length name) bytes at 0 low ∙ are at (omega (arith, low, short));
  small = λ at. rw part (small_prefix (respelled_length name) bytes small at);
}
