-- The task of a commit, independent of the code's types.
use Rattle.std.specs.Prelude.{◌≡◌, ℕ, zero, suc, ◌+◌, ◌<◌, ◌≤◌, List, [], ◌∷◌, length, Bool, false, ◌&&◌, ◌||◌, ◌==◌, nat_le, nat_lt, Option, None, Some, bytes_eq, if◌then◌else◌}
use Rattle.bp_layout.specs.Words.{Image}
use Rattle.bp_changes.specs.Trail.{Trail, word_on, trail_of}
use Rattle.bp_cow.specs.Copies.{WordPatch}

-- The task of a commit. A way is the path of the pointer to a block with touched words: first come the ways to the
-- leaves of the runs, then those to the words. Several ways may lead to one block. `patch` is the change of each leaf;
-- `slot` and `value` belong to the words; `live` is how many words count in the block at a depth of a way.
pub record Job : Type 0 where
  pub way : ℕ → List ℕ
  pub leaves : ℕ
  pub words : ℕ
  pub patch : ℕ → WordPatch
  pub slot : ℕ → ℕ
  pub value : ℕ → ℕ
  pub live : ℕ → ℕ → ℕ

abbrev pub ways : Job → ℕ
ways job = job.leaves + job.words

-- the trail of the first `depth` slots of a way
abbrev pub prefix : Job → ℕ → ℕ → Trail
prefix job i depth = trail_of (job.way i) depth

-- the trail of a whole way
abbrev pub end_of : Job → ℕ → Trail
end_of job i = trail_of (job.way i) (length (job.way i))

-- the trail of a word
abbrev pub word_trail : Job → ℕ → Trail
word_trail job i = job.slot i ∷ end_of job (job.leaves + i)

-- one of the first `count` ways has this trail as a prefix, which is at least as long as the cover
pub record IsBegun (job : Job) (from count : ℕ) (q : Trail) : Type 0 where
  pub which : ℕ
  pub depth : ℕ
  pub early : which < count
  pub low : from ≤ depth
  pub high : depth ≤ length (job.way which)
  pub same : q ≡ prefix job which depth

-- the pointers that lead to copies so far: that of the cover, those on the first `i` ways, and those on way `i` up to a
-- depth
pub data IsRenewed (job : Job) (from i depth : ℕ) (q : Trail) : Type 0 where
  is_cover : q ≡ prefix job 0 from → IsRenewed job from i depth q
  is_begun : IsBegun job from i q → IsRenewed job from i depth q
  is_proper_prefix : (count : ℕ) → from < count → count ≤ depth → q ≡ prefix job i count → IsRenewed job from i depth q

-- the value of the last of the first words that has this trail
abbrev pub value_upto : Job → ℕ → Trail → Option ℕ
value_upto job zero q = None
value_upto job (suc i) q = if bytes_eq q (word_trail job i) then Some (job.value i) else value_upto job i q

-- a word after the changes of the first leaves that have it
abbrev pub laid_upto : Image → Job → ℕ → Trail → ℕ
laid_upto old job zero q = word_on old q
laid_upto old job (suc j) [] = word_on old []
laid_upto old job (suc j) (slot ∷ p) =
    if bytes_eq p (end_of job j) then job.patch j slot (word_on old (slot ∷ p)) else laid_upto old job j (slot ∷ p)

abbrev pub laid_on : Image → Job → Trail → ℕ
laid_on old job q = laid_upto old job job.leaves q

-- the change of the block at a depth of a way: that of a leaf at the end of its way, else none
abbrev pub patch_at : Job → ℕ → ℕ → WordPatch
patch_at job i depth slot old =
    if nat_lt i job.leaves && (depth == length (job.way i)) then job.patch i slot old else old

-- whether one of the first ways, as many as given, has this trail as a prefix
abbrev pub begins : Job → ℕ → ℕ → Trail → Bool
begins job from zero q = false
begins job from (suc i) q = begins job from i q || (nat_le from (length q) && nat_le (length q) (length (job.way i))
    && bytes_eq q (prefix job i (length q)))

-- 1 if a pointer on a way is set for this way, because no earlier way has it; else 0
abbrev pub turns_at : Job → ℕ → ℕ → ℕ → ℕ
turns_at job from i depth = if begins job from i (prefix job i depth) then 0 else 1

-- the number of pointers below the cover that are set for a way, up to a depth
abbrev pub turned_for : Job → ℕ → ℕ → ℕ → ℕ
turned_for job from i zero = 0
turned_for job from i (suc depth) =
    turned_for job from i depth + (if nat_le from depth then turns_at job from i (suc depth) else 0)

-- the number of pointers below the cover that are set for the first ways: each counts once, at the first way that has
-- it
abbrev pub turned_upto : Job → ℕ → ℕ → ℕ
turned_upto job from zero = 0
turned_upto job from (suc i) = turned_upto job from i + turned_for job from i (length (job.way i))

-- the number of copies: the pointers that are set for all ways, and that of the cover
abbrev pub copies : Job → ℕ → ℕ
copies job from = suc (turned_upto job from (ways job))

-- the pointers that lead to copies: the prefixes of ways from the cover on; none if the cover is itself the only
-- touched word
pub record IsTurned (job : Job) (from : ℕ) (q : Trail) : Type 0 where
  pub copies : from ≤ length (job.way 0)
  pub renewed : IsRenewed job from (ways job) from q

-- the number of blocks that a commit copies if its cover has `from` slots
abbrev pub copies_at : Job → ℕ → ℕ
copies_at job from = if nat_le from (length (job.way 0)) then copies job from else 0
