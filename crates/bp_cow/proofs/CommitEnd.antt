-- The two ways in which a commit ends.
use Rattle.std.proofs.Common.{◌≡◌, ◌⊎◌, ℕ, suc, ◌+◌, ◌-◌, ◌*◌, ◌/◌, ◌<◌, ◌≤◌, ◌∷◌, [], length, Bool, true, false, set, refl, sym, ◌∙◌, ap, subst, arith, inl, inr}
use Rattle.std.specs.List.{slice_index}
use Rattle.std.specs.Prelude.{nat_le}
use Rattle.std.proofs.lemmas.Bool.{le-leb, leb-true}
use Rattle.pm_epochs.specs.Crash.{commit}
use Rattle.pm_epochs.proofs.CrashLaws.{quiet_none}
use Rattle.pm_epochs.proofs.PieceLaws.{IsPiece-commit, IsPiece-more}
use Rattle.pm_region.specs.Memory.{Memory, current_words, Adds}
use Rattle.pm_region.proofs.MemoryLaws.{current_words-adds}
use Rattle.bp_free.specs.Set.{Set, has, members}
use Rattle.bp_layout.specs.Words.{Image, word}
use Rattle.bp_layout.specs.WellFormed.{IsWellFormed}
use Rattle.bp_layout.specs.Same.{Same}
use Rattle.bp_changes.specs.Forest.{IsExactSet, IsTreePointer}
use Rattle.bp_changes.specs.Trail.{Trail, word_on, block_on, place_on, trail_of}
use Rattle.bp_layout.proofs.SameLaws.{same_self}
use Rattle.bp_changes.proofs.ExactSets.{unheld_exact}
use Rattle.bp_cow.specs.Counting.{IsTreeWord}
use Rattle.bp_cow.specs.declared.touched.Touched.{Touched}
use Rattle.bp_cow.specs.declared.covers.FoundCover.{FoundCover}
use Rattle.bp_cow.specs.Adds.{AddsCopyCommit}
use Rattle.bp_cow.specs.Job.{Job, ways, copies, copies_at, IsRenewed, IsTurned}
use Rattle.bp_cow.specs.Plan.{Plan}
use Rattle.bp_cow.specs.Turned.{HasTurned}
use Rattle.bp_cow.specs.Committed.{IsCommitted, after_commit}
use Rattle.bp_cow.specs.Touched.{job_of, only_value}
use Rattle.bp_cow.specs.Cover.{end_path, BeginAlike, CoverHas}
use Rattle.bp_cow.specs.Found.{IsAt}
use Rattle.bp_cow.specs.CanCommit.{CanCommit}
use Rattle.bp_cow.proofs.CoverLaws.{at-word, some-ends}
use Rattle.bp_cow.proofs.WaysAlike.{can_build, first-length}
use Rattle.bp_cow.proofs.OnlyWord.{IsOnePath}
use Rattle.bp_cow.proofs.InPlace.{in_place}
use Rattle.bp_cow.proofs.StageEnd.{stage_committed}

-- What a commit does, stated by the code's numbers: the slots of the cover, and the set of the blocks that are free after the last store.
pub record CommitsCopies (bound : ℕ → ℕ) (in_snapshot : ℕ → Bool) (touched : Touched) (old new : Memory) (blocks blocks_after : Set) : Type 0 where
  pub cover : ℕ
  pub has_cover : CoverHas (current_words old) touched cover
  pub taken : Set
  pub count : length (members blocks) ≡ length (members taken) + copies_at (job_of touched) cover
  pub size : length taken ≡ length blocks
  pub commit : AddsCopyCommit (has blocks) (has taken) (place_on (current_words old) (trail_of (end_path touched 0) cover)) (513 * copies_at (job_of touched) cover + length touched.words.now + 1) old new
  pub words : IsCommitted (current_words old) (current_words new) (IsTreePointer (current_words old) bound) (IsTreeWord (current_words old) bound) (IsTurned (job_of touched) cover) (after_commit (current_words old) (job_of touched))
  pub exact : IsExactSet (current_words new) (IsTreePointer (current_words old) bound) in_snapshot (has blocks_after)

-- the same pointers under another name
committed_same : (old new : Image) (Pointer Counts turned other : Trail → Type 0) (after : Trail → ℕ) → ((q : Trail) → turned q → other q) → ((q : Trail) → other q → turned q) →
    IsCommitted old new Pointer Counts turned after → IsCommitted old new Pointer Counts other after
committed_same old new Pointer Counts turned other after to from stage = record {
  whole = stage.whole;
  superblock = stage.superblock;
  skeleton = stage.skeleton;
  kept = λ p l none. stage.kept p l (λ t. none (to p t));
  bits = stage.bits;
  fresh = λ p l t. stage.fresh p l (from p t);
  words = λ p slot l low none counts. stage.words p slot l low (λ t. none (to (slot ∷ p) t)) counts;
  decide = λ p. decide p (stage.decide p);
  pointers = λ p t. stage.pointers p (from p t);
}
  where
    decide : (p : Trail) → turned p ⊎ (turned p → ⊥) → other p ⊎ (other p → ⊥)
    decide p (inl t) = inl (to p t)
    decide p (inr none) = inr (λ t. none (from p t))

pub copied-some : (job : Job) (from : ℕ) → from ≤ length (job.way 0) → copies_at job from ≡ copies job from
copied-some job from low = let test : nat_le from (length (job.way 0)) ≡ true = le-leb from (length (job.way 0)) low in rw test refl

pub copied-none : (job : Job) (from : ℕ) → length (job.way 0) < from → copies_at job from ≡ 0
copied-none job from low = go (nat_le from (length (job.way 0))) refl
  where
    go : (x : Bool) → nat_le from (length (job.way 0)) ≡ x → copies_at job from ≡ 0
    go false e = rw e refl
    go true e = absurd (omega (arith, low, leb-true from (length (job.way 0)) e))

-- a larger bound on the stores
looser : (start taken : ℕ → Bool) (place most all : ℕ) (old new : Memory) → most ≤ all → AddsCopyCommit start taken place most old new → AddsCopyCommit start taken place all old new
looser start taken place most all old new few done = record {
  value = done.value;
  commit = record {
    prepared = done.commit.prepared;
    adds = done.commit.adds;
    quiet = done.commit.quiet;
    piece = IsPiece-more 2 most 2 all _ (omega arith) few done.commit.piece;
  };
  only = done.only;
  each = done.each;
  fewer = done.fewer;
}

-- ---- the cover is the only touched word

module _ {in_snapshot : ℕ → Bool} {bound : ℕ → ℕ} {touched : Touched} {last : Memory} {found : FoundCover} (first : Memory) (blocks : Set) (wf : IsWellFormed (current_words first))
    (can : CanCommit (current_words first) bound in_snapshot touched (has blocks)) (at : IsAt (current_words first) touched found) (longest : CoverHas (current_words first) touched found.len)
    (past : length ((job_of touched).way 0) < found.len)
    (adds : Adds first last (commit found.place (only_value touched (word (current_words first) found.place)))) where
  abbrev old : Image
  old = current_words first

  m : ℕ
  m = found.len - 1

  up-is : suc m ≡ found.len
  unfolding m
  up-is = omega (arith, past)

  way-is : length ((job_of touched).way 0) ≡ m
  unfolding m
  way-is = let long = at.alike.long 0 (some-ends touched can.shape) in omega (arith, past, long, first-length can)

  alone : IsOnePath touched m
  alone = record { alike = subst (BeginAlike touched) (sym up-is) at.alike; long = way-is }

  value-is : only_value touched (word old found.place) ≡ only_value touched (word_on old (slice_index (end_path touched 0) m ∷ trail_of (end_path touched 0) m))
  value-is = ap (only_value touched) (at-word old touched found at ∙ ap (λ n. word_on old (trail_of (end_path touched 0) n)) (sym up-is))

  place-is : 512 * block_on old (trail_of (end_path touched 0) m) + slice_index (end_path touched 0) m ≡ found.place
  place-is = ap (λ n. place_on old (trail_of (end_path touched 0) n)) up-is ∙ at.place

  last-is : set old found.place (only_value touched (word old found.place)) ≡ current_words last
  last-is = sym (current_words-adds first last _ adds)

  committed : IsCommitted old (current_words last) (IsTreePointer old bound) (IsTreeWord old bound) (λ q. ⊥) (after_commit old (job_of touched))
  committed =
      subst (λ (ws : Image). IsCommitted old ws (IsTreePointer old bound) (IsTreeWord old bound) (λ q. ⊥) (after_commit old (job_of touched))) (ap (λ p. set old p (only_value touched (word old found.place))) place-is ∙ last-is)
      (in_place can alone wf (λ k low. at.exists k (subst (λ n. k < n) up-is low)) (only_value touched (word old found.place)) value-is)

  same-block : (p : Trail) → IsTreePointer old bound p → block_on (current_words last) p ≡ block_on old p
  same-block p live = ap (λ w. w / 4096) (committed.kept p live (λ none. none))

  exact-old : IsExactSet old (IsTreePointer old bound) in_snapshot (has blocks)
  exact-old = unheld_exact old bound can.forest in_snapshot (has blocks) can.exact

  exact-still : IsExactSet (current_words last) (IsTreePointer old bound) in_snapshot (has blocks)
  exact-still = record {
    live = λ b one. exact-old.live b (record { trail = one.trail; pointer = one.pointer; named = sym (same-block one.trail one.pointer) ∙ one.named; not_null = one.not_null });
    dead = λ b low high none loose. exact-old.dead b low (subst (λ n. b < n / 512) committed.whole high) (λ one. none (record { trail = one.trail; pointer = one.pointer; named = same-block one.trail one.pointer ∙ one.named; not_null = one.not_null })) loose;
    in_range = λ b is. let range = exact-old.in_range b is in (range.0, subst (λ n. b < n / 512) (sym committed.whole) range.1);
    loose = exact-old.loose;
  }

  pub commits_one : CommitsCopies bound in_snapshot touched first last blocks blocks
  commits_one = record {
    cover = found.len;
    has_cover = longest;
    taken = blocks;
    count = omega (arith, copied-none (job_of touched) found.len past);
    size = refl;
    commit = record {
      value = only_value touched (word old found.place);
      commit = record {
        prepared = [];
        adds = subst (λ p. Adds first last (commit p (only_value touched (word old found.place)))) (sym at.place) adds;
        quiet = quiet_none Same old (same_self old wf);
        piece = IsPiece-more 2 1 2 (513 * copies_at (job_of touched) found.len + length touched.words.now + 1) _ (omega arith) (omega arith) (IsPiece-commit _ _);
      };
      only = tt;
      each = λ b was gone. absurd (clash (has blocks b) was gone);
      fewer = λ b is. is;
    };
    words = committed_same old (current_words last) (IsTreePointer old bound) (IsTreeWord old bound) (λ q. ⊥) (IsTurned (job_of touched) found.len) _ (λ q none. absurd none)
        (λ q t. let low = t.copies in absurd (omega (arith, low, past))) committed;
    exact = exact-still;
  }
    where
      clash : (b : Bool) → b ≡ true → b ≡ false → ⊥
      clash b one two = absurd (cc)

-- ---- the cover is a pointer, and blocks are copied

abbrev plan_of : (ℕ → ℕ) → (ℕ → Bool) → Touched → Memory → Set → ℕ → ℕ → (ℕ → Bool) → Plan
plan_of bound in_snapshot touched first blocks place top free =
    record { old = current_words first; bound = bound; in_snapshot = in_snapshot; free = has blocks; job = job_of touched; place = place; top = top; free_after = free }

module _ {in_snapshot : ℕ → Bool} {bound : ℕ → ℕ} {touched : Touched} {first last : Memory} {blocks after taken : Set} {found : FoundCover} (wf : IsWellFormed (current_words first))
    (can : CanCommit (current_words first) bound in_snapshot touched (has blocks)) (at : IsAt (current_words first) touched found) (longest : CoverHas (current_words first) touched found.len)
    (short : found.len ≤ length ((job_of touched).way 0)) (top : ℕ) (free : ℕ → Bool) where
  pub commits_turned : HasTurned (plan_of bound in_snapshot touched first blocks found.place top free) touched found.len found.place blocks taken first last → IsExactSet (current_words last) (IsTreePointer (current_words first) bound) in_snapshot (has after) →
      CommitsCopies bound in_snapshot touched first last blocks after
  commits_turned done exact =
      let same : copies_at (job_of touched) found.len ≡ copies (job_of touched) found.len = copied-some (job_of touched) found.len short in
      record {
        cover = found.len;
        has_cover = longest;
        taken = taken;
        count = omega (arith, done.count, same);
        size = done.size;
        commit = subst (λ p. AddsCopyCommit (has blocks) (has taken) p (513 * copies_at (job_of touched) found.len + length touched.words.now + 1) first last) (sym at.place)
            (looser (has blocks) (has taken) found.place _ _ first last (omega (arith, same)) done.commit);
        words = committed_same (current_words first) (current_words last) (IsTreePointer (current_words first) bound) (IsTreeWord (current_words first) bound) (IsRenewed (job_of touched) found.len (ways (job_of touched)) found.len) (IsTurned (job_of touched) found.len) _
            (λ q n. record { copies = short; renewed = n }) (λ q t. t.renewed)
            (stage_committed (plan_of bound in_snapshot touched first blocks found.place top free) found.len (current_words last) (has taken) (can_build can found.len at.alike short wf found.place at.exists at.place) done.stage);
        exact = exact;
      }
