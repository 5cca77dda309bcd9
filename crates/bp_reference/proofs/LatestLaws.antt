-- The last of some trees, and trees in step with the log.
use Rattle.std.proofs.Common.{refl, sym, ◌∙◌, ap, ◌≡◌, ℕ, ◌+◌, ◌-◌, List, [], ◌∷◌, ◌++◌, length, take}
use Rattle.std.specs.Prelude.{None, Some, slice_get}
use Rattle.std.proofs.lemmas.List.{length-append}
use Rattle.pm_epochs.specs.declared.event.Event.{Event}
use Rattle.pm_epochs.specs.declared.event.Event.TheVariants.{Barrier, CallEnd, Store}
use Rattle.pm_epochs.specs.Log.{call_ends}
use Rattle.pm_epochs.proofs.CrashLaws.{call_ends-append}
use native.Mathlib.Numerals.{unary_clauses}
use Rattle.bp_plain.specs.PlainTree.{FileTree}
use Rattle.bp_reference.specs.ByTree.{call_events}
use Rattle.bp_fs.specs.WordLaws.{size-crashed, size-drained}
use Rattle.bp_reference.specs.Trees.{AreInStep, Trees, latest}
use Rattle.pm_epochs.specs.Replay.{PowerCut}
use Rattle.pm_region.specs.Memory.{Adds, Memory, crashed, drained}
use Rattle.pm_region.proofs.MemoryLaws.{adds_both}

pub latest-end : (durable : FileTree) (since : List FileTree) (tree : FileTree) → latest durable (since ++ tree ∷ []) ≡ tree
latest-end durable [] tree = refl
latest-end durable (first ∷ since) tree = latest-end first since tree

latest-at : (first : FileTree) (since : List FileTree) (tree : FileTree) → slice_get (first ∷ since) (length since) ≡ Some tree → latest first since ≡ tree
latest-at first [] tree is = cc
latest-at first (second ∷ since) tree is = latest-at second since tree is

pub latest-get : (durable : FileTree) (since : List FileTree) (tree : FileTree) → slice_get since (length since - 1) ≡ Some tree → latest durable since ≡ tree
latest-get durable [] tree is = absurd (cc)
latest-get durable (first ∷ since) tree is = latest-at first since tree (simp unary_clauses at is)

some_at : (first : FileTree) (since : List FileTree) → slice_get (first ∷ since) (length since) ≡ None → ⊥
some_at first [] is = absurd (cc)
some_at first (second ∷ since) is = some_at second since is

pub latest-none : (durable : FileTree) (since : List FileTree) → slice_get since (length since - 1) ≡ None → latest durable since ≡ durable
latest-none durable [] is = refl
latest-none durable (first ∷ since) is = elim (some_at first since (simp unary_clauses at is)) [ ]

-- A list whose last item could not be taken is empty.
pub no_items : (durable : FileTree) (since rest : List FileTree) (n : ℕ) → n ≡ 0 → rest ≡ take (n - 1) since → since ≡ rest ++ [] → latest durable since ≡ durable
no_items durable since rest n zero taken whole =
    let nothing : rest ≡ [] = taken ∙ ap (λ k. take (k - 1) since) zero in
    ap (latest durable) (whole ∙ ap (λ xs. xs ++ []) nothing)

-- One more tree, and one more call in the log.
pub counted_more : (since later : List FileTree) (tree : FileTree) (events more : List Event) → length since ≡ call_ends events → later ≡ since ++ tree ∷ [] → more ≡ events ++ call_events → length later ≡ call_ends more
counted_more since later tree events more counted one end = ap length one ∙ length-append since (tree ∷ []) ∙ ap (λ n. n + 1) counted ∙ sym (call_ends-append events call_events) ∙ ap call_ends (sym end)

-- The events of a call, one after another.
pub one_by_one : (m first second third : Memory) → Adds m first (Store 0 1 ∷ []) → Adds first second (Barrier ∷ []) → Adds second third (CallEnd ∷ []) → Adds m third call_events
one_by_one m first second third one two three = adds_both m second third _ _ (adds_both m first second _ _ one two) three

-- ---- after a drain, and after a crash

pub drained_in_step : (s : Trees) (memory : Memory) (durable : FileTree) (since : List FileTree) → AreInStep s → memory ≡ drained s.memory → since ≡ [] → AreInStep (record { memory = memory; durable = durable; since = since })
drained_in_step s memory durable since are is none = record {
  counted = ap length none ∙ sym (ap (λ (m : Memory). call_ends m.events) is);
  some = rw (is, size-drained s.memory) are.some;
  roomy = rw is are.roomy;
}

pub crashed_in_step : (s : Trees) (memory : Memory) (durable : FileTree) (since : List FileTree) (cut : PowerCut) → AreInStep s → memory ≡ crashed s.memory cut → since ≡ [] → AreInStep (record { memory = memory; durable = durable; since = since })
crashed_in_step s memory durable since cut are is none = record {
  counted = ap length none ∙ sym (ap (λ (m : Memory). call_ends m.events) is);
  some = rw (is, size-crashed s.memory cut) are.some;
  roomy = rw is are.roomy;
}
