-- The effect of a script on an abstract tree that keeps the tree after each call until the call is durable.
use Rattle.std.specs.Prelude.{◌≡◌, ◌≤◌, ℕ, ◌⊎◌, List, [], ◌∷◌, ◌++◌, length, take, true, None}
use Rattle.bp_plain.specs.PlainTree.{FileTree}
use Rattle.bp_plain.specs.Calls.{Call, Answer}
use Rattle.bp_plain.specs.Calls.Call.{list, snap_list}
use Rattle.bp_plain.specs.Calls.Answer.{refused}
use Rattle.bp_plain.specs.Calls.Refusal.{no_space, no_memory}
use Rattle.bp_plain.specs.Plain.{plain, is_changing, refusal}
use Rattle.bp_replay.specs.Wanted.{Wanted}
use Rattle.bp_replay.specs.Wanted.Wanted.{all, nothing, at}
use Rattle.bp_script.specs.Commands.{Command}
use Rattle.bp_script.specs.Commands.Command.{file_call, sync, space, crash, storm, cache, log, bad_syntax, too_long}
use Rattle.bp_script.specs.Texts.{LineReply}
use Rattle.bp_script.specs.Texts.LineReply.{answered, synced, space_of, kept_of, log_of, bad_choice, syntax, long}

-- A call on an abstract tree. Besides the tree's own answer two others are possible: a call that changes the tree may
-- find no space, and a listing, of the tree or of its snapshot, may find no memory. Neither changes anything.
pub data PlainCall (tree : FileTree) : Call → Answer → FileTree → Type 0 where
  plainly : {call : Call} → PlainCall tree call (plain tree call).0 (plain tree call).1
  no_room : {call : Call} {needed free : ℕ} → is_changing tree call ≡ true
      → PlainCall tree call (refused (no_space needed free)) tree
  no_listing : {text : List ℕ} → refusal tree (list text) ≡ None → PlainCall tree (list text) (refused no_memory) tree
  no_snap_listing : {text : List ℕ} → refusal tree (snap_list text) ≡ None
      → PlainCall tree (snap_list text) (refused no_memory) tree

-- The durable tree, and the trees after each call since, in order.
pub record PlainState : Type 0 where
  pub certain : FileTree
  pub since : List FileTree

-- The current tree: the last of the trees since, or the durable one.
abbrev pub latest : FileTree → List FileTree → FileTree
latest certain [] = certain
latest certain (tree ∷ since) = latest tree since

-- The tree after the first `count` calls since the durable tree.
abbrev pub tree_at : FileTree → List FileTree → ℕ → FileTree
tree_at certain since count = latest certain (take count since)

abbrev pub fresh : FileTree → PlainState
fresh tree = record { certain = tree; since = [] }

abbrev pub tree_now : PlainState → FileTree
tree_now p = latest p.certain p.since

-- The tree that a crash leaves which keeps the first `count` calls.
abbrev pub after_crash : PlainState → ℕ → FileTree
after_crash p count = tree_at p.certain p.since count

abbrev pub with_call : PlainState → FileTree → PlainState
with_call p tree = record { certain = p.certain; since = p.since ++ tree ∷ [] }

-- ---- one line

-- A call on the current tree. It may first make all earlier calls durable.
pub record PlainCalls (old : PlainState) (call : Call) (reply : LineReply) (new : PlainState) : Type 0 where
  pub answer : Answer
  pub tree : FileTree
  pub reported : reply ≡ answered answer
  pub does : PlainCall (tree_now old) call answer tree
  pub goes_on : (new ≡ with_call old tree) ⊎ (new ≡ with_call (fresh (tree_now old)) tree)

pub record PlainReports (old : PlainState) (wanted reply : LineReply) (new : PlainState) : Type 0 where
  pub reported : reply ≡ wanted
  pub same : new ≡ old

-- Two block counts are replied, which the abstract tree does not determine.
pub record PlainSpace (old : PlainState) (reply : LineReply) (new : PlainState) : Type 0 where
  pub free : ℕ
  pub live : ℕ
  pub reported : reply ≡ space_of free live
  pub same : new ≡ old

-- A crash keeps the first `count` calls since the durable tree, and makes them durable. The reply has `count` and the
-- number of calls since.
pub record PlainCrashes (old : PlainState) (count : ℕ) (reply : LineReply) (new : PlainState) : Type 0 where
  pub few : count ≤ length old.since
  pub reported : reply ≡ kept_of count (length old.since)
  pub leaves : new ≡ fresh (after_crash old count)

-- A crash leaves only the durable tree: the calls that count as kept, the first `count`, changed nothing.
pub record PlainCrashesToNothing (old : PlainState) (reply : LineReply) (new : PlainState) : Type 0 where
  pub count : ℕ
  pub few : count ≤ length old.since
  pub unchanged : (earlier : ℕ) → earlier ≤ count → after_crash old earlier ≡ old.certain
  pub reported : reply ≡ kept_of count (length old.since)
  pub leaves : new ≡ fresh old.certain

-- A crash keeps the first calls; the abstract tree does not determine how many.
pub record PlainCrashesSomewhere (old : PlainState) (reply : LineReply) (new : PlainState) : Type 0 where
  pub count : ℕ
  pub crashes : PlainCrashes old count reply new

-- Three numbers of the log are replied. The abstract tree determines the last: the number of calls that are not
-- durable.
pub record PlainLog (old : PlainState) (reply : LineReply) (new : PlainState) : Type 0 where
  pub events : ℕ
  pub barriers : ℕ
  pub reported : reply ≡ log_of events barriers (length old.since)
  pub same : new ≡ old

-- The effect of each crash that a line can spell. A crash at a given point may be refused.
abbrev pub PlainCrash : PlainState → Wanted → LineReply → PlainState → Type 0
PlainCrash old all reply new = PlainCrashes old (length old.since) reply new
PlainCrash old nothing reply new = PlainCrashesToNothing old reply new
PlainCrash old (at moment epoch mask) reply new =
    PlainReports old bad_choice reply new ⊎ PlainCrashesSomewhere old reply new

abbrev pub PlainLine : PlainState → Command → LineReply → PlainState → Type 0
PlainLine old (file_call call) reply new = PlainCalls old call reply new
PlainLine old sync reply new = (reply ≡ synced) × (new ≡ fresh (tree_now old))
PlainLine old space reply new = PlainSpace old reply new
PlainLine old (crash wanted) reply new = PlainCrash old wanted reply new
PlainLine old (storm seed) reply new = PlainCrashesSomewhere old reply new
PlainLine old (cache seed) reply new =
    PlainReports old (answered (refused no_memory)) reply new ⊎ PlainCrashesSomewhere old reply new
PlainLine old log reply new = PlainLog old reply new
PlainLine old bad_syntax reply new = PlainReports old syntax reply new
PlainLine old too_long reply new = PlainReports old long reply new

abbrev pub PlainSession : PlainState → List Command → List LineReply → PlainState → Type 0
PlainSession old [] [] new = new ≡ old
PlainSession old [] (reply ∷ replies) new = ⊥
PlainSession old (command ∷ commands) [] new = ⊥
PlainSession old (command ∷ commands) (reply ∷ replies) new =
    (middle : PlainState) × PlainLine old command reply middle × PlainSession middle commands replies new

-- The reply reports lack of space.
abbrev pub ReportsNoSpace : LineReply → Type 0
ReportsNoSpace reply = (needed : ℕ) × (free : ℕ) × (reply ≡ answered (refused (no_space needed free)))
