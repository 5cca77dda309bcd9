-- How the words of a region follow an abstract tree, as a mount sees them: now, after each call, and after a crash at
-- any point.
use Rattle.std.specs.Prelude.{◌≡◌, ℕ, List, length}
use Rattle.pm_epochs.specs.Log.{call_ends}
use Rattle.pm_epochs.specs.Replay.{PowerCut, IsRight, replay, kept_calls, after_calls}
use Rattle.pm_region.specs.Memory.{Memory}
use Rattle.bp_plain.specs.PlainTree.{FileTree}
use Rattle.bp_plain.specs.Stands.{Stands}
use Rattle.bp_roles.specs.Mounted.{by_roles, served_words}
use Rattle.bp_script.specs.Commands.{Command}
use Rattle.bp_script.specs.Texts.{LineReply}
use Rattle.bp_session.specs.PlainSession.{PlainSession, PlainState, after_crash, fresh, tree_now}

-- To a mount the words represent the current tree, and after a crash at any point they represent the tree after the
-- calls that the crash keeps.
pub record FollowsPlainState (memory : Memory) (p : PlainState) : Type 0 where
  pub now : Stands (served_words memory) (tree_now p)
  pub calls : call_ends memory.events ≡ length p.since
  pub after : (count : ℕ) → Stands (by_roles (after_calls memory.base memory.events count)) (after_crash p count)
  pub crash : (cut : PowerCut) → IsRight memory.events cut
      → Stands (by_roles (replay memory.base memory.events cut)) (after_crash p (kept_calls memory.events cut))

-- These are the replies of an abstract tree to these commands, and the words follow the tree afterwards.
pub record IsPlainly (tree : FileTree) (commands : List Command) (replies : List LineReply)
    (memory : Memory) : Type 0 where
  pub plain : PlainState
  pub session : PlainSession (fresh tree) commands replies plain
  pub follows : FollowsPlainState memory plain
