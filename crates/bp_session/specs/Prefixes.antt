-- A session follows an abstract tree at its end, and after each of its lines.
use Rattle.std.specs.Prelude.{◌≡◌, List, ◌++◌}
use Rattle.bp_fs.specs.ByWords.{by_words}
use Rattle.bp_plain.specs.PlainTree.{FileTree}
use Rattle.bp_script.specs.Commands.{Command}
use Rattle.bp_script.specs.Texts.{LineReply}
use Rattle.bp_session.specs.Following.{IsPlainly}
use Rattle.bp_session.specs.Session.{Session, State}
use Rattle.pm_region.specs.Memory.{Memory}

-- The first commands of a session lead to a state of their own, from which the rest continues, and they are also a
-- session of the abstract tree.
pub record IsPrefix (tree : FileTree) (old : State Memory) (first rest : List Command) (replies : List LineReply)
    (new : State Memory) : Type 0 where
  pub middle : State Memory
  pub prefix : List LineReply
  pub following : List LineReply
  pub are : replies ≡ prefix ++ following
  pub session : Session by_words old first prefix middle
  pub later : Session by_words middle rest following new
  pub plainly : IsPlainly tree first prefix middle.system

-- A session is one of the abstract tree, at its end and after each of its lines.
pub record FollowsTree (tree : FileTree) (old : State Memory) (commands : List Command) (replies : List LineReply)
    (new : State Memory) : Type 0 where
  pub whole : IsPlainly tree commands replies new.system
  pub prefixes : (first rest : List Command) → commands ≡ first ++ rest → IsPrefix tree old first rest replies new
