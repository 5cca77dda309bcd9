-- Properties of whole sessions, in terms of an abstract tree.
use Rattle.std.specs.Prelude.{All, ◌≡◌, List, [], ◌++◌}
use Rattle.bp_fs.specs.ByWords.{by_words}
use Rattle.bp_plain.specs.Export.{without_snapshot}
use Rattle.bp_plain.specs.PlainTree.{FileTree, empty_tree}
use Rattle.bp_plain.specs.Stands.{Stands}
use Rattle.bp_roles.specs.Mounted.{by_roles, served_words}
use Rattle.bp_script.specs.Commands.{Command}
use Rattle.bp_script.specs.Export.{export_text}
use Rattle.bp_script.specs.Texts.{LineReply}
use Rattle.bp_session.specs.Lines.{commands_from}
use Rattle.bp_session.specs.PlainSession.{PlainSession, PlainState, ReportsNoSpace, after_crash, fresh}
use Rattle.bp_session.specs.Following.{FollowsPlainState}
use Rattle.bp_session.specs.Session.{Session, State}
use Rattle.pm_epochs.specs.Replay.{IsRight, PowerCut, kept_calls, replay}
use Rattle.pm_region.specs.Memory.{Memory}

-- A session over words that represent the tree to a mount, from an empty log, is one of the abstract tree, and its words
-- follow that tree afterwards.
abbrev pub IsOfTree : FileTree → State Memory → List Command → List LineReply → State Memory → Type 0
IsOfTree tree old commands replies new =
    old.system.events ≡ [] → Stands (by_roles old.system.base) tree → Session by_words old commands replies new →
    (plain : PlainState) × PlainSession (fresh tree) commands replies plain × FollowsPlainState new.system plain

-- A session whose words follow an abstract tree at its beginning is one of that tree, and its words follow the tree
-- afterwards.
abbrev pub StaysPlain : PlainState → State Memory → List Command → List LineReply → State Memory → Type 0
StaysPlain plain old commands replies new =
    FollowsPlainState old.system plain → Session by_words old commands replies new →
    (after : PlainState) × PlainSession plain commands replies after × FollowsPlainState new.system after

-- A crash at any point of the log leaves words that represent to a mount the tree after the calls that the crash keeps.
abbrev pub LeavesTrees : Memory → PlainState → Type 0
LeavesTrees memory plain = (cut : PowerCut) → IsRight memory.events cut →
    Stands (by_roles (replay memory.base memory.events cut)) (after_crash plain (kept_calls memory.events cut))

-- A session over words that represent the tree, from an empty log, is one of the abstract tree, and any crash at its
-- end leaves one of that tree's trees.
abbrev pub KeepsCalls : FileTree → State Memory → List Command → List LineReply → State Memory → Type 0
KeepsCalls tree old commands replies new =
    old.system.events ≡ [] → Stands (by_roles old.system.base) tree → Session by_words old commands replies new →
    (plain : PlainState) × PlainSession (fresh tree) commands replies plain × LeavesTrees new.system plain

-- A session over two lists of commands splits: one over the first list leads to a state from which one over the
-- second continues.
abbrev pub SplitsAt : State Memory → List Command → List Command → List LineReply → State Memory → Type 0
SplitsAt old first rest replies new = Session by_words old (first ++ rest) replies new →
    (middle : State Memory) × (prefix : List LineReply) × (following : List LineReply) × (replies ≡ prefix ++ following)
    × Session by_words old first prefix middle × Session by_words middle rest following new

-- A session over the tree's export, from an empty file system and an empty log, in which no reply reports lack of
-- space, ends in the tree without its snapshot.
abbrev pub ExportMakesTree : FileTree → State Memory → List LineReply → State Memory → Type 0
ExportMakesTree tree old replies new =
    old.system.events ≡ [] → Stands (by_roles old.system.base) (empty_tree tree.version) →
    Session by_words old (commands_from [] (export_text tree)) replies new → All (λ reply. ¬ ReportsNoSpace reply) replies →
    Stands (served_words new.system) (without_snapshot tree)
