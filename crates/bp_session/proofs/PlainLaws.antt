-- A session is one of a plain file tree.
use Rattle.std.proofs.Common.{zero, suc, refl, sym, ◌∙◌, ap, arith, ◌≡◌, ℕ, ◌≤◌, ◌<◌, List, [], ◌∷◌, ◌++◌, length, take, Bool, true, false, inl, inr}
use Rattle.std.proofs.lemmas.List.{length-append}
use Rattle.pm_epochs.specs.declared.event.Event.{Event}
use Rattle.pm_epochs.specs.declared.event.Event.TheVariants.{Store, Barrier, CallEnd}
use Rattle.pm_epochs.specs.Log.{barriers, call_ends, up_to_call_end}
use Rattle.pm_epochs.specs.Crash.{CrashRight}
use Rattle.pm_epochs.specs.Replay.{PowerCut, IsRight, kept_calls, call_ends_of, after_calls}
use Rattle.pm_epochs.specs.Log.{words_after}
use Rattle.pm_epochs.proofs.Deciding.{kept_calls-le}
use Rattle.pm_epochs.proofs.CrashLaws.{up_to_call_end-append, call_ends-append}
use Rattle.pm_region.specs.Memory.{Memory, crashed, current_words, with_room, drained, room_in, Adds}
use Rattle.bp_plain.specs.PlainTree.{FileTree, PathMap}
use Rattle.bp_layout.specs.Same.{Same}
use Rattle.bp_layout.specs.Trees.{has_snapshot, snapshot_of}
use Rattle.bp_layout.specs.Whole.{SameFiles, SameSnapshot}
use Rattle.bp_plain.specs.Stands.{Shows, ShowsSnapshot, Stands}
use Rattle.bp_plain.proofs.Uniqueness.{stands_once}
use Rattle.bp_replay.specs.Wanted.{cut_for}
use Rattle.bp_replay.specs.Wanted.Wanted.{all, nothing, at}
use Rattle.bp_replay.proofs.Ends.{kept_calls_all, right_all}
use Rattle.bp_layout.specs.Words.{Image}
use Rattle.bp_plain.specs.Calls.{Call, Answer}
use Rattle.bp_roles.specs.Mounted.{SameDurable, by_roles, served_words}
use Rattle.bp_roles.proofs.Likeness.{durable_symmetric}
use Rattle.bp_fs.specs.ByWords.{by_words}
use Rattle.bp_fs.specs.Called.{Called, ClearsAll}
use Rattle.bp_fs.specs.Called.Called.{at_once, cleared}
use Rattle.bp_fs.specs.FileCall.{FileCall}
use Rattle.bp_fs.specs.Step.{StepFor}
use Rattle.bp_fs.specs.Step.StepFor.{no_room, no_listing, no_snap_listing, unchanged, changed}
use Rattle.bp_plain.specs.Plain.{plain, is_changing, refusal, changes}
use Rattle.bp_session.specs.Session.{State, Crashes, SessionLine, RefusesCut, Session}
use Rattle.bp_script.specs.Commands.{Command}
use Rattle.bp_script.specs.Commands.Command.{file_call, sync, space, crash, storm, cache, log, bad_syntax, too_long}
use Rattle.bp_script.specs.Texts.{LineReply}
use Rattle.bp_script.specs.Texts.LineReply.{kept_of, log_of}
use Rattle.bp_limits.specs.Limits.{call_room}
use Rattle.pm_epochs.proofs.CrashLaws.{crash_right_none}
use Rattle.bp_plain.specs.Calls.{Refusal}
use Rattle.std.specs.Prelude.{Option, Some, None, is_none, ◌&&◌, ◌⊎◌, nat_le, nat_lt, if◌then◌else◌}
use Rattle.std.proofs.lemmas.Bool.{leb-true, leb-false}
use Rattle.bp_session.specs.PlainSession.{PlainSession, PlainLine, PlainState, PlainCall, latest, tree_at, tree_now, after_crash, with_call, fresh, PlainCrashes}
use Rattle.bp_session.specs.Prefixes.{FollowsTree}
use Rattle.bp_session.specs.Following.{FollowsPlainState, IsPlainly}
use Rattle.bp_session.proofs.ServingLaws.{session_split}
use Rattle.bp_session.specs.PlainSession.PlainCall.{plainly, no_room as finds_no_room, no_listing as finds_no_memory, no_snap_listing as snap_finds_no_memory}

-- ---- trees

-- a call that doesn't change the tree leaves it
pub plain-unchanged : (tree : FileTree) (call : Call) → is_changing tree call ≡ false → (plain tree call).1 ≡ tree
plain-unchanged tree call same = go (refusal tree call) refl
  where
    go : (why : Option Refusal) → refusal tree call ≡ why → (plain tree call).1 ≡ tree
    go (Some why) e = rw e refl
    go None e = rw e (let still : changes tree call ≡ false = ap (λ o. is_none o && changes tree call) (sym e) ∙ same in rw still refl)

-- a step of images is one of the plain tree
pub record PlainStep (tree : FileTree) (call : Call) (answer : Answer) (new : Image) : Type 0 where
  pub after : FileTree
  pub does : PlainCall tree call answer after
  pub stands : Stands new after

pub plain_step : (old : Image) (tree : FileTree) (call : Call) (answer : Answer) (new : Image) → Stands old tree → StepFor old tree call answer new → PlainStep tree call answer new
plain_step old tree call answer new stands (no_room change need few) = record { after = tree; does = finds_no_room change; stands = stands }
plain_step old tree call answer new stands (no_listing none) = record { after = tree; does = finds_no_memory none; stands = stands }
plain_step old tree call answer new stands (no_snap_listing none) = record { after = tree; does = snap_finds_no_memory none; stands = stands }
plain_step old tree call answer new stands (unchanged same) = record { after = (plain tree call).1; does = plainly; stands = rw (plain-unchanged tree call same) stands }
plain_step old tree call answer new stands (changed change fits shown) = record { after = (plain tree call).1; does = plainly; stands = shown }

-- images that mean the same

shows_by_same : (first second : Image) (map : PathMap) → Same first second → Shows second map → Shows first map
shows_by_same first second map same shown = record {
  well_formed = same.old_well_formed;
  shows = λ path. shown.shows path ∙ same.shows path;
  one = λ p q. shown.one p q ∙ same.one p q;
}

snapshot_by_same : (first second : Image) (snap : Option PathMap) → SameSnapshot first second → ShowsSnapshot second snap → ShowsSnapshot first snap
snapshot_by_same first second None same none = sym same.there ∙ none
snapshot_by_same first second (Some map) same shown =
    let there : has_snapshot first ≡ true = sym same.there ∙ shown.0 in
    (there, shows_by_same (snapshot_of first) (snapshot_of second) map (same.same there) shown.1)

pub stands_by_same : (first second : Image) (tree : FileTree) → SameFiles first second → Stands second tree → Stands first tree
stands_by_same first second tree same stands = record {
  version = stands.version ∙ same.first.version;
  now = shows_by_same first second tree.now same.first stands.now;
  snap = snapshot_by_same first second tree.snap same.second stands.snap;
}

same_by_shows : (image : Image) (map : PathMap) → Shows image map → Same image image
same_by_shows image map shown = record {
  old_well_formed = shown.well_formed;
  new_well_formed = shown.well_formed;
  version = refl;
  shows = λ path. refl;
  one = λ p q. refl;
}

same_by_snapshot : (image : Image) (snap : Option PathMap) → ShowsSnapshot image snap → SameSnapshot image image
same_by_snapshot image None none = record { there = refl; same = λ there. absurd (let no : true ≡ false = sym there ∙ none in cc) }
same_by_snapshot image (Some map) shown = record { there = refl; same = λ there. same_by_shows (snapshot_of image) map shown.1 }

-- an image that stands for a tree means what it means
same_by_stands : (image : Image) (tree : FileTree) → Stands image tree → SameFiles image image
same_by_stands image tree stands = record {
  first = same_by_shows image tree.now stands.now;
  second = same_by_snapshot image tree.snap stands.snap;
}

-- ---- logs and trees after as many calls

-- a log that ends with a `CallEnd`, of more of them than it has except for that one
up_to_call_end_whole : (first added : List Event) (count : ℕ) → call_ends added ≡ 0 → call_ends first < count → up_to_call_end count (first ++ (added ++ CallEnd ∷ [])) ≡ first ++ (added ++ CallEnd ∷ [])
up_to_call_end_whole [] [] zero none more = absurd (omega arith)
up_to_call_end_whole [] [] (suc zero) none more = refl
up_to_call_end_whole [] [] (suc (suc count)) none more = refl
up_to_call_end_whole [] (Store word value ∷ added) zero none more = absurd (omega arith)
up_to_call_end_whole [] (Store word value ∷ added) (suc count) none more = ap (λ es. Store word value ∷ es) (up_to_call_end_whole [] added (suc count) none more)
up_to_call_end_whole [] (Barrier ∷ added) zero none more = absurd (omega arith)
up_to_call_end_whole [] (Barrier ∷ added) (suc count) none more = ap (λ es. Barrier ∷ es) (up_to_call_end_whole [] added (suc count) none more)
up_to_call_end_whole [] (CallEnd ∷ added) count none more = absurd (omega arith)
up_to_call_end_whole (Store word value ∷ first) added zero none more = absurd (omega arith)
up_to_call_end_whole (Store word value ∷ first) added (suc count) none more = ap (λ es. Store word value ∷ es) (up_to_call_end_whole first added (suc count) none more)
up_to_call_end_whole (Barrier ∷ first) added zero none more = absurd (omega arith)
up_to_call_end_whole (Barrier ∷ first) added (suc count) none more = ap (λ es. Barrier ∷ es) (up_to_call_end_whole first added (suc count) none more)
up_to_call_end_whole (CallEnd ∷ first) added zero none more = absurd (omega arith)
up_to_call_end_whole (CallEnd ∷ first) added (suc count) none more = ap (λ es. CallEnd ∷ es) (up_to_call_end_whole first added count none (omega arith))

pub latest-append : (certain tree : FileTree) (since : List FileTree) → latest certain (since ++ tree ∷ []) ≡ tree
latest-append certain tree [] = refl
latest-append certain tree (first ∷ since) = latest-append first tree since

tree_at-few : (certain tree : FileTree) (since : List FileTree) (count : ℕ) → count ≤ length since → tree_at certain (since ++ tree ∷ []) count ≡ tree_at certain since count
tree_at-few certain tree since zero few = refl
tree_at-few certain tree [] (suc count) few = absurd (omega arith)
tree_at-few certain tree (first ∷ since) (suc count) few = tree_at-few first tree since count (omega arith)

tree_at-all : (certain tree : FileTree) (since : List FileTree) (count : ℕ) → length since < count → tree_at certain (since ++ tree ∷ []) count ≡ tree
tree_at-all certain tree since zero more = absurd (omega arith)
tree_at-all certain tree [] (suc count) more = nothing_left count
  where
    nothing_left : (count : ℕ) → latest tree (take count []) ≡ tree
    nothing_left zero = refl
    nothing_left (suc count) = refl
tree_at-all certain tree (first ∷ since) (suc count) more = tree_at-all first tree since count (omega arith)

nothing_since : (certain : FileTree) (count : ℕ) → tree_at certain [] count ≡ certain
nothing_since certain zero = refl
nothing_since certain (suc count) = refl

nothing_logged : (base : List ℕ) (count : ℕ) → after_calls base [] count ≡ base
nothing_logged base zero = refl
nothing_logged base (suc count) = refl

-- the calls before the first store did nothing to the words
nothing_stored : (words : List ℕ) (events : List Event) (count : ℕ) → count ≤ call_ends_of 0 [] events → words_after words (up_to_call_end count events) ≡ words
nothing_stored words events zero low = refl
nothing_stored words [] (suc count) low = absurd (omega arith)
nothing_stored words (Store word value ∷ events) (suc count) low = absurd (omega arith)
nothing_stored words (Barrier ∷ events) (suc count) low = nothing_stored words events (suc count) low
nothing_stored words (CallEnd ∷ events) (suc count) low = nothing_stored words events count (omega arith)

-- ---- what follows

follows : (memory : Memory) (p : PlainState) → Stands (served_words memory) (tree_now p) → call_ends memory.events ≡ length p.since
    → ((count : ℕ) → Stands (by_roles (after_calls memory.base memory.events count)) (after_crash p count)) → CrashRight SameDurable memory.base memory.events → FollowsPlainState memory p
follows memory p now calls after right = record {
  now = now;
  calls = calls;
  after = after;
  crash = λ cut is_right. stands_by_same _ _ _ (right.each cut is_right) (after (kept_calls memory.events cut));
}

-- with an empty log
pub follows_fresh : (memory : Memory) (tree : FileTree) → memory.events ≡ [] → Stands (by_roles memory.base) tree → FollowsPlainState memory (fresh tree)
follows_fresh memory tree empty stands = follows memory (fresh tree)
    (rw empty stands)
    (rw empty refl)
    (λ count. rw (empty, nothing_logged memory.base count, nothing_since tree count) stands)
    (rw empty (crash_right_none SameDurable memory.base (same_by_stands (by_roles memory.base) tree stands)))

-- one more call
follows_more : (old new : Memory) (p : PlainState) (added : List Event) (tree : FileTree) → FollowsPlainState old p → call_ends added ≡ 0 → Adds old new (added ++ CallEnd ∷ []) → CrashRight SameDurable new.base new.events
    → Stands (served_words new) tree → FollowsPlainState new (with_call p tree)
follows_more old new p added tree before none adds right stands =
    let base : new.base ≡ old.base = ap (λ (m : Memory). m.base) adds in
    let events : new.events ≡ old.events ++ (added ++ CallEnd ∷ []) = ap (λ (m : Memory). m.events) adds in
    let calls : call_ends new.events ≡ length (p.since ++ tree ∷ []) = ap call_ends events ∙ omega (arith, call_ends-append old.events (added ++ CallEnd ∷ []), call_ends-append added (CallEnd ∷ []), none, before.calls, length-append p.since (tree ∷ [])) in
    let go : (count : ℕ) → (few : Bool) → nat_le count (length p.since) ≡ few → Stands (by_roles (after_calls new.base new.events count)) (after_crash (with_call p tree) count) = λ count few. elim few as (λ few. nat_le count (length p.since) ≡ few → Stands (by_roles (after_calls new.base new.events count)) (after_crash (with_call p tree) count)) [
      | true ↦ λ e. let low : count ≤ length p.since = leb-true count (length p.since) e in
          rw (base, events, up_to_call_end-append old.events (added ++ CallEnd ∷ []) count (omega (arith, before.calls, low)), tree_at-few p.certain tree p.since count low) (before.after count)
      | false ↦ λ e. let high : length p.since < count = leb-false count (length p.since) e in
          rw (base, events, up_to_call_end_whole old.events added count none (omega (arith, before.calls, high)), tree_at-all p.certain tree p.since count high) (rw (base, events) at stands)
    ] in
    follows new (with_call p tree) (rw (latest-append p.certain tree p.since) stands) calls (λ count. go count (nat_le count (length p.since)) refl) right

-- a crash leaves the tree after the calls that it keeps
follows_crash : (memory : Memory) (p : PlainState) (cut : PowerCut) → FollowsPlainState memory p → IsRight memory.events cut → FollowsPlainState (crashed memory cut) (fresh (after_crash p (kept_calls memory.events cut)))
follows_crash memory p cut before right = follows_fresh (crashed memory cut) (after_crash p (kept_calls memory.events cut)) refl (before.crash cut right)

-- ---- calls

pub record SettlesTo (old : PlainState) (memory : Memory) : Type 0 where
  pub plain : PlainState
  pub follows : FollowsPlainState memory plain
  pub is : (plain ≡ old) ⊎ (plain ≡ fresh (tree_now old))

pub settles : (wanted : ℕ) (memory : Memory) (p : PlainState) → FollowsPlainState memory p → SettlesTo p (with_room wanted memory)
settles wanted memory p before = elim (nat_lt (room_in memory) wanted) as (λ full. SettlesTo p (if full then drained memory else memory)) [
  | true ↦ record { plain = fresh (tree_now p); follows = follows_fresh (drained memory) (tree_now p) refl before.now; is = inr refl }
  | false ↦ record { plain = p; follows = before; is = inl refl }
]

-- the plain state after a call, whose words follow it
record CallFollows (p : PlainState) (call : Call) (answer : Answer) (new : Memory) : Type 0 where
  pub tree : FileTree
  pub plain : PlainState
  pub does : PlainCall (tree_now p) call answer tree
  pub goes_on : (plain ≡ with_call p tree) ⊎ (plain ≡ with_call (fresh (tree_now p)) tree)
  pub follows : FollowsPlainState new plain

file_call_follows : (old new : Memory) (p : PlainState) (call : Call) (answer : Answer) → FollowsPlainState old p → FileCall old call answer new → CallFollows p call answer new
file_call_follows old new p call answer before done =
    let first = settles call_room old p before in
    let step = plain_step (served_words old) (tree_now p) call answer (served_words new) before.now (done.step (tree_now p) before.now) in
    record {
      tree = step.after;
      plain = with_call first.plain step.after;
      does = step.does;
      goes_on = elim first.is [ inl e ↦ inl (ap (λ q. with_call q step.after) e) | inr e ↦ inr (ap (λ q. with_call q step.after) e) ];
      follows = follows_more (with_room call_room old) new first.plain done.added step.after first.follows done.no_call_end done.adds done.safe.right step.stands;
    }

-- words that were cleared still represent the tree, which is durable
cleared_follows : (old new : Memory) (p : PlainState) → FollowsPlainState old p → ClearsAll old new → FollowsPlainState new (fresh (tree_now p))
cleared_follows old new p before clears =
    let same : SameFiles (served_words new) (served_words old) = durable_symmetric (current_words old) (current_words new) clears.files in
    follows_fresh new (tree_now p) clears.durable (rw clears.durable at (stands_by_same (served_words new) (served_words old) (tree_now p) same before.now))

called_follows : (old new : Memory) (p : PlainState) (call : Call) (answer : Answer) → FollowsPlainState old p → Called old call answer new → CallFollows p call answer new
called_follows old new p call answer before (at_once done) = file_call_follows old new p call answer before done
called_follows old new p call answer before (cleared {between = between} is some clears done) =
    let next = file_call_follows between new (fresh (tree_now p)) call answer (cleared_follows old between p before clears) done in
    record {
      tree = next.tree;
      plain = next.plain;
      does = next.does;
      goes_on = elim next.goes_on [ inl e ↦ inr e | inr e ↦ inr e ];
      follows = next.follows;
    }

-- ---- lines

pub record Follower (old : State Memory) (p : PlainState) (command : Command) (reply : LineReply) (new : State Memory) : Type 0 where
  pub plain : PlainState
  pub line : PlainLine p command reply plain
  pub follows : FollowsPlainState new.system plain

-- a crash that keeps as many calls
crash_follower : (old : State Memory) (p : PlainState) (command : Command) (cut : PowerCut) (count : ℕ) (reply : LineReply) (new : State Memory) → FollowsPlainState old.system p → Crashes by_words old cut reply new → kept_calls old.system.events cut ≡ count
    → ((plain : PlainState) → PlainCrashes p count reply plain → PlainLine p command reply plain) → Follower old p command reply new
crash_follower old p command cut count reply new before does is line = record {
  plain = fresh (after_crash p count);
  line = line _ (record {
    few = omega (arith, kept_calls-le old.system.events cut, is, before.calls);
    reported = does.reported ∙ ap (λ n. kept_of n (call_ends old.system.events)) is ∙ ap (λ n. kept_of count n) before.calls;
    leaves = refl;
  });
  follows = rw (does.done, ← is) (follows_crash old.system p cut before does.right);
}

-- the calls that changed nothing left the certain tree
certain_tree : (memory : Memory) (p : PlainState) → FollowsPlainState memory p → (count : ℕ) → count ≤ kept_calls memory.events (cut_for memory.events nothing) → after_crash p count ≡ p.certain
certain_tree memory p before count low =
    let here : Stands (by_roles memory.base) (after_crash p count) = rw (nothing_stored memory.base memory.events count low) at (before.after count) in
    stands_once (by_roles memory.base) (after_crash p count) p.certain here (before.after 0)

nothing_right : (events : List Event) → IsRight events (cut_for events nothing)
nothing_right events = record { moment = omega arith; epoch = omega arith; mask = omega arith }

nothing_follower : (old : State Memory) (p : PlainState) (reply : LineReply) (new : State Memory) → FollowsPlainState old.system p → Crashes by_words old (cut_for old.system.events nothing) reply new → Follower old p (crash nothing) reply new
nothing_follower old p reply new before does =
    let cut = cut_for old.system.events nothing in
    let unchanged = certain_tree old.system p before in
    let is : after_crash p (kept_calls old.system.events cut) ≡ p.certain = unchanged (kept_calls old.system.events cut) (omega arith) in
    record {
      plain = fresh p.certain;
      line = record {
        count = kept_calls old.system.events cut;
        few = omega (arith, kept_calls-le old.system.events cut, before.calls);
        unchanged = unchanged;
        reported = does.reported ∙ ap (λ n. kept_of (kept_calls old.system.events cut) n) before.calls;
        leaves = refl;
      };
      follows = rw (does.done, ← is) (follows_crash old.system p cut before does.right);
    }

refused_follower : (old : State Memory) (p : PlainState) (moment epoch : ℕ) (mask : List ℕ) (reply : LineReply) (new : State Memory) → FollowsPlainState old.system p → RefusesCut by_words old (cut_for old.system.events (at moment epoch mask)) reply new → Follower old p (crash (at moment epoch mask)) reply new
refused_follower old p moment epoch mask reply new before does = record {
  plain = p;
  line = inl (record { reported = does.reported; same = refl });
  follows = rw does.same before;
}

pub plain_line : (old : State Memory) (p : PlainState) (command : Command) (reply : LineReply) (new : State Memory) → FollowsPlainState old.system p → SessionLine by_words old command reply new → Follower old p command reply new
plain_line old p (file_call call) reply new before line =
    let next = called_follows old.system new.system p call line.answer before line.does in
    record {
      plain = next.plain;
      line = record { answer = line.answer; tree = next.tree; reported = line.reported; does = next.does; goes_on = next.goes_on };
      follows = next.follows;
    }
plain_line old p sync reply new before line = record {
  plain = fresh (tree_now p);
  line = (line.reported, refl);
  follows = rw line.done (follows_fresh (drained old.system) (tree_now p) refl before.now);
}
plain_line old p space reply new before line = record {
  plain = p;
  line = record { free = line.free; live = line.live; reported = line.reported; same = refl };
  follows = rw line.same before;
}
plain_line old p (crash all) reply new before (inl does) = crash_follower old p (crash all) _ (length p.since) reply new before does (kept_calls_all old.system.events ∙ before.calls) (λ plain line. line)
plain_line old p (crash all) reply new before (inr does) = absurd (does.wrong (right_all old.system.events))
plain_line old p (crash nothing) reply new before (inl does) = nothing_follower old p reply new before does
plain_line old p (crash nothing) reply new before (inr does) = absurd (does.wrong (nothing_right old.system.events))
plain_line old p (crash (at moment epoch mask)) reply new before (inl does) = crash_follower old p (crash (at moment epoch mask)) _ _ reply new before does refl (λ plain line. inr (record { count = _; crashes = line }))
plain_line old p (crash (at moment epoch mask)) reply new before (inr does) = refused_follower old p moment epoch mask reply new before does
plain_line old p (storm seed) reply new before does = crash_follower old p (storm seed) _ _ reply new before does refl (λ plain line. record { count = _; crashes = line })
plain_line old p (cache seed) reply new before (inl does) = crash_follower old p (cache seed) _ _ reply new before does refl (λ plain line. inr (record { count = _; crashes = line }))
plain_line old p (cache seed) reply new before (inr reports) = record { plain = p; line = inl (record { reported = reports.reported; same = refl }); follows = rw reports.same before }
plain_line old p log reply new before line = record {
  plain = p;
  line = record { events = _; barriers = _; reported = line.reported ∙ ap (λ n. log_of (length old.system.events) (barriers old.system.events) n) before.calls; same = refl };
  follows = rw line.same before;
}
plain_line old p bad_syntax reply new before line = record { plain = p; line = record { reported = line.reported; same = refl }; follows = rw line.same before }
plain_line old p too_long reply new before line = record { plain = p; line = record { reported = line.reported; same = refl }; follows = rw line.same before }

-- ---- sessions

pub record PlainRun (p : PlainState) (commands : List Command) (replies : List LineReply) (new : State Memory) : Type 0 where
  pub plain : PlainState
  pub session : PlainSession p commands replies plain
  pub follows : FollowsPlainState new.system plain

pub plain_session : (old : State Memory) (p : PlainState) (commands : List Command) (replies : List LineReply) (new : State Memory) → FollowsPlainState old.system p → Session by_words old commands replies new → PlainRun p commands replies new
plain_session old p [] [] new before same = record { plain = p; session = refl; follows = rw same before }
plain_session old p [] (reply ∷ replies) new before never = absurd never
plain_session old p (command ∷ commands) [] new before never = absurd never
plain_session old p (command ∷ commands) (reply ∷ replies) new before (middle, line, rest) =
    let first = plain_line old p command reply middle before line in
    let later = plain_session middle first.plain commands replies new first.follows rest in
    record { plain = later.plain; session = (first.plain, first.line, later.session); follows = later.follows }

-- a session is the plain tree's, at its end and after each of its lines
pub is_plainly : (old : State Memory) (tree : FileTree) (commands : List Command) (replies : List LineReply) (new : State Memory) → old.system.events ≡ [] → Stands (by_roles old.system.base) tree → Session by_words old commands replies new → IsPlainly tree commands replies new.system
is_plainly old tree commands replies new empty stands session =
    let run = plain_session old (fresh tree) commands replies new (follows_fresh old.system tree empty stands) session in
    record { plain = run.plain; session = run.session; follows = run.follows }

pub follows_tree : (old : State Memory) (tree : FileTree) (commands : List Command) (replies : List LineReply) (new : State Memory) → old.system.events ≡ [] → Stands (by_roles old.system.base) tree → Session by_words old commands replies new → FollowsTree tree old commands replies new
follows_tree old tree commands replies new empty stands session = record {
  whole = is_plainly old tree commands replies new empty stands session;
  prefixes = λ first rest are.
      let parts = session_split by_words old new first rest replies (rw are at session) in
      record {
        middle = parts.0;
        prefix = parts.1;
        following = parts.2;
        are = parts.3;
        session = parts.4;
        later = parts.5;
        plainly = is_plainly old tree first parts.1 parts.0 empty stands parts.4;
      };
}
