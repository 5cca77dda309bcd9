use Rattle.std.proofs.Common.{◌≡◌, ℕ, List, ◌+◌, ◌*◌, ◌%◌, ◌∙◌, ap, sym, subst, arith, length, set, Bool, get_or-set_other}
use Rattle.bp_free.specs.Set.{has}
use Rattle.pm_region.specs.Memory.{current_words}
use Rattle.pm_region.proofs.MemoryLaws.{current_words-adds, base-adds, length-current_words}
use Rattle.bp_changes.specs.Forest.{IsExactSet, IsTreePointer}
use Rattle.bp_layout.specs.Words.{word}
use Rattle.bp_cow.specs.Adds.{MakesCopies}
use Rattle.bp_cow.specs.Copies.{pointing_to}
use Rattle.bp_cow.specs.Job.{copies}
use Rattle.bp_cow.specs.Plan.{Plan, planned, seen, all_turns, turn_stores}
use Rattle.bp_cow.specs.Touched.{job_of}
use Rattle.bp_cow.proofs.AddsLaws.{makes_room}
use Rattle.bp_cow.proofs.EndLaws.{done_of}
use Rattle.bp_cow.proofs.QuietCopies.{copy_commit, makes_stay}
use Rattle.bp_cow.proofs.StartLaws.{Starts, start_low, start_word}
use Rattle.bp_cow.proofs.commit.turn_over.Given.{Over}
use Rattle.bp_cow.proofs.commit.turn_over.Goals.{Start}
use Rattle.bp_cow.proofs.commit.turn_over.Goals as goal

starts : (g : Over) (c : Start g) → Starts (planned g.plan c.args.touched.now) c.args.from (current_words (g.R.Region.memory c.args.region.now)) (has c.args.blocks.now) c.args.place
starts g c = let can = c.requires.1.1.0 in record { can = can.can; same = can.old; free_is = can.free; at = can.at }

pub load-pointer-requires : goal.load-pointer-requires
load-pointer-requires g c =
    omega (arith, start_low (starts g (goal.at.load-pointer-requires g c).Start), length-current_words (g.R.Region.memory c.args.region.now))

pub copy_subtree-top-requires : goal.copy_subtree-top-requires
copy_subtree-top-requires g c κs within =
    let can = c.requires.1.1.0 in
    (within, (c.requires.1.0, (can.can, (can.old, (can.free, (can.at, (can.some, (omega (arith, can.room), c.requires.1.1.1))))))))

pub commit_word-requires-clause-in_range : goal.commit_word-requires-clause-in_range
commit_word-requires-clause-in_range g c =
    let low = start_low (starts g (goal.at.commit_word-requires-clause-in_range g c).Start) in
    omega (arith, low, length-current_words (g.R.Region.memory c.args.region.now), c.copy_subtree-top.ensures.makes.base)

pub commit_word-requires-clause-room : goal.commit_word-requires-clause-room
commit_word-requires-clause-room g c = omega (arith, c.requires.1.1.0.room, makes_room c.copy_subtree-top.ensures.makes)

pub returns-clause-done : goal.returns-clause-done
returns-clause-done g c =
    let can = c.requires.1.1.0 in
    let touched = c.args.touched.now in
    let start = g.R.Region.memory c.args.region.now in
    let middle = g.R.Region.memory c.copy_subtree-top.new.region in
    let last = g.R.Region.memory c.commit_word.new.region in
    let plan : Plan = record (planned g.plan touched) { top = c.copy_subtree-top.result } in
    let all = turn_stores (all_turns touched c.args.from) + (job_of touched).words in
    -- the blocks were free that are taken
    let makes : MakesCopies (has c.args.blocks.now) (copies (job_of touched) c.args.from) (512 + all) c.args.blocks.now c.copy_subtree-top.new.blocks start middle =
    subst (λ (f : ℕ → Bool). MakesCopies f (copies (job_of touched) c.args.from) (512 + all) c.args.blocks.now c.copy_subtree-top.new.blocks start middle) can.free c.copy_subtree-top.ensures.makes in
    let exact = subst (λ (f : ℕ → Bool). IsExactSet plan.old (IsTreePointer plan.old plan.bound) plan.in_snapshot f) can.free can.can.exact in
    -- the last store is that of the pointer to the cover's copy
    let loaded = c.load-pointer.ensures ∙ start_word (starts g (goal.at.returns-clause-done g c).Start) in
    let value : pointing_to (word plan.old plan.place) plan.top ≡ c.pointer_word.result + c.load-pointer.result % 4096 =
    ap (λ w. 4096 * plan.top + w % 4096) (sym loaded) ∙ omega (arith, c.pointer_word.ensures) in
    let now : seen plan (current_words middle) ≡ current_words last =
    ap (set (current_words middle) plan.place) value ∙ ap (λ p. set (current_words middle) p (c.pointer_word.result + c.load-pointer.result % 4096)) (sym can.at)
    ∙ sym (current_words-adds middle last _ c.commit_word.ensures) in
    record {
      count = makes.count;
      size = makes.size;
      commit = copy_commit can.well can.can.forest can.sizes exact (omega arith) can.old c.args.place _ makes.stores c.commit_word.ensures;
      stage = done_of plan c.args.from c.copy_subtree-top.ensures.made now;
    }

pub returns-clause-others : goal.returns-clause-others
returns-clause-others g c w other used =
    let middle = g.R.Region.memory c.copy_subtree-top.new.region in
    let last = g.R.Region.memory c.commit_word.new.region in
    ap (λ (ws : List ℕ). word ws w) (current_words-adds middle last _ c.commit_word.ensures) ∙ get_or-set_other (current_words middle) c.args.place w _ 0 other
    ∙ makes_stay c.copy_subtree-top.ensures.makes w used ∙ ap (λ (ws : List ℕ). word ws w) (sym c.requires.1.1.0.old)

pub returns-clause-base : goal.returns-clause-base
returns-clause-base g c =
    ap length (base-adds (g.R.Region.memory c.copy_subtree-top.new.region) (g.R.Region.memory c.commit_word.new.region) _ c.commit_word.ensures) ∙ c.copy_subtree-top.ensures.makes.base
