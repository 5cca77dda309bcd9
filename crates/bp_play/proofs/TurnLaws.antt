-- A play goes on by one turn.
use Rattle.std.proofs.Common.{◌≡◌, ℕ, zero, suc, ◌+◌, ◌≤◌, List, [], ◌∷◌, ◌++◌, length, refl, sym, ◌∙◌, ap, subst, add-one, arith}
use Rattle.pm_epochs.specs.declared.event.Event.{Event}
use Rattle.pm_epochs.specs.declared.event.Event.TheVariants.{Store, Barrier, CallEnd}
use Rattle.pm_epochs.specs.Log.{call_ends}
use Rattle.pm_region.specs.Memory.{Memory}
use Rattle.bp_fs.specs.Behaviour.{Behaviour}
use Rattle.bp_layout.specs.Words.{Image}
use Rattle.bp_limits.specs.Limits.{log_events}
use Rattle.bp_script.specs.Commands.{Command}
use Rattle.bp_script.specs.Texts.{LineReply}
use Rattle.bp_session.specs.Acting.{state}
use Rattle.bp_session.specs.Session.{SessionLine, Session}
use Rattle.bp_session.proofs.ServingLaws.{session_append}
use Rattle.bp_play.specs.Turns.{turn, turns}

-- the state of the generator after as many turns
abbrev pub seed_after : ℕ → ℕ → ℕ
seed_after seed zero = seed
seed_after seed (suc count) = seed_after (turn seed).state count

seed_after-suc : (seed count : ℕ) → seed_after seed (suc count) ≡ (turn (seed_after seed count)).state
seed_after-suc seed zero = refl
seed_after-suc seed (suc count) = seed_after-suc (turn seed).state count

turns-suc : (seed count : ℕ) → turns seed (suc count) ≡ turns seed count ++ (turn (seed_after seed count)).command ∷ []
turns-suc seed zero = refl
turns-suc seed (suc count) = ap (λ (rest : List Command). (turn seed).command ∷ rest) (turns-suc (turn seed).state count)

pub state_more : (seed count at following : ℕ) → at ≡ seed_after seed count → following ≡ (turn at).state → following ≡ seed_after seed (count + 1)
state_more seed count at following here is = is ∙ ap (λ (s : ℕ). (turn s).state) here ∙ sym (seed_after-suc seed count) ∙ ap (seed_after seed) (sym (add-one count))

pub one_more : {S : Type 0} (it : Behaviour S) (old middle new : S) (seed count at : ℕ) (command : Command) (replies : List LineReply) (reply : LineReply) → at ≡ seed_after seed count → command ≡ (turn at).command
    → ((saved : Image) → Session it (state old saved) (turns seed count) replies (state middle saved)) → ((saved : Image) → SessionLine it (state middle saved) command reply (state new saved))
    → (saved : Image) → Session it (state old saved) (turns seed (count + 1)) (replies ++ reply ∷ []) (state new saved)
one_more it old middle new seed count at command replies reply here is session line saved =
    let asked : command ≡ (turn (seed_after seed count)).command = is ∙ ap (λ (s : ℕ). (turn s).command) here in
    let all : turns seed count ++ command ∷ [] ≡ turns seed (count + 1) = ap (λ (c : Command). turns seed count ++ c ∷ []) asked ∙ sym (turns-suc seed count) ∙ ap (turns seed) (sym (add-one count)) in
    subst (λ (commands : List Command). Session it (state old saved) commands (replies ++ reply ∷ []) (state new saved)) all
    (session_append it (state old saved) (state middle saved) (state new saved) (turns seed count) (command ∷ []) replies (reply ∷ []) (session saved) (state new saved, line saved, refl))

-- ---- the calls of a log

call_ends-le : (events : List Event) → call_ends events ≤ length events
call_ends-le [] = omega arith
call_ends-le (Store word value ∷ events) = omega (arith, call_ends-le events)
call_ends-le (Barrier ∷ events) = omega (arith, call_ends-le events)
call_ends-le (CallEnd ∷ events) = omega (arith, call_ends-le events)

-- they are no more than the log has room for
pub few_call_ends : (memory seen : Memory) (count : ℕ) → seen ≡ memory → count ≡ length seen.events → count ≤ seen.capacity → memory.capacity ≤ log_events → call_ends memory.events ≤ log_events
few_call_ends memory seen count same all few roomy =
    let events : length seen.events ≡ length memory.events = ap (λ (m : Memory). length m.events) same in
    let capacity : seen.capacity ≡ memory.capacity = ap (λ (m : Memory). m.capacity) same in
    omega (arith, call_ends-le memory.events)
