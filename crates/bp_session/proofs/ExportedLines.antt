-- A session over the script of an export.
use Rattle.std.proofs.Common.{refl, sym, ◌∙◌, ap, ◌≡◌, ◌==◌, List, [], ◌∷◌, ◌++◌, map, not, true, false, Bool, true≢false, codes, ℕ, inl, inr}
use Rattle.std.specs.Prelude.{◌⊎◌}
use Rattle.std.specs.Cmp.{first_so, second_so}
use Rattle.std.specs.List.{AllByRecursion, list_all}
use Rattle.std.proofs.lemmas.List.{append_assoc, append-nil}
use Rattle.std.proofs.lemmas.List.Elements.{recursion_from_All}
use Rattle.bp_plain.specs.Calls.{Answer, Call}
use Rattle.bp_plain.specs.Calls.Call.{list, snap_list}
use Rattle.bp_plain.specs.Calls.Answer.{done}
use Rattle.bp_plain.specs.Export.{AllDone, IsExportable, IsOfBytes, export_calls}
use Rattle.bp_plain.specs.Plain.{answer_or, plain}
use Rattle.bp_plain.specs.PlainTree.{FileTree}
use Rattle.bp_script.specs.Commands.{command_of}
use Rattle.bp_script.specs.Commands.Command.{file_call}
use Rattle.bp_script.specs.Export.{IsOneLine, call_line, call_lines, export_text}
use Rattle.bp_script.specs.Texts.{LineReply}
use Rattle.bp_script.specs.Texts.LineReply.{answered}
use Rattle.bp_script.proofs.ExportLines.{export_read, export_whole}
use Rattle.bp_session.specs.Lines.{commands_from}
use Rattle.bp_session.specs.PlainSession.{PlainCall, PlainCalls, PlainSession, PlainState, ReportsNoSpace, fresh, tree_now, with_call}
use Rattle.bp_session.specs.PlainSession.PlainCall.{plainly, no_room, no_listing, no_snap_listing}
use Rattle.bp_session.proofs.PlainLaws.{latest-append}
use Rattle.bp_session.proofs.ServingLaws.{commands_at_byte, commands_at_newline}

-- ---- lines

goes_on : (b : Bool) → not b ≡ true → b ≡ false
goes_on true e = absurd (true≢false (sym e))
goes_on false e = refl

-- a whole line before the others
line_first : (line held rest : List ℕ) → IsOneLine line → commands_from held (line ++ 10 ∷ rest) ≡ command_of (held ++ line) ∷ commands_from [] rest
line_first [] held rest whole = commands_at_newline held rest ∙ ap (λ l. command_of l ∷ commands_from [] rest) (sym (append-nil held))
line_first (b ∷ line) held rest whole =
    commands_at_byte held (line ++ 10 ∷ rest) b (goes_on (b == 10) (first_so (not (b == 10)) (list_all (λ c. not (c == 10)) line) whole))
    ∙ line_first line (held ++ b ∷ []) rest (second_so (not (b == 10)) (list_all (λ c. not (c == 10)) line) whole)
    ∙ ap (λ l. command_of l ∷ commands_from [] rest) (append_assoc held (b ∷ []) line)

-- the lines of calls ask for what each of them does
calls_asked : (calls : List Call) → AllByRecursion (λ call. IsOneLine (call_line call)) calls → commands_from [] (call_lines calls) ≡ map (λ call. command_of (call_line call)) calls
unfolding commands_from
calls_asked [] all = refl
calls_asked (call ∷ calls) all =
    ap (commands_from []) (append_assoc (call_line call) (codes "\n") (call_lines calls))
    ∙ line_first (call_line call) [] (call_lines calls) all.0
    ∙ ap (λ commands. command_of (call_line call) ∷ commands) (calls_asked calls all.1)

pub export_asks : (tree : FileTree) → IsExportable tree → IsOfBytes tree → commands_from [] (export_text tree) ≡ map file_call (export_calls tree)
export_asks tree can of_bytes =
    calls_asked (export_calls tree) (recursion_from_All (λ call. IsOneLine (call_line call)) (export_calls tree) (export_whole tree can of_bytes)) ∙ export_read tree can of_bytes

-- ---- calls that are carried out

abbrev is_done : Answer → Bool
is_done done = true
is_done other = false

-- one that a plain tree carries out leaves what it leaves there, or there was no space
call_done : (tree after found : FileTree) (call : Call) (answer : Answer) (reply : LineReply) → plain tree call ≡ (done, after) → PlainCall tree call answer found → reply ≡ answered answer → ¬ ReportsNoSpace reply → found ≡ after
call_done tree after found call answer reply does plainly reported never = ap (λ r. r.1) does
call_done tree after found call answer reply does (no_room {needed = needed} {free = free} changes) reported never = absurd (never (needed, free, reported))
call_done tree after found call answer reply does (no_listing {text = text} none) reported never =
    absurd (true≢false (ap is_done (sym (ap (λ r. r.0) does)) ∙ ap (λ why. is_done (answer_or tree (list text) why).0) none))
call_done tree after found call answer reply does (no_snap_listing {text = text} none) reported never =
    absurd (true≢false (ap is_done (sym (ap (λ r. r.0) does)) ∙ ap (λ why. is_done (answer_or tree (snap_list text) why).0) none))

now_with : (old : PlainState) (tree : FileTree) (new : PlainState) → (new ≡ with_call old tree) ⊎ (new ≡ with_call (fresh (tree_now old)) tree) → tree_now new ≡ tree
now_with old tree new (inl is) = ap tree_now is ∙ latest-append old.certain tree old.since
now_with old tree new (inr is) = ap tree_now is

pub calls_done : (calls : List Call) (old new : PlainState) (replies : List LineReply) (before after : FileTree) → tree_now old ≡ before → AllDone before calls after → PlainSession old (map file_call calls) replies new
    → AllByRecursion (λ reply. ¬ ReportsNoSpace reply) replies → tree_now new ≡ after
calls_done [] old new [] before after now all session never = ap tree_now session ∙ now ∙ all
calls_done [] old new (reply ∷ replies) before after now all session never = absurd session
calls_done (call ∷ calls) old new [] before after now all session never = absurd session
calls_done (call ∷ calls) old new (reply ∷ replies) before after now (next, does, rest) (middle, line, later) never =
    let here : PlainCalls old call reply middle = line in
    let step : here.tree ≡ next = call_done before next here.tree call here.answer reply does (rw now at here.does) here.reported never.0 in
    calls_done calls middle new replies next after (now_with old here.tree middle here.goes_on ∙ step) rest later never.1
