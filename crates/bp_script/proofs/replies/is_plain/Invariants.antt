use Rattle.std.proofs.Common.{◌≡◌, take, true}
use Rattle.bp_script.specs.Texts.{name_text}
use Rattle.bp_script.proofs.replies.is_plain.Given as goal

abbrev pub invariant-loop-byte : goal.invariant-loop-byte
invariant-loop-byte l = l.plain ≡ true → name_text (take l.byte-index l.name) ≡ take l.byte-index l.name
