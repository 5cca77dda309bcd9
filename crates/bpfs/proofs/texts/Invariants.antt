use Rattle.std.proofs.Common.{◌≡◌, map, string_bytes, take}
use Rattle.bpfs.proofs.texts.Given as goal

-- the texts so far are those of the first words
abbrev pub invariant-loop-word : goal.invariant-loop-word
invariant-loop-word l = map (λ text. text.now) l.texts.items ≡ map string_bytes (take l.word-index l.fn.words)
