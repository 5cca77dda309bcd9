use Rattle.std.proofs.Common.{◌≡◌, ℕ, List, ◌++◌, codes, drop, length, refl, ap, ◌∙◌, append_assoc}
use Rattle.bp_script.specs.Sayings.{clean_line}
use Rattle.bp_script.proofs.notices.write_clean.Goals as goal

pieces_make_line : (files dirs bytes live free : List ℕ) →
    codes "clean " ++ (files ++ (codes " " ++ (dirs ++ (codes " " ++ (bytes ++ (codes " " ++ (live ++ (codes " " ++ (free ++ codes "\n"))))))))) ≡ clean_line files dirs bytes live free
pieces_make_line files dirs bytes live free = simp append_assoc refl

pub returns-clause-whole : goal.returns-clause-whole
returns-clause-whole c =
    c.write_pieces.ensures.text ∙ ap (λ x. x ++ drop c.write_pieces.result c.args.into.now) (pieces_make_line c.args.files.now c.args.dirs.now c.args.bytes.now c.args.live.now c.args.free.now)

pub returns-clause-len : goal.returns-clause-len
returns-clause-len c =
    c.write_pieces.ensures.len ∙ ap length (pieces_make_line c.args.files.now c.args.dirs.now c.args.bytes.now c.args.live.now c.args.free.now)
