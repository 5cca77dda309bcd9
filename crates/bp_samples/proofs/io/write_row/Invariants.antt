use Rattle.std.specs.Prelude.{◌≡◌, List, ℕ, true}
use Rattle.bp_samples.proofs.io.write_row.Given as goal

-- the row goes on over the same file
abbrev pub invariant-loop-i : goal.invariant-loop-i
invariant-loop-i g l =
    ((g.F.Files.view l.files).blocks ≡ 201) × ((g.F.Files.view l.files).may_write ≡ true)
    × ((name : List ℕ) → (g.F.Files.view l.files).is_attached name ≡ (g.F.Files.view l.fn.files).is_attached name)
