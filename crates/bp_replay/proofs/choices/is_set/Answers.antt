use Rattle.std.proofs.Common.{◌/◌, ◌%◌, ◌^◌, ◌∙◌, ap, sym, Some, get_or}
use Rattle.std.proofs.lemmas.Nat.{and_mask}
use Rattle.std.specs.Prelude.{◌==◌}
use Rattle.bp_replay.proofs.Bits.{bit_at}
use Rattle.bp_replay.proofs.choices.is_set.Goals as goal

pub returns : goal.returns
returns c =
    bit_at c.args.mask.now c.args.place c.requires
    ∙ ap (λ n. Some (n == 1)) (sym (and_mask (get_or c.args.mask.now (c.args.place / 8) 0 / 2 ^ (c.args.place % 8)) 1))
