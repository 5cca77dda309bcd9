use Rattle.std.proofs.Common.{◌+◌, ◌-◌, ◌/◌, ◌++◌, ◌∙◌, ap, ap₂, arith, length, drop}
use Rattle.std.proofs.lemmas.List.{length-drop, length-take-le}
use Rattle.bp_layout.specs.Bytes.{image_bytes}
use Rattle.pm_region.specs.Memory.{current_words}
use Rattle.bp_session.proofs.BlockLaws.{prefix_rest}
use Rattle.pm_region.proofs.MemoryLaws.{length-current_words}
use Rattle.bp_session.proofs.blocks.read_prefix.Goals as goal

pub encode-requires-2 : goal.encode-requires-2
encode-requires-2 g c =
    let memory = g.R.Region.memory c.args.region.now in
    let rest = drop 8 (current_words memory) in
    let count = length c.args.into.now / 8 in
    let long = ap length c.load_words.ensures
    ∙ length-take-le ((8 + (count - 8)) - 8) rest (omega (arith, length-drop 8 (current_words memory), length-current_words memory, c.requires.inside)) in
    omega (arith, long, c.requires.whole, c.requires.some, c.split_at_mut-head.ensures.back_len)

pub returns : goal.returns
returns g c =
    let image = current_words (g.R.Region.memory c.args.region.now) in
    ap₂ (λ head rest. head ++ rest) (c.encode.ensures ∙ ap image_bytes c.head_words.ensures) (c.encode-2.ensures ∙ ap image_bytes c.load_words.ensures)
    ∙ prefix_rest image (length c.args.into.now / 8) (omega (arith, c.requires.some))
