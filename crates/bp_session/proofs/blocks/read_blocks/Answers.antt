use Rattle.std.proofs.Common.{arith, ap, sym, ◌∙◌, ◌≡◌, ◌*◌, ◌+◌, ◌/◌, ◌-◌, take, drop, length}
use Rattle.std.proofs.lemmas.List.{length-drop, length-take-le}
use Rattle.bp_layout.specs.Bytes.{image_bytes}
use Rattle.pm_region.specs.Memory.{current_words}
use Rattle.bp_session.proofs.BlockLaws.{blocks-image_bytes}
use Rattle.pm_region.proofs.MemoryLaws.{length-current_words}
use Rattle.bp_session.proofs.blocks.read_blocks.Goals as goal

pub encode-requires : goal.encode-requires
encode-requires g c =
    let memory = g.R.Region.memory c.args.region.now in
    let rest = drop (512 * c.args.first) (current_words memory) in
    let count = length c.args.into.now / 8 in
    let width : (512 * c.args.first + count) - 512 * c.args.first ≡ count = omega arith in
    let long = ap length (c.load_words.ensures ∙ ap (λ n. take n rest) width)
    ∙ length-take-le count rest (omega (arith, length-drop (512 * c.args.first) (current_words memory), length-current_words memory, c.requires.inside)) in
    omega (arith, long, c.requires.whole)

pub returns : goal.returns
returns g c =
    let words = current_words (g.R.Region.memory c.args.region.now) in
    let count = length c.args.into.now / 8 in
    let width : (512 * c.args.first + count) - 512 * c.args.first ≡ 512 * (length c.args.into.now / 4096) = omega (arith, c.requires.whole) in
    c.encode.ensures ∙ ap image_bytes (c.load_words.ensures ∙ ap (λ n. take n (drop (512 * c.args.first) words)) width) ∙ sym (blocks-image_bytes words c.args.first (length c.args.into.now / 4096))

pub returns-then-first-eq0 : goal.returns-then-first-eq0
returns-then-first-eq0 g c =
    let image = current_words (g.R.Region.memory c.args.region.now) in
    let blocks = length c.args.into.now / 4096 in
    let width : length c.args.into.now / 8 ≡ 512 * blocks = omega (arith, c.requires.whole) in
    let whole = ap (λ n. take n image) width ∙ ap (λ first. take (512 * blocks) (drop (512 * first) image)) (sym c.if-first-eq0.true) in
    c.read_prefix.ensures ∙ ap image_bytes whole ∙ sym (blocks-image_bytes image c.args.first blocks)
