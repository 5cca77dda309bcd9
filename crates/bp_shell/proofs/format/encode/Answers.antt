use Rattle.std.proofs.Common.{arith, ap, sym, ◌∙◌, ◌≡◌, ◌*◌, ◌+◌, ◌-◌, ◌/◌, ◌++◌, length, take, drop}
use Rattle.std.proofs.Math.Seq.{take-append_seam}
use Rattle.pm_region.specs.Memory.{current_words}
use Rattle.bp_layout.specs.Bytes.{image_bytes}
use Rattle.bp_shell.proofs.FormattingLaws.{all_blocks}
use Rattle.bp_shell.proofs.format.encode.Goals as goal

pub returns : goal.returns
returns g c =
    let memory = g.R.Region.memory c.args.region.now in
    let spelled = image_bytes (current_words memory) in
    let into = c.read_blocks.new.into in
    let rest = drop (length into) c.in_ok-bytes.bytes.items in
    let count = length c.deref_mut.result.now / 4096 in
    let size : length c.deref_mut.result.now ≡ 8 * c.words.result = c.deref_mut.ensures.len ∙ c.in_ok-bytes.ensures.len in
    let width : (4096 * 0 + 4096 * count) - 4096 * 0 ≡ 4096 * count = omega arith in
    ap (λ n. take n (into ++ rest)) (sym (c.read_blocks.auto.into ∙ c.deref_mut.ensures.len)) ∙ take-append_seam into rest
    ∙ all_blocks memory into count (omega (arith, size, c.words.ensures.count, c.requires.whole)) (c.read_blocks.ensures ∙ ap (λ n. take n (drop (4096 * 0) spelled)) width)
