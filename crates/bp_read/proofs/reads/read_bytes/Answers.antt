use Rattle.std.proofs.Common.{◌∙◌, ◌+◌, ◌-◌, ◌≤◌, ◌≡◌, length, refl, ap, arith}
use Rattle.std.proofs.lemmas.List.{length-take-le}
use Rattle.std.proofs.lemmas.List.FromFn.{length-map-range_with_len}
use Rattle.pm_region.specs.Memory.{current_words}
use Rattle.bp_layout.specs.Bytes.{stored_byte}
use Rattle.bp_layout.proofs.Ranges.{filled_in_two, counted}
use Rattle.bp_read.proofs.RegionWords.{length_now}
use Rattle.bp_read.proofs.reads.read_bytes.Goals as goal

pub overflow_add-word : goal.overflow_add-word
overflow_add-word g c = omega (arith, length_now (g.R.Region.memory c.args.region.now))

pub returns : goal.returns
returns g c =
    let image = current_words (g.R.Region.memory c.args.region.now) in
    let head : c.min-head.result ≤ length c.args.into.now = omega arith in
    let len : length c.read_part.new.into ≡ c.min-head.result =
    ap length c.read_part.ensures ∙ length-map-range_with_len (stored_byte image) _ _ ∙ length-take-le c.min-head.result c.args.into.now head in
    let rest : length c.read_words.new.into ≡ length c.args.into.now - c.min-head.result = omega arith in
    filled_in_two (stored_byte image) c.args.place (c.args.place + c.min-head.result) c.min-head.result (length c.args.into.now) c.args.into.now c.read_part.new.into c.read_words.new.into
    head refl (counted (stored_byte image) _ _ _ _ _ c.read_part.ensures len (λ some. omega arith)) refl
    (counted (stored_byte image) _ _ _ _ _ c.read_words.ensures rest (λ some. omega arith))
