use Rattle.std.proofs.Common.{arith, ap, ◌∙◌, ℕ, ◌/◌, length, length-append}
use Rattle.pm_raw.specs.Part.{Part}
use Rattle.pm_raw.specs.Spelled.{spelled_words}
use Rattle.pm_raw.specs.declared.cells.Cells.{Cells}
use Rattle.pm_raw.proofs.SpelledLaws.{length-spelled_words}
use Rattle.pm_raw.proofs.array.Filling.push_bytes.Goals as goal

pub invariant_of-self : goal.invariant_of-self
invariant_of-self c =
    let was = c.self.invariant in
    let prefix = c.self.inside.cells.items in
    let words = spelled_words (length c.args.bytes.now / 8) c.args.bytes.now in
    let long = length-spelled_words (length c.args.bytes.now / 8) c.args.bytes.now in
    record {
      block = record {
        cells_at = ap (λ (cells : Cells ℕ). cells.at) c.push_spelled.ensures ∙ was.block.cells_at;
        cells_count = ap (λ (cells : Cells ℕ). cells.count) c.push_spelled.ensures ∙ was.block.cells_count;
        deed_at = was.block.deed_at;
        deed_count = was.block.deed_count;
        deed_alloc = was.block.deed_alloc;
      };
      counted = omega (arith, ap (λ (cells : Cells ℕ). length cells.items) c.push_spelled.ensures, length-append prefix words, long, was.counted);
      fits = omega (arith, was.counted, c.requires.room, ap (λ (part : Part). length part.words) c.self.view_is, ap (λ (part : Part). part.size) c.self.view_is);
    }
