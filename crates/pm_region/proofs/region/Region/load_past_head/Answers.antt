use Rattle.std.proofs.Common.{◌≡◌, ◌∙◌, ◌+◌, ◌-◌, ap, arith, drop, get_or, length}
use Rattle.std.proofs.lemmas.List.{get_or-drop, get_or-take, length-drop, length-take}
use Rattle.pm_region.specs.Memory.{current_words}
use Rattle.pm_region.proofs.MemoryLaws.{length-current_words}
use Rattle.pm_region.proofs.region.Region.load_past_head.Goals as goal

pub bounds-load_words-0 : goal.bounds-load_words-0
bounds-load_words-0 g c =
    let memory = g.Self.Region.memory c.args.self.now in
    let words = current_words memory in
    omega (
      arith,
      ap length c.load_words.ensures,
      length-take (c.args.word + 1 - c.args.word) (drop c.args.word words),
      length-drop c.args.word words,
      length-current_words memory,
      c.requires.in_range,
    )

pub returns : goal.returns
returns g c =
    let words = current_words (g.Self.Region.memory c.args.self.now) in
    let same : c.args.word + 0 ≡ c.args.word = omega arith in
    ap (λ them. get_or them 0 0) c.load_words.ensures
    ∙ get_or-take (c.args.word + 1 - c.args.word) (drop c.args.word words) 0 0 (omega arith)
    ∙ get_or-drop c.args.word words 0 0
    ∙ ap (λ i. get_or words i 0) same
