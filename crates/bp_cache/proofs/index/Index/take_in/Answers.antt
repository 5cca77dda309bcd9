use Rattle.std.proofs.Common.{◌≤◌, ◌∙◌, arith}
use Rattle.bp_layout.specs.Directory.{word_in}
use Rattle.bp_layout.proofs.EntryWords.{name_in-words}
use Rattle.bp_cache.proofs.ChangeLaws.{entered_as}
use Rattle.bp_cache.proofs.index.Index.take_in.Goals as goal

pub returns : goal.returns
returns c =
    λ image root is reported.
    let short : word_in image root c.args.slot 1 ≤ 240 = omega (arith, is.each 1 (omega arith), c.name_len.ensures, c.if-name_len.false) in
    entered_as c.args.self.now c.enter.new.self _ _ c.args.slot c.enter.result c.enter.ensures.enters reported
    (c.read_name-name.ensures ∙ name_in-words image root c.args.slot c.args.entry.now.words.now short is.each)
