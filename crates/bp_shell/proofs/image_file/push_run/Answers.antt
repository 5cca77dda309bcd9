use Rattle.std.proofs.Common.{arith, ap, subst, sym, ◌∙◌, ℕ, ◌/◌, List, length, length-append}
use Rattle.pm_raw.specs.Part.{Part}
use Rattle.pm_raw.specs.Spelled.{spelled_words}
use Rattle.pm_raw.proofs.SpelledLaws.{length-spelled_words, spelled_fit}
use Rattle.bp_layout.specs.Bytes.{image_bytes}
use Rattle.bp_session.specs.Files.{AreWordsOf64Bits}
use Rattle.bp_shell.proofs.OpeningLaws.{bytes_next, spelled_image, words_append}
use Rattle.bp_shell.proofs.image_file.push_run.Goals as goal

pub returns-clause-bytes : goal.returns-clause-bytes
returns-clause-bytes c =
    let run = c.args.run.now in
    ap (λ (part : Part). image_bytes part.words) c.push_bytes.ensures
    ∙ bytes_next c.args.filling.now.words (spelled_words (length run / 8) run) run (spelled_image run c.requires.whole (λ k. omega (arith, c.type_inv.run k)))

pub returns-clause-words : goal.returns-clause-words
returns-clause-words c =
    let run = c.args.run.now in
    let words = spelled_words (length run / 8) run in
    subst (λ (l : List ℕ). AreWordsOf64Bits l) (sym (ap (λ (part : Part). part.words) c.push_bytes.ensures))
    (words_append c.args.filling.now.words words c.requires.words (spelled_fit (length run / 8) run (λ k. omega (arith, c.type_inv.run k))))

pub returns-clause-long : goal.returns-clause-long
returns-clause-long c =
    let run = c.args.run.now in
    let words = spelled_words (length run / 8) run in
    omega (arith, ap (λ (part : Part). length part.words) c.push_bytes.ensures, length-append c.args.filling.now.words words, length-spelled_words (length run / 8) run)

pub returns-clause-size : goal.returns-clause-size
returns-clause-size c = ap (λ (part : Part). part.size) c.push_bytes.ensures
