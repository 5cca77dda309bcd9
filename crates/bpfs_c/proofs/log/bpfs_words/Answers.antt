use Rattle.std.proofs.Common.{◌≡◌, rules, subst}
use Rattle.pm_region.specs.Memory.{Memory, current_words}
use Rattle.bpfs_c.specs.Serves.Looked.{looked}
use Rattle.bpfs_c.specs.Words.{CopiesWords}
use Rattle.bpfs_c.proofs.log.bpfs_words.Goals as goal

pub returns : goal.returns
returns c =
    let held = c.in-Some.mounted.value in
    let reported = c.copy_words-code in
    let is : c.region.result.now ≡ held.volume = search rules in
    looked held (search rules) (search rules)
    (subst (λ (memory : Memory). CopiesWords (current_words memory) c.args.first c.args.into.now reported.result reported.new.into) is reported.ensures)
