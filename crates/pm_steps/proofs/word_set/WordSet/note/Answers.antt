use Rattle.std.proofs.Common.{◌≡◌, ◌++◌, ◌∷◌, [], ◌%◌, length, get_or, arith}
use Rattle.std.proofs.lemmas.Grind.{common_steps}
use Rattle.pm_steps.proofs.Links.{linked_note}
use Rattle.pm_steps.proofs.word_set.WordSet.note.Goals as goal

pub invariant_of-self : goal.invariant_of-self
invariant_of-self c =
    let words = c.self.inside.words.items in
    let before = c.self.inside.before.items in
    let heads = c.self.inside.heads.items in
    let linked = linked_note words before heads c.args.word c.self.invariant.linked in
    let words_are : c.push-2.new.self.items ≡ words ++ c.args.word ∷ [] = grind (arith, common_steps) in
    let before_are : c.push.new.self.items ≡ before ++ get_or heads (c.args.word % length heads) 0 ∷ [] = grind (arith, common_steps) in
    let remainder_is : c.remainder_of-remainder.result ≡ c.args.word % length heads = grind (arith, common_steps) in
    let count_is : c.len.result ≡ length words = grind (arith, common_steps) in
    record {
      linked = rw (words_are, before_are, remainder_is, count_is) linked;
      words_reserved = grind (arith, common_steps);
      before_reserved = grind (arith, common_steps);
    }
