use Rattle.std.proofs.Common.{ℕ, arith}
use Rattle.pm_cores.specs.Log.{IsStore}
use Rattle.pm_cores.proofs.cores.Cores.choice.Goals as goal

pub push_flags-requires-clause-words : goal.push_flags-requires-clause-words
push_flags-requires-clause-words c =
    let sound = c.self.invariant.sound in
    rw (c.deref.ensures.value, c.deref-2.ensures.value) (λ (place core word : ℕ) (store : IsStore c.self.inside.log.items place core word). let low = sound.words place core word store in let size = sound.as_many_since in omega arith)
