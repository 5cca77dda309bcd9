use Rattle.std.proofs.Common.{◌≡◌, ◌+◌, Some, refl, ◌∙◌, arith}
use Rattle.std.specs.HashMap.{hash_map_len}
use Rattle.bp_cache.proofs.LeadLaws.{loses_first, loses_only, replaced}
use Rattle.bp_cache.proofs.index.Index.lose_first.Goals as goal

pub returns-in-Some-clause-loses : goal.returns-in-Some-clause-loses
returns-in-Some-clause-loses c =
    λ slot table.
    let before = c.args.self.now in
    let put = replaced before.slots c.insert-first.new.self c.args.hash slot c.in-Some.next c.insert-first.result table c.insert-first.ensures.old c.insert-first.ensures.updates
    c.insert-first.ensures.absent c.insert-first.ensures.len in
    loses_first before (record before { slots = c.insert-first.new.self; collisions = c.remove.new.self }) c.args.hash slot c.in-Some.next table c.in-Some.ensures.some
    c.in-Some.ensures.least put.0 c.remove.ensures put.1

pub returns-in-None-clause-loses : goal.returns-in-None-clause-loses
returns-in-None-clause-loses c =
    λ slot table.
    let before = c.args.self.now in
    let value : c.remove-first.result ≡ Some slot = c.remove-first.ensures.value ∙ table in
    let one_less : hash_map_len c.remove-first.new.self + 1 ≡ hash_map_len before.slots = rw value at c.remove-first.ensures.len in
    loses_only before (record before { slots = c.remove-first.new.self }) c.args.hash slot table c.in-None.ensures.none c.remove-first.ensures.updates refl one_less
