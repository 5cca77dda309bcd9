use Rattle.std.proofs.Common.{nat_eq, sym, ◌∙◌, ap, subst}
use Rattle.std.specs.HashMap.{get}
use Rattle.pm_region.specs.Memory.{current_words}
use Rattle.bp_cache.specs.Collisions.{Collides, IsLeastNamed}
use Rattle.bp_cache.proofs.FindLaws.{found_first, found_other, nowhere}
use Rattle.bp_cache.proofs.index.Index.find_entry.Goals as goal

pub returns-in_default-clause-slot : goal.returns-in_default-clause-slot
returns-in_default-clause-slot g c =
    nowhere (current_words (g.R.Region.memory c.args.region.now)) c.args.tree.root c.args.tree.size c.args.name.now c.args.self.now c.requires.right
    (sym (ap (get nat_eq c.args.self.now.slots) c.hash_of-hash.ensures) ∙ sym c.in_default.ensures.value)

pub returns-in-Some-find_at-clause-slot : goal.returns-in-Some-find_at-clause-slot
returns-in-Some-find_at-clause-slot g c =
    found_first (current_words (g.R.Region.memory c.args.region.now)) c.args.tree.root c.args.tree.size c.args.name.now c.args.self.now c.requires.right
    c.in-Some.first.now (sym (ap (get nat_eq c.args.self.now.slots) c.hash_of-hash.ensures) ∙ sym c.in-Some.ensures.value) c.in-Some-find_at.found c.in-Some-find_at.ensures.some

pub returns-in-None-clause-slot : goal.returns-in-None-clause-slot
returns-in-None-clause-slot g c =
    let image = current_words (g.R.Region.memory c.args.region.now) in
    found_other image c.args.tree.root c.args.tree.size c.args.name.now c.args.self.now c.requires.right
    c.in-Some.first.now (sym (ap (get nat_eq c.args.self.now.slots) c.hash_of-hash.ensures) ∙ sym c.in-Some.ensures.value) c.in-None.ensures.none c.find.result
    (subst (λ h. IsLeastNamed image c.args.tree.root c.args.tree.size c.args.name.now (Collides c.args.self.now.collisions h) c.find.result) c.hash_of-hash.ensures c.find.ensures)
