use Rattle.std.proofs.Common.{nat_eq, refl, sym}
use Rattle.pm_region.specs.Memory.{current_words}
use Rattle.bp_cache.proofs.CacheLaws.{of_tree, promoted_right}
use Rattle.bp_cache.proofs.Lists.{held_found}
use Rattle.bp_cache.proofs.cache.DirectoryCache.recall_large.Goals.{in-None-1, in-Some+in-Lost-1}
use Rattle.bp_cache.proofs.cache.DirectoryCache.recall_large.Goals as goal

pub recall-requires-clause-right : goal.recall-requires-clause-right
recall-requires-clause-right g c =
    let image = current_words (g.R.Region.memory c.args.region.now) in
    of_tree image c.args.dir c.args.tree c.requires.tree c.in-Some.held.now
    (held_found image c.args.dir c.args.self.now.directories.entries c.in-Some.held.now c.requires.right.directories (sym c.in-Some.ensures.value))

pub returns-in-Some : goal.returns-in-Some
returns-in-Some g c =
    record {
      reported = c.recall.ensures;
      right = promoted_right (current_words (g.R.Region.memory c.args.region.now)) (nat_eq c.args.dir) c.args.self.now _ _ refl c.get.follows.holds-at-none c.requires.right;
    }

pub make_held-requires-clause-right : goal.make_held-requires-clause-right
make_held-requires-clause-right g c =
    let image = current_words (g.R.Region.memory c.args.region.now) in
    let right = promoted_right image (nat_eq c.args.dir) c.args.self.now _ _ refl c.get.follows.holds-at-none c.requires.right in
    elim c.match-get.branch [ in-None-1 w ↦ rw w.self-is right | in-Some+in-Lost-1 w ↦ rw w.self-is right ]

pub recall-requires-in-Some-peek-clause-right : goal.recall-requires-in-Some-peek-clause-right
recall-requires-in-Some-peek-clause-right g c =
    let image = current_words (g.R.Region.memory c.args.region.now) in
    of_tree image c.args.dir c.args.tree c.requires.tree c.in-Some-peek.held.now
    (held_found image c.args.dir c.make_held.new.self.directories.entries c.in-Some-peek.held.now c.if-not-make_held.ensures.right.directories (sym c.in-Some-peek.ensures))
