use Rattle.std.proofs.Common.{refl}
use Rattle.std.proofs.lemmas.Bool.{eq-eqb, ne_eqb, le-leb, lt-leb}
use Rattle.bp_replay.specs.Cache.{by_draw}
use Rattle.bp_replay.proofs.caches.play_eighth.Goals as goal

pub returns-then-eighth-eq0 : goal.returns-then-eighth-eq0
unfolding by_draw
returns-then-eighth-eq0 g c =
    let test = eq-eqb c.args.eighth 0 c.if-eighth-eq0.true in
    rw test c.load.ensures.after

pub returns-then-eighth-le4 : goal.returns-then-eighth-le4
unfolding by_draw
returns-then-eighth-le4 g c =
    let test = ne_eqb c.args.eighth 0 c.if-eighth-eq0.false in
    let low = le-leb c.args.eighth 4 c.if-eighth-le4.true in
    rw (test, low) c.write_back.ensures

pub returns-else-eighth-le4 : goal.returns-else-eighth-le4
unfolding by_draw
returns-else-eighth-le4 g c =
    let test = ne_eqb c.args.eighth 0 c.if-eighth-eq0.false in
    let high = lt-leb c.args.eighth 4 c.if-eighth-le4.false in
    rw (test, high) refl
