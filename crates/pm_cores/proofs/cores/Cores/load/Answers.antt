use Rattle.std.proofs.Common.{◌∙◌, ap}
use Rattle.pm_cores.specs.declared.entry.Entry.TheVariants.{Load}
use Rattle.pm_cores.specs.Caches.{Caches, after_load, line_owner, logged}
use Rattle.pm_cores.proofs.Calls.{load_frame}
use Rattle.pm_cores.proofs.cores.Cores.load.Goals as goal

pub push_load-requires-clause-core : goal.push_load-requires-clause-core
push_load-requires-clause-core g c =
    let frame = load_frame c.args.self.now c.args.core (line_owner c.args.self.now c.args.i) in
    rw (c.open_to_load.ensures.after, frame.cores) c.requires.core

pub push_load-requires-clause-room : goal.push_load-requires-clause-room
push_load-requires-clause-room g c =
    let frame = load_frame c.args.self.now c.args.core (line_owner c.args.self.now c.args.i) in
    rw (c.open_to_load.ensures.after, frame.log, frame.capacity) c.requires.room

pub returns-clause-after : goal.returns-clause-after
unfolding after_load
returns-clause-after g c = c.push_load.ensures ∙ ap (λ (s : Caches). logged s (Load c.args.core c.args.i)) c.open_to_load.ensures.after
