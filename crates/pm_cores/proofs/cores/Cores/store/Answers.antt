use Rattle.std.proofs.Common.{◌∙◌, ap}
use Rattle.pm_cores.specs.Log.{core_barriers}
use Rattle.pm_cores.specs.Caches.{Caches, after_store, line_owner, stored}
use Rattle.pm_cores.proofs.Calls.{store_frame}
use Rattle.pm_cores.proofs.cores.Cores.store.Goals as goal

pub push_store-requires-clause-core : goal.push_store-requires-clause-core
push_store-requires-clause-core c =
    let frame = store_frame c.args.self.now c.args.core (core_barriers c.args.core c.args.self.now.log) (line_owner c.args.self.now c.args.i) in
    rw (c.open_to_store.ensures.after, frame.cores) c.requires.core

pub push_store-requires-clause-word : goal.push_store-requires-clause-word
push_store-requires-clause-word c =
    let frame = store_frame c.args.self.now c.args.core (core_barriers c.args.core c.args.self.now.log) (line_owner c.args.self.now c.args.i) in
    rw (c.open_to_store.ensures.after, frame.size) c.requires.word

pub push_store-requires-clause-room : goal.push_store-requires-clause-room
push_store-requires-clause-room c =
    let frame = store_frame c.args.self.now c.args.core (core_barriers c.args.core c.args.self.now.log) (line_owner c.args.self.now c.args.i) in
    rw (c.open_to_store.ensures.after, frame.log, frame.capacity) c.requires.room

pub returns : goal.returns
unfolding after_store
returns c = c.push_store.ensures ∙ ap (λ (s : Caches). stored s c.args.core c.args.i c.args.v) c.open_to_store.ensures.after
