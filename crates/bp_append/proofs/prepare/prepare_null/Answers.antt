use Rattle.bp_free.specs.Set.{members}
use Rattle.bp_append.proofs.GrowLaws.{null_room, null_base}
use Rattle.bp_append.proofs.prepare.prepare_null.Goals as goal

pub link-requires-clause-place : goal.link-requires-clause-place
link-requires-clause-place g c =
    null_base c.requires.can c.requires.null (g.R.Region.memory c.make_root-root.new.region) (members c.make_root-root.new.blocks)
    c.args.bytes.now c.make_root-root.result c.args.place c.make_root-root.ensures.roots c.requires.place

pub link-requires-clause-room : goal.link-requires-clause-room
link-requires-clause-room g c =
    null_room c.requires.can c.requires.null (g.R.Region.memory c.make_root-root.new.region) (members c.make_root-root.new.blocks)
    c.args.bytes.now c.make_root-root.result c.make_root-root.ensures.roots

pub returns-clause-makes : goal.returns-clause-makes
returns-clause-makes g c = record { between = g.R.Region.memory c.make_root-root.new.region; top = c.make_root-root.result; made = c.make_root-root.ensures.roots; ends = c.link.ensures }
