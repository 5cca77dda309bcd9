-- The guarantee, from what a run at status 0 did.
use Rattle.std.proofs.Common.{◌≡◌}
use Rattle.bp_session.specs.Outside.{Outside}
use Rattle.bp_shell.specs.Guarantee.{KeepsGuarantee}
use Rattle.bp_shell.specs.Running.{Runs}
use Rattle.bp_shell.specs.declared.status.Status.{Status}
use Rattle.bp_shell.specs.declared.status.Status.TheVariants as status

pub guaranteed : (before after : Outside) → Runs before after → KeepsGuarantee before after
guaranteed before after runs = record {
  image = runs.begins.image;
  file = runs.begins.found.has.bytes;
  tree = runs.begins.tree;
  represents = runs.begins.stands;
  script = runs.begins.input;
  read = runs.begins.read;
  all = runs.all;
  replies = runs.reported.replies;
  printed = runs.reported.taken;
  memory = runs.new.system;
  plainly = runs.plainly.whole;
  saved = runs.saved;
}

pub usage_is_not_done : ◌≡◌ {A = Status} status.Usage status.Done → ⊥
usage_is_not_done e = cc

pub memory_is_not_done : ◌≡◌ {A = Status} status.Memory status.Done → ⊥
memory_is_not_done e = cc
