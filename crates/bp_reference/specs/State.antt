-- The state of a reference.
use Rattle.bp_reference.specs.Trees.{Trees}
use Rattle.bp_reference.specs.declared.reference.Reference.{Reference}

-- The memory of the region and the trees.
abbrev pub trees_in : Reference → Trees
trees_in it = record { memory = it.region; durable = it.durable; since = it.since.items }
