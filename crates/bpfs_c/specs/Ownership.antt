-- The memory that a handle owns: nothing, or the heap block of its volume and listing.
use Rattle.std.specs.Prelude.{Bool, true, false, Option, Some, None}
use base.Fml.{Fml, feq, fsep}
use denote.RawPtr.{Ptr}
use mir.Syntax.{Ty}
use Rattle.std_heap.specs.contracts.GlobalAllocator.TheImpl.{ghosts}
use Rattle.std_alloc.specs.Box.Ownership.{box_owns}
use Rattle.bpfs_c.specs.declared.mounted.Mounted.{Mounted}
use Rattle.bpfs_c.specs.contracts.mounted.Mounted.{the_row}

-- The right to free a block of the heap of the C library. Each handle of that allocator gives it.
abbrev pub freeable : Ty → Ptr → Fml
freeable = ghosts.dealloc_token (record { memory = record { seal = tt } })

abbrev pub handle_owns : Ptr → Bool → Option Mounted → Fml
handle_owns at is_open None = feq Bool is_open false
handle_owns at is_open (Some mounted) = fsep (feq Bool is_open true) (box_owns freeable the_row at mounted)
