-- How serving ends: by a cause that breaks it off, or by none.
use Rattle.std.specs.Prelude.{Option, None, Some, Result, Ok, Err}
use Rattle.bp_session.specs.declared.broken.Broken.{Broken}

-- The cause that broke serving off; none if all was served.
abbrev pub cause_of : {T : Type 0} → Result T Broken → Option Broken
cause_of (Ok value) = None
cause_of (Err broken) = Some broken
