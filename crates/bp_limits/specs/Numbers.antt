-- The versions by their numbers.
use Rattle.std.specs.Prelude.{ℕ, ◌==◌, if◌then◌else◌}
use Rattle.bp_limits.specs.declared.version.Version.{Version}
use Rattle.bp_limits.specs.declared.version.Version.TheVariants.{One, Two, Three}

abbrev pub version_numbered : ℕ → Version
version_numbered number = if number == 1 then One else if number == 2 then Two else Three
