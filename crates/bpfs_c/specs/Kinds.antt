-- The kinds of entries as C sees them: whether an entry is a directory's.
use Rattle.std.specs.Prelude.{Bool, true, false}
use Rattle.bp_layout.specs.declared.fields.Kind.{Kind}
use Rattle.bp_layout.specs.declared.fields.Kind.TheVariants.{Dir, File}

abbrev pub is_dir_kind : Kind → Bool
is_dir_kind File = false
is_dir_kind Dir = true
