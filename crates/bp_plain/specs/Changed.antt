-- Copies of the numbered files of a program that differ by one change.
use Rattle.std.specs.Prelude.{ℕ, List, ◌==◌, Option, None, Some, if◌then◌else◌}
use Rattle.std.specs.List.{filter_map}
use Rattle.std.specs.FinMap.{entries, from_entries, insert}
use Rattle.bp_layout.specs.Paths.{Attributes, Path}
use Rattle.bp_plain.specs.declared.trees.entries.Change.{Change}
use Rattle.bp_plain.specs.declared.trees.entries.Change.TheVariants.{Nothing, Content, Moved}
use Rattle.bp_plain.specs.Numbered.{Numbered, NumberedFiles}
use Rattle.bp_plain.specs.Numbered.Numbered.{directory, numbered_file}
use Rattle.bp_plain.specs.Plain.{moved_entry}
use Rattle.bp_plain.specs.SeenTree.{names_of}

-- the node with these attributes and bytes if it is the file with this number; else unchanged
abbrev pub with_bytes_in : ℕ → Attributes → List ℕ → Numbered → Numbered
with_bytes_in id attributes bytes (directory own) = directory own
with_bytes_in id attributes bytes (numbered_file other own content) =
    numbered_file other (if other == id then attributes else own) (if other == id then bytes else content)

-- the entry after the change; nothing if the change removes the entry
abbrev pub changed : Change → Path × Numbered → Option (Path × Numbered)
changed Nothing entry = Some entry
changed (Content id attributes bytes) entry = Some (entry.0, with_bytes_in id attributes bytes.now entry.1)
changed (Moved from to) entry = moved_entry (names_of from.now) (names_of to.now) entry

abbrev pub changed_files : Change → NumberedFiles → NumberedFiles
changed_files change files = from_entries (filter_map (changed change) (entries files))

-- the files with this entry inserted; unchanged if there is no entry
abbrev pub with_entry : Option (Path × Numbered) → NumberedFiles → NumberedFiles
with_entry None files = files
with_entry (Some entry) files = insert files entry.0 entry.1
