-- The known state of the source, the sink and the files of a program.
use Rattle.std.specs.Prelude.{ℕ, Bool, List, Option}
use Rattle.bp_io.specs.Views.{Known, SinkView, SourceView, View}

-- The number of failures of the source, the sink and the files.
pub record Faults : Type 0 where
  pub source : ℕ
  pub sink : ℕ
  pub files : ℕ

abbrev pub counts : ℕ → ℕ → View → Faults
counts source sink files = record { source = source; sink = sink; files = files.faults }

-- The known state of the outside of a program. `left`: the bytes left in the source. `taken`: the bytes that the sink
-- took. `file`: the contents of FILE. `is_flushed`: whether all written data is known to be flushed. `faults`: the
-- number of failures of each device.
pub record Outside : Type 0 where
  pub left : Option (List ℕ)
  pub taken : Option (List ℕ)
  pub file : Known
  pub is_flushed : Bool
  pub faults : Faults

abbrev pub outside : SourceView → SinkView → View → List ℕ → Outside
outside source sink files name =
    record {
      left = source.left;
      taken = sink.taken;
      file = files.contents name;
      is_flushed = files.is_flushed;
      faults = counts source.faults sink.faults files;
    }
