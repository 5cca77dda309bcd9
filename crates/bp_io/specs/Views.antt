-- What is known of a source, of a sink and of files. A device in memory makes it known; a real device does not.
use Rattle.std.specs.Prelude.{◌≡◌, ℕ, List, Option, Some, None, ⊤, Bool}

-- What is known of a source: the bytes that are left, and how often it has failed, up to 2^64 - 1, where the count stops.
pub record SourceView : Type 0 where
  pub left : Option (List ℕ)
  pub faults : ℕ

-- What is known of a sink: the bytes that it took, and how often it has failed, counted as for a source.
pub record SinkView : Type 0 where
  pub taken : Option (List ℕ)
  pub faults : ℕ

-- What is known of the file of a name: nothing, or that no file has the name, or the file's bytes.
abbrev pub Known : Type 0
Known = Option (Option (List ℕ))

-- If anything is known of it, the file is there and has these bytes.
abbrev pub HasBytes : Known → List ℕ → Type 0
HasBytes None bytes = ⊤
HasBytes (Some None) bytes = ⊥
HasBytes (Some (Some found)) bytes = found ≡ bytes

-- What is known of files. `is_attached`: the names under which a file is attached. `blocks`: the number of whole blocks
-- of the attached file, 0 if none is attached. `may_write`: whether it may be written. `is_flushed`: whether everything
-- written is known to be flushed. `contents`: what is known of the file of each name. `faults`: the number of failures,
-- which stops at 2^64 - 1.
pub record View : Type 0 where
  pub is_attached : List ℕ → Bool
  pub blocks : ℕ
  pub may_write : Bool
  pub is_flushed : Bool
  pub contents : List ℕ → Known
  pub faults : ℕ
