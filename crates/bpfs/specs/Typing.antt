-- Lines that are typed at a terminal.
use Rattle.std.specs.Prelude.{◌≡◌, ◌<◌, ◌-◌, ◌++◌, ℕ, zero, suc, Bool, true, false, List, [], length, slice_index, codes, Option, None, Result}
use Rattle.std.specs.Io.KnownBytes.{Consumes, ReadConsumes}
use Rattle.bpfs.specs.declared.typing.Prompts.{Prompts}
use Rattle.bpfs.specs.declared.typing.Prompts.TheVariants.{Nowhere, Errors, Output}

-- Prompts are shown somewhere exactly if the input and the output are terminals, and only on a stream that is one.
pub record ShowsAtTerminals (input output errors : Bool) (prompts : Prompts) : Type 0 where
  pub shown : input ≡ true → output ≡ true → ¬ (prompts ≡ Nowhere)
  pub typed : ¬ (prompts ≡ Nowhere) → input ≡ true
  pub printed : ¬ (prompts ≡ Nowhere) → output ≡ true
  pub apart : prompts ≡ Errors → errors ≡ true

-- What is left of a terminal's lines is not known; that of another source is.
abbrev pub known_left : Prompts → Option (List ℕ) → Option (List ℕ)
known_left Nowhere left = left
known_left Errors left = None
known_left Output left = None

-- The line `help`, with its newline.
abbrev pub help_line : List ℕ
help_line = codes "help\n"

abbrev pub help_lines : ℕ → List ℕ
help_lines zero = []
help_lines (suc count) = help_lines count ++ help_line

-- The last byte is a newline, byte 10.
pub record EndsLine (bytes : List ℕ) : Type 0 where
  pub some : 0 < length bytes
  pub last : slice_index bytes (length bytes - 1) ≡ 10

-- The bytes that were left began with a number of lines `help`, and these are what is left after them. There are none
-- if the bytes do not begin a line.
pub record SkipsHelp (begins_line : Bool) (before after : Option (List ℕ)) : Type 0 where
  pub count : ℕ
  pub none : begins_line ≡ false → count ≡ 0
  pub skipped : Consumes before after (help_lines count)

-- A read that skips lines `help`, and gives what is next.
pub record ReadsPastHelp {E : Type 0} (begins_line : Bool) (before after : Option (List ℕ)) (result : Result ℕ E)
    (into : List ℕ) : Type 0 where
  pub rest : Option (List ℕ)
  pub skips : SkipsHelp begins_line before rest
  pub reads : ReadConsumes rest after result into
