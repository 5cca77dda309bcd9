-- The question before a file is erased, and requests for the version of the program.
use Rattle.std.specs.Prelude.{◌≡◌, ◌⊎◌, ℕ, ◌∷◌, [], List, codes, Option, None, Some, ⊤}
use Rattle.bp_command.specs.Programs.{Requests}
use Rattle.bp_command.specs.Programs.Program.{formats}
use Rattle.bp_limits.specs.Limits.{magic}
use Rattle.bp_limits.specs.declared.version.Version.{Version}
use Rattle.bp_limits.specs.declared.version.Version.TheVariants.{One, Two, Three}
use Rattle.bpfs.specs.declared.reasons.Reason.{Reason}
use Rattle.bpfs.specs.declared.reasons.Reason.TheVariants.{Kept}

-- The arguments are accepted, and ask for a format of the file of this name.
pub record RequestsFormat (words : List (List ℕ)) (name : List ℕ) : Type 0 where
  pub blocks : ℕ
  pub version : Version
  pub requests : Requests words (formats name blocks version)

-- The reason is that a file is kept, and the arguments ask for a format of this file.
abbrev pub KeepsFormatted : List (List ℕ) → Reason → Type 0
KeepsFormatted words (Kept name) = RequestsFormat words name.now
KeepsFormatted words other = ⊥

-- An answer that lets a file be erased, with its newline or without.
abbrev pub IsYes : List ℕ → Type 0
IsYes answer = (answer ≡ codes "y\n") ⊎ (answer ≡ codes "yes\n") ⊎ (answer ≡ codes "y") ⊎ (answer ≡ codes "yes")

-- The first word of a file is that of an image.
abbrev pub IsMagic : ℕ → Type 0
IsMagic word = (word ≡ magic One) ⊎ (word ≡ magic Two) ⊎ (word ≡ magic Three)

-- The first word of a file, if it is known to have one, is not that of an image.
abbrev pub BeginsNoImage : Option ℕ → Type 0
BeginsNoImage None = ⊤
BeginsNoImage (Some word) = ¬ IsMagic word

-- An argument that asks for the version of the program.
abbrev pub IsVersionFlag : List ℕ → Type 0
IsVersionFlag word = (word ≡ codes "--version") ⊎ (word ≡ codes "-V")

-- The arguments are the name under which the program was called, and one that asks for its version.
pub record AsksForProgramVersion (words : List (List ℕ)) : Type 0 where
  pub called : List ℕ
  pub flag : List ℕ
  pub are : words ≡ called ∷ flag ∷ []
  pub is : IsVersionFlag flag
