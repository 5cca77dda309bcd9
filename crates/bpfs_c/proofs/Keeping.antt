-- The listing that a handle keeps stays where a call lists no names.
use Rattle.std.proofs.Common.{◌≡◌, ℕ, List, Option, Result, Ok, Err, refl}
use Rattle.bp_layout.specs.declared.fields.Stat.{Stat}
use Rattle.bp_layout.specs.declared.fields.Stat.TheVariants.{Dir, File}
use Rattle.bp_plain.specs.Calls.{Answer}
use Rattle.bp_plain.specs.Calls.Answer.{done, refused}
use Rattle.bp_plain.specs.declared.errors.FsError.{FsError}
use Rattle.bp_volume.specs.Seen.{attribute_answer, links_answer, read_answer_of, stat_answer_of, unit_answer}
use Rattle.bpfs_c.specs.Codes.{IsEndedBy}
use Rattle.bpfs_c.specs.Listings.{Names, listing_after}

module _ (kept : Option Names) where
  pub unit_keeps : (ending : Result (Unit {0}) FsError) → listing_after (unit_answer ending) kept ≡ kept
  unit_keeps (Ok nothing) = refl
  unit_keeps (Err error) = refl

  pub ended_keeps : (answer : Answer) (code : ℕ) → IsEndedBy answer code → listing_after answer kept ≡ kept
  ended_keeps done code ended = refl
  ended_keeps (refused why) code ended = refl
  ended_keeps answer code ended = absurd ended

  pub read_keeps : (ending : Result ℕ FsError) (content : List ℕ) → listing_after (read_answer_of ending content) kept ≡ kept
  read_keeps (Ok count) content = refl
  read_keeps (Err error) content = refl

  pub links_keeps : (ending : Result ℕ FsError) → listing_after (links_answer ending) kept ≡ kept
  links_keeps (Ok count) = refl
  links_keeps (Err error) = refl

  pub attribute_keeps : (ending : Result ℕ FsError) → listing_after (attribute_answer ending) kept ≡ kept
  attribute_keeps (Ok value) = refl
  attribute_keeps (Err error) = refl

  pub stat_keeps : (ending : Result Stat FsError) → listing_after (stat_answer_of ending) kept ≡ kept
  stat_keeps (Ok (File size)) = refl
  stat_keeps (Ok (Dir count)) = refl
  stat_keeps (Err error) = refl
