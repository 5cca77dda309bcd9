-- The numbers that a subcommand's values give.
use Rattle.std.proofs.Common.{◌≡◌, ℕ, ◌≤◌, true, false, List, Option, None, Some, Result, Ok, Err, sym, ◌∙◌, ap, subst}
use Rattle.std.specs.Str.Parse.{ParsesUnsigned, digits_value, without_leading_plus}
use Rattle.clap.specs.Matches.{ReadsOne}
use Rattle.clap.specs.ValueTests.{accepts}
use Rattle.clap.specs.Values.{IsUnsignedIn}
use Rattle.clap.specs.Words.{Text, one_text, rows_of}
use Rattle.clap.specs.declared.builder.value_parser.ValueParser.TheVariants as vp
use Rattle.clap.specs.declared.parser.matches.Found.{Found}
use Rattle.clap.proofs.ValueTestLemmas.{accepts-Accepts}
use Rattle.bp_command.specs.Programs.{GivesNumber, HasNumber}
use Rattle.bp_command.proofs.Rows.{one_given}

same_number : (m n : ℕ) → Some m ≡ Some n → m ≡ n
same_number m n e = cc

module _ (E : Type 0) (G : List ℕ → Result ℕ E → Type 0) (only : (u : List ℕ) (x : Result ℕ E) → G u x → ParsesUnsigned 64 10 u x) where
  in_range : (least most : ℕ) (t : Text) → accepts false (vp.Unsigned least most) t ≡ true → IsUnsignedIn least most t
  in_range least most t passes = accepts-Accepts false (vp.Unsigned least most) t passes

  -- a text that is in range reads as its number
  reads : (least most : ℕ) (t : Text) (r : Option ℕ) → ReadsOne G t r → accepts false (vp.Unsigned least most) t ≡ true →
      r ≡ Some (digits_value 10 (without_leading_plus t))
  reads least most t (Some v) read passes = ap Some (only t (Ok v) read).1
  reads least most t None read passes =
      let range : IsUnsignedIn least most t = in_range least most t passes in
      absurd (only t (Err read.0) read.1 (range.0, range.1))

  -- a number that is in range is read
  pub reads_number : (option : Text) (least most : ℕ) (f : Found) (r : Option ℕ) → ((t : List ℕ) → one_text f option ≡ Some t → ReadsOne G t r) →
      (number : HasNumber option least most (rows_of f)) → r ≡ Some (digits_value 10 (without_leading_plus number.digits))
  reads_number option least most f r value number = reads least most number.digits r (value number.digits (sym (one_given option f) ∙ number.given)) number.passes

  -- and the values give it
  pub gives_number : (option : Text) (least most : ℕ) (f : Found) (r : Option ℕ) (n : ℕ) → ((t : List ℕ) → one_text f option ≡ Some t → ReadsOne G t r) →
      r ≡ Some n → HasNumber option least most (rows_of f) → GivesNumber option least most (rows_of f) n
  gives_number option least most f r n value is number =
      let range : IsUnsignedIn least most number.digits = in_range least most number.digits number.passes in
      let same : n ≡ digits_value 10 (without_leading_plus number.digits) = same_number _ _ (sym is ∙ reads_number option least most f r value number) in
      record {
        digits = number.digits;
        given = number.given;
        value = sym same;
        at_least = subst (λ (m : ℕ). least ≤ m) (sym same) range.2;
        at_most = subst (λ (m : ℕ). m ≤ most) (sym same) range.3;
      }
