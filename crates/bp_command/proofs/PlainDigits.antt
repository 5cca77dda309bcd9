-- Numbers in plain words, by their digits.
use Rattle.std.proofs.Common.{◌≡◌, ℕ, ◌<◌, ◌≤◌, List, [], ◌∷◌, length, ◌^◌, Bool, true, false, cond, nat_eq, drop, Some, refl, sym, ◌∙◌, ap, subst, arith}
use Rattle.std.specs.Prelude.{codes, decimal}
use Rattle.std.specs.Str.Parse.{IsNumeral, digits_value, without_leading_plus}
use Rattle.std.proofs.lemmas.Fmt.{decimal_is_IsNumeral}
use Rattle.std.proofs.lemmas.Bool.{ne_eqb}
use Rattle.std.proofs.lemmas.Str.Parse.{digit_from_value}
use Rattle.clap.specs.Words.{Text}
use Rattle.clap.specs.Values.{IsUnsignedIn}
use Rattle.clap.specs.ValueTests.{accepts}
use Rattle.clap.specs.declared.builder.value_parser.ValueParser.TheVariants as vp
use Rattle.clap.proofs.ValueTestLemmas.{Accepts-accepts}
use Rattle.bp_limits.specs.Numbers.{version_numbered}
use Rattle.bp_limits.specs.declared.version.Version.{Version}
use Rattle.bp_limits.specs.declared.version.Version.TheVariants.{One, Two, Three}
use Rattle.bp_command.specs.Programs.{version_words}

first_digit : (d : ℕ) (ds : Text) → IsNumeral 10 (d ∷ ds) → (nat_eq d 43 ≡ false) × (nat_eq d 45 ≡ false)
first_digit d ds numeral =
    let low = digit_from_value d numeral.1.0 in
    (ne_eqb _ _ (λ e. omega (arith, low)), ne_eqb _ _ (λ e. omega (arith, low)))

no_plus : (d : ℕ) (ds : Text) → IsNumeral 10 (d ∷ ds) → without_leading_plus (d ∷ ds) ≡ d ∷ ds
no_plus d ds numeral = ap (λ (b : Bool). drop (cond b 1 0) (d ∷ ds)) (first_digit d ds numeral).0

-- the digits of a number
pub record AreDigits (least most number d : ℕ) (ds : Text) : Type 0 where
  pub is : decimal number ≡ d ∷ ds
  pub plain : nat_eq d 45 ≡ false
  pub passes : accepts false (vp.Unsigned least most) (d ∷ ds) ≡ true
  pub value : digits_value 10 (without_leading_plus (d ∷ ds)) ≡ number

pub digits_of : (least most number : ℕ) → least ≤ number → number ≤ most → number < 2 ^ 64 → (d : ℕ) × (ds : Text) × AreDigits least most number d ds
digits_of least most number low high fits = go (decimal number) refl
  where
    go : (t : Text) → decimal number ≡ t → (d : ℕ) × (ds : Text) × AreDigits least most number d ds
    go [] is =
        let numeral : IsNumeral 10 [] = subst (IsNumeral 10) is (decimal_is_IsNumeral number fits).0 in
        let some : 0 < length {A = ℕ} [] = numeral.0 in
        absurd (omega (arith, some))
    go (d ∷ ds) is =
        let numeral : IsNumeral 10 (d ∷ ds) = subst (IsNumeral 10) is (decimal_is_IsNumeral number fits).0 in
        let same : digits_value 10 (d ∷ ds) ≡ number = ap (digits_value 10) (sym is) ∙ (decimal_is_IsNumeral number fits).1 in
        let bare : without_leading_plus (d ∷ ds) ≡ d ∷ ds = no_plus d ds numeral in
        let value : digits_value 10 (without_leading_plus (d ∷ ds)) ≡ number = ap (digits_value 10) bare ∙ same in
        let range : IsUnsignedIn least most (d ∷ ds) = (
          subst (IsNumeral 10) (sym bare) numeral,
          subst (λ (m : ℕ). m < 2 ^ 64) (sym value) fits,
          subst (λ (m : ℕ). least ≤ m) (sym value) low,
          subst (λ (m : ℕ). m ≤ most) (sym value) high,
        ) in
        let passes = Accepts-accepts false (vp.Unsigned least most) (d ∷ ds) range in
        (d, ds, record { is = is; plain = (first_digit d ds numeral).1; passes = passes; value = value })

-- the number that an option gives is the one whose digits it was given
pub same_value : (least most number given d : ℕ) (ds digits : Text) → AreDigits least most number d ds → digits ≡ d ∷ ds →
    digits_value 10 (without_leading_plus digits) ≡ given → given ≡ number
same_value least most number given d ds digits are is value = sym value ∙ ap (λ (t : Text). digits_value 10 (without_leading_plus t)) is ∙ are.value

pub inside : {A : Type 0} {x y : A} → Some x ≡ Some y → x ≡ y
inside e = cc

-- the digit of a version, as its option takes it
pub record IsDigitOf (version : Version) (v : ℕ) : Type 0 where
  pub words : version_words version ≡ codes "--version" ∷ (v ∷ []) ∷ []
  pub plain : nat_eq v 45 ≡ false
  pub passes : accepts false (vp.Unsigned 1 3) (v ∷ []) ≡ true
  pub value : version_numbered (digits_value 10 (without_leading_plus (v ∷ []))) ≡ version

pub digit_of : (version : Version) → (v : ℕ) × IsDigitOf version v
digit_of One = (49, record { words = refl; plain = refl; passes = refl; value = refl })
digit_of Two = (50, record { words = refl; plain = refl; passes = refl; value = refl })
digit_of Three = (51, record { words = refl; plain = refl; passes = refl; value = refl })

-- the words of a format, by the digits of its numbers
abbrev pub blocks_words : Text → ℕ → Text → Text → List Text
blocks_words called x xs blocks = called ∷ codes "format" ∷ (x ∷ xs) ∷ codes "--blocks" ∷ blocks ∷ []

abbrev pub all_words : Text → ℕ → Text → Text → List Text → List Text
all_words called x xs blocks version = called ∷ codes "format" ∷ (x ∷ xs) ∷ codes "--blocks" ∷ blocks ∷ version
