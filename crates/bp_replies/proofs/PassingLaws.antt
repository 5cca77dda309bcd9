-- Texts that pass through what waits.
use Rattle.std.proofs.Common.{refl, sym, ◌∙◌, ap, subst, arith, ◌≡◌, ℕ, ◌+◌, List, [], ◌++◌, length, take, length-append}
use Rattle.std.proofs.lemmas.List.{append_assoc, append-nil, take-append-le}
use Rattle.std.proofs.Math.Seq.{take-append-add}
use Rattle.std.specs.Prelude.{Option, Some, None, Result, Ok, Err, OnOk, OnErr}
use Rattle.std.specs.Io.KnownBytes.{Appends}
use Rattle.std.proofs.KnownBytes.{Appends-trans}
use Rattle.bp_replies.specs.Gathering.{PassesOn}
use Rattle.bp_replies.specs.Taking.{TakesPart}

-- ---- one text after another

pub passes_nothing : (before : List ℕ) (t : Option (List ℕ)) → PassesOn [] before before t t
passes_nothing before None = record { sent = []; whole = append-nil before; took = tt }
passes_nothing before (Some xs) = record { sent = []; whole = append-nil before; took = sym (append-nil xs) }

pub passes_then : (x y a b c : List ℕ) (t u v : Option (List ℕ)) → PassesOn x a b t u → PassesOn y b c u v → PassesOn (x ++ y) a c t v
passes_then x y a b c t u v one two = record {
  sent = one.sent ++ two.sent;
  whole =
      sym (append_assoc a x y) ∙ ap (λ l. l ++ y) one.whole ∙ append_assoc one.sent b y ∙ ap (λ l. one.sent ++ l) two.whole
      ∙ sym (append_assoc one.sent two.sent c);
  took = Appends-trans t u v one.sent two.sent one.took two.took;
}

-- a part of a text is one of a longer text
pub part_of_prefix : (x y : List ℕ) (t u : Option (List ℕ)) → TakesPart x t u → TakesPart (x ++ y) t u
part_of_prefix x y t u part = (
  part.0,
  omega (arith, length-append x y, part.1),
  rw (take-append-le part.0 x y (omega (arith, part.1))) part.2,
)

-- a part of what is left, after what was sent
pub part_after : (all sent rest : List ℕ) (t u v : Option (List ℕ)) → all ≡ sent ++ rest → Appends t u sent → TakesPart rest u v → TakesPart all t v
part_after all sent rest t u v is took part = rw is (
  length sent + part.0,
  omega (arith, length-append sent rest, part.1),
  rw (take-append-add sent rest part.0) (Appends-trans t u v sent (take part.0 rest) took part.2),
)

-- .. after a text that passed
pub part_then : (x y a b : List ℕ) (t u v : Option (List ℕ)) → PassesOn x a b t u → TakesPart (b ++ y) u v → TakesPart (a ++ (x ++ y)) t v
part_then x y a b t u v one part =
    let whole : a ++ (x ++ y) ≡ one.sent ++ (b ++ y) = sym (append_assoc a x y) ∙ ap (λ l. l ++ y) one.whole ∙ append_assoc one.sent b y in
    part_after (a ++ (x ++ y)) one.sent (b ++ y) t u v whole one.took part

pub passed_part : (x a b : List ℕ) (t u v : Option (List ℕ)) → PassesOn x a b t u → TakesPart b u v → TakesPart (a ++ x) t v
passed_part x a b t u v one part = part_after (a ++ x) one.sent b t u v one.whole one.took part

-- a text after one that passed
pub then_passes : {T E : Type 0} (r : Result T E) (x y a b c : List ℕ) (t u v : Option (List ℕ)) → PassesOn x a b t u → OnOk r (PassesOn y b c u v) → OnOk r (PassesOn (x ++ y) a c t v)
then_passes (Ok done) x y a b c t u v one two = passes_then x y a b c t u v one two
then_passes (Err e) x y a b c t u v one two = tt

pub then_part : {T E : Type 0} (r : Result T E) (x y a b : List ℕ) (t u v : Option (List ℕ)) → PassesOn x a b t u → OnErr r (TakesPart (b ++ y) u v) → OnErr r (TakesPart (a ++ (x ++ y)) t v)
then_part (Ok done) x y a b t u v one part = tt
then_part (Err e) x y a b t u v one part = part_then x y a b t u v one part

-- what passed, and was handed over in part or as a whole
pub passed_handed : {T E : Type 0} (r : Result T E) (x a b c : List ℕ) (t u v : Option (List ℕ)) → PassesOn x a b t u → OnOk r (PassesOn [] b c u v) → OnOk r (PassesOn x a c t v)
passed_handed (Ok done) x a b c t u v one two = subst (λ (l : List ℕ). PassesOn l a c t v) (append-nil x) (passes_then x [] a b c t u v one two)
passed_handed (Err e) x a b c t u v one two = tt

pub passed_part_of : {T E : Type 0} (r : Result T E) (x a b : List ℕ) (t u v : Option (List ℕ)) → PassesOn x a b t u → OnErr r (TakesPart b u v) → OnErr r (TakesPart (a ++ x) t v)
passed_part_of (Ok done) x a b t u v one part = tt
passed_part_of (Err e) x a b t u v one part = passed_part x a b t u v one part

-- ---- what a sink took and what waits, together

abbrev pub with_waiting : Option (List ℕ) → List ℕ → Option (List ℕ)
with_waiting None waits = None
with_waiting (Some xs) waits = Some (xs ++ waits)

-- text that passes is appended to both together
pub passes_after : (x a b : List ℕ) (t u : Option (List ℕ)) → PassesOn x a b t u → Appends (with_waiting t a) (with_waiting u b) x
passes_after x a b None u one = tt
passes_after x a b (Some xs) None one = absurd one.took
passes_after x a b (Some xs) (Some ys) one =
    ap (λ l. l ++ b) one.took ∙ append_assoc xs one.sent b ∙ ap (λ l. xs ++ l) (sym one.whole) ∙ sym (append_assoc xs a x)

-- what is taken after what waited
pub taken_after : (x a : List ℕ) (t u : Option (List ℕ)) → Appends t u (a ++ x) → Appends (with_waiting t a) u x
taken_after x a None u all = tt
taken_after x a (Some xs) None all = absurd all
taken_after x a (Some xs) (Some ys) all = all ∙ sym (append_assoc xs a x)

-- what waited was handed over
pub handed_after : (a : List ℕ) (t u : Option (List ℕ)) → Appends t u a → Appends (with_waiting t a) u []
handed_after a t u all = taken_after [] a t u (rw (append-nil a) all)

pub with_nothing : (t : Option (List ℕ)) → with_waiting t [] ≡ t
with_nothing None = refl
with_nothing (Some xs) = ap (λ l. Some l) (append-nil xs)

-- .. after a text that passed, with more to come
pub part_before : (x y z a b : List ℕ) (t u v : Option (List ℕ)) → PassesOn x a b t u → TakesPart (b ++ y) u v → TakesPart (a ++ (x ++ (y ++ z))) t v
part_before x y z a b t u v one part = part_then x (y ++ z) a b t u v one (rw (sym (append_assoc b y z)) (part_of_prefix (b ++ y) z u v part))
