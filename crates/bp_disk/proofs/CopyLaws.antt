-- Pieces that are copied, or left out.
use Rattle.std.proofs.Common.{◌≡◌, ◌⊎◌, inl, inr, ℕ, ◌+◌, ◌-◌, ◌<◌, ◌≤◌, ◌==◌, ◌&&◌, ◌||◌, if◌then◌else◌, max, Bool, true, false, List, ◌∷◌, length, slice_index, refl, sym, ◌∙◌, ap, subst, arith}
use Rattle.std.proofs.Common.{Option, Some, None, Result, Ok, Err, OnErr, OnOk}
use Rattle.std.specs.declared.fs.File.{File}
use Rattle.bp_disk.specs.Calls.{Call}
use Rattle.bp_disk.specs.Calls.Call.{flushed, read}
use Rattle.bp_disk.specs.Disk.{led, may_lead, Settles, TakesPlace, TakesName, is_durable, Bytes, byte_of, IsHonest, Copies, IsCopied, ChangesOnly, ChangesNone, Spares, IsNamed}
use Rattle.bp_disk.specs.Held.{IsZeros}
use Rattle.bp_disk.specs.Saves.{Stands}

-- What was read at a position.
read_at : (f : ℕ → ℕ) (start at : ℕ) (bytes : List ℕ) → ((i : ℕ) → i < length bytes → slice_index bytes i ≡ f (start + i))
    → start ≤ at → at < start + length bytes → f at ≡ slice_index bytes (at - start)
read_at f start at bytes all low high =
    let e : start + (at - start) ≡ at = omega arith in
    let h : at - start < length bytes = omega arith in
    ap f (sym e) ∙ sym (all (at - start) h)

-- Each position lies in one of two parts.
either : (middle at : ℕ) → (at < middle) ⊎ (middle ≤ at)
either middle at = grind arith

within_part : (f g : ℕ → ℕ) (start middle end : ℕ) → ((x : ℕ) → start ≤ x → x < middle → f x ≡ g x)
    → ((x : ℕ) → middle ≤ x → x < end → f x ≡ g x) → (x : ℕ) → start ≤ x → x < end → f x ≡ g x
within_part f g start middle end one two x low high =
    elim (either middle x) as (λ w. f x ≡ g x) [ inl h ↦ one x low h | inr h ↦ two x h high ]

after_part : (f g : ℕ → ℕ) (start at end : ℕ) → start ≤ at → end ≤ at → at ≤ max start end
    → ((x : ℕ) → x < start → f x ≡ g x) → ((x : ℕ) → at ≤ x → f x ≡ g x) → (x : ℕ) → end ≤ x → f x ≡ g x
after_part f g start at end low high top before after x past =
    elim (either start x) as (λ w. f x ≡ g x) [ inl h ↦ before x h | inr h ↦ after x (omega arith) ]

-- A piece of zeros that was read, where the other file has zeros, needs no write.
pub hole_copied : (was : Bytes) (from to start count : ℕ) (bytes : List ℕ) (old new : List Call)
    → new ≡ read from start bytes ∷ old → length bytes ≡ count → IsZeros bytes → IsHonest was new
    → ((at : ℕ) → start ≤ at → at < start + count → byte_of was old to at ≡ 0)
    → Copies from to start (start + count) was old new
hole_copied was from to start count bytes old new e size zeros honest has =
    let P : List Call → Type 0 = λ calls. IsHonest was calls → Copies from to start (start + count) was old calls in
    subst P (sym e) (λ told. record {
      within = λ at low high.
          let h : at - start < length bytes = omega arith in
          let h2 : at < start + length bytes = omega arith in
          has at low high ∙ sym (read_at (byte_of was old from) start at bytes told.0 low h2 ∙ zeros (at - start) h);
      before = λ at low. refl;
      after = λ at high. refl;
    }) honest

-- Calls on one file, and then calls on the same file.
pub changes_then : (file : ℕ) (a b c : List Call) → ChangesOnly file a b → ChangesOnly file b c → ChangesOnly file a c
changes_then file a b c one two = record {
  first = two.first ∙ one.first;
  leads = λ other. two.leads other ∙ one.leads other;
  durable = λ other apart. two.durable other apart ∙ one.durable other apart;
  bytes = λ was other at apart. two.bytes was other at apart ∙ one.bytes was other at apart;
  honest = λ was told. one.honest was (two.honest was told);
  safe = λ apart safe. two.safe (one.leads file ∙ apart) (one.safe apart safe);
}

-- One part is copied, and then the next part.
pub copied_then : (has_holes : Bool) (from to start middle end : ℕ) (a b c : List Call) → start ≤ middle → middle ≤ end
    → ChangesOnly to a b → ChangesOnly to b c
    → IsCopied has_holes from to start middle a b → IsCopied has_holes from to middle end b c
    → IsCopied has_holes from to start end a c
copied_then has_holes from to start middle end a b c low high first second one two = λ was told apart has.
    let first_copies : Copies from to start middle was a b = one was (second.honest was told) apart
    (λ yes at l h. has yes at l (omega arith)) in
    let second_copies : Copies from to middle end was b c = two was told apart
    (λ yes at l h. first_copies.after at l ∙ has yes at (omega arith) h) in
    record {
      within = λ at l h. within_part (λ x. byte_of was c to x) (λ x. byte_of was a from x) start middle end
          (λ x lx hx. second_copies.before x hx ∙ first_copies.within x lx hx)
          (λ x lx hx. second_copies.within x lx hx ∙ first.bytes was from x apart) at l h;
      before = λ at l. second_copies.before at (omega arith) ∙ first_copies.before at l;
      after = λ at h. second_copies.after at h ∙ first_copies.after at (omega arith);
    }

-- A copy that ended at a position is one up to an end that was to be reached.
pub copied_to : (has_holes : Bool) (from to start at end : ℕ) (old new : List Call) → start ≤ at → end ≤ at → at ≤ max start end
    → IsCopied has_holes from to start at old new → IsCopied has_holes from to start end old new
copied_to has_holes from to start at end old new low high top one = λ was told apart has.
    let copies : Copies from to start at was old new = one was told apart (λ yes x l h. has yes x l (omega arith)) in
    record {
      within = λ x l h. copies.within x l (omega arith);
      before = copies.before;
      after = λ x h. after_part (λ y. byte_of was new to y) (λ y. byte_of was old to y) start at end low high top copies.before copies.after x h;
    }

-- The end of a copy may be given in another way.
pub copied_up_to : (has_holes : Bool) (from to start stop end : ℕ) (old new : List Call) → stop ≡ end
    → IsCopied has_holes from to start stop old new → IsCopied has_holes from to start end old new
copied_up_to has_holes from to start stop end old new e one =
    let P : ℕ → Type 0 = λ n. IsCopied has_holes from to start n old new in subst P e one

-- What spares a file, and then spares it again.
pub spares_then : (first : ℕ) (a b c : List Call) → Spares first a b → Spares first b c → Spares first a c
spares_then first a b c one two = record {
  name = two.name ∙ one.name;
  leads = λ other. two.leads other ∙ one.leads other;
  durable = two.durable ∙ one.durable;
  bytes = λ was at. two.bytes was at ∙ one.bytes was at;
  honest = λ was told. one.honest was (two.honest was told);
  safe = λ only safe. two.safe (λ other apart. one.leads other ∙ only other apart) (one.safe only safe);
}

same_now : (n : ℕ) (b : Bool) → (if n == n then true else b) ≡ true
same_now n b = grind arith

-- Calls on another file spare a file.
pub others_spare : (first file : ℕ) (old new : List Call) → ¬ (file ≡ first) → ChangesOnly file old new → Spares first old new
others_spare first file old new apart one =
    let apart_too : ¬ (first ≡ file) = λ e. apart (sym e) in record {
      name = one.first;
      leads = one.leads;
      durable = one.durable first apart_too;
      bytes = λ was at. one.bytes was first at apart_too;
      honest = one.honest;
      safe = λ only safe. one.safe (only file apart) safe;
    }

-- So do calls that change no file.
pub none_spare : (first : ℕ) (old new : List Call) → ChangesNone old new → Spares first old new
none_spare first old new one = others_spare first (first + 1) old new (omega arith) (one (first + 1))

-- Calls that change no file are calls on any file.
pub none_then : (file : ℕ) (a b c : List Call) → ChangesNone a b → ChangesOnly file b c → ChangesOnly file a c
none_then file a b c one two = changes_then file a b c (one file) two

next_differs : (n : ℕ) (b : Bool) → ((n + 1 == n) && b) ≡ false
next_differs n b = grind arith

-- What FILE leads to was settled, and then no file was changed.
pub settles_then : (a b c : List Call) → Settles a b → ChangesNone b c → Settles a c
settles_then a b c one two = record {
  first = (two 0).first ∙ one.first;
  leads = λ other. (two 0).leads other ∙ one.leads other;
  durable = λ other. (two (other + 1)).durable other (omega arith) ∙ one.durable other;
  bytes = λ was other at. (two (other + 1)).bytes was other at (omega arith) ∙ one.bytes was other at;
  honest = λ was told. one.honest was ((two 0).honest was told);
  safe = λ safe. (two ((led a).first + 1)).safe (one.leads ((led a).first + 1) ∙ next_differs (led a).first (may_lead a ((led a).first + 1))) (one.safe safe);
}

-- The ends of a copy may be given in another way.
pub copied_at : (has_holes : Bool) (from to start end start_too end_too : ℕ) (old new : List Call) → start ≡ start_too → end ≡ end_too
    → IsCopied has_holes from to start end old new → IsCopied has_holes from to start_too end_too old new
copied_at has_holes from to start end start_too end_too old new e f one =
    let P : ℕ → Type 0 = λ n. IsCopied has_holes from to n end_too old new in
    subst P e (copied_up_to has_holes from to start end end_too old new f one)

-- The second name still leads to a file.
pub named_still : (waiting : Option File) (a b : List Call) → (led b).second ≡ (led a).second → IsNamed a waiting → IsNamed b waiting
named_still None a b e named = tt
named_still (Some file) a b e named = e ∙ named

-- A file stands if it is spared.
pub stands_spared : (first : ℕ) (a b : List Call) → Stands first a → Spares first a b → Stands first b
stands_spared first a b one spared = record {
  name = spared.name ∙ one.name;
  only = λ other apart. spared.leads other ∙ one.only other apart;
  sure = spared.durable ∙ one.sure;
  safe = spared.safe one.only one.safe;
}

-- A file stands if another file is changed.
pub stands_beside : (first second : ℕ) (a b : List Call) → Stands first a → ¬ (second ≡ first) → ChangesOnly second a b → Stands first b
stands_beside first second a b one apart changes = stands_spared first a b one (others_spare first second a b apart changes)

-- A file stands if no file is changed.
pub stands_still : (first : ℕ) (a b : List Call) → Stands first a → ChangesNone a b → Stands first b
stands_still first a b one changes = stands_spared first a b one (none_spare first a b changes)

-- What holds anyway holds of an error.
pub on_err : {T E : Type 0} (result : Result T E) (P : Type 0) → P → OnErr result P
on_err (Ok value) P proof = tt
on_err (Err error) P proof = proof

on_ok_both : {T E : Type 0} (done : Result T E) (A B C : Type 0) → OnOk done (A → B) → OnOk done (B → C) → OnOk done (A → C)
on_ok_both (Ok value) A B C one two = λ a. two (one a)
on_ok_both (Err error) A B C one two = tt

-- Two steps that are taken if a call succeeds.
pub on_ok_then : {T E : Type 0} (done result : Result T E) (A B C : Type 0) → result ≡ done → OnOk done (A → B) → OnOk done (B → C)
    → OnOk result (A → C)
on_ok_then {T = T} {E = E} done result A B C e one two =
    subst (λ (r : Result T E). OnOk r (A → C)) (sym e) (on_ok_both done A B C one two)

-- FILE leads to a file that was just made durable.
pub place_taken : (second : ℕ) (a b c : List Call) → b ≡ flushed second ∷ a → (led a).second ≡ second → TakesName b c
    → TakesPlace second a c
place_taken second a b c e named taken =
    let P : List Call → Type 0 = λ calls. TakesName calls c → TakesPlace second a c in
    subst P (sym e) (λ one. record {
      first = one.first ∙ named;
      leads = λ other. one.leads other ∙ ap (λ n. (other == n) || may_lead a other) named;
      is_so = one.durable second ∙ same_now second (is_durable a second);
      bytes = one.bytes;
      honest = λ was told. one.honest was told;
      safe = λ safe. one.safe (ap (λ n. is_durable (flushed second ∷ a) n) named ∙ same_now second (is_durable a second)) (tt, safe);
    }) taken
