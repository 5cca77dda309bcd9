-- If each call kept the order, FILE leads only to files that are durable, and their bytes are those of a save.
use Rattle.std.proofs.Common.{◌≡◌, ◌⊎◌, inl, inr, ℕ, Bool, true, false, ◌==◌, ◌||◌, ◌&&◌, if◌then◌else◌, List, [], ◌∷◌, refl, ◌∙◌, subst, arith}
use Rattle.bp_disk.specs.Calls.{Call}
use Rattle.bp_disk.specs.Calls.Call.{attached, read, written, partly_written, resized, not_resized, flushed, not_flushed, made, seen_second, linked_old, renamed_second, renamed_old, removed_second, removed_old, flushed_names, unflushable_names}
use Rattle.bp_disk.specs.Disk.{Bytes, byte_of, led, may_lead, is_durable, IsSafe}
use Rattle.bp_disk.specs.Crash.{AreBytes, IsSaved, IsStarted, HoldsSaved, LeavesSaved}

now_true : (n m : ℕ) (b : Bool) → (n == m) ≡ true → (if n == m then true else b) ≡ true
now_true n m b h = grind arith

other_kept : (file to : ℕ) (f : ℕ → Bool) (b : Bool) → f to ≡ false → f file ≡ true → b ≡ true → (if file == to then false else b) ≡ true
other_kept file to f b apart leads kept = grind arith

either_true : (file second : ℕ) (a : Bool) (f : ℕ → Bool) → f second ≡ true → ((file == second) || a) ≡ true → (a ≡ true → f file ≡ true) → f file ≡ true
either_true file second a f sure h rest = grind arith

both_true : (a b : Bool) → (a && b) ≡ true → b ≡ true
both_true a b h = grind arith

flush_true : (n m : ℕ) (b : Bool) → b ≡ true → (if n == m then true else b) ≡ true
flush_true n m b h = grind arith

-- A file to which FILE may lead is durable.
pub leads_durable : (calls : List Call) (file : ℕ) → IsSafe calls → may_lead calls file ≡ true → is_durable calls file ≡ true
leads_durable [] file safe h = absurd (cc)
leads_durable (attached now ∷ calls) file safe h = now_true file now (is_durable calls file) h
leads_durable (read g at bytes ∷ calls) file safe h = leads_durable calls file safe.1 h
leads_durable (written to at bytes ∷ calls) file safe h = other_kept file to (may_lead calls) (is_durable calls file) safe.0 h (leads_durable calls file safe.1 h)
leads_durable (partly_written to at bytes ∷ calls) file safe h = other_kept file to (may_lead calls) (is_durable calls file) safe.0 h (leads_durable calls file safe.1 h)
leads_durable (resized to size ∷ calls) file safe h = other_kept file to (may_lead calls) (is_durable calls file) safe.0 h (leads_durable calls file safe.1 h)
leads_durable (not_resized to size ∷ calls) file safe h = other_kept file to (may_lead calls) (is_durable calls file) safe.0 h (leads_durable calls file safe.1 h)
leads_durable (flushed now ∷ calls) file safe h = flush_true file now (is_durable calls file) (leads_durable calls file safe.1 h)
leads_durable (not_flushed to ∷ calls) file safe h = other_kept file to (may_lead calls) (is_durable calls file) safe.0 h (leads_durable calls file safe.1 h)
leads_durable (made to ∷ calls) file safe h = other_kept file to (may_lead calls) (is_durable calls file) safe.0 h (leads_durable calls file safe.1 h)
leads_durable (seen_second g ∷ calls) file safe h = leads_durable calls file safe.1 h
leads_durable (linked_old ∷ calls) file safe h = leads_durable calls file safe.1 h
leads_durable (renamed_second ∷ calls) file safe h =
    either_true file (led calls).second (may_lead calls file) (is_durable calls) safe.0 h (leads_durable calls file safe.1)
leads_durable (renamed_old ∷ calls) file safe h = leads_durable calls file safe.1 h
leads_durable (removed_second ∷ calls) file safe h = leads_durable calls file safe.1 h
leads_durable (removed_old ∷ calls) file safe h = leads_durable calls file safe.1 h
leads_durable (flushed_names ∷ calls) file safe h =
    leads_durable calls file safe.1 (both_true (file == (led calls).first) (may_lead calls file) h)
leads_durable (unflushable_names ∷ calls) file safe h =
    leads_durable calls file safe.1 (both_true (file == (led calls).first) (may_lead calls file) h)

eq_of : (n m : ℕ) → (n == m) ≡ true → n ≡ m
eq_of n m h = grind arith

first_of_both : (a b : Bool) → (a && b) ≡ true → a ≡ true
first_of_both a b h = grind arith

-- A write to another file leaves a byte.
other_byte : (file to : ℕ) (f : ℕ → Bool) (c : Bool) (x y : ℕ) → f to ≡ false → f file ≡ true
    → (if (file == to) && c then x else y) ≡ y
other_byte file to f c x y apart leads = grind arith

new_byte : (file to : ℕ) (f : ℕ → Bool) (x y : ℕ) → f to ≡ false → f file ≡ true → (if file == to then x else y) ≡ y
new_byte file to f x y apart leads = grind arith

split_or : (a b : Bool) → (a || b) ≡ true → (a ≡ true) ⊎ (b ≡ true)
split_or true b h = inl refl
split_or false b h = inr h

-- The bytes of a file to which FILE may lead are those of a save.
pub leads_saved : (was : Bytes) (calls : List Call) (content : ℕ → ℕ) (file : ℕ) → IsSafe calls → may_lead calls file ≡ true
    → AreBytes was calls file content → IsSaved was calls content
leads_saved was [] content file safe h bytes = absurd (cc)
leads_saved was (attached now ∷ calls) content file safe h bytes =
    subst (λ n. AreBytes was calls n content) (eq_of file now h) bytes
leads_saved was (read g at pieces ∷ calls) content file safe h bytes = leads_saved was calls content file safe.1 h bytes
leads_saved was (written to start bytes ∷ calls) content file safe h are = leads_saved was calls content file safe.1 h
    (λ at. are at ∙ other_byte file to (may_lead calls) _ _ _ safe.0 h)
leads_saved was (partly_written to start bytes ∷ calls) content file safe h are = leads_saved was calls content file safe.1 h are
leads_saved was (resized to size ∷ calls) content file safe h are = leads_saved was calls content file safe.1 h
    (λ at. are at ∙ other_byte file to (may_lead calls) _ _ _ safe.0 h)
leads_saved was (not_resized to size ∷ calls) content file safe h are = leads_saved was calls content file safe.1 h are
leads_saved was (flushed now ∷ calls) content file safe h are = leads_saved was calls content file safe.1 h are
leads_saved was (not_flushed to ∷ calls) content file safe h are = leads_saved was calls content file safe.1 h are
leads_saved was (made to ∷ calls) content file safe h are = leads_saved was calls content file safe.1 h
    (λ at. are at ∙ new_byte file to (may_lead calls) _ _ safe.0 h)
leads_saved was (seen_second g ∷ calls) content file safe h are = leads_saved was calls content file safe.1 h are
leads_saved was (linked_old ∷ calls) content file safe h are = leads_saved was calls content file safe.1 h are
leads_saved was (renamed_second ∷ calls) content file safe h are =
    elim (split_or (file == (led calls).second) (may_lead calls file) h) [
      | inl same ↦ inl (subst (λ n. AreBytes was calls n content) (eq_of file (led calls).second same) are)
      | inr before ↦ inr (leads_saved was calls content file safe.1 before are)
    ]
leads_saved was (renamed_old ∷ calls) content file safe h are = leads_saved was calls content file safe.1 h are
leads_saved was (removed_second ∷ calls) content file safe h are = leads_saved was calls content file safe.1 h are
leads_saved was (removed_old ∷ calls) content file safe h are = leads_saved was calls content file safe.1 h are
leads_saved was (flushed_names ∷ calls) content file safe h are =
    subst (λ n. AreBytes was calls n content)
    (eq_of file (led calls).first (first_of_both (file == (led calls).first) (may_lead calls file) h)) are
leads_saved was (unflushable_names ∷ calls) content file safe h are =
    subst (λ n. AreBytes was calls n content)
    (eq_of file (led calls).first (first_of_both (file == (led calls).first) (may_lead calls file) h)) are

-- Whenever the machine fails, FILE holds a content with which it was saved.
pub holds_saved : HoldsSaved
holds_saved was calls content safe may =
    leads_saved was calls content may.file safe may.leads (may.kept (leads_durable calls may.file safe may.leads))

same_or : (n : ℕ) (b : Bool) → ((n == n) || b) ≡ true
same_or n b = grind arith

same_and : (n : ℕ) (b : Bool) → b ≡ true → ((n == n) && b) ≡ true
same_and n b h = grind arith

same_is : (n : ℕ) → (n == n) ≡ true
same_is n = grind arith

-- FILE may lead to the file that it leads to.
pub first_leads : (calls : List Call) → IsStarted calls → may_lead calls (led calls).first ≡ true
first_leads [] started = absurd started
first_leads (attached now ∷ calls) started = same_is now
first_leads (read g at pieces ∷ calls) started = first_leads calls started
first_leads (written to at bytes ∷ calls) started = first_leads calls started
first_leads (partly_written to at bytes ∷ calls) started = first_leads calls started
first_leads (resized to size ∷ calls) started = first_leads calls started
first_leads (not_resized to size ∷ calls) started = first_leads calls started
first_leads (flushed now ∷ calls) started = first_leads calls started
first_leads (not_flushed to ∷ calls) started = first_leads calls started
first_leads (made to ∷ calls) started = first_leads calls started
first_leads (seen_second g ∷ calls) started = first_leads calls started
first_leads (linked_old ∷ calls) started = first_leads calls started
first_leads (renamed_second ∷ calls) started = same_or (led calls).second (may_lead calls (led calls).second)
first_leads (renamed_old ∷ calls) started = first_leads calls started
first_leads (removed_second ∷ calls) started = first_leads calls started
first_leads (removed_old ∷ calls) started = first_leads calls started
first_leads (flushed_names ∷ calls) started = same_and (led calls).first (may_lead calls (led calls).first) (first_leads calls started)
first_leads (unflushable_names ∷ calls) started = same_and (led calls).first (may_lead calls (led calls).first) (first_leads calls started)

-- Whenever the process is killed, FILE holds a content with which it was saved.
pub leaves_saved : LeavesSaved
leaves_saved was calls started safe =
    leads_saved was calls (λ at. byte_of was calls (led calls).first at) (led calls).first safe (first_leads calls started) (λ at. refl)
