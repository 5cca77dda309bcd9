-- Sums over one reply more.
use Rattle.std.proofs.Common.{◌≡◌, ℕ, zero, suc, ◌+◌, ◌-◌, ◌<◌, ◌≤◌, Bool, true, false, cond, List, [], ◌∷◌, ◌++◌, map, refl, sym, ◌∙◌, ap, ap₂, arith}
use Rattle.std.specs.Prelude.{count_by, sum_by, All, slice_set, slice_index_or, if◌then◌else◌}
use Rattle.std.proofs.lemmas.List.Elements.{All-head, All-replicate, All-set, All-tail, All-weaker}
use Rattle.std.proofs.lemmas.List.Sums.{sum_by_push}
use Rattle.bp_limits.specs.Limits.{log_events}
use Rattle.bp_plain.specs.Calls.{Answer, Refusal}
use Rattle.bp_plain.specs.Calls.Answer.{done, bytes, file_of, dir_of, links_of, attribute_of, refused}
use Rattle.bp_plain.specs.Calls.Answer.{names as listed}
use Rattle.bp_plain.specs.Calls.Refusal.{bad_path, not_found, not_dir, is_dir, exists, not_empty, into_self, is_root, too_long, too_big, no_space, no_memory, no_snap, has_snap, old_version, past_end}
use Rattle.bp_plain.specs.Refusals.{refusal_number}
use Rattle.bp_script.specs.Texts.{LineReply}
use Rattle.bp_script.specs.Texts.LineReply.{answered, kept_of}
use Rattle.bp_play.specs.Counting.{IsBounded, CountsReply}
use Rattle.bp_play.specs.Summaries.{is_carried_out, is_crash_reply, is_ok, is_refusal, kept_in, numbers, sums, total_in}
use Rattle.bp_play.specs.declared.summary.Summary.{Summary}

-- one more where it holds
abbrev one_if : Bool → ℕ → ℕ
one_if holds n = if holds then n + 1 else n

count_more : {A : Type 0} (test : A → Bool) (xs : List A) (x : A) → count_by test (xs ++ x ∷ []) ≡ one_if (test x) (count_by test xs)
count_more test xs x = sum_by_push (λ y. cond (test y) 1 0) xs x ∙ go (test x)
  where
    go : (b : Bool) → count_by test xs + cond b 1 0 ≡ one_if b (count_by test xs)
    go true = refl
    go false = omega arith

-- the counts of refusals of these numbers, with one more reply
abbrev counted : LineReply → (ℕ → ℕ) → List ℕ → List ℕ
counted reply count [] = []
counted reply count (number ∷ rest) = one_if (is_refusal number reply) (count number) ∷ counted reply count rest

abbrev refusals : List LineReply → ℕ → ℕ
refusals replies number = count_by (is_refusal number) replies

refusals_more : (replies : List LineReply) (reply : LineReply) (list : List ℕ) → map (refusals (replies ++ reply ∷ [])) list ≡ counted reply (refusals replies) list
refusals_more replies reply [] = refl
refusals_more replies reply (number ∷ rest) = ap₂ (λ (n : ℕ) (ns : List ℕ). n ∷ ns) (count_more (is_refusal number) replies reply) (refusals_more replies reply rest)

-- a summary of these numbers
abbrev summary : ℕ → List ℕ → ℕ → ℕ → ℕ → Summary
summary o rs c k t = record { ok = o; refused = rs; crashes = c; kept = k; of = t }

same_summary : (o p : ℕ) (rs ss : List ℕ) (c d k l t u : ℕ) → o ≡ p → rs ≡ ss → c ≡ d → k ≡ l → t ≡ u → summary o rs c k t ≡ summary p ss d l u
same_summary o p rs ss c d k l t u a b e f g = rw (a, b, e, f, g) refl

sums_more : (replies : List LineReply) (reply : LineReply) → sums (replies ++ reply ∷ [])
    ≡ summary (one_if (is_ok reply) (count_by is_ok replies)) (counted reply (refusals replies) numbers) (one_if (is_crash_reply reply) (count_by is_crash_reply replies)) (sum_by kept_in replies + kept_in reply) (sum_by total_in replies + total_in reply)
sums_more replies reply =
    same_summary _ _ _ _ _ _ _ _ _ _ (count_more is_ok replies reply) (refusals_more replies reply numbers) (count_more is_crash_reply replies reply) (sum_by_push kept_in replies reply) (sum_by_push total_in replies reply)

plus_nothing : (n : ℕ) → n ≡ n + 0
plus_nothing n = omega arith

-- ---- bounds

abbrev AtMost : ℕ → List ℕ → Type 0
AtMost n xs = All (λ (x : ℕ). x ≤ n) xs

weaker : (n : ℕ) (xs : List ℕ) → AtMost n xs → AtMost (n + 1) xs
weaker n xs all = All-weaker (λ (x : ℕ). x ≤ n) (λ (x : ℕ). x ≤ n + 1) (λ x h. omega (arith, h)) xs all

pub get_le : (n : ℕ) (xs : List ℕ) (i : ℕ) → AtMost n xs → slice_index_or xs i 0 ≤ n
get_le n [] i all = omega arith
get_le n (x ∷ xs) zero all = All-head (λ (y : ℕ). y ≤ n) x xs all
get_le n (x ∷ xs) (suc i) all = get_le n xs i (All-tail (λ (y : ℕ). y ≤ n) x xs all)

-- ---- an answer that is no refusal

none_counted : (answer : Answer) (count : ℕ → ℕ) → is_carried_out answer ≡ true → counted (answered answer) count numbers ≡ map count numbers
none_counted done count e = refl
none_counted (bytes content) count e = refl
none_counted (file_of size) count e = refl
none_counted (dir_of size) count e = refl
none_counted (listed entries) count e = refl
none_counted (links_of names) count e = refl
none_counted (attribute_of value) count e = refl
none_counted (refused why) count e = absurd (let no : false ≡ true = e in cc)

pub ok_counted : (old : Summary) (answer : Answer) → is_carried_out answer ≡ true → CountsReply old (answered answer) (summary (old.ok + 1) old.refused old.crashes old.kept old.of)
ok_counted old answer carried = record {
  sums = λ replies was.
      let now : summary (old.ok + 1) old.refused old.crashes old.kept old.of ≡ summary (count_by is_ok replies + 1) (map (refusals replies) numbers) (count_by is_crash_reply replies) (sum_by kept_in replies) (sum_by total_in replies) =
      ap (λ (s : Summary). summary (s.ok + 1) s.refused s.crashes s.kept s.of) was in
      let sums_now : summary (count_by is_ok replies + 1) (map (refusals replies) numbers) (count_by is_crash_reply replies) (sum_by kept_in replies) (sum_by total_in replies)
      ≡ summary (one_if (is_ok (answered answer)) (count_by is_ok replies)) (counted (answered answer) (refusals replies) numbers) (one_if (is_crash_reply (answered answer)) (count_by is_crash_reply replies)) (sum_by kept_in replies + kept_in (answered answer)) (sum_by total_in replies + total_in (answered answer)) =
      same_summary _ _ _ _ _ _ _ _ _ _ (rw carried refl) (sym (none_counted answer (refusals replies) carried)) refl (plus_nothing _) (plus_nothing _) in
      now ∙ sums_now ∙ sym (sums_more replies (answered answer));
  bounded = λ count bounded. record {
    ok = omega (arith, bounded.ok);
    refused = weaker count old.refused bounded.refused;
    crashes = omega (arith, bounded.crashes);
    kept = omega (arith, bounded.kept);
    total = omega (arith, bounded.total);
  };
}

-- ---- a refusal

one_counted : (why : Refusal) (count : ℕ → ℕ) → refusal_number why ≤ 12 → counted (answered (refused why)) count numbers ≡ slice_set (map count numbers) (refusal_number why - 1) (slice_index_or (map count numbers) (refusal_number why - 1) 0 + 1)
one_counted bad_path count low = refl
one_counted not_found count low = refl
one_counted not_dir count low = refl
one_counted is_dir count low = refl
one_counted exists count low = refl
one_counted not_empty count low = refl
one_counted into_self count low = refl
one_counted is_root count low = refl
one_counted too_long count low = refl
one_counted too_big count low = refl
one_counted (no_space need free) count low = refl
one_counted no_memory count low = refl
one_counted no_snap count low = absurd (omega (arith, low))
one_counted has_snap count low = absurd (omega (arith, low))
one_counted old_version count low = absurd (omega (arith, low))
one_counted past_end count low = absurd (omega (arith, low))

-- the others have no count
none_of_these : (why : Refusal) (count : ℕ → ℕ) → 12 < refusal_number why → counted (answered (refused why)) count numbers ≡ map count numbers
none_of_these bad_path count high = absurd (omega (arith, high))
none_of_these not_found count high = absurd (omega (arith, high))
none_of_these not_dir count high = absurd (omega (arith, high))
none_of_these is_dir count high = absurd (omega (arith, high))
none_of_these exists count high = absurd (omega (arith, high))
none_of_these not_empty count high = absurd (omega (arith, high))
none_of_these into_self count high = absurd (omega (arith, high))
none_of_these is_root count high = absurd (omega (arith, high))
none_of_these too_long count high = absurd (omega (arith, high))
none_of_these too_big count high = absurd (omega (arith, high))
none_of_these (no_space need free) count high = absurd (omega (arith, high))
none_of_these no_memory count high = absurd (omega (arith, high))
none_of_these no_snap count high = refl
none_of_these has_snap count high = refl
none_of_these old_version count high = refl
none_of_these past_end count high = refl

-- one more at an index
abbrev one_more_at : List ℕ → ℕ → List ℕ
one_more_at xs i = slice_set xs i (slice_index_or xs i 0 + 1)

pub refusal_counted : (old : Summary) (why : Refusal) (number : ℕ) → number ≡ refusal_number why → number ≤ 12 → CountsReply old (answered (refused why)) (summary old.ok (one_more_at old.refused (number - 1)) old.crashes old.kept old.of)
refusal_counted old why number is low = record {
  sums = λ replies was.
      let now : summary old.ok (one_more_at old.refused (number - 1)) old.crashes old.kept old.of ≡ summary (count_by is_ok replies) (one_more_at (map (refusals replies) numbers) (refusal_number why - 1)) (count_by is_crash_reply replies) (sum_by kept_in replies) (sum_by total_in replies) =
      ap₂ (λ (s : Summary) (n : ℕ). summary s.ok (one_more_at s.refused (n - 1)) s.crashes s.kept s.of) was is in
      let sums_now : summary (count_by is_ok replies) (one_more_at (map (refusals replies) numbers) (refusal_number why - 1)) (count_by is_crash_reply replies) (sum_by kept_in replies) (sum_by total_in replies)
      ≡ summary (count_by is_ok replies) (counted (answered (refused why)) (refusals replies) numbers) (count_by is_crash_reply replies) (sum_by kept_in replies + 0) (sum_by total_in replies + 0) =
      same_summary _ _ _ _ _ _ _ _ _ _ refl (sym (one_counted why (refusals replies) (omega (arith, is, low)))) refl (plus_nothing _) (plus_nothing _) in
      now ∙ sums_now ∙ sym (sums_more replies (answered (refused why)));
  bounded = λ count bounded. record {
    ok = omega (arith, bounded.ok);
    refused =
        All-set (λ (x : ℕ). x ≤ count + 1) old.refused (number - 1) (slice_index_or old.refused (number - 1) 0 + 1) (omega (arith, get_le count old.refused (number - 1) bounded.refused)) (weaker count old.refused bounded.refused);
    crashes = omega (arith, bounded.crashes);
    kept = omega (arith, bounded.kept);
    total = omega (arith, bounded.total);
  };
}

pub refusal_uncounted : (old : Summary) (why : Refusal) → 12 < refusal_number why → CountsReply old (answered (refused why)) old
refusal_uncounted old why high = record {
  sums = λ replies was.
      let same : sums replies ≡ summary (count_by is_ok replies) (counted (answered (refused why)) (refusals replies) numbers) (count_by is_crash_reply replies) (sum_by kept_in replies + 0) (sum_by total_in replies + 0) =
      same_summary _ _ _ _ _ _ _ _ _ _ refl (sym (none_of_these why (refusals replies) high)) refl (plus_nothing _) (plus_nothing _) in
      was ∙ same ∙ sym (sums_more replies (answered (refused why)));
  bounded = λ count bounded. record {
    ok = omega (arith, bounded.ok);
    refused = weaker count old.refused bounded.refused;
    crashes = omega (arith, bounded.crashes);
    kept = omega (arith, bounded.kept);
    total = omega (arith, bounded.total);
  };
}

-- ---- a storm

pub storm_counted : (old : Summary) (c n : ℕ) → c ≤ log_events → n ≤ log_events → CountsReply old (kept_of c n) (summary old.ok old.refused (old.crashes + 1) (old.kept + c) (old.of + n))
storm_counted old c n few all = record {
  sums = λ replies was.
      let now : summary old.ok old.refused (old.crashes + 1) (old.kept + c) (old.of + n) ≡ summary (count_by is_ok replies) (map (refusals replies) numbers) (count_by is_crash_reply replies + 1) (sum_by kept_in replies + c) (sum_by total_in replies + n) =
      ap (λ (s : Summary). summary s.ok s.refused (s.crashes + 1) (s.kept + c) (s.of + n)) was in
      now ∙ sym (sums_more replies (kept_of c n));
  bounded = λ count bounded. record {
    ok = omega (arith, bounded.ok);
    refused = weaker count old.refused bounded.refused;
    crashes = omega (arith, bounded.crashes);
    kept = omega (arith, bounded.kept, few);
    total = omega (arith, bounded.total, all);
  };
}

-- ---- no turn

pub nothing_bounded : IsBounded 0 (sums [])
nothing_bounded = record {
  ok = omega arith;
  refused = All-replicate (λ (x : ℕ). x ≤ 0) 12 0 (omega arith);
  crashes = omega arith;
  kept = omega arith;
  total = omega arith;
}
