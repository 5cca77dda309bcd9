-- A commit copies few blocks, since no way has more than 11 pointers.
use Rattle.std.proofs.Common.{◌≡◌, ℕ, zero, suc, ◌+◌, ◌*◌, ◌≤◌, length, Bool, true, false, refl, subst, arith}
use Rattle.std.specs.Prelude.{nat_le}
use Rattle.bp_layout.specs.Words.{Image}
use Rattle.bp_cow.specs.Cover.{commit_cover, copied_count}
use Rattle.bp_cow.specs.Job.{copies_at, turned_for, turned_upto, ways}
use Rattle.bp_cow.specs.Touched.{IsTouched, NoneBegins, all_paths, job_of}
use Rattle.bp_cow.specs.declared.touched.Touched.{Touched}
use Rattle.bp_cow.proofs.CommitTaking.{turned_few}
use Rattle.bp_cow.proofs.CoverOf.{cover_has, count_is}
use Rattle.bp_cow.proofs.RunsLaws.{way-short}

pub few_ways : (image : Image) (touched : Touched) → IsTouched touched → NoneBegins (all_paths touched) → copied_count image touched ≤ 1 + 11 * ways (job_of touched)
few_ways image touched shape apart =
    subst (λ n. n ≤ 1 + 11 * ways (job_of touched)) (count_is touched shape image apart (length (commit_cover image touched)) (cover_has touched shape image))
    (go (nat_le (length (commit_cover image touched)) (length ((job_of touched).way 0))) refl)
  where
    upto : (n : ℕ) → n ≤ ways (job_of touched) → turned_upto (job_of touched) (length (commit_cover image touched)) n ≤ 11 * n
    upto zero low = omega arith
    upto (suc i) low =
        let rest : turned_upto (job_of touched) (length (commit_cover image touched)) i ≤ 11 * i = upto i (omega (arith, low)) in
        let one : turned_for (job_of touched) (length (commit_cover image touched)) i (length ((job_of touched).way i)) ≤ length ((job_of touched).way i) =
        turned_few (job_of touched) (length (commit_cover image touched)) i (length ((job_of touched).way i)) in
        let short : length ((job_of touched).way i) ≤ 11 = way-short touched shape i (omega (arith, low)) in
        omega (arith, rest, one, short)

    go : (x : Bool) → nat_le (length (commit_cover image touched)) (length ((job_of touched).way 0)) ≡ x → copies_at (job_of touched) (length (commit_cover image touched)) ≤ 1 + 11 * ways (job_of touched)
    go true e = let all = upto (ways (job_of touched)) (omega arith) in rw e (omega (arith, all))
    go false e = rw e (omega arith)
