use Rattle.std.proofs.Common.{◌≡◌, ℕ, ◌≤◌, length, Bool, true, false, ap, sym, ◌∙◌, arith, inl, inr}
use Rattle.std.specs.Prelude.{nat_le}
use Rattle.std.proofs.lemmas.Bool.{cases_lt, le-leb, leb-true}
use Rattle.bp_changes.specs.Trail.{Trail}
use Rattle.bp_changes.proofs.PathTrails.{length-trail_of}
use Rattle.bp_cow.specs.Touched.{job_of}
use Rattle.bp_cow.specs.Job.{Job, prefix, IsBegun}
use Rattle.bp_cow.specs.Ways.{IsShared}
use Rattle.bp_cow.proofs.ways.is_new.Goals as goal

-- the way that begins with some slots of another does so with as many of its own
same_depth : (job : Job) (from i depth : ℕ) → (b : IsBegun job from i (prefix job i depth)) → depth ≡ b.depth
same_depth job from i depth b = omega (arith, length-trail_of (job.way i) depth, length-trail_of (job.way b.which) b.depth, ap (λ (q : Trail). length q) b.same)

begun-shared : (job : Job) (from i depth : ℕ) → depth ≤ length (job.way i) → IsBegun job from i (prefix job i depth) → IsShared job.way i (job.way i) depth
begun-shared job from i depth low b =
    let at = same_depth job from i depth b in
    record { which = b.which; early = b.early; here = low; there = omega (arith, b.high, at); same = b.same ∙ ap (λ d. prefix job b.which d) (sym at) }

clash : (b : Bool) → b ≡ true → b ≡ false → ⊥
clash b one two = absurd (cc)

pub returns-clause-first : goal.returns-clause-first
returns-clause-first c is from b =
    let way = c.args.way.now in
    let low = (c.requires.way.shared c.args.depth).1 (begun-shared (job_of c.args.touched.now) from way.index c.args.depth c.requires.depth b) in
    let past : way.shared ≤ c.args.depth = leb-true way.shared c.args.depth is in
    omega (arith, low, past)

pub returns-clause-begun : goal.returns-clause-begun
returns-clause-begun c not from begins =
    let way = c.args.way.now in
    let s : IsShared (job_of c.args.touched.now).way way.index ((job_of c.args.touched.now).way way.index) c.args.depth = elim (cases_lt c.args.depth way.shared) [
      | inl few ↦ (c.requires.way.shared c.args.depth).0 few
      | inr past ↦ absurd (clash (nat_le way.shared c.args.depth) (le-leb way.shared c.args.depth past) not)
    ] in
    record { which = s.which; depth = c.args.depth; early = s.early; low = begins; high = s.there; same = s.same }
