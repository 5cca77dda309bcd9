use Rattle.std.proofs.Common.{◌≡◌, suc, ◌+◌, ◌-◌, ◌*◌, ◌/◌, ◌<◌, sym, ◌∙◌, ap, subst, arith}
use Rattle.bp_layout.specs.Tree.{covered}
use Rattle.bp_layout.proofs.TreeLaws.{covered-suc}
use Rattle.bp_walk.proofs.LiveSlots.{covered_some, node_covers, row_live, row_all}
use Rattle.bp_walk.proofs.walk.live_slots.Goals.{After-covered_bytes-2}
use Rattle.bp_walk.proofs.walk.live_slots.Goals as goal

pub nonzero_div-rest : goal.nonzero_div-rest
nonzero_div-rest c = omega (arith, c.covered_bytes-2.ensures, covered_some c.args.top.level c.requires.least)

-- a slot covers some bytes
some : (c : goal.After-covered_bytes-2) → 0 < c.covered_bytes-2.result
some c = omega (arith, c.covered_bytes-2.ensures, covered_some c.args.top.level c.requires.least)

-- and the node as many times those as it has slots
times : (c : goal.After-covered_bytes-2) → c.covered_bytes.result ≡ 512 * c.covered_bytes-2.result
times c = node_covers c.args.top.level c.covered_bytes.result c.covered_bytes-2.result c.covered_bytes.ensures c.covered_bytes-2.ensures

pub returns-clause-live : goal.returns-clause-live
returns-clause-live c slot low =
    let path = (goal.at.returns-clause-live c).After-covered_bytes-2 in
    let node = c.covered_bytes.result in
    let below = c.covered_bytes-2.result in
    let slots = ap (λ n. 512 * n) (sym c.covered_bytes-2.ensures) ∙ sym (times path) in
    let wide : covered (suc c.args.top.level) ≡ node = covered-suc c.args.top.level ∙ slots in
    let live : c.args.top.index * node < c.args.size = subst (λ n. c.args.top.index * n < c.args.size) wide c.requires.live in
    subst (λ n. (512 * c.args.top.index + slot) * n < c.args.size) c.covered_bytes-2.ensures
    (row_live c.args.top.index c.args.size node below slot (some path) (times path) live (omega (arith, low, c.min.ensures)))

pub returns-clause-all : goal.returns-clause-all
returns-clause-all c slot within live =
    let path = (goal.at.returns-clause-all c).After-covered_bytes-2 in
    let node = c.covered_bytes.result in
    let below = c.covered_bytes-2.result in
    let live_here = subst (λ n. (512 * c.args.top.index + slot) * n < c.args.size) (sym c.covered_bytes-2.ensures) live in
    let low : slot < (c.args.size - c.args.top.index * node - 1) / below + 1 =
    row_all c.args.top.index c.args.size node below slot (some path) (times path) live_here in
    omega (arith, low, within, c.min.ensures)
