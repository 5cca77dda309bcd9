use Rattle.std.proofs.Common.{◌≡◌, ℕ, ◌<◌, ◌/◌, [], ◌∷◌, ◌++◌, true, false, get_or, length, take, sym, ◌∙◌, ap, refl, arith, rules}
use Rattle.std.proofs.Math.Seq.{take-length}
use Rattle.pm_region.specs.Memory.{current_words}
use Rattle.bp_read.proofs.RegionWords.{length_now}
use Rattle.bp_cow.specs.Copies.{pointing_to}
use Rattle.bp_thaw.specs.Copies.{is_copied, links_among}
use Rattle.bp_thaw.proofs.CopySteps.{item_here, one_more_taken}
use Rattle.bp_thaw.proofs.LinkSteps.{link_more, link_none}
use Rattle.bp_thaw.proofs.links.links_to.Goals as goal
use Rattle.bp_thaw.proofs.links.links_to.Goals.{then-not-is_copied, else-not-is_copied}

pub loop-i-init : goal.loop-i-init
loop-i-init g c = rw c.new-links.ensures (record { links = refl; count = search rules })

pub load-requires : goal.load-requires
load-requires g c =
    let copies = c.args.copies.now.items in
    let low : c.loop-i.i < length copies = omega (arith, c.loop-i-test.true, c.len-i-end.ensures.value) in
    omega (arith, c.requires _ (item_here copies c.loop-i.i (0, 0) _ low (ap (λ cs. get_or cs c.loop-i.i (0, 0)) (sym c.deref.ensures.0))), length_now (g.R.Region.memory c.args.region.now))

pub loop-i-preserved : goal.loop-i-preserved
loop-i-preserved g c =
    let copies = c.args.copies.now.items in
    let image = current_words (g.R.Region.memory c.args.region.now) in
    let i = c.loop-i.i in
    let low : i < length copies = omega (arith, c.loop-i-test.true, c.len-i-end.ensures.value) in
    let item : ℕ × ℕ = get_or c.deref.result.now i (0, 0) in
    let is : get_or copies i (0, 0) ≡ item = ap (λ cs. get_or cs i (0, 0)) (sym c.deref.ensures.0) in
    elim c.if-not-is_copied.branch [
      | then-not-is_copied w ↦
          let no : is_copied image copies (item.0 / 512) ≡ false = sym c.is_copied.ensures ∙ w.if-not-is_copied.true in
          rw w.links-is
          (record {
            links = one_more_taken (λ cs. w.push.new.self.items ≡ links_among image copies cs) copies i item low is
                (w.push.ensures.items ∙ ap (λ xs. xs ++ (item.0, w.pointing_to.result) ∷ []) c.loop-i.invariant.links
                ∙ ap (λ v. links_among image copies (take i copies) ++ (item.0, v) ∷ []) (w.pointing_to.ensures ∙ ap (λ p. pointing_to p item.1) w.load.ensures)
                ∙ sym (link_more image copies (take i copies) item no));
            count = omega (arith, w.push.ensures.len, c.loop-i.invariant.count);
          })
      | else-not-is_copied w ↦
          let yes : is_copied image copies (item.0 / 512) ≡ true = sym c.is_copied.ensures ∙ w.if-not-is_copied.false in
          rw w.links-is
          (record {
            links = one_more_taken (λ cs. c.loop-i.links.items ≡ links_among image copies cs) copies i item low is (c.loop-i.invariant.links ∙ sym (link_none image copies (take i copies) item yes));
            count = omega (arith, c.loop-i.invariant.count);
          })
    ]

pub returns : goal.returns
returns g c =
    let copies = c.args.copies.now.items in
    let end : c.loop-i.i ≡ length copies = omega (arith, c.loop-i-test.false, c.loop-i.auto.i-end, c.len-i-end.ensures.value) in
    c.loop-i.invariant.links ∙ ap (links_among (current_words (g.R.Region.memory c.args.region.now)) copies) (ap (λ n. take n copies) end ∙ take-length copies)
