use Rattle.std.proofs.Common.{◌≡◌, ℕ, ◌+◌, ◌/◌, ◌%◌, ◌<◌, List, get_or, length, set, take, sym, ◌∙◌, ap, subst, refl, arith}
use Rattle.std.proofs.lemmas.List.{length-set}
use Rattle.std.proofs.Math.Seq.{take-length}
use Rattle.bp_layout.specs.Members.{AreApart}
use Rattle.bp_cow.specs.Copies.{pointing_to}
use Rattle.bp_thaw.specs.Copies.{AreTurned, Copies, places_of}
use Rattle.bp_thaw.proofs.CopySteps.{apart-more_taken, one_more_taken, turn_here, turn_other}
use Rattle.bp_thaw.proofs.copies.turn_words.Goals as goal
use Rattle.bp_thaw.proofs.copies.turn_words.Goals.{then-place-block, else-place-block}

turned_here : (copies : Copies) (i : ℕ) (item : ℕ × ℕ) → i < length copies → get_or copies i (0, 0) ≡ item → AreApart (places_of copies) → (block : ℕ) (old words new : List ℕ) → AreTurned (take i copies) block old words →
    item.0 / 512 ≡ block → length words ≡ 512 → new ≡ set words (item.0 % 512) (pointing_to (get_or words (item.0 % 512) 0) item.1) → AreTurned (take (i + 1) copies) block old new
turned_here copies i item low is apart block old words new so_far here long set_is =
    subst (AreTurned (take (i + 1) copies) block old) (sym set_is)
    (one_more_taken (λ cs. AreTurned cs block old (set words (item.0 % 512) (pointing_to (get_or words (item.0 % 512) 0) item.1))) copies i item low is
    (turn_here (take i copies) item (apart-more_taken (λ (x : ℕ × ℕ). x.0) copies i item low is apart) block old words so_far here long))

pub loop-i-init : goal.loop-i-init
loop-i-init c = record { turned = λ slot low. refl }

pub loop-i-preserved : goal.loop-i-preserved
loop-i-preserved c =
    let copies = c.args.copies.now.items in
    let i = c.loop-i.i in
    let item : ℕ × ℕ = get_or c.deref.result.now i (0, 0) in
    let low : i < length copies = omega (arith, c.loop-i-test.true, c.len-i-end.ensures.value) in
    let is : get_or copies i (0, 0) ≡ item = ap (λ cs. get_or cs i (0, 0)) (sym c.deref.ensures.0) in
    let apart = apart-more_taken (λ (x : ℕ × ℕ). x.0) copies i item low is c.requires in
    elim c.if-place-block.branch [
      | then-place-block w ↦
          let long : length c.loop-i.words ≡ 512 = sym (length-set c.loop-i.words (item.0 % 512) w.pointing_to.result) ∙ ap length (sym w.words-is) ∙ c.if-place-block.array_long in
          record {
            turned = turned_here copies i item low is c.requires c.args.block c.args.words.now c.loop-i.words c.if-place-block.words c.loop-i.invariant.turned w.if-place-block.true long
                (w.words-is ∙ ap (λ v. set c.loop-i.words (item.0 % 512) v) w.pointing_to.ensures);
          }
      | else-place-block w ↦
          rw w.words-is
          (record {
            turned = one_more_taken (λ cs. AreTurned cs c.args.block c.args.words.now c.loop-i.words) copies i item low is
                (turn_other (take i copies) item apart c.args.block c.args.words.now c.loop-i.words c.loop-i.invariant.turned w.if-place-block.false);
          })
    ]

pub returns : goal.returns
returns c slot low =
    let end : c.loop-i.i ≡ length c.args.copies.now.items = omega (arith, c.loop-i-test.false, c.loop-i.auto.i-end, c.len-i-end.ensures.value) in
    subst (λ cs. AreTurned cs c.args.block c.args.words.now c.loop-i.words) (ap (λ n. take n c.args.copies.now.items) end ∙ take-length c.args.copies.now.items) c.loop-i.invariant.turned slot low
