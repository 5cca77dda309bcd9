use Rattle.std.proofs.Common.{◌≡◌, ◌&&◌, Bool, true, false, not, None, sym, ◌∙◌, ap, ap₂, subst}
use Rattle.bp_layout.specs.Paths.{same_path, Path}
use Rattle.bp_plain.specs.Calls.Call.{rename}
use Rattle.bp_plain.specs.Plain.{move_refusal, path_named, refusal, with_moved, with_now}
use Rattle.bp_plain.specs.PlainTree.{FileTree, PathMap, is_one}
use Rattle.bp_plain.specs.SeenMap.{tree_seen}
use Rattle.bp_plain.specs.SeenTree.{names_of}
use Rattle.bp_plain.proofs.Carried.{carries, move_passes}
use Rattle.bp_plain.proofs.trees.Plain.rename.Goals as goal
use Rattle.bp_plain.proofs.trees.Plain.rename.Goals.{then-not-is_same+then-not-is_one+in_ok-move_to, else-not-is_same, else-not-is_same-via-then-not-is_same+else-not-is_one, else-not-is_same-via-else-not-is_same}

pub move_to-requires-clause-can : goal.move_to-requires-clause-can
move_to-requires-clause-can c =
    let from : names_of c.deref-then-not-is_one.result.now ≡ path_named c.args.from.now = ap names_of c.deref-then-not-is_one.ensures.value ∙ c.in_ok-from.ensures in
    let to : names_of c.deref-then-not-is_one-2.result.now ≡ path_named c.args.to.now = ap names_of c.deref-then-not-is_one-2.ensures.value ∙ c.in_ok-to.ensures in
    let passes : move_refusal c.self.inside.current.nodes (path_named c.args.from.now) (path_named c.args.to.now) ≡ None =
    move_passes c.self.inside.current.nodes c.args.from.now c.args.to.now
    (subst (λ (tree : FileTree). refusal tree (rename c.args.from.now c.args.to.now) ≡ None) (sym c.self.view_is) c.requires) in
    subst (λ (p : Path). move_refusal c.self.inside.current.nodes p (names_of c.deref-then-not-is_one-2.result.now) ≡ None) (sym from)
    (subst (λ (q : Path). move_refusal c.self.inside.current.nodes (path_named c.args.from.now) q ≡ None) (sym to) passes)

pub returns-clause-done : goal.returns-clause-done
returns-clause-done c =
    let from : names_of c.deref.result.now ≡ path_named c.args.from.now = ap names_of c.deref.ensures.value ∙ c.in_ok-from.ensures in
    let to : names_of c.deref-2.result.now ≡ path_named c.args.to.now = ap names_of c.deref-2.ensures.value ∙ c.in_ok-to.ensures in
    let same : same_path (path_named c.args.from.now) (path_named c.args.to.now) ≡ c.is_same.result = sym (c.is_same.ensures ∙ ap₂ (λ (p q : Path). same_path p q) from to) in
    elim c.if-not-is_same.branch [
      | then-not-is_same+then-not-is_one+in_ok-move_to w ↦
          let first : names_of w.deref-then-not-is_same.result.now ≡ path_named c.args.from.now = ap names_of w.deref-then-not-is_same.ensures.value ∙ c.in_ok-from.ensures in
          let second : names_of w.deref-then-not-is_same-2.result.now ≡ path_named c.args.to.now = ap names_of w.deref-then-not-is_same-2.ensures.value ∙ c.in_ok-to.ensures in
          let source : names_of w.deref-then-not-is_one.result.now ≡ path_named c.args.from.now = ap names_of w.deref-then-not-is_one.ensures.value ∙ c.in_ok-from.ensures in
          let target : names_of w.deref-then-not-is_one-2.result.now ≡ path_named c.args.to.now = ap names_of w.deref-then-not-is_one-2.ensures.value ∙ c.in_ok-to.ensures in
          let now : w.current.result.now ≡ c.args.self.now.now = w.current.ensures in
          let one : is_one c.args.self.now.now.one (path_named c.args.from.now) (path_named c.args.to.now) ≡ w.is_one.result =
          sym (w.is_one.ensures ∙ ap₂ (λ (p q : Path). is_one w.current.result.now.one p q) first second
          ∙ ap (λ (m : PathMap). is_one m.one (path_named c.args.from.now) (path_named c.args.to.now)) now) in
          carries c.args.self.now c.if-not-is_same.self (rename c.args.from.now c.args.to.now) c.set_done.new.self.answer true
          (ap₂ (λ (a b : Bool). not a && not b) (same ∙ w.if-not-is_same.true) (one ∙ w.if-not-is_one.true)) c.set_done.ensures.answer
          (w.self-is
          ∙ ap (λ (m : PathMap). with_now (tree_seen c.self.inside) m) (w.in_ok-move_to.ensures.moved ∙ ap₂ (λ (p q : Path). with_moved c.self.inside.current p q) source target)
          ∙ ap (λ (tree : FileTree). with_now tree (with_moved tree.now (path_named c.args.from.now) (path_named c.args.to.now))) c.self.view_is)
      | else-not-is_same w ↦
          let stays : c.if-not-is_same.self ≡ c.args.self.now = cc in
          elim w.else-not-is_same.branch [
            | else-not-is_same-via-then-not-is_same+else-not-is_one v ↦
                let first : names_of v.deref-then-not-is_same.result.now ≡ path_named c.args.from.now = ap names_of v.deref-then-not-is_same.ensures.value ∙ c.in_ok-from.ensures in
                let second : names_of v.deref-then-not-is_same-2.result.now ≡ path_named c.args.to.now = ap names_of v.deref-then-not-is_same-2.ensures.value ∙ c.in_ok-to.ensures in
                let now : v.current.result.now ≡ c.args.self.now.now = v.current.ensures in
                let one : is_one c.args.self.now.now.one (path_named c.args.from.now) (path_named c.args.to.now) ≡ v.is_one.result =
                sym (v.is_one.ensures ∙ ap₂ (λ (p q : Path). is_one v.current.result.now.one p q) first second
                ∙ ap (λ (m : PathMap). is_one m.one (path_named c.args.from.now) (path_named c.args.to.now)) now) in
                carries c.args.self.now c.if-not-is_same.self (rename c.args.from.now c.args.to.now) c.set_done.new.self.answer false
                (ap₂ (λ (a b : Bool). not a && not b) (same ∙ v.if-not-is_same.true) (one ∙ v.if-not-is_one.false)) c.set_done.ensures.answer stays
            | else-not-is_same-via-else-not-is_same v ↦
                carries c.args.self.now c.if-not-is_same.self (rename c.args.from.now c.args.to.now) c.set_done.new.self.answer false
                (ap (λ (a : Bool). not a && not (is_one c.args.self.now.now.one (path_named c.args.from.now) (path_named c.args.to.now))) (same ∙ v.if-not-is_same.false))
                c.set_done.ensures.answer stays
          ]
    ]
