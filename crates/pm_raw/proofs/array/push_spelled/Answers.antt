use Rattle.std.proofs.Common.{arith, ap, sym, ◌∙◌, ◌≡◌, ℕ, ◌*◌, List, [], ◌∷◌, ◌++◌, length, take, drop, length-append, length-take, length-drop, get_or-drop}
use Rattle.std.proofs.lemmas.List.{append_assoc, get_or-take}
use Rattle.pm_words.specs.Bytes.{word_of}
use Rattle.pm_words.proofs.ByteLaws.{word_reported}
use Rattle.pm_raw.specs.Spelled.{spelled_words}
use Rattle.pm_raw.specs.declared.cells.Cells.{Cells}
use Rattle.pm_raw.proofs.SpelledLaws.{length-spelled_words, spelled_more}
use Rattle.pm_raw.proofs.array.push_spelled.Goals as goal

pub push-requires : goal.push-requires
push-requires c =
    let loop = c.loop-k.invariant.cells in
    let prefix = c.args.cells.now.items in
    let words = spelled_words c.loop-k.k c.args.bytes.now in (
      c.requires.at ∙ sym (ap (λ (cells : Cells ℕ). cells.at) loop),
      omega (arith, ap (λ (cells : Cells ℕ). length cells.items) loop, length-append prefix words, length-spelled_words c.loop-k.k c.args.bytes.now, c.requires.count),
      omega (arith, ap (λ (cells : Cells ℕ). cells.count) loop, c.requires.room, c.loop-k-test.true),
    )

pub loop-k-preserved : goal.loop-k-preserved
loop-k-preserved c =
    let k = c.loop-k.k in
    let bytes = c.args.bytes.now in
    let prefix = c.args.cells.now.items in
    let eight : length (take 8 (drop (8 * k) bytes)) ≡ 8 =
    omega (arith, length-take 8 (drop (8 * k) bytes), length-drop (8 * k) bytes, c.loop-k-test.true) in
    let word : c.word_at.result ≡ word_of (take 8 (drop (8 * k) bytes)) =
    word_reported c.word_at.result (take 8 (drop (8 * k) bytes)) (omega (arith, c.word_at.type_inv)) eight
    (λ i few. c.word_at.ensures i few ∙ sym (get_or-take 8 (drop (8 * k) bytes) i 0 few ∙ get_or-drop (8 * k) bytes i 0)) in
    let items = ap (λ w. (prefix ++ spelled_words k bytes) ++ w ∷ []) word ∙ append_assoc prefix (spelled_words k bytes) (word_of (take 8 (drop (8 * k) bytes)) ∷ []) ∙ ap (λ l. prefix ++ l) (sym (spelled_more k bytes)) in
    record {
      cells = c.push.ensures ∙ ap (λ (cells : Cells ℕ). record cells { items = cells.items ++ c.word_at.result ∷ [] }) c.loop-k.invariant.cells
          ∙ ap (λ (items : List ℕ). record c.args.cells.now { items = items }) items;
    }
