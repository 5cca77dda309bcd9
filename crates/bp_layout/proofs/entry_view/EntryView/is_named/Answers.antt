use Rattle.std.proofs.Common.{◌+◌, ◌*◌, ◌-◌, ◌%◌, ◌^◌, ◌≤◌, ◌<◌, min, true, length, sym, ◌∙◌, ap, arith, refl}
use Rattle.bp_layout.specs.EntryWords.{part_word}
use Rattle.bp_layout.proofs.PartLaws.{SameBelow, is_named-bytes, is_named-empty, is_named-unlike, is_named-other, part_small, same_word, same_more, spelled_out, whole_of}
use Rattle.bp_layout.proofs.entry_view.EntryView.is_named.Goals as goal

pub returns-then-low_bytes-last : goal.returns-then-low_bytes-last
returns-then-low_bytes-last c =
    let name = c.args.name.now in
    let whole = c.last_part-whole.result in
    let field : 2 + whole < 32 = omega (arith, c.last_part-whole.ensures, c.requires.short) in
    λ image root slot is. is_named-unlike image root slot name
    (λ same. c.if-low_bytes-last.true (
    c.low_bytes.ensures ∙ ap (λ w. w % 256 ^ min 8 (length name - 8 * whole)) (c.name_part-end.ensures ∙ is.each (2 + whole) field)
    ∙ same_word image root slot whole name same
    ∙ sym (c.requires.last ∙ ap (part_word name) (sym c.last_part-whole.ensures))))

pub returns-then-name_len-name : goal.returns-then-name_len-name
returns-then-name_len-name c =
    λ image root slot is. is_named-other image root slot c.args.name.now (λ same. c.if-name_len-name.true (c.name_len.ensures ∙ is.each 1 (omega arith) ∙ same))

pub returns-then-ino-eq0 : goal.returns-then-ino-eq0
returns-then-ino-eq0 c =
    λ image root slot is. is_named-empty image root slot c.args.name.now (sym (is.each 0 (omega arith)) ∙ sym c.ino.ensures ∙ c.if-ino-eq0.true)

pub returns-then-name_part-whole_word : goal.returns-then-name_part-whole_word
returns-then-name_part-whole_word c =
    let name = c.args.name.now in
    let part = c.loop-part.part in
    let all : 8 ≤ length name - 8 * part = omega (arith, c.last_part-whole.ensures, c.loop-part-test.true) in
    let field : 2 + part < 32 = omega (arith, all, c.requires.short) in
    λ image root slot is. is_named-unlike image root slot name
    (λ same. c.if-name_part-whole_word.true (
    sym (whole_of _ (length name - 8 * part) (omega arith) all)
    ∙ ap (λ w. w % 256 ^ min 8 (length name - 8 * part)) (c.name_part.ensures ∙ is.each (2 + part) field)
    ∙ same_word image root slot part name same
    ∙ sym c.whole_word.ensures))

pub loop-part-preserved : goal.loop-part-preserved
loop-part-preserved c =
    let name = c.args.name.now in
    let part = c.loop-part.part in
    let all : 8 ≤ length name - 8 * part = omega (arith, c.last_part-whole.ensures, c.loop-part-test.true) in
    let field : 2 + part < 32 = omega (arith, all, c.requires.short) in
    λ image root slot is. same_more image root slot part name (part_small name (8 * part) (λ k. omega (arith, c.type_inv.name k)))
    (ap (λ w. w % 256 ^ min 8 (length name - 8 * part)) (sym (is.each (2 + part) field) ∙ sym c.name_part.ensures)
    ∙ whole_of _ (length name - 8 * part) (omega arith) all
    ∙ c.if-name_part-whole_word.false ∙ c.whole_word.ensures)
    (c.loop-part.invariant image root slot is)

pub returns : goal.returns
returns c =
    let name = c.args.name.now in
    let whole = c.last_part-whole.result in
    let field : 2 + whole < 32 = omega (arith, c.last_part-whole.ensures, c.requires.short) in
    λ image root slot is.
    let to_end : SameBelow image root slot name (8 * (whole + 1)) =
    same_more image root slot whole name (part_small name (8 * whole) (λ k. omega (arith, c.type_inv.name k)))
    (ap (λ w. w % 256 ^ min 8 (length name - 8 * whole)) (sym (is.each (2 + whole) field) ∙ sym c.name_part-end.ensures)
    ∙ sym c.low_bytes.ensures ∙ c.if-low_bytes-last.false
    ∙ c.requires.last ∙ ap (part_word name) (sym c.last_part-whole.ensures))
    (λ o below within. c.loop-part.invariant image root slot is o (omega (arith, below, c.loop-part-test.false)) within) in
    is_named-bytes image root slot name true
    (λ none. c.if-ino-eq0.false (c.ino.ensures ∙ is.each 0 (omega arith) ∙ none)) (sym (is.each 1 (omega arith)) ∙ sym c.name_len.ensures ∙ c.if-name_len-name.false)
    (λ yes. spelled_out image root slot name (λ o below within. to_end o (omega (arith, below, c.last_part-whole.ensures)) within), λ same. refl)
