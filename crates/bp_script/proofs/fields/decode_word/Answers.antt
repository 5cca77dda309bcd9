use Rattle.std.proofs.Common.{◌≡◌, ◌∙◌, ◌==◌, false, None, Some, length, sym, ap, arith}
use Rattle.std.proofs.lemmas.Result.{err_from_is_err_and}
use Rattle.std.proofs.lemmas.Slice.{take-put_mid}
use Rattle.bp_script.specs.Lines.{words_after}
use Rattle.bp_script.proofs.FirstWord.{word_decoded, words_split, words_reported}
use Rattle.bp_script.proofs.fields.decode_word.Goals.{else-prefix-eq0-via-then-prefix-eq0+else-is_empty, else-prefix-eq0-via-else-prefix-eq0}
use Rattle.bp_script.proofs.fields.decode_word.Goals as goal

pub returns-in_err-decode_into-clause-bytes : goal.returns-in_err-decode_into-clause-bytes
returns-in_err-decode_into-clause-bytes c =
    let p = err_from_is_err_and c.from_residual.result c.from_residual.ensures.1 in
    let n = c.decode_prefix-prefix.result in
    let left = c.split_once.result.0.now in
    let some : n ≡ 0 → (length left == 0) ≡ false =
    elim c.else-prefix-eq0.branch [
      | else-prefix-eq0-via-then-prefix-eq0+else-is_empty w ↦ λ none. sym w.is_empty.ensures ∙ w.if-is_empty.false
      | else-prefix-eq0-via-else-prefix-eq0 w ↦ λ none. absurd (w.if-prefix-eq0.false none)
    ] in
    rw p.1 (
    sym (
    word_decoded n c.args.text.now c.decode_prefix-prefix.new.into left (words_after c.split_once.result.1) None (omega arith) (omega arith)
    c.decode_prefix-prefix.ensures.prefix c.split_once.ensures.split some (sym c.in_err-decode_into.ensures ∙ c.left_digits-left.ensures.bytes)
    )
    )

pub returns-clause-bytes : goal.returns-clause-bytes
returns-clause-bytes c =
    let n = c.decode_prefix-prefix.result in
    let left = c.split_once.result.0.now in
    let out = c.decode_prefix-prefix.new.into in
    let last = c.decode_into.new.into in
    let some : n ≡ 0 → (length left == 0) ≡ false =
    elim c.else-prefix-eq0.branch [
      | else-prefix-eq0-via-then-prefix-eq0+else-is_empty w ↦ λ none. sym w.is_empty.ensures ∙ w.if-is_empty.false
      | else-prefix-eq0-via-else-prefix-eq0 w ↦ λ none. absurd (w.if-prefix-eq0.false none)
    ] in
    ap Some (take-put_mid n _ out last _ (omega arith) (omega arith))
    ∙ sym (
    word_decoded n c.args.text.now out left (words_after c.split_once.result.1) (Some last) (omega arith) (omega arith)
    c.decode_prefix-prefix.ensures.prefix c.split_once.ensures.split some (sym c.in_ok-decode_into.ensures ∙ c.left_digits-left.ensures.bytes)
    )

pub returns-clause-following : goal.returns-clause-following
returns-clause-following c =
    let ws = words_after c.split_once.result.1 in
    words_reported c.args.text.now _ ws (words_split c.decode_prefix-prefix.result c.args.text.now _ c.split_once.result.0.now ws (omega arith) c.decode_prefix-prefix.ensures.prefix c.split_once.ensures.split)
