-- The line of a call is one line.
use Rattle.std.proofs.Common.{◌≡◌, ◌∙◌, ℕ, ◌^◌, ◌<◌, ◌==◌, List, ◌++◌, not, true, codes, decimal, refl, arith}
use Rattle.std.specs.Cmp.{first_so}
use Rattle.std.proofs.lemmas.List.Folds.{list_all-append}
use Rattle.bp_plain.specs.Calls.{Call}
use Rattle.bp_plain.specs.Calls.Call.{create, mkdir, unlink, rmdir, list, stat, read, write, truncate, rename, link, links, upgrade, upgrade_to_three, snap, unsnap, snap_list, snap_stat, snap_read, batch, attribute, set_attribute}
use Rattle.bp_script.specs.Export.{IsOneLine, IsSpelled, IsWord, call_line, path_word}
use Rattle.bp_script.specs.Texts.{digits_or_dash}
use Rattle.bp_script.proofs.CallLines.{all_from, both_true, dash_whole, decimal_whole, is_inner, is_whole, path_whole}

word_line : (word : List ℕ) → is_whole word ≡ true → IsOneLine word
word_line word whole = all_from is_inner (λ b. not (b == 10)) (λ b inner. first_so (not (b == 10)) (not (b == 32)) inner) word whole

both : (xs ys : List ℕ) → IsOneLine xs → IsOneLine ys → IsOneLine (xs ++ ys)
both xs ys one two = list_all-append (λ b. not (b == 10)) xs ys ∙ both_true _ _ one two

path_line : (text : List ℕ) → IsWord text → IsOneLine (path_word text)
path_line text word = word_line (path_word text) (path_whole text word.bytes)

-- a word after another
following : (xs ys : List ℕ) → IsOneLine xs → IsOneLine ys → IsOneLine (xs ++ codes " " ++ ys)
following xs ys one two = both (xs ++ codes " ") ys (both xs (codes " ") one refl) two

-- a verb, a path and two numbers
numbers_line : (verb text : List ℕ) (first second : ℕ) → IsOneLine verb → IsWord text → first < 2 ^ 64 → second < 2 ^ 64
    → IsOneLine (verb ++ path_word text ++ codes " " ++ decimal first ++ codes " " ++ decimal second)
numbers_line verb text first second one word low small =
    following (verb ++ path_word text ++ codes " " ++ decimal first) (decimal second)
    (following (verb ++ path_word text) (decimal first) (both verb (path_word text) one (path_line text word)) (word_line (decimal first) (decimal_whole first low)))
    (word_line (decimal second) (decimal_whole second small))

pub one_line : (call : Call) → IsSpelled call → IsOneLine (call_line call)
one_line (create text) is = both (codes "create ") (path_word text) refl (path_line text is)
one_line (mkdir text) is = both (codes "mkdir ") (path_word text) refl (path_line text is)
one_line (unlink text) is = both (codes "unlink ") (path_word text) refl (path_line text is)
one_line (rmdir text) is = both (codes "rmdir ") (path_word text) refl (path_line text is)
one_line (list text) is = both (codes "list ") (path_word text) refl (path_line text is)
one_line (stat text) is = both (codes "stat ") (path_word text) refl (path_line text is)
one_line (links text) is = both (codes "links ") (path_word text) refl (path_line text is)
one_line (read text offset len) is = numbers_line (codes "read ") text offset len refl is.0 is.1 (omega (arith, is.2))
one_line (write text offset new) is =
    following (codes "write " ++ path_word text ++ codes " " ++ decimal offset) (digits_or_dash new)
    (following (codes "write " ++ path_word text) (decimal offset) (both (codes "write ") (path_word text) refl (path_line text is.0)) (word_line (decimal offset) (decimal_whole offset is.1)))
    (word_line (digits_or_dash new) (dash_whole new is.2))
one_line (truncate text size) is = following (codes "truncate " ++ path_word text) (decimal size) (both (codes "truncate ") (path_word text) refl (path_line text is.0)) (word_line (decimal size) (decimal_whole size is.1))
one_line (rename from to) is = following (codes "rename " ++ path_word from) (path_word to) (both (codes "rename ") (path_word from) refl (path_line from is.0)) (path_line to is.1)
one_line (link from to) is = following (codes "link " ++ path_word from) (path_word to) (both (codes "link ") (path_word from) refl (path_line from is.0)) (path_line to is.1)
one_line upgrade is = refl
one_line upgrade_to_three is = refl
one_line snap is = refl
one_line unsnap is = refl
one_line (snap_list text) is = both (codes "slist ") (path_word text) refl (path_line text is)
one_line (snap_stat text) is = both (codes "sstat ") (path_word text) refl (path_line text is)
one_line (snap_read text offset len) is = numbers_line (codes "sread ") text offset len refl is.0 is.1 (omega (arith, is.2))
one_line (attribute text number) is = following (codes "attr " ++ path_word text) (decimal number) (both (codes "attr ") (path_word text) refl (path_line text is.0)) (word_line (decimal number) (decimal_whole number (omega (arith, is.1))))
one_line (set_attribute text number value) is = numbers_line (codes "setattr ") text number value refl is.0 (omega (arith, is.1)) is.2
one_line (batch pieces) is = absurd is
