-- Lines `help` that a terminal's source skips.
use Rattle.std.proofs.Common.{◌≡◌, ℕ, suc, Bool, true, List, ◌++◌, take, Result, Ok, Err, IsErr, Option, None, Some, append_assoc, true≢false, sym, ◌∙◌}
use Rattle.std.specs.Io.KnownBytes.{Consumes, Keeps, ReadConsumes}
use Rattle.bpfs.specs.Typing.{ReadsPastHelp, help_line, help_lines}

consumes_more : (first second third : Option (List ℕ)) (xs ys : List ℕ) → Consumes first second xs
    → Consumes second third ys → Consumes first third (xs ++ ys)
consumes_more None second third xs ys p q = tt
consumes_more (Some old) None third xs ys p q = absurd p
consumes_more (Some old) (Some mid) None xs ys p q = absurd q
consumes_more (Some old) (Some mid) (Some new) xs ys p q = rw append_assoc (cc)

-- If a read gave the line `help`, the next one goes on after one more such line.
pub reads_past_more : {E F : Type 0} (begins : Bool) (before between after : Option (List ℕ)) (count : ℕ)
    (piece next : List ℕ) (result : Result ℕ F) → begins ≡ true
    → ReadsPastHelp {E = E} begins before between (Ok count) piece → take count piece ≡ help_line
    → ReadConsumes between after result next → ReadsPastHelp begins before after result next
reads_past_more begins before between after count piece next result is_begun past is_help reads = record {
  rest = between;
  skips = record {
    count = suc past.skips.count;
    none = λ e. absurd (true≢false (sym is_begun ∙ e));
    skipped = consumes_more before past.rest between (help_lines past.skips.count) help_line past.skips.skipped
        (rw is_help at past.reads.0);
  };
  reads = reads;
}

-- A read that failed consumed nothing.
pub fails_reading : {F : Type 0} (before after : Option (List ℕ)) (result : Result ℕ F) (into : List ℕ) → IsErr result
    → Keeps before after → ReadConsumes before after result into
fails_reading before after (Ok count) into fails keeps = absurd (true≢false (sym fails))
fails_reading before after (Err error) into fails keeps = keeps
