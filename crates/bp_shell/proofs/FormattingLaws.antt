-- The prefix of a new image, and a file between its old bytes and that image.
use Rattle.std.proofs.Common.{zero, suc, refl, sym, ◌∙◌, ap, true, arith, ◌≡◌, ℕ, ◌+◌, ◌*◌, ◌-◌, ◌<◌, ◌≤◌, List, [], ◌∷◌, ◌++◌, length, take, replicate, inl, inr}
use Rattle.std.specs.Prelude.{Option, Some, None, Result, Ok, Err, OnOk, OnErr}
use Rattle.std.specs.Io.KnownBytes.{Appends}
use Rattle.std.proofs.Math.Seq.{take-length}
use Rattle.std.proofs.lemmas.List.{length-replicate, replicate-append-replicate, take_all}
use Rattle.bp_layout.specs.Bytes.{image_bytes}
use Rattle.bp_layout.specs.Format.{format_stores, formatted}
use Rattle.bp_layout.specs.Words.{Image}
use Rattle.bp_layout.proofs.LastValue.{length-after_stores}
use Rattle.bp_limits.specs.declared.version.Version.{Version}
use Rattle.bp_io.specs.Causes.{HasCause}
use Rattle.bp_io.specs.Files.{IsPartlyReplaced, Stays, StaysOrIsMade, Becomes, BecomesPartly, Attaches, resized_file}
use Rattle.bp_io.specs.Views.{Known, HasBytes}
use Rattle.bp_session.specs.Faults.{Prints}
use Rattle.bp_session.proofs.BlockLaws.{image_bytes-append, length-image_bytes}
use Rattle.bp_shell.specs.Formatting.{HasPartly, bytes_there, new_image}
use Rattle.bp_mount.specs.Laid.{format_events}
use Rattle.bp_shell.proofs.PrefixLaws.{formatted-append, formatted_words}
use Rattle.pm_region.specs.Memory.{Adds, Memory, current_words}
use Rattle.pm_region.proofs.MemoryLaws.{length-current_words}

pub prints : {T E : Type 0} (r : Result T E) (text : List ℕ) (t u : Option (List ℕ)) (m n : ℕ) → OnOk r (Appends t u text) → OnErr r ((count : ℕ) × (count < length text) × Appends t u (take count text)) → HasCause m n r → Prints text t u m n
prints (Ok x) text t u m n ok err cause = record { some = (length text, rw (take-length text) ok); all = λ _. ok }
prints (Err e) text t u m n ok err cause = record { some = (err.0, err.2); all = λ calm. absurd (calm cause.failed) }

-- ---- the prefix of a new image

-- more zeros are some zeros and the others
zeros_apart : (few many : ℕ) → few ≤ many → replicate {A = ℕ} many 0 ≡ replicate few 0 ++ replicate (many - few) 0
zeros_apart few many low =
    let sum : few + (many - few) ≡ many = omega (arith, low) in
    sym (replicate-append-replicate {A = ℕ} few (many - few) 0 ∙ ap (λ (n : ℕ). replicate n 0) sum)

-- the bytes of words that are 0
image_bytes-zeros : (count : ℕ) → image_bytes (replicate count 0) ≡ replicate (8 * count) 0
unfolding image_bytes
image_bytes-zeros zero = refl
image_bytes-zeros (suc count) =
    let more : 8 * suc count ≡ suc (suc (suc (suc (suc (suc (suc (suc (8 * count)))))))) = omega arith in
    rw more (ap (λ (l : List ℕ). 0 ∷ 0 ∷ 0 ∷ 0 ∷ 0 ∷ 0 ∷ 0 ∷ 0 ∷ l) (image_bytes-zeros count))

-- the prefix of a new image, filled up with zeros, is all of it
prefix_filled : (version : Version) (width blocks : ℕ) (prefix : List ℕ) → 1024 ≤ width → width ≤ 512 * blocks →
    prefix ≡ image_bytes (formatted (replicate width 0) version blocks) → resized_file (4096 * blocks) prefix ≡ image_bytes (new_image version blocks)
prefix_filled version width blocks prefix two fits are =
    let some : length (replicate {A = ℕ} width 0) ≡ width = length-replicate {A = ℕ} width 0 in
    let size : length (formatted (replicate width 0) version blocks) ≡ width = length-after_stores (replicate width 0) (format_stores version blocks) ∙ some in
    let long : length prefix ≡ 8 * width = ap length are ∙ length-image_bytes (formatted (replicate width 0) version blocks) ∙ ap (λ (n : ℕ). 8 * n) size in
    let missing : 4096 * blocks - length prefix ≡ 8 * (512 * blocks - width) = omega (arith, long, fits) in
    let all : take (4096 * blocks) prefix ≡ prefix = take_all (4096 * blocks) prefix (omega (arith, long, fits)) in
    rw (all, missing) (
    ap (λ (l : List ℕ). l ++ replicate (8 * (512 * blocks - width)) 0) are
    ∙ ap (λ (l : List ℕ). image_bytes (formatted (replicate width 0) version blocks) ++ l) (sym (image_bytes-zeros (512 * blocks - width)))
    ∙ sym (image_bytes-append (formatted (replicate width 0) version blocks) (replicate (512 * blocks - width) 0))
    ∙ ap image_bytes (sym (formatted-append (replicate width 0) (replicate (512 * blocks - width) 0) version blocks (omega (arith, some, two))))
    ∙ ap (λ (words : Image). image_bytes (formatted words version blocks)) (sym (zeros_apart width (512 * blocks) fits)))

-- the words that a format made of zeros, and their bytes
module _ (old new : Memory) (version : Version) (width blocks : ℕ) (prefix : List ℕ) (zeros : old.base ≡ replicate width 0) (fresh : old.events ≡ []) (adds : Adds old new (format_events version blocks)) (are : prefix ≡ image_bytes (current_words new)) where
  made : current_words new ≡ formatted (replicate width 0) version blocks
  made = formatted_words version blocks old new fresh adds ∙ ap (λ (words : Image). formatted words version blocks) zeros

  pub length-prefix : length prefix ≡ 8 * width
  length-prefix =
      ap length (are ∙ ap image_bytes made) ∙ length-image_bytes (formatted (replicate width 0) version blocks)
      ∙ ap (λ (n : ℕ). 8 * n) (length-after_stores (replicate width 0) (format_stores version blocks) ∙ length-replicate {A = ℕ} width 0)

  pub prefix_made : 1024 ≤ width → width ≤ 512 * blocks → resized_file (4096 * blocks) prefix ≡ image_bytes (new_image version blocks)
  prefix_made two fits = prefix_filled version width blocks prefix two fits (are ∙ ap image_bytes made)

-- the bytes of all blocks
pub all_blocks : (memory : Memory) (bytes : List ℕ) (count : ℕ) → length memory.base ≡ 512 * count → bytes ≡ take (4096 * count) (image_bytes (current_words memory)) → bytes ≡ image_bytes (current_words memory)
all_blocks memory bytes count whole are =
    are ∙ take_all (4096 * count) (image_bytes (current_words memory)) (omega (arith, whole, length-current_words memory, length-image_bytes (current_words memory)))

-- ---- what is known of the file

as_before : (old wanted : List ℕ) → IsPartlyReplaced old wanted old
as_before old wanted = record { size = inl refl; blocks = λ i low. inl refl }

as_wanted : (old wanted : List ℕ) → IsPartlyReplaced old wanted wanted
as_wanted old wanted = record { size = inr refl; blocks = λ i low. inr (inr refl) }

-- an attach failed
pub partly_attached : (old now : Known) (wanted : List ℕ) → Becomes (λ bytes. bytes) old now → StaysOrIsMade true old now → HasPartly old wanted now
partly_attached None now wanted stays made = stays
partly_attached (Some None) now wanted stays made = elim made [
  | inl e ↦ rw e refl
  | inr e ↦ rw e.1 (as_before [] wanted)
]
partly_attached (Some (Some bytes)) now wanted stays made = rw stays (as_before bytes wanted)

-- a file that is there is replaced partly
between : (old : Option (List ℕ)) (bytes wanted : List ℕ) (now : Known) → bytes_there old ≡ bytes → BecomesPartly wanted (Some (Some bytes)) now → HasPartly (Some old) wanted now
between old bytes wanted None same partly = absurd partly
between old bytes wanted (Some None) same partly = absurd partly
between old bytes wanted (Some (Some found)) same partly = rw same partly

pub partly_replaced : (old middle now : Known) (n : ℕ) (wanted : List ℕ) → Attaches old (Some n) middle → BecomesPartly wanted middle now → HasPartly old wanted now
partly_replaced None middle now n wanted attaches partly = rw attaches at partly
partly_replaced (Some None) middle now n wanted attaches partly = between None [] wanted now refl (rw attaches at partly)
partly_replaced (Some (Some bytes)) middle now n wanted attaches partly = between (Some bytes) bytes wanted now refl (rw attaches at partly)

-- it is replaced whole
pub whole_replaced : (old middle new now : Known) (n : ℕ) (wanted : List ℕ) → Attaches old (Some n) middle → Becomes (λ was. wanted) middle new → Stays new now → HasBytes now wanted
whole_replaced None middle new now n wanted attaches replaced stays = let none = rw attaches at replaced in let still = rw none at stays in rw still tt
whole_replaced (Some None) middle new now n wanted attaches replaced stays = let is = rw attaches at replaced in let still = rw is at stays in rw still refl
whole_replaced (Some (Some bytes)) middle new now n wanted attaches replaced stays = let is = rw attaches at replaced in let still = rw is at stays in rw still refl

-- .. and a flush failed
pub partly_flushed : (old middle new now : Known) (n : ℕ) (wanted : List ℕ) → Attaches old (Some n) middle → Becomes (λ was. wanted) middle new → Stays new now → HasPartly old wanted now
partly_flushed None middle new now n wanted attaches replaced stays = let none = rw attaches at replaced in rw none at stays
partly_flushed (Some None) middle new now n wanted attaches replaced stays = let is = rw attaches at replaced in let still = rw is at stays in rw still (as_wanted [] wanted)
partly_flushed (Some (Some bytes)) middle new now n wanted attaches replaced stays = let is = rw attaches at replaced in let still = rw is at stays in rw still (as_wanted bytes wanted)
