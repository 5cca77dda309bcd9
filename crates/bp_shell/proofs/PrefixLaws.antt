-- A new file system is one in its first two blocks, and what stood after them.
use Rattle.std.proofs.Common.{◌≡◌, ◌∙◌, ℕ, ◌≤◌, List, [], ◌∷◌, ◌++◌, ap, arith, length, refl, set}
use Rattle.std.proofs.lemmas.List.{length-set, set-append_left}
use Rattle.pm_region.specs.Memory.{Memory, Adds, current_words}
use Rattle.bp_limits.specs.declared.version.Version.{Version}
use Rattle.bp_limits.specs.declared.version.Version.TheVariants.{One, Two, Three}
use Rattle.bp_layout.specs.Words.{Image}
use Rattle.bp_layout.specs.Stores.{after_stores}
use Rattle.bp_layout.specs.Format.{format_stores, formatted}
use Rattle.bp_layout.proofs.LastValue.{AllWithinImage}
use Rattle.bp_mount.specs.Laid.{format_events}

-- stores in a prefix leave what stands after it
after_stores-append : (prefix back : Image) (stores : List (ℕ × ℕ)) → AllWithinImage (length prefix) stores → after_stores (prefix ++ back) stores ≡ after_stores prefix stores ++ back
after_stores-append prefix back [] within = refl
after_stores-append prefix back (store ∷ stores) within =
    ap (λ (image : Image). after_stores image stores) (set-append_left prefix back store.0 store.1 within.0)
    ∙ after_stores-append (set prefix store.0 store.1) back stores (rw (length-set prefix store.0 store.1) within.1)

within_prefix : (version : Version) (blocks size : ℕ) → 1024 ≤ size → AllWithinImage size (format_stores version blocks)
within_prefix One blocks size two = (omega arith, (omega arith, (omega arith, (omega arith, (omega arith, (omega arith, (omega arith, (omega arith, tt))))))))
within_prefix Two blocks size two = (omega arith, (omega arith, (omega arith, (omega arith, (omega arith, (omega arith, (omega arith, (omega arith, (omega arith, (omega arith, tt))))))))))
within_prefix Three blocks size two =
    (omega arith, (omega arith, (omega arith, (omega arith, (omega arith, (omega arith, (omega arith, (omega arith, (omega arith, (omega arith, (omega arith, (omega arith, (omega arith, (omega arith, (omega arith, tt)))))))))))))))

pub formatted-append : (prefix back : Image) (version : Version) (blocks : ℕ) → 1024 ≤ length prefix → formatted (prefix ++ back) version blocks ≡ formatted prefix version blocks ++ back
formatted-append prefix back version blocks two = after_stores-append prefix back (format_stores version blocks) (within_prefix version blocks (length prefix) two)

-- the words after the stores of a format
pub formatted_words : (version : Version) (blocks : ℕ) (old new : Memory) → old.events ≡ [] → Adds old new (format_events version blocks) → current_words new ≡ formatted old.base version blocks
formatted_words One blocks old new fresh adds = rw (adds, fresh) refl
formatted_words Two blocks old new fresh adds = rw (adds, fresh) refl
formatted_words Three blocks old new fresh adds = rw (adds, fresh) refl
