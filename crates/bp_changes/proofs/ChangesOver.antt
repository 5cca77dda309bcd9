-- A change of an image that means the same as a first one is one of the first: of the bytes of a file, or of a name that comes to another directory.
use Rattle.std.proofs.Common.{◌≡◌, ◌⊎◌, ℕ, ◌/◌, ◌<◌, sym, ◌∙◌, subst, inl, inr}
use Rattle.bp_layout.specs.Words.{Image}
use Rattle.bp_layout.specs.Directory.{entry_count}
use Rattle.bp_layout.specs.Inode.{size_of}
use Rattle.bp_layout.specs.Reached.{IsReached}
use Rattle.bp_layout.specs.WellFormed.{IsWellFormed}
use Rattle.bp_changes.specs.Effects.{ChangesFile, CarriesEntry, IsNewEntry, IsOldEntry}
use Rattle.bp_changes.specs.SameMeaning.{SameMeaning}
use Rattle.bp_changes.proofs.ReachedOn.{names_on, reached_on, trees_over}
use Rattle.bp_changes.proofs.SameMeaning.{reached-back, names-back, name-same}

module _ (old mid new : Image) (same : SameMeaning old mid) where
  on : (t : ℕ) → IsReached old t → IsReached mid t
  on = reached_on old mid same

module _ (old mid new : Image) (x : ℕ) (wf : IsWellFormed old) (same : SameMeaning old mid) (sizes : (u : ℕ) → IsReached old u → size_of mid u ≡ size_of old u) where
  pub changes_over : ChangesFile mid new x → ChangesFile old new x
  changes_over changes = record {
    reached = here;
    is_file = sym (same.kind x here) ∙ changes.is_file;
    trees = trees_over old mid new same changes.trees;
    kind = λ t r. changes.kind t (on old mid new same t r) ∙ same.kind t r;
    attributes = λ t r. changes.attributes t (on old mid new same t r) ∙ same.attributes t r;
    size = λ t r other. changes.size t (on old mid new same t r) other ∙ sizes t r;
    ino = λ i s r kind low. changes.ino i s (on old mid new same i r) (same.kind i r ∙ kind) (rw (sizes i r) low) ∙ same.ino i s r kind low;
    entry = λ i s j f r n few. changes.entry i s j f (on old mid new same i r) (names_on old mid same i s j r n) few ∙ same.entry i s j f r n few;
    bytes = λ i o r other kind low. changes.bytes i o (on old mid new same i r) other (same.kind i r ∙ kind) (rw (sizes i r) low) ∙ same.bytes i o r kind low;
  }
    where
      here : IsReached old x
      here = reached-back old mid wf same x changes.reached

module _ (old mid new : Image) (wf : IsWellFormed old) (same : SameMeaning old mid) (sizes : (u : ℕ) → IsReached old u → size_of mid u ≡ size_of old u) where
  pub carries_over : (i s k r j : ℕ) → CarriesEntry mid new i s k r j → CarriesEntry old new i s k r j
  carries_over i s k r j carries = record {
    reached = source;
    names = names-back old mid wf same i s j source carries.names;
    target = target;
    trees = trees_over old mid new same carries.trees;
    kind = λ u q. carries.kind u (on old mid new same u q) ∙ same.kind u q;
    attributes = λ u q. carries.attributes u (on old mid new same u q) ∙ same.attributes u q;
    size = λ u q other. carries.size u (on old mid new same u q) other ∙ sizes u q;
    directory_size = carries.directory_size;
    slots = λ x low. slots x (carries.slots x low);
    emptied = carries.emptied;
    entry = carries.entry;
    back = λ u x l q n. back u x l q (carries.back u x l (on old mid new same u q) n);
    stay = λ u x l q n other. carries.stay u x l (on old mid new same u q) (names_on old mid same u x l q n) other;
    same_names = λ u x l q n other. carries.same_names u x l (on old mid new same u q) (names_on old mid same u x l q n) other ∙ name-same old mid wf same u x l q n;
    name = carries.name;
    new_name = λ x l n clash. carries.new_name x l (names_on old mid same k x l target n) (name-same old mid wf same k x l target n ∙ clash);
    bytes = λ u o q kind low. carries.bytes u o (on old mid new same u q) (same.kind u q ∙ kind) (rw (sizes u q) low) ∙ same.bytes u o q kind low;
  }
    where
      source : IsReached old i
      source = reached-back old mid wf same i carries.reached

      target : IsReached old k
      target = reached-back old mid wf same k carries.target

      slots : (x : ℕ) → (x < entry_count mid k) ⊎ (x ≡ r) → (x < entry_count old k) ⊎ (x ≡ r)
      slots x (inl low) = inl (subst (λ z. x < z / 256) (sizes k target) low)
      slots x (inr e) = inr e

      back : (u x l : ℕ) → IsReached old u → IsNewEntry k r j u x l ⊎ IsOldEntry mid i s u x l → IsNewEntry k r j u x l ⊎ IsOldEntry old i s u x l
      back u x l q (inl e) = inl e
      back u x l q (inr e) = inr (record { before = names-back old mid wf same u x l q e.before; other = e.other })
