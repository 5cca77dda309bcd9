-- Attributes of inodes: when two images have the same ones, and when an inode has none.
use Rattle.std.proofs.Common.{◌≡◌, ℕ, zero, suc, ◌+◌, ◌%◌, ◌^◌, ◌≤◌, ◌<◌, ◌∷◌, [], false, refl, sym, ◌∙◌, ap, arith, if◌then◌else◌}
use Rattle.bp_limits.specs.CallLimits.{allows_attributes}
use Rattle.bp_limits.specs.Limits.{attribute_field, inode_fields}
use Rattle.bp_limits.specs.declared.version.Version.{Version}
use Rattle.bp_limits.specs.declared.version.Version.TheVariants.{One, Two, Three}
use Rattle.bp_layout.specs.Formatted.{version_of}
use Rattle.bp_layout.specs.Inode.{attribute, attributes_of, inode_word}
use Rattle.bp_layout.specs.Paths.{no_attributes}
use Rattle.bp_layout.specs.Words.{Image}

-- no word of an inode from the attributes on has a meaning in a version without attributes
pub few_fields : (version : Version) → allows_attributes version ≡ false → inode_fields version ≤ attribute_field
few_fields One none = omega arith
few_fields Two none = omega arith
few_fields Three none = absurd (cc)

-- attribute k by the version
abbrev pub attribute_by : Version → ℕ → ℕ
attribute_by version w = if allows_attributes version then w % 2 ^ 64 else 0

attribute_same : (version : Version) (old new k : ℕ) → k < 3 → ((f : ℕ) → attribute_field ≤ f → f < inode_fields version → f ≡ attribute_field + k → new ≡ old) →
    attribute_by version new ≡ attribute_by version old
attribute_same One old new k low same = refl
attribute_same Two old new k low same = refl
attribute_same Three old new k low same = ap (λ w. w % 2 ^ 64) (same (attribute_field + k) (omega arith) (omega (arith, low)) refl)

-- an inode has the same attributes in both images if the words that have a meaning are the same
pub attributes_alike : (old new : Image) (t : ℕ) → version_of new ≡ version_of old →
    ((i f : ℕ) → t ≡ suc i → attribute_field ≤ f → f < inode_fields (version_of old) → inode_word new (suc i) f ≡ inode_word old (suc i) f) →
    attributes_of new t ≡ attributes_of old t
attributes_alike old new zero version same = refl
attributes_alike old new (suc i) version same =
    let each : (k : ℕ) → k < 3 → attribute new (suc i) k ≡ attribute old (suc i) k =
    λ k low. ap (λ v. attribute_by v (inode_word new (suc i) (attribute_field + k))) version
    ∙ attribute_same (version_of old) (inode_word old (suc i) (attribute_field + k)) (inode_word new (suc i) (attribute_field + k)) k low
    (λ f least most is. ap (λ g. inode_word new (suc i) g) (sym is) ∙ same i f refl least most ∙ ap (λ g. inode_word old (suc i) g) is) in
    λ n. each 0 (omega arith) n ∷ each 1 (omega arith) n ∷ each 2 (omega arith) n ∷ []

attribute_none : (version : Version) (w k : ℕ) → k < 3 → ((f : ℕ) → attribute_field ≤ f → f < inode_fields version → f ≡ attribute_field + k → w ≡ 0) → attribute_by version w ≡ 0
attribute_none One w k low none = refl
attribute_none Two w k low none = refl
attribute_none Three w k low none = ap (λ v. v % 2 ^ 64) (none (attribute_field + k) (omega arith) (omega (arith, low)) refl)

-- an inode has no attributes if its words for them that have a meaning are 0
pub attributes_none : (image : Image) (t : ℕ) →
    ((i f : ℕ) → t ≡ suc i → attribute_field ≤ f → f < inode_fields (version_of image) → inode_word image (suc i) f ≡ 0) → attributes_of image t ≡ no_attributes
attributes_none image zero none = refl
attributes_none image (suc i) none =
    let each : (k : ℕ) → k < 3 → attribute image (suc i) k ≡ 0 =
    λ k low. attribute_none (version_of image) (inode_word image (suc i) (attribute_field + k)) k low
    (λ f least most is. ap (λ g. inode_word image (suc i) g) (sym is) ∙ none i f refl least most) in
    λ n. each 0 (omega arith) n ∷ each 1 (omega arith) n ∷ each 2 (omega arith) n ∷ []
