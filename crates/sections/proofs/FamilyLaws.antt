-- The bytes of a row by its family: the writer of a family stores them, and an accepted row's size is their length.
use Rattle.std.specs.Prelude.{Ok, Some, Option}
use Rattle.fields.specs.declared.Shape.{Shape}
use Prim.Native.Nat.{ℕ}
use native.Mathlib.Omega.{arith}
use mathlib.Core.Path.{◌≡◌, refl, ap, ◌∙◌}
use mathlib.Core.Bool.{Bool, true, false, cond}
use mathlib.Core.List.{List, [], ◌∷◌}
use lib.Dec.{eqb, ltb}
use lib.ListN.{length, drop, length-append}
use Rattle.fields.specs.Answer.{Answer, Refused}
use Rattle.fields.specs.declared.Field.TheVariants as field
use Rattle.fields.specs.declared.Refusal.TheVariants as refusal
use Rattle.fields.specs.Words.{word, wide}
use Rattle.writing.specs.Binary.{bytes}
use Rattle.writing.specs.Row.{measured_found, measured_row, row_bytes, write_row}
use Rattle.fields.specs.Shape.{widths, row_width}
use Rattle.fields.specs.Table.{shape_in}
use Rattle.writing.specs.Write.{stored, written}
use Rattle.writing.proofs.AnswerLaws.{Sized}
use Rattle.writing.proofs.GroupLaws.{choice_element}
use Rattle.writing.proofs.RowLaws.{only-groups}
use Rattle.writing.proofs.TableLaws.{strings, written-right}
use Rattle.writing.proofs.WholeLaws.{accepted, size_is_length}
use Rattle.types.specs.Write as types
use Rattle.types.specs.Write.{measured_type, write_type}
use Rattle.imports.specs.Write as imports
use Rattle.imports.specs.Write.{measured_import, write_import}
use Rattle.canonicals.specs.Table.{table, lift_shape, lift}
use Rattle.canonicals.specs.Write.{measured_canonical, canonical_bytes, write_canonical}
use Rattle.instances.specs.Write as instances
use Rattle.instances.specs.Write.{measured_core_instance, measured_instance, write_core_instance, write_instance}
use Rattle.sections.specs.declared.Phase.{Phase}
use Rattle.sections.specs.declared.Section.{Section}
use Rattle.sections.specs.Section.{Entries, Types, Canonicals, Imports, CoreInstances, Instances, None, entries_of, measured_by, bytes_by, write_by, measured_family, family_bytes, write_family}
use Rattle.sections.specs.Steps.{refuse, wrote}
use Rattle.numbers.proofs.Impossible.{impossible}

pub family-stored : (family : ℕ) (row pool body : List ℕ) (at : ℕ)
    → write_family family row pool body at ≡ stored (measured_family family row pool) (family_bytes family pool row) body at
unfolding write_family measured_family family_bytes write_type measured_type write_canonical write_import measured_import write_core_instance measured_core_instance write_instance measured_instance write_row stored
family-stored family row pool body at = go (entries_of family)
  where
    go : (x : Entries) → write_by x row pool body at ≡ stored (measured_by x row pool) (bytes_by x pool row) body at
    go Types = refl
    go Canonicals = refl
    go Imports = refl
    go CoreInstances = refl
    go Instances = refl
    go None = refl

-- ---- LIMIT: a row's writer tests for it as the row's step does

abbrev limited : {X : Type 0} → List ℕ → List ℕ → X → X → X
limited row pool limit x = cond (ltb 16384 (length row)) limit (cond (ltb 65536 (length pool)) limit x)

row-limited : (found : Option Shape) (row pool : List ℕ) → limited row pool (Refused refusal.Limit 0) (measured_row found row pool) ≡ measured_row found row pool
unfolding measured_row
row-limited found row pool =
    go (ltb 16384 (length row)) (ltb 65536 (length pool)) (cond (eqb (length row) 0) (Refused refusal.Row 0) (measured_found found row pool))
  where
    twice : Bool → Bool → Answer → Answer
    twice x y a = cond x (Refused refusal.Limit 0) (cond y (Refused refusal.Limit 0) a)

    go : (x y : Bool) (a : Answer) → twice x y (twice x y a) ≡ twice x y a
    go true y a = refl
    go false true a = refl
    go false false a = refl

family-limited : (family : ℕ) (row pool : List ℕ)
    → limited row pool (Refused refusal.Limit 0) (measured_family family row pool) ≡ measured_family family row pool
unfolding measured_family measured_type measured_canonical measured_import measured_core_instance measured_instance
family-limited family row pool = go (entries_of family)
  where
    none : (x y : Bool) → cond x (Refused refusal.Limit 0) (cond y (Refused refusal.Limit 0) (Refused refusal.Limit 0)) ≡ Refused refusal.Limit 0
    none true y = refl
    none false true = refl
    none false false = refl

    go : (x : Entries) → limited row pool (Refused refusal.Limit 0) (measured_by x row pool) ≡ measured_by x row pool
    go Types = row-limited _ row pool
    go Canonicals = row-limited _ row pool
    go Imports = row-limited _ row pool
    go CoreInstances = row-limited _ row pool
    go Instances = row-limited _ row pool
    go None = none (ltb 16384 (length row)) (ltb 65536 (length pool))

pub wrote-limited : (s : Section) (count : ℕ) (phase : Phase) (row pool body : List ℕ)
    → limited row pool (refuse s refusal.Limit body) (wrote s count phase (write_family s.family row pool body s.used))
    ≡ wrote s count phase (write_family s.family row pool body s.used)
unfolding stored
wrote-limited s count phase row pool body =
    rw (family-stored s.family row pool body s.used)
    (go (ltb 16384 (length row)) (ltb 65536 (length pool)) (measured_family s.family row pool)
    ∙ ap (λ a. wrote s count phase (stored a (family_bytes s.family pool row) body s.used)) (family-limited s.family row pool))
  where
    go : (x y : Bool) (a : Answer)
        → cond x (refuse s refusal.Limit body)
        (cond y (refuse s refusal.Limit body) (wrote s count phase (stored a (family_bytes s.family pool row) body s.used)))
        ≡ wrote s count phase
        (stored (cond x (Refused refusal.Limit 0) (cond y (Refused refusal.Limit 0) a)) (family_bytes s.family pool row) body s.used)
    go true y a = refl
    go false true a = refl
    go false false a = refl

-- ---- sizes

row-size : (found : Option Shape) (row pool : List ℕ) (size : ℕ) → measured_row found row pool ≡ Ok size → size ≡ length (row_bytes found pool row)
unfolding row_bytes
row-size found row pool size e = let a = accepted found row pool size e in rw a.is (size_is_length a.sized)

-- a lift has its bytes in another order than its words, and as many
lift-length : (row pool : List ℕ) (size : ℕ) → Sized lift_shape row 1 pool size → length (written lift_shape pool row 1) ≡ length (lift (drop 1 row))
unfolding strings widths row_width wide bytes lift
lift-length [] pool size k = absurd (omega (arith, k.width))
lift-length (l ∷ []) pool size k = absurd (omega (arith, k.width))
lift-length (l ∷ f ∷ []) pool size k = absurd (omega (arith, k.width))
lift-length (l ∷ f ∷ t ∷ []) pool size k = absurd (omega (arith, k.width))
lift-length (l ∷ f ∷ t ∷ n ∷ os) pool size k =
    ap length (written-right lift_shape pool (l ∷ f ∷ t ∷ n ∷ os) 1 k.end size k.judges)
    ∙ simp length-append (omega (arith, ap length (only-groups pool (field.Choice ∷ field.Nothing ∷ []) _ (choice_element pool) n os)))

canonical_size : (row pool : List ℕ) (size : ℕ) → measured_canonical row pool ≡ Ok size → size ≡ length (canonical_bytes pool row)
unfolding measured_canonical canonical_bytes
canonical_size row pool size e = go (eqb (word row 0) 256) e
  where
    go : (b : Bool) → measured_row (cond b (Some lift_shape) (shape_in table (word row 0))) row pool ≡ Ok size
        → size ≡ length (cond b (lift (drop 1 row)) (row_bytes (shape_in table (word row 0)) pool row))
    go true e =
        let a = accepted (Some lift_shape) row pool size e in
        let same : a.shape ≡ lift_shape = cc in
        let k : Sized lift_shape row 1 pool size = rw same at a.sized in
        size_is_length k ∙ lift-length row pool size k
    go false e = row-size (shape_in table (word row 0)) row pool size e

pub family-size : (family : ℕ) (row pool : List ℕ) (size : ℕ) → measured_family family row pool ≡ Ok size
    → size ≡ length (family_bytes family pool row)
unfolding measured_family family_bytes measured_type measured_import measured_core_instance measured_instance
family-size family row pool size e = go (entries_of family) e
  where
    go : (x : Entries) → measured_by x row pool ≡ Ok size → size ≡ length (bytes_by x pool row)
    go Types e = row-size (types.shape_of (word row 0)) row pool size e
    go Canonicals e = canonical_size row pool size e
    go Imports e = row-size (imports.shape_of (word row 0)) row pool size e
    go CoreInstances e = row-size (instances.core_shape_of (word row 0)) row pool size e
    go Instances e = row-size (instances.shape_of (word row 0)) row pool size e
    go None e = impossible cc
