-- The proof of `specs/Sizes.antt`: the bound is that of the families' tables (`no_larger`), and the largest row is seen name by name.
use Rattle.std.specs.Prelude.{Ok}
use Prim.Native.Nat.{ℕ, zero, suc, ◌+◌, ◌*◌, ◌^◌, ◌≤◌, ◌<◌}
use native.Mathlib.Nat.{suc-mul}
use native.Mathlib.Omega.{arith}
use mathlib.Core.Path.{◌≡◌, refl, ap, ◌∙◌}
use mathlib.Core.Bool.{true}
use mathlib.Core.List.{List, [], ◌∷◌}
use borrow.Author.Tests.{le-leb}
use lib.ListN.{length, replicate, length-append, length-replicate}
use lib.Seq.{take_all}
use Rattle.numbers.specs.Bytes.{Bytes}
use Rattle.numbers.specs.Leb.{bytes_of, unsigned}
use Rattle.numbers.specs.Text.{text, rest, step}
use Rattle.numbers.proofs.TextLaws.{text-append}
use Rattle.numbers.proofs.Impossible.{impossible}
use Rattle.fields.specs.declared.Field.TheVariants as field
use Rattle.fields.specs.Flaw.{Right}
use Rattle.fields.specs.declared.Shape.{Shape}
use Rattle.fields.specs.Shape.{repeated, widths, row_width}
use Rattle.fields.specs.Table.{elements, shape_in}
use Rattle.fields.specs.Words.{Words, wide}
use Rattle.writing.specs.Binary.{name}
use Rattle.writing.specs.Judge.{named, flaw}
use Rattle.writing.specs.Largest.{largest_row}
use Rattle.writing.specs.Write.{measured}
use Rattle.writing.specs.inside.Rows.{Rights}
use Rattle.writing.proofs.AnswerLaws.{measured_sized}
use Rattle.writing.proofs.GroupLaws.{name_element}
use Rattle.writing.proofs.LargestLaws.{bounded, no_larger}
use Rattle.writing.proofs.RowLaws.{counted_known}
use Rattle.writing.proofs.SizeLaws.{inside-length}
use Rattle.types.specs.Table.{label}
use Rattle.types.specs.Write.{head_shape, result_shape, measured_type}
use Rattle.types.proofs.Rows.{type_row}
use Rattle.types.proofs.StepLaws.{step_row}
use Rattle.imports.proofs.Rows.{import-row}
use Rattle.canonicals.proofs.Rows.{canonical_no_larger}
use Rattle.instances.proofs.Rows.{core_instance-row, instance_row}
use Rattle.sections.specs.Section.{Entries, Types, Canonicals, Imports, CoreInstances, Instances, None, entries_of, measured_by, measured_family}
use Rattle.sections.proofs.FamilyLaws.{family-size}
use Rattle.claims.specs.Sizes.{names, largest_flags, largest_pool, NoRowTooBig}

-- ---- the bound

row_bound : (family : ℕ) (row pool : List ℕ) (size : ℕ) → measured_family family row pool ≡ Ok size → size ≤ largest_row
unfolding measured_family
row_bound family row pool size e = go (entries_of family) e
  where
    go : (x : Entries) → measured_by x row pool ≡ Ok size → size ≤ largest_row
    go Types e = (type_row row pool size e).no_larger
    go Canonicals e = canonical_no_larger row pool size e
    go Imports e = (import-row row pool size e).no_larger
    go CoreInstances e = (core_instance-row row pool size e).no_larger
    go Instances e = (instance_row row pool size e).no_larger
    go None e = impossible cc

-- words that stand behind no kind are those of a row
step_bound : (s : Shape) → bounded s ≡ true → (words pool : List ℕ) (size : ℕ) → measured s words 0 pool ≡ Ok size
    → (row_width s words 0 ≡ length words → length words ≤ 16384 → length words < 16384) → size ≤ largest_row
step_bound s t words pool size e short =
    let k = measured_sized s words 0 pool refl size e in
    no_larger s t (0 ∷ words) pool size (step_row s pool words k (short k.width k.short)).0

head_bound : (words pool : List ℕ) (size : ℕ) → measured head_shape words 0 pool ≡ Ok size → size ≤ largest_row
unfolding row_width widths wide
head_bound words pool size e = step_bound head_shape refl words pool size e (λ w h. omega (arith, w, h))

result_bound : (tag x : ℕ) (size : ℕ) → measured result_shape (tag ∷ x ∷ []) 0 [] ≡ Ok size → size ≤ largest_row
unfolding widths wide
result_bound tag x size e = step_bound result_shape refl (tag ∷ x ∷ []) [] size e (λ w h. omega arith)

-- ---- the largest row

letters_text : (n : ℕ) → text (replicate n 0x61) ≡ true
unfolding text rest step
letters_text zero = refl
letters_text (suc n) = text-append (0x61 ∷ []) (replicate n 0x61) refl (letters_text n)

letters_bytes : (n : ℕ) → Bytes (replicate n 0x61)
letters_bytes zero i = omega arith
letters_bytes (suc n) zero = omega arith
letters_bytes (suc n) (suc i) = letters_bytes n i

module _ (m : ℕ) where
  names_words : m < 2 ^ 32 → (n : ℕ) → Words (names n m)
  unfolding names
  names_words h zero i = omega arith
  names_words h (suc n) zero = omega arith
  names_words h (suc n) (suc zero) = h
  names_words h (suc n) (suc (suc i)) = names_words h n i

  names_count : (n : ℕ) → length (names n m) ≡ n * 2
  unfolding names
  names_count zero = omega arith
  names_count (suc n) = omega (arith, names_count n)

  module _ (pool : List ℕ) (e : length pool ≡ m) (t : text pool ≡ true) where
    name_right : (ws : List ℕ) → flaw pool field.Name (0 ∷ m ∷ ws) ≡ Right
    unfolding flaw named
    name_right ws = simp (le-leb (0 + m) (length pool) (omega arith), take_all m pool (omega arith), t)

    names_right : (n : ℕ) → Rights pool (repeated n (field.Name ∷ field.Nothing ∷ [])) (names n m)
    unfolding Rights repeated names flaw wide
    names_right zero = tt
    names_right (suc n) = (name_right (names n m), (refl, names_right n))

    names_long : (n : ℕ) → length (elements n 2 (label pool) (names n m)) ≡ n * (length (unsigned m) + m)
    unfolding elements names
    names_long zero = omega arith
    names_long (suc n) =
        omega (
          arith,
          length-append (name pool 0 m) (elements n 2 (label pool) (names n m)),
          inside-length pool 0 m (omega arith),
          names_long n,
          suc-mul n (length (unsigned m) + m),
        )

    flags_measured : (n : ℕ) → m ≤ 65536 → n ≤ 8191
        → measured_type (7 ∷ n ∷ names n m) pool ≡ Ok (1 + (length (unsigned n) + n * (length (unsigned m) + m)))
    unfolding measured_type shape_in widths wide
    flags_measured n small few =
        counted_known 0x6e field.Name field.Nothing {w = 2} refl (7 ∷ n ∷ names n m) pool (name_element pool) (omega arith)
        (omega (arith, names_count n)) (omega (arith, names_count n)) refl
        (record { right = names_right n; size = omega (arith, names_long n) })

largest_words : Words largest_flags
unfolding largest_flags
largest_words zero = omega arith
largest_words (suc zero) = omega arith
largest_words (suc (suc i)) = names_words 65536 (omega arith) 8191 i

largest_length : length largest_pool ≡ 65536
unfolding largest_pool
largest_length = length-replicate {A = ℕ} 65536 0x61

largest_text : text largest_pool ≡ true
unfolding largest_pool
largest_text = letters_text 65536

largest_bytes : Bytes largest_pool
unfolding largest_pool
largest_bytes = letters_bytes 65536

largest_size : 1 + (length (unsigned 8191) + 8191 * (length (unsigned 65536) + 65536)) ≡ largest_row
unfolding bytes_of
largest_size = refl

largest_met : measured_family 7 largest_flags largest_pool ≡ Ok largest_row
unfolding measured_family largest_flags
largest_met =
    flags_measured 65536 largest_pool largest_length largest_text 8191 (omega arith) (omega arith) ∙ ap Ok largest_size

pub no_row_too_big : NoRowTooBig
no_row_too_big =
    record {
      rows = λ family row pool size e. (family-size family row pool size e, row_bound family row pool size e);
      head = head_bound;
      result = result_bound;
      reckoned = refl;
      below = omega arith;
      words = largest_words;
      bytes = largest_bytes;
      met = largest_met;
    }
