-- The bytes of an accepted row are those that its production says, in every family, and they are bytes; and so are those of the rows
-- of a sheet.
use Rattle.std.specs.Prelude.{Some, None, Ok, Err}
use Prim.Native.Nat.{ℕ, ◌+◌}
use native.Mathlib.Omega.{arith}
use mathlib.Core.Path.{◌≡◌, refl, ap, ◌∙◌, subst}
use mathlib.Core.Bool.{Bool, true, false, cond}
use mathlib.Core.List.{List, [], ◌∷◌, ◌++◌}
use borrow.Author.Tests.{eqb-true, eq-eqb}
use lib.Dec.{eqb, leb}
use lib.ListN.{drop}
use Rattle.numbers.specs.Bytes.{Bytes}
use Rattle.numbers.specs.Leb.{bytes_of, unsigned}
use Rattle.numbers.proofs.LebLaws.{all-bytes}
use Rattle.fields.specs.Answer.{Answer}
use Rattle.fields.specs.declared.Field.TheVariants as field
use Rattle.fields.specs.Leaf.{Fine, Bad}
use Rattle.fields.specs.declared.Refusal.TheVariants as refusal
use Rattle.fields.specs.Words.{word, Words, wide}
use Rattle.writing.specs.Agree.{Row}
use Rattle.writing.specs.Binary.{canonopt, bytes}
use Rattle.writing.specs.Row.{measured_row, row_bytes}
use Rattle.fields.specs.Shape.{plan, widths, row_width}
use Rattle.fields.specs.Table.{Line, line, shape_in}
use Rattle.fields.specs.Walk.{outs}
use Rattle.writing.specs.Write as shapes
use Rattle.writing.specs.Write.{writer}
use Rattle.writing.proofs.AnswerLaws.{Sized}
use Rattle.writing.proofs.ByteLaws.{ByteList, some, append-bytes, to_bytes, of_bytes}
use Rattle.writing.proofs.GroupLaws.{choice_element}
use Rattle.writing.proofs.RowLaws.{only-groups}
use Rattle.writing.proofs.TableLaws.{strings, written-right}
use Rattle.writing.proofs.TableRows.{every, row_of}
use Rattle.writing.proofs.WholeLaws.{accepted}
use Rattle.types.proofs.Rows.{type_row}
use Rattle.imports.proofs.Rows.{import-row}
use Rattle.canonicals.specs.Table as canonicalTable
use Rattle.canonicals.specs.Table.{lift_shape, lift}
use Rattle.canonicals.specs.Write.{measured_canonical, canonical_bytes}
use Rattle.canonicals.proofs.Rows.{canonical_row}
use Rattle.instances.proofs.Rows.{core_instance-row, instance_row}
use Rattle.sections.specs.Section.{Entries, Types, Canonicals, Imports, CoreInstances, Instances, None, entries_of, measured_by, bytes_by, measured_family, family_bytes}
use Rattle.sheets.specs.Sheet.{tried, tries, joined}
use Rattle.claims.specs.Valid.{line_of, production_by, production, productions, beside}
use Rattle.numbers.proofs.Impossible.{impossible}

-- the bytes of a row are its production, and bytes
pub record Right (row pool bs production : List ℕ) : Type 0 where
  pub as_production : bs ≡ production
  pub are_bytes : Words row → Bytes pool → Bytes bs

of_line : {ls : List Line} {row pool : List ℕ} {size : ℕ} → Row ls row pool size
    → Right row pool (row_bytes (shape_in ls (word row 0)) pool row) (line_of ls pool row)
of_line r = record { as_production = r.as_production; are_bytes = r.are_bytes }

-- ---- a lift, which is no line of the table, and is written as it is defined

-- a number's bytes are bytes
pub leb_bytes : (k n : ℕ) → ByteList (bytes_of 128 k n)
leb_bytes k n = of_bytes (bytes_of 128 k n) (all-bytes 128 k n (omega arith))

-- and so are those behind others
back-bytes : (a : List ℕ) {b : List ℕ} → ByteList (a ++ b) → ByteList b
back-bytes [] f = f
back-bytes (x ∷ a) (some h f) = back-bytes a f

-- what the shape of a lift writes, as a line of a table
abbrev lifts : List Line
lifts = line 256 lift_shape (λ pool ws. outs (writer pool) (plan lift_shape) 1 ws) ∷ []

lift-written : (row pool : List ℕ) (size : ℕ) → word row 0 ≡ 256 → measured_row (Some lift_shape) row pool ≡ Ok size → Words row → Bytes pool
    → ByteList (shapes.written lift_shape pool row 1)
unfolding every shape_in row_bytes widths wide
lift-written row pool size k e fw fp =
    let t : eqb (word row 0) 256 ≡ true = eq-eqb _ _ k in
    let r = row_of lifts ((λ pool row e m r. refl), tt) refl row pool size (ap (λ b. measured_row (cond b (Some lift_shape) None) row pool) t ∙ e) in
    of_bytes _ (subst (λ b. Bytes (row_bytes (cond b (Some lift_shape) None) pool row)) t (r.are_bytes fw fp))

-- a lift's bytes: the options stand last in what the shape writes, and the other parts are numbers
lift-behind : (row pool : List ℕ) (size : ℕ) → Sized lift_shape row 1 pool size → ByteList (shapes.written lift_shape pool row 1)
    → ByteList (lift (drop 1 row))
unfolding strings widths row_width wide bytes lift
lift-behind [] pool size k f = absurd (omega (arith, k.width))
lift-behind (l ∷ []) pool size k f = absurd (omega (arith, k.width))
lift-behind (l ∷ c ∷ []) pool size k f = absurd (omega (arith, k.width))
lift-behind (l ∷ c ∷ t ∷ []) pool size k f = absurd (omega (arith, k.width))
lift-behind (l ∷ c ∷ t ∷ n ∷ os) pool size k f =
    let same = only-groups pool (field.Choice ∷ field.Nothing ∷ []) (λ vs. canonopt (word vs 0) (word vs 1)) (choice_element pool) n os in
    let whole = written-right lift_shape pool (l ∷ c ∷ t ∷ n ∷ os) 1 k.end size k.judges in
    let options = subst ByteList same (back-bytes (unsigned n) (back-bytes (unsigned t) (back-bytes (0x00 ∷ 0x00 ∷ unsigned c) (subst ByteList whole f)))) in
    some {b = 0x00} (omega arith)
    (some {b = 0x00} (omega arith) (append-bytes (leb_bytes 5 c) (append-bytes (append-bytes (leb_bytes 5 n) options) (leb_bytes 5 t))))

lift-bytes : (row pool : List ℕ) (size : ℕ) → word row 0 ≡ 256 → measured_row (Some lift_shape) row pool ≡ Ok size → Words row → Bytes pool
    → ByteList (lift (drop 1 row))
lift-bytes row pool size k e fw fp =
    let a = accepted (Some lift_shape) row pool size e in
    let same : a.shape ≡ lift_shape = cc in
    let sized : Sized lift_shape row 1 pool size = rw same at a.sized in
    lift-behind row pool size sized (lift-written row pool size k e fw fp)

canonical_right : (row pool : List ℕ) (size : ℕ) → measured_canonical row pool ≡ Ok size
    → Right row pool (canonical_bytes pool row) (production_by Canonicals pool row)
unfolding measured_canonical canonical_bytes
canonical_right row pool size e = go (eqb (word row 0) 256) refl e
  where
    go : (b : Bool) → eqb (word row 0) 256 ≡ b → measured_row (cond b (Some lift_shape) (shape_in canonicalTable.table (word row 0))) row pool ≡ Ok size
        → Right row pool (cond b (lift (drop 1 row)) (row_bytes (shape_in canonicalTable.table (word row 0)) pool row))
        (cond b (lift (drop 1 row)) (line_of canonicalTable.table pool row))
    go true t e = record { as_production = refl; are_bytes = λ fw fp. to_bytes (lift-bytes row pool size (eqb-true _ _ t) e fw fp) }
    go false t e = of_line (canonical_row row pool size e)

-- ---- every family

pub family-right : (family : ℕ) (row pool : List ℕ) (size : ℕ) → measured_family family row pool ≡ Ok size
    → Right row pool (family_bytes family pool row) (production family pool row)
unfolding measured_family family_bytes production
family-right family row pool size e = go (entries_of family) e
  where
    go : (x : Entries) → measured_by x row pool ≡ Ok size → Right row pool (bytes_by x pool row) (production_by x pool row)
    go Types e = of_line (type_row row pool size e)
    go Canonicals e = canonical_right row pool size e
    go Imports e = of_line (import-row row pool size e)
    go CoreInstances e = of_line (core_instance-row row pool size e)
    go Instances e = of_line (instance_row row pool size e)
    go None e = impossible cc

pub family-production : (family : ℕ) (row pool : List ℕ) (size : ℕ) → measured_family family row pool ≡ Ok size
    → family_bytes family pool row ≡ production family pool row
family-production family row pool size e = (family-right family row pool size e).as_production

-- rows that were all taken are written as their productions say
pub joined-productions : (family : ℕ) (pool : List ℕ) (room : ℕ) (rows : List (List ℕ)) (r used last all : ℕ)
    → tries family pool room rows r used ≡ Fine last all → joined family pool rows ≡ productions family (beside pool rows)
unfolding tries joined productions
joined-productions family pool room [] r used last all e = refl
joined-productions family pool room (row ∷ rows) r used last all e =
    go (measured_family family row pool) refl e (λ u. joined-productions family pool room rows (r + 1) u last all)
  where
    go : (a : Answer) → measured_family family row pool ≡ a → tried a room used r (λ u. tries family pool room rows (r + 1) u) ≡ Fine last all
        → ((u : ℕ) → tries family pool room rows (r + 1) u ≡ Fine last all → joined family pool rows ≡ productions family (beside pool rows))
        → family_bytes family pool row ++ joined family pool rows ≡ production family pool row ++ productions family (beside pool rows)
    go (Err fault) m e ih = impossible cc
    go (Ok n) m e ih = fits (leb (used + n) room) e
      where
        fits : (b : Bool) → cond b (tries family pool room rows (r + 1) (used + n)) (Bad refusal.Room r) ≡ Fine last all
            → family_bytes family pool row ++ joined family pool rows ≡ production family pool row ++ productions family (beside pool rows)
        fits true e = λ i. family-production family row pool n m i ++ ih (used + n) e i
        fits false e = impossible cc
