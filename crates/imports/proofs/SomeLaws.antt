-- An import row that is taken has a byte.
use Rattle.std.specs.Prelude.{Ok}
use Rattle.std.specs.Prelude.{None}
use Rattle.std.specs.Prelude.{Some}
use Prim.Native.Nat.{ℕ, ◌≤◌}
use native.Mathlib.Omega.{arith}
use mathlib.Core.Path.{◌≡◌, refl, sym, subst}
use mathlib.Core.Bool.{Bool, true, false, cond}
use mathlib.Core.List.{List, ◌∷◌, ◌++◌}
use borrow.Author.Tests.{eqb-true}
use lib.Dec.{eqb}
use lib.ListN.{length, drop, length-append}
use Rattle.fields.specs.declared.Field.TheVariants as field
use Rattle.fields.specs.declared.Shape.{Shape}
use Rattle.fields.specs.Words.{word}
use Rattle.writing.specs.Binary.{name, slots, slots_at, externname, externdesc}
use Rattle.writing.specs.Row.{row_bytes}
use Rattle.fields.specs.Table.{two_of, shape_in, production_in}
use Rattle.writing.proofs.WholeLaws.{accepted}
use Rattle.imports.specs.Table.{table}
use Rattle.imports.specs.Write.{shape_of, measured_import}
use Rattle.imports.proofs.Rows.{import-row}
use Rattle.numbers.proofs.Impossible.{impossible}

-- the bytes of an import row
abbrev pub import_bytes : List ℕ → List ℕ → List ℕ
import_bytes pool row = row_bytes (shape_of (word row 0)) pool row

-- there is one kind
import_kind : (k : ℕ) (s : Shape) → shape_of k ≡ Some s → k ≡ 17
unfolding shape_in
import_kind k s f = go (eqb k 17) refl f
  where
    go : (b : Bool) → eqb k 17 ≡ b → cond b (Some (two_of field.Nothing field.Nothing field.ExternName field.Reference)) None ≡ Some s → k ≡ 17
    go true t f = eqb-true k 17 t
    go false t f = impossible cc

-- its bytes begin with a lead
lead_first : (pool ws : List ℕ) → 1 ≤ length (externname pool ws)
unfolding externname
lead_first pool ws = go (eqb (slots ws) 0)
  where
    go : (b : Bool) → 1 ≤ length (cond b (0x00 ∷ name pool (word ws 0) (word ws 1)) ((0x02 ∷ name pool (word ws 0) (word ws 1)) ++ (slots ws ∷ slots_at pool ws)))
    go true = omega arith
    go false = omega arith

-- a row that is taken has a byte, and is an import
pub import-some : (row pool : List ℕ) (m : ℕ) → measured_import row pool ≡ Ok m → (word row 0 ≡ 17) × (1 ≤ length (import_bytes pool row))
unfolding measured_import production_in
import-some row pool m e =
    let a = accepted (shape_of (word row 0)) row pool m e in
    let kind = import_kind (word row 0) a.shape a.is in
    let ws = drop 1 row in
    let lead : 1 ≤ length (production_in table 17 pool ws) =
    omega (arith, length-append (externname pool ws) (externdesc (word ws 11) (word ws 12) (word ws 13)), lead_first pool ws) in
    (kind, rw (import-row row pool m e).as_production (subst (λ k. 1 ≤ length (production_in table k pool ws)) (sym kind) lead))
