-- Rows whose kind is told by their first byte: what was written is read back.
use Rattle.std.specs.Prelude.{Option, Some, Ok}
use Prim.Native.Nat.{ℕ, ◌^◌, ◌≤◌}
use native.Mathlib.Omega.{arith}
use mathlib.Core.Path.{◌≡◌, sym, ap, ◌∙◌, refl}
use mathlib.Core.Bool.{Bool, true, false, cond}
use mathlib.Core.List.{List, [], ◌∷◌, ◌++◌}
use borrow.Author.Tests.{eqb-true}
use lib.Dec.{eqb}
use lib.ListN.{length, length-append}
use Rattle.fields.specs.Table.{Line, shape_in, production_in}
use Rattle.fields.specs.Words.{word, Words}
use Rattle.fields.specs.declared.Shape.{Shape}
use Rattle.reading.specs.Read.{read_item}
use Rattle.reading.specs.Scan.{byte}
use Rattle.round_trip.specs.Mark.{row_mark}
use Rattle.round_trip.specs.Returned.{ReadsBack}
use Rattle.round_trip.proofs.ItemLaws.{found_back}
use Rattle.writing.specs.Agree.{All}
use Rattle.writing.specs.Row.{measured_row, row_bytes}
use Rattle.numbers.proofs.Impossible.{impossible}

-- the first byte of a line's production tells its kind
abbrev pub Begins : (ℕ → ℕ) → Line → Type 0
Begins kind l = (pool ws rest : List ℕ) → (kind (byte (l.production pool ws ++ rest) 0) ≡ l.kind) × (1 ≤ length (l.production pool ws))

pub begins_in : (kind : ℕ → ℕ) (ls : List Line) → All (Begins kind) ls → (k : ℕ) (s : Shape) → shape_in ls k ≡ Some s → (pool ws rest : List ℕ)
    → (kind (byte (production_in ls k pool ws ++ rest) 0) ≡ k) × (1 ≤ length (production_in ls k pool ws))
unfolding shape_in production_in
begins_in kind [] a k s f pool ws rest = impossible cc
begins_in kind (l ∷ ls) a k s f pool ws rest = go (eqb k l.kind) refl f (λ g. begins_in kind ls a.1 k s g pool ws rest)
  where
    bytes : Bool → List ℕ
    bytes b = cond b (l.production pool ws) (production_in ls k pool ws)

    go : (b : Bool) → eqb k l.kind ≡ b → cond b (Some l.shape) (shape_in ls k) ≡ Some s
        → (shape_in ls k ≡ Some s → (kind (byte (production_in ls k pool ws ++ rest) 0) ≡ k) × (1 ≤ length (production_in ls k pool ws)))
        → (kind (byte (bytes b ++ rest) 0) ≡ k) × (1 ≤ length (bytes b))
    go true t f ih = let p = a.0 pool ws rest in (p.0 ∙ sym (eqb-true k l.kind t), p.1)
    go false t f ih = ih f

module _ (find : ℕ → Option Shape) (lead : ℕ → ℕ) (kind : ℕ → ℕ) (g : ℕ) (row pool : List ℕ) (m : ℕ) (fw : Words row)
    (e : measured_row (find (word row 0)) row pool ≡ Ok m) (rest input room : List ℕ)
    (q : input ≡ row_bytes (find (word row 0)) pool row ++ rest) (any : 1 ≤ g) (top : g ≤ 3) (short : length input ≤ 2 ^ 30) where
  pub by_kind_back : (kind (byte (row_bytes (find (word row 0)) pool row ++ rest) 0) ≡ word row 0) × (1 ≤ length (row_bytes (find (word row 0)) pool row))
      → ReadsBack (find (word row 0)) (row_mark (find (word row 0)) (lead (word row 0)) g pool row) pool row input room m
      (read_item (find (kind (byte input 0))) (kind (byte input 0)) (lead (kind (byte input 0))) g input room)
  by_kind_back first =
      let is : kind (byte input 0) ≡ word row 0 = ap (λ l. kind (byte l 0)) q ∙ first.0 in
      let some : 1 ≤ length input = rw q (omega (arith, length-append (row_bytes (find (word row 0)) pool row) rest, first.1)) in
      rw is (found_back (find (word row 0)) (lead (word row 0)) g row pool m fw e rest input room q any top short some)
