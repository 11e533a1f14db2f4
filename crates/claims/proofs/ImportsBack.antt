-- Imports: what was written is read back, or refused at its first byte above the grade; and what is accepted is written again beside its
-- own bytes.
use Rattle.std.specs.Prelude.{Ok}
use Prim.Native.Nat.{ℕ, ◌^◌, ◌≤◌}
use native.Mathlib.Omega.{arith}
use mathlib.Core.Path.{◌≡◌, subst}
use mathlib.Core.List.{List, ◌++◌}
use lib.ListN.{length, take, length-append}
use Rattle.numbers.specs.Bytes.{Bytes}
use Rattle.fields.specs.Read.{Item}
use Rattle.fields.specs.Words.{word, Words}
use Rattle.round_trip.specs.Mark.{row_mark}
use Rattle.fields.specs.Answers.{left_row}
use Rattle.reading.specs.Read.{read_item}
use Rattle.round_trip.specs.Returned.{ReadsBack}
use Rattle.round_trip.proofs.ItemLaws.{found_back, WrittenAgain, written_again}
use Rattle.items.specs.ReadImport.{read_import}
use Rattle.imports.specs.Write.{shape_of, measured_import}
use Rattle.claims.specs.Demand3.{import_mark}
use Rattle.imports.proofs.SomeLaws.{import_bytes, import-some}

pub import-back : (g : ℕ) (row pool : List ℕ) (m : ℕ) → Words row → measured_import row pool ≡ Ok m
    → (rest input room : List ℕ) → input ≡ import_bytes pool row ++ rest → 1 ≤ g → g ≤ 3 → length input ≤ 2 ^ 30
    → ReadsBack (shape_of (word row 0)) (import_mark g pool row) pool row input room m (read_import g input room)
unfolding measured_import read_import import_mark
import-back g row pool m fw e rest input room q any top short =
    let i = import-some row pool m e in
    let some : 1 ≤ length input = rw q (omega (arith, length-append (import_bytes pool row) rest, i.1)) in
    subst (λ k. ReadsBack (shape_of (word row 0)) (row_mark (shape_of (word row 0)) 1 g pool row) pool row input room m (read_item (shape_of k) k 1 g input room))
    i.0
    (found_back (shape_of (word row 0)) 1 g row pool m fw e rest input room q any top short some)

pub import-only : (g : ℕ) (input room after : List ℕ) (q e : ℕ) → Bytes input → 1 ≤ g → read_import g input room ≡ left_row (Item q e) after
    → e ≤ 65536 → WrittenAgain (shape_of (word (take q after) 0)) 1 g input (take e input) (take q after)
unfolding read_import
import-only g input room after q e fi any r few = written_again shape_of (λ k. 1) 17 g input room after q e fi any (omega arith) r few
