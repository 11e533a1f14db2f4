-- A canonical row that is accepted: by a line of the table it is written as its production says, and the size of every one, lift
-- included, is no larger than can be.
use Rattle.std.specs.Prelude.{Ok}
use Rattle.std.specs.Prelude.{Some}
use Prim.Native.Nat.{ℕ, ◌≤◌}
use mathlib.Core.Path.{◌≡◌, refl}
use mathlib.Core.Bool.{Bool, true, false, cond}
use mathlib.Core.List.{List}
use lib.Dec.{eqb}
use Rattle.fields.specs.Words.{word, wide}
use Rattle.writing.specs.Row.{measured_row}
use Rattle.fields.specs.Shape.{widths}
use Rattle.fields.specs.Table.{shape_in}
use Rattle.writing.specs.Agree.{Row}
use Rattle.writing.specs.Largest.{largest_row}
use Rattle.writing.proofs.TableRows.{every, row_of}
use Rattle.writing.proofs.LargestLaws.{no_larger}
use Rattle.canonicals.specs.Table.{table, lift_shape}
use Rattle.canonicals.specs.Write.{measured_canonical}
use Rattle.canonicals.proofs.Productions.{canonicals-agree}

pub canonical_row : (row pool : List ℕ) (size : ℕ) → measured_row (shape_in table (word row 0)) row pool ≡ Ok size → Row table row pool size
unfolding every widths wide
canonical_row row pool size e = row_of table canonicals-agree refl row pool size e

pub canonical_no_larger : (row pool : List ℕ) (size : ℕ) → measured_canonical row pool ≡ Ok size → size ≤ largest_row
unfolding measured_canonical widths wide
canonical_no_larger row pool size e = go (eqb (word row 0) 256) e
  where
    go : (b : Bool) → measured_row (cond b (Some lift_shape) (shape_in table (word row 0))) row pool ≡ Ok size → size ≤ largest_row
    go true e = no_larger lift_shape refl row pool size e
    go false e = (canonical_row row pool size e).no_larger
