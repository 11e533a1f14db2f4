-- An import row that is accepted is written as its production says, and its size is the length of its bytes and no larger than can be.
use Rattle.std.specs.Prelude.{Ok}
use Prim.Native.Nat.{ℕ}
use mathlib.Core.Path.{◌≡◌, refl}
use mathlib.Core.List.{List}
use Rattle.fields.specs.Words.{wide}
use Rattle.fields.specs.Shape.{widths}
use Rattle.writing.specs.Agree.{Row}
use Rattle.writing.proofs.TableRows.{every, row_of}
use Rattle.imports.specs.Table.{table}
use Rattle.imports.specs.Write.{measured_import}
use Rattle.imports.proofs.Productions.{imports-agree}

pub import-row : (row pool : List ℕ) (size : ℕ) → measured_import row pool ≡ Ok size → Row table row pool size
unfolding measured_import every widths wide
import-row row pool size e = row_of table imports-agree refl row pool size e
