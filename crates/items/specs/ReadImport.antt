-- Reading an import. The lead 02 is the extern name's own, of grade 3; there is no other.
use Rattle.std.specs.Prelude.{List, ℕ}
use Rattle.fields.specs.Answers.{LeftRow}
use Rattle.reading.specs.Read.{read_item}
use Rattle.imports.specs.Write.{shape_of}

unfoldable pub read_import : ℕ → List ℕ → List ℕ → LeftRow
read_import g input row = read_item (shape_of 17) 17 1 g input row
