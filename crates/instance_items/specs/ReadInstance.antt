-- Reading a core instance, and an instance: the kind is told by the first byte.
use Rattle.std.specs.Prelude.{ℕ, cond, List, eqb}
use Rattle.fields.specs.Answers.{LeftRow}
use Rattle.reading.specs.Read.{read_item}
use Rattle.reading.specs.Scan.{byte}
use Rattle.instances.specs.Write.{core_shape_of, shape_of}

-- core:instanceexpr ::= 0x00 .. | 0x01 ..; 0 is no instance's kind
unfoldable pub core_kind_of : ℕ → ℕ
core_kind_of b = cond (eqb b 0x00) 18 (cond (eqb b 0x01) 20 0)

unfoldable pub read_core_instance : ℕ → List ℕ → List ℕ → LeftRow
read_core_instance g input row = read_item (core_shape_of (core_kind_of (byte input 0))) (core_kind_of (byte input 0)) 1 g input row

-- instanceexpr ::= 0x00 .. | 0x01 ..
unfoldable pub kind_of : ℕ → ℕ
kind_of b = cond (eqb b 0x00) 19 (cond (eqb b 0x01) 21 0)

unfoldable pub read_instance : ℕ → List ℕ → List ℕ → LeftRow
read_instance g input row = read_item (shape_of (kind_of (byte input 0))) (kind_of (byte input 0)) 1 g input row
