-- `reading::primitive` meets its contract: the ways out are those of `primitive_is`, `primitive_not` and `primitive_none`.
use Rattle.std.specs.Prelude.{Some}
use mathlib.Core.Path.{sym, ap, ◌∙◌}
use Rattle.numbers.specs.Seen.{number}
use Rattle.reading.proofs.LeafLaws.{primitive_none, primitive_is, primitive_not}
use Rattle.reading.proofs.primitive.Goals as goal

pub returns-then-is_primitive : goal.returns-then-is_primitive
returns-then-is_primitive c =
    ap (λ n. Some (number n 1)) c.primitive_of.ensures
    ∙ primitive_is _ _ c.if-bs-gt0.true (sym c.is_primitive.ensures ∙ c.if-is_primitive.true)

pub returns-else-is_primitive : goal.returns-else-is_primitive
returns-else-is_primitive c = primitive_not _ _ c.if-bs-gt0.true (sym c.is_primitive.ensures ∙ c.if-is_primitive.false)

pub returns-else-bs-gt0 : goal.returns-else-bs-gt0
returns-else-bs-gt0 c = primitive_none _ _ c.if-bs-gt0.false
