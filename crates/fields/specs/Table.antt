-- A table of kinds: a line has the kind, its shape, and its production in the binary document over the words after the kind.
use Rattle.std.specs.Prelude.{None, Some, Option, true, false, cond, List, [], ◌∷◌, ◌++◌, ℕ, zero, suc, eqb, drop}
use Rattle.numbers.specs.Leb.{unsigned}
use Rattle.fields.specs.declared.Field.{Field}
use Rattle.fields.specs.declared.Field.TheVariants as field
use Rattle.fields.specs.declared.Shape.{Shape}
use Rattle.fields.specs.Words.{word}

pub record Line : Type 0 where
  pub kind : ℕ
  pub shape : Shape
  pub production : List ℕ → List ℕ → List ℕ

abbrev pub line : ℕ → Shape → (List ℕ → List ℕ → List ℕ) → Line
line k s p = record { kind = k; shape = s; production = p }

-- two fields behind a lead and a byte 00
abbrev pub two_of : Field → Field → Field → Field → Shape
two_of l z a b =
    record { lead = l; zero = z; first = a; second = b; counted = false; one = field.Nothing; two = field.Nothing; last = field.Nothing }

-- two fields, a count and as many groups of two, and a last field
abbrev pub many_of : Field → Field → Field → Field → Field → Field → Shape
many_of l z a c d e =
    record { lead = l; zero = z; first = a; second = field.Nothing; counted = true; one = c; two = d; last = e }

-- the shape and the production of a kind
unfoldable pub shape_in : List Line → ℕ → Option Shape
shape_in [] k = None
shape_in (l ∷ ls) k = cond (eqb k l.kind) (Some l.shape) (shape_in ls k)

unfoldable pub production_in : List Line → ℕ → List ℕ → List ℕ → List ℕ
production_in [] k pool ws = []
production_in (l ∷ ls) k pool ws = cond (eqb k l.kind) (l.production pool ws) (production_in ls k pool ws)

-- vec(B) ::= n:<u32> b1:B .. bn:B, an element having `size` words
unfoldable pub elements : ℕ → ℕ → (List ℕ → List ℕ) → List ℕ → List ℕ
elements zero size element ws = []
elements (suc n) size element ws = element ws ++ elements n size element (drop size ws)

abbrev pub vec : ℕ → (List ℕ → List ℕ) → List ℕ → List ℕ
vec size element ws = unsigned (word ws 0) ++ elements (word ws 0) size element (drop 1 ws)
