-- The kind of a first byte, for the private functions.
use Rattle.std.specs.Prelude.{ℕ, cond, eqb, Option, Some, None}

-- a kind, if it is one
abbrev pub some_kind : ℕ → Option ℕ
some_kind k = cond (eqb k 0) None (Some k)
