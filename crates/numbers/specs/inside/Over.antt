-- Whether a number passes a bound, as a number.
use Rattle.std.specs.Prelude.{ℕ, cond, nat_lt}

-- 1 where n is not below m, else 0
abbrev pub over : ℕ → ℕ → ℕ
over m n = cond (nat_lt n m) 0 1
