-- Bytes that are below a bound.
use Rattle.std.specs.Prelude.{ℕ, ◌<◌, ◌≤◌, List, slice_index}

-- the bytes at places from..to, `to` not among them, are below m
abbrev pub Below : ℕ → List ℕ → ℕ → ℕ → Type 0
Below m s from to = (k : ℕ) → from ≤ k → k < to → slice_index s k < m
