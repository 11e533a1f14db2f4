-- The largest size that a row can have.
use Rattle.std.specs.Prelude.{ℕ, ◌+◌, ◌*◌}

-- a lead byte, a count of two bytes, and 8,191 names of 65,536 bytes, each with three bytes of length
abbrev pub largest_row : ℕ
largest_row = 1 + (2 + 8191 * (3 + 65536))
