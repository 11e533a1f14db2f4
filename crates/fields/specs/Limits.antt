-- Numbers on the wall: what a row, a pool, a reader's input and a sheet may have at most.
use Rattle.std.specs.Prelude.{ℕ, ◌^◌}

abbrev pub row_words : ℕ
row_words = 16384

abbrev pub pool_bytes : ℕ
pool_bytes = 65536

abbrev pub input_bytes : ℕ
input_bytes = 2 ^ 30

abbrev pub sheet_bytes : ℕ
sheet_bytes = 65536
