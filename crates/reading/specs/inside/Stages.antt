-- What stands behind the opening of a counted item, and where a field ends.
use Rattle.std.specs.Prelude.{Err, Ok, ℕ, ◌≤◌, List, drop}
use Rattle.fields.specs.Leaf.{Leaf}
use Rattle.fields.specs.declared.Shape.{Shape}
use Rattle.reading.specs.Fill.{index, fill}
use Rattle.fields.specs.inside.Run.{onward, makes}
use Rattle.fields.specs.inside.Stages.{counted_fields}
use Rattle.reading.specs.Scan.{scan}

-- the count at `at`, as many groups, and the closing; and their words
abbrev pub counted_scan : ℕ → ℕ → Shape → List ℕ → ℕ → ℕ → Leaf
counted_scan lead g s input at made = onward (scan lead g) input (counted_fields s (index (drop at input))) at made

abbrev pub counted_fill : ℕ → ℕ → Shape → List ℕ → ℕ → List ℕ
counted_fill lead g s input at = makes (scan lead g) (fill g) (counted_fields s (index (drop at input))) at (drop at input)

-- a field ends within n bytes, or its fault stands there
abbrev pub Inside : Leaf → ℕ → Type 0
Inside (Ok span) n = span.took ≤ n
Inside (Err fault) n = fault.value ≤ n
