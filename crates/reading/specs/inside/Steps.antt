-- What the steps of straight reading say of each other: a field behind a byte, and fields after fields.
use Rattle.std.specs.Prelude.{Err, Ok, Option, Some, None, ℕ, ◌+◌, Bool, false, cond, List, eqb, ltb, leb, drop}
use Rattle.fields.specs.declared.Field.{Field}
use Rattle.fields.specs.declared.Site.TheVariants.{Primitive}
use Rattle.fields.specs.Grades.{grade_of}
use Rattle.fields.specs.Leaf.{Leaf}
use Rattle.reading.specs.Fill.{fill}
use Rattle.fields.specs.inside.Run.{along, makes}
use Rattle.reading.specs.Scan.{scan}
use Rattle.reading.specs.declared.Pair.{Pair}
use Rattle.reading.specs.Seen.{pair_is}

-- the same behind a byte
abbrev pub behind_one : Pair → Pair
behind_one v = pair_is (1 + v.took) v.a v.b

-- a primitive: 7f down to 73, and 64, which is of a grade
unfoldable pub is_primitive : ℕ → ℕ → Bool
is_primitive g b = cond (eqb b 0x64) (leb (grade_of Primitive 0x64) g) (cond (ltb b 0x73) false (ltb b 0x80))

-- the fields from `at` on, with `made` words made so far; what they make
abbrev pub scans : ℕ → List ℕ → List Field → ℕ → ℕ → Leaf
scans g input fs at made = along (scan 1 g) fs (drop at input) at made

abbrev pub fills : ℕ → List ℕ → List Field → ℕ → List ℕ
fills g input fs at = makes (scan 1 g) (fill g) fs at (drop at input)

-- the place past them, if each is right
unfoldable pub end_of : Leaf → Option ℕ
end_of (Ok span) = Some span.took
end_of (Err fault) = None
