-- The plan of a shape, and how many words a row of that shape has.
use Rattle.std.specs.Prelude.{cond, List, [], ◌∷◌, ◌++◌, ℕ, zero, suc, ◌+◌, ◌*◌, get_or}
use Rattle.fields.specs.declared.Field.{Field}
use Rattle.fields.specs.declared.Field.TheVariants as field
use Rattle.fields.specs.declared.Shape.{Shape}
use Rattle.fields.specs.Words.{word, wide}
use Rattle.fields.specs.Walk.{Plan, end, step}

-- the fields before the count, those of one group, and those after
abbrev pub opening : Shape → List Field
opening s = s.lead ∷ s.zero ∷ s.first ∷ s.second ∷ []

abbrev pub group : Shape → List Field
group s = s.one ∷ s.two ∷ []

abbrev pub closing : Shape → List Field
closing s = s.last ∷ []

-- n times the fields g
unfoldable pub repeated : ℕ → List Field → List Field
repeated zero g = []
repeated (suc n) g = g ++ repeated n g

-- the fields in order, and then p
unfoldable pub seq : List Field → Plan → Plan
seq [] p = p
seq (f ∷ fs) p = step f (λ v. seq fs p)

-- the count, as many groups, and the closing
abbrev pub counts : Shape → Plan
counts s = step field.Index (λ v. seq (repeated (get_or v 0 0) (group s) ++ closing s) end)

abbrev pub plan : Shape → Plan
plan s = seq (opening s) (cond s.counted (counts s) (seq (closing s) end))

-- how many words the fields have
unfoldable pub widths : List Field → ℕ
widths [] = 0
widths (f ∷ fs) = wide f + widths fs

-- how many words a row of the shape has, whose fields stand from `start` on; the count stands behind the opening
unfoldable pub row_width : Shape → List ℕ → ℕ → ℕ
row_width s row start =
    start + widths (opening s)
    + (cond s.counted (1 + word row (start + widths (opening s)) * widths (group s)) 0 + widths (closing s))
