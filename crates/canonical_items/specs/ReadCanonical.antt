-- Reading a canonical: its kind is 256 and its first byte.
use Rattle.std.specs.Prelude.{ℕ, ◌+◌, ◌-◌, cond, List, ◌∷◌, ◌++◌, eqb, length, take, drop}
use Rattle.fields.specs.Read.{Refused}
use Rattle.fields.specs.declared.Refusal.TheVariants as refusal
use Rattle.fields.specs.declared.Site.TheVariants.{CanonLead}
use Rattle.fields.specs.Answers.{LeftRow, left_row}
use Rattle.fields.specs.Grades as grades
use Rattle.fields.specs.Words.{word}
use Rattle.reading.specs.Read.{read_item, limited, roomed, scanned, filled}
use Rattle.reading.specs.Scan.{byte}
use Rattle.canonicals.specs.Table.{lift_bytes}
use Rattle.canonicals.specs.Write.{shape_of}

-- the grade of a kind's lead
unfoldable pub lead_grade : ℕ → ℕ
lead_grade k = grades.lead_grade CanonLead (shape_of k)

-- the words of a lift in the order of its bytes, kind, function, n, options and type, put in the order of its row: the type third
unfoldable pub type_third : List ℕ → List ℕ
type_third ws = take 2 ws ++ (word ws (length ws - 1) ∷ take (length ws - 3) (drop 2 ws))

-- a lift, whose fields are read as its bytes stand
unfoldable pub read_lift : ℕ → List ℕ → List ℕ → LeftRow
read_lift g input row =
    limited g input row
    (cond (eqb (length input) 0) (left_row (Refused refusal.Cut 0) row)
    (roomed (scanned 1 g lift_bytes input) (type_third (filled 256 1 g lift_bytes input)) row))

unfoldable pub read_canonical : ℕ → List ℕ → List ℕ → LeftRow
read_canonical g input row =
    cond (eqb (byte input 0) 0) (read_lift g input row)
    (read_item (shape_of (256 + byte input 0)) (256 + byte input 0) (lead_grade (256 + byte input 0)) g input row)
