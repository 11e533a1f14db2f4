-- What straight code says of a canonical with at most two words behind its kind, and of the index and the count before options.
use Rattle.std.specs.Prelude.{Option, Some, None, IsSomeAnd, Err, Ok, Bool, false, cond, ℕ, ◌+◌, ◌-◌, ◌<◌, ◌≤◌, ◌^◌, List, [], ◌∷◌, ◌++◌, ◌≡◌, eqb, ltb, leb, length, take, drop}
use Rattle.std.proofs.lemmas.List.Edits.{sets}
use Rattle.numbers.specs.Taken.{Value}
use Rattle.numbers.specs.Leb.{take_unsigned}
use Rattle.fields.specs.declared.Field.{Field}
use Rattle.fields.specs.declared.Field.TheVariants as field
use Rattle.fields.specs.Leaf.{Leaf}
use Rattle.fields.specs.declared.Site.TheVariants.{CanonOption}
use Rattle.fields.specs.Grades.{grade_of}
use Rattle.fields.specs.Words.{wide}
use Rattle.reading.specs.Scan.{byte}
use Rattle.reading.specs.declared.Pair.{Pair}
use Rattle.reading.specs.inside.Try as tried
use Rattle.reading.specs.inside.Tried.{LeftTried, left_tried}
use Rattle.canonical_items.specs.declared.short.Short.{Short}
use Rattle.canonical_items.specs.declared.short.Short.TheVariants as short
use Rattle.canonical_items.specs.declared.short.Step.{Step}
use Rattle.canonical_items.specs.declared.options.Head.{Head}

abbrev pub field_of : Short → Field
field_of short.Nothing = field.Nothing
field_of short.Index = field.Index
field_of short.Flag = field.Flag
field_of short.Rep = field.Rep

-- a field at `at` ends at a place and makes at most a word, and it says so; where it is not right, it says none
abbrev pub Stepped : ℕ → Leaf → List ℕ → Option Step → Type 0
Stepped at (Ok span) ws r = IsSomeAnd r (λ x. (x.next ≡ at + span.took) × (take span.made (x.value ∷ []) ≡ ws))
Stepped at (Err fault) ws r = r ≡ None

-- a step to a place with a word
abbrev pub step_is : ℕ → ℕ → Step
step_is next value = record { next = next; value = value }

-- one of two bytes at the front
abbrev pub either_step : ℕ → ℕ → ℕ → List ℕ → Option Step
either_step a b at bs =
    cond (leb (length bs) 0) None
    (cond (eqb (byte bs 0) a) (Some (step_is (at + 1) 0)) (cond (eqb (byte bs 0) b) (Some (step_is (at + 1) 1)) None))

-- two fields, and their words
abbrev pub short_words : Short → Short → Pair → List ℕ
short_words f h r = take (wide (field_of f)) (r.a ∷ []) ++ take (wide (field_of h)) (r.b ∷ [])

abbrev pub Told : Short → Short → Leaf → List ℕ → Option Pair → Type 0
Told f h (Ok span) ws r = IsSomeAnd r (λ x. (x.took ≡ span.took) × (short_words f h x ≡ ws))
Told f h (Err fault) ws r = r ≡ None

-- an item of 1, 2 or 3 words stored, where there is one and it has room
unfoldable pub stored : ℕ → ℕ → Option Pair → List ℕ → LeftTried
stored kind words None row = left_tried None row
stored kind words (Some r) row =
    cond (leb words (length row)) (left_tried (tried.Item words r.took) (sets row 0 (kind ∷ take (words - 1) (r.a ∷ r.b ∷ []))))
    (left_tried None row)

-- an index and a count from `from` on, and where they end
pub record Opened (input : List ℕ) (from : ℕ) (r : Head) : Type 0 where
  pub t : ℕ
  pub u : ℕ
  pub first : take_unsigned (drop from input) ≡ Value r.index t
  pub second : take_unsigned (drop (from + t) input) ≡ Value r.count u
  pub ends : r.next ≡ from + t + u
  pub inside : r.next ≤ length input
  pub small : r.count < 2 ^ 32

-- there are none
abbrev pub Unopened : List ℕ → ℕ → Type 0
Unopened input from =
    (n t m u : ℕ) → take_unsigned (drop from input) ≡ Value n t → take_unsigned (drop (from + t) input) ≡ Value m u → ⊥

-- a byte below 10 is an option's, at its grade
unfoldable pub is_option : ℕ → ℕ → Bool
is_option g k = cond (ltb k 10) (leb (grade_of CanonOption k) g) false
