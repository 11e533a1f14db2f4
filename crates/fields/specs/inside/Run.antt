-- A walk over a list of fields, as a loop makes it.
use Rattle.std.specs.Prelude.{Err, Ok, List, [], ◌∷◌, ◌++◌, ℕ, ◌+◌, ◌≤◌, drop}
use Rattle.fields.specs.declared.Field.{Field}
use Rattle.fields.specs.Leaf.{Leaf, Fine, Bad}
use Rattle.fields.specs.Walk.{next, took}

-- the fields from `at` on, with `made` elements made so far
unfoldable pub along : (Field → List ℕ → Leaf) → List Field → List ℕ → ℕ → ℕ → Leaf
along L [] xs at made = Fine at made
along L (f ∷ fs) xs at made = next (L f xs) (λ t m. along L fs (drop t xs) (at + t) (made + m)) at

-- those that stand from `at` of xs on
abbrev pub onward : (Field → List ℕ → Leaf) → List ℕ → List Field → ℕ → ℕ → Leaf
onward L xs fs at made = along L fs (drop at xs) at made

-- what they make
unfoldable pub makes : (Field → List ℕ → Leaf) → (Field → ℕ → List ℕ → List ℕ) → List Field → ℕ → List ℕ → List ℕ
makes L B [] at xs = []
makes L B (f ∷ fs) at xs = B f at xs ++ makes L B fs (at + took (L f xs)) (drop (took (L f xs)) xs)

-- what follows a walk
abbrev pub after : Leaf → (ℕ → ℕ → Leaf) → Leaf
after (Ok span) k = k span.took span.made
after (Err fault) k = Bad fault.why fault.value

-- a walk that ends, ends at a or before, with b elements made at most
abbrev pub Under : Leaf → ℕ → ℕ → Type 0
Under (Ok span) a b = (span.took ≤ a) × (span.made ≤ b)
Under (Err fault) a b = Unit {0}
