-- A plan is a tree: a field, and the plan that follows what the field says. A walk over it goes from words to bytes or from bytes to
-- words: `look` says what stands at a place, `tell` what it says, and `make` what is made of it.
use Rattle.std.specs.Prelude.{Err, Ok, List, [], ◌++◌, ℕ, ◌+◌, drop}
use Rattle.fields.specs.declared.Field.{Field}
use Rattle.fields.specs.Leaf.{Leaf, Fine, Bad}

pub data Plan : Type 0 where
  end : Plan
  step : Field → (List ℕ → Plan) → Plan

pub record Side : Type 0 where
  pub look : Field → List ℕ → Leaf
  pub tell : Field → ℕ → List ℕ → List ℕ
  pub make : Field → ℕ → List ℕ → List ℕ

-- what follows a field that stands at `at`
abbrev pub next : Leaf → (ℕ → ℕ → Leaf) → ℕ → Leaf
next (Ok span) k at = k span.took span.made
next (Err fault) k at = Bad fault.why (at + fault.value)

abbrev pub took : Leaf → ℕ
took (Ok span) = span.took
took (Err fault) = 0

-- the fields from `at` on, with `made` elements made so far: where they end and how much is made, or the first fault
unfoldable pub walk : Side → Plan → List ℕ → ℕ → ℕ → Leaf
walk s end xs at made = Fine at made
walk s (step f k) xs at made = next (s.look f xs) (λ t m. walk s (k (s.tell f at xs)) (drop t xs) (at + t) (made + m)) at

-- what the fields from `at` on make
unfoldable pub outs : Side → Plan → ℕ → List ℕ → List ℕ
outs s end at xs = []
outs s (step f k) at xs =
    s.make f at xs ++ outs s (k (s.tell f at xs)) (at + took (s.look f xs)) (drop (took (s.look f xs)) xs)
