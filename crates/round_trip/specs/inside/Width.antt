-- How many words the fields of a plan have.
use Rattle.std.specs.Prelude.{ℕ, ◌+◌, List, drop}
use Rattle.fields.specs.Words.{wide}
use Rattle.fields.specs.View.{view}
use Rattle.fields.specs.Walk.{Plan, end, step}

-- how many words the fields of a plan have
unfoldable pub plan_width : List ℕ → Plan → List ℕ → ℕ
plan_width pool end ws = 0
plan_width pool (step f k) ws = wide f + plan_width pool (k (view pool f ws)) (drop (wide f) ws)
