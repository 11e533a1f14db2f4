-- `writing::walk::judge_groups` meets its contract. The loop's invariant is `Groups`: the walk over the groups that are due, from here,
-- is the whole.
use mathlib.Core.List.{[], ◌∷◌}
use Rattle.writing.proofs.JudgedLaws.{Groups}
use Rattle.writing.proofs.walk.judge_groups.Given as goal

abbrev pub invariant-loop-i : goal.invariant-loop-i
invariant-loop-i l = Groups l.pool l.row (l.one ∷ l.two ∷ []) l.n l.from l.base l.i l.at l.made
