-- `writing::judge::named_at` meets its contract: the tests are those of `named`, since the part of the pool from `start` to
-- `start + size` has `size` bytes, and a name that is not text stops within them.
use native.Mathlib.Nat.{add-sub_cancel_left}
use native.Mathlib.Omega.{arith}
use Prim.Native.Nat.{◌+◌, ◌-◌}
use mathlib.Core.Path.{sym, ◌∙◌}
use lib.ListN.{drop}
use borrow.Author.Tests.{le-leb, lt-leb}
use Rattle.numbers.proofs.TextLaws.{right-text, stops_text, stops_stop, stops_taken}
use Rattle.writing.specs.Judge.{named}
use Rattle.writing.proofs.judge.named_at.Goals as goal

pub returns-then-pool-end : goal.returns-then-pool-end
unfolding named
returns-then-pool-end c = simp (sym c.word_at-start.ensures, sym c.word_at-size.ensures, lt-leb _ _ c.if-pool-end.true)

pub overflow_cast-byte : goal.overflow_cast-byte
overflow_cast-byte c =
    let pool = c.args.pool.now in
    omega (arith, stops_taken (c.word_at-start.result + c.word_at-size.result - c.word_at-start.result) (drop c.word_at-start.result pool) c.spelling_of.ensures c.in-Err.is)

pub returns-in-Ok : goal.returns-in-Ok
unfolding named
returns-in-Ok c =
    simp (
      sym c.word_at-start.ensures,
      sym c.word_at-size.ensures,
      le-leb _ _ c.if-pool-end.false,
      simp add-sub_cancel_left at (right-text _ (sym c.spelling_of.ensures ∙ c.in-Ok.is)),
    )

pub returns-in-Err : goal.returns-in-Err
unfolding named
returns-in-Err c =
    let stops = sym c.spelling_of.ensures ∙ c.in-Err.is in
    simp (
      c.offset_of.ensures,
      sym c.word_at-start.ensures,
      sym c.word_at-size.ensures,
      le-leb _ _ c.if-pool-end.false,
      simp add-sub_cancel_left at (stops_text _ _ stops),
      simp add-sub_cancel_left at (stops_stop _ _ stops),
    )
