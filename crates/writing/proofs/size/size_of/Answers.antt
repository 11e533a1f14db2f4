-- The field is the one that the arm names, and each arm ensures that one's size.
use native.Mathlib.Omega.{arith}
use Rattle.writing.specs.inside.Size.{size}
use Rattle.writing.proofs.size.size_of.Goals as goal

pub returns-in-Nothing : goal.returns-in-Nothing
unfolding size
returns-in-Nothing c = rw c.in-Nothing.is (omega arith)

pub returns-in-Fixed : goal.returns-in-Fixed
unfolding size
returns-in-Fixed c = rw c.in-Fixed.is (omega arith)

pub returns-in-Primitive : goal.returns-in-Primitive
unfolding size
returns-in-Primitive c = rw c.in-Primitive.is (omega arith)

pub returns-in-Value : goal.returns-in-Value
unfolding size
returns-in-Value c = rw c.in-Value.is (omega arith)

pub returns-in-Optional : goal.returns-in-Optional
unfolding size
returns-in-Optional c = rw c.in-Optional.is (omega arith)

pub returns-in-OptionalThenZero : goal.returns-in-OptionalThenZero
unfolding size
returns-in-OptionalThenZero c = rw c.in-OptionalThenZero.is (omega arith)

pub returns-in-Result : goal.returns-in-Result
unfolding size
returns-in-Result c = rw c.in-Result.is (omega arith)

pub returns-in-Name : goal.returns-in-Name
unfolding size
returns-in-Name c = rw c.in-Name.is (omega arith)

pub returns-in-Index : goal.returns-in-Index
unfolding size
returns-in-Index c = rw c.in-Index.is (omega arith)

pub returns-in-Async : goal.returns-in-Async
unfolding size
returns-in-Async c = rw c.in-Async.is (omega arith)

pub returns-in-Flag : goal.returns-in-Flag
unfolding size
returns-in-Flag c = rw c.in-Flag.is (omega arith)

pub returns-in-Rep : goal.returns-in-Rep
unfolding size
returns-in-Rep c = rw c.in-Rep.is (omega arith)

pub returns-in-OptionalIndex : goal.returns-in-OptionalIndex
unfolding size
returns-in-OptionalIndex c = rw c.in-OptionalIndex.is (omega arith)

pub returns-in-Choice : goal.returns-in-Choice
unfolding size
returns-in-Choice c = rw c.in-Choice.is (omega arith)

pub returns-in-ExternName : goal.returns-in-ExternName
unfolding size
returns-in-ExternName c = rw c.in-ExternName.is (omega arith)

pub returns-in-Reference : goal.returns-in-Reference
unfolding size
returns-in-Reference c = rw c.in-Reference.is (omega arith)

pub returns-in-Argument : goal.returns-in-Argument
unfolding size
returns-in-Argument c = rw c.in-Argument.is (omega arith)

pub returns-in-CoreSortIndex : goal.returns-in-CoreSortIndex
unfolding size
returns-in-CoreSortIndex c = rw c.in-CoreSortIndex.is (omega arith)

pub returns-in-SortIndex : goal.returns-in-SortIndex
unfolding size
returns-in-SortIndex c = rw c.in-SortIndex.is (omega arith)
