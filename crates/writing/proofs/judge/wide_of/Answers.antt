-- `writing::judge::wide_of` meets its contract: an arm's fact is the field, whose `wide` is the arm's number.
use Rattle.fields.specs.Words.{wide}
use Rattle.writing.proofs.judge.wide_of.Goals as goal

pub returns-in-Nothing : goal.returns-in-Nothing
unfolding wide
returns-in-Nothing c = simp c.in-Nothing.is

pub returns-in-Fixed : goal.returns-in-Fixed
unfolding wide
returns-in-Fixed c = simp c.in-Fixed.is

pub returns-in-Primitive : goal.returns-in-Primitive
unfolding wide
returns-in-Primitive c = simp c.in-Primitive.is

pub returns-in-Value : goal.returns-in-Value
unfolding wide
returns-in-Value c = simp c.in-Value.is

pub returns-in-Optional : goal.returns-in-Optional
unfolding wide
returns-in-Optional c = simp c.in-Optional.is

pub returns-in-OptionalThenZero : goal.returns-in-OptionalThenZero
unfolding wide
returns-in-OptionalThenZero c = simp c.in-OptionalThenZero.is

pub returns-in-Result : goal.returns-in-Result
unfolding wide
returns-in-Result c = simp c.in-Result.is

pub returns-in-Name : goal.returns-in-Name
unfolding wide
returns-in-Name c = simp c.in-Name.is

pub returns-in-Index : goal.returns-in-Index
unfolding wide
returns-in-Index c = simp c.in-Index.is

pub returns-in-Async : goal.returns-in-Async
unfolding wide
returns-in-Async c = simp c.in-Async.is

pub returns-in-Flag : goal.returns-in-Flag
unfolding wide
returns-in-Flag c = simp c.in-Flag.is

pub returns-in-Rep : goal.returns-in-Rep
unfolding wide
returns-in-Rep c = simp c.in-Rep.is

pub returns-in-OptionalIndex : goal.returns-in-OptionalIndex
unfolding wide
returns-in-OptionalIndex c = simp c.in-OptionalIndex.is

pub returns-in-Choice : goal.returns-in-Choice
unfolding wide
returns-in-Choice c = simp c.in-Choice.is

pub returns-in-ExternName : goal.returns-in-ExternName
unfolding wide
returns-in-ExternName c = simp c.in-ExternName.is

pub returns-in-Reference : goal.returns-in-Reference
unfolding wide
returns-in-Reference c = simp c.in-Reference.is

pub returns-in-Argument : goal.returns-in-Argument
unfolding wide
returns-in-Argument c = simp c.in-Argument.is

pub returns-in-CoreSortIndex : goal.returns-in-CoreSortIndex
unfolding wide
returns-in-CoreSortIndex c = simp c.in-CoreSortIndex.is

pub returns-in-SortIndex : goal.returns-in-SortIndex
unfolding wide
returns-in-SortIndex c = simp c.in-SortIndex.is
