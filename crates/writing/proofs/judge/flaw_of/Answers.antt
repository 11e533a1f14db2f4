-- `writing::judge::flaw_of` meets its contract: an arm's fact is the field, whose `flaw` is what the arm's call ensures.
use mathlib.Core.Path.{◌∙◌}
use Rattle.writing.specs.Judge.{flaw}
use Rattle.writing.proofs.judge.flaw_of.Goals as goal

pub returns-in-Nothing : goal.returns-in-Nothing
unfolding flaw
returns-in-Nothing c = simp c.in-Nothing.is

pub returns-in-Fixed : goal.returns-in-Fixed
unfolding flaw
returns-in-Fixed c = simp c.in-Fixed.is

pub returns-in-Primitive : goal.returns-in-Primitive
unfolding flaw
returns-in-Primitive c = c.below_at.ensures ∙ simp c.in-Primitive.is

pub returns-in-Value : goal.returns-in-Value
unfolding flaw
returns-in-Value c = c.value_at.ensures ∙ simp c.in-Value.is

pub returns-in-Optional : goal.returns-in-Optional
unfolding flaw
returns-in-Optional c = c.optional_value_at.ensures ∙ simp c.in-Optional.is

pub returns-in-OptionalThenZero : goal.returns-in-OptionalThenZero
unfolding flaw
returns-in-OptionalThenZero c = c.optional_value_at-in-OptionalThenZero.ensures ∙ simp c.in-OptionalThenZero.is

pub returns-in-Result : goal.returns-in-Result
unfolding flaw
returns-in-Result c = c.optional_value_at-in-Result.ensures ∙ simp c.in-Result.is

pub returns-in-Name : goal.returns-in-Name
unfolding flaw
returns-in-Name c = c.named_at.ensures ∙ simp c.in-Name.is

pub returns-in-Index : goal.returns-in-Index
unfolding flaw
returns-in-Index c = simp c.in-Index.is

pub returns-in-Async : goal.returns-in-Async
unfolding flaw
returns-in-Async c = c.below_at-in-Async.ensures ∙ simp c.in-Async.is

pub returns-in-Flag : goal.returns-in-Flag
unfolding flaw
returns-in-Flag c = c.below_at-in-Flag.ensures ∙ simp c.in-Flag.is

pub returns-in-Rep : goal.returns-in-Rep
unfolding flaw
returns-in-Rep c = c.below_at-in-Rep.ensures ∙ simp c.in-Rep.is

pub returns-in-OptionalIndex : goal.returns-in-OptionalIndex
unfolding flaw
returns-in-OptionalIndex c = c.optional_index_of.ensures ∙ simp c.in-OptionalIndex.is

pub returns-in-Choice : goal.returns-in-Choice
unfolding flaw
returns-in-Choice c = c.choice_of.ensures ∙ simp c.in-Choice.is

pub returns-in-ExternName : goal.returns-in-ExternName
unfolding flaw
returns-in-ExternName c = c.extern_name_of.ensures ∙ simp c.in-ExternName.is

pub returns-in-Reference : goal.returns-in-Reference
unfolding flaw
returns-in-Reference c = c.reference_of.ensures ∙ simp c.in-Reference.is

pub returns-in-Argument : goal.returns-in-Argument
unfolding flaw
returns-in-Argument c = simp c.in-Argument.is

pub returns-in-CoreSortIndex : goal.returns-in-CoreSortIndex
unfolding flaw
returns-in-CoreSortIndex c = c.below_at-in-CoreSortIndex.ensures ∙ simp c.in-CoreSortIndex.is

pub returns-in-SortIndex : goal.returns-in-SortIndex
unfolding flaw
returns-in-SortIndex c = c.below_at-in-SortIndex.ensures ∙ simp c.in-SortIndex.is
