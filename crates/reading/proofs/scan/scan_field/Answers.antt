-- `reading::scan::scan_field` meets its contract: an arm's fact is the field, whose `scan` is what the arm's call ensures.
use mathlib.Core.Path.{sym, ◌∙◌}
use Rattle.reading.specs.Scan.{scan}
use Rattle.reading.proofs.scan.scan_field.Goals as goal

pub returns-in-Nothing : goal.returns-in-Nothing
unfolding scan
returns-in-Nothing c = simp c.in-Nothing.is

pub returns-in-Fixed : goal.returns-in-Fixed
unfolding scan
returns-in-Fixed c = c.scan_fixed.ensures ∙ simp c.in-Fixed.is

pub returns-in-Primitive : goal.returns-in-Primitive
unfolding scan
returns-in-Primitive c = c.scan_primitive.ensures ∙ simp c.in-Primitive.is

pub returns-in-Value : goal.returns-in-Value
unfolding scan
returns-in-Value c = c.scan_value.ensures ∙ simp c.in-Value.is

pub returns-in-Optional : goal.returns-in-Optional
unfolding scan
returns-in-Optional c = c.scan_optional.ensures ∙ simp c.in-Optional.is

pub returns-in-OptionalThenZero : goal.returns-in-OptionalThenZero
unfolding scan
returns-in-OptionalThenZero c = c.scan_case.ensures ∙ simp c.in-OptionalThenZero.is

pub returns-in-Result : goal.returns-in-Result
unfolding scan
returns-in-Result c = c.scan_result.ensures ∙ simp c.in-Result.is

pub returns-in-Name : goal.returns-in-Name
unfolding scan
returns-in-Name c = c.scan_name.ensures ∙ simp c.in-Name.is

pub returns-in-Index : goal.returns-in-Index
unfolding scan
returns-in-Index c = c.scan_index.ensures ∙ simp c.in-Index.is

pub returns-in-Async : goal.returns-in-Async
unfolding scan
returns-in-Async c = c.scan_either.ensures ∙ simp (c.in-Async.is, sym c.grade_of.ensures)

pub returns-in-Flag : goal.returns-in-Flag
unfolding scan
returns-in-Flag c = c.scan_either-in-Flag.ensures ∙ simp c.in-Flag.is

pub returns-in-Rep : goal.returns-in-Rep
unfolding scan
returns-in-Rep c = c.scan_either-in-Rep.ensures ∙ simp c.in-Rep.is

pub returns-in-OptionalIndex : goal.returns-in-OptionalIndex
unfolding scan
returns-in-OptionalIndex c = c.scan_optional_index.ensures ∙ simp c.in-OptionalIndex.is

pub returns-in-Choice : goal.returns-in-Choice
unfolding scan
returns-in-Choice c = c.scan_choice.ensures ∙ simp c.in-Choice.is

pub returns-in-ExternName : goal.returns-in-ExternName
unfolding scan
returns-in-ExternName c = c.scan_extern.ensures ∙ simp c.in-ExternName.is

pub returns-in-Reference : goal.returns-in-Reference
unfolding scan
returns-in-Reference c = c.scan_reference.ensures ∙ simp c.in-Reference.is

pub returns-in-Argument : goal.returns-in-Argument
unfolding scan
returns-in-Argument c = c.scan_argument.ensures ∙ simp c.in-Argument.is

pub returns-in-CoreSortIndex : goal.returns-in-CoreSortIndex
unfolding scan
returns-in-CoreSortIndex c = c.scan_core_sort_index.ensures ∙ simp c.in-CoreSortIndex.is

pub returns-in-SortIndex : goal.returns-in-SortIndex
unfolding scan
returns-in-SortIndex c = c.scan_sort_index.ensures ∙ simp c.in-SortIndex.is
