-- `fields::refusals::byte_of` meets its contract: each arm is a line of the table.
use Rattle.fields.specs.Answers.{byte_of_refusal}
use Rattle.fields.proofs.refusals.byte_of.Goals as goal

pub returns-in-Limit : goal.returns-in-Limit
unfolding byte_of_refusal
returns-in-Limit c = rw c.in-Limit.is

pub returns-in-Kind : goal.returns-in-Kind
unfolding byte_of_refusal
returns-in-Kind c = rw c.in-Kind.is

pub returns-in-Row : goal.returns-in-Row
unfolding byte_of_refusal
returns-in-Row c = rw c.in-Row.is

pub returns-in-Tag : goal.returns-in-Tag
unfolding byte_of_refusal
returns-in-Tag c = rw c.in-Tag.is

pub returns-in-Range : goal.returns-in-Range
unfolding byte_of_refusal
returns-in-Range c = rw c.in-Range.is

pub returns-in-Text : goal.returns-in-Text
unfolding byte_of_refusal
returns-in-Text c = rw c.in-Text.is c.byte_at.ensures

pub returns-in-TooBig : goal.returns-in-TooBig
unfolding byte_of_refusal
returns-in-TooBig c = rw c.in-TooBig.is

pub returns-in-Room : goal.returns-in-Room
unfolding byte_of_refusal
returns-in-Room c = rw c.in-Room.is

pub returns-in-Order : goal.returns-in-Order
unfolding byte_of_refusal
returns-in-Order c = rw c.in-Order.is

pub returns-in-Count : goal.returns-in-Count
unfolding byte_of_refusal
returns-in-Count c = rw c.in-Count.is

pub returns-in-Cut : goal.returns-in-Cut
unfolding byte_of_refusal
returns-in-Cut c = rw c.in-Cut.is

pub returns-in-Code : goal.returns-in-Code
unfolding byte_of_refusal
returns-in-Code c = rw c.in-Code.is

pub returns-in-Number : goal.returns-in-Number
unfolding byte_of_refusal
returns-in-Number c = rw c.in-Number.is

pub returns-in-Newer : goal.returns-in-Newer
unfolding byte_of_refusal
returns-in-Newer c = rw c.in-Newer.is

pub returns-in-Sheet : goal.returns-in-Sheet
unfolding byte_of_refusal
returns-in-Sheet c = rw c.in-Sheet.is

pub returns-in-Frame : goal.returns-in-Frame
unfolding byte_of_refusal
returns-in-Frame c = rw c.in-Frame.is
