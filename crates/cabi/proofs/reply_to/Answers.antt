-- `cabi::reply_to` meets its contract: each answer has its number, its byte and its value.
use Rattle.fields.specs.Answers.{number_of, value_of, byte_of}
use Rattle.cabi.proofs.reply_to.Goals as goal

pub returns-in-Ok : goal.returns-in-Ok
unfolding number_of value_of byte_of
returns-in-Ok c = simp c.in-Ok.is

pub returns-in-Err : goal.returns-in-Err
unfolding number_of value_of byte_of
returns-in-Err c = simp (c.in-Err.is, c.number_of.ensures, c.byte_of.ensures)
