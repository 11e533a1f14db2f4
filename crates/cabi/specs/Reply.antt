-- What every call replies: document 01's number, the byte of a name after TEXT, and the value that comes with it.
use Rattle.fields.specs.Answer.{Answer, Refused}
use Rattle.fields.specs.declared.Refusal.TheVariants as refusal
use Rattle.fields.specs.Answers.{number_of, value_of, byte_of}
use Rattle.cabi.specs.declared.Reply.{Reply}

abbrev pub reply_of : Answer → Reply
reply_of a = record { number = number_of a; also = byte_of a; value = value_of a }

-- the reply to numbers that are no state
abbrev pub limit : Reply
limit = reply_of (Refused refusal.Limit 0)
