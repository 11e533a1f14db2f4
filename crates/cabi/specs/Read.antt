-- What a reading leaves, as the C call gives it back.
use Rattle.std.specs.Prelude.{Err, Ok, ℕ, List}
use Rattle.fields.specs.Read.{Read}
use Rattle.fields.specs.Answers.{LeftRow, number_of_refusal, byte_of_refusal}
use Rattle.cabi.specs.declared.Reply.{Reply}

-- words and bytes taken, or the refusal
abbrev pub reply_of_read : Read → Reply
reply_of_read (Ok item) = record { number = 0; also = item.words; value = item.took }
reply_of_read (Err fault) = record { number = number_of_refusal fault.why; also = byte_of_refusal fault.why; value = fault.value }

pub record Filled : Type 0 where
  pub reply : Reply
  pub row : List ℕ

abbrev pub filled : Reply → List ℕ → Filled
filled r row = record { reply = r; row = row }

abbrev pub of_read : LeftRow → Filled
of_read l = filled (reply_of_read l.answer) l.row
