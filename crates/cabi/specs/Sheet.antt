-- What a whole sheet leaves, as the C call gives it back.
use Rattle.std.specs.Prelude.{ℕ, List}
use Rattle.sheets.specs.Sheet.{Left}
use Rattle.cabi.specs.declared.Reply.{Reply}
use Rattle.cabi.specs.Reply.{reply_of}

pub record Written : Type 0 where
  pub reply : Reply
  pub body : List ℕ
  pub out : List ℕ

abbrev pub written : Reply → List ℕ → List ℕ → Written
written r body out = record { reply = r; body = body; out = out }

abbrev pub of_sheet : Left → Written
of_sheet l = written (reply_of l.answer) l.body l.out
