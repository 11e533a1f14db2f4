-- What a step hands back, as the interface replies it.
use Rattle.std.specs.Prelude.{ℕ, ◌≡◌, List}
use Rattle.sections.specs.declared.Turned.{Turned}
use Rattle.cabi.specs.declared.Reply.{Reply}
use Rattle.cabi.specs.Reply.{reply_of}
use Rattle.cabi.specs.State.{numbers_of}

-- the reply to what a step hands back, and the state that is stored of it
pub record Settled (t : Turned) (r : Reply) (state : List ℕ) : Type 0 where
  pub says : r ≡ reply_of t.answer
  pub keeps : state ≡ numbers_of t.section
