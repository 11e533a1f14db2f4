-- `numbers::text::well_formed` meets its contract: the name is spelled right exactly if it is text.
use Rattle.std.specs.Prelude.{is_ok}
use Rattle.std.proofs.Common.{ap, ◌∙◌}
use Rattle.numbers.proofs.TextLaws.{ok-text}
use Rattle.numbers.proofs.text.well_formed.Goals as goal

pub returns : goal.returns
returns c = c.is_ok.ensures.value ∙ ap is_ok c.spelled.ensures ∙ ok-text _
