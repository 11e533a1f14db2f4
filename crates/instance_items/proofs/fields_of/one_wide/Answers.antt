-- `one_wide` meets its contract: an extern name has 11 words, a name 2.
use mathlib.Core.Path.{sym}
use Rattle.instance_items.proofs.FieldLaws.{one-wide-name, one-wide_extern}
use Rattle.instance_items.proofs.fields_of.one_wide.Goals as goal

pub returns-then-kind-eq21 : goal.returns-then-kind-eq21
returns-then-kind-eq21 c = sym (one-wide_extern _ c.if-kind-eq21.true)

pub returns : goal.returns
returns c = sym (one-wide-name _ c.if-kind-eq21.false)
