-- `two_wide` meets its contract: an argument has a word, the others 2.
use mathlib.Core.Path.{sym}
use Rattle.instance_items.proofs.FieldLaws.{two-wide-argument, two-wide-pair}
use Rattle.instance_items.proofs.fields_of.two_wide.Goals as goal

pub returns-then-kind-eq18 : goal.returns-then-kind-eq18
returns-then-kind-eq18 c = sym (two-wide-argument _ c.if-kind-eq18.true)

pub returns : goal.returns
returns c = sym (two-wide-pair _ c.if-kind-eq18.false)
