-- `group_wide` meets its contract: each arm is the group of its kinds.
use Rattle.fields.specs.Words.{wide}
use Rattle.fields.specs.Shape.{widths}
use Rattle.items.proofs.EndLaws.{record_group, variant_group, wide_as, wide-other}
use Rattle.items.proofs.groups.group_wide.Goals as goal

pub returns-in-1 : goal.returns-in-1
unfolding widths wide
returns-in-1 c = wide_as _ (record_group _ c.in-1.is)

pub returns-in-2 : goal.returns-in-2
unfolding widths wide
returns-in-2 c = wide_as _ (variant_group _ c.in-2.is)

pub returns-in_default : goal.returns-in_default
returns-in_default c = wide-other _ c.in_default.in_default-own.rest.0.1 c.in_default.in_default-own.rest.1
