-- The line of the table of imports agrees: what its shape writes is what its production says.
use mathlib.Core.Path.{refl, ◌∙◌}
use lib.Seq.{get_or-drop}
use Rattle.fields.specs.declared.Field.TheVariants as field
use Rattle.writing.specs.Binary.{bytes}
use Rattle.fields.specs.Words.{wide}
use Rattle.writing.specs.Agree.{Agrees, All}
use Rattle.writing.proofs.ProductionLaws.{two_bytes}
use Rattle.imports.specs.Table.{table}

pub imports-agree : All Agrees table
unfolding wide bytes
imports-agree = ((λ pool row e m r. two_bytes pool row e m field.Nothing field.Nothing field.ExternName field.Reference refl refl r ∙ simp get_or-drop), tt)
