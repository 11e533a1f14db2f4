-- Kind 17: the imports of the component binary document.
use Rattle.std.specs.Prelude.{List, [], ◌∷◌, ◌++◌}
use Rattle.fields.specs.declared.Field.TheVariants as field
use Rattle.fields.specs.Words.{word}
use Rattle.writing.specs.Binary.{externname, externdesc}
use Rattle.fields.specs.Table.{Line, line, two_of}

abbrev pub table : List Line
table =
    -- import ::= in:<importname'> ed:<externdesc> => (import in ed)
    line 17 (two_of field.Nothing field.Nothing field.ExternName field.Reference)
    (λ pool ws. externname pool ws ++ externdesc (word ws 11) (word ws 12) (word ws 13))
    ∷ []
