-- Kinds 18 to 21: the core instances and the instances of the component binary document, a production a line.
use Rattle.std.specs.Prelude.{ℕ, List, [], ◌∷◌, ◌++◌, drop}
use Rattle.numbers.specs.Leb.{unsigned}
use Rattle.fields.specs.declared.Field.TheVariants as field
use Rattle.fields.specs.Words.{word}
use Rattle.writing.specs.Binary.{name, externname, argument, coresortidx, sortidx}
use Rattle.fields.specs.Table.{Line, line, many_of, vec}

-- core:instantiatearg ::= n:<core:name> 0x12 i:<instanceidx> => (with n (instance i))
abbrev pub coreinstantiatearg : List ℕ → List ℕ → List ℕ
coreinstantiatearg pool ws = name pool (word ws 0) (word ws 1) ++ argument (word ws 2)

-- core:inlineexport ::= n:<core:name> si:<core:sortidx> => (export n si)
abbrev pub coreinlineexport : List ℕ → List ℕ → List ℕ
coreinlineexport pool ws = name pool (word ws 0) (word ws 1) ++ coresortidx (word ws 2) (word ws 3)

-- instantiatearg ::= n:<name> si:<sortidx> => (with n si)
abbrev pub instantiatearg : List ℕ → List ℕ → List ℕ
instantiatearg pool ws = name pool (word ws 0) (word ws 1) ++ sortidx (word ws 2) (word ws 3)

-- inlineexport ::= n:<exportname'> si:<sortidx> => (export n si)
abbrev pub inlineexport : List ℕ → List ℕ → List ℕ
inlineexport pool ws = externname pool ws ++ sortidx (word ws 11) (word ws 12)

-- core:instance ::= ie:<core:instanceexpr> => (instance ie), section 2
abbrev pub core_table : List Line
core_table =
    -- core:instanceexpr ::= 0x00 m:<moduleidx> arg*:vec(<core:instantiatearg>) => (instantiate m arg*)
    line 18 (many_of (field.Fixed 0x00) field.Nothing field.Index field.Name field.Argument field.Nothing)
    (λ pool ws. 0x00 ∷ (unsigned (word ws 0) ++ vec 3 (coreinstantiatearg pool) (drop 1 ws)))
    -- | 0x01 e*:vec(<core:inlineexport>) => e*
    ∷ line 20 (many_of (field.Fixed 0x01) field.Nothing field.Nothing field.Name field.CoreSortIndex field.Nothing)
    (λ pool ws. 0x01 ∷ vec 4 (coreinlineexport pool) ws)
    ∷ []

-- instance ::= ie:<instanceexpr> => (instance ie), section 5
abbrev pub table : List Line
table =
    -- instanceexpr ::= 0x00 c:<componentidx> arg*:vec(<instantiatearg>) => (instantiate c arg*)
    line 19 (many_of (field.Fixed 0x00) field.Nothing field.Index field.Name field.SortIndex field.Nothing)
    (λ pool ws. 0x00 ∷ (unsigned (word ws 0) ++ vec 4 (instantiatearg pool) (drop 1 ws)))
    -- | 0x01 e*:vec(<inlineexport>) => e*
    ∷ line 21 (many_of (field.Fixed 0x01) field.Nothing field.Nothing field.ExternName field.SortIndex field.Nothing)
    (λ pool ws. 0x01 ∷ vec 13 (inlineexport pool) ws)
    ∷ []
