-- The bytes of each field, as the productions of the core and component binary documents, over the words of a row.
use Rattle.std.specs.Prelude.{ℕ, ◌+◌, ◌-◌, Bool, true, false, cond, List, [], ◌∷◌, ◌++◌, eqb, leb, length}
use Rattle.numbers.specs.Leb.{unsigned, signed}
use Rattle.fields.specs.declared.Field.{Field}
use Rattle.fields.specs.declared.Field.TheVariants as field
use Rattle.fields.specs.Words.{word, chars, indexed}

-- name ::= b*:vec(byte)
unfoldable pub name : List ℕ → ℕ → ℕ → List ℕ
name pool start size = unsigned size ++ chars pool start size

-- primvaltype ::= 0x7f => bool | 0x7e => s8 | .. | 0x73 => string | 0x64 => error-context
unfoldable pub primvaltype : ℕ → ℕ
primvaltype p = cond (eqb p 13) 0x64 (0x7f - p)

-- valtype ::= i:<typeidx> => i (an s33) | pvt:<primvaltype> => pvt
unfoldable pub valtype : ℕ → ℕ → List ℕ
valtype tag x = cond (eqb tag 0) (primvaltype x ∷ []) (signed x)

-- <T>? ::= 0x00 => none | 0x01 t:<T> => t
unfoldable pub optional : ℕ → ℕ → List ℕ
optional tag x = cond (eqb tag 2) (0x00 ∷ []) (0x01 ∷ valtype tag x)

-- resultlist ::= 0x00 t:<valtype> => t | 0x01 0x00 => none
unfoldable pub resultlist : ℕ → ℕ → List ℕ
resultlist tag x = cond (eqb tag 2) (0x01 ∷ 0x00 ∷ []) (0x00 ∷ valtype tag x)

-- functype ::= 0x40 .. | 0x43 .. (async)
unfoldable pub functype : ℕ → ℕ
functype a = cond (eqb a 0) 0x40 0x43

-- async? ::= 0x00 => none | 0x01 => async
unfoldable pub flag : ℕ → ℕ
flag a = cond (eqb a 0) 0x00 0x01

-- the representation of a resource: 0x7f => i32 | 0x7e => i64
unfoldable pub representation : ℕ → ℕ
representation rep = cond (eqb rep 0) 0x7f 0x7e

-- dtor? ::= 0x00 => none | 0x01 f:<funcidx> => f
unfoldable pub destructor : ℕ → ℕ → List ℕ
destructor present x = cond (eqb present 0) (0x00 ∷ []) (0x01 ∷ unsigned x)

-- canonopt ::= 0x00 => utf8 | 0x01 => utf16 | 0x02 => latin1+utf16 | 0x03 m | 0x04 f | 0x05 f | 0x06 => async | 0x07 f | 0x08 t | 0x09 => gc
unfoldable pub canonopt : ℕ → ℕ → List ℕ
canonopt k x = k ∷ cond (indexed k) (unsigned x) []

-- one option of an extern name, its words at i: its kind k and its string, where it is present
unfoldable pub slot_at : List ℕ → List ℕ → ℕ → ℕ → List ℕ
slot_at pool ws k i = cond (eqb (word ws i) 0) [] (k ∷ name pool (word ws (i + 1)) (word ws (i + 2)))

-- the options: 0x00 => implements | 0x01 => version suffix | 0x02 => external id
unfoldable pub slots_at : List ℕ → List ℕ → List ℕ
slots_at pool ws = slot_at pool ws 0x00 2 ++ (slot_at pool ws 0x01 5 ++ slot_at pool ws 0x02 8)

-- how many of them are present
unfoldable pub slots : List ℕ → ℕ
slots ws = flag (word ws 2) + (flag (word ws 5) + flag (word ws 8))

-- importname' ::= 0x00 n:<name> => n | 0x02 n:<name> o*:vec(<option>) => n o*
unfoldable pub externname : List ℕ → List ℕ → List ℕ
externname pool ws =
    cond (eqb (slots ws) 0) (0x00 ∷ name pool (word ws 0) (word ws 1))
    ((0x02 ∷ name pool (word ws 0) (word ws 1)) ++ (slots ws ∷ slots_at pool ws))

-- whether an option is absent, or its name ends within the pool; whether every name of an extern name does
unfoldable pub slot_inside : List ℕ → List ℕ → ℕ → Bool
slot_inside pool ws i = cond (eqb (word ws i) 0) true (leb (word ws (i + 1) + word ws (i + 2)) (length pool))

unfoldable pub extern_inside : List ℕ → List ℕ → Bool
extern_inside pool ws =
    cond (leb (word ws 0 + word ws 1) (length pool))
    (cond (slot_inside pool ws 2) (cond (slot_inside pool ws 5) (slot_inside pool ws 8) false) false) false

-- the bytes of an extern name whose names end within the pool, none where one does not
unfoldable pub extern_part : List ℕ → List ℕ → List ℕ
extern_part pool ws = cond (extern_inside pool ws) (externname pool ws) []

-- typebound ::= 0x00 i:<typeidx> => (eq i) | 0x01 => (sub resource)
unfoldable pub typebound : ℕ → ℕ → List ℕ
typebound bound x = cond (eqb bound 0) (0x00 ∷ unsigned x) (0x01 ∷ [])

-- externdesc ::= 0x00 0x11 i:<core:typeidx> => module | 0x01 i:<typeidx> => func | 0x02 t:<valtype> => value
--   | 0x03 b:<typebound> => type | 0x04 i:<typeidx> => component | 0x05 i:<typeidx> => instance
unfoldable pub externdesc : ℕ → ℕ → ℕ → List ℕ
externdesc sort x y =
    cond (eqb sort 0) (0x00 ∷ 0x11 ∷ unsigned x)
    (cond (eqb sort 2) (0x02 ∷ valtype x y) (cond (eqb sort 3) (0x03 ∷ typebound x y) (sort ∷ unsigned x)))

-- core:instantiatearg ::= n:<core:name> 0x12 i:<core:instanceidx> => (with n (instance i)), behind its name
unfoldable pub argument : ℕ → List ℕ
argument x = 0x12 ∷ unsigned x

-- core:sortidx ::= sort:<core:sort> idx:<u32>
-- core:sort ::= 0x00 => func | 0x01 => table | 0x02 => memory | 0x03 => global | 0x04 => tag
unfoldable pub coresortidx : ℕ → ℕ → List ℕ
coresortidx sort x = sort ∷ unsigned x

-- sortidx ::= sort:<sort> idx:<u32>
-- sort ::= 0x00 0x11 => core module | 0x01 => func | 0x02 => value | 0x03 => type | 0x04 => component | 0x05 => instance
unfoldable pub sortidx : ℕ → ℕ → List ℕ
sortidx sort x = cond (eqb sort 0) (0x00 ∷ 0x11 ∷ unsigned x) (sort ∷ unsigned x)

-- the bytes of a field whose words stand at the front of ws
unfoldable pub bytes : List ℕ → Field → List ℕ → List ℕ
bytes pool field.Nothing ws = []
bytes pool (field.Fixed b) ws = b ∷ []
bytes pool field.Primitive ws = primvaltype (word ws 0) ∷ []
bytes pool field.Value ws = valtype (word ws 0) (word ws 1)
bytes pool field.Optional ws = optional (word ws 0) (word ws 1)
bytes pool field.OptionalThenZero ws = optional (word ws 0) (word ws 1) ++ 0x00 ∷ []
bytes pool field.Result ws = resultlist (word ws 0) (word ws 1)
bytes pool field.Name ws = name pool (word ws 0) (word ws 1)
bytes pool field.Index ws = unsigned (word ws 0)
bytes pool field.Async ws = functype (word ws 0) ∷ []
bytes pool field.Flag ws = flag (word ws 0) ∷ []
bytes pool field.Rep ws = representation (word ws 0) ∷ []
bytes pool field.OptionalIndex ws = destructor (word ws 0) (word ws 1)
bytes pool field.Choice ws = canonopt (word ws 0) (word ws 1)
bytes pool field.ExternName ws = externname pool ws
bytes pool field.Reference ws = externdesc (word ws 0) (word ws 1) (word ws 2)
bytes pool field.Argument ws = argument (word ws 0)
bytes pool field.CoreSortIndex ws = coresortidx (word ws 0) (word ws 1)
bytes pool field.SortIndex ws = sortidx (word ws 0) (word ws 1)
