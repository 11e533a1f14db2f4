-- The bytes of a field that is right are bytes: below 256.
use Prim.Native.Nat.{ℕ, zero, suc, ◌+◌, ◌^◌, ◌≤◌, ◌<◌}
use native.Mathlib.Omega.{arith}
use mathlib.Core.Path.{◌≡◌}
use mathlib.Core.Bool.{Bool, true, false, cond}
use mathlib.Core.List.{List, [], ◌∷◌, ◌++◌}
use lib.Dec.{eqb}
use lib.ListN.{take, drop}
use lib.Seq.{get_or-drop}
use Rattle.numbers.specs.Bytes.{Bytes}
use Rattle.numbers.specs.Integers.{u32, s33}
use Rattle.numbers.specs.Leb.{unsigned, signed}
use Rattle.numbers.proofs.LebLaws.{put-bytes}
use Rattle.fields.specs.declared.Field.{Field}
use Rattle.fields.specs.declared.Field.TheVariants as field
use Rattle.fields.specs.Flaw.{Right}
use Rattle.fields.specs.Words.{word, Words, indexed}
use Rattle.writing.specs.Binary.{name, primvaltype, valtype, optional, resultlist, functype, flag, representation, destructor, canonopt, slot_at, slots_at, slots, externname, typebound, externdesc, bytes, argument, coresortidx, sortidx}
use Rattle.writing.specs.Judge.{flaw}
use Rattle.writing.proofs.FlawLaws.{choice-below, reference-below, below_is}

-- ---- lists of bytes

-- the same as `Bytes`, by the list's elements
pub data ByteList : List ℕ → Type 0 where
  none : ByteList []
  some : {b : ℕ} {s : List ℕ} → b < 2 ^ 8 → ByteList s → ByteList (b ∷ s)

pub to_bytes : {s : List ℕ} → ByteList s → Bytes s
to_bytes none i = omega arith
to_bytes (some h f) zero = h
to_bytes (some h f) (suc i) = to_bytes f i

pub of_bytes : (s : List ℕ) → Bytes s → ByteList s
of_bytes [] f = none
of_bytes (b ∷ s) f = some (f 0) (of_bytes s (λ i. f (suc i)))

pub append-bytes : {a b : List ℕ} → ByteList a → ByteList b → ByteList (a ++ b)
append-bytes none g = g
append-bytes (some h f) g = some h (append-bytes f g)

drop-bytes : (k : ℕ) {s : List ℕ} → ByteList s → ByteList (drop k s)
drop-bytes zero f = f
drop-bytes (suc k) none = none
drop-bytes (suc k) (some h f) = drop-bytes k f

take-bytes : (k : ℕ) {s : List ℕ} → ByteList s → ByteList (take k s)
take-bytes zero f = none
take-bytes (suc k) none = none
take-bytes (suc k) (some h f) = some h (take-bytes k f)

cond-bytes : (t : Bool) {a b : List ℕ} → ByteList a → ByteList b → ByteList (cond t a b)
cond-bytes true f g = f
cond-bytes false f g = g

cond_byte : (t : Bool) {a b : ℕ} → a < 2 ^ 8 → b < 2 ^ 8 → cond t a b < 2 ^ 8
cond_byte true f g = f
cond_byte false f g = g

-- ---- words of 32 bits

pub drop-words : (k : ℕ) (ws : List ℕ) → Words ws → Words (drop k ws)
drop-words k ws f i = rw (get_or-drop k ws i 0) (f (k + i))

-- a fixed byte is one
abbrev pub Byte : Field → Type 0
Byte field.Nothing = Unit {0}
Byte (field.Fixed b) = b < 2 ^ 8
Byte field.Primitive = Unit {0}
Byte field.Value = Unit {0}
Byte field.Optional = Unit {0}
Byte field.OptionalThenZero = Unit {0}
Byte field.Result = Unit {0}
Byte field.Name = Unit {0}
Byte field.Index = Unit {0}
Byte field.Async = Unit {0}
Byte field.Flag = Unit {0}
Byte field.Rep = Unit {0}
Byte field.OptionalIndex = Unit {0}
Byte field.Choice = Unit {0}
Byte field.ExternName = Unit {0}
Byte field.Reference = Unit {0}
Byte field.Argument = Unit {0}
Byte field.CoreSortIndex = Unit {0}
Byte field.SortIndex = Unit {0}

pub flag_small : (a : ℕ) → flag a ≤ 1
unfolding flag
flag_small a = go (eqb a 0)
  where
    go : (t : Bool) → cond t 0x00 0x01 ≤ 1
    go true = omega arith
    go false = omega arith

module _ (pool : List ℕ) (fp : ByteList pool) (ws : List ℕ) (fw : Words ws) where
  index_bytes : (i : ℕ) → ByteList (unsigned (word ws i))
  index_bytes i = of_bytes (unsigned (word ws i)) (put-bytes u32 (word ws i) (fw i))

  name_bytes : (i j : ℕ) → ByteList (name pool (word ws i) (word ws j))
  unfolding name
  name_bytes i j = append-bytes (index_bytes j) (take-bytes (word ws j) (drop-bytes (word ws i) fp))

  prim_byte : (p : ℕ) → primvaltype p < 2 ^ 8
  unfolding primvaltype
  prim_byte p = cond_byte (eqb p 13) (omega arith) (omega arith)

  value_bytes : (i j : ℕ) → ByteList (valtype (word ws i) (word ws j))
  unfolding valtype
  value_bytes i j =
      cond-bytes (eqb (word ws i) 0) (some (prim_byte (word ws j)) none) (of_bytes (signed (word ws j)) (put-bytes s33 (word ws j) (fw j)))

  optional_bytes : (i j : ℕ) → ByteList (optional (word ws i) (word ws j))
  unfolding optional
  optional_bytes i j = cond-bytes (eqb (word ws i) 2) (some (omega arith) none) (some (omega arith) (value_bytes i j))

  slot_bytes : (k i : ℕ) → k < 2 ^ 8 → ByteList (slot_at pool ws k i)
  unfolding slot_at
  slot_bytes k i h = cond-bytes (eqb (word ws i) 0) none (some h (name_bytes (i + 1) (i + 2)))

  extern_bytes : ByteList (externname pool ws)
  unfolding externname slots_at slots
  extern_bytes =
      cond-bytes (eqb (slots ws) 0) (some (omega arith) (name_bytes 0 1))
      (append-bytes (some (omega arith) (name_bytes 0 1))
      (some (omega (arith, flag_small (word ws 2), flag_small (word ws 5), flag_small (word ws 8)))
      (append-bytes (slot_bytes 0x00 2 (omega arith)) (append-bytes (slot_bytes 0x01 5 (omega arith)) (slot_bytes 0x02 8 (omega arith))))))

  reference_bytes : word ws 0 < 6 → ByteList (externdesc (word ws 0) (word ws 1) (word ws 2))
  unfolding externdesc typebound
  reference_bytes h =
      cond-bytes (eqb (word ws 0) 0) (some {b = 0x00} (omega arith) (some {b = 0x11} (omega arith) (index_bytes 1)))
      (cond-bytes (eqb (word ws 0) 2) (some (omega arith) (value_bytes 1 2))
      (cond-bytes (eqb (word ws 0) 3)
      (some (omega arith) (cond-bytes (eqb (word ws 1) 0) (some (omega arith) (index_bytes 2)) (some (omega arith) none)))
      (some (omega arith) (index_bytes 1))))

  pub field_bytes : (f : Field) → Byte f → flaw pool f ws ≡ Right → ByteList (bytes pool f ws)
  unfolding bytes flaw resultlist functype flag representation destructor canonopt argument coresortidx sortidx
  field_bytes field.Nothing b e = none
  field_bytes (field.Fixed x) b e = some b none
  field_bytes field.Primitive b e = some (prim_byte (word ws 0)) none
  field_bytes field.Value b e = value_bytes 0 1
  field_bytes field.Optional b e = optional_bytes 0 1
  field_bytes field.OptionalThenZero b e = append-bytes (optional_bytes 0 1) (some (omega arith) none)
  field_bytes field.Result b e =
      cond-bytes (eqb (word ws 0) 2) (some (omega arith) (some (omega arith) none)) (some (omega arith) (value_bytes 0 1))
  field_bytes field.Name b e = name_bytes 0 1
  field_bytes field.Index b e = index_bytes 0
  field_bytes field.Async b e = some (cond_byte (eqb (word ws 0) 0) {a = 0x40} {b = 0x43} (omega arith) (omega arith)) none
  field_bytes field.Flag b e = some (cond_byte (eqb (word ws 0) 0) {a = 0x00} {b = 0x01} (omega arith) (omega arith)) none
  field_bytes field.Rep b e = some (cond_byte (eqb (word ws 0) 0) {a = 0x7f} {b = 0x7e} (omega arith) (omega arith)) none
  field_bytes field.OptionalIndex b e = cond-bytes (eqb (word ws 0) 0) (some (omega arith) none) (some (omega arith) (index_bytes 1))
  field_bytes field.Choice b e =
      some {b = word ws 0} (omega (arith, choice-below ws e)) (cond-bytes (indexed (word ws 0)) (index_bytes 1) none)
  field_bytes field.ExternName b e = extern_bytes
  field_bytes field.Reference b e = reference_bytes (reference-below ws e)
  field_bytes field.Argument b e = some {b = 0x12} (omega arith) (index_bytes 0)
  field_bytes field.CoreSortIndex b e = some {b = word ws 0} (omega (arith, below_is 5 ws 0 e)) (index_bytes 1)
  field_bytes field.SortIndex b e =
      cond-bytes (eqb (word ws 0) 0) (some {b = 0x00} (omega arith) (some {b = 0x11} (omega arith) (index_bytes 1)))
      (some {b = word ws 0} (omega (arith, below_is 6 ws 0 e)) (index_bytes 1))
