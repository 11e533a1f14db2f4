-- Inputs of each call, one for each number that it can answer with, in the order of the numbers.
use Rattle.std.specs.Prelude.{Option, Some, None}
use Prim.Native.Nat.{ℕ, ◌+◌, ◌≤◌}
use native.Mathlib.Omega.{arith}
use mathlib.Core.Path.{◌≡◌}
use mathlib.Core.List.{List, [], ◌∷◌, ◌++◌}
use borrow.Author.Tests.{lt-ltb, le-ltb}
use lib.ListN.{length, take, replicate, length-take, length-replicate}
use Rattle.numbers.specs.Leb.{bytes_of}
use Rattle.fields.specs.declared.Field.TheVariants as field
use Rattle.fields.specs.declared.Shape.{Shape}
use Rattle.fields.specs.Table.{two_of}
use Rattle.fields.specs.Answers.{number_of_refusal, number_of}
use Rattle.sections.specs.declared.Phase.{Phase}
use Rattle.sections.specs.declared.Phase.TheVariants.{Closed, Opened, Headed}
use Rattle.sections.specs.declared.Section.{Section}
use Rattle.sections.specs.Finish.{framing, finishing}
use Rattle.sections.specs.Section.{fresh, known_family, sounds}
use Rattle.claims.specs.Numbers.{Met}
use Rattle.numbers.proofs.Impossible.{impossible}

-- what a list of inputs answers
abbrev pub each : {A B : Type 0} → (A → B) → List A → List B
each f [] = []
each f (x ∷ xs) = f x ∷ each f xs

pub meets : {A : Type 0} (f : A → ℕ) (xs : List A) (ns : List ℕ) → each f xs ≡ ns → Met f ns
meets f [] [] e = tt
meets f [] (n ∷ ns) e = impossible cc
meets f (x ∷ xs) [] e = impossible cc
meets f (x ∷ xs) (n ∷ ns) e =
    let head : f x ≡ n = cc in
    let tail : each f xs ≡ ns = cc in
    ((x, head), meets f xs ns tail)

-- ---- long inputs, of which no more than the length is computed

pub zeros : ℕ → List ℕ
zeros n = replicate n 0

pub zeros-length : (n : ℕ) → length (zeros n) ≡ n
unfolding zeros
zeros-length n = length-replicate n 0

-- a body of 4,294,967,295 bytes, all of them used: with its count it is TOO_BIG
pub too_big : (n : ℕ) → 4294967295 ≤ n → (body out : List ℕ) → length body ≡ n
    → number_of (finishing (record { family = 7; used = n; count = 1; phase = Closed }) body out).answer ≡ 7
unfolding finishing framing sounds known_family bytes_of number_of number_of_refusal
too_big n h body out e =
    simp (le-ltb (length body) n (omega arith), lt-ltb 4294967295 (1 + length (take n body)) (omega (arith, length-take n body)))

-- room for what is written
abbrev pub room : List ℕ
room = 0 ∷ 0 ∷ 0 ∷ 0 ∷ 0 ∷ 0 ∷ 0 ∷ 0 ∷ []

-- ---- numbers

-- OK, ROOM
abbrev pub copies : List (List ℕ × ℕ × List ℕ)
copies = (0 ∷ [], 0, room) ∷ (0 ∷ [], 0, []) ∷ []

abbrev pub puts : List (ℕ × ℕ × List ℕ)
puts = (0, 0, room) ∷ (0, 0, []) ∷ []

-- a V, a name and an extern name, with room and without
abbrev pub values : List (ℕ × ℕ × ℕ × List ℕ)
values = (0, 0, 0, room) ∷ (0, 0, 0, []) ∷ []

abbrev pub names : List (List ℕ × ℕ × ℕ × ℕ × List ℕ)
names = ([], 0, 0, 0, room) ∷ ([], 0, 0, 0, []) ∷ []

abbrev pub externs : List (List ℕ × List ℕ × ℕ × List ℕ)
externs = ([], [], 0, room) ∷ ([], [], 0, []) ∷ []

-- 2^32
abbrev past32 : List ℕ
past32 = 0x80 ∷ 0x80 ∷ 0x80 ∷ 0x80 ∷ 0x10 ∷ []

-- OK, CUT, NUMBER: a number past 32 bits, and one below zero
abbrev pub unsigneds : List (List ℕ)
unsigneds = (0x00 ∷ []) ∷ [] ∷ past32 ∷ []

abbrev pub signeds : List (List ℕ)
signeds = (0x00 ∷ []) ∷ [] ∷ (0x40 ∷ []) ∷ []

-- ---- rows beside their pools

-- the type bool, a row too long, a kind of imports, an empty row, primitive 14, flags with a name past the pool, and with one that is not UTF-8
abbrev pub types : List (List ℕ × List ℕ)
types =
    (0 ∷ 0 ∷ [], [])
    ∷ (zeros 16385, [])
    ∷ (17 ∷ [], [])
    ∷ ([], [])
    ∷ (0 ∷ 14 ∷ [], [])
    ∷ (7 ∷ 1 ∷ 0 ∷ 1 ∷ [], [])
    ∷ (7 ∷ 1 ∷ 0 ∷ 1 ∷ [], 0xff ∷ [])
    ∷ []

-- an import of a name of so many bytes, and of a sort
abbrev import : ℕ → ℕ → List ℕ
import size sort = 17 ∷ 0 ∷ size ∷ 0 ∷ 0 ∷ 0 ∷ 0 ∷ 0 ∷ 0 ∷ 0 ∷ 0 ∷ 0 ∷ sort ∷ 0 ∷ 0 ∷ []

-- such rows: one that is empty, a sort that is none, a name past the pool, and one that is not UTF-8
abbrev wrong : (ℕ → ℕ → List ℕ) → ℕ → List (List ℕ × List ℕ)
wrong row none = ([], []) ∷ (row 0 none, []) ∷ (row 1 1, []) ∷ (row 1 1, 0xff ∷ []) ∷ []

-- before them one that is right, a row too long, and a kind of types
abbrev named : (ℕ → ℕ → List ℕ) → ℕ → List (List ℕ × List ℕ)
named row none = (row 0 1, []) ∷ (zeros 16385, []) ∷ (0 ∷ [], []) ∷ wrong row none

abbrev pub imports : List (List ℕ × List ℕ)
imports = named import 6

-- a core instance of one item, and an instance of a component with one argument, by such a name and of a sort
abbrev item : ℕ → ℕ → List ℕ
item size sort = 20 ∷ 1 ∷ 0 ∷ size ∷ sort ∷ 0 ∷ []

abbrev pub core_instances : List (List ℕ × List ℕ)
core_instances = named item 5

abbrev instance_with : ℕ → ℕ → List ℕ
instance_with size sort = 19 ∷ 0 ∷ 1 ∷ 0 ∷ size ∷ sort ∷ 0 ∷ []

abbrev pub instances : List (List ℕ × List ℕ)
instances = named instance_with 6

-- task.cancel, a row too long, a kind of types, an empty row, subtask.cancel with a flag that is 2
abbrev pub canonicals : List (List ℕ × List ℕ)
canonicals = (261 ∷ [], []) ∷ (zeros 16385, []) ∷ (0 ∷ [], []) ∷ ([], []) ∷ (262 ∷ 2 ∷ [], []) ∷ []

-- all of them with room, and then a row that is right without
abbrev pub written : List (List ℕ × List ℕ) → List ℕ → List (List ℕ × List ℕ × List ℕ × ℕ)
written rows right = each (λ x. (x.0, x.1, room, 0)) rows ++ (right, [], [], 0) ∷ []

abbrev pub written_types : List (List ℕ × List ℕ × List ℕ × ℕ)
written_types = written types (0 ∷ 0 ∷ [])

abbrev pub written_imports : List (List ℕ × List ℕ × List ℕ × ℕ)
written_imports = written imports (import 0 1)

abbrev pub written_canonicals : List (List ℕ × List ℕ × List ℕ × ℕ)
written_canonicals = written canonicals (261 ∷ [])

abbrev pub written_core_instances : List (List ℕ × List ℕ × List ℕ × ℕ)
written_core_instances = written core_instances (item 0 1)

abbrev pub written_instances : List (List ℕ × List ℕ × List ℕ × ℕ)
written_instances = written instances (instance_with 0 1)

-- ---- the same imports by their shape, which asks for no kind

abbrev pub import_shape : Shape
import_shape = two_of field.Nothing field.Nothing field.ExternName field.Reference

abbrev pub shapes : List (Shape × List ℕ × ℕ × List ℕ)
shapes = each (λ x. (import_shape, x.0, 1, x.1)) ((import 0 1, []) ∷ (zeros 16385, []) ∷ wrong import 6)

abbrev pub founds : List (Option Shape × List ℕ × List ℕ)
founds =
    (Some import_shape, import 0 1, [])
    ∷ (Some import_shape, zeros 16385, [])
    ∷ (None, import 0 1, [])
    ∷ each (λ x. (Some import_shape, x.0, x.1)) (wrong import 6)

-- ---- reading: OK, a grade that is none, TEXT, ROOM, CUT, CODE, NUMBER, NEWER

abbrev pub read_types : List (ℕ × List ℕ × List ℕ)
read_types =
    (1, 0x7f ∷ [], room)
    ∷ (0, 0x7f ∷ [], room)
    ∷ (1, 0x6e ∷ 0x01 ∷ 0x01 ∷ 0xff ∷ [], room)
    ∷ (1, 0x7f ∷ [], [])
    ∷ (1, [], room)
    ∷ (1, 0x00 ∷ [], room)
    ∷ (1, 0x69 ∷ past32, room)
    ∷ (1, 0x64 ∷ [], room)
    ∷ []

abbrev pub read_imports : List (ℕ × List ℕ × List ℕ)
read_imports =
    (1, 0x00 ∷ 0x00 ∷ 0x01 ∷ 0x00 ∷ [], room ++ room)
    ∷ (0, 0x00 ∷ 0x00 ∷ 0x01 ∷ 0x00 ∷ [], room ++ room)
    ∷ (1, 0x00 ∷ 0x01 ∷ 0xff ∷ [], room ++ room)
    ∷ (1, 0x00 ∷ 0x00 ∷ 0x01 ∷ 0x00 ∷ [], room)
    ∷ (1, [], room ++ room)
    ∷ (1, 0x01 ∷ [], room ++ room)
    ∷ (1, 0x00 ∷ past32, room ++ room)
    ∷ (1, 0x02 ∷ [], room ++ room)
    ∷ []

-- those that are refused, and one that is whole
abbrev pub refused_items : List (Option Shape × ℕ × ℕ × List ℕ)
refused_items =
    (Some import_shape, 1, 0, 0x00 ∷ 0x00 ∷ 0x01 ∷ 0x00 ∷ [])
    ∷ (Some import_shape, 1, 1, 0x00 ∷ 0x01 ∷ 0xff ∷ [])
    ∷ (Some import_shape, 1, 1, 0x00 ∷ 0x00 ∷ 0x01 ∷ 0x00 ∷ [])
    ∷ (Some import_shape, 1, 1, [])
    ∷ (Some import_shape, 1, 1, 0x01 ∷ [])
    ∷ (Some import_shape, 1, 1, 0x00 ∷ past32)
    ∷ (Some import_shape, 1, 1, 0x02 ∷ [])
    ∷ []

-- ---- sections

-- an open entry at the start of the body, in a phase
abbrev entry : Phase → Section
entry phase = record { family = 7; used = 0; count = 1; phase = phase }

-- a row of one byte, which can not stand over an empty body; the largest count; the longest body
abbrev past : Section
past = record { family = 7; used = 1; count = 1; phase = Closed }

abbrev full : Section
full = record { family = 7; used = 0; count = 4294967295; phase = Closed }

abbrev long : Section
long = record { family = 7; used = 4294967295; count = 1; phase = Closed }

abbrev pub by_family : List (ℕ × List ℕ × List ℕ × List ℕ × ℕ)
by_family = each (λ x. (7, x.0, x.1, x.2, x.3)) written_types

-- the type rows in a fresh section; and then ROOM, ORDER, COUNT
abbrev pub row_steps : List (Section × List ℕ × List ℕ × List ℕ)
row_steps =
    each (λ x. (fresh 7, x.0, x.1, x.2)) written_types
    ++ (entry (Opened 0), 0 ∷ 0 ∷ [], [], room) ∷ (full, 0 ∷ 0 ∷ [], [], room) ∷ []

-- OK, LIMIT, KIND, ORDER, COUNT
abbrev pub open_steps : List (Section × List ℕ)
open_steps = (fresh 7, room) ∷ (past, []) ∷ (fresh 8, room) ∷ (entry (Opened 0), room) ∷ (full, room) ∷ []

-- OK, LIMIT, ROW, TAG, RANGE, TEXT, ROOM, ORDER
abbrev pub head_steps : List (Section × List ℕ × List ℕ × List ℕ)
head_steps =
    (entry (Opened 0), 0 ∷ 0 ∷ [], [], room)
    ∷ (past, 0 ∷ 0 ∷ [], [], [])
    ∷ (entry (Opened 0), [], [], room)
    ∷ (entry (Opened 0), 2 ∷ 0 ∷ [], [], room)
    ∷ (entry (Opened 0), 0 ∷ 1 ∷ 0 ∷ 1 ∷ 0 ∷ 0 ∷ [], [], room)
    ∷ (entry (Opened 0), 0 ∷ 1 ∷ 0 ∷ 1 ∷ 0 ∷ 0 ∷ [], 0xff ∷ [], room)
    ∷ (entry (Opened 0), 0 ∷ 0 ∷ [], [], [])
    ∷ (entry (Headed 0), 0 ∷ 0 ∷ [], [], room)
    ∷ []

-- OK, LIMIT, TAG, ROOM, ORDER
abbrev pub result_steps : List (Section × ℕ × ℕ × List ℕ)
result_steps =
    (entry (Headed 0), 2, 0, room)
    ∷ (past, 2, 0, [])
    ∷ (entry (Headed 0), 3, 0, room)
    ∷ (entry (Headed 0), 2, 0, [])
    ∷ (fresh 7, 2, 0, room)
    ∷ []

-- the parts of a function without a state: OK, LIMIT, ROW, TAG, RANGE, TEXT, ROOM; OK, TAG, ROOM
abbrev pub head_parts : List (List ℕ × List ℕ × List ℕ × ℕ)
head_parts =
    (0 ∷ 0 ∷ [], [], room, 0)
    ∷ (zeros 16385, [], room, 0)
    ∷ ([], [], room, 0)
    ∷ (2 ∷ 0 ∷ [], [], room, 0)
    ∷ (0 ∷ 1 ∷ 0 ∷ 1 ∷ 0 ∷ 0 ∷ [], [], room, 0)
    ∷ (0 ∷ 1 ∷ 0 ∷ 1 ∷ 0 ∷ 0 ∷ [], 0xff ∷ [], room, 0)
    ∷ (0 ∷ 0 ∷ [], [], [], 0)
    ∷ []

abbrev pub result_parts : List (ℕ × ℕ × List ℕ × ℕ)
result_parts = (2, 0, room, 0) ∷ (3, 0, room, 0) ∷ (2, 0, [], 0) ∷ []

-- OK, LIMIT, ORDER
abbrev pub abandon_steps : List (Section × List ℕ)
abandon_steps = (entry (Opened 0), room) ∷ (past, []) ∷ (fresh 7, room) ∷ []

-- OK, LIMIT, TOO_BIG, ROOM, ORDER
abbrev pub finishes : List (Section × List ℕ × List ℕ)
finishes = (fresh 7, [], room) ∷ (past, [], room) ∷ (long, zeros 4294967295, room) ∷ (fresh 7, [], []) ∷ (entry (Opened 0), [], room) ∷ []

-- ---- sheets: version and length of the pool, the pool, and a row: its word count and its words

abbrev word : ℕ → List ℕ → List ℕ
word w rest = 0 ∷ 0 ∷ 0 ∷ w ∷ rest

-- OK, LIMIT, KIND, ROW, TAG, RANGE, TEXT, ROOM, SHEET
abbrev pub sheets : List (List ℕ × List ℕ × List ℕ)
sheets =
    (1 ∷ word 0 (word 2 (word 0 (word 0 []))), room, room)
    ∷ (zeros 65537, room, room)
    ∷ (1 ∷ word 0 (word 1 (word 22 [])), room, room)
    ∷ (1 ∷ word 0 (word 0 []), room, room)
    ∷ (1 ∷ word 0 (word 2 (word 0 (word 14 []))), room, room)
    ∷ (1 ∷ word 0 (word 4 (word 7 (word 1 (word 0 (word 1 []))))), room, room)
    ∷ (1 ∷ word 1 (0xff ∷ word 4 (word 7 (word 1 (word 0 (word 1 []))))), room, room)
    ∷ (1 ∷ word 0 (word 2 (word 0 (word 0 []))), [], room)
    ∷ ([], room, room)
    ∷ []
