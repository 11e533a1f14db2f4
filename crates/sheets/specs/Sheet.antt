-- A sheet: its framing whole, then all rows tried in order with body and output room, and then the bytes.
use Rattle.std.specs.Prelude.{Err, Ok, ℕ, ◌+◌, cond, List, [], ◌∷◌, ◌++◌, eqb, ltb, leb, length}
use Rattle.std.proofs.lemmas.List.Edits.{sets}
use Rattle.numbers.specs.Leb.{unsigned}
use Rattle.fields.specs.Answer.{Answer, Refused}
use Rattle.fields.specs.declared.Refusal.{Refusal}
use Rattle.fields.specs.declared.Refusal.TheVariants as refusal
use Rattle.fields.specs.Leaf.{Leaf, Fine, Bad}
use Rattle.fields.specs.Words.{word}
use Rattle.sections.specs.Finish as finish
use Rattle.sections.specs.Section.{measured_family, family_bytes}
use Rattle.sheets.specs.Frame.{Rows, Are, Broken, framed, pool_of}
use Rattle.fields.specs.Limits.{sheet_bytes}

-- what the routine leaves: its answer, the body and the output
pub record Left : Type 0 where
  pub answer : Answer
  pub body : List ℕ
  pub out : List ℕ

abbrev pub left : Answer → List ℕ → List ℕ → Left
left r body out = record { answer = r; body = body; out = out }

abbrev pub refuse : Refusal → ℕ → List ℕ → List ℕ → Left
refuse w n body out = left (Refused w n) body out

-- the first row sets the family, by its kind: canonicals, imports, core instances (18 and 20), instances (19 and 21), else types
unfoldable pub family_of : ℕ → ℕ
family_of kind =
    cond (leb 256 kind) 8
    (cond (eqb kind 17) 10
    (cond (eqb kind 18) 2 (cond (eqb kind 19) 5 (cond (eqb kind 20) 2 (cond (eqb kind 21) 5 7)))))

-- a row's answer, with `used` of `room` bytes taken and r rows before it
abbrev pub tried : Answer → ℕ → ℕ → ℕ → (ℕ → Leaf) → Leaf
tried (Ok m) room used r go = cond (leb (used + m) room) (go (used + m)) (Bad refusal.Room r)
tried (Err fault) room used r go = Bad fault.why r

-- all rows in order: how many there are and the bytes they take, or the first refusal and its row
unfoldable pub tries : ℕ → List ℕ → ℕ → List (List ℕ) → ℕ → ℕ → Leaf
tries family pool room [] r used = Fine r used
tries family pool room (row ∷ rows) r used =
    tried (measured_family family row pool) room used r (λ u. tries family pool room rows (r + 1) u)

-- their bytes
unfoldable pub joined : ℕ → List ℕ → List (List ℕ) → List ℕ
joined family pool [] = []
joined family pool (row ∷ rows) = family_bytes family pool row ++ joined family pool rows

-- the finished section of r rows: output short is ROOM at the number of rows
abbrev pub section : ℕ → ℕ → List ℕ → List ℕ
section family r bytes = finish.framed family (length (unsigned r) + length bytes) r bytes

unfoldable pub finished : ℕ → ℕ → List ℕ → List ℕ → List ℕ → Left
finished family r bytes body out =
    cond (leb (length (section family r bytes)) (length out))
    (left (Ok (length (section family r bytes))) (sets body 0 bytes) (sets out 0 (section family r bytes)))
    (refuse refusal.Room r body out)

abbrev pub written : Leaf → ℕ → List ℕ → List ℕ → List ℕ → Left
written (Ok span) family bytes body out = finished family span.took bytes body out
written (Err fault) family bytes body out = refuse fault.why fault.value body out

abbrev pub of_rows : Rows → List ℕ → List ℕ → List ℕ → Left
of_rows Broken pool body out = refuse refusal.Sheet 0 body out
of_rows (Are []) pool body out = refuse refusal.Sheet 0 body out
of_rows (Are (row ∷ rows)) pool body out =
    written (tries (family_of (word row 0)) pool (length body) (row ∷ rows) 0 0) (family_of (word row 0))
    (joined (family_of (word row 0)) pool (row ∷ rows)) body out

-- a sheet too long is LIMIT
unfoldable pub sheeted : List ℕ → List ℕ → List ℕ → Left
sheeted input body out =
    cond (ltb sheet_bytes (length input)) (refuse refusal.Limit 0 body out) (of_rows (framed input) (pool_of input) body out)
