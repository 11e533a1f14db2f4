-- Steps one after the other from a section over its body on: what they come to, and whether each of them is accepted.
use Rattle.std.specs.Prelude.{Ok, Err, ℕ, ◌+◌, ◌≤◌, ◌<◌, List, [], ◌∷◌, ◌++◌, ◌⊎◌, ◌≡◌, length, get_or, take}
use Rattle.fields.specs.Answer.{Answer}
use Rattle.sections.specs.declared.Section.{Section}
use Rattle.sections.specs.Steps.{Turn, rowing, opening, heading, resulting, abandoning}
use Rattle.std.proofs.lemmas.List.Edits.{sets}
use Rattle.sections.specs.declared.Phase.TheVariants.{Closed}
use Rattle.sections.specs.Section.{family_bytes}

-- a step that is asked for: its words, and its pool where it has one
pub data Step : Type 0 where
  Row : List ℕ → List ℕ → Step
  Open : Step
  Head : List ℕ → List ℕ → Step
  Result : ℕ → ℕ → Step
  Abandon : Step

abbrev pub turn : Step → Section → List ℕ → Turn
turn (Row row pool) s body = rowing s row pool body
turn Open s body = opening s body
turn (Head words pool) s body = heading s words pool body
turn (Result tag x) s body = resulting s tag x body
turn Abandon s body = abandoning s body

-- a section over its body
pub record Stand : Type 0 where
  pub section : Section
  pub body : List ℕ

abbrev pub stand : Section → List ℕ → Stand
stand s body = record { section = s; body = body }

abbrev pub runs : List Step → Section → List ℕ → Stand
runs [] s body = stand s body
runs (x ∷ xs) s body = runs xs (turn x s body).gave.section (turn x s body).body

-- a turn is accepted where its answer is a size
abbrev pub IsSize : Answer → Type 0
IsSize (Ok n) = Unit {0}
IsSize (Err fault) = ⊥

abbrev pub Accepted : Turn → Type 0
Accepted t = IsSize t.gave.answer

-- and so is each of the steps
abbrev pub AllAccepted : List Step → Section → List ℕ → Type 0
AllAccepted [] s body = Unit {0}
AllAccepted (x ∷ xs) s body = Accepted (turn x s body) × AllAccepted xs (turn x s body).gave.section (turn x s body).body

-- rows beside their pools, as steps
pub record Entry : Type 0 where
  pub row : List ℕ
  pub pool : List ℕ

abbrev pub rows : List Entry → List Step
rows [] = []
rows (e ∷ es) = Row e.row e.pool ∷ rows es

-- where n bytes are counted, the body is as it was before the used part and from n bytes behind it on; where none, all is as it was
abbrev pub KeptBy : Section → List ℕ → Answer → Section → List ℕ → Type 0
KeptBy s body (Ok n) t new = (i : ℕ) → (i < s.used) ⊎ (s.used + n ≤ i) → get_or new i 0 ≡ get_or body i 0
KeptBy s body (Err fault) t new = (t ≡ s) × (new ≡ body)

abbrev pub Kept : Section → List ℕ → Turn → Type 0
Kept s body t = KeptBy s body t.gave.answer t.gave.section t.body

-- their bytes in order
abbrev pub all_bytes : ℕ → List Entry → List ℕ
all_bytes family [] = []
all_bytes family (e ∷ es) = family_bytes family e.pool e.row ++ all_bytes family es

-- the section and the body at the end, from a fresh section over `body` on
pub record Begun (family : ℕ) (es : List Entry) (body : List ℕ) (end : Stand) : Type 0 where
  pub family_is : end.section.family ≡ family
  pub used_is : end.section.used ≡ length (all_bytes family es)
  pub count_is : end.section.count ≡ length es
  pub closed : end.section.phase ≡ Closed
  pub content : end.body ≡ sets body 0 (all_bytes family es)
  pub used_part : take end.section.used end.body ≡ all_bytes family es

-- steps that leave what a row leaves, both from s on: an entry more of a section of types, which is closed
pub record AsRow (s : Section) (steps row : Stand) : Type 0 where
  pub same : steps ≡ row
  pub types : row.section.family ≡ 7
  pub closed : row.section.phase ≡ Closed
  pub counted : row.section.count ≡ s.count + 1
