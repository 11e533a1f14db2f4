-- What a sound state shows, and what a step comes to from the answer and the buffer that a writer leaves. Assumes nothing.
use Rattle.std.specs.Prelude.{Ok, Err}
use Prim.Native.Nat.{ℕ, ◌+◌, ◌^◌, ◌≤◌, ◌<◌}
use native.Mathlib.Omega.{arith}
use mathlib.Core.Path.{◌≡◌, refl, sym, ap, subst, ◌∙◌}
use mathlib.Core.Bool.{Bool, true, false, cond}
use mathlib.Core.List.{List}
use borrow.Author.Tests.{ltb-true, ltb-false, leb-true, eqb-true}
use lib.Dec.{eqb, ltb, leb}
use lib.ListN.{length}
use lib.Seq.{sets}
use Rattle.fields.specs.Answer.{Answer}
use Rattle.fields.specs.declared.Refusal.TheVariants as refusal
use Rattle.fields.specs.declared.Shape.{Shape}
use Rattle.fields.specs.Answers.{Left, left}
use Rattle.writing.specs.Write.{stored, write_shape}
use Rattle.fields.specs.Answers as answers
use Rattle.sections.specs.declared.Phase.{Phase}
use Rattle.sections.specs.declared.Phase.TheVariants.{Closed, Opened, Headed}
use Rattle.sections.specs.declared.Section.{Section}
use Rattle.sections.specs.declared.Turned.{Turned}
use Rattle.sections.specs.Section.{Types, Canonicals, Imports, CoreInstances, Instances, None, known, known_family, opened, holds_at, holds, sounds, write_family}
use Rattle.sections.specs.Steps.{turned, taken, wrote}
use Rattle.sections.specs.inside.Bounded.{Bounded}
use Rattle.sections.proofs.FamilyLaws.{family-stored}
use Rattle.numbers.proofs.Impossible.{impossible}

-- ---- tests

-- a test s, whose result is t
pub failed : {t s : Bool} → t ≡ s → t ≡ false → s ≡ false
failed e n = sym e ∙ n

pub passed : {t s : Bool} → t ≡ s → t ≡ true → s ≡ true
passed e n = sym e ∙ n

-- ---- a sound state

-- a test that must be false, and one that must hold
not_first : (x y : Bool) → cond x false y ≡ true → (x ≡ false) × (y ≡ true)
not_first true y e = impossible cc
not_first false y e = (refl, e)

both : (x y : Bool) → cond x y false ≡ true → (x ≡ true) × (y ≡ true)
both true y e = (refl, e)
both false y e = impossible cc

-- its used part is no longer than the body
pub used_le : (s : Section) (n : ℕ) → sounds s n ≡ true → s.used ≤ n
unfolding sounds
used_le s n e = ltb-false _ _ (not_first (ltb n s.used) (holds s.phase s) e).0

phase_holds : (s : Section) (n : ℕ) → sounds s n ≡ true → holds s.phase s ≡ true
unfolding sounds
phase_holds s n e = (not_first (ltb n s.used) (holds s.phase s) e).1

-- an open entry is a type's, and counted
held : (s : Section) (start : ℕ) → holds_at s start ≡ true → (s.family ≡ 7) × (0 < s.count)
unfolding holds_at
held s start e =
    let f = both (eqb s.family 7) (cond (leb start s.used) (ltb 0 s.count) false) e in
    let c = both (leb start s.used) (ltb 0 s.count) f.1 in
    (eqb-true _ _ f.0, ltb-true _ _ c.1)

pub count_positive : (s : Section) (n : ℕ) → sounds s n ≡ true → opened s.phase ≡ true → 0 < s.count
count_positive s n e o = go s.phase (phase_holds s n e) o
  where
    go : (p : Phase) → holds p s ≡ true → opened p ≡ true → 0 < s.count
    go Closed h o = impossible cc
    go (Opened start) h o = (held s start h).1
    go (Headed start) h o = (held s start h).1

-- its family is a byte
known_small : (family : ℕ) → known_family family ≡ true → family < 256
unfolding known_family
known_small family e =
    go (eqb family 7) refl (eqb family 8) refl (eqb family 10) refl (eqb family 2) refl (eqb family 5) refl e
  where
    go : (a : Bool) → eqb family 7 ≡ a → (b : Bool) → eqb family 8 ≡ b → (c : Bool) → eqb family 10 ≡ c → (d : Bool) → eqb family 2 ≡ d
        → (e : Bool) → eqb family 5 ≡ e
        → known (cond a Types (cond b Canonicals (cond c Imports (cond d CoreInstances (cond e Instances None))))) ≡ true → family < 256
    go true p b q c r d s e t k = omega (arith, eqb-true family 7 p)
    go false p true q c r d s e t k = omega (arith, eqb-true family 8 q)
    go false p false q true r d s e t k = omega (arith, eqb-true family 10 r)
    go false p false q false r true s e t k = omega (arith, eqb-true family 2 s)
    go false p false q false r false s true t k = omega (arith, eqb-true family 5 t)
    go false p false q false r false s false t k = impossible cc

pub family-small : (s : Section) (n : ℕ) → sounds s n ≡ true → s.family < 256
family-small s n e = go s.phase (phase_holds s n e)
  where
    go : (p : Phase) → holds p s ≡ true → s.family < 256
    go Closed h = known_small s.family h
    go (Opened start) h = omega (arith, (held s start h).0)
    go (Headed start) h = omega (arith, (held s start h).0)

-- ---- what a writer leaves

-- what was stored behind the used part lies in the buffer, so the grown part still has a length
stored-fits : (s : Section) (a : Answer) (bs out : List ℕ) → length out < 2 ^ 64 → Bounded s (stored a bs out s.used).answer
unfolding stored
stored-fits s (Err fault) bs out h = tt
stored-fits s (Ok m) bs out h = go (leb (s.used + m) (length out)) refl
  where
    go : (b : Bool) → leb (s.used + m) (length out) ≡ b
        → Bounded s (cond b (left (Ok m) (sets out s.used bs)) (answers.refuse refusal.Room m out)).answer
    go true e = omega (arith, leb-true (s.used + m) (length out) e)
    go false e = tt

-- what the writers leave was stored behind the used part
pub data Writer (s : Section) (out : List ℕ) : Left → Type 0 where
  storing : (a : Answer) (bs : List ℕ) → Writer s out (stored a bs out s.used)

pub shape_writer : (s : Section) (shape : Shape) (row : List ℕ) (start : ℕ) (pool out : List ℕ)
    → Writer s out (write_shape shape row start pool out s.used)
unfolding write_shape
shape_writer s shape row start pool out = storing _ _

pub family-writer : (s : Section) (row pool out : List ℕ) → Writer s out (write_family s.family row pool out s.used)
family-writer s row pool out = rw family-stored (storing _ _)

pub written-fits : {s : Section} {out b : List ℕ} {l : Left} {r : Answer} → Writer s out l → left r b ≡ l → length out < 2 ^ 64
    → Bounded s r
written-fits {s} {out} (storing a bs) e h = subst (λ (x : Left). Bounded s x.answer) (sym e) (stored-fits s a bs out h)

-- the step that takes what a writer left
pub as_wrote : (s : Section) (count : ℕ) (phase : Phase) {r : Answer} {b : List ℕ} {l : Left} {t : Turned}
    → left r b ≡ l → t ≡ taken s r count phase → turned t b ≡ wrote s count phase l
as_wrote s count phase {b = b} e g = ap (λ x. turned x b) g ∙ ap (wrote s count phase) e
