-- What an opening needs, what holds of a section while its entry is open, and what abandoning the entry leaves.
use Rattle.std.specs.Prelude.{Ok}
use Prim.Native.Nat.{ℕ, ◌+◌, ◌-◌, ◌≤◌, ◌<◌}
use native.Mathlib.Omega.{arith}
use mathlib.Core.Logic.{inl}
use mathlib.Core.Path.{◌≡◌, refl, sym, ap, ◌∙◌, subst}
use mathlib.Core.Bool.{Bool, true, false, cond}
use mathlib.Core.List.{List, [], ◌∷◌}
use borrow.Author.Tests.{eqb-true, lt-ltb, le-ltb, le-leb, eq-eqb}
use lib.Dec.{eqb, ltb}
use lib.ListN.{length, get_or}
use lib.Seq.{length-sets}
use Rattle.numbers.proofs.BytesLaws.{sets-outside}
use Rattle.fields.specs.Answer.{Answer}
use Rattle.fields.specs.declared.Refusal.{Refusal}
use Rattle.fields.specs.declared.Refusal.TheVariants as refusal
use Rattle.types.specs.Write.{head_shape, result_shape}
use Rattle.sections.specs.declared.Phase.{Phase}
use Rattle.sections.specs.declared.Phase.TheVariants.{Closed, Opened, Headed}
use Rattle.sections.specs.declared.Section.{Section}
use Rattle.sections.specs.Runs.{Step, Row, Open, Head, Result, Abandon, turn, runs, Accepted}
use Rattle.sections.specs.Section.{opened, holds_at, holds, sounds}
use Rattle.sections.specs.Steps.{Turn, turned, gives, refuse, taken, withdrawn, head_in, result_in, abandon_in, opening, heading, resulting, abandoning}
use Rattle.sections.proofs.TurnLaws.{Turns, refuses, stores, Grows, accepted_grows, either, shape_turns, row_turns, open_turns}
use Rattle.claims.specs.Steps.{StaysOpen, Restored}
use Rattle.numbers.proofs.Impossible.{impossible}

-- ---- an opening

-- what it needs, and no less the row of a function
pub record Ready (s : Section) (body : List ℕ) : Type 0 where
  pub sound : sounds s (length body) ≡ true
  pub closed : s.phase ≡ Closed
  pub few : eqb s.count 4294967295 ≡ false
  pub types : s.family ≡ 7

-- a phase in which no entry is open
pub is_closed : (p : Phase) → opened p ≡ false → p ≡ Closed
is_closed Closed e = refl
is_closed (Opened start) e = impossible cc
is_closed (Headed start) e = impossible cc

module _ (s : Section) (body : List ℕ) where
  abbrev opened_by : Bool → Bool → Bool → Bool → Turn
  opened_by b c d e =
      cond b
      (cond c (refuse s refusal.Order body)
      (cond d (refuse s refusal.Count body)
      (cond e (turned (taken s (Ok 0) (s.count + 1) (Opened s.used)) body) (refuse s refusal.Kind body))))
      (refuse s refusal.Limit body)

  pub open_ready : Accepted (opening s body) → Ready s body
  unfolding opening
  open_ready a = go (sounds s (length body)) (opened s.phase) (eqb s.count 4294967295) (eqb s.family 7) refl refl refl refl a
    where
      go : (b c d e : Bool) → sounds s (length body) ≡ b → opened s.phase ≡ c → eqb s.count 4294967295 ≡ d → eqb s.family 7 ≡ e
          → Accepted (opened_by b c d e) → Ready s body
      go true false false true p q r t a = record { sound = p; closed = is_closed s.phase q; few = r; types = eqb-true _ _ t }
      go true false false false p q r t a = absurd a
      go true false true e p q r t a = absurd a
      go true true d e p q r t a = absurd a
      go false c d e p q r t a = absurd a

  pub ready_opens : Ready s body → Accepted (opening s body)
  unfolding opening
  ready_opens k =
      let c : opened s.phase ≡ false = ap opened k.closed in
      let e : opened_by (sounds s (length body)) (opened s.phase) (eqb s.count 4294967295) (eqb s.family 7)
      ≡ opened_by true false false true =
      λ i. opened_by (k.sound i) (c i) (k.few i) (eq-eqb _ _ k.types i) in
      subst Accepted (sym e) tt

-- ---- an open entry

-- where the entry starts
abbrev pub start_of : Phase → ℕ
start_of Closed = 0
start_of (Opened start) = start
start_of (Headed start) = start

-- t over `new` is what s over `body` has become since its entry was opened
pub record Inside (s : Section) (body : List ℕ) (t : Section) (new : List ℕ) : Type 0 where
  pub start : start_of t.phase ≡ s.used
  pub types : t.family ≡ 7
  pub counts : t.count ≡ s.count + 1
  pub past : s.used ≤ t.used
  pub within : t.used ≤ length new
  pub size : length new ≡ length body
  pub kept : (i : ℕ) → i < s.used → get_or new i 0 ≡ get_or body i 0

module _ {s : Section} {body : List ℕ} {t : Section} {new : List ℕ} (k : Inside s body t new) where
  -- it can stand over its body
  inside_holds : holds_at t (start_of t.phase) ≡ true
  unfolding holds_at
  inside_holds =
      simp (
        eq-eqb _ _ k.types,
        le-leb (start_of t.phase) t.used (omega (arith, k.start, k.past)),
        lt-ltb 0 t.count (omega (arith, k.counts)),
      )

  pub inside_sounds : opened t.phase ≡ true → sounds t (length new) ≡ true
  unfolding sounds
  inside_sounds o = simp (le-ltb (length new) t.used k.within) (go t.phase o inside_holds)
    where
      go : (p : Phase) → opened p ≡ true → holds_at t (start_of p) ≡ true → holds p t ≡ true
      go Closed o h = impossible cc
      go (Opened start) o h = h
      go (Headed start) o h = h

  -- bytes behind the used part leave it so
  pub grows_inside : {bs end : List ℕ} {p : Phase} {u : Section} → Grows t new bs t.count p u end → start_of p ≡ s.used
      → Inside s body u end
  grows_inside {bs} {end} g e =
      let l : length end ≡ length new = ap length g.content ∙ length-sets new t.used bs in
      record {
        start = ap start_of g.stands ∙ e;
        types = g.family ∙ k.types;
        counts = g.counts ∙ k.counts;
        past = omega (arith, k.past, g.used);
        within = omega (arith, g.used, g.room, l);
        size = l ∙ k.size;
        kept =
            λ i h. ap (λ b. get_or b i 0) g.content ∙ sets-outside bs new t.used i (inl (omega (arith, h, k.past))) ∙ k.kept i h;
      }

-- an opening that is accepted
pub open-inside : (s : Section) (body : List ℕ) → Accepted (opening s body)
    → Inside s body (opening s body).gave.section (opening s body).body
open-inside s body a =
    let r = open_ready s body a in
    let g = accepted_grows (open_turns s body) a in
    let l : length (opening s body).body ≡ length body = ap length g.content in
    record {
      start = ap start_of g.stands;
      types = g.family ∙ r.types;
      counts = g.counts;
      past = omega (arith, g.used);
      within = omega (arith, g.used, g.room, l);
      size = l;
      kept = λ i h. ap (λ b. get_or b i 0) g.content;
    }

-- ---- steps while the entry is open

-- a turn that leaves the entry open leaves the section as it must be
abbrev Stays : Section → List ℕ → Turn → Type 0
Stays s body x = opened x.gave.section.phase ≡ true → Inside s body x.gave.section x.body

module _ {s : Section} {body : List ℕ} {t : Section} {new : List ℕ} (k : Inside s body t new) where
  turns_stay : {r : Answer} {bs : List ℕ} {p : Phase} {x : Turn} → (opened p ≡ true → start_of p ≡ s.used)
      → Turns t new r bs t.count p x → Stays s body x
  turns_stay {bs = bs} e (refuses w n) = λ o. k
  turns_stay {bs = bs} e (stores r h) =
      λ o. grows_inside k {bs = bs} (record { room = h; family = refl; used = refl; counts = refl; stands = refl; content = refl }) (e o)

  -- what closes the entry does not leave it open
  turns_close : {r : Answer} {bs : List ℕ} {count : ℕ} {x : Turn} → Turns t new r bs count Closed x → Stays s body x
  turns_close (refuses w n) = λ o. k
  turns_close (stores r h) = λ o. impossible cc

  head_stays : (words pool : List ℕ) (p : Phase) → start_of p ≡ s.used → Stays s body (head_in p t words pool new)
  head_stays words pool Closed e = λ o. k
  head_stays words pool (Opened start) e = turns_stay (λ o. e) (shape_turns t new t.count (Headed start) head_shape words pool)
  head_stays words pool (Headed start) e = λ o. k

  result_stays : (tag x : ℕ) (p : Phase) → Stays s body (result_in p t tag x new)
  result_stays tag x Closed = λ o. k
  result_stays tag x (Opened start) = λ o. k
  result_stays tag x (Headed start) = turns_close (shape_turns t new t.count Closed result_shape (tag ∷ x ∷ []) [])

  abandon_stays : (p : Phase) → Stays s body (abandon_in p t new)
  abandon_stays Closed = λ o. k
  abandon_stays (Opened start) = λ o. impossible cc
  abandon_stays (Headed start) = λ o. impossible cc

  refused_stays : (b : Bool) (w : Refusal) (x : Turn) → b ≡ true → Stays s body (cond b (refuse t w new) x)
  refused_stays true w x e = λ o. k
  refused_stays false w x e = impossible cc

  -- each of the five, where the entry was open before it
  turn_stays : (x : Step) → opened t.phase ≡ true → Stays s body (turn x t new)
  unfolding opening heading resulting abandoning
  turn_stays (Row row pool) h = turns_close (row_turns t new row pool)
  turn_stays Open h =
      either (Stays s body) (sounds t (length new)) _ _ (refused_stays (opened t.phase) refusal.Order _ h) (λ o. k)
  turn_stays (Head words pool) h =
      either (Stays s body) (sounds t (length new)) _ _
      (either (Stays s body) (ltb 16384 (length words)) _ _ (λ o. k)
      (either (Stays s body) (ltb 65536 (length pool)) _ _ (λ o. k) (head_stays words pool t.phase k.start)))
      (λ o. k)
  turn_stays (Result tag x) h = either (Stays s body) (sounds t (length new)) _ _ (result_stays tag x t.phase) (λ o. k)
  turn_stays Abandon h = either (Stays s body) (sounds t (length new)) _ _ (abandon_stays t.phase) (λ o. k)

-- an entry that stays open is open before the first step
stays-opened : (steps : List Step) (t : Section) (new : List ℕ) → StaysOpen steps t new → opened t.phase ≡ true
stays-opened [] t new o = o
stays-opened (x ∷ steps) t new o = o.0

runs-inside : (s : Section) (body : List ℕ) (steps : List Step) (t : Section) (new : List ℕ) → Inside s body t new → StaysOpen steps t new
    → Inside s body (runs steps t new).section (runs steps t new).body × (opened (runs steps t new).section.phase ≡ true)
runs-inside s body [] t new k o = (k, o)
runs-inside s body (x ∷ steps) t new k o =
    let u = turn x t new in
    runs-inside s body steps u.gave.section u.body
    (turn_stays k x o.0 (stays-opened steps u.gave.section u.body o.1)) o.1

-- ---- abandoning

abandon_back : (s : Section) (body : List ℕ) (t : Section) (new : List ℕ) → s.phase ≡ Closed → s.family ≡ 7 → Inside s body t new
    → opened t.phase ≡ true → abandoning t new ≡ turned (gives s (Ok 0)) new
unfolding abandoning
abandon_back s body t new c f k o = simp (inside_sounds k o) (go t.phase k.start o)
  where
    back : (start : ℕ) → start ≡ s.used → turned (withdrawn t start) new ≡ turned (gives s (Ok 0)) new
    back start e =
        let n : t.count - 1 ≡ s.count = omega (arith, k.counts) in
        λ i. turned (gives (record { family = (k.types ∙ sym f) i; used = e i; count = n i; phase = sym c i }) (Ok 0)) new

    go : (p : Phase) → start_of p ≡ s.used → opened p ≡ true → abandon_in p t new ≡ turned (gives s (Ok 0)) new
    go Closed e o = impossible cc
    go (Opened start) e o = back start e
    go (Headed start) e o = back start e

pub abandoned : (s : Section) (body : List ℕ) (steps : List Step) → Accepted (turn Open s body)
    → StaysOpen steps (turn Open s body).gave.section (turn Open s body).body → Restored s body steps
abandoned s body steps a o =
    let r = open_ready s body a in
    let t = opening s body in
    let k = runs-inside s body steps t.gave.section t.body (open-inside s body a) o in
    let u = runs steps t.gave.section t.body in
    let e : abandoning u.section u.body ≡ turned (gives s (Ok 0)) u.body =
    abandon_back s body u.section u.body r.closed r.types k.0 k.1 in
    record {
      accepted = subst Accepted (sym e) tt;
      state = ap (λ x. x.gave.section) e;
      used_part = λ i h. ap (λ x. get_or x.body i 0) e ∙ k.0.kept i h;
    }
