-- Each step's equation is put behind those before it: the state and the body that stand there are those of the steps by value.
use Rattle.std.specs.Prelude.{Ok}
use Rattle.std.proofs.Common.{◌≡◌, ℕ, List, refl, sym, ap}
use Rattle.fields.specs.Answer.{Answer}
use Rattle.fields.specs.Answers.{left}
use Rattle.sections.specs.declared.Section.{Section}
use Rattle.sections.specs.Section.{fresh}
use Rattle.sections.specs.Steps.{Turn, turned, gives, rowing, opening, heading, resulting, abandoning}
use Rattle.sections.specs.Finish.{finishing}
use Rattle.box_loop.specs.Script.{after, closed}
use Rattle.box_loop.proofs.by_lending.Goals as goal

-- a step left that state and that body
record Stands (t : Turn) (s : Section) (b : List ℕ) : Type 0 where
  section : t.gave.section ≡ s
  body : t.body ≡ b

on :
    (step : Section → List ℕ → Turn) {t : Turn} {s s' : Section} {b b' : List ℕ} {a : Answer} → Stands t s b
    → turned (gives s' a) b' ≡ step s b → Stands (after step t) s' b'
unfolding after
on step {s' = s'} {b' = b'} {a = a} w e = record {
  section = rw (w.section, w.body) (ap (λ (x : Turn). x.gave.section) (sym e));
  body = rw (w.section, w.body) (ap (λ (x : Turn). x.body) (sym e));
}

last :
    {t : Turn} {s : Section} {b o : List ℕ} {a : Answer} (out : List ℕ) → Stands t s b → left a o ≡ finishing s b out
    → (left a o ≡ closed t out) × (b ≡ t.body)
last out w e = (rw (w.section, w.body) e, sym w.body)

pub returns : goal.returns
returns c =
    let row = c.args.row.now in
    let words = c.args.words.now in
    let pool = c.args.pool.now in
    let t0 : Stands (turned (gives (fresh 7) (Ok 0)) c.args.body.now) c.new-section.result c.args.body.now =
    record { section = sym c.new-section.ensures; body = refl } in
    let t1 = on (λ s b. rowing s row pool b) t0 c.row.ensures in
    let t2 = on (λ s b. rowing s words pool b) t1 c.row-2.ensures in
    let t3 = on opening t2 c.open.ensures in
    let t4 = on opening t3 c.open-2.ensures in
    let t5 = on (λ s b. resulting s 0 12 b) t4 c.result.ensures in
    let t6 = on (λ s b. heading s words pool b) t5 c.head.ensures in
    let t7 = on (λ s b. resulting s 0 12 b) t6 c.result-2.ensures in
    let t8 = on opening t7 c.open-3.ensures in
    let t9 = on (λ s b. heading s words pool b) t8 c.head-2.ensures in
    let t10 = on abandoning t9 c.abandon.ensures in
    last c.args.out.now t10 c.finish-finished.ensures
