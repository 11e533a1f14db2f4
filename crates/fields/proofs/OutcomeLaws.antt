-- What answers hold: two that are the same hold the same refusals and numbers.
use Rattle.std.specs.Prelude.{◌≡◌, ℕ, Result, Ok, Err, IsErr, IsErrAnd}
use Rattle.std.proofs.Common.{ap, ◌∙◌}
use Rattle.std.proofs.lemmas.Result.{err_from_is_err_and}
use Rattle.fields.specs.Answer as answer
use Rattle.fields.specs.Flaw.{Wrong}
use Rattle.fields.specs.Leaf.{Fine, Bad}
use Rattle.fields.specs.Read as read
use Rattle.fields.specs.declared.Extent.{Extent}
use Rattle.fields.specs.declared.Fault.{Fault}
use Rattle.fields.specs.declared.Refusal.{Refusal}
use Rattle.fields.specs.declared.Refusal.TheVariants.{Limit}
use Rattle.fields.specs.declared.Span.{Span}

-- a number of what stands in an answer, where it stands there
abbrev ok_in : {A : Type 0} → (A → ℕ) → Result A Fault → ℕ
ok_in f (Ok x) = f x
ok_in f (Err fault) = 0

abbrev why_in : {A : Type 0} → Result A Fault → Refusal
why_in (Ok x) = Limit
why_in (Err fault) = fault.why

abbrev value_in : {A : Type 0} → Result A Fault → ℕ
value_in (Ok x) = 0
value_in (Err fault) = fault.value

pub fine-same : {t m u k : ℕ} → Fine t m ≡ Fine u k → (t ≡ u) × (m ≡ k)
fine-same e = (ap (ok_in (λ (s : Span). s.took)) e, ap (ok_in (λ (s : Span). s.made)) e)

pub bad-same : {w v : Refusal} {i j : ℕ} → Bad w i ≡ Bad v j → (w ≡ v) × (i ≡ j)
bad-same e = (ap why_in e, ap value_in e)

pub wrong-same : {w v : Refusal} {i j : ℕ} → Wrong w i ≡ Wrong v j → (w ≡ v) × (i ≡ j)
wrong-same e = (ap why_in e, ap value_in e)

pub item-same : {m t k u : ℕ} → read.Item m t ≡ read.Item k u → (m ≡ k) × (t ≡ u)
item-same e = (ap (ok_in (λ (x : Extent). x.words)) e, ap (ok_in (λ (x : Extent). x.took)) e)

pub refused-same : {w v : Refusal} {i j : ℕ} → answer.Refused w i ≡ answer.Refused v j → (w ≡ v) × (i ≡ j)
refused-same e = (ap why_in e, ap value_in e)

-- what `?` hands on is the fault that came
pub passed-on : {A : Type 0} {e : Fault} (r : Result A Fault) → IsErr r × IsErrAnd r (λ (y : Fault). y ≡ e) → r ≡ Err e
passed-on r h = let q = err_from_is_err_and r h.1 in q.1 ∙ ap Err q.2
