-- The finished section: N:byte size:u32 cont, where cont is the count and the body (core 5.5.2).
use Rattle.std.specs.Prelude.{Ok, ℕ, ◌+◌, cond, List, ◌∷◌, ◌++◌, ltb, length, take}
use Rattle.numbers.specs.Leb.{unsigned}
use Rattle.fields.specs.declared.Refusal.TheVariants as refusal
use Rattle.fields.specs.Answers.{Left, refuse}
use Rattle.writing.specs.Write.{stored}
use Rattle.sections.specs.declared.Section.{Section}
use Rattle.sections.specs.Section.{opened, sounds}

-- section ::= N:byte size:u32 count:u32 body
abbrev pub framed : ℕ → ℕ → ℕ → List ℕ → List ℕ
framed family size count body = family ∷ (unsigned size ++ (unsigned count ++ body))

-- the size of count and body, TOO_BIG past 32 bits; ROOM comes last
unfoldable pub framing : ℕ → ℕ → List ℕ → List ℕ → Left
framing family count body out =
    cond (ltb 4294967295 (length (unsigned count) + length body)) (refuse refusal.TooBig 0 out)
    (stored (Ok (length (framed family (length (unsigned count) + length body) count body)))
    (framed family (length (unsigned count) + length body) count body) out 0)

unfoldable pub finishing : Section → List ℕ → List ℕ → Left
finishing s body out =
    cond (sounds s (length body))
    (cond (opened s.phase) (refuse refusal.Order 0 out) (framing s.family s.count (take s.used body) out))
    (refuse refusal.Limit 0 out)
