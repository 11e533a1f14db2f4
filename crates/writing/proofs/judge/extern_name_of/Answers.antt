-- `writing::judge::extern_name_of` meets its contract: without options the name decides (`plain-flaw`); else the four parts are judged,
-- and the first flaw is `flaw` of them.
use mathlib.Core.Path.{sym, ◌∙◌}
use Rattle.writing.specs.Judge.{flaw}
use Rattle.writing.proofs.FlawLaws.{plain-flaw}
use Rattle.writing.proofs.judge.extern_name_of.Goals as goal

pub returns-then-is_bare : goal.returns-then-is_bare
returns-then-is_bare c =
    let a = c.args in
    c.named_at-name.ensures ∙ sym (plain-flaw a.pool.now a.ws.now (c.is_bare.ensures c.if-is_bare.true))

pub returns : goal.returns
unfolding flaw
returns c = cc
