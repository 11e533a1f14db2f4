-- `numbers::text::all_windows` meets its contract: the chunks cover the name (`windows-all`).
use Rattle.std.proofs.Common.{◌-◌, ◌≤◌, length, ⊎_elim, arith, rules}
use Rattle.numbers.proofs.TextWindows.{windows-all}
use Rattle.numbers.proofs.text.all_windows.Goals as goal

pub windows-requires : goal.windows-requires
windows-requires c =
    let low : c.lesser.result ≤ length c.args.s.now - 18 =
    ⊎_elim (λ x. omega (arith, x.0, x.1)) (λ x. omega (arith, x.0, x.1)) c.lesser.ensures in
    search (rules, low)

pub returns-then-len-ge18 : goal.returns-then-len-ge18
returns-then-len-ge18 c = λ l.
    let s = c.args.s.now in
    let all = c.windows.ensures l in
    windows-all s 16 c.lesser.result (length s - 18) (omega arith)
    (⊎_elim (λ x. omega (arith, x.0, x.1)) (λ x. omega (arith, x.0, x.1)) c.lesser.ensures)
    (⊎_elim (λ x. omega (arith, x.0, x.1)) (λ x. omega (arith, x.0, x.1)) c.lesser.ensures)
    all.0 all.1.0 all.1.1

pub returns : goal.returns
returns c = λ l.
    let s = c.args.s.now in
    let all = c.windows-2.ensures l in
    windows-all s 8 0 (length s - 10) (omega arith) (omega arith) (omega arith) all.0 all.1.0 all.1.1
