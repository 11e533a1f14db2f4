use Rattle.std.proofs.Common.{sym, ◌≡◌, ◌+◌, ◌∙◌, drop, rules}
use Rattle.telling.proofs.TryingLaws.{kept_not, kept-both, drop_capped}
use Rattle.telling.proofs.trying.is_kept.Goals as goal

pub returns-then-starts_with : goal.returns-then-starts_with
returns-then-starts_with c =
    let end = c.saturating_add-end in
    let o : drop end.result c.args.old.now ≡ drop (c.args.at + c.args.size) c.args.old.now = drop_capped _ _ _ end.ensures (search rules) in
    let n : drop end.result c.args.out.now ≡ drop (c.args.at + c.args.size) c.args.out.now = drop_capped _ _ _ end.ensures (search rules) in
    rw (
      c.starts_with-then-starts_with.ensures,
      c.after.ensures,
      c.after-then-starts_with.ensures,
      o,
      n,
    ) (sym (kept-both _ _ _ _ (rw (← c.before-2.ensures, ← c.starts_with.ensures) c.if-starts_with.true)))

pub returns-else-starts_with : goal.returns-else-starts_with
returns-else-starts_with c =
    c.if-starts_with.false
    ∙ sym (kept_not _ _ _ _ (rw (← c.before-2.ensures, ← c.starts_with.ensures) c.if-starts_with.false))
