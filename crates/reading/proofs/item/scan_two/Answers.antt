-- `scan_two` meets its contract: `after_both` makes one walk of the two, and `after_under` keeps the first small.
use Prim.Native.Nat.{◌^◌}
use native.Mathlib.Omega.{arith}
use mathlib.Core.List.{[], ◌∷◌}
use Rattle.reading.specs.Scan.{scan}
use Rattle.fields.proofs.RunLaws.{under_more}
use Rattle.fields.proofs.LoopLaws.{after_both}
use Rattle.reading.proofs.ScannedLaws.{after_under}
use Rattle.reading.proofs.item.scan_two.Goals as goal

pub scan_next-one-requires : goal.scan_next-one-requires
scan_next-one-requires c =
    record {
      input_len_bound = c.requires.input_len_bound;
      under = under_more c.args.so (2 ^ 30) (2 ^ 60) (2 ^ 31) (2 ^ 61) c.requires.under (omega arith) (omega arith);
    }

pub scan_next-requires : goal.scan_next-requires
scan_next-requires c =
    let a = c.args in
    let u = after_under a.lead a.grade a.input.now a.so (a.a ∷ []) _ c.scan_next-one.ensures (2 ^ 30) (2 ^ 60) (2 ^ 61)
    c.requires.input_len_bound c.requires.under (omega arith) in
    record {
      input_len_bound = c.requires.input_len_bound;
      under = under_more c.scan_next-one.result (2 ^ 30) (2 ^ 61) (2 ^ 31) (2 ^ 61) u (omega arith) (omega arith);
    }

pub returns : goal.returns
returns c =
    let a = c.args in
    after_both (scan a.lead a.grade) a.input.now a.so _ _ (a.a ∷ []) (a.b ∷ []) c.scan_next-one.ensures
    c.scan_next.ensures
