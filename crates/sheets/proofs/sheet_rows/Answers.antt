-- `sheet_rows` meets its contract: the words that are laid out are the sheet's rows.
use Prim.Native.Nat.{◌-◌, ◌/◌}
use native.Mathlib.Omega.{arith}
use mathlib.Core.Path.{refl, sym}
use lib.ListN.{length, take}
use lib.Seq.{length-take-le}
use Rattle.sheets.specs.inside.Steps.{rest}
use Rattle.sheets.specs.Frame.{listed}
use Rattle.sheets.proofs.FinishLaws.{rows_lie, sheet_words_lem, sheet_left}
use Rattle.sheets.proofs.LaidLaws.{Lies}
use Rattle.sheets.proofs.sheet_rows.Goals as goal
use Rattle.sheets.proofs.sheet_rows.Goals.{After-fill_words}

-- the words that are laid out are the sheet's rows
behind : (c : After-fill_words) → let a = c.args in
    Lies (take ((length a.input.now - a.start) / 4) c.fill_words.new.row) (listed (rest a.input.now a.start))
behind c =
    rows_lie _ c.args.scratch.now _ _ _ c.requires.rows_at.fills refl (omega arith) c.fill_words.ensures

pub slice_bounds-sheet_words-end-2 : goal.slice_bounds-sheet_words-end-2
slice_bounds-sheet_words-end-2 c = sym (length-take-le _ _ (omega arith))

pub sheet_words-requires : goal.sheet_words-requires
sheet_words-requires c =
    sheet_words_lem c.requires.rows_at (behind (goal.at.sheet_words-requires c).After-fill_words) c.family_at-family.ensures c.requires.input_len_bound

pub returns : goal.returns
returns c =
    sheet_left c.requires.rows_at (behind (goal.at.returns c).After-fill_words) c.family_at-family.ensures _ _ c.sheet_words.ensures
