-- `sheet_words` meets its contract: for each way out, what the rows come to there; those that were made are copied.
use Prim.Native.Nat.{ℕ, ◌≤◌}
use native.Mathlib.Omega.{arith}
use mathlib.Core.Path.{◌≡◌, sym, subst}
use lib.ListN.{length}
use lib.Seq.{length-take-le}
use Rattle.sheets.specs.declared.Made.{Made}
use Rattle.sheets.specs.declared.Made.TheVariants.{All}
use Rattle.sheets.specs.inside.Steps.{rows_in, Makes}
use Rattle.sheets.proofs.FinishLaws.{words_refused, few, words_cramped, words_copied, words_finished}
use Rattle.sheets.proofs.sheet_words.Goals as goal
use Rattle.sheets.proofs.sheet_words.Goals.{After-make_rows}

-- what is known of the rows that were made
told : (c : After-make_rows) {m : Made} → c.make_rows.result ≡ m → let a = c.args in
    Makes m a.family a.pool.now (length a.body.now) (rows_in a.words.now) a.made.now c.make_rows.new.made
told c e =
    let a = c.args in
    subst (λ m. Makes m a.family a.pool.now (length a.body.now) (rows_in a.words.now) a.made.now c.make_rows.new.made) e c.make_rows.ensures

-- rows that are all taken are few, and so are their bytes
small : (c : After-make_rows) {r used : ℕ} → c.make_rows.result ≡ All r used → (r ≤ 16384) × (used ≤ 4294967290)
small c e =
    few c.requires _ c.args.body.now c.args.out.now (told c e).taken

pub overflow_cast-count : goal.overflow_cast-count
overflow_cast-count c = omega (arith, small (goal.at.overflow_cast-count c).After-make_rows c.in-All.is)

pub section_size-requires : goal.section_size-requires
section_size-requires c = (small (goal.at.section_size-requires c).After-make_rows c.in-All.is).1

pub returns-then-out-section_size : goal.returns-then-out-section_size
returns-then-out-section_size c =
    words_cramped c.requires _ _ c.args.out.now (told (goal.at.returns-then-out-section_size c).After-make_rows c.in-All.is).taken (omega arith)

pub slice_bounds-copy-end : goal.slice_bounds-copy-end
slice_bounds-copy-end c =
    omega (arith, (told (goal.at.slice_bounds-copy-end c).After-make_rows c.in-All.is).fits)

pub slice_bounds-copy-end-in-All : goal.slice_bounds-copy-end-in-All
slice_bounds-copy-end-in-All c =
    let all = told (goal.at.slice_bounds-copy-end-in-All c).After-make_rows c.in-All.is in
    sym (length-take-le _ _ (omega (arith, all.fits)))

pub returns-else-out-section_size : goal.returns-else-out-section_size
returns-else-out-section_size c =
    let all = told (goal.at.returns-else-out-section_size c).After-make_rows c.in-All.is in
    words_finished c.requires _ _ c.args.out.now all.taken (omega arith)
    (words_copied c.requires _ _ c.args.out.now all.taken _ all.fits all.content c.copy.ensures)
    c.close.ensures

pub returns-in-Bad : goal.returns-in-Bad
returns-in-Bad c =
    words_refused c.requires _ _ c.args.out.now (told (goal.at.returns-in-Bad c).After-make_rows c.in-Bad.is)
