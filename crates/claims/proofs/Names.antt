-- The proof of `specs/Names.antt`, from the laws of `numbers` on where a name stops.
use Prim.Native.Nat.{ℕ, ◌+◌}
use native.Mathlib.Omega.{arith}
use mathlib.Core.Path.{◌≡◌, refl, sym, ap, ◌∙◌, subst}
use mathlib.Core.Bool.{Bool, true, false, cond}
use mathlib.Core.List.{List}
use lib.Dec.{leb}
use lib.ListN.{length, take, drop}
use Rattle.numbers.specs.Beginnings.{LongestBeginning}
use Rattle.numbers.specs.Leb.{take_unsigned}
use Rattle.numbers.specs.Text.{text, stop}
use Rattle.numbers.specs.Taken as taken
use Rattle.numbers.proofs.Beginnings.{longest, stops_there}
use Rattle.numbers.proofs.TextLaws.{right-text, spelled_right, spelled_wrong}
use Rattle.numbers.proofs.Impossible.{impossible}
use Rattle.fields.specs.Flaw.{Right, Wrong}
use Rattle.fields.specs.Leaf.{Fine, Bad}
use Rattle.fields.specs.declared.Offset.{Offset}
use Rattle.fields.specs.declared.Refusal.TheVariants as refusal
use Rattle.fields.specs.Answers.{offset_of, byte_at}
use Rattle.fields.specs.Words.{word, chars}
use Rattle.fields.proofs.OutcomeLaws.{bad-same, wrong-same}
use Rattle.writing.specs.Judge as judge
use Rattle.reading.specs.Scan.{cut, scan_name}
use Rattle.claims.specs.Names.{NamesStop}

-- a name that is not text stops at its longest beginning
stops_longest : (s : List ℕ) → text s ≡ false → LongestBeginning s (stop s)
stops_longest s h = longest s (stop s) (spelled_wrong s h)

-- the halves of an offset tell it
told : (n : ℕ) → byte_at (offset_of n) ≡ n
told n = omega arith

in_row : (pool ws : List ℕ) (i at : ℕ) (offset : Offset) → judge.named pool ws i ≡ Wrong (refusal.Text offset) at
    → (at ≡ i) × LongestBeginning (chars pool (word ws i) (word ws (i + 1))) (byte_at offset)
unfolding judge.named
in_row pool ws i at offset e = go (leb (word ws i + word ws (i + 1)) (length pool)) (text cs) refl e
  where
    cs : List ℕ
    cs = chars pool (word ws i) (word ws (i + 1))

    go : (a b : Bool) → text cs ≡ b → cond a (cond b Right (Wrong (refusal.Text (offset_of (stop cs))) i)) (Wrong refusal.Range i) ≡ Wrong (refusal.Text offset) at
        → (at ≡ i) × LongestBeginning cs (byte_at offset)
    go true true h e = impossible cc
    go true false h e =
        let refused = wrong-same e in
        let why = refused.0 in
        let halves : offset_of (stop cs) ≡ offset = cc in
        let same = sym (told (stop cs)) ∙ ap byte_at halves in
        (sym refused.1, subst (LongestBeginning cs) same (stops_longest cs h))
    go false b h e = let why = (wrong-same e).0 in impossible cc

in_reading : (bs : List ℕ) (n t at : ℕ) (offset : Offset) → take_unsigned bs ≡ taken.Value n t → scan_name bs ≡ Bad (refusal.Text offset) at
    → (at ≡ t) × LongestBeginning (take n (drop t bs)) (byte_at offset)
unfolding scan_name
in_reading bs n t at offset v e = go (leb (t + n) (length bs)) (text cs) refl (rw v at e)
  where
    cs : List ℕ
    cs = take n (drop t bs)

    go : (a b : Bool) → text cs ≡ b → cond a (cond b (Fine (t + n) 2) (Bad (refusal.Text (offset_of (stop cs))) t)) (cut bs) ≡ Bad (refusal.Text offset) at
        → (at ≡ t) × LongestBeginning cs (byte_at offset)
    go true true h e = impossible cc
    go true false h e =
        let refused = bad-same e in
        let why = refused.0 in
        let halves : offset_of (stop cs) ≡ offset = cc in
        let same = sym (told (stop cs)) ∙ ap byte_at halves in
        (sym refused.1, subst (LongestBeginning cs) same (stops_longest cs h))
    go false b h e = let why = (bad-same e).0 in impossible cc

pub names-stop : NamesStop
names-stop =
    record {
      right = λ s. (right-text s, spelled_right s);
      longest = longest;
      no_other = stops_there;
      in_row = in_row;
      in_reading = in_reading;
    }
