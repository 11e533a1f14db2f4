-- Where a name that is not UTF-8 goes bad: the length of the longest beginning with which some well-formed name begins, told of `text`
-- alone (numbers/specs/Beginnings.antt), and that a row and a reading pass it up.
use Rattle.std.specs.Prelude.{ℕ, ◌+◌, ◌≡◌, ◌↔◌, true, false, List, take, drop}
use Rattle.numbers.specs.Beginnings.{LongestBeginning}
use Rattle.numbers.specs.Leb.{take_unsigned}
use Rattle.numbers.specs.Text.{text, spelling_of}
use Rattle.numbers.specs.Taken as taken
use Rattle.numbers.specs.Spelling.{Right, Stops}
use Rattle.fields.specs.Flaw as flaw
use Rattle.fields.specs.Leaf as leaf
use Rattle.fields.specs.declared.Offset.{Offset}
use Rattle.fields.specs.declared.Refusal.TheVariants as refusal
use Rattle.fields.specs.Answers.{byte_at}
use Rattle.fields.specs.Words.{word, chars}
use Rattle.writing.specs.Judge.{named}
use Rattle.reading.specs.Scan.{scan_name}

pub record NamesStop : Type 0 where
  -- a name is right exactly where it is text
  pub right : (s : List ℕ) → (spelling_of s ≡ Right) ↔ (text s ≡ true)
  -- else the offset is that of its longest beginning, and no other
  pub longest : (s : List ℕ) (n : ℕ) → spelling_of s ≡ Stops n → LongestBeginning s n
  pub no_other : (s : List ℕ) (n : ℕ) → text s ≡ false → LongestBeginning s n → spelling_of s ≡ Stops n
  -- TEXT of the name whose words stand at i of a row
  pub in_row : (pool ws : List ℕ) (i at : ℕ) (offset : Offset) → named pool ws i ≡ flaw.Wrong (refusal.Text offset) at
      → (at ≡ i) × LongestBeginning (chars pool (word ws i) (word ws (i + 1))) (byte_at offset)
  -- TEXT of the name at the front of what is read, whose length has t bytes
  pub in_reading : (bs : List ℕ) (n t at : ℕ) (offset : Offset) → take_unsigned bs ≡ taken.Value n t → scan_name bs ≡ leaf.Bad (refusal.Text offset) at
      → (at ≡ t) × LongestBeginning (take n (drop t bs)) (byte_at offset)
