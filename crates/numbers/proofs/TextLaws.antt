-- Laws of `text` and of where a name stops: bytes below 128 are text, the table and the core document agree, a text after a text is one,
-- and a name is text or stops within itself. Then examples.
use Rattle.std.specs.Prelude.{is_ok}
use Rattle.std.proofs.Common.{◌≡◌, ℕ, zero, suc, ◌+◌, ◌-◌, ◌*◌, ◌^◌, ◌<◌, ◌≤◌, Bool, true, false, cond, T, ltb, ◌⊎◌, List, [], ◌∷◌, ◌++◌, map, length, take, sym, refl, ◌∙◌, inl, inr, ⊎_elim, append_assoc, arith}
use Rattle.numbers.specs.Names.{Later, Char, one, two, three, four, Name, none, more}
use Rattle.numbers.specs.Text.{Range, ◌to◌, Row, table, among, first_in, Step, Next, Bad, step, onward, rest, text, goes, stop, spelling_of}
use Rattle.numbers.specs.inside.Below.{Below}
use Rattle.numbers.specs.Spelling.{Spelling}
use Rattle.numbers.specs.Spelling as spelling
use Rattle.numbers.proofs.TextChunks.{side}
use Rattle.numbers.proofs.TextRows.{among_in, among-low, among_high, ends, nth, found}
use Rattle.numbers.proofs.Impossible.{impossible}
use Rattle.numbers.proofs.OutcomeLaws.{stops-same}

-- ---- bytes below 128

ascii_rest : (s : List ℕ) → Below 0x80 s 0 (length s) → rest [] s ≡ true
unfolding rest step
ascii_rest [] all = refl
ascii_rest (b ∷ s) all =
    rw (found 0 b tt tt (omega arith) (omega (arith, all 0 (omega arith) (omega arith))))
    (ascii_rest s (λ k p q. all (suc k) (omega arith) (omega arith)))

pub ascii_text : (s : List ℕ) → Below 0x80 s 0 (length s) → text s ≡ true
unfolding text
ascii_text s all = ascii_rest s all

-- ---- a name of the core document is text

-- a first byte of the table's row k
row-rest : (k b : ℕ) (s : List ℕ) → T (ltb k (length table)) → T (ends k table (nth k).first.low) → (nth k).first.low ≤ b
    → b ≤ (nth k).first.high → rest [] (b ∷ s) ≡ rest (nth k).later s
unfolding rest step
row-rest k b s l t p q = rw (found k b l t p q)

-- a byte after the first
pub later-rest : (r : Range) (rs : List Range) (b : ℕ) (s : List ℕ) → r.low ≤ b → b ≤ r.high → rest (r ∷ rs) (b ∷ s) ≡ rest rs s
unfolding rest step
later-rest r rs b s p q = rw (among_in r b p q)

-- the bytes of a character of two, three or four from the second on
tail₂ : (low high b₂ : ℕ) (s : List ℕ) → low ≤ b₂ → b₂ ≤ high → rest (low to high ∷ []) (b₂ ∷ s) ≡ rest [] s
tail₂ low high b₂ s p q = later-rest (low to high) [] b₂ s p q

tail₃ : (low high b₂ b₃ : ℕ) (s : List ℕ) → low ≤ b₂ → b₂ ≤ high → Later b₃
    → rest (low to high ∷ 0x80 to 0xbf ∷ []) (b₂ ∷ b₃ ∷ s) ≡ rest [] s
tail₃ low high b₂ b₃ s p q r =
    later-rest (low to high) (0x80 to 0xbf ∷ []) b₂ (b₃ ∷ s) p q ∙ tail₂ 0x80 0xbf b₃ s (omega arith) (omega arith)

tail₄ : (low high b₂ b₃ b₄ : ℕ) (s : List ℕ) → low ≤ b₂ → b₂ ≤ high → Later b₃ → Later b₄
    → rest (low to high ∷ 0x80 to 0xbf ∷ 0x80 to 0xbf ∷ []) (b₂ ∷ b₃ ∷ b₄ ∷ s) ≡ rest [] s
tail₄ low high b₂ b₃ b₄ s p q r t =
    later-rest (low to high) (0x80 to 0xbf ∷ 0x80 to 0xbf ∷ []) b₂ (b₃ ∷ b₄ ∷ s) p q ∙ tail₃ 0x80 0xbf b₃ b₄ s (omega arith) (omega arith) t

-- a character: the first byte tells its row, and its number bounds the second byte
char-rest : {c : ℕ} {u : List ℕ} → Char c u → (s : List ℕ) → rest [] (u ++ s) ≡ rest [] s
char-rest (one {c} {b} h e) s = row-rest 0 b s tt tt (omega arith) (omega arith)
char-rest (two {c} {b₁} {b₂} h e p q) s =
    row-rest 1 b₁ (b₂ ∷ s) tt tt (omega arith) (omega arith) ∙ tail₂ 0x80 0xbf b₂ s (omega arith) (omega arith)
char-rest (three {c} {b₁} {b₂} {b₃} h e p q r) s =
    let low : 0x800 ≤ c = ⊎_elim (λ w. omega arith) (λ w. omega arith) h in
    let high : c < 0x10000 = ⊎_elim (λ w. omega arith) (λ w. omega arith) h in
    ⊎_elim
    (λ e0. row-rest 2 b₁ (b₂ ∷ b₃ ∷ s) tt tt (omega arith) (omega arith) ∙ tail₃ 0xa0 0xbf b₂ b₃ s (omega arith) (omega arith) r)
    (λ e1. ⊎_elim
    (λ ec. row-rest 3 b₁ (b₂ ∷ b₃ ∷ s) tt tt (omega arith) (omega arith) ∙ tail₃ 0x80 0xbf b₂ b₃ s (omega arith) (omega arith) r)
    (λ ed. ⊎_elim
    (λ ed'. row-rest 4 b₁ (b₂ ∷ b₃ ∷ s) tt tt (omega arith) (omega arith)
    ∙ tail₃ 0x80 0x9f b₂ b₃ s (omega arith) (⊎_elim (λ w. omega arith) (λ w. omega arith) h) r)
    (λ ee. row-rest 5 b₁ (b₂ ∷ b₃ ∷ s) tt tt (omega arith) (omega arith) ∙ tail₃ 0x80 0xbf b₂ b₃ s (omega arith) (omega arith) r)
    (side b₁ 0xee))
    (side b₁ 0xed))
    (side b₁ 0xe1)
char-rest (four {c} {b₁} {b₂} {b₃} {b₄} h e p q r t) s =
    ⊎_elim
    (λ f0. row-rest 6 b₁ (b₂ ∷ b₃ ∷ b₄ ∷ s) tt tt (omega arith) (omega arith) ∙ tail₄ 0x90 0xbf b₂ b₃ b₄ s (omega arith) (omega arith) r t)
    (λ f1. ⊎_elim
    (λ f3. row-rest 7 b₁ (b₂ ∷ b₃ ∷ b₄ ∷ s) tt tt (omega arith) (omega arith) ∙ tail₄ 0x80 0xbf b₂ b₃ b₄ s (omega arith) (omega arith) r t)
    (λ f4. row-rest 8 b₁ (b₂ ∷ b₃ ∷ b₄ ∷ s) tt tt (omega arith) (omega arith) ∙ tail₄ 0x80 0x8f b₂ b₃ b₄ s (omega arith) (omega arith) r t)
    (side b₁ 0xf4))
    (side b₁ 0xf1)

pub text_complete : (s : List ℕ) → Name s → text s ≡ true
unfolding text rest
text_complete [] none = refl
text_complete _ (more {c} {u} {s} ch n) = char-rest ch s ∙ text_complete s n

-- ---- text is a name of the core document

-- bytes in these ranges, and then a name
data Rest : List Range → List ℕ → Type 0 where
  done : {s : List ℕ} → Name s → Rest [] s
  next : {low high b : ℕ} {rs : List Range} {s : List ℕ} → low ≤ b → b ≤ high → Rest rs s → Rest (low to high ∷ rs) (b ∷ s)

-- what a row lets through is a character
abbrev Right : Row → Type 0
Right r = (b : ℕ) (s : List ℕ) → r.first.low ≤ b → b ≤ r.first.high → Rest r.later s → Name (b ∷ s)

right₁ : Right (nth 0)
right₁ b s p q (done n) = more (one {c = b} (omega arith) refl) n

right₂ : Right (nth 1)
right₂ b₁ _ p q (next {b = b₂} l h (done n)) =
    more (two {c = 2 ^ 6 * (b₁ - 0xc0) + (b₂ - 0x80)} (omega arith, omega arith) refl (omega arith) (omega arith, omega arith)) n

-- the numbers of a character of three bytes, and of four
abbrev In₃ : ℕ → Type 0
In₃ c = ((0x800 ≤ c) × (c < 0xd800)) ⊎ ((0xe000 ≤ c) × (c < 0x10000))

abbrev In₄ : ℕ → Type 0
In₄ c = (0x10000 ≤ c) × (c < 0x110000)

right₃ : (low high b₁ : ℕ) (s : List ℕ) → 0xe0 ≤ b₁ → 0x80 ≤ low → high < 0xc0
    → ((b₂ b₃ : ℕ) → low ≤ b₂ → b₂ ≤ high → Later b₃ → In₃ (2 ^ 12 * (b₁ - 0xe0) + 2 ^ 6 * (b₂ - 0x80) + (b₃ - 0x80)))
    → Rest (low to high ∷ 0x80 to 0xbf ∷ []) s → Name (b₁ ∷ s)
right₃ low high b₁ _ p q r within (next {b = b₂} l h (next {b = b₃} l₃ h₃ (done n))) =
    more (three (within b₂ b₃ l h (l₃, omega arith)) refl p (omega arith, omega arith) (l₃, omega arith)) n

right₄ : (low high b₁ : ℕ) (s : List ℕ) → 0xf0 ≤ b₁ → 0x80 ≤ low → high < 0xc0
    → ((b₂ b₃ b₄ : ℕ) → low ≤ b₂ → b₂ ≤ high → Later b₃ → Later b₄
    → In₄ (2 ^ 18 * (b₁ - 0xf0) + 2 ^ 12 * (b₂ - 0x80) + 2 ^ 6 * (b₃ - 0x80) + (b₄ - 0x80)))
    → Rest (low to high ∷ 0x80 to 0xbf ∷ 0x80 to 0xbf ∷ []) s → Name (b₁ ∷ s)
right₄ low high b₁ _ p q r within (next {b = b₂} l h (next {b = b₃} l₃ h₃ (next {b = b₄} l₄ h₄ (done n)))) =
    more (four (within b₂ b₃ b₄ l h (l₃, omega arith) (l₄, omega arith)) refl p (omega arith, omega arith) (l₃, omega arith) (l₄, omega arith)) n

-- each row of the table is right
infixr 5 ◌by◌also◌
data Rights : List Row → Type 0 where
  no_more : Rights []
  ◌by◌also◌ : (r : Row) {rs : List Row} → Right r → Rights rs → Rights (r ∷ rs)

rights : Rights table
rights =
    nth 0 by right₁
    also nth 1 by right₂
    also nth 2 by (λ b s p q. right₃ 0xa0 0xbf b s (omega arith) (omega arith) (omega arith) (λ b₂ b₃ l h r. inl (omega arith, omega arith)))
    also nth 3 by (λ b s p q. right₃ 0x80 0xbf b s (omega arith) (omega arith) (omega arith) (λ b₂ b₃ l h r. inl (omega arith, omega arith)))
    also nth 4 by (λ b s p q. right₃ 0x80 0x9f b s (omega arith) (omega arith) (omega arith) (λ b₂ b₃ l h r. inl (omega arith, omega arith)))
    also nth 5 by (λ b s p q. right₃ 0x80 0xbf b s (omega arith) (omega arith) (omega arith) (λ b₂ b₃ l h r. inr (omega arith, omega arith)))
    also nth 6 by (λ b s p q. right₄ 0x90 0xbf b s (omega arith) (omega arith) (omega arith) (λ b₂ b₃ b₄ l h r t. (omega arith, omega arith)))
    also nth 7 by (λ b s p q. right₄ 0x80 0xbf b s (omega arith) (omega arith) (omega arith) (λ b₂ b₃ b₄ l h r t. (omega arith, omega arith)))
    also nth 8 by (λ b s p q. right₄ 0x80 0x8f b s (omega arith) (omega arith) (omega arith) (λ b₂ b₃ b₄ l h r t. (omega arith, omega arith)))
    also no_more

-- a first byte, row by row
first-name : (rs : List Row) → Rights rs → (b : ℕ) (s : List ℕ) → ((more : List Range) → rest more s ≡ true → Rest more s)
    → onward false (first_in rs b) (λ more. rest more s) ≡ true → Name (b ∷ s)
first-name [] no_more b s sound e = impossible cc
first-name (r ∷ rs) (_ by x also xs) b s sound e = go (among r.first b) refl e (λ f. first-name rs xs b s sound f)
  where
    go : (t : Bool) → among r.first b ≡ t
        → onward false (cond t (Next r.later) (first_in rs b)) (λ more. rest more s) ≡ true
        → (onward false (first_in rs b) (λ more. rest more s) ≡ true → Name (b ∷ s)) → Name (b ∷ s)
    go true a f later = x b s (among-low r.first b a) (among_high r.first b a) (sound r.later f)
    go false a f later = later f

rest-sound : (rs : List Range) (s : List ℕ) → rest rs s ≡ true → Rest rs s
unfolding rest step
rest-sound [] [] e = done none
rest-sound (r ∷ rs) [] e = impossible cc
rest-sound [] (b ∷ s) e = done (first-name table rights b s (λ more f. rest-sound more s f) e)
rest-sound (r ∷ rs) (b ∷ s) e = go (among r b) refl e (λ f. rest-sound rs s f)
  where
    go : (t : Bool) → among r b ≡ t → onward false (cond t (Next rs) Bad) (λ more. rest more s) ≡ true
        → (rest rs s ≡ true → Rest rs s) → Rest (r ∷ rs) (b ∷ s)
    go true a f later = next (among-low r b a) (among_high r b a) (later f)
    go false a f later = impossible cc

pub text-sound : (s : List ℕ) → text s ≡ true → Name s
unfolding text
text-sound s e = name (rest-sound [] s e)
  where
    name : Rest [] s → Name s
    name (done n) = n

-- ---- a text after a text

name-append : {a b : List ℕ} → Name a → Name b → Name (a ++ b)
name-append none m = m
name-append (more ch n) m = rw append_assoc (more ch (name-append n m))

pub text-append : (a b : List ℕ) → text a ≡ true → text b ≡ true → text (a ++ b) ≡ true
text-append a b p q = text_complete (a ++ b) (name-append (text-sound a p) (text-sound b q))

-- ---- a name is text, or stops within itself

goes-within : (rs : List Range) (s : List ℕ) → goes rs s ≤ length s
unfolding goes
goes-within rs [] = omega arith
goes-within rs (b ∷ s) = go (step rs b) (λ more. goes-within more s)
  where
    go : (x : Step) → ((more : List Range) → goes more s ≤ length s) → onward 0 x (λ more. suc (goes more s)) ≤ suc (length s)
    go (Next on) later = omega (arith, later on)
    go Bad later = omega arith

pub stop-within : (s : List ℕ) → stop s ≤ length s
unfolding stop
stop-within s = goes-within [] s

pub spelled_right : (s : List ℕ) → text s ≡ true → spelling_of s ≡ spelling.Right
unfolding spelling_of
spelled_right s e = rw e

pub spelled_wrong : (s : List ℕ) → text s ≡ false → spelling_of s ≡ spelling.Stops (stop s)
unfolding spelling_of
spelled_wrong s e = rw e

pub right-text : (s : List ℕ) → spelling_of s ≡ spelling.Right → text s ≡ true
right-text s e = go (text s) refl
  where
    go : (t : Bool) → text s ≡ t → text s ≡ true
    go true p = p
    go false p = impossible (cc (spelled_wrong s p))

pub stops_text : (s : List ℕ) (n : ℕ) → spelling_of s ≡ spelling.Stops n → text s ≡ false
stops_text s n e = go (text s) refl
  where
    go : (t : Bool) → text s ≡ t → text s ≡ false
    go true p = impossible (cc (spelled_right s p))
    go false p = p

pub ok-text : (s : List ℕ) → is_ok (spelling_of s) ≡ text s
ok-text s = go (text s) refl
  where
    go : (t : Bool) → text s ≡ t → is_ok (spelling_of s) ≡ text s
    go true p = rw (spelled_right s p, p) refl
    go false p = rw (spelled_wrong s p, p) refl

pub stops_stop : (s : List ℕ) (n : ℕ) → spelling_of s ≡ spelling.Stops n → n ≡ stop s
stops_stop s n e = stops-same (sym e ∙ spelled_wrong s (stops_text s n e))

pub stops_within : (s : List ℕ) (n : ℕ) → spelling_of s ≡ spelling.Stops n → n ≤ length s
stops_within s n e = omega (arith, stops_stop s n e, stop-within s)

-- and within the n bytes that were taken for it
taken-short : (n : ℕ) (s : List ℕ) → length (take n s) ≤ n
taken-short zero s = omega arith
taken-short (suc n) [] = omega arith
taken-short (suc n) (b ∷ s) = omega (arith, taken-short n s)

pub stops_taken : (n : ℕ) (s : List ℕ) {b : ℕ} {r : Spelling} → r ≡ spelling_of (take n s) → r ≡ spelling.Stops b → b ≤ n
stops_taken n s {b} e f = omega (arith, stops_within (take n s) b (sym e ∙ f), taken-short n s)

-- ---- examples

-- names and what they are: a surrogate, two forms that are not the shortest, the first number past the last character and the last
-- character, a character cut short and whole, one whose fourth byte is another character's, and no byte
abbrev pub examples : List (List ℕ × Spelling)
examples =
    (0xed ∷ 0xa0 ∷ 0x80 ∷ [], spelling.Stops 1)
    ∷ (0xc0 ∷ 0x80 ∷ [], spelling.Stops 0)
    ∷ (0xe0 ∷ 0x80 ∷ 0x80 ∷ [], spelling.Stops 1)
    ∷ (0xf4 ∷ 0x90 ∷ 0x80 ∷ 0x80 ∷ [], spelling.Stops 1)
    ∷ (0xf4 ∷ 0x8f ∷ 0xbf ∷ 0xbf ∷ [], spelling.Right)
    ∷ (0xc3 ∷ [], spelling.Stops 1)
    ∷ (0xc3 ∷ 0xa9 ∷ [], spelling.Right)
    ∷ (0x41 ∷ 0xf0 ∷ 0x9f ∷ 0x98 ∷ 0x41 ∷ [], spelling.Stops 4)
    ∷ ([], spelling.Right)
    ∷ []

pub spelling_examples : map (λ e. spelling_of e.0) examples ≡ map (λ e. e.1) examples
unfolding spelling_of stop goes text rest step
spelling_examples = refl
