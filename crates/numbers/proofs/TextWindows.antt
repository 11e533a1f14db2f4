-- Laws of windows: a name all of whose windows are right is text, and chunks that overlap cover a name.
use Rattle.std.specs.Prelude.{Ok}
use Rattle.std.proofs.Common.{◌≡◌, ℕ, zero, suc, ◌+◌, ◌-◌, ◌<◌, ◌≤◌, true, ◌⊎◌, List, [], ◌∷◌, length, get_or, drop, refl, ◌∙◌, subst, inl, inr, ⊎_elim, arith}
use Rattle.numbers.specs.Text.{◌to◌, rest, text}
use Rattle.numbers.specs.inside.Windows.{Later, First, Known, Placed, Window, Windows, All, Second, Begun, Ended}
use Rattle.numbers.proofs.TextChunks.{side}
use Rattle.numbers.proofs.TextRows.{nth, found, took, whole, began, ended, follow_in}

-- ---- a character within a name

one-rest : (s : List ℕ) (i : ℕ) → i < length s → get_or s i 0 ≤ 0x7f → rest [] (drop i s) ≡ rest [] (drop (i + 1) s)
one-rest s i h b =
    let w = began (nth 0).later s i (Ok 1) h (found 0 (get_or s i 0) tt tt (omega arith) b) (whole s (i + 1) i 1 refl (omega arith) (omega arith)) in
    w.1.0

two-rest : (s : List ℕ) (i : ℕ) → i + 2 ≤ length s → 0xc2 ≤ get_or s i 0 → get_or s i 0 ≤ 0xdf → Later (get_or s (i + 1) 0)
    → rest [] (drop i s) ≡ rest [] (drop (i + 2) s)
two-rest s i h l m t =
    let e = follow_in 0x80 0xbf s (i + 1) (omega arith) t.0 t.1 in
    let w = began (nth 1).later s i (Ok 2) (omega arith) (found 1 (get_or s i 0) tt tt l m)
    (took 0x80 0xbf [] s (i + 1) (i + 2) i (Ok 2) e (omega arith) (whole s (i + 2) i 2 refl h (omega arith))) in
    w.1.0

three-rest : (s : List ℕ) (i : ℕ) → i + 3 ≤ length s → 0xe1 ≤ get_or s i 0 → get_or s i 0 ≤ 0xec → Later (get_or s (i + 1) 0) → Later (get_or s (i + 2) 0)
    → rest [] (drop i s) ≡ rest [] (drop (i + 3) s)
three-rest s i h l m t u =
    let e₂ = follow_in 0x80 0xbf s (i + 1) (omega arith) t.0 t.1 in
    let e₃ = follow_in 0x80 0xbf s (i + 2) (omega arith) u.0 u.1 in
    let w = began (nth 3).later s i (Ok 3) (omega arith) (found 3 (get_or s i 0) tt tt l m)
    (took 0x80 0xbf (0x80 to 0xbf ∷ []) s (i + 1) (i + 2) i (Ok 3) e₂ (omega arith)
    (took 0x80 0xbf [] s (i + 2) (i + 3) i (Ok 3) e₃ (omega arith) (whole s (i + 3) i 3 refl h (omega arith)))) in
    w.1.0

-- ---- a window

-- a byte that is not in 80..bf begins a character
firsts : (b : ℕ) → (b < 0x80) ⊎ (0xc0 ≤ b) → Known b → First b
firsts b p k =
    ⊎_elim (λ l. inl (omega arith))
    (λ l. inr (⊎_elim (λ m. inl (k.1.0 l, omega arith)) (λ m. inr (k.1.1 m, k.0)) (side b 0xe0)))
    p

-- the byte behind p, where none of three begins at q
second : (q p b : ℕ) → Placed q p b → Known b → q < 0xe1 → Second p b
second q p b w k l = (w.0.0, λ m. firsts b (w.1 m l) k)

-- ---- the name

-- a character begins at i, and the byte behind its first is right
abbrev Fresh : List ℕ → ℕ → Type 0
Fresh s i = (i < length s → First (get_or s i 0)) × (i + 1 < length s → Second (get_or s i 0) (get_or s (i + 1) 0))

-- two characters on, where the bytes between begin none of three
fresh : (s : List ℕ) (i : ℕ) → All s → get_or s i 0 < 0xe1 → (i + 1 < length s → First (get_or s (i + 1) 0)) → Fresh s (i + 1)
fresh s i all l f = (f, λ h. again (all i (omega arith)))
  where
    again : Window s i → Second (get_or s (i + 1) 0) (get_or s (i + 1 + 1) 0)
    again w = subst (λ (n : ℕ). Second (get_or s (i + 1) 0) (get_or s n 0)) (omega arith) (second _ _ _ w.0 w.1 l)

first_at : (s : List ℕ) (i j : ℕ) → All s → get_or s i 0 < 0xe1 → get_or s (i + 1) 0 < 0xc2 → j ≡ i + 2 → j < length s → First (get_or s j 0)
first_at s i j all l m e h =
    subst (λ (n : ℕ). First (get_or s n 0)) (omega arith) (firsts _ ((all i (omega arith)).0.1 m l) (all i (omega arith)).1)

-- a byte that others must follow is not the last
not_last : (s : List ℕ) (i : ℕ) → i < length s → get_or s (length s - 1) 0 < 0xc2 → 0xc2 ≤ get_or s i 0 → i + 1 < length s
not_last s i h e l = ⊎_elim (λ p. p) (λ p. clash (omega arith)) (side (i + 1) (length s))
  where
    clash : length s - 1 ≡ i → i + 1 < length s
    clash q = let f = subst (λ (n : ℕ). get_or s n 0 < 0xc2) q e in omega arith

not_second-last : (s : List ℕ) (i : ℕ) → i + 1 < length s → get_or s (length s - 2) 0 < 0xe1 → 0xe1 ≤ get_or s i 0 → i + 2 < length s
not_second-last s i h e l = ⊎_elim (λ p. p) (λ p. clash (omega arith)) (side (i + 2) (length s))
  where
    clash : length s - 2 ≡ i → i + 2 < length s
    clash q = let f = subst (λ (n : ℕ). get_or s n 0 < 0xe1) q e in omega arith

moved : (s : List ℕ) (a b : ℕ) → a ≡ b → rest [] (drop a s) ≡ true → rest [] (drop b s) ≡ true
moved s a b e r = subst (λ (k : ℕ). rest [] (drop k s) ≡ true) e r

-- a character more, where the rest of the name is text
character : (n : ℕ) (s : List ℕ) (i : ℕ) → All s → Ended s → length s ≤ i + suc n → Fresh s i
    → ((j : ℕ) → length s ≤ j + n → Fresh s j → rest [] (drop j s) ≡ true) → i < length s → rest [] (drop i s) ≡ true
character n s i all e h f next p = ⊎_elim one (λ x. ⊎_elim (λ y. two y.0 y.1) (λ y. three y.0 y.1) x) (f.0 p)
  where
    one : get_or s i 0 ≤ 0x7f → rest [] (drop i s) ≡ true
    one b = one-rest s i p b ∙ next (i + 1) (omega arith) (fresh s i all (omega arith) (λ q. (f.1 q).1 (omega arith)))

    two : 0xc2 ≤ get_or s i 0 → get_or s i 0 ≤ 0xdf → rest [] (drop i s) ≡ true
    two l m =
        let q = not_last s i p e.1 l in
        let t = (f.1 q).0 l in
        two-rest s i (omega arith) l m t
        ∙ moved s (i + 1 + 1) (i + 2) (omega arith)
        (next (i + 1 + 1) (omega arith)
        (fresh s (i + 1) all (omega (arith, t.1)) (λ r. first_at s i (i + 1 + 1) all (omega arith) (omega (arith, t.1)) (omega arith) r)))

    below : i + 2 ≡ i + 1 + 1 → get_or s (i + 2) 0 ≤ 0xbf → get_or s (i + 1 + 1) 0 < 0xc2
    below g b = let c = subst (λ (k : ℕ). get_or s k 0 ≤ 0xbf) g b in omega arith

    three : 0xe1 ≤ get_or s i 0 → get_or s i 0 ≤ 0xec → rest [] (drop i s) ≡ true
    three l m =
        let q = not_last s i p e.1 (omega arith) in
        let r = not_second-last s i q e.0 l in
        let t = (f.1 q).0 (omega arith) in
        let u = (all i r).0.0.1 l in
        three-rest s i (omega arith) l m t u
        ∙ moved s (i + 2 + 1) (i + 3) (omega arith)
        (next (i + 2 + 1) (omega arith)
        (fresh s (i + 2) all (omega (arith, u.1))
        (λ v. first_at s (i + 1) (i + 2 + 1) all (omega (arith, t.1)) (below (omega arith) u.1) (omega arith) v)))

on : (n : ℕ) (s : List ℕ) (i : ℕ) → All s → Ended s → length s ≤ i + n → Fresh s i → rest [] (drop i s) ≡ true
on zero s i all e h f = ended s i (omega arith)
on (suc n) s i all e h f =
    ⊎_elim (λ p. character n s i all e h f (λ j g q. on n s j all e g q) p) (λ p. ended s i p) (side i (length s))

pub windows-text : (s : List ℕ) → All s → Begun s → Ended s → text s ≡ true
unfolding text
windows-text s all b e = on (length s) s 0 all e (omega arith) ((λ p. b.0), λ p. b.1)

-- ---- chunks

-- n windows from the first on, from a on and to the last cover them all
pub windows-all : (s : List ℕ) (n a d : ℕ) → d + n + 2 ≡ length s → a ≤ n → d ≤ a + n → Windows s 0 n → Windows s a n → Windows s d n → All s
windows-all s n a d h l m front middle back j q =
    ⊎_elim (λ p. at 0 j front (omega arith) p)
    (λ p. ⊎_elim (λ u. at a (j - a) middle (omega arith) u) (λ u. at d (j - d) back (omega arith) (omega arith)) (side (j - a) n))
    (side j n)
  where
    at : (i k : ℕ) → Windows s i n → i + k ≡ j → k < n → Window s j
    at i k run p r = subst (Window s) p (run k r)

-- what `due` and `later` say of their answers makes b placed where the answers are one
pub placed : (q p b d l : ℕ) → d ≡ l → (d < 1 → (p < 0xc2) × (q < 0xe1)) × (p < 0xc2 → q < 0xe1 → d < 1)
    → (l < 1 → (b < 0x80) ⊎ (0xc0 ≤ b)) × (0 < l → Later b) → Placed q p b
placed q p b d l e due late = (
  (
    λ h. ⊎_elim (λ z. absurd (omega (arith, (due.0 (omega arith)).0))) (λ z. late.1 (omega arith)) (side l 1),
    λ h. ⊎_elim (λ z. absurd (omega (arith, (due.0 (omega arith)).1))) (λ z. late.1 (omega arith)) (side l 1),
  ),
  λ m n. late.0 (omega (arith, due.1 m n)),
)
