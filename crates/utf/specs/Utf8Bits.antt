-- Table 3-7 and the bits of UTF-8 agree: the check says yes exactly to what scalar values are written as.
use Rattle.std.specs.Prelude.{Bool, true, false, cond, ◌≡◌, ◌↔◌, ◌⊎◌, length, ltb, leb, None, Option, Some}
use Rattle.std.proofs.lemmas.Bool.{false≢true}
use Rattle.std.proofs.Math.Path.{refl}
use Rattle.std.proofs.Common.{sym, ap, ap₂, ◌∙◌, inl, inr, lit≤, lt-ltb, le-ltb, le-leb, leb-true}
use mathlib.Core.List.{List, [], ◌∷◌, ◌++◌}
use Prim.Native.Nat.{ℕ, suc, ◌+◌, ◌-◌, ◌*◌, ◌/◌, ◌%◌, ◌<◌, ◌≤◌}
use Rattle.std.proofs.Math.Logic.{⊎_elim}
use native.Mathlib.Omega.{arith}
use Rattle.std.proofs.Math.Decide.{dec_lt}
use Rattle.std.proofs.Math.Seq.{append_snoc}
use Rattle.utf.specs.Unicode.{is_scalar, all_scalar, utf8_of, utf8, Range, ◌to◌, within, table, row_of, well_formed, is_utf8, scalars_from, scalars8, is_ascii}
use Rattle.utf.specs.ScalarLaws.{scalar_is, is_scalar_law, scalar_lt, by_scalar, utf8_one, utf8_two, utf8_three, utf8_four}
use Rattle.utf.specs.Utf8Laws.{first_in, first_out, utf8_append, ascii_cons}
use Rattle.utf.specs.Interval.{values, on}

-- how many bytes follow a first byte, and its bits
unfoldable pub followers : ℕ → ℕ
followers b = cond (ltb b 0x80) 0 (cond (ltb b 0xE0) 1 (cond (ltb b 0xF0) 2 3))

unfoldable pub first_bits : ℕ → ℕ
first_bits b = cond (ltb b 0x80) b (cond (ltb b 0xE0) (b - 0xC0) (cond (ltb b 0xF0) (b - 0xE0) (b - 0xF0)))

-- whatever bytes lie within the ranges, they end a scalar value whose bits so far are v and whose bytes are p and they
abbrev Good : List Range → ℕ → List ℕ → Type 0
Good [] v p = (is_scalar v ≡ true) × (utf8_of v ≡ p)
Good ((low to high) ∷ rs) v p = (b : ℕ) → low ≤ b → b ≤ high → Good rs (v * 0x40 + (b - 0x80)) (p ++ (b ∷ []))

abbrev GoodRow : List Range → Type 0
GoodRow [] = Unit {0}
GoodRow ((low to high) ∷ rs) = (b : ℕ) → low ≤ b → b ≤ high → (length rs ≡ followers b) × Good rs (first_bits b) (b ∷ [])

abbrev GoodRows : List (List Range) → Type 0
GoodRows [] = Unit {0}
GoodRows (row ∷ rows) = GoodRow row × GoodRows rows

-- the row that is found is one of the rows
found : (rows : List (List Range)) → GoodRows rows → (b : ℕ) (rs : List Range) → row_of rows b ≡ Some rs → (length rs ≡ followers b) × Good rs (first_bits b) (b ∷ [])
unfolding row_of within
found [] g b rs e = let z : ◌≡◌ {A = ℕ} 0 1 = cc in absurd (omega arith)
found ([] ∷ rows) g b rs e = found rows g.1 b rs e
found (((low to high) ∷ row) ∷ rows) g b rs e = go (leb low b) refl (leb b high) refl (found rows g.1 b rs)
  where
    go : (x : Bool) → leb low b ≡ x → (y : Bool) → leb b high ≡ y → (row_of rows b ≡ Some rs → (length rs ≡ followers b) × Good rs (first_bits b) (b ∷ [])) → (length rs ≡ followers b) × Good rs (first_bits b) (b ∷ [])
    go false p y q ih = ih (rw (p, row_of) at e)
    go true p false q ih = ih (rw (p, q, row_of) at e)
    go true p true q ih =
        let k : Some row ≡ Some rs = rw (p, q, row_of) at e in
        let m : row ≡ rs = cc in
        rw (← m) (g.0 b (leb-true low b p) (leb-true b high q))

-- a first byte's part in each width
pub first_one : (b : ℕ) → b < 0x80 → (0 ≡ followers b) × (first_bits b ≡ b)
unfolding followers first_bits
first_one b h = (rw (lt-ltb b 0x80 h), rw (lt-ltb b 0x80 h))

pub first_two : (b : ℕ) → 0x80 ≤ b → b < 0xE0 → (1 ≡ followers b) × (first_bits b ≡ b - 0xC0)
unfolding followers first_bits
first_two b h g = (rw (le-ltb b 0x80 h, lt-ltb b 0xE0 g), rw (le-ltb b 0x80 h, lt-ltb b 0xE0 g))

pub first_three : (b : ℕ) → 0xE0 ≤ b → b < 0xF0 → (2 ≡ followers b) × (first_bits b ≡ b - 0xE0)
unfolding followers first_bits
first_three b h g =
    let k : 0x80 ≤ b = omega arith in
    (rw (le-ltb b 0x80 k, le-ltb b 0xE0 h, lt-ltb b 0xF0 g), rw (le-ltb b 0x80 k, le-ltb b 0xE0 h, lt-ltb b 0xF0 g))

pub first_four : (b : ℕ) → 0xF0 ≤ b → (3 ≡ followers b) × (first_bits b ≡ b - 0xF0)
unfolding followers first_bits
first_four b h =
    let k : 0x80 ≤ b = omega arith in
    let m : 0xE0 ≤ b = omega arith in
    (rw (le-ltb b 0x80 k, le-ltb b 0xE0 m, le-ltb b 0xF0 h), rw (le-ltb b 0x80 k, le-ltb b 0xE0 m, le-ltb b 0xF0 h))

-- the rows of each width
good_one : GoodRow (0x00 to 0x7F ∷ [])
good_one b h g = let f = first_one b (omega arith) in (f.0, rw f.1 (is_scalar_law b (inl (omega arith)), utf8_one b (omega arith)))

good_two : GoodRow (0xC2 to 0xDF ∷ 0x80 to 0xBF ∷ [])
good_two b h g = let f = first_two b (omega arith) (omega arith) in (f.0, rw f.1 more)
  where
    more : (c : ℕ) → 0x80 ≤ c → c ≤ 0xBF → Good [] ((b - 0xC0) * 0x40 + (c - 0x80)) (b ∷ c ∷ [])
    more c hc gc =
        let v : ℕ = (b - 0xC0) * 0x40 + (c - 0x80) in
        (is_scalar_law v (inl (omega arith)), utf8_two v (omega arith) (omega arith) ∙ ap₂ ◌∷◌ (omega arith) (ap (λ (x : ℕ). x ∷ []) (omega arith)))

abbrev value3 : ℕ → ℕ → ℕ → ℕ
value3 b c d = ((b - 0xE0) * 0x40 + (c - 0x80)) * 0x40 + (d - 0x80)

abbrev value4 : ℕ → ℕ → ℕ → ℕ → ℕ
value4 b c d e = (((b - 0xF0) * 0x40 + (c - 0x80)) * 0x40 + (d - 0x80)) * 0x40 + (e - 0x80)

module _ (first last low high : ℕ) (hl : 0x80 ≤ low) (hh : high ≤ 0xBF) where
  good_three : 0xE0 ≤ first → last ≤ 0xEF → ((b c d : ℕ) → first ≤ b → b ≤ last → low ≤ c → c ≤ high → 0x80 ≤ d → d ≤ 0xBF → (0x800 ≤ value3 b c d) × (is_scalar (value3 b c d) ≡ true)) → GoodRow (first to last ∷ low to high ∷ 0x80 to 0xBF ∷ [])
  good_three hf hg in_range_law b h g = let f = first_three b (omega arith) (omega arith) in (f.0, rw f.1 more)
    where
      more : (c : ℕ) → low ≤ c → c ≤ high → (d : ℕ) → 0x80 ≤ d → d ≤ 0xBF → Good [] (value3 b c d) (b ∷ c ∷ d ∷ [])
      more c hc gc d hd gd =
          let r = in_range_law b c d h g hc gc hd gd in
          (r.1, utf8_three (value3 b c d) r.0 (omega arith) ∙ ap₂ ◌∷◌ (omega arith) (ap₂ ◌∷◌ (omega arith) (ap (λ (x : ℕ). x ∷ []) (omega arith))))

  good_four : 0xF0 ≤ first → last ≤ 0xF4 → ((b c d e : ℕ) → first ≤ b → b ≤ last → low ≤ c → c ≤ high → 0x80 ≤ d → d ≤ 0xBF → 0x80 ≤ e → e ≤ 0xBF → (0x10000 ≤ value4 b c d e) × (value4 b c d e < 0x110000)) → GoodRow (first to last ∷ low to high ∷ 0x80 to 0xBF ∷ 0x80 to 0xBF ∷ [])
  good_four hf hg in_range_law b h g = let f = first_four b (omega arith) in (f.0, rw f.1 more)
    where
      more : (c : ℕ) → low ≤ c → c ≤ high → (d : ℕ) → 0x80 ≤ d → d ≤ 0xBF → (e : ℕ) → 0x80 ≤ e → e ≤ 0xBF → Good [] (value4 b c d e) (b ∷ c ∷ d ∷ e ∷ [])
      more c hc gc d hd gd e he ge =
          let r = in_range_law b c d e h g hc gc hd gd he ge in
          (is_scalar_law (value4 b c d e) (inr (omega arith, r.1)), utf8_four (value4 b c d e) r.0 ∙ ap₂ ◌∷◌ (omega arith) (ap₂ ◌∷◌ (omega arith) (ap₂ ◌∷◌ (omega arith) (ap (λ (x : ℕ). x ∷ []) (omega arith)))))

good_table : GoodRows table
unfolding table
good_table = (
  good_one,
  (
    good_two,
    (
      good_three 0xE0 0xE0 0xA0 0xBF (lit≤ tt) (lit≤ tt) (lit≤ tt) (lit≤ tt) (λ b c d h g hc gc hd gd. (omega arith, is_scalar_law _ (inl (omega arith)))),
      (
        good_three 0xE1 0xEC 0x80 0xBF (lit≤ tt) (lit≤ tt) (lit≤ tt) (lit≤ tt) (λ b c d h g hc gc hd gd. (omega arith, is_scalar_law _ (inl (omega arith)))),
        (
          good_three 0xED 0xED 0x80 0x9F (lit≤ tt) (lit≤ tt) (lit≤ tt) (lit≤ tt) (λ b c d h g hc gc hd gd. (omega arith, is_scalar_law _ (inl (omega arith)))),
          (
            good_three 0xEE 0xEF 0x80 0xBF (lit≤ tt) (lit≤ tt) (lit≤ tt) (lit≤ tt) (λ b c d h g hc gc hd gd. (omega arith, is_scalar_law _ (inr (omega arith, omega arith)))),
            (
              good_four 0xF0 0xF0 0x90 0xBF (lit≤ tt) (lit≤ tt) (lit≤ tt) (lit≤ tt) (λ b c d e h g hc gc hd gd he ge. (omega arith, omega arith)),
              (
                good_four 0xF1 0xF3 0x80 0xBF (lit≤ tt) (lit≤ tt) (lit≤ tt) (lit≤ tt) (λ b c d e h g hc gc hd gd he ge. (omega arith, omega arith)),
                (
                  good_four 0xF4 0xF4 0x80 0x8F (lit≤ tt) (lit≤ tt) (lit≤ tt) (lit≤ tt) (λ b c d e h g hc gc hd gd he ge. (omega arith, omega arith)),
                  tt,
                ),
              ),
            ),
          ),
        ),
      ),
    ),
  ),
)

-- the scalar values of bytes, a byte at a time
pub scalars_first : (v b : ℕ) (s : List ℕ) → 0x80 ≤ b → scalars_from 0 v (b ∷ s) ≡ scalars_from (followers b) (first_bits b) s
unfolding scalars_from followers first_bits
scalars_first v b s h = rw (le-ltb b 0x80 h, scalars_from)

pub scalars_one : (v b : ℕ) (s : List ℕ) → b < 0x80 → scalars_from 0 v (b ∷ s) ≡ b ∷ scalars_from 0 0 s
unfolding scalars_from
scalars_one v b s h = rw (lt-ltb b 0x80 h, scalars_from)

pub scalars_last : (v b : ℕ) (s : List ℕ) → scalars_from 1 v (b ∷ s) ≡ (v * 0x40 + (b - 0x80)) ∷ scalars_from 0 0 s
unfolding scalars_from
scalars_last v b s = refl

pub scalars_next : (k v b : ℕ) (s : List ℕ) → scalars_from (suc (suc k)) v (b ∷ s) ≡ scalars_from (suc k) (v * 0x40 + (b - 0x80)) s
unfolding scalars_from
scalars_next k v b s = rw (le-ltb (suc k) 1 (omega arith), scalars_from)

-- only an ASCII byte has no followers
no_followers : (b : ℕ) → 0 ≡ followers b → b < 0x80
no_followers b e =
    elim (dec_lt b 0x80) [
      | yes p ↦ p
      | no q ↦
          let h : 0x80 ≤ b = omega arith in
          elim (dec_lt b 0xE0) [
            | yes p ↦ absurd (omega (arith, (first_two b h p).0))
            | no r ↦
                let g : 0xE0 ≤ b = omega arith in
                elim (dec_lt b 0xF0) [
                  | yes p ↦ absurd (omega (arith, (first_three b g p).0))
                  | no t ↦ absurd (omega (arith, (first_four b (let k : 0xF0 ≤ b = omega arith in k)).0))
                ]
          ]
    ]

-- what was begun: nothing, or a sequence with bytes to come
abbrev Begun : List Range → ℕ → List ℕ → Type 0
Begun [] v p = p ≡ []
Begun (r ∷ rs) v p = Good (r ∷ rs) v p

-- bytes that end what was begun are the bytes of their scalar values
abbrev Agrees : List Range → ℕ → List ℕ → List ℕ → Type 0
Agrees rs v p s = (all_scalar (scalars_from (length rs) v s) ≡ true) × (utf8 (scalars_from (length rs) v s) ≡ p ++ s)

-- a first byte: ASCII is whole, any other begins a sequence
first_agrees : (b : ℕ) (s : List ℕ) (rs : List Range) → (length rs ≡ followers b) × Good rs (first_bits b) (b ∷ []) → ((v : ℕ) (p : List ℕ) → Begun rs v p → Agrees rs v p s) → (v : ℕ) → Agrees [] v [] (b ∷ s)
unfolding all_scalar utf8
first_agrees b s [] f ih v =
    let h : b < 0x80 = no_followers b f.0 in
    let i = ih 0 [] refl in
    rw (scalars_one v b s h) (rw (is_scalar_law b (inl (omega arith))) i.0, rw (utf8_one b h) (ap (λ (t : List ℕ). b ∷ t) i.1))
first_agrees b s (r ∷ rs) f ih v =
    elim (dec_lt b 0x80) [
      | yes p ↦ absurd (omega (arith, f.0, (first_one b p).0))
      | no q ↦ rw (scalars_first v b s (let h : 0x80 ≤ b = omega arith in h), ← f.0) (ih (first_bits b) (b ∷ []) f.1)
    ]

-- a later byte, with what its value and the bytes after it say
next_agrees : (r : Range) (rs : List Range) (v b : ℕ) (p s : List ℕ) → Good rs (v * 0x40 + (b - 0x80)) (p ++ (b ∷ [])) → ((v : ℕ) (p : List ℕ) → Begun rs v p → Agrees rs v p s) → Agrees (r ∷ rs) v p (b ∷ s)
unfolding all_scalar utf8
next_agrees r [] v b p s g ih =
    let i = ih 0 [] refl in
    rw (scalars_last v b s) (rw g.0 i.0, rw (g.1, i.1) (append_snoc p b s))
next_agrees r (t ∷ rs) v b p s g ih =
    let i = ih (v * 0x40 + (b - 0x80)) (p ++ (b ∷ [])) g in
    rw (scalars_next (length rs) v b s) (i.0, i.1 ∙ append_snoc p b s)

agrees : (rs : List Range) (s : List ℕ) → well_formed rs s ≡ true → (v : ℕ) (p : List ℕ) → Begun rs v p → Agrees rs v p s
unfolding well_formed within all_scalar utf8 scalars_from
agrees [] [] h v p g = (refl, rw g)
agrees (r ∷ rs) [] h v p g = absurd (false≢true h)
agrees [] (b ∷ s) h v p g = rw g (go (row_of table b) refl (λ (rs : List Range). agrees rs s))
  where
    go : (o : Option (List Range)) → row_of table b ≡ o → ((rs : List Range) → well_formed rs s ≡ true → (v : ℕ) (p : List ℕ) → Begun rs v p → Agrees rs v p s) → Agrees [] v [] (b ∷ s)
    go None e ih = absurd (false≢true (sym (first_out b s e) ∙ h))
    go (Some rs) e ih = first_agrees b s rs (found table good_table b rs e) (ih rs (sym (first_in b s e) ∙ h)) v
agrees ((low to high) ∷ rs) (b ∷ s) h v p g = go (leb low b) refl (leb b high) refl (agrees rs s)
  where
    go : (x : Bool) → leb low b ≡ x → (y : Bool) → leb b high ≡ y → (well_formed rs s ≡ true → (v : ℕ) (p : List ℕ) → Begun rs v p → Agrees rs v p s) → Agrees ((low to high) ∷ rs) v p (b ∷ s)
    go false e y f ih = absurd (false≢true (rw (e, well_formed) at h))
    go true e false f ih = absurd (false≢true (rw (e, f, well_formed) at h))
    go true e true f ih = next_agrees (low to high) rs v b p s (g b (leb-true low b e) (leb-true b high f)) (ih (rw (e, f, well_formed) at h))

-- the scalar values of UTF-8 are scalar values
pub utf8_scalar : (s : List ℕ) → is_utf8 s ≡ true → all_scalar (scalars8 s) ≡ true
unfolding is_utf8 scalars8
utf8_scalar s h = (agrees [] s h 0 [] refl).0

-- and their bytes are the bytes that they were read from
pub utf8_again : (s : List ℕ) → is_utf8 s ≡ true → utf8 (scalars8 s) ≡ s
unfolding is_utf8 scalars8
utf8_again s h = (agrees [] s h 0 [] refl).1

-- bytes that lie within their ranges, each in its own, end a sequence
abbrev Inside : List Range → List ℕ → Type 0
Inside [] [] = Unit {0}
Inside [] (b ∷ s) = ⊥
Inside (r ∷ rs) [] = ⊥
Inside ((low to high) ∷ rs) (b ∷ s) = ((low ≤ b) × (b ≤ high)) × Inside rs s

inside : (rs : List Range) (s : List ℕ) → Inside rs s → well_formed rs s ≡ true
unfolding well_formed within
inside [] [] h = refl
inside [] (b ∷ s) h = absurd h
inside (r ∷ rs) [] h = absurd h
inside ((low to high) ∷ rs) (b ∷ s) h = rw (le-leb low b h.0.0, le-leb b high h.0.1) (inside rs s h.1)

-- a sequence by its row: the row of each first byte of an interval is computed
whole : (low n : ℕ) (rs : List Range) (b : ℕ) (s : List ℕ) → values (λ _. Some rs) low n ≡ values (row_of table) low n → low ≤ b → b < low + n → Inside rs s → is_utf8 (b ∷ s) ≡ true
unfolding is_utf8
whole low n rs b s e h g i = first_in b s (sym (on (λ _. Some rs) (row_of table) low n b e h g)) ∙ inside rs s i

-- a scalar value's bytes are one whole sequence of the table
module _ (v : ℕ) where
  whole_one : v < 0x80 → is_utf8 (v ∷ []) ≡ true
  unfolding table row_of within
  whole_one h = whole 0x00 0x80 [] v [] refl (omega arith) h tt

  whole_two : 0x80 ≤ v → v < 0x800 → is_utf8 ((0xC0 + v / 0x40) ∷ (0x80 + v % 0x40) ∷ []) ≡ true
  unfolding table row_of within
  whole_two h g = whole 0xC2 30 (0x80 to 0xBF ∷ []) (0xC0 + v / 0x40) ((0x80 + v % 0x40) ∷ []) refl (omega arith) (omega arith) ((omega arith, omega arith), tt)

  whole_three : 0x800 ≤ v → v < 0x10000 → (v < 0xD800) ⊎ (0xE000 ≤ v) → is_utf8 ((0xE0 + v / 0x1000) ∷ (0x80 + v / 0x40 % 0x40) ∷ (0x80 + v % 0x40) ∷ []) ≡ true
  unfolding table row_of within
  whole_three h g k =
      let b : ℕ = 0xE0 + v / 0x1000 in
      let s : List ℕ = (0x80 + v / 0x40 % 0x40) ∷ (0x80 + v % 0x40) ∷ [] in
      elim (dec_lt v 0x1000) [
        | yes p ↦ whole 0xE0 1 (0xA0 to 0xBF ∷ 0x80 to 0xBF ∷ []) b s refl (omega arith) (omega arith) ((omega arith, omega arith), ((omega arith, omega arith), tt))
        | no q ↦
            elim (dec_lt v 0xD000) [
              | yes p ↦ whole 0xE1 12 (0x80 to 0xBF ∷ 0x80 to 0xBF ∷ []) b s refl (omega arith) (omega arith) ((omega arith, omega arith), ((omega arith, omega arith), tt))
              | no r ↦
                  ⊎_elim
                  (λ l. whole 0xED 1 (0x80 to 0x9F ∷ 0x80 to 0xBF ∷ []) b s refl (omega arith) (omega arith) ((omega arith, omega arith), ((omega arith, omega arith), tt)))
                  (λ l. whole 0xEE 2 (0x80 to 0xBF ∷ 0x80 to 0xBF ∷ []) b s refl (omega arith) (omega arith) ((omega arith, omega arith), ((omega arith, omega arith), tt)))
                  k
            ]
      ]

  whole_four : 0x10000 ≤ v → v < 0x110000 → is_utf8 ((0xF0 + v / 0x40000) ∷ (0x80 + v / 0x1000 % 0x40) ∷ (0x80 + v / 0x40 % 0x40) ∷ (0x80 + v % 0x40) ∷ []) ≡ true
  unfolding table row_of within
  whole_four h g =
      let b : ℕ = 0xF0 + v / 0x40000 in
      let s : List ℕ = (0x80 + v / 0x1000 % 0x40) ∷ (0x80 + v / 0x40 % 0x40) ∷ (0x80 + v % 0x40) ∷ [] in
      elim (dec_lt v 0x40000) [
        | yes p ↦ whole 0xF0 1 (0x90 to 0xBF ∷ 0x80 to 0xBF ∷ 0x80 to 0xBF ∷ []) b s refl (omega arith) (omega arith) ((omega arith, omega arith), ((omega arith, omega arith), ((omega arith, omega arith), tt)))
        | no q ↦
            elim (dec_lt v 0x100000) [
              | yes p ↦ whole 0xF1 3 (0x80 to 0xBF ∷ 0x80 to 0xBF ∷ 0x80 to 0xBF ∷ []) b s refl (omega arith) (omega arith) ((omega arith, omega arith), ((omega arith, omega arith), ((omega arith, omega arith), tt)))
              | no r ↦ whole 0xF4 1 (0x80 to 0x8F ∷ 0x80 to 0xBF ∷ 0x80 to 0xBF ∷ []) b s refl (omega arith) (omega arith) ((omega arith, omega arith), ((omega arith, omega arith), ((omega arith, omega arith), tt)))
            ]
      ]

  -- and its bytes give it back
  back_two : (t : List ℕ) → 0x80 ≤ v → v < 0x800 → scalars_from 0 0 ((0xC0 + v / 0x40) ∷ (0x80 + v % 0x40) ∷ t) ≡ v ∷ scalars_from 0 0 t
  back_two t h g =
      let b : ℕ = 0xC0 + v / 0x40 in
      let c : ℕ = 0x80 + v % 0x40 in
      let f = first_two b (omega arith) (omega arith) in
      let e : (b - 0xC0) * 0x40 + (c - 0x80) ≡ v = omega arith in
      rw (scalars_first 0 b (c ∷ t) (omega arith), ← f.0, f.1, scalars_last (b - 0xC0) c t, e)

  back_three : (t : List ℕ) → 0x800 ≤ v → v < 0x10000 → scalars_from 0 0 ((0xE0 + v / 0x1000) ∷ (0x80 + v / 0x40 % 0x40) ∷ (0x80 + v % 0x40) ∷ t) ≡ v ∷ scalars_from 0 0 t
  back_three t h g =
      let b : ℕ = 0xE0 + v / 0x1000 in
      let c : ℕ = 0x80 + v / 0x40 % 0x40 in
      let d : ℕ = 0x80 + v % 0x40 in
      let f = first_three b (omega arith) (omega arith) in
      let e : value3 b c d ≡ v = omega arith in
      let x : ℕ = (b - 0xE0) * 0x40 + (c - 0x80) in
      rw (scalars_first 0 b (c ∷ d ∷ t) (omega arith), ← f.0, f.1) (scalars_next 0 (b - 0xE0) c (d ∷ t) ∙ scalars_last x d t ∙ ap (λ (y : ℕ). y ∷ scalars_from 0 0 t) e)

  back_four : (t : List ℕ) → 0x10000 ≤ v → v < 0x110000 → scalars_from 0 0 ((0xF0 + v / 0x40000) ∷ (0x80 + v / 0x1000 % 0x40) ∷ (0x80 + v / 0x40 % 0x40) ∷ (0x80 + v % 0x40) ∷ t) ≡ v ∷ scalars_from 0 0 t
  back_four t h g =
      let b : ℕ = 0xF0 + v / 0x40000 in
      let c : ℕ = 0x80 + v / 0x1000 % 0x40 in
      let d : ℕ = 0x80 + v / 0x40 % 0x40 in
      let z : ℕ = 0x80 + v % 0x40 in
      let f = first_four b (omega arith) in
      let high : v / 0x1000 ≡ v / 0x40000 * 0x40 + v / 0x1000 % 0x40 = omega arith in
      let middle : v / 0x40 ≡ v / 0x1000 * 0x40 + v / 0x40 % 0x40 = omega arith in
      let e : value4 b c d z ≡ v = omega arith in
      let x : ℕ = (b - 0xF0) * 0x40 + (c - 0x80) in
      rw (scalars_first 0 b (c ∷ d ∷ z ∷ t) (omega arith), ← f.0, f.1)
      (scalars_next 1 (b - 0xF0) c (d ∷ z ∷ t) ∙ scalars_next 0 x d (z ∷ t) ∙ scalars_last (x * 0x40 + (d - 0x80)) z t ∙ ap (λ (y : ℕ). y ∷ scalars_from 0 0 t) e)

-- a scalar value's bytes are whole text, and give it back
one_scalar : (v : ℕ) → is_scalar v ≡ true → (is_utf8 (utf8_of v) ≡ true) × ((t : List ℕ) → scalars_from 0 0 (utf8_of v ++ t) ≡ v ∷ scalars_from 0 0 t)
one_scalar v h =
    elim (dec_lt v 0x80) [
      | yes p ↦ rw (utf8_one v p) (whole_one v p, λ t. scalars_one 0 v t p)
      | no p ↦
          let l : 0x80 ≤ v = omega arith in
          elim (dec_lt v 0x800) [
            | yes q ↦ rw (utf8_two v l q) (whole_two v l q, λ t. back_two v t l q)
            | no q ↦
                let m : 0x800 ≤ v = omega arith in
                elim (dec_lt v 0x10000) [
                  | yes r ↦ rw (utf8_three v m r) (whole_three v m r (⊎_elim (λ a. inl a) (λ a. inr a.0) (scalar_is v h)), λ t. back_three v t m r)
                  | no r ↦
                      let n : 0x10000 ≤ v = omega arith in
                      let k : v < 0x110000 = scalar_lt v h in
                      rw (utf8_four v n) (whole_four v n k, λ t. back_four v t n k)
                ]
          ]
    ]

-- and so are those of a text
all_scalar_law : (vs : List ℕ) → all_scalar vs ≡ true → (is_utf8 (utf8 vs) ≡ true) × (scalars_from 0 0 (utf8 vs) ≡ vs)
unfolding utf8 is_utf8 well_formed scalars_from
all_scalar_law = by_scalar (λ (vs : List ℕ). (is_utf8 (utf8 vs) ≡ true) × (scalars_from 0 0 (utf8 vs) ≡ vs)) (refl, refl) more
  where
    more : (v : ℕ) (vs : List ℕ) → is_scalar v ≡ true → (is_utf8 (utf8 vs) ≡ true) × (scalars_from 0 0 (utf8 vs) ≡ vs) → (is_utf8 (utf8 (v ∷ vs)) ≡ true) × (scalars_from 0 0 (utf8 (v ∷ vs)) ≡ v ∷ vs)
    more v vs s i = let o = one_scalar v s in (utf8_append (utf8_of v) (utf8 vs) o.0 ∙ i.0, o.1 (utf8 vs) ∙ ap (λ (t : List ℕ). v ∷ t) i.1)

-- what scalar values are written as is UTF-8
pub utf8_is : (vs : List ℕ) → all_scalar vs ≡ true → is_utf8 (utf8 vs) ≡ true
utf8_is vs h = (all_scalar_law vs h).0

-- and it gives them back
pub scalars_again : (vs : List ℕ) → all_scalar vs ≡ true → scalars8 (utf8 vs) ≡ vs
unfolding scalars8
scalars_again vs h = (all_scalar_law vs h).1

-- the check says yes exactly to what scalar values are written as
pub utf8_exactly : (s : List ℕ) → (is_utf8 s ≡ true) ↔ ((vs : List ℕ) × (all_scalar vs ≡ true) × (utf8 vs ≡ s))
utf8_exactly s = (λ h. (scalars8 s, utf8_scalar s h, utf8_again s h), λ e. rw (← e.2) (utf8_is e.0 e.1))

-- ASCII is itself in scalar values
pub ascii_scalars : (s : List ℕ) → is_ascii s ≡ true → scalars8 s ≡ s
unfolding scalars8 scalars_from
ascii_scalars [] h = refl
ascii_scalars (b ∷ s) h = let k = ascii_cons b s h in scalars_one 0 b s k.0 ∙ ap (λ (t : List ℕ). b ∷ t) (ascii_scalars s k.1)
