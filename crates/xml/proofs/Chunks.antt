-- Text cut into chunks of one length: what holds of each, and what is left behind some of them. And a chunk's bytes as one number.
use Rattle.std.proofs.Common.{Bool, true, List, [], ◌∷◌, ◌++◌, ◌≡◌, ℕ, zero, suc, ◌+◌, ◌*◌, ◌/◌, ◌≤◌, ◌<◌, length, take, drop, get_or, refl, ap, sym, ◌∙◌, arith, take-add, drop-drop, take-append-drop, length-append, append-nil}
use Rattle.std.specs.Bool.{MatchBool}
use Rattle.std.specs.List.{AllWithin}
use Rattle.std.specs.Simd.{first_chunks}
use Rattle.std.specs.Int.{w32, w64, from_le_bytes}
use Rattle.utf.specs.Left.{left_at}
use Rattle.utf.specs.Plain.{little_of}
use Rattle.xml.specs.EscapeLaws.{escape_append}
use Rattle.xml.specs.Simple.{all_simple}
use Rattle.xml.specs.SimpleLaws.{simple_more}
use Rattle.xml.specs.Text.{more_in}
use Rattle.xml.specs.TextLaws.{more_append}
use Rattle.xml.specs.Xml.{escape_of, escape}

length-chunks : (n k : ℕ) (s : List ℕ) → length (first_chunks n k s) ≡ k
length-chunks n zero s = refl
length-chunks n (suc k) s = ap (λ (j : ℕ). suc j) (length-chunks n k (drop n s))

-- the chunk at a place
pub chunk_at : (n k j : ℕ) (s d : List ℕ) → j < k → get_or (first_chunks n k s) j d ≡ take n (drop (j * n) s)
chunk_at n zero j s d h = absurd (omega arith)
chunk_at n (suc k) zero s d h = let z : zero * n ≡ 0 = omega arith in rw z refl
chunk_at n (suc k) (suc j) s d h =
    let e : suc j * n ≡ n + j * n = omega arith in
    rw e (chunk_at n k j (drop n s) d (omega arith) ∙ ap (take n) (drop-drop (j * n) n s))

-- the same of chunks that are all of a text, but for what is left behind them
pub chunk_of : (n : ℕ) (s : List ℕ) {chunks : List (List ℕ)} → chunks ≡ first_chunks n (length s / n) s → (i : ℕ) → i < length chunks → get_or chunks i [] ≡ take n (drop (i * n) s)
chunk_of n s {chunks} e i h =
    let k : length chunks ≡ length s / n = ap length e ∙ length-chunks n (length s / n) s in
    rw e (chunk_at n (length s / n) i s [] (omega arith))

-- where each is simple all of them are
all_simple_chunks :
    (n k : ℕ) (s : List ℕ) → ((j : ℕ) (d : List ℕ) → j < k → all_simple (get_or (first_chunks n k s) j d) ≡ true) → all_simple (take (k * n) s) ≡ true
unfolding all_simple
all_simple_chunks n zero s h = let z : zero * n ≡ 0 = omega arith in rw z refl
all_simple_chunks n (suc k) s h =
    let e : suc k * n ≡ n + k * n = omega arith in
    rw e (simple_more (k * n) n s (h 0 [] (omega arith)) (all_simple_chunks n k (drop n s) (λ j d l. h (suc j) d (omega arith))))

pub chunks_simple :
    (n k : ℕ) (s : List ℕ) (r : Bool) (P : Type 0) → MatchBool r (AllWithin (λ t. all_simple t ≡ true) (first_chunks n k s) 0 (length (first_chunks n k s))) P → r ≡ true →
    all_simple (take (k * n) s) ≡ true
chunks_simple n k s r P h e =
    let a : AllWithin (λ t. all_simple t ≡ true) (first_chunks n k s) 0 (length (first_chunks n k s)) = rw e at h in
    all_simple_chunks n k s (λ j d l. a j d (omega arith) (rw (length-chunks n k s) l))

-- eight bytes, and four, as one number
pub little_eight : (t : List ℕ) → length t ≡ 8 → little_of t ≡ from_le_bytes w64 t
unfolding little_of
little_eight [] n = absurd (omega arith)
little_eight (a ∷ []) n = absurd (omega arith)
little_eight (a ∷ b ∷ []) n = absurd (omega arith)
little_eight (a ∷ b ∷ c ∷ []) n = absurd (omega arith)
little_eight (a ∷ b ∷ c ∷ d ∷ []) n = absurd (omega arith)
little_eight (a ∷ b ∷ c ∷ d ∷ e ∷ []) n = absurd (omega arith)
little_eight (a ∷ b ∷ c ∷ d ∷ e ∷ f ∷ []) n = absurd (omega arith)
little_eight (a ∷ b ∷ c ∷ d ∷ e ∷ f ∷ g ∷ []) n = absurd (omega arith)
little_eight (a ∷ b ∷ c ∷ d ∷ e ∷ f ∷ g ∷ h ∷ []) n = omega arith
little_eight (a ∷ b ∷ c ∷ d ∷ e ∷ f ∷ g ∷ h ∷ i ∷ t) n = absurd (omega arith)

pub little_four : (t : List ℕ) → length t ≡ 4 → little_of t ≡ from_le_bytes w32 t
unfolding little_of
little_four [] n = absurd (omega arith)
little_four (a ∷ []) n = absurd (omega arith)
little_four (a ∷ b ∷ []) n = absurd (omega arith)
little_four (a ∷ b ∷ c ∷ []) n = absurd (omega arith)
little_four (a ∷ b ∷ c ∷ d ∷ []) n = omega arith
little_four (a ∷ b ∷ c ∷ d ∷ e ∷ t) n = absurd (omega arith)

-- how much longer escaped text is: a chunk's part, and that of what is left behind it
pub more_chunk : (n k j : ℕ) (s : List ℕ) → j < k → more_in (drop (j * n) s) ≡ more_in (get_or (first_chunks n k s) j []) + more_in (drop ((j + 1) * n) s)
more_chunk n k j s h =
    let e : (j + 1) * n ≡ j * n + n = omega arith in
    let t = drop (j * n) s in
    rw (e, chunk_at n k j s [] h, ← drop-drop n (j * n) s) (ap more_in (sym (take-append-drop n t)) ∙ more_append (take n t) (drop n t))

-- escaped text: the first so many bytes, and what is left
pub escape_split : (k : ℕ) (s : List ℕ) → escape s ≡ escape (take k s) ++ escape (drop k s)
escape_split k s = ap escape (sym (take-append-drop k s)) ∙ escape_append (take k s) (drop k s)

pub length_split : (k : ℕ) (s : List ℕ) → length (escape s) ≡ length (escape (take k s)) + length (escape (drop k s))
length_split k s = ap length (escape_split k s) ∙ length-append (escape (take k s)) (escape (drop k s))

-- a part more behind the first ones
module _ (n i : ℕ) (s : List ℕ) where
  pub escape_more : escape (take (i + n) s) ≡ escape (take i s) ++ escape (take n (drop i s))
  escape_more = ap escape (take-add i n s) ∙ escape_append (take i s) (take n (drop i s))

  pub escape_within : length (escape (take i s)) + length (escape (take n (drop i s))) ≤ length (escape s)
  escape_within = omega (arith, length_split i s, length_split n (drop i s))

-- a part of one byte
pub escape_one : (i : ℕ) (s : List ℕ) → i < length s → escape (take 1 (drop i s)) ≡ escape_of (get_or s i 0)
unfolding escape
escape_one i s h = rw (left_at s i h, append-nil) refl
