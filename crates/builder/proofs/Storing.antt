-- Pair after pair: the words of a builder so far as its bits are stored.
use Rattle.std.specs.Prelude.{List, [], ◌∷◌, ◌++◌, ◌≡◌, refl, ℕ, ◌+◌, ◌*◌, ◌%◌, ◌^◌, ◌<◌, ◌≤◌, length, get_or, set, take}
use Rattle.std.proofs.Common.{ap, sym, ◌∙◌, arith, add-one, lit<}
use Rattle.std.proofs.Math.Seq.{take-suc, length-take-le}
use Rattle.std.proofs.lemmas.List.Edits.{sets}
use Rattle.utf.proofs.Writing.{sets_append}
use Rattle.builder.specs.State.{open_words}
use Rattle.builder.specs.Words.{pair_at, pair_of, builder_in, words_of}
use Rattle.builder.specs.WordsLaws.{eight}
use Rattle.builder.specs.declared.state.Builder.{Builder}

pairs : List ℕ → List ℕ
pairs [] = []
pairs (w ∷ ws) = pair_of w ++ pairs ws

pairs_last : (ws : List ℕ) (w : ℕ) → pairs (ws ++ (w ∷ [])) ≡ pairs ws ++ pair_of w
unfolding pairs
pairs_last [] w = refl
pairs_last (v ∷ ws) w = ap (λ (l : List ℕ). pair_of v ++ l) (pairs_last ws w)

length_pairs : (ws : List ℕ) → length (pairs ws) ≡ 2 * length ws
unfolding pairs
length_pairs [] = refl
length_pairs (w ∷ ws) = let ih = length_pairs ws in omega arith

-- the words where so many of the bits' words are stored
pub words_to : Builder → ℕ → List ℕ
words_to b i = pair_of b.held ++ (b.due ∷ b.depth % 2 ^ 32 ∷ pairs (take i b.bits))

pub words_none : (words : List ℕ) (b : Builder) → set (set (sets words 0 (pair_of b.held)) 2 b.due) 3 (b.depth % 2 ^ 32) ≡ sets words 0 (words_to b 0)
unfolding words_to pairs
words_none words b = refl

length_to : (b : Builder) (i : ℕ) → i ≤ length b.bits → length (words_to b i) ≡ 4 + 2 * i
unfolding words_to
length_to b i h = omega (arith, length_pairs (take i b.bits), length-take-le i b.bits h)

words_on : (b : Builder) (i : ℕ) → i < length b.bits → words_to b (i + 1) ≡ words_to b i ++ pair_of (get_or b.bits i 0)
unfolding words_to
words_on b i h =
    let t : take (i + 1) b.bits ≡ take i b.bits ++ (get_or b.bits i 0 ∷ []) = rw add-one (take-suc b.bits i 0 h) in
    ap (λ (l : List ℕ). pair_of b.held ++ (b.due ∷ b.depth % 2 ^ 32 ∷ l)) (ap pairs t ∙ pairs_last (take i b.bits) (get_or b.bits i 0))

pub words_more : (words : List ℕ) (b : Builder) (i : ℕ) → i < length b.bits → sets (sets words 0 (words_to b i)) (4 + 2 * i) (pair_of (get_or b.bits i 0)) ≡ sets words 0 (words_to b (i + 1))
words_more words b i h =
    let w = get_or b.bits i 0 in
    let n : 0 + length (words_to b i) ≡ 4 + 2 * i = omega (arith, length_to b i (omega arith)) in
    ap (λ (k : ℕ). sets (sets words 0 (words_to b i)) k (pair_of w)) (sym n) ∙ sym (sets_append (words_to b i) (pair_of w) words 0) ∙ ap (sets words 0) (sym (words_on b i h))

pub words_all : (b : Builder) (i : ℕ) → length b.bits ≡ open_words → i ≡ open_words → words_to b i ≡ words_of b
unfolding words_to words_of pairs
words_all b i l e = rw (e, ← eight b.bits l)

-- the bits' words, each read from its pair
pub bits_in : (bits words : List ℕ) → length bits ≡ open_words → ((k : ℕ) → k < open_words → get_or bits k 0 ≡ pair_at words (4 + 2 * k)) → bits ≡ (builder_in words).bits
unfolding builder_in
bits_in bits words l w =
    sym (eight bits l) ∙ rw (w 0 (lit< tt), w 1 (lit< tt), w 2 (lit< tt), w 3 (lit< tt), w 4 (lit< tt), w 5 (lit< tt), w 6 (lit< tt), w 7 (lit< tt))
