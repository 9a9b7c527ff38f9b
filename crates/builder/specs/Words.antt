-- A builder in words of 32 bits. docs/FORMAT.md, rule B7.
use Rattle.std.specs.Prelude.{Bool, cond, List, [], ◌∷◌, ◌++◌, ℕ, ◌+◌, ◌*◌, ◌/◌, ◌%◌, ◌^◌, ltb, length, get_or}
use Rattle.std.proofs.lemmas.List.Edits.{sets}
use Rattle.builder.specs.State.{open_words, empty_builder}
use Rattle.builder.specs.declared.state.Builder.{Builder}

abbrev pub builder_words : ℕ
builder_words = 4 + 2 * open_words

-- fewer words than a builder has
abbrev pub few_words : List ℕ → Bool
few_words words = ltb (length words) builder_words

-- a number of 64 bits is two words, the low half first
unfoldable pub pair_at : List ℕ → ℕ → ℕ
pair_at words at = get_or words (at + 1) 0 * 2 ^ 32 + get_or words at 0

abbrev pub pair_of : ℕ → List ℕ
pair_of n = n % 2 ^ 32 ∷ n / 2 ^ 32 % 2 ^ 32 ∷ []

-- the builder that words are, whatever they are
unfoldable pub builder_in : List ℕ → Builder
builder_in words =
    record {
      held = pair_at words 0;
      due = get_or words 2 0;
      depth = get_or words 3 0;
      bits = pair_at words 4 ∷ pair_at words 6 ∷ pair_at words 8 ∷ pair_at words 10 ∷ pair_at words 12 ∷ pair_at words 14 ∷ pair_at words 16 ∷ pair_at words 18 ∷ [];
    }

-- the words of a builder; a depth has one, which is enough for those that calls lead to
unfoldable pub words_of : Builder → List ℕ
words_of b =
    pair_of b.held ++ (b.due ∷ b.depth % 2 ^ 32 ∷
    (pair_of (get_or b.bits 0 0) ++ (pair_of (get_or b.bits 1 0) ++ (pair_of (get_or b.bits 2 0) ++ (pair_of (get_or b.bits 3 0) ++
    (pair_of (get_or b.bits 4 0) ++ (pair_of (get_or b.bits 5 0) ++ (pair_of (get_or b.bits 6 0) ++ pair_of (get_or b.bits 7 0)))))))))

-- what is loaded, and what the words are once a builder is stored: too few are no builder, and stay
unfoldable pub load_of : List ℕ → Builder
load_of words = cond (few_words words) empty_builder (builder_in words)

unfoldable pub store_of : List ℕ → Builder → List ℕ
store_of words b = cond (few_words words) words (sets words 0 (words_of b))
