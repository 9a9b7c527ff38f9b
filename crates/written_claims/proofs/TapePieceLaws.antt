-- Pieces of a tape are read as events, up to a start whose number is malformed.
use Rattle.std.specs.Prelude.{List, [], ◌∷◌, ◌++◌, map, ◌⊎◌, ◌≡◌, refl, ℕ, zero, suc, ◌^◌, ◌<◌, length, take, None, Some}
use Rattle.std.proofs.Common.{append_assoc, append-nil, inl, inr, sym, ap, ap₂, ◌∙◌, arith, lt-ltb, drop_at}
use Rattle.std.proofs.lemmas.List.{length-map}
use Rattle.number.specs.BeLaws.{Bytes}
use Rattle.number.specs.PartLaws.{bytes_drop}
use Rattle.event.specs.Meaning.{Meaning, array, dictionary}
use Rattle.event.specs.Unmeasured.{unmeasured}
use Rattle.tape.specs.Code.{bytes_for, allowed, OnTape}
use Rattle.tape.specs.Events.{tape_of}
use Rattle.tape.proofs.EventsLaws.{AllOnTape}
use Rattle.tape.specs.Item.{bad, numbered, of_kind, item_at, reading_of, read_at}
use Rattle.tape.specs.Seven.{seven}
use Rattle.tape.specs.Value.{number_from, number_at}
use Rattle.written.specs.Graph.{Kind, arr, dic}
use Rattle.written_claims.specs.Lengths.{TapePiece, event, given, bytes_in, tape_from, place_of, Formed, Malformed, shape_of}
use Rattle.written_claims.proofs.NumeralLaws.{none_there, numeral_read}

-- a piece that is an event's bytes
pub record EventIn (p : TapePiece) (m : Meaning) : Type 0 where
  pub held : OnTape m
  pub is : bytes_in p ≡ bytes_for m
  pub shape : shape_of p ≡ unmeasured m

-- what a piece is where such bytes follow: an event, or a start whose number is malformed, which is read as none
abbrev Known : TapePiece → List ℕ → Type 0
Known p behind = ((m : Meaning) × EventIn p m) ⊎ (Malformed p × (read_at (bytes_in p ++ behind) 0 ≡ bad))

given_event : (k : Kind) (s : List ℕ) (n : ℕ) → n < 2 ^ 64 → s ≡ seven n → (m : Meaning) × EventIn (given k s) m
unfolding bytes_in bytes_for shape_of unmeasured allowed
given_event arr s n h e = (array (Some n), record { held = (h, refl); is = rw e; shape = refl })
given_event dic s n h e = (dictionary (Some n), record { held = (h, refl); is = rw e; shape = refl })

given_bad : (k : Kind) (s behind : List ℕ) → number_from 1 (s ++ behind) ≡ None → read_at (bytes_in (given k s) ++ behind) 0 ≡ bad
unfolding bytes_in read_at reading_of item_at of_kind numbered number_at
given_bad arr s behind e = rw (lt-ltb 0 (suc (length (s ++ behind))) (omega arith), e)
given_bad dic s behind e = rw (lt-ltb 0 (suc (length (s ++ behind))) (omega arith), e)

given_bytes : (k : Kind) (s behind : List ℕ) → Bytes (bytes_in (given k s) ++ behind) → Bytes (s ++ behind)
unfolding bytes_in
given_bytes arr s behind good = good.1
given_bytes dic s behind good = good.1

known : (p : TapePiece) (ps : List TapePiece) (rest : List ℕ) → Formed (p ∷ ps) rest → Bytes (bytes_in p ++ tape_from ps rest) → Known p (tape_from ps rest)
unfolding bytes_in shape_of
known (event m) ps rest f good = inl (m, record { held = f.0; is = refl; shape = refl })
known (given k s) ps rest f good = go (numeral_read _ s (tape_from ps rest) (none_there (tape_from ps rest)) f.0 (given_bytes k s (tape_from ps rest) good) 1)
  where
    go : ((n : ℕ) × (n < 2 ^ 64) × (s ≡ seven n)) ⊎ (Malformed (given k s) × (number_from 1 (s ++ tape_from ps rest) ≡ None)) → Known (given k s) (tape_from ps rest)
    go (inl (n, h, e)) = inl (given_event k s n h e)
    go (inr (x, e)) = inr (x, given_bad k s (tape_from ps rest) e)

-- pieces that are events
abbrev pub Front : List TapePiece → List Meaning → Type 0
Front [] [] = Unit {0}
Front [] (m ∷ ms) = ⊥
Front (p ∷ ps) [] = ⊥
Front (p ∷ ps) (m ∷ ms) = EventIn p m × Front ps ms

pub front_held : (ps : List TapePiece) (ms : List Meaning) → Front ps ms → AllOnTape ms
front_held [] [] f = tt
front_held [] (m ∷ ms) f = absurd f
front_held (p ∷ ps) [] f = absurd f
front_held (p ∷ ps) (m ∷ ms) f = (f.0.held, front_held ps ms f.1)

pub front_shape : (ps : List TapePiece) (ms : List Meaning) → Front ps ms → map shape_of ps ≡ map unmeasured ms
front_shape [] [] f = refl
front_shape [] (m ∷ ms) f = absurd f
front_shape (p ∷ ps) [] f = absurd f
front_shape (p ∷ ps) (m ∷ ms) f = ap₂ ◌∷◌ f.0.shape (front_shape ps ms f.1)

pub front_length : (ps : List TapePiece) (ms : List Meaning) → Front ps ms → length ps ≡ length ms
front_length ps ms f = sym (length-map ps shape_of) ∙ ap length (front_shape ps ms f) ∙ length-map ms unmeasured

pub front_tape : (ps : List TapePiece) (ms : List Meaning) (rest : List ℕ) → Front ps ms → tape_from ps rest ≡ tape_of ms ++ rest
unfolding tape_from tape_of
front_tape [] [] rest f = refl
front_tape [] (m ∷ ms) rest f = absurd f
front_tape (p ∷ ps) [] rest f = absurd f
front_tape (p ∷ ps) (m ∷ ms) rest f = rw (f.0.is, front_tape ps ms rest f.1, append_assoc)

front_take : (i : ℕ) (ps : List TapePiece) (ms : List Meaning) → Front ps ms → Front (take i ps) (take i ms)
front_take zero ps ms f = tt
front_take (suc i) [] [] f = tt
front_take (suc i) [] (m ∷ ms) f = absurd f
front_take (suc i) (p ∷ ps) [] f = absurd f
front_take (suc i) (p ∷ ps) (m ∷ ms) f = (f.0, front_take i ps ms f.1)

pub front_place : (i : ℕ) (ps : List TapePiece) (ms : List Meaning) → Front ps ms → place_of ps i ≡ length (tape_of (take i ms))
unfolding place_of
front_place i ps ms f = rw (front_tape (take i ps) (take i ms) [] (front_take i ps ms f), append-nil)

-- all pieces are events, or those in front of a start whose number is malformed
pub data Walked (ps : List TapePiece) (rest : List ℕ) : Type 0 where
  over : (ms : List Meaning) → Front ps ms → Walked ps rest
  stuck : (front : List TapePiece) (ms : List Meaning) (p : TapePiece) (more : List TapePiece) → ps ≡ front ++ (p ∷ more) → Front front ms → Malformed p → read_at (bytes_in p ++ tape_from more rest) 0 ≡ bad → Walked ps rest

pub bytes_behind : (s q : List ℕ) → Bytes (s ++ q) → Bytes q
bytes_behind s q good = rw (drop_at s q (length s) refl) at (bytes_drop (length s) (s ++ q) good)

pub walked : (ps : List TapePiece) (rest : List ℕ) → Formed ps rest → Bytes (tape_from ps rest) → Walked ps rest
unfolding tape_from
walked [] rest f good = over [] tt
walked (p ∷ ps) rest f good = go (known p ps rest f good) (walked ps rest (behind p f) (bytes_behind (bytes_in p) (tape_from ps rest) good))
  where
    behind : (p : TapePiece) → Formed (p ∷ ps) rest → Formed ps rest
    behind (event m) f = f.1
    behind (given k s) f = f.1

    go : Known p (tape_from ps rest) → Walked ps rest → Walked (p ∷ ps) rest
    go (inl (m, e)) (over ms g) = over (m ∷ ms) (e, g)
    go (inl (m, e)) (stuck front ms q more is g x b) = stuck (p ∷ front) (m ∷ ms) q more (ap (λ (l : List TapePiece). p ∷ l) is) (e, g) x b
    go (inr (x, b)) w = stuck [] [] p ps refl tt x b
