-- What the reader is to hand out is the events with their lengths filled in. Those are the same events to the writer.
use Rattle.std.specs.Prelude.{true, ◌≡◌, ltb, length, Some}
use Rattle.std.proofs.lemmas.Bool.{false≢true}
use mathlib.Core.List.{List, [], ◌∷◌, map}
use Rattle.std.proofs.Math.Path.{refl}
use Rattle.std.proofs.Common.{ap, ap₂, ◌∙◌, arith}
use Prim.Native.Nat.{ℕ, zero, suc, ◌/◌}
use Rattle.event.specs.Meaning.{Meaning, array, dictionary, close, boolean, bytes, date, integer, real, text, uid}
use Rattle.tape.proofs.EventsLaws.{AllOnTape}
use Rattle.transcribe.specs.TranscriptLaws.{meanings_of}
use Rattle.written.specs.File.{place_of}
use Rattle.written.specs.Graph.{arr, dic, Piece, scalar, start, end, piece_of, Name, kids, meant}
use Rattle.written.specs.Shape.{Due, element, key, later, takes, opens, closes, fits, whole}
use Rattle.written.proofs.WholeLaws.{passed, begun}
use Rattle.written_claims.specs.Filled.{members, filled, handed_from, handed_of}
use Rattle.written_claims.specs.Writable.{meant_is}

-- how many members there are doesn't hang on where the events begin
pub kids_count : (d n m : ℕ) (es : List Piece) → length (kids d n es) ≡ length (kids d m es)
unfolding kids
kids_count d n m [] = refl
kids_count zero n m (scalar s ∷ es) = ap suc (kids_count 0 (suc n) (suc m) es)
kids_count (suc d) n m (scalar s ∷ es) = kids_count (suc d) (suc n) (suc m) es
kids_count zero n m (start k ∷ es) = ap suc (kids_count 1 (suc n) (suc m) es)
kids_count (suc d) n m (start k ∷ es) = kids_count (suc (suc d)) (suc n) (suc m) es
kids_count zero n m (end ∷ es) = refl
kids_count (suc d) n m (end ∷ es) = kids_count d (suc n) (suc m) es

-- what pieces mean, their lengths filled in
unfoldable meant_from : List Piece → List Meaning
meant_from [] = []
meant_from (scalar s ∷ es) = meant s ∷ meant_from es
meant_from (start arr ∷ es) = array (Some (length (kids 0 0 es))) ∷ meant_from es
meant_from (start dic ∷ es) = dictionary (Some (length (kids 0 0 es) / 2)) ∷ meant_from es
meant_from (end ∷ es) = close ∷ meant_from es

module _ (at : Name → ℕ) (top : ℕ) where
  fits_handed : (es : List Piece) (cs : List Due) (n : ℕ) (ps : List ℕ) → fits top cs es ≡ true → length ps ≡ length cs → meanings_of (handed_from at n ps es) ≡ meant_from es
  unfolding fits handed_from meant_from
  fits_handed [] cs n ps e c = refl
  fits_handed (x ∷ es) [] n ps e c = absurd (false≢true e)
  fits_handed (scalar s ∷ es) (b ∷ cs) n ps e c = rw (fits_handed es (later b ∷ cs) (suc n) ps (passed (takes b s) _ e).1 c)
  fits_handed (start arr ∷ es) (b ∷ cs) n ps e c = rw (fits_handed es (element ∷ later b ∷ cs) (suc n) (n ∷ ps) (begun (opens b) (ltb (suc (length cs)) top) _ e) (ap suc c), kids_count 0 (suc n) 0 es)
  fits_handed (start dic ∷ es) (b ∷ cs) n ps e c = rw (fits_handed es (key ∷ later b ∷ cs) (suc n) (n ∷ ps) (begun (opens b) (ltb (suc (length cs)) top) _ e) (ap suc c), kids_count 0 (suc n) 0 es)
  fits_handed (end ∷ es) (b ∷ cs) n [] e c = absurd (omega arith)
  fits_handed (end ∷ es) (b ∷ cs) n (p ∷ ps) e c = rw (fits_handed es cs (suc n) ps (passed (closes b) _ e).1 (omega arith))

  whole_handed : (es : List Piece) → whole top es ≡ true → meanings_of (handed_from at 0 [] es) ≡ meant_from es
  unfolding whole handed_from meant_from
  whole_handed [] e = absurd (false≢true e)
  whole_handed (scalar s ∷ es) e = rw (fits_handed es [] 1 [] e refl)
  whole_handed (start arr ∷ es) e = rw (fits_handed es (element ∷ []) 1 (0 ∷ []) (passed (ltb 0 top) _ e).1 refl, kids_count 0 1 0 es)
  whole_handed (start dic ∷ es) e = rw (fits_handed es (key ∷ []) 1 (0 ∷ []) (passed (ltb 0 top) _ e).1 refl, kids_count 0 1 0 es)
  whole_handed (end ∷ es) e = absurd (false≢true e)

pieces_filled : (ms : List Meaning) → AllOnTape ms → meant_from (map piece_of ms) ≡ filled ms
unfolding meant_from filled members piece_of
pieces_filled [] h = refl
pieces_filled (array g ∷ ms) h = rw (pieces_filled ms h.1)
pieces_filled (dictionary g ∷ ms) h = rw (pieces_filled ms h.1)
pieces_filled (close ∷ ms) h = rw (pieces_filled ms h.1)
pieces_filled (boolean b ∷ ms) h = ap₂ ◌∷◌ (meant_is (boolean b) h.0) (pieces_filled ms h.1)
pieces_filled (bytes s ∷ ms) h = ap₂ ◌∷◌ (meant_is (bytes s) h.0) (pieces_filled ms h.1)
pieces_filled (date b ∷ ms) h = ap₂ ◌∷◌ (meant_is (date b) h.0) (pieces_filled ms h.1)
pieces_filled (integer z ∷ ms) h = ap₂ ◌∷◌ (meant_is (integer z) h.0) (pieces_filled ms h.1)
pieces_filled (real b ∷ ms) h = ap₂ ◌∷◌ (meant_is (real b) h.0) (pieces_filled ms h.1)
pieces_filled (text s ∷ ms) h = ap₂ ◌∷◌ (meant_is (text s) h.0) (pieces_filled ms h.1)
pieces_filled (uid n ∷ ms) h = ap₂ ◌∷◌ (meant_is (uid n) h.0) (pieces_filled ms h.1)

-- what is handed out is the events with their lengths filled in
pub handed_filled : (ms : List Meaning) → AllOnTape ms → (top : ℕ) → whole top (map piece_of ms) ≡ true → meanings_of (handed_of ms) ≡ filled ms
unfolding handed_of
handed_filled ms h top w = whole_handed (place_of (map piece_of ms)) top (map piece_of ms) w ∙ pieces_filled ms h

-- the writer doesn't look at lengths
pub pieces_same : (ms : List Meaning) → map piece_of (filled ms) ≡ map piece_of ms
unfolding filled piece_of
pieces_same [] = refl
pieces_same (array g ∷ ms) = rw (pieces_same ms)
pieces_same (dictionary g ∷ ms) = rw (pieces_same ms)
pieces_same (close ∷ ms) = rw (pieces_same ms)
pieces_same (boolean b ∷ ms) = rw (pieces_same ms)
pieces_same (bytes s ∷ ms) = rw (pieces_same ms)
pieces_same (date b ∷ ms) = rw (pieces_same ms)
pieces_same (integer z ∷ ms) = rw (pieces_same ms)
pieces_same (real b ∷ ms) = rw (pieces_same ms)
pieces_same (text s ∷ ms) = rw (pieces_same ms)
pieces_same (uid n ∷ ms) = rw (pieces_same ms)
