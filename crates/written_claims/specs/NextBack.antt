-- The reader itself, `next_of`, on a file whose trailer lays out a source that shows the objects of some events.
use Rattle.std.specs.Prelude.{true, List, [], ◌∷◌, ◌++◌, map, ◌≡◌, ℕ, zero, suc, ◌+◌, ◌≤◌, length, replicate}
use Rattle.std.proofs.Math.Path.{refl}
use Rattle.std.proofs.Common.{ap, arith}
use borrow.Author.Tests.{eq-eqb, ne_eqb, le-ltb}
use Rattle.number.specs.WidthLaws.{allowed}
use Rattle.layout.specs.Layout.{source_of}
use Rattle.layout.specs.Frame.{no_frame}
use Rattle.layout.specs.Trailer.{lays, trailer_of}
use Rattle.layout.specs.declared.layout.Layout.{Layout}
use Rattle.layout.specs.declared.frame.Frame.{Frame}
use Rattle.reader.specs.Calls.{calls, answers_of}
use Rattle.reader.specs.Machine as machine
use Rattle.reader.specs.Machine.{Said, arrive, step_of}
use Rattle.reader.specs.Meanings.{Told, ended, told}
use Rattle.reader.specs.Next.{laid_out, begin, with_refs, go_on, next_of}
use Rattle.reader.specs.State.{max_open, max_length, fresh_reader, moved}
use Rattle.written.specs.Graph.{Piece, Name}
use Rattle.written.specs.Shape.{whole}
use Rattle.written_claims.specs.Back.{read_from, event_by, Shows}
use Rattle.written_claims.specs.Filled.{origin_of, said_from}
use Rattle.written_claims.specs.Frames.{inside}

pub told_ended : (file : List ℕ) (m : ℕ) (l : List Said) → map (told file) (l ++ replicate m machine.ended) ≡ map (told file) l ++ replicate m ended
unfolding told
told_ended file zero [] = refl
told_ended file (suc m) [] = ap (λ (l : List Told). ended ∷ l) (told_ended file m [])
told_ended file m (x ∷ l) = ap (λ (t : List Told). told file x ∷ t) (told_ended file m l)

module _ (file : List ℕ) (l : Layout) (short : length file ≤ max_length) (trailer : trailer_of file ≡ lays l 0) where
  pub next_open : (q k : ℕ) (fr : List Frame) → suc k ≤ max_open → next_of file (inside (laid_out file l) q k fr) ≡ step_of (source_of file l) (inside (laid_out file l) q k fr)
  unfolding next_of laid_out go_on with_refs
  next_open q k fr h =
      rw (ne_eqb (suc k) 0 (λ e. omega arith), le-ltb max_length (length file) short, eq-eqb (length file) (length file) refl, le-ltb max_open (suc k) h, allowed l.offsets, allowed l.refs)

  pub next_first : next_of file fresh_reader ≡ arrive (moved (laid_out file l) l.table 0 (replicate max_open no_frame)) 0 ((source_of file l).look 0)
  unfolding next_of begin laid_out source_of
  next_first = rw (le-ltb max_length (length file) short, trailer)

  -- the reader's answers on the file
  pub read_said : (all : List Piece) (place_of : Name → ℕ) → Shows all file (source_of file l) place_of → (m : ℕ) → whole max_open all ≡ true
      → answers_of (calls (length all + m) file fresh_reader) ≡ said_from (event_by all (source_of file l)) (origin_of all place_of) 0 [] all ++ replicate m machine.ended
  read_said all place_of shows m w =
      read_from all file (source_of file l) place_of shows (laid_out file l) next_open fresh_reader l.table (replicate max_open no_frame) next_first refl m w
