-- What reading gives back is accepted, and written as the same file again.
use mathlib.Core.List.{List, [], ◌∷◌, map}
use Rattle.std.specs.Prelude.{◌≡◌, refl, ℕ, suc, ◌/◌, ◌^◌, ◌≤◌, ◌<◌, length, drop}
use Rattle.std.proofs.Common.{sym, ap, ◌∙◌, arith}
use Rattle.std.proofs.Math.ListN.{length-map}
use Rattle.event.specs.Format.{max_open, max_length}
use Rattle.event.specs.Meaning.{Meaning, array, dictionary, close, boolean, bytes, date, integer, real, text, uid}
use Rattle.tape.specs.Code.{allowed}
use Rattle.tape.specs.Events.{tape_of}
use Rattle.tape.proofs.EventsLaws.{AllOnTape, tape_whole}
use Rattle.grammar.specs.Check.{check_of}
use Rattle.grammar.specs.FitsLaws.{fits_check}
use Rattle.grammar.specs.Said.{whole}
use Rattle.written.specs.File.{file_for}
use Rattle.written.specs.Graph.{arr, dic, Piece, start, piece_of, box, kids, evens, number, body_of, object_of}
use Rattle.written.proofs.NameLaws.{drop_next, length_evens}
use Rattle.writer.specs.CheckLaws.{fits_is}
use Rattle.written_claims.specs.Accepted.{Accepted, sound}
use Rattle.written_claims.specs.FileShown.{fine}
use Rattle.written_claims.specs.Filled.{members, filled}
use Rattle.written_claims.proofs.FilledLaws.{kids_count, pieces_same}
use Rattle.written_claims.specs.Sharing.{start_named}
use Rattle.written_claims.specs.Writable.{Sound}

-- the same file
pub written_again : (ms : List Meaning) → file_for (filled ms) ≡ file_for ms
unfolding file_for
written_again ms = rw (pieces_same ms)

-- a length that is filled in is a number of 64 bits
module _ (all : List Piece) (g : Sound all) where
  elements_fit : (p : ℕ) (post : List Piece) → drop p all ≡ start arr ∷ post → length (kids 0 0 post) < 2 ^ 64
  unfolding object_of body_of
  elements_fit p post d =
      let f = rw d at (fine all g (box p) (start_named max_open all g.one p arr post d)) in
      omega (arith, f.0, length-map (kids 0 (suc p) post) (number all), kids_count 0 (suc p) 0 post)

  pairs_fit : (p : ℕ) (post : List Piece) → drop p all ≡ start dic ∷ post → length (kids 0 0 post) / 2 < 2 ^ 64
  unfolding object_of body_of
  pairs_fit p post d =
      let ms = kids 0 (suc p) post in
      let f = rw d at (fine all g (box p) (start_named max_open all g.one p dic post d)) in
      omega (arith, f.1, length-map (evens ms) (number all), length_evens ms, kids_count 0 (suc p) 0 post)

  held_again : (ms : List Meaning) (n : ℕ) → drop n all ≡ map piece_of ms → AllOnTape ms → AllOnTape (filled ms)
  unfolding filled members piece_of allowed
  held_again [] n d h = tt
  held_again (array v ∷ ms) n d h = ((elements_fit n (map piece_of ms) d, refl), held_again ms (suc n) (drop_next all n _ _ d) h.1)
  held_again (dictionary v ∷ ms) n d h = ((pairs_fit n (map piece_of ms) d, refl), held_again ms (suc n) (drop_next all n _ _ d) h.1)
  held_again (close ∷ ms) n d h = (h.0, held_again ms (suc n) (drop_next all n _ _ d) h.1)
  held_again (boolean b ∷ ms) n d h = (h.0, held_again ms (suc n) (drop_next all n _ _ d) h.1)
  held_again (bytes s ∷ ms) n d h = (h.0, held_again ms (suc n) (drop_next all n _ _ d) h.1)
  held_again (date b ∷ ms) n d h = (h.0, held_again ms (suc n) (drop_next all n _ _ d) h.1)
  held_again (integer z ∷ ms) n d h = (h.0, held_again ms (suc n) (drop_next all n _ _ d) h.1)
  held_again (real b ∷ ms) n d h = (h.0, held_again ms (suc n) (drop_next all n _ _ d) h.1)
  held_again (text s ∷ ms) n d h = (h.0, held_again ms (suc n) (drop_next all n _ _ d) h.1)
  held_again (uid u ∷ ms) n d h = (h.0, held_again ms (suc n) (drop_next all n _ _ d) h.1)

-- accepted again
pub accepted_again : (ms : List Meaning) → Accepted ms → Accepted (filled ms)
accepted_again ms a = record {
  held = held_again (map piece_of ms) (sound ms a) ms 0 refl a.held;
  one = rw (pieces_same ms) a.one;
  short = rw (written_again ms) a.short;
}

-- as many events
pub length_filled : (ms : List Meaning) → length (filled ms) ≡ length ms
length_filled ms = sym (length-map (filled ms) piece_of) ∙ ap length (pieces_same ms) ∙ length-map ms piece_of

-- so the tape of what was read is accepted, if it is not too long
pub check_again : (ms : List Meaning) → Accepted ms → length (tape_of (filled ms)) ≤ max_length → check_of (tape_of (filled ms)) ≡ whole (length ms)
check_again ms a h =
    let b = accepted_again ms a in
    fits_check (tape_of (filled ms)) (filled ms) h (tape_whole (filled ms) b.held) (fits_is (filled ms) ∙ b.one) ∙ ap whole (length_filled ms)

-- reading what is written again changes nothing more
pub filled_again : (ms : List Meaning) → filled (filled ms) ≡ filled ms
unfolding filled members
filled_again [] = refl
filled_again (array v ∷ ms) = rw (pieces_same ms, filled_again ms)
filled_again (dictionary v ∷ ms) = rw (pieces_same ms, filled_again ms)
filled_again (close ∷ ms) = rw (filled_again ms)
filled_again (boolean b ∷ ms) = rw (filled_again ms)
filled_again (bytes s ∷ ms) = rw (filled_again ms)
filled_again (date b ∷ ms) = rw (filled_again ms)
filled_again (integer z ∷ ms) = rw (filled_again ms)
filled_again (real b ∷ ms) = rw (filled_again ms)
filled_again (text s ∷ ms) = rw (filled_again ms)
filled_again (uid u ∷ ms) = rw (filled_again ms)
