-- Reading a written file gives the events again, their lengths filled in, then the end for ever.
use Rattle.std.specs.Prelude.{List, [], ◌++◌, map, ◌≡◌, ℕ, ◌+◌, length, replicate}
use Rattle.std.proofs.lemmas.List.{length-map}
use Rattle.event.specs.Format.{max_open}
use Rattle.event.specs.Meaning.{Meaning}
use Rattle.layout.specs.Layout.{source_of}
use Rattle.reader.specs.Calls.{calls, answers_of}
use Rattle.reader.specs.Machine.{Said}
use Rattle.reader.specs.Machine as machine
use Rattle.reader.specs.Meanings.{ended, answers}
use Rattle.reader.specs.State.{fresh_reader}
use Rattle.transcribe.specs.TranscriptLaws.{told_of, meanings_of}
use Rattle.written.specs.File.{place_of, file_for}
use Rattle.written.specs.Graph.{piece_of}
use Rattle.written_claims.specs.Accepted.{Accepted, layout_for, sound}
use Rattle.written_claims.specs.Back.{event_by}
use Rattle.written_claims.proofs.FileBack as back
use Rattle.written_claims.specs.Filled.{filled, handed_of, origin_of, said_from}
use Rattle.written_claims.proofs.FilledLaws.{handed_filled}
use Rattle.written_claims.specs.HandsOut.{HandOut}

-- the answers on the file, call by call: `handed_of ms`, each event with its object's offset, then the end for ever
pub means_back : (ms : List Meaning) → Accepted ms → (m : ℕ) → answers (length ms + m) (file_for ms) fresh_reader ≡ told_of (handed_of ms) ++ replicate m ended
unfolding file_for handed_of
means_back ms a m = rw length-map at (back.told_back (map piece_of ms) (sound ms a) m)

-- the reader's own answers, each with its object's number and offset; and that they hand that out: each event, and the bytes of its data or text
-- wherever the scratch has room for them
unfoldable pub said_of : List Meaning → List Said
said_of ms = said_from (event_by (map piece_of ms) (source_of (file_for ms) (layout_for ms))) (origin_of (map piece_of ms) (place_of (map piece_of ms))) 0 [] (map piece_of ms)

pub said_back : (ms : List Meaning) → Accepted ms → (m : ℕ) → answers_of (calls (length ms + m) (file_for ms) fresh_reader) ≡ said_of ms ++ replicate m machine.ended
unfolding file_for said_of
said_back ms a m = rw length-map at (back.said_back (map piece_of ms) (sound ms a) m)

pub bytes_back : (ms : List Meaning) → Accepted ms → HandOut (file_for ms) (handed_of ms) (said_of ms)
unfolding file_for handed_of said_of
bytes_back ms a = back.hand_out (map piece_of ms) (sound ms a)

-- and they mean the events, lengths filled in
pub handed_means : (ms : List Meaning) → Accepted ms → meanings_of (handed_of ms) ≡ filled ms
handed_means ms a = handed_filled ms a.held max_open a.one
