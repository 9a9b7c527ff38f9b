-- All that is claimed of a written file, of its bytes alone.
use Rattle.std.specs.Prelude.{true, List, ◌++◌, ◌≡◌, ℕ, ◌+◌, ◌*◌, ◌<◌, length, replicate}
use Rattle.number.specs.Width.{bytes_in}
use Rattle.event.specs.Date.{is_date}
use Rattle.event.specs.Meaning.{Meaning}
use Rattle.event.specs.declared.Event.{Event}
use Rattle.event.specs.declared.Event.TheVariants.{Date}
use Rattle.object.specs.Content.{trailer_at}
use Rattle.layout.specs.FoundLaws.{refs_of}
use Rattle.layout.specs.Layout.{look_of}
use Rattle.layout.specs.Looked.{Shape, scalar, container}
use Rattle.reader.specs.Meanings.{meaning_at, answers}
use Rattle.reader.specs.Meanings as meanings
use Rattle.reader.specs.State.{fresh_reader}
use Rattle.layout.specs.Trailer.{lays, trailer_of}
use Rattle.layout.specs.declared.layout.Layout.{Layout}
use Rattle.transcribe.specs.Run.{ended, transcript_of}
use Rattle.transcribe.specs.TranscriptLaws.{Put, told_of, meanings_of}
use Rattle.written.specs.File.{file_for}
use Rattle.written_claims.specs.Accepted.{Accepted, layout_for}
use Rattle.written_claims.proofs.Again.{accepted_again, written_again}
use Rattle.written_claims.proofs.Claims.{LookedUp, EndsBefore}
use Rattle.written_claims.proofs.Claims as claims
use Rattle.written_claims.specs.Filled.{filled, handed_of}
use Rattle.written_claims.proofs.ReadBack.{means_back, handed_means}
use Rattle.written_claims.proofs.ReadEnds.{ends_back}
use Rattle.written_claims.proofs.ReadWhole.{whole_back}
use Rattle.written_claims.specs.Outcome.{Enough, outcome_of, Holds, ComesTo}
use Rattle.written_claims.specs.References.{named_by, all_references, Names, Reached, mentions}

-- a file whose root is 0, and what reading it gives: the events of ms, lengths filled in
pub record Good (file : List ℕ) (ms : List Meaning) : Type 0 where
  pub layout : Layout
  pub laid_out : trailer_of file ≡ lays layout 0
  pub looked_up : (i : ℕ) → i < layout.count → LookedUp file layout i
  pub in_range_law : (m i : ℕ) → Names file layout m i → i < layout.count
  pub complete : (i : ℕ) → i < layout.count → (s : Shape) (k at : ℕ) → look_of file layout i ≡ container s k at → length (named_by file layout i) ≡ refs_of s k
  pub reached : (i : ℕ) → i < layout.count → Reached file layout 0 i
  pub one_object : (i j : ℕ) → i < layout.count → j < layout.count → (e d : Event) (at bt : ℕ)
      → look_of file layout i ≡ scalar e at → look_of file layout j ≡ scalar d bt
      → meaning_at file e at ≡ meaning_at file d bt → i ≡ j
  pub once : (i : ℕ) → i < layout.count → (s : Shape) (k at : ℕ) → look_of file layout i ≡ container s k at → 0 < i → mentions i (all_references file layout 0 layout.count) ≡ 1
  pub root_unnamed : (s : Shape) (k at : ℕ) → look_of file layout 0 ≡ container s k at → mentions 0 (all_references file layout 0 layout.count) ≡ 0
  pub from_lower : (m i : ℕ) → i < layout.count → (s : Shape) (k at : ℕ) → look_of file layout i ≡ container s k at → Names file layout m i → m < i
  pub ends_before_law : (i : ℕ) → i < layout.count → EndsBefore file layout i
  pub table_ends : layout.table + layout.count * bytes_in layout.offsets ≡ trailer_at file
  pub dates : (i : ℕ) → i < layout.count → (b at : ℕ) → look_of file layout i ≡ scalar (Date b) at → is_date b ≡ true
  -- the answers of a fresh reader: what is put for the events, each with an offset, then the end for ever
  pub put : List Put
  pub answered : (m : ℕ) → answers (length ms + m) file fresh_reader ≡ told_of put ++ replicate m meanings.ended
  pub means : meanings_of put ≡ filled ms
  -- with room enough a reading ends with the file and leaves the events on the tape; and how it ends, and what it leaves, whatever is lent
  pub whole_back : (budget : ℕ) (scratch tape : List ℕ) → Enough ms budget (length scratch) (length tape) → Holds ended (filled ms) tape (transcript_of budget file scratch tape)
  pub ends_back : (budget : ℕ) (scratch tape : List ℕ) → ComesTo (outcome_of budget (length scratch) (length tape) 0 put) tape (transcript_of budget file scratch tape)
  -- what is read is accepted and written as this file again
  pub again : Accepted (filled ms) × (file_for (filled ms) ≡ file)

pub good : (ms : List Meaning) → Accepted ms → Good (file_for ms) ms
good ms a = record {
  layout = layout_for ms;
  laid_out = (claims.laid_out ms a).0;
  looked_up = claims.looked_up ms a;
  in_range_law = claims.in_range_law ms a;
  complete = claims.references_complete ms a;
  reached = claims.reached ms a;
  one_object = claims.one_object ms a;
  once = claims.named_once ms a;
  root_unnamed = claims.root_unnamed ms a;
  from_lower = claims.from_lower ms a;
  ends_before_law = claims.ends_before_law ms a;
  table_ends = claims.table_ends ms a;
  dates = claims.dates_there ms a;
  put = handed_of ms;
  answered = means_back ms a;
  means = handed_means ms a;
  whole_back = whole_back ms a;
  ends_back = ends_back ms a;
  again = (accepted_again ms a, written_again ms);
}
