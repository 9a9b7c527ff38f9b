-- The text request of what was read: of a record that a call of `next` on a file returned, in a state that a fresh reader comes to by calls on that file,
-- `text_length` and `text_part` on that file hand out the bytes. 1 and 17 never come; 16 comes exactly where the scratch is too short.
use mathlib.Core.Bool.{Bool, true, false}
use mathlib.Core.List.{List, []}
use mathlib.Core.Path.{◌≡◌, refl, sym, ap, ◌∙◌}
use Prim.Native.Nat.{ℕ, ◌≤◌, ◌<◌}
use native.Mathlib.Omega.{arith}
use borrow.Author.Tests.{leb-true, leb-false}
use lib.Dec.{leb}
use lib.ListN.{length}
use Rattle.number.specs.PartLaws.{length_part}
use Rattle.event.specs.Meaning.{meaning_of}
use Rattle.layout.specs.Bytes.{Asked, in_file, in_utf16, no_bytes, denied, event_asked}
use Rattle.reader.proofs.Calls.{Returned, returned}
use Rattle.reader.proofs.Inside.{AskedIn, asked_in}
use Rattle.reader.proofs.Requests.{LengthAsked, PartAsked, length_asked, part_asked}
use Rattle.reader.specs.Machine.{Step, event}
use Rattle.reader.specs.Meanings.{means, bytes_asked, meaning_at, told}
use Rattle.reader.specs.Next.{next_of}
use Rattle.reader.specs.Request.{long, refusing, asked_of}
use Rattle.reader.specs.RequestLaws.{Present, scratch_asked, gives, lacks}
use Rattle.reader.specs.Said.{said, step_said, text_said}
use Rattle.reader.specs.declared.answer.Record.{Record}
use Rattle.reader.specs.declared.answer.Stepped.{Stepped}
use Rattle.reader.specs.declared.request.TextLength.{TextLength}
use Rattle.reader.specs.declared.state.Reader.{Reader}
use Rattle.claims.specs.Answers.{handed_given}
use Rattle.claims.specs.Fair.{fair_reached}
use Rattle.claims.specs.Look.{Given}
use Rattle.claims.specs.Open.{Reached}

-- what is given and lies in the file stands there whole
whole : (file : List ℕ) (a : Asked) → AskedIn file a → Given a → Present file a
whole file (in_file start n) i g = length_part file start n i
whole file (in_utf16 start n) i g = tt
whole file no_bytes i g = tt
whole file (denied number values) i g = absurd g

module _ (file : List ℕ) (r : Reader) (reach : Reached file r) (s : Stepped) (call : Returned file r s) (q : Record) (handed : said s.answer ≡ event q) where
  answers : (next_of file r).answer ≡ event q
  unfolding step_said
  answers = ap (λ (x : Step). x.answer) (sym (returned file r s call)) ∙ handed

  abbrev asked : Asked
  asked = asked_of file q

  -- the bytes of the record, and the scratch that they need: none but for text that stands as UTF-16
  abbrev content : List ℕ
  content = bytes_asked file asked

  abbrev needed : ℕ
  needed = scratch_asked file asked

  stands : Present file asked
  stands = whole file asked (asked_in file q) (handed_given file r reach q answers)

  -- with its bytes the record means what the answer means
  pub returns_means : told file (said s.answer) ≡ means (meaning_of q.event content) q.offset
  unfolding told meaning_at
  returns_means =
      let own : asked ≡ event_asked file q.event q.offset = rw answers at (fair_reached file r reach) in
      rw (handed, told, own)

  module _ (scratch : List ℕ) (x : TextLength) (left : List ℕ) (first : LengthAsked file scratch q x left) where
    -- where the scratch is long enough the length is answered,
    pub returns_length : needed ≤ length scratch → text_said x ≡ long (length content)
    returns_length room = (length_asked file scratch q x left first).0 ∙ (gives file scratch q.offset asked stands room).first

    -- and the second call, lent the scratch that the first left, hands out the bytes
    pub returns_part : needed ≤ length scratch → (part : List ℕ) → PartAsked file left q part → part ≡ content
    returns_part room part second =
        part_asked file left q part second ∙ rw (length_asked file scratch q x left first).1 (gives file scratch q.offset asked stands room).second

    -- where it is shorter, 16 at the record's offset, and the scratch is as it was
    pub returns_no_room : length scratch < needed → (text_said x ≡ refusing 16 [] q.offset) × (left ≡ scratch)
    returns_no_room less =
        let m = length_asked file scratch q x left first in
        let l = lacks file scratch q.offset asked less in
        (m.0 ∙ l.0, m.1 ∙ l.1)

    -- so it is refused with no other number, 1 and 17 least of all
    pub returns_denied : (number : ℕ) (values : List ℕ) (place : ℕ) → text_said x ≡ refusing number values place → number ≡ 16
    returns_denied number values place e = go (leb needed (length scratch)) refl
      where
        go : (b : Bool) → leb needed (length scratch) ≡ b → number ≡ 16
        go true f =
            let c : long (length content) ≡ refusing number values place = sym (returns_length (leb-true _ _ f)) ∙ e in
            let z : ◌≡◌ {A = ℕ} 0 1 = cc in
            absurd (omega arith)
        go false f =
            let c : refusing 16 [] q.offset ≡ refusing number values place = sym (returns_no_room (leb-false _ _ f)).0 ∙ e in
            cc
