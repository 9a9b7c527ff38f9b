-- `put_line` puts the line of each kind of event, or says why there is none.
use Rattle.std.proofs.Common.{refl, inl, inr}
use Rattle.event.specs.Meaning.{meaning_of}
use Rattle.tape.specs.Code.{allowed}
use Rattle.xml.specs.LineLaws.{lined_puts, lined_bars, lined_date, lined_text}
use Rattle.xml.specs.PutLaws.{placed, puts}
use Rattle.xml.specs.Said.{bar_number}
use Rattle.xml.specs.Write.{bar_of}
use Rattle.xml.specs.Xml.{start_tag, line, line_for}
use Rattle.xml.proofs.put.put_line.Goals as goal

pub returns-in-StartArray : goal.returns-in-StartArray
unfolding meaning_of bar_of line_for start_tag line
returns-in-StartArray c =
    rw c.in-StartArray.is (lined_puts _ _ _ _ _ _ refl (puts (placed c.write_piece.ensures)))

pub returns-in-StartDictionary : goal.returns-in-StartDictionary
unfolding meaning_of bar_of line_for start_tag line
returns-in-StartDictionary c =
    rw c.in-StartDictionary.is (lined_puts _ _ _ _ _ _ refl (puts (placed c.write_piece-in-StartDictionary.ensures)))

pub returns-in-EndCollection : goal.returns-in-EndCollection
unfolding meaning_of bar_of line_for start_tag line
returns-in-EndCollection c =
    rw c.in-EndCollection.is (lined_puts _ _ _ _ _ _ refl (puts (placed (rw c.is_key.ensures at c.put_end.ensures))))

pub returns-in-Boolean : goal.returns-in-Boolean
unfolding meaning_of bar_of line_for start_tag line
returns-in-Boolean c = rw c.in-Boolean.is (lined_puts _ _ _ _ _ _ refl (puts (placed c.put_truth.ensures)))

pub returns-in-Data : goal.returns-in-Data
unfolding meaning_of bar_of line_for start_tag line
returns-in-Data c = rw c.in-Data.is (lined_puts _ _ _ _ _ _ refl (puts c.put_data.ensures))

pub returns-in-Date : goal.returns-in-Date
unfolding meaning_of
returns-in-Date c = rw c.in-Date.is (lined_date _ _ _ _ _ _ c.put_date.ensures)

pub returns-in-Integer : goal.returns-in-Integer
unfolding meaning_of bar_of line_for start_tag line
returns-in-Integer c = rw c.in-Integer.is (lined_puts _ _ _ _ _ _ refl (puts c.put_integer.ensures))

pub returns-in-String : goal.returns-in-String
unfolding meaning_of allowed
returns-in-String c =
    let u = rw c.in-String.is at c.requires.2 in
    rw c.in-String.is (lined_text _ _ _ _ _ _ u (rw c.is_key-in-String.ensures at c.put_other.ensures))

pub returns-in-Real : goal.returns-in-Real
unfolding meaning_of bar_of bar_number
returns-in-Real c =
    elim c.in-Real.is [
      | inl a ↦ rw a.1 (lined_bars _ _ _ _ _ _ refl)
      | inr b ↦ elim b [ inl a ↦ rw a.1 (lined_bars _ _ _ _ _ _ refl) | inr a ↦ rw a.1 (lined_bars _ _ _ _ _ _ refl) ]
    ]
