-- Each contract of the functions that write XML leaves one answer, and one content of all lent memory.
use mathlib.Core.List.{List}
use mathlib.Core.Path.{refl, sym, ◌∙◌}
use Prim.Native.Nat.{ℕ}
use Rattle.radix64.proofs.base64_length.Kinds as base64-length-kinds
use Rattle.radix64.proofs.base64_length.Reads as base64-length-reads
use Rattle.radix64.proofs.put_base64.Kinds as put-base64-kinds
use Rattle.radix64.proofs.put_base64.Reads as put-base64-reads
use Rattle.exports_xml.proofs.as_xml.zm_xml.Kinds as zm-xml-kinds
use Rattle.exports_xml.proofs.as_xml.zm_xml.Reads as zm-xml-reads
use Rattle.exports_xml.proofs.as_xml.zm_xml_length.Kinds as zm-xml-length-kinds
use Rattle.exports_xml.proofs.as_xml.zm_xml_length.Reads as zm-xml-length-reads
use Rattle.reader.proofs.One.{One}
use Rattle.xml.proofs.answer.bar_number.Kinds as bar-number-kinds
use Rattle.xml.proofs.answer.bar_number.Reads as bar-number-reads
use Rattle.xml.proofs.measure_xml.Kinds as measure-xml-kinds
use Rattle.xml.proofs.measure_xml.Reads as measure-xml-reads
use Rattle.xml.proofs.write_xml.Kinds as write-xml-kinds
use Rattle.xml.proofs.write_xml.Reads as write-xml-reads
use Rattle.xml.specs.SaidLaws.{answer_said_one}

base64_length_one : One 1 base64-length-kinds.ps base64-length-kinds.r base64-length-reads.Post (Unit {0}) (λ κs e. tt)
base64_length_one κs a x y e f p q = (p ∙ sym q, refl)

put_base64_one : One 2 put-base64-kinds.ps put-base64-kinds.r put-base64-reads.Post (List ℕ) (λ κs e. e.0.now)
put_base64_one κs a x y e f p q = (p.0 ∙ sym q.0, p.1 ∙ sym q.1)

bar_number_one : One 0 bar-number-kinds.ps bar-number-kinds.r bar-number-reads.Post (Unit {0}) (λ κs e. tt)
bar_number_one κs a x y e f p q = (p ∙ sym q, refl)

measure_xml_one : One 1 measure-xml-kinds.ps measure-xml-kinds.r measure-xml-reads.Post (Unit {0}) (λ κs e. tt)
measure_xml_one κs a x y e f p q = (answer_said_one x y (p ∙ sym q), refl)

write_xml_one : One 2 write-xml-kinds.ps write-xml-kinds.r write-xml-reads.Post (List ℕ) (λ κs e. e.1.0.now)
write_xml_one κs a x y e f p q = (answer_said_one x y (p.0 ∙ sym q.0), p.1.0 ∙ sym q.1.0)

zm_xml_one : One 5 zm-xml-kinds.ps zm-xml-kinds.r zm-xml-reads.Post (record { value : ℕ; expected : ℕ; found : ℕ; out : List ℕ }) (λ κs e. record { value = e.1.1.0.now; expected = e.1.1.1.0.now; found = e.1.1.1.1.0.now; out = e.1.0.now })
zm_xml_one κs a x y e f p q = (
  p.0 ∙ sym q.0,
  rw (p.1.0 ∙ sym q.1.0, p.1.1.0 ∙ sym q.1.1.0, p.1.1.1.0 ∙ sym q.1.1.1.0, p.1.1.1.1.0 ∙ sym q.1.1.1.1.0),
)

zm_xml_length_one : One 4 zm-xml-length-kinds.ps zm-xml-length-kinds.r zm-xml-length-reads.Post (record { value : ℕ; expected : ℕ; found : ℕ }) (λ κs e. record { value = e.1.0.now; expected = e.1.1.0.now; found = e.1.1.1.0.now })
zm_xml_length_one κs a x y e f p q = (
  p.0 ∙ sym q.0,
  rw (p.1.0 ∙ sym q.1.0, p.1.1.0 ∙ sym q.1.1.0, p.1.1.1 ∙ sym q.1.1.1),
)
