-- Each contract of a public function of the plain reader, and of what it uses first, leaves one answer and one content of all lent memory.
use mathlib.Core.List.{List}
use mathlib.Core.Path.{◌≡◌, refl, sym, ap, ◌∙◌}
use Prim.Native.Nat.{ℕ}
use Rattle.plainly.specs.Plain.{Plainly}
use Rattle.plainly.specs.SaidLaws.{ending_said_one}
use Rattle.plainly.specs.declared.Reading.{Reading}
use Rattle.reader.proofs.One.{One}
use Rattle.tape.proofs.AppendLaws.{said_one}
use Rattle.tape.proofs.utf16.append_utf16.Kinds as append-utf16-kinds
use Rattle.tape.proofs.utf16.append_utf16.Reads as append-utf16-reads
use Rattle.reader.proofs.opened.is_among.Kinds as is-among-kinds
use Rattle.reader.proofs.opened.is_among.Reads as is-among-reads
use Rattle.reader.proofs.refusal.marker_of.Kinds as marker-of-kinds
use Rattle.reader.proofs.refusal.marker_of.Reads as marker-of-reads
use Rattle.plainly.proofs.read_plainly.Kinds as read-plainly-kinds
use Rattle.plainly.proofs.read_plainly.Reads as read-plainly-reads
use Rattle.exports_plain.proofs.zm_read_plainly.Kinds as zm-read-plainly-kinds
use Rattle.exports_plain.proofs.zm_read_plainly.Reads as zm-read-plainly-reads

is_among_one : One 1 is-among-kinds.ps is-among-kinds.r is-among-reads.Post (Unit {0}) (λ κs e. tt)
is_among_one κs a x y e f p q = (p ∙ sym q, refl)

marker_of_one : One 0 marker-of-kinds.ps marker-of-kinds.r marker-of-reads.Post (Unit {0}) (λ κs e. tt)
marker_of_one κs a x y e f p q = (p ∙ sym q, refl)

append_utf16_one : One 2 append-utf16-kinds.ps append-utf16-kinds.r append-utf16-reads.Post (List ℕ) (λ κs e. e.0.now)
append_utf16_one κs a x y e f p q = (said_one x y (p.0 ∙ sym q.0), p.1 ∙ sym q.1)

read_plainly_one : One 2 read-plainly-kinds.ps read-plainly-kinds.r read-plainly-reads.Post (List ℕ) (λ κs e. e.1.0.now)
read_plainly_one κs a x y e f p q =
    let z = p ∙ sym q in
    (same_reading x y (ending_said_one x.ending y.ending (ap (λ (r : Plainly). r.ending) z)) (ap (λ (r : Plainly). r.held) z), ap (λ (r : Plainly). r.tape) z)
  where
    same_reading : (x y : Reading) → x.ending ≡ y.ending → x.held ≡ y.held → x ≡ y
    same_reading x y d h = rw (d, h)

zm_read_plainly_one : One 5 zm-read-plainly-kinds.ps zm-read-plainly-kinds.r zm-read-plainly-reads.Post (record { held : ℕ; place : ℕ; marker : ℕ; tape : List ℕ }) (λ κs e. record { held = e.1.1.1.0.now; place = e.1.1.1.1.0.now; marker = e.1.1.1.1.1.0.now; tape = e.1.0.now })
zm_read_plainly_one κs a x y e f p q = (
  p.0 ∙ sym q.0,
  rw (p.1.0 ∙ sym q.1.0, p.1.1.0 ∙ sym q.1.1.0, p.1.1.1.0 ∙ sym q.1.1.1.0, p.1.1.1.1 ∙ sym q.1.1.1.1),
)
