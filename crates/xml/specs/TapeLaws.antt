-- The same XML, of tapes: two that are answered with a length give the same exactly when their events are the same but for given lengths and for
-- dates with the same floor.
use Rattle.std.specs.Prelude.{List, map, ◌↔◌, ◌≡◌, ℕ}
use Rattle.number.specs.BeLaws.{Bytes}
use Rattle.tape.specs.Events.{meanings_in}
use Rattle.xml.specs.SameLaws.{same_xml}
use Rattle.xml.specs.Shown.{shown_of}
use Rattle.xml.specs.Write.{long, answer_of}
use Rattle.xml.specs.WriteLaws.{room_long, all_told}
use Rattle.xml.specs.Xml.{xml_of}

-- TWO TAPES WITH THE SAME XML
pub same_tapes :
    (s t : List ℕ) (a b m n : ℕ) → Bytes s → Bytes t → answer_of s a ≡ long m → answer_of t b ≡ long n →
    (xml_of (meanings_in s) ≡ xml_of (meanings_in t)) ↔ (map shown_of (meanings_in s) ≡ map shown_of (meanings_in t))
same_tapes s t a b m n h k e f =
    let x = all_told s m h (room_long s a m e).0 in
    let y = all_told t n k (room_long t b n f).0 in
    same_xml (meanings_in s) (meanings_in t) x.fits y.fits x.sayable y.sayable
