-- Through the promise of `zm_xml`: where it answers 0, the output begins with the XML of the tape's events, as long as it says, and that is well
-- formed. Two such calls leave the same XML exactly where the tapes show the same.
use mathlib.Core.List.{List, ◌++◌, map}
use mathlib.Core.Logic.{◌↔◌}
use mathlib.Core.Path.{◌≡◌, sym, ap, ◌∙◌}
use Prim.Native.Nat.{ℕ}
use borrow.Fn.Kinds.{Dens, ended_of, res_t}
use contract.Lifetimes.{Lfts}
use denote.Triple.Clauses.{AtExit}
use lib.ListN.{length, drop}
use Rattle.exports_xml.proofs.as_xml.zm_xml.Kinds as zm-xml-kinds
use Rattle.exports_xml.proofs.as_xml.zm_xml.Reads as zm-xml-reads
use Rattle.exports_xml.specs.XmlLaws.{xml_named, xml_zero}
use Rattle.number.specs.BeLaws.{Bytes}
use Rattle.tape.specs.Events.{meanings_in}
use Rattle.xml.specs.Shown.{shown_of}
use Rattle.xml.specs.TapeLaws.{same_tapes}
use Rattle.xml.specs.WellFormed.{Content, written, Proper}
use Rattle.xml.specs.WellFormedLaws.{well_formed_law}
use Rattle.xml.specs.Words.{header, footer}
use Rattle.xml.specs.Write.{long, answer_of}
use Rattle.xml.specs.WriteLaws.{output_is}
use Rattle.xml.specs.Xml.{xml_of}

-- what a call has left that was lent a tape and an output
pub record XmlIn (tape before after : List ℕ) (n : ℕ) : Type 0 where
  pub good : Bytes tape
  pub answered : answer_of tape (length before) ≡ long n
  pub stands : after ≡ xml_of (meanings_in tape) ++ drop n before
  pub formed : (c : Content) × Proper c × (xml_of (meanings_in tape) ≡ header ++ (written c ++ footer))

pub zm_xml_good : (κs : Lfts 5) (a : Dens κs zm-xml-kinds.ps) (x : (res_t zm-xml-kinds.r κs).Denot) (e : AtExit (ended_of 5 zm-xml-kinds.ps zm-xml-kinds.r) κs)
    → zm-xml-reads.Post κs a x e → x ≡ 0 → XmlIn a.0.now a.1.0.now e.1.0.now e.1.1.0.now
zm_xml_good κs a x e p code =
    let t = a.0.now in
    let out = a.1.0.now in
    let good = p.1.1.1.1.1 in
    let l : answer_of t (length out) ≡ long e.1.1.0.now = xml_zero (answer_of t (length out)) (xml_named t (length out)) (sym p.0 ∙ code) ∙ ap long (sym p.1.0) in
    record { good = good; answered = l; stands = p.1.1.1.1.0 ∙ output_is t out _ l; formed = well_formed_law t (length out) _ good l }

pub zm_xml_same : {s t before after before₂ after₂ : List ℕ} {m n : ℕ} → XmlIn s before after m → XmlIn t before₂ after₂ n → (xml_of (meanings_in s) ≡ xml_of (meanings_in t)) ↔ (map shown_of (meanings_in s) ≡ map shown_of (meanings_in t))
zm_xml_same {s} {t} x y = same_tapes s t _ _ _ _ x.good y.good x.answered y.answered
