-- `few_at`: eight bytes that are simple only where the few are.
use Rattle.std.proofs.Common.{ℕ, ◌-◌, ◌≡◌, length, drop, sym, ap, ◌∙◌, arith, take_all, length-take-le}
use Rattle.utf.specs.Bounds.{below_all}
use Rattle.utf.specs.Plain.{little_of}
use Rattle.xml.specs.SimpleLaws.{cover_fours}
use Rattle.xml.proofs.Chunks.{little_four}
use Rattle.xml.proofs.simple.few_at.Goals as goal

pub returns : goal.returns
returns c =
    let s = c.args.s.now in
    let front = c.in-Some-Some.ensures.cases in
    let back = c.in-Some-Some.ensures'.cases in
    let k = length s - 4 in
    let few : length (drop k s) ≡ 4 = back.1.long in
    cover_fours s back.0 c.requires (below_all 256 s (λ (k : ℕ). omega (arith, c.type_inv.s k))) _ _
    (c.from_le_bytes.ensures ∙ sym (little_four c.in-Some-Some.front.now (ap length front.same ∙ length-take-le 4 s front.enough)) ∙ ap little_of front.same)
    (c.from_le_bytes-2.ensures ∙ sym (little_four c.in-Some-Some.back.now (ap length back.1.same ∙ few)) ∙ ap little_of (back.1.same ∙ sym (take_all 4 (drop k s) (omega (arith, few)))))
