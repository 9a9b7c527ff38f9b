-- `is_simple`: the blocks, the eights behind them and the last eight bytes are simple, and they are all.
use Rattle.std.proofs.Common.{rules, true, ◌≡◌, ℕ, ◌+◌, ◌-◌, ◌*◌, ◌/◌, length, List, drop, take, sym, ◌∙◌, arith, length-drop}
use Rattle.std.proofs.lemmas.Bool.{false≢true}
use Rattle.std.proofs.lemmas.Iterator.{cases_from_all, YieldsList-from_slice}
use Rattle.xml.specs.Simple.{all_simple}
use Rattle.xml.specs.SimpleLaws.{simple_more, simple_over}
use Rattle.xml.proofs.Chunks.{chunks_simple}
use Rattle.xml.proofs.simple.is_simple.Goals as goal
use Rattle.xml.proofs.simple.is_simple.Goals.{then-all, else-all}

pub returns-then-all-2 : goal.returns-then-all-2
returns-then-all-2 c =
    let s = c.args.s.now in
    let n : ℕ = length s / 128 in
    let rest : List ℕ = drop (n * 128) s in
    let m : ℕ = length rest / 8 in
    let last : List ℕ = drop (length s - 8) s in
    λ f.
    elim c.if-all.branch [
      | then-all w ↦
          let blocks = cases_from_all _ _ _ (λ t. all_simple t ≡ true) (λ t. Unit {0}) c.all.ensures.ran (YieldsList-from_slice c.as_chunks.result.0.now cc) (λ x q k. search rules) (λ x q k. tt) in
          let eights = cases_from_all _ _ _ (λ t. all_simple t ≡ true) (λ t. Unit {0}) w.all-then-all.ensures.ran (YieldsList-from_slice c.as_chunks-2.result.0.now cc) (λ x q k. search rules) (λ x q k. tt) in
          let front : all_simple (take (n * 128) s) ≡ true = chunks_simple 128 n s _ _ (rw c.as_chunks.ensures.front at blocks) w.if-all.true in
          let middle : all_simple (take (m * 8) rest) ≡ true = chunks_simple 8 m rest _ _ (rw (c.as_chunks-2.ensures.front, c.as_chunks.ensures.back) at eights) (sym w.value-is ∙ c.if-all-2.true) in
          let back : all_simple last ≡ true = rw c.in-Some.ensures.cases.1.same at (c.is_simple_chunk.ensures f) in
          simple_over (length s - 8) (n * 128 + m * 8) s (omega (arith, length-drop (n * 128) s)) (simple_more (m * 8) (n * 128) s front middle) back
      | else-all w ↦ absurd (false≢true (sym w.if-all.false ∙ sym w.value-is ∙ c.if-all-2.true))
    ]
