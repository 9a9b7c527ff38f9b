-- `past_plain`: each way comes to a place in the run.
use Rattle.std.proofs.Common.{◌≡◌, ◌≤◌, ◌<◌, ◌-◌, ◌+◌, ℕ, List, arith, length, take, drop, get_or}
use Rattle.std.proofs.Math.Seq.{take_all}
use Rattle.std.specs.Int.Bits.{bit_and}
use Rattle.utf.specs.Bounds.{below_all}
use Rattle.utf.specs.Plain.{ascii_run, BehindRun, little_of, tops_of}
use Rattle.utf.specs.PlainLaws.{run_on, run_end, eight_run, eight_plain}
use Rattle.utf.proofs.Runs.{behind_far, behind_place}
use Rattle.utf.proofs.plain.past_plain.Goals as goal

pub returns-then-tops-gt0 : goal.returns-then-tops-gt0
returns-then-tops-gt0 c =
    let s = c.args.s.now in
    let w = c.in-Some.ensures.cases in
    let size : length c.in-Some.behind.now + 8 ≡ length s = w.2 in
    rw (c.top_bits-tops.ensures, w.0) (eight_run s 0 (below_all 256 s (λ i. omega (arith, c.type_inv.s i))) (omega arith) c.requires)

-- where what is left begins
placed : (s eight behind middle rest : List ℕ) (tops : ℕ) → ((i : ℕ) → get_or s i 0 < 256) → (eight ≡ take 8 s) × (behind ≡ drop 8 s) × (length behind + 8 ≡ length s) →
    tops ≡ bit_and (little_of eight) (tops_of 8) → tops ≤ 0 → BehindRun behind middle → BehindRun middle rest → let i = length s - length rest in (8 ≤ i) × (i ≤ ascii_run s)
placed s eight behind middle rest tops b w e z p q =
    let none : tops ≡ 0 = omega arith in
    let size : length behind + 8 ≡ length s = w.2 in
    behind_place s rest (below_all 256 s b) (omega arith) (rw (e, w.0) at none) (rw w.1 at (behind_far behind middle rest p q))

pub returns-then-top_bits-eq0 : goal.returns-then-top_bits-eq0
returns-then-top_bits-eq0 c =
    let s = c.args.s.now in
    let k = length s - 8 in
    let i = length s - length c.past_steps-rest.result.now in
    let p = placed s _ _ _ _ _ (λ i. omega (arith, c.type_inv.s i)) c.in-Some.ensures.cases c.top_bits-tops.ensures c.if-tops-gt0.false c.past_steps.ensures c.past_steps-rest.ensures in
    let v = c.in-Some-last_chunk.ensures.cases in
    let all : take 8 (drop k s) ≡ drop k s = take_all 8 (drop k s) (omega (arith, v.1.long)) in
    let none = rw (c.top_bits.ensures, v.1.same) at c.if-top_bits-eq0.true in
    let plain = eight_plain s k (below_all 256 s (λ i. omega (arith, c.type_inv.s i))) (omega (arith, v.0)) (rw all none) in
    let end = run_end s k 8 i (omega (arith, v.0)) plain (omega arith) (omega arith) in
    (omega (arith, v.0), omega (arith, end, run_on s 0 i (omega arith, omega (arith, p.1))))

pub returns : goal.returns
returns c =
    let p = placed c.args.s.now _ _ _ _ _ (λ i. omega (arith, c.type_inv.s i)) c.in-Some.ensures.cases c.top_bits-tops.ensures c.if-tops-gt0.false c.past_steps.ensures c.past_steps-rest.ensures in
    (omega (arith, p.0), omega (arith, p.1))
