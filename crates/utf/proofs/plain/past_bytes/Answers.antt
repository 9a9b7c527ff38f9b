-- `past_bytes` is the place of the first byte that is not ASCII, or the end.
use Rattle.std.proofs.Common.{rules, ℕ, ◌≤◌, ◌<◌, length, get_or}
use Rattle.utf.proofs.Runs.{run_place}
use Rattle.utf.proofs.plain.past_bytes.Goals as goal

pub returns : goal.returns
returns c =
    let s = c.args.s.now in
    let inside : c.unwrap_or.result ≤ length c.args.s.now = search rules in
    let before : (k : ℕ) → k < c.unwrap_or.result → get_or c.args.s.now k 0 < 0x80 = search rules in
    let found : c.unwrap_or.result < length c.args.s.now → 0x80 ≤ get_or c.args.s.now c.unwrap_or.result 0 = search rules in
    run_place s c.unwrap_or.result inside before found
