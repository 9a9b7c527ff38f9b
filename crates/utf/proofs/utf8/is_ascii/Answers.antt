-- `is_ascii`: what is left behind the steps decides.
use Rattle.std.proofs.Common.{◌↔◌, ◌<◌, IsTrue, ◌∙◌, rules, ℕ, length, get_or}
use Rattle.utf.proofs.Runs.{behind_ascii, all_ascii}
use Rattle.utf.proofs.utf8.is_ascii.Goals as goal

pub returns : goal.returns
returns c =
    let rest = c.past_steps-2.result.now in
    let each : IsTrue c.all.result ↔ ((k : ℕ) → k < length rest → get_or rest k 0 < 0x80) = search rules in
    all_ascii rest c.all.result each ∙ behind_ascii _ _ c.past_steps-2.ensures ∙ behind_ascii _ _ c.past_steps.ensures
