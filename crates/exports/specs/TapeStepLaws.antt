-- What the number of a step's answer stands for: where the next event begins, or that there is no event; no tape is as long as 2^63.
use Rattle.tape.specs.declared.item.Item.{Item}
use Rattle.std.specs.Prelude.{cond, List, ◌≡◌, refl, ℕ, eqb, None, Some, Option}
use Rattle.std.proofs.Common.{sym, ap, ◌∙◌, arith, ne_eqb}
use Rattle.number.specs.BeLaws.{Bytes}
use Rattle.tape.specs.Item.{item_at}
use Rattle.tape.specs.ItemLaws.{item_reads}
use Rattle.tape.proofs.SameLaws.{item_within}
use Rattle.exports.specs.Codes.{Lent}
use Rattle.exports.specs.TapeStep.{next_number}

-- where the next event begins, if there is one
unfoldable pub next_place : Option Item → Option ℕ
next_place (Some i) = Some i.next
next_place None = None

-- the same from the number
unfoldable pub next_from : ℕ → Option ℕ
next_from n = cond (eqb n 0xFFFFFFFFFFFFFFFF) None (Some n)

-- the number tells the place, or that there is none
pub next_again : (tape : List ℕ) (at : ℕ) → Bytes tape → Lent tape → next_from (next_number (item_at tape at)) ≡ next_place (item_at tape at)
unfolding next_from next_number next_place
next_again tape at good h = go (item_at tape at) refl
  where
    go : (s : Option Item) → item_at tape at ≡ s → next_from (next_number s) ≡ next_place s
    go (Some i) e =
        let w = item_within tape at _ i.next good (item_reads tape at i e) in
        rw (ne_eqb i.next 0xFFFFFFFFFFFFFFFF (λ f. omega (arith, w.1)))
    go None e = refl

pub next_one : (tape : List ℕ) (at by : ℕ) → Bytes tape → Lent tape → next_number (item_at tape at) ≡ next_number (item_at tape by) → next_place (item_at tape at) ≡ next_place (item_at tape by)
next_one tape at by good h e = sym (next_again tape at good h) ∙ ap next_from e ∙ next_again tape by good h
