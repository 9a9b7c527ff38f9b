-- The three words are set one after the other.
use Rattle.std.proofs.Common.{◌≡◌, ℕ, ◌*◌, List, length, get_or, slice_set, ◌∙◌, arith, length-set}
use Rattle.writer.specs.CollectLaws.{places_fit, alone_le, turned, first_fits, collected_turn}
use Rattle.writer.specs.Find.{Entered}
use Rattle.writer.proofs.collect.collect_event.Goals as goal

pub set_word-requires : goal.set_word-requires
set_word-requires c =
    let r = c.requires in
    let f = places_fit c.args.events.ready r.0 r.1 r.2 r.3 in
    (omega arith, omega arith)

pub first_like-first-requires : goal.first_like-first-requires
first_like-first-requires c =
    let r = c.requires in
    rw c.set_word.ensures (turned c.args.events.ready r.0 r.1 r.2 r.3 c.place_after-end.result c.place_after-end.ensures)

-- the search leaves as many words
long : (w : List ℕ) (at : ℕ) {t w₁ v : List ℕ} {n e : ℕ} → w₁ ≡ slice_set w e at → Entered t w₁ v n e → length w ≡ n * 8 → length v ≡ n * 8
long w at s g k = g.long ∙ rw s (rw length-set k)

pub set_word-requires-2 : goal.set_word-requires-2
set_word-requires-2 c =
    let r = c.requires in
    let f = places_fit c.args.events.ready r.0 r.1 r.2 r.3 in
    let l = long c.args.work.now c.args.at c.set_word.ensures c.first_like-first.ensures.entered f.3 in
    let g = first_fits c.args.events.ready r.0 r.1 r.2 r.3 c.first_like-first.result c.first_like-first.ensures.first_of in
    (omega arith, omega arith)

pub bounds-events-at : goal.bounds-events-at
bounds-events-at c = let r = c.requires in (places_fit c.args.events.ready r.0 r.1 r.2 r.3).0

pub alone-next-requires : goal.alone-next-requires
alone-next-requires c =
    let r = c.requires in
    let f = places_fit c.args.events.ready r.0 r.1 r.2 r.3 in
    omega arith

pub set_word-requires-3 : goal.set_word-requires-3
set_word-requires-3 c =
    let r = c.requires in
    let f = places_fit c.args.events.ready r.0 r.1 r.2 r.3 in
    let l = long c.args.work.now c.args.at c.set_word.ensures c.first_like-first.ensures.entered f.3 in
    (omega arith, omega (arith, alone_le (get_or c.args.events.tape.now c.args.at 0) c.args.e))

pub returns : goal.returns
returns c =
    let r = c.requires in
    let t = turned c.args.events.ready r.0 r.1 r.2 r.3 c.place_after-end.result c.place_after-end.ensures in
    let first = c.first_like-first in
    let next = c.alone-next in
    let w₁ = c.set_word in
    let w₂ = c.set_word-2 in
    let w₃ = c.set_word-3 in
    let d =
    collected_turn c.args.events.ready r.0 r.1 r.2 r.3 first.result next.result w₁.new.work first.new.work w₂.new.work w₃.new.work
    first.ensures.first_of next.ensures w₁.ensures first.ensures.entered w₂.ensures w₃.ensures in
    (t.ends, d.0, d.1)
