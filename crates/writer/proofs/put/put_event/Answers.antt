-- NEXT tells what an event is, and REP whether an equal scalar came before it.
use Rattle.writer.proofs.Events.{is_scalar_law, is_end_law, is_start, scalar_single, scalar_grown, again_grown, end_grown}
use Rattle.writer.proofs.put.put_event.Goals as goal

pub returns-then-word-e : goal.returns-then-word-e
returns-then-word-e c =
    let o = c.requires in
    let s = is_scalar_law o c.word-next.ensures.0 c.if-next-e.true in
    again_grown o _ s.0 s.1 c.word.ensures.0 c.if-word-e.true

pub put_once-requires : goal.put_once-requires
put_once-requires c =
    let o = c.requires in
    let s = is_scalar_law o c.word-next.ensures.0 c.if-next-e.true in
    (_, s.0, scalar_single o _ s.0 s.1)

pub returns-then-next-e : goal.returns-then-next-e
returns-then-next-e c =
    let o = c.requires in
    let s = is_scalar_law o c.word-next.ensures.0 c.if-next-e.true in
    scalar_grown o _ s.0 s.1 (c.put_once.ensures _ _ (scalar_single o _ s.0 s.1))

pub returns-then-next-eq0 : goal.returns-then-next-eq0
returns-then-next-eq0 c =
    let o = c.requires in
    end_grown o _ (is_end_law o c.word-next.ensures.0 c.if-next-eq0.true)

pub put_container-requires : goal.put_container-requires
put_container-requires c =
    let o = c.requires in
    (o, is_start o c.word-next.ensures.0 c.if-next-e.false c.if-next-eq0.false)
