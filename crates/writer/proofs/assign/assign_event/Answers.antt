-- A scalar or an end names nothing; of a container the members are numbered, of a dictionary the keys, then the values.
use Rattle.std.proofs.Common.{◌≡◌, ℕ, ◌+◌, ◌<◌, List, slice_index}
use Rattle.writer.specs.Columns.{Indexed}
use Rattle.writer.specs.Marks.{Numbered}
use Rattle.writer.specs.Ready.{Ready}
use Rattle.writer.specs.AssignLaws.{Coming, event_alone, kind_within, array_asks, array_done, keys_asks, values_asks, values_done}
use Rattle.writer.proofs.assign.assign_event.Goals as goal

-- what is known before the event
coming : {t w : List ℕ} {n e k next : ℕ} → Ready t n → (e < n) × Indexed t w n × Numbered t w n e k → next ≡ slice_index w (n + n + e) → Coming t w n e k next
coming o p h = record { ready = o; within = p.0; indexed = p.1; numbered = p.2; next_word = h }

pub returns-then-next-e : goal.returns-then-next-e
returns-then-next-e c = event_alone (coming c.args.events.ready c.requires c.word-next.ensures.0) c.if-next-e.true

pub bounds-events-at : goal.bounds-events-at
bounds-events-at c = kind_within (coming c.args.events.ready c.requires c.word-next.ensures.0) c.if-next-e.false c.word-at.ensures.0

pub assign_each-requires : goal.assign_each-requires
assign_each-requires c = array_asks (coming c.args.events.ready c.requires c.word-next.ensures.0) c.if-next-e.false c.word-at.ensures.0 c.if-events-at-lt12.true

pub returns-then-events-at-lt12 : goal.returns-then-events-at-lt12
returns-then-events-at-lt12 c =
    array_done (coming c.args.events.ready c.requires c.word-next.ensures.0) c.if-next-e.false c.word-at.ensures.0 c.if-events-at-lt12.true _ _ c.assign_each.ensures

pub assign_each-keys-requires : goal.assign_each-keys-requires
assign_each-keys-requires c = keys_asks (coming c.args.events.ready c.requires c.word-next.ensures.0) c.if-next-e.false c.word-at.ensures.0 c.if-events-at-lt12.false

pub assign_each-requires-2 : goal.assign_each-requires-2
assign_each-requires-2 c =
    values_asks (coming c.args.events.ready c.requires c.word-next.ensures.0) c.if-next-e.false c.word-at.ensures.0 c.if-events-at-lt12.false c.assign_each-keys.ensures

pub returns : goal.returns
returns c =
    values_done (coming c.args.events.ready c.requires c.word-next.ensures.0) c.if-next-e.false c.word-at.ensures.0 c.if-events-at-lt12.false c.assign_each-keys.ensures _ _ c.assign_each-2.ensures
