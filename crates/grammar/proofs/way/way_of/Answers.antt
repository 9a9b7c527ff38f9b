-- `way_of`: the turn of the event, and the two refusals that go by how many containers are open.
use mathlib.Core.List.{[]}
use mathlib.Core.Path.{◌≡◌, ap, sym, ◌∙◌}
use borrow.Author.Tests.{le-leb, lt-leb, eq-eqb, ne_eqb}
use Rattle.event.specs.Format.{max_open}
use Rattle.event.specs.Meaning.{meaning_of}
use Rattle.grammar.specs.Way.{way_by, way_of}
use Rattle.grammar.specs.declared.turn.Turn.{Turn}
use Rattle.grammar.proofs.way.way_of.Goals as goal
use Rattle.grammar.proofs.way.way_of.Lts as lts
use Rattle.grammar.proofs.way.way_of.Reads as reads
use Rattle.grammar.proofs.way.way_of.Tie as tie

-- the way by a turn that is known
turned : (x : lts.After-turn_of tie.the-claims reads.Pre reads.Post) {t : Turn} → x.turn_of.result ≡ t → let a = x.args in way_of a.due a.depth (meaning_of a.event []) ≡ way_by t a.due a.depth
unfolding way_of
turned x e = ap (λ (t : Turn). way_by t x.args.due x.args.depth) (sym x.turn_of.ensures ∙ e)

pub returns-then-depth-ge-MAX_OPEN : goal.returns-then-depth-ge-MAX_OPEN
unfolding way_by
returns-then-depth-ge-MAX_OPEN c = sym (turned c.before.before c.in-Open.is ∙ rw (le-leb max_open _ c.if-depth-ge-MAX_OPEN.true))

pub returns-then-depth-eq0 : goal.returns-then-depth-eq0
unfolding way_by
returns-then-depth-eq0 c = sym (turned c.before.before c.in-Close.is ∙ rw (eq-eqb _ 0 c.if-depth-eq0.true))

pub returns-in-Pass : goal.returns-in-Pass
unfolding way_by
returns-in-Pass c = sym (turned c.before c.in-Pass.is)

pub returns-else-depth-ge-MAX_OPEN : goal.returns-else-depth-ge-MAX_OPEN
unfolding way_by
returns-else-depth-ge-MAX_OPEN c = sym (turned c.before.before.before c.in-Open.is ∙ rw (lt-leb max_open _ c.if-depth-ge-MAX_OPEN.false, c.after.ensures))

pub returns-else-depth-eq0 : goal.returns-else-depth-eq0
unfolding way_by
returns-else-depth-eq0 c = sym (turned c.before.before c.in-Close.is ∙ rw (ne_eqb _ 0 c.if-depth-eq0.false))

pub returns-in-Stop : goal.returns-in-Stop
unfolding way_by
returns-in-Stop c = sym (turned c.before c.in-Stop.is)
