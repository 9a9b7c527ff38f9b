-- `put_lines` puts what is left of the lines: every turn takes one event of it.
use Rattle.std.proofs.Common.{◌≡◌, ℕ, Ok, Err, refl, arith, rules}
use Rattle.number.specs.BeLaws.{bytes_of_law}
use Rattle.xml.specs.declared.answer.Bar.{Bar}
use Rattle.xml.proofs.Laying.{stands_first, is_small_law, is_ended, is_held, Met, is_less, is_barred, is_stopped, is_past, is_room, is_into, is_open, is_out}
use Rattle.xml.proofs.lines.put_lines.Goals as goal
use Rattle.xml.proofs.lines.put_lines.Goals.{After-line_at-told}

-- the next event, once its line is known
met : (x : After-line_at-told) →
    let l = x.loop-at in
    let a = x.args in
    Met a.tape.now a.out.now a.from l.around l.depth l.due l.at l.to l.out x.line_at-told.result x.line_at-told.new.out
met x = record { stands = x.loop-at.invariant; inside = x.loop-at-test.true; tells = x.line_at-told.ensures; kept = search rules }

pub loop-at-init : goal.loop-at-init
loop-at-init c =
    let a = c.args in
    stands_first a.tape.now a.out.now a.from _ (bytes_of_law a.tape.now (λ (k : ℕ). omega (arith, c.type_inv.tape k))) c.requires.0 c.requires.1 refl

pub line_at-told-requires : goal.line_at-told-requires
line_at-told-requires c = let s = c.loop-at.invariant in (is_small_law s, s.short, is_held s c.loop-at-test.true)

pub returns-in_err-to : goal.returns-in_err-to
returns-in_err-to c =
    let e : (b : Bar) × (c.line_at-told.result.line ≡ Err b) × (c.from_residual.result ≡ Err (b, c.loop-at.at)) = search rules in
    rw e.2 (is_barred (met (goal.at.returns-in_err-to c).After-line_at-told) e.1)

pub loop-at-smaller-in-Past : goal.loop-at-smaller-in-Past
loop-at-smaller-in-Past c = is_less (met (goal.at.loop-at-smaller-in-Past c).After-line_at-told)

pub loop-at-preserved-in-Past : goal.loop-at-preserved-in-Past
loop-at-preserved-in-Past c =
    let e : c.line_at-told.result.line ≡ Ok c.in_ok-to.to = search rules in
    is_past (met (goal.at.loop-at-preserved-in-Past c).After-line_at-told) e c.in-Past.is

pub bounds-around-depth : goal.bounds-around-depth
bounds-around-depth c = omega (arith, is_room (met (goal.at.bounds-around-depth c).After-line_at-told) c.in-Into.is)

pub loop-at-smaller-in-Into : goal.loop-at-smaller-in-Into
loop-at-smaller-in-Into c = is_less (met (goal.at.loop-at-smaller-in-Into c).After-line_at-told)

pub loop-at-preserved-in-Into : goal.loop-at-preserved-in-Into
loop-at-preserved-in-Into c =
    let e : c.line_at-told.result.line ≡ Ok c.in_ok-to.to = search rules in
    is_into (met (goal.at.loop-at-preserved-in-Into c).After-line_at-told) e c.in-Into.is

pub overflow_sub-depth : goal.overflow_sub-depth
overflow_sub-depth c = omega (arith, is_open (met (goal.at.overflow_sub-depth c).After-line_at-told) c.in-Out.is)

pub loop-at-smaller : goal.loop-at-smaller
loop-at-smaller c = is_less (met (goal.at.loop-at-smaller c).After-line_at-told)

pub loop-at-preserved : goal.loop-at-preserved
loop-at-preserved c =
    let e : c.line_at-told.result.line ≡ Ok c.in_ok-to.to = search rules in
    is_out (met (goal.at.loop-at-preserved c).After-line_at-told) e c.in-Out.is

pub returns-in-Barred : goal.returns-in-Barred
returns-in-Barred c = absurd (is_stopped (met (goal.at.returns-in-Barred c).After-line_at-told) c.in-Barred.is)

pub returns : goal.returns
returns c = is_ended c.loop-at.invariant c.loop-at-test.false
