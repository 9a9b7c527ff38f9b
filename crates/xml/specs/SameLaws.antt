-- Two lists of events give the same XML exactly when they are the same but for given lengths and for dates with the same floor.
use Rattle.std.specs.Prelude.{true, ◌↔◌, ◌≡◌, refl, ℕ}
use Rattle.std.proofs.lemmas.Bool.{false≢true}
use mathlib.Core.List.{List, [], ◌∷◌, ◌++◌, map, append_assoc, append_cancel_left, nil≢cons, head-eq_of_cons-eq, tail-eq_of_cons-eq}
use Rattle.std.proofs.Common.{sym, ap, ap₂, ◌∙◌, arith}
use Rattle.event.specs.Meaning.{Meaning}
use Rattle.grammar.specs.Check.{Move, onto, barred, move_of}
use Rattle.grammar.specs.Fits.{fits_from}
use Rattle.grammar.specs.Turn.{is_nothing, turn_of}
use Rattle.grammar.specs.TurnLaws.{turn_trails}
use Rattle.grammar.specs.declared.answer.Refusal.{Refusal}
use Rattle.grammar.specs.declared.turn.Due.{Due}
use Rattle.grammar.specs.declared.turn.Due.TheVariants.{Root}
use Rattle.xml.specs.Shown.{shown_of, shown_in}
use Rattle.xml.specs.ShownLaws.{Sayable, shown_again, line_shown_law, turn_shown_law}
use Rattle.xml.specs.Words.{header, footer}
use Rattle.xml.specs.Xml.{line_for, lines_from, xml_of}

abbrev pub AllSayable : List Meaning → Type 0
AllSayable [] = Unit {0}
AllSayable (m ∷ ms) = Sayable m × AllSayable ms

not_onto : (r : Refusal) (d : Due) (ds : List Due) → barred r ≡ onto d ds → ⊥
not_onto r d ds e = let z : ◌≡◌ {A = ℕ} 0 1 = cc in omega arith

-- an event that fits leads on, and those behind it fit there
pub record Led (due : Due) (around : List Due) (m : Meaning) (ms : List Meaning) : Type 0 where
  pub next : Due
  pub outer : List Due
  pub move : move_of (turn_of due m) due around ≡ onto next outer
  pub fits : fits_from next outer ms ≡ true

pub led : (due : Due) (around : List Due) (m : Meaning) (ms : List Meaning) → fits_from due around (m ∷ ms) ≡ true → Led due around m ms
unfolding fits_from
led due around m ms e = go (move_of (turn_of due m) due around) refl
  where
    go : (v : Move) → move_of (turn_of due m) due around ≡ v → Led due around m ms
    go (barred r) f = absurd (false≢true (rw (f, fits_from) at e))
    go (onto d ds) f = record { next = d; outer = ds; move = f; fits = rw (f, fits_from) at e }

-- behind the root nothing fits
no_more : (due : Due) (around : List Due) (m : Meaning) (ms : List Meaning) → is_nothing due ≡ true → fits_from due around (m ∷ ms) ≡ true → ⊥
unfolding move_of
no_more due around m ms h f =
    let v = led due around m ms f in
    not_onto _ v.next v.outer (rw (turn_trails due m h, move_of) at v.move)

-- the lines of an event and those behind it
lines_cons : (due : Due) (around : List Due) (m : Meaning) (ms : List Meaning) (d : Due) (ds : List Due) (r : List ℕ) → move_of (turn_of due m) due around ≡ onto d ds → lines_from due around (m ∷ ms) ++ r ≡ line_for due m ++ (lines_from d ds ms ++ r)
unfolding lines_from
lines_cons due around m ms d ds r e = rw (e, lines_from) (append_assoc (line_for due m) (lines_from d ds ms) r)

-- the same lines show the same events, whatever follows them
pub same_lines :
    (ms ns : List Meaning) (due : Due) (around : List Due) (r q : List ℕ) →
    fits_from due around ms ≡ true → fits_from due around ns ≡ true → AllSayable ms → AllSayable ns →
    lines_from due around ms ++ r ≡ lines_from due around ns ++ q → map shown_of ms ≡ map shown_of ns
unfolding fits_from
same_lines [] [] due around r q f g a b e = refl
same_lines [] (n ∷ ns) due around r q f g a b e = absurd (no_more due around n ns f g)
same_lines (m ∷ ms) [] due around r q f g a b e = absurd (no_more due around m ms g f)
same_lines (m ∷ ms) (n ∷ ns) due around r q f g a b e =
    let v = led due around m ms f in
    let w = led due around n ns g in
    let l : line_for due m ++ (lines_from v.next v.outer ms ++ r) ≡ line_for due n ++ (lines_from w.next w.outer ns ++ q) = sym (lines_cons due around m ms v.next v.outer r v.move) ∙ e ∙ lines_cons due around n ns w.next w.outer q w.move in
    let s : shown_of m ≡ shown_of n = sym (shown_again due m _ a.0) ∙ ap shown_in l ∙ shown_again due n _ b.0 in
    let t : onto v.next v.outer ≡ onto w.next w.outer = sym v.move ∙ ap (λ x. move_of x due around) (turn_shown_law due m n s) ∙ w.move in
    let d : v.next ≡ w.next = cc in
    let ds : v.outer ≡ w.outer = cc in
    let i : lines_from v.next v.outer ms ++ r ≡ lines_from w.next w.outer ns ++ q = append_cancel_left (line_for due n) _ _ (rw (line_shown_law due m n s) at l) in
    ap₂ ◌∷◌ s (same_lines ms ns v.next v.outer r q v.fits (rw (d, ds) w.fits) a.1 b.1 (rw (← d, ← ds) at i))

-- and the other way, of any events
lines_shown : (ms ns : List Meaning) (due : Due) (around : List Due) → map shown_of ms ≡ map shown_of ns → lines_from due around ms ≡ lines_from due around ns
unfolding lines_from
lines_shown [] [] due around e = refl
lines_shown [] (n ∷ ns) due around e = absurd (nil≢cons e)
lines_shown (m ∷ ms) [] due around e = absurd (nil≢cons (sym e))
lines_shown (m ∷ ms) (n ∷ ns) due around e =
    let s : shown_of m ≡ shown_of n = head-eq_of_cons-eq e in
    rw (line_shown_law due m n s, turn_shown_law due m n s) (ap (λ t. line_for due n ++ t) (go (move_of (turn_of due n) due around) (λ d ds. lines_shown ms ns d ds (tail-eq_of_cons-eq e))))
  where
    go : (v : Move) → ((d : Due) (ds : List Due) → lines_from d ds ms ≡ lines_from d ds ns) → ◌≡◌ {A = List ℕ} (elim v [ onto d ds ↦ lines_from d ds ms | barred r ↦ [] ]) (elim v [ onto d ds ↦ lines_from d ds ns | barred r ↦ [] ])
    go (onto d ds) i = i d ds
    go (barred r) i = refl

-- THE SAME XML: the same events but for given lengths and for dates with the same floor
pub same_xml : (ms ns : List Meaning) → fits_from Root [] ms ≡ true → fits_from Root [] ns ≡ true → AllSayable ms → AllSayable ns → (xml_of ms ≡ xml_of ns) ↔ (map shown_of ms ≡ map shown_of ns)
unfolding xml_of
same_xml ms ns f g a b = (
  (λ e. same_lines ms ns Root [] footer footer f g a b (append_cancel_left header _ _ e)),
  (λ e. ap (λ (t : List ℕ). header ++ (t ++ footer)) (lines_shown ms ns Root [] e)),
)
