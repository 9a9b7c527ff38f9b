-- With which numbers a file is refused: those of the stepwise reader's steps. So neither 16 nor 17 is ever given, nor 27 or 37, which the tape
-- and the budget give.
use Rattle.std.specs.Prelude.{Bool, true, false, cond, ◌≡◌, ltb, length}
use mathlib.Core.List.{List, [], ◌∷◌, ◌++◌}
use Rattle.std.proofs.Math.Path.{refl}
use Prim.Native.Nat.{ℕ, zero, suc}
use Rattle.number.specs.Among.{among, among_not, among_more}
use Rattle.number.specs.Either.{either}
use Rattle.event.specs.Format.{max_length, max_open}
use Rattle.event.specs.Meaning.{Meaning, meaning_of}
use Rattle.layout.specs.Layout.{look_of}
use Rattle.layout.specs.LookLaws.{Laid, look_right, never_missing}
use Rattle.layout.specs.Looked.{Shape, Looked, barred, missing, faulty, scalar, container, start_of}
use Rattle.layout.specs.References.{references_of}
use Rattle.layout.specs.Refusals.{file_refusal, keeps_refusal, ends_refusal, long_refusal}
use Rattle.layout.specs.Trailer.{Trailer, keeps, ends, lays, trailer_of, trailer_in}
use Rattle.layout.specs.TrailerLaws.{Tells, tells}
use Rattle.layout.specs.declared.layout.Layout.{Layout}
use Rattle.reader.specs.Refusals.{step_refusals, step_refusal, not_step_16, not_step_17}
use Rattle.tape.specs.Append.{fits}
use Rattle.tape.specs.Code.{bytes_for}
use Rattle.plainly.specs.Plain.{Last, whole, stopped, Put, last_of, reach_of, put_all, say_onto, closing, plain_tape}
use Rattle.plainly.specs.Says.{Stated, End, done, refused, Says, refusal, on, followed, each_of, whole_of, by_look, object_says, trailer_says, file_says}

-- an ending that is the end, or a refusal with a step's number
abbrev pub Fair : End → Type 0
Fair (done place) = Unit {0}
Fair (refused number values place) = among step_refusals number ≡ true

listed_14 : among step_refusals 14 ≡ true
unfolding step_refusals among
listed_14 = refl

listed_15 : among step_refusals 15 ≡ true
unfolding step_refusals among
listed_15 = refl

followed_fair : (x : Says) (more : ℕ → Says) → Fair x.ending → ((p : ℕ) → Fair (more p).ending) → Fair (followed x more).ending
unfolding followed on
followed_fair x more h k = go x.events x.ending h
  where
    go : (es : List Stated) (e : End) → Fair e → Fair (on es e more).ending
    go es (done place) f = k place
    go es (refused number values place) f = f

each_fair : (object : ℕ → ℕ → Says) → ((p n : ℕ) → Fair (object p n).ending) → (ns : List ℕ) (place : ℕ) → Fair (each_of object place ns).ending
unfolding each_of
each_fair object h [] place = tt
each_fair object h (n ∷ ns) place = followed_fair (object place n) (λ p. each_of object p ns) (h place n) (λ p. each_fair object h ns p)

whole_fair : (object : ℕ → ℕ → Says) → ((p n : ℕ) → Fair (object p n).ending) → (start : Meaning) (n offset : ℕ) (ns : List ℕ) → Fair (whole_of object start n offset ns).ending
unfolding whole_of
whole_fair object h start n offset ns =
    followed_fair _ _ tt (λ p. followed_fair (each_of object p ns) _ (each_fair object h ns p) (λ q. tt))

module _ (file : List ℕ) (l : Layout) (laid : Laid file l) where
  look_fair : (place n : ℕ) (inside : Shape → ℕ → ℕ → Says) → ((s : Shape) (k offset : ℕ) → Fair (inside s k offset).ending) → Fair (by_look file place n inside (look_of file l n)).ending
  unfolding by_look
  look_fair place n inside h = go (look_of file l n) refl
    where
      go : (x : Looked) → look_of file l n ≡ x → Fair (by_look file place n inside x).ending
      go (barred number values) e = step_refusal number (file_refusal number (rw e at (look_right file l n)))
      go missing e = absurd (never_missing file l laid n e)
      go (faulty number values offset) e = step_refusal number (file_refusal number (rw e at (look_right file l n)))
      go (scalar v offset) e = tt
      go (container s k offset) e = h s k offset

  entry_fair : (b : Bool) (offset : ℕ) (x : Says) → Fair x.ending → Fair (cond b (refusal 14 [] offset) x).ending
  entry_fair true offset x h = listed_14
  entry_fair false offset x h = h

  object_fair : (left : ℕ) (opened : List ℕ) (place n : ℕ) → Fair (object_says file l left opened place n).ending
  unfolding object_says
  object_fair zero opened place n = look_fair place n _ (λ s k offset. entry_fair (among opened n) offset (refusal 15 [] offset) listed_15)
  object_fair (suc left) opened place n =
      look_fair place n _
      (λ s k offset. entry_fair (among opened n) offset _ (whole_fair _ (λ p m. object_fair left (opened ++ (n ∷ [])) p m) (meaning_of (start_of s k) []) n offset (references_of file l n)))

-- every file ends so
pub file_fair : (file : List ℕ) → Fair (file_says file).ending
unfolding file_says trailer_in trailer_says
file_fair file = either (λ (t : Trailer). Fair (trailer_says file t).ending) (ltb max_length (length file)) _ _ (λ h. step_refusal 1 long_refusal) (λ h. go (trailer_of file) (tells file))
  where
    go : (t : Trailer) → Tells file t → Fair (trailer_says file t).ending
    go (keeps number values place) h = step_refusal number (keeps_refusal number h)
    go (ends number values place) h = step_refusal number (ends_refusal number h)
    go (lays l root) h = object_fair file l h.laid max_open [] l.table root

-- the last answer of a plain reading: the end, a step's number, 37 or 27
abbrev pub Given : Last → Type 0
Given whole = Unit {0}
Given (stopped number values place) = among (37 ∷ 27 ∷ step_refusals) number ≡ true

put_given : (end : End) → Fair end → (es : List Stated) (left held : ℕ) (tape : List ℕ) → Given (last_of (put_all end left held tape es).reach)
unfolding put_all reach_of last_of among
put_given (done place) f [] left held tape = tt
put_given (refused number values place) f [] left held tape = more number f
  where
    more : (n : ℕ) → among step_refusals n ≡ true → among (37 ∷ 27 ∷ step_refusals) n ≡ true
    more n h = among_more 37 (27 ∷ step_refusals) n (among_more 27 step_refusals n h)
put_given end f (e ∷ es) zero held tape = refl
put_given end f (e ∷ es) (suc left) held tape =
    either (λ (p : Put). Given (last_of p.reach)) (fits tape held (bytes_for e.meaning)) _ _ (λ h. put_given end f es left _ _) (λ h. refl)

pub plain_given : (budget : ℕ) (file tape : List ℕ) → Given (plain_tape budget file tape).ending
unfolding plain_tape closing say_onto
plain_given budget file tape = put_given (file_says file).ending (file_fair file) (file_says file).events budget 0 tape

-- NEVER 16, NEVER 17
not_given : (number : ℕ) → among (37 ∷ 27 ∷ step_refusals) number ≡ false → (budget : ℕ) (file tape : List ℕ) (values : List ℕ) (place : ℕ) → (plain_tape budget file tape).ending ≡ stopped number values place → ⊥
not_given number h budget file tape values place e =
    let g : among (37 ∷ 27 ∷ step_refusals) number ≡ true = rw e at (plain_given budget file tape) in
    among_not (37 ∷ 27 ∷ step_refusals) number number g h refl

pub never_no_room : (budget : ℕ) (file tape : List ℕ) (values : List ℕ) (place : ℕ) → (plain_tape budget file tape).ending ≡ stopped 16 values place → ⊥
unfolding among
never_no_room = not_given 16 not_step_16

pub never_wrong_file : (budget : ℕ) (file tape : List ℕ) (values : List ℕ) (place : ℕ) → (plain_tape budget file tape).ending ≡ stopped 17 values place → ⊥
unfolding among
never_wrong_file = not_given 17 not_step_17
