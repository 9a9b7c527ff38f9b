-- What is put by one event, by a refusal, and by one thing said after another.
use Rattle.std.specs.Prelude.{Bool, true, false, cond, List, [], ◌∷◌, ◌++◌, ◌≡◌, refl, ℕ, zero, suc, ◌+◌, length}
use Rattle.std.proofs.Math.Path.{sym, ap}
use Rattle.std.proofs.Common.{◌∙◌}
use Rattle.std.proofs.lemmas.List.Edits.{sets}
use Rattle.tape.specs.Append.{fits}
use Rattle.tape.specs.Code.{bytes_for}
use Rattle.event.specs.Meaning.{Meaning}
use Rattle.plainly.specs.One.{one_put}
use Rattle.plainly.specs.Plain.{Last, Reach, going, over, Put, put, refused_with, reach_of, put_all, say_onto}
use Rattle.plainly.specs.Says.{Stated, End, done, refused, Says, refusal, one, on, followed, each_of}

-- what is put by one event, whatever its number and offset, and by a refusal
pub one_said : (left held : ℕ) (tape : List ℕ) (m : Meaning) (n offset place : ℕ) → say_onto left held tape (one m n offset place) ≡ one_put left held tape m place
unfolding say_onto put_all one_put reach_of
one_said zero held tape m n offset place = refl
one_said (suc left) held tape m n offset place = refl

pub refused_said : (budget held : ℕ) (tape : List ℕ) (number : ℕ) (values : List ℕ) (place : ℕ) → say_onto budget held tape (refusal number values place) ≡ put (refused_with number values place) held tape
unfolding say_onto put_all reach_of
refused_said zero held tape number values place = refl
refused_said (suc budget) held tape number values place = refl

-- it goes on from what was put, if it was not over
unfoldable pub on_reach : (ℕ → ℕ → ℕ → List ℕ → Put) → Reach → ℕ → List ℕ → Put
on_reach more (going place left) held tape = more place left held tape
on_reach more (over t) held tape = put (over t) held tape

unfoldable pub onward : (ℕ → ℕ → ℕ → List ℕ → Put) → Put → Put
onward more p = on_reach more p.reach p.held p.tape

-- a test with what goes on behind each answer
onward_cond : (more : ℕ → ℕ → ℕ → List ℕ → Put) (b : Bool) (x y : Put) → onward more (cond b x y) ≡ cond b (onward more x) (onward more y)
onward_cond more true x y = refl
onward_cond more false x y = refl

-- events in front of others
put_append : (end : End) (q : ℕ) (fs : List Stated) (es : List Stated) (left held : ℕ) (tape : List ℕ)
    → put_all end left held tape (es ++ fs) ≡ onward (λ p l h t. put_all end l h t fs) (put_all (done q) left held tape es)
unfolding put_all onward on_reach reach_of
put_append end q fs [] left held tape = refl
put_append end q fs (e ∷ es) zero held tape = refl
put_append end q fs (e ∷ es) (suc left) held tape =
    ap (λ (x : Put). cond (fits tape held (bytes_for e.meaning)) x (put (refused_with 27 [] held) held tape))
    (put_append end q fs es left (held + length (bytes_for e.meaning)) (sets tape held (bytes_for e.meaning)))
    ∙ sym (onward_cond _ (fits tape held (bytes_for e.meaning)) _ _)

-- behind a refusal nothing goes on
put_over : (more : ℕ → ℕ → ℕ → List ℕ → Put) (number : ℕ) (values : List ℕ) (place : ℕ) (es : List Stated) (left held : ℕ) (tape : List ℕ)
    → onward more (put_all (refused number values place) left held tape es) ≡ put_all (refused number values place) left held tape es
unfolding put_all onward on_reach reach_of
put_over more number values place [] left held tape = refl
put_over more number values place (e ∷ es) zero held tape = refl
put_over more number values place (e ∷ es) (suc left) held tape =
    onward_cond more (fits tape held (bytes_for e.meaning)) _ _
    ∙ ap (λ (x : Put). cond (fits tape held (bytes_for e.meaning)) x (put (refused_with 27 [] held) held tape))
    (put_over more number values place es left (held + length (bytes_for e.meaning)) (sets tape held (bytes_for e.meaning)))

-- what is put with one place sought last, and with another
going_place : (p : ℕ) (q : ℕ) (more : ℕ → ℕ → ℕ → List ℕ → Put) (es : List Stated) (left held : ℕ) (tape : List ℕ)
    → onward more (put_all (done p) left held tape es) ≡ onward (λ x l h t. more p l h t) (put_all (done q) left held tape es)
unfolding put_all onward on_reach reach_of
going_place p q more [] left held tape = refl
going_place p q more (e ∷ es) zero held tape = refl
going_place p q more (e ∷ es) (suc left) held tape =
    onward_cond more (fits tape held (bytes_for e.meaning)) _ _
    ∙ ap (λ (x : Put). cond (fits tape held (bytes_for e.meaning)) x (put (refused_with 27 [] held) held tape))
    (going_place p q more es left (held + length (bytes_for e.meaning)) (sets tape held (bytes_for e.meaning)))
    ∙ sym (onward_cond (λ x l h t. more p l h t) (fits tape held (bytes_for e.meaning)) _ _)

-- one thing after another
pub say_followed : (left held : ℕ) (tape : List ℕ) (x : Says) (more : ℕ → Says)
    → say_onto left held tape (followed x more) ≡ onward (λ p l h t. say_onto l h t (more p)) (say_onto left held tape x)
unfolding say_onto followed on
say_followed left held tape x more = go x.events x.ending
  where
    go : (es : List Stated) (e : End) → say_onto left held tape (on es e more) ≡ onward (λ p l h t. say_onto l h t (more p)) (put_all e left held tape es)
    go es (done place) =
        put_append (more place).ending place (more place).events es left held tape
        ∙ sym (going_place place place (λ p l h t. say_onto l h t (more p)) es left held tape)
    go es (refused number values place) = sym (put_over (λ p l h t. say_onto l h t (more p)) number values place es left held tape)

module _ (left held : ℕ) (tape : List ℕ) (x : Says) (more : ℕ → Says) where
  -- the first goes on, and then the second
  pub followed_on : (p l h : ℕ) (t : List ℕ) → say_onto left held tape x ≡ put (going p l) h t → say_onto left held tape (followed x more) ≡ say_onto l h t (more p)
  unfolding onward on_reach
  followed_on p l h t e = say_followed left held tape x more ∙ ap (onward (λ p l h t. say_onto l h t (more p))) e

  -- or it is over
  pub followed_over : (a : Last) (h : ℕ) (t : List ℕ) → say_onto left held tape x ≡ put (over a) h t → say_onto left held tape (followed x more) ≡ put (over a) h t
  unfolding onward on_reach
  followed_over a h t e = say_followed left held tape x more ∙ ap (onward (λ p l h t. say_onto l h t (more p))) e

-- the elements of a container in turn, and what follows them
module _ (left held : ℕ) (tape : List ℕ) (object : ℕ → ℕ → Says) (place m : ℕ) (ms : List ℕ) (last : ℕ → Says) where
  pub each_on : (p l h : ℕ) (t : List ℕ) → say_onto left held tape (object place m) ≡ put (going p l) h t
      → say_onto left held tape (followed (each_of object place (m ∷ ms)) last) ≡ say_onto l h t (followed (each_of object p ms) last)
  unfolding each_of
  each_on p l h t e =
      say_followed left held tape (each_of object place (m ∷ ms)) last
      ∙ ap (onward (λ p l h t. say_onto l h t (last p))) (followed_on left held tape (object place m) (λ q. each_of object q ms) p l h t e)
      ∙ sym (say_followed l h t (each_of object p ms) last)

  pub each_over : (a : Last) (h : ℕ) (t : List ℕ) → say_onto left held tape (object place m) ≡ put (over a) h t
      → say_onto left held tape (followed (each_of object place (m ∷ ms)) last) ≡ put (over a) h t
  unfolding each_of onward on_reach
  each_over a h t e =
      say_followed left held tape (each_of object place (m ∷ ms)) last
      ∙ ap (onward (λ p l h t. say_onto l h t (last p))) (followed_over left held tape (object place m) (λ q. each_of object q ms) a h t e)

-- behind the last element
pub each_last : (left held : ℕ) (tape : List ℕ) (object : ℕ → ℕ → Says) (place : ℕ) (last : ℕ → Says) → say_onto left held tape (followed (each_of object place []) last) ≡ say_onto left held tape (last place)
unfolding each_of followed on
each_last left held tape object place last = refl
