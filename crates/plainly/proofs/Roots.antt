-- The whole file: its trailer, then its root.
use mathlib.Core.List.{List, []}
use mathlib.Core.Path.{◌≡◌, sym, ap, ◌∙◌}
use Rattle.std.specs.Prelude.{Result, Ok, Err}
use Prim.Native.Nat.{ℕ}
use Rattle.event.specs.Format.{max_open}
use Rattle.layout.specs.Said.{trailer_said}
use Rattle.layout.specs.Trailer.{Trailer, lays, trailer_in}
use Rattle.layout.specs.declared.layout.Layout.{Layout}
use Rattle.layout.specs.declared.trailer.TrailerRead.{TrailerRead}
use Rattle.layout.specs.declared.trailer.TrailerRead.TheVariants.{Lays}
use Rattle.plainly.specs.Plain.{whole, stopped, Put, plainly, last_of, closing, say_onto, plain_tape}
use Rattle.plainly.specs.PlainLaws.{refused_said}
use Rattle.plainly.specs.Said.{ending_said, went_said}
use Rattle.plainly.specs.Says.{refusal, object_says, trailer_says, file_says}
use Rattle.plainly.specs.declared.Far.{Far}
use Rattle.plainly.specs.declared.Reading.{Reading}

-- what came of the root
module _ (r : Result Far Reading) (t : List ℕ) (x : Put) (h : went_said r t ≡ x) where
  pub root_on : (f : Far) → r ≡ Ok f → plainly whole f.held t ≡ closing x
  unfolding went_said closing last_of
  root_on f e = ap (λ (w : Result Far Reading). closing (went_said w t)) (sym e) ∙ ap closing h

  pub root_over : (y : Reading) → r ≡ Err y → plainly (ending_said y.ending) y.held t ≡ closing x
  unfolding went_said closing last_of
  root_over y e = ap (λ (w : Result Far Reading). closing (went_said w t)) (sym e) ∙ ap closing h

module _ (budget : ℕ) (file tape : List ℕ) where
  -- a trailer that is refused
  pub file_refused : (x : Reading) (number : ℕ) (values : List ℕ) (place : ℕ) → trailer_says file (trailer_in file) ≡ refusal number values place
      → ending_said x.ending ≡ stopped number values place → x.held ≡ 0 → plainly (ending_said x.ending) x.held tape ≡ plain_tape budget file tape
  unfolding plain_tape file_says closing last_of
  file_refused x number values place k e z = rw (k, e, z) (ap closing (sym (refused_said budget 0 tape number values place)))

  module _ (r : TrailerRead) (h : trailer_said r ≡ trailer_in file) where
    pub trailer_refused : (t : Trailer) → trailer_said r ≡ t → trailer_says file (trailer_in file) ≡ trailer_says file t
    trailer_refused t e = ap (trailer_says file) (sym h ∙ e)

    pub file_lays : (l : Layout) (root : ℕ) → r ≡ Lays l root → closing (say_onto budget 0 tape (object_says file l max_open [] l.table root)) ≡ plain_tape budget file tape
    unfolding plain_tape file_says trailer_says trailer_said
    file_lays l root e =
        let k : trailer_in file ≡ lays l root = sym h ∙ ap trailer_said e in
        rw k
