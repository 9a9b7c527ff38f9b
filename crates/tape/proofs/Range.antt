-- What an event that code holds means is in range: its numbers have 64 bits. `Is (row the_type) e vs` is what owning the event tells.
use Rattle.std.specs.Prelude.{None, Some}
use mathlib.Core.Bool.{Bool, true, false}
use mathlib.Core.List.{List}
use mathlib.Core.Path.{◌≡◌, refl}
use Prim.Native.Nat.{ℕ, ◌<◌, ◌^◌}
use native.Mathlib.Omega.{arith}
use borrow.Author.Rules.{rules}
use denote.Enum.Declared.{row}
use denote.Laws.{Is}
use lib.Dec.{T}
use lib.Ieee.{Float, binary64, fits, is_nan}
use lib.Ieee.Bits.{to_bits-lt}
use lib.IntN.{pos, negsuc}
use lib.ListN.{length}
use mir.Val.{Val}
use Rattle.event.specs.contracts.Event.{the_type}
use Rattle.event.specs.Meaning.{meaning_of, value_of}
use Rattle.event.specs.Real.{float_bits}
use Rattle.event.specs.declared.Event.{Event}
use Rattle.event.specs.declared.Event.TheVariants.{StartArray, StartDictionary, EndCollection, Boolean, Data, Date, Integer, Real, Nan, String, Uid}
use Rattle.event.specs.declared.Integer.TheVariants.{Signed, Unsigned}
use Rattle.tape.specs.Code.{InRange}

-- a float's bits are 64
bits_below : (x : Float) → T (fits binary64 x) → float_bits x < 2 ^ 64
unfolding float_bits
bits_below x h = go (is_nan x) refl
  where
    go : (b : Bool) → is_nan x ≡ b → float_bits x < 2 ^ 64
    go true e = rw e (omega arith)
    go false e = rw e (to_bits-lt binary64 x h)

-- `s` are the bytes beside it
pub in_range_law : (e : Event) (s : List ℕ) (vs : List Val) → Is (row the_type) e vs → length s < 2 ^ 64 → InRange (meaning_of e s)
unfolding meaning_of value_of
in_range_law (StartArray (Some n)) s vs h k = search rules
in_range_law (StartArray None) s vs h k = tt
in_range_law (StartDictionary (Some n)) s vs h k = search rules
in_range_law (StartDictionary None) s vs h k = tt
in_range_law EndCollection s vs h k = tt
in_range_law (Boolean b) s vs h k = tt
in_range_law Data s vs h k = k
in_range_law (Date b) s vs h k = search rules
in_range_law (Integer (Signed (pos n))) s vs h k = search rules
in_range_law (Integer (Signed (negsuc n))) s vs h k = search rules
in_range_law (Integer (Unsigned n)) s vs h k = search rules
in_range_law (Real x) s vs h k = bits_below x (search rules)
in_range_law (Nan b) s vs h k = search rules
in_range_law String s vs h k = k
in_range_law (Uid n) s vs h k = search rules
