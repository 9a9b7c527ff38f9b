-- `units_from`: the bounds that a byte is above, counted, are what it adds.
use mathlib.Core.Path.{◌≡◌}
use Prim.Native.Nat.{ℕ, ◌+◌, ◌≤◌}
use native.Mathlib.Decide.{dec_lt}
use native.Mathlib.Omega.{arith}
use borrow.Author.Tests.{lt-ltb, le-ltb, lt-leb, le-leb}
use lib.Dec.{ltb, leb}
use mir.Val.{bool_byte}
use Rattle.utf.specs.ToUtf16.{units_from}
use Rattle.utf.proofs.to_utf16.units_from.Goals as goal

sum : (b : ℕ) → bool_byte (ltb b 0x80) + bool_byte (leb 0xC0 b) + bool_byte (leb 0xF0 b) ≡ units_from b
unfolding units_from
sum b =
    elim (dec_lt b 0x80) [
      | yes p ↦ rw (lt-ltb b 0x80 p, lt-leb 0xC0 b (omega arith), lt-leb 0xF0 b (omega arith))
      | no p ↦
          let l : 0x80 ≤ b = omega arith in
          elim (dec_lt b 0xC0) [
            | yes q ↦ rw (le-ltb b 0x80 l, lt-ltb b 0xC0 q, lt-leb 0xC0 b q, lt-leb 0xF0 b (omega arith))
            | no q ↦
                let m : 0xC0 ≤ b = omega arith in
                elim (dec_lt b 0xF0) [
                  | yes r ↦ rw (le-ltb b 0x80 l, le-ltb b 0xC0 m, lt-ltb b 0xF0 r, le-leb 0xC0 b m, lt-leb 0xF0 b r)
                  | no r ↦
                      let n : 0xF0 ≤ b = omega arith in
                      rw (le-ltb b 0x80 l, le-ltb b 0xC0 m, le-ltb b 0xF0 n, le-leb 0xC0 b m, le-leb 0xF0 b n)
                ]
          ]
    ]

pub returns : goal.returns
returns c = sum c.args.b
