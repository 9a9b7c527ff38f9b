-- `put_scalar` stores the bytes of the definition, one store after another.
use mathlib.Core.Path.{◌≡◌, refl, ap}
use mathlib.Core.List.{[], ◌∷◌}
use Prim.Native.Nat.{◌+◌, ◌/◌, ◌%◌}
use native.Mathlib.Numerals.{add-one, add-two, add-three}
use native.Mathlib.Omega.{arith}
use lib.ListN.{length, length-set}
use Rattle.utf.specs.Unicode.{utf8_of}
use Rattle.utf.specs.ScalarLaws.{utf8_one, utf8_two, utf8_three, utf8_four}
use Rattle.utf.proofs.utf16.put_scalar.Goals as goal

-- the bytes in each branch
one : (c : goal.Then-v-lt128) → utf8_of c.args.v ≡ c.args.v ∷ []
one c = utf8_one c.args.v c.if-v-lt128.true

two : (c : goal.Then-v-lt2048) → utf8_of c.args.v ≡ (0xC0 + c.args.v / 0x40) ∷ (0x80 + c.args.v % 0x40) ∷ []
two c = utf8_two c.args.v c.if-v-lt128.false c.if-v-lt2048.true

three : (c : goal.Then-v-lt65536) → utf8_of c.args.v ≡ (0xE0 + c.args.v / 0x1000) ∷ (0x80 + c.args.v / 0x40 % 0x40) ∷ (0x80 + c.args.v % 0x40) ∷ []
three c = utf8_three c.args.v c.if-v-lt2048.false c.if-v-lt65536.true

four : (c : goal.Else-v-lt65536) → utf8_of c.args.v ≡ (0xF0 + c.args.v / 0x40000) ∷ (0x80 + c.args.v / 0x1000 % 0x40) ∷ (0x80 + c.args.v / 0x40 % 0x40) ∷ (0x80 + c.args.v % 0x40) ∷ []
four c = utf8_four c.args.v c.if-v-lt65536.false

pub bounds-out-at : goal.bounds-out-at
bounds-out-at c = let e = ap length (one c) in omega arith

pub returns-then-v-lt128 : goal.returns-then-v-lt128
returns-then-v-lt128 c = rw (one c) (record { value = refl; out_after = refl })

pub bounds-out-at-then-v-lt2048 : goal.bounds-out-at-then-v-lt2048
bounds-out-at-then-v-lt2048 c = let e = ap length (two c) in omega arith

pub bounds-out-at-then-v-lt2048-2 : goal.bounds-out-at-then-v-lt2048-2
bounds-out-at-then-v-lt2048-2 c = let e = ap length (two c) in simp length-set (omega arith)

pub returns-then-v-lt2048 : goal.returns-then-v-lt2048
returns-then-v-lt2048 c = rw (two c, add-one) (record { value = refl; out_after = refl })

pub bounds-out-at-then-v-lt65536 : goal.bounds-out-at-then-v-lt65536
bounds-out-at-then-v-lt65536 c = let e = ap length (three c) in omega arith

pub bounds-out-at-then-v-lt65536-2 : goal.bounds-out-at-then-v-lt65536-2
bounds-out-at-then-v-lt65536-2 c = let e = ap length (three c) in simp length-set (omega arith)

pub bounds-out-at-then-v-lt65536-3 : goal.bounds-out-at-then-v-lt65536-3
bounds-out-at-then-v-lt65536-3 c = let e = ap length (three c) in simp length-set (omega arith)

pub returns-then-v-lt65536 : goal.returns-then-v-lt65536
returns-then-v-lt65536 c = rw (three c, add-one, add-two) (record { value = refl; out_after = refl })

pub bounds-out-at-2 : goal.bounds-out-at-2
bounds-out-at-2 c = let e = ap length (four c) in omega arith

pub bounds-out-at-3 : goal.bounds-out-at-3
bounds-out-at-3 c = let e = ap length (four c) in simp length-set (omega arith)

pub bounds-out-at-4 : goal.bounds-out-at-4
bounds-out-at-4 c = let e = ap length (four c) in simp length-set (omega arith)

pub bounds-out-at-5 : goal.bounds-out-at-5
bounds-out-at-5 c = let e = ap length (four c) in simp length-set (omega arith)

pub returns : goal.returns
returns c = rw (four c, add-one, add-two, add-three) (record { value = refl; out_after = refl })
