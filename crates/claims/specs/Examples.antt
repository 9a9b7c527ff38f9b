-- The claims are about something. The references of an array and of a dictionary; P12, an array that holds itself, is opened, refused with 14 at place 8, and has ended.
use Rattle.std.specs.Prelude.{List, [], ◌∷◌, ◌++◌, map, ◌≡◌, refl, ℕ, replicate, Some}
use Rattle.number.specs.Be.{bytes_of}
use Rattle.number.specs.declared.width.Width.TheVariants.{One}
use Rattle.event.specs.Format.{magic}
use Rattle.event.specs.declared.Event.TheVariants.{StartArray}
use Rattle.layout.specs.References.{references}
use Rattle.reader.specs.Calls.{runs, answer_of}
use Rattle.reader.specs.Computed.{computed}
use Rattle.reader.specs.Machine.{origin, event_at, ended, refused}

-- the object `A1 00` at 8, as object 0; its entry at 10; the trailer
unfoldable pub itself : List ℕ
itself = magic ++ (0xA1 ∷ 0x00 ∷ 0x08 ∷ 0 ∷ 0 ∷ 0 ∷ 0 ∷ 0 ∷ 0 ∷ 1 ∷ 1 ∷ []) ++ bytes_of 8 1 ++ bytes_of 8 0 ++ bytes_of 8 10

pub answers : (answer_of itself 0 ≡ event_at (StartArray (Some 1)) (origin 0 8)) × ((answer_of itself 1 ≡ refused 14 [] 8) × (answer_of itself 2 ≡ ended))
unfolding computed itself runs answer_of
answers = (refl, (refl, refl))

-- `A3 01 02 01`, and `D2 01 02 03 04`: two keys, then their values; nothing where no container stands
pub listed :
    map (λ (s : List ℕ). references (magic ++ s ++ replicate 32 0) One 8) ((0xA3 ∷ 1 ∷ 2 ∷ 1 ∷ []) ∷ (0xD2 ∷ 1 ∷ 2 ∷ 3 ∷ 4 ∷ []) ∷ (0x10 ∷ 1 ∷ []) ∷ []) ≡
    (1 ∷ 2 ∷ 1 ∷ []) ∷ (1 ∷ 3 ∷ 2 ∷ 4 ∷ []) ∷ [] ∷ []
unfolding computed
listed = refl
