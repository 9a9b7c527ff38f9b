-- The numbers with which a reader refuses: a step's, those that end it, and a request's too. The reader's own are 14 to 17 (docs/FORMAT.md,
-- table N).
use Rattle.std.specs.Prelude.{true, false, List, ◌∷◌, ◌≡◌, refl, ℕ}
use Rattle.number.specs.Among.{among, among_more}
use Rattle.object.specs.Refusal.{object_refusals}
use Rattle.layout.specs.Refusals.{look_refusals, file_refusals}

-- a step's, but for 17: those of the file, 14 and 15
unfoldable pub step_refusals : List ℕ
step_refusals = 14 ∷ 15 ∷ file_refusals

pub step_refusal : (n : ℕ) → among file_refusals n ≡ true → among step_refusals n ≡ true
unfolding step_refusals
step_refusal n h = among_more 14 _ n (among_more 15 _ n h)

-- those that end a reader: an object's, a reference's, 14 and 15
unfoldable pub end_refusals : List ℕ
end_refusals = 14 ∷ 15 ∷ look_refusals

-- a call's and a request's
unfoldable pub read_refusals : List ℕ
read_refusals = 16 ∷ 17 ∷ step_refusals

pub read_refusal : (n : ℕ) → among file_refusals n ≡ true → among read_refusals n ≡ true
unfolding read_refusals
read_refusal n h = among_more 16 _ n (among_more 17 _ n (step_refusal n h))

-- 14 and 15 are none of the file's
pub not_file_14 : among file_refusals 14 ≡ false
unfolding file_refusals look_refusals object_refusals among
not_file_14 = refl

pub not_file_15 : among file_refusals 15 ≡ false
unfolding file_refusals look_refusals object_refusals among
not_file_15 = refl

-- 16 and 17 are no step's of its own, nor are 20 and 27, which are the tape's
pub not_step_16 : among step_refusals 16 ≡ false
unfolding step_refusals file_refusals look_refusals object_refusals among
not_step_16 = refl

pub not_step_17 : among step_refusals 17 ≡ false
unfolding step_refusals file_refusals look_refusals object_refusals among
not_step_17 = refl

pub not_step_20 : among step_refusals 20 ≡ false
unfolding step_refusals file_refusals look_refusals object_refusals among
not_step_20 = refl

pub not_step_27 : among step_refusals 27 ≡ false
unfolding step_refusals file_refusals look_refusals object_refusals among
not_step_27 = refl
