-- An event that is known whole without bytes of data or text; a date's bits are a date's.
use Rattle.std.specs.Prelude.{true, ◌≡◌}
use Rattle.event.specs.Date.{is_date}
use Rattle.event.specs.declared.Event.{Event}
use Rattle.event.specs.declared.Event.TheVariants.{StartArray, StartDictionary, EndCollection, Boolean, Data, Date, Integer, Real, Nan, String, Uid}

abbrev pub Bare : Event → Type 0
Bare (StartArray n) = Unit {0}
Bare (StartDictionary n) = Unit {0}
Bare EndCollection = Unit {0}
Bare (Boolean b) = Unit {0}
Bare Data = ⊥
Bare (Date b) = is_date b ≡ true
Bare (Integer i) = Unit {0}
Bare (Real x) = Unit {0}
Bare (Nan b) = Unit {0}
Bare String = ⊥
Bare (Uid n) = Unit {0}
