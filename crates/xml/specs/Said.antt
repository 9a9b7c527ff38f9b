-- What an answer says in the numbers of docs/FORMAT.md, N.
use Rattle.std.specs.Prelude.{[], ℕ}
use Rattle.grammar.specs.Said.{number_of, kinds_of}
use Rattle.xml.specs.Write.{Said, long, refused}
use Rattle.xml.specs.declared.answer.Answer.{Answer}
use Rattle.xml.specs.declared.answer.Answer.TheVariants.{Length, Refused, Barred, NoRoom}
use Rattle.xml.specs.declared.answer.Bar.{Bar}
use Rattle.xml.specs.declared.answer.Bar.TheVariants.{NoElement, NoCharacter, NoDay}

unfoldable pub bar_number : Bar → ℕ
bar_number NoElement = 35
bar_number NoCharacter = 36
bar_number NoDay = 30

unfoldable pub answer_said : Answer → Said
answer_said (Length n) = long n
answer_said (Refused r place) = refused (number_of r) (kinds_of r) place
answer_said (Barred b place) = refused (bar_number b) [] place
answer_said NoRoom = refused 25 [] 0
