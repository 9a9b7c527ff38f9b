-- What the answers say in the numbers, values and places of docs/FORMAT.md, N.
use Rattle.std.specs.Prelude.{List, [], ℕ}
use Rattle.layout.specs.Bytes.{Asked, in_file, in_utf16, no_bytes, denied}
use Rattle.layout.specs.Said.{number_of as file_number, values_of as file_values}
use Rattle.reader.specs.Machine.{Said, event, ended, refused, Step}
use Rattle.reader.specs.Request.{TextSaid, long, refusing}
use Rattle.reader.specs.declared.answer.Answer.{Answer}
use Rattle.reader.specs.declared.answer.Answer.TheVariants.{Handed, Ended, Refused}
use Rattle.reader.specs.declared.answer.Stepped.{Stepped}
use Rattle.reader.specs.declared.refusal.Refusal.{Refusal}
use Rattle.reader.specs.declared.refusal.Refusal.TheVariants.{File, RecursiveObject, TooDeep, NoRoomForText, WrongFile}
use Rattle.reader.specs.declared.request.Asked.{Asked as AskedRead}
use Rattle.reader.specs.declared.request.Asked.TheVariants.{InFile, InUtf16, NoBytes, Denied}
use Rattle.reader.specs.declared.request.TextLength.{TextLength}
use Rattle.reader.specs.declared.request.TextLength.TheVariants.{Length}
use Rattle.reader.specs.declared.request.TextLength.TheVariants as text

-- the file's refusals, and the reader's own
unfoldable pub number_of : Refusal → ℕ
number_of (File r) = file_number r
number_of RecursiveObject = 14
number_of TooDeep = 15
number_of NoRoomForText = 16
number_of WrongFile = 17

unfoldable pub values_of : Refusal → List ℕ
values_of (File r) = file_values r
values_of RecursiveObject = []
values_of TooDeep = []
values_of NoRoomForText = []
values_of WrongFile = []

unfoldable pub said : Answer → Said
said (Handed r) = event r
said Ended = ended
said (Refused r place) = refused (number_of r) (values_of r) place

unfoldable pub step_said : Stepped → Step
step_said s = record { state = s.reader; answer = said s.answer }

unfoldable pub text_said : TextLength → TextSaid
text_said (Length n) = long n
text_said (text.Refused r place) = refusing (number_of r) (values_of r) place

unfoldable pub asked_said : AskedRead → Asked
asked_said (InFile p) = in_file p.start p.length
asked_said (InUtf16 p) = in_utf16 p.start p.length
asked_said NoBytes = no_bytes
asked_said (Denied r) = denied (number_of r) (values_of r)
