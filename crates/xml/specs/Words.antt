-- The fixed bytes of the XML. docs/FORMAT.md, X1 and X2.
use Rattle.std.specs.Prelude.{List, ◌++◌, ℕ}
use Rattle.digits.specs.Ascii.{ascii}

unfoldable pub declaration : List ℕ
declaration = ascii "<?xml version=\"1.0\" encoding=\"UTF-8\"?>\n"

unfoldable pub doctype : List ℕ
doctype = ascii "<!DOCTYPE plist PUBLIC \"-//Apple//DTD PLIST 1.0//EN\" \"http://www.apple.com/DTDs/PropertyList-1.0.dtd\">\n"

unfoldable pub plist : List ℕ
plist = ascii "<plist version=\"1.0\">\n"

unfoldable pub header : List ℕ
header = declaration ++ (doctype ++ plist)

unfoldable pub footer : List ℕ
footer = ascii "</plist>\n"

-- the names of elements
abbrev pub word_array : List ℕ
word_array = ascii "array"

abbrev pub word_dict : List ℕ
word_dict = ascii "dict"

abbrev pub word_true : List ℕ
word_true = ascii "true"

abbrev pub word_false : List ℕ
word_false = ascii "false"

abbrev pub word_integer : List ℕ
word_integer = ascii "integer"

abbrev pub word_date : List ℕ
word_date = ascii "date"

abbrev pub word_data : List ℕ
word_data = ascii "data"

abbrev pub word_string : List ℕ
word_string = ascii "string"

abbrev pub word_key : List ℕ
word_key = ascii "key"

-- the names of entities
abbrev pub word_amp : List ℕ
word_amp = ascii "amp"

abbrev pub word_lt : List ℕ
word_lt = ascii "lt"

abbrev pub word_gt : List ℕ
word_gt = ascii "gt"
